use Rattle.std.proofs.Common.{◌≡◌, ◌∷◌, ◌+◌, ◌≤◌, length, sym, ap, ◌∙◌, arith}
use Rattle.std.proofs.lemmas.List.Sums.{count_by-le-length, length-filter}
use Rattle.captable.specs.Calls.{is_of_inode}
use Rattle.lockmachine.proofs.held.count_outside.Goals as goal

-- no more are counted than have an entry
pub overflow_add-count : goal.overflow_add-count
overflow_add-count c =
    let rows = c.args.table.now.entries.rows in
    let left : length c.rows.walk ≡ length (c.in-Some.row ∷ c.next.new.self) = ap length c.in-Some.ensures.some in
    let all = ap length c.holders_of-walk.ensures.rows in
    omega (arith, c.rows.invariant.1, left, all, length-filter (is_of_inode c.args.ino) rows, count_by-le-length (is_of_inode c.args.ino) rows, c.holders_of-walk.ensures.sound.room)
