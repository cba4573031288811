use Rattle.std.proofs.Common.{◌+◌, ◌-◌, ◌≤◌, ℕ, length, sym, ◌∙◌, arith}
use Rattle.capffi.proofs.Leads.{first_piece, last_piece, other_end}
use Rattle.capffi.proofs.given.is_same_at_ends.Goals as goal

pub returns-then-is_same_from : goal.returns-then-is_same_from
returns-then-is_same_from c =
    let place : ℕ = length c.args.other.now - c.args.last in
    let end : length c.args.other.now ≤ place + c.args.last = omega (arith, c.requires.back) in
    let before : place ≤ 0 + c.args.first = omega (arith, c.requires.whole) in
    let back = last_piece c.args.one.now c.args.other.now c.is_same_from.result place (place + c.args.last) c.requires.same end c.is_same_from.ensures in
    first_piece c.args.one.now c.args.other.now c.is_same_from-then-is_same_from.result place (0 + c.args.first) before (sym back ∙ c.if-is_same_from.true) c.is_same_from-then-is_same_from.ensures

pub returns-else-is_same_from : goal.returns-else-is_same_from
returns-else-is_same_from c =
    let place : ℕ = length c.args.other.now - c.args.last in
    let end : length c.args.other.now ≤ place + c.args.last = omega (arith, c.requires.back) in
    let back = last_piece c.args.one.now c.args.other.now c.is_same_from.result place (place + c.args.last) c.requires.same end c.is_same_from.ensures in
    c.if-is_same_from.false ∙ other_end c.args.one.now c.args.other.now place (sym back ∙ c.if-is_same_from.false)
