use Rattle.std.proofs.Common.{◌≡◌}
use Rattle.std.specs.List.{find}
use Rattle.lockmachine.specs.Policy.{ArePermitted}
use Rattle.lockmachine.specs.Scene.{scene_by}
use Rattle.lockmachine.specs.Moves.{lock_ids, may_begin}
use Rattle.lockmachine.specs.Cursors.{begin_or_rest}
use Rattle.lockmachine.proofs.LockIds.{lock_ids_in}
use Rattle.lockmachine.proofs.locks.Locks.first_begin_of_all.Given as goal

abbrev pub invariant-loop-number : goal.invariant-loop-number
invariant-loop-number l =
    let s = scene_by l.policy l.table.entries l.self.locks in
    ArePermitted l.table.kept l.policy.fs.now l.policy.tree.now l.policy.sessions.now l.table.entries
    → begin_or_rest s (find (may_begin s) (lock_ids_in l.number-iterator)) ≡ begin_or_rest s (find (may_begin s) (lock_ids l.self.locks))
