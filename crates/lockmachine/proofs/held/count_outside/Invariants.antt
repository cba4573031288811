use Rattle.std.proofs.Common.{◌≡◌, ◌+◌, ◌≤◌, filter, length}
use Rattle.lockmachine.specs.Held.{has_outside}
use Rattle.lockmachine.proofs.held.count_outside.Given as goal

abbrev pub decreases-rows : goal.decreases-rows
decreases-rows l = length l.walk

abbrev pub invariant-rows : goal.invariant-rows
invariant-rows l = (l.count + length (filter (has_outside l.part l.state) l.walk) ≡ length (filter (has_outside l.part l.state) l.initial.walk))
    × (l.count + length l.walk ≤ length l.initial.walk)
