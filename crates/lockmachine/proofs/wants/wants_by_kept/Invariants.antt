use Rattle.std.proofs.Common.{◌≡◌, length}
use Rattle.std.proofs.Common.{map as each}
use Rattle.lockmachine.specs.Wants.{in_all, in_all_with}
use Rattle.lockmachine.proofs.KeptWants.{kept_want}
use Rattle.lockmachine.proofs.wants.wants_by_kept.Given as goal

abbrev pub decreases-entries : goal.decreases-entries
decreases-entries l = length l.walk

abbrev pub invariant-entries : goal.invariant-entries
invariant-entries l =
    let wants = each (kept_want l.policy.sessions.now) in
    in_all_with l.tally (wants l.walk) ≡ in_all (wants l.initial.walk)
