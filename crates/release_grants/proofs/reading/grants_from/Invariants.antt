use Rattle.std.proofs.Common.{◌≡◌, ◌∷◌, [], length}
use Rattle.release_grants.specs.Reading.{more_grants}
use Rattle.release_grants.proofs.reading.grants_from.Given as goal

abbrev pub invariant-loop-count : goal.invariant-loop-count
invariant-loop-count l = more_grants l.switches l.count l.grants l.rest ≡ more_grants l.switches (length l.text) (l.fn.first ∷ []) l.text

abbrev pub decreases-loop-count : goal.decreases-loop-count
decreases-loop-count l = l.count
