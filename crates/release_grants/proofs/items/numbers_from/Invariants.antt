use Rattle.std.proofs.Common.{◌≡◌, ◌∷◌, [], length}
use Rattle.release_grants.specs.Items.{more_numbers}
use Rattle.release_grants.proofs.items.numbers_from.Given as goal

abbrev pub invariant-loop-count : goal.invariant-loop-count
invariant-loop-count l = more_numbers l.count l.gids l.rest ≡ more_numbers (length l.text) (l.first ∷ []) l.text

abbrev pub decreases-loop-count : goal.decreases-loop-count
decreases-loop-count l = l.count
