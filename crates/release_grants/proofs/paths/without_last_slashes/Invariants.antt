use Rattle.std.proofs.Common.{◌≡◌, ◌≤◌, length, take}
use Rattle.release_grants.specs.Paths.{without_last_slashes}
use Rattle.release_grants.proofs.paths.without_last_slashes.Given as goal

abbrev pub invariant-loop-end : goal.invariant-loop-end
invariant-loop-end l = record { within : l.end ≤ length l.text; same : without_last_slashes (take l.end l.text) ≡ without_last_slashes l.text }

abbrev pub decreases-loop-end : goal.decreases-loop-end
decreases-loop-end l = l.end
