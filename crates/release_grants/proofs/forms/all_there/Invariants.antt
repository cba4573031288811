use Rattle.std.proofs.Common.{◌≡◌, map, take}
use Rattle.release_grants.specs.Written.{as_there}
use Rattle.release_grants.proofs.forms.all_there.Given as goal

abbrev pub invariant-loop-grant : goal.invariant-loop-grant
invariant-loop-grant l = l.there ≡ map as_there (take l.grant-index l.grants)
