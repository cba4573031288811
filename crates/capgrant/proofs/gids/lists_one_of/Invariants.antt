use Rattle.std.proofs.Common.{◌≡◌, false, take}
use Rattle.std.specs.List.{list_any}
use Rattle.capgrant.specs.Question.{contains}
use Rattle.capgrant.proofs.gids.lists_one_of.Given as goal

abbrev pub invariant-loop-gid : goal.invariant-loop-gid
invariant-loop-gid l = list_any (contains l.gids) (take l.gid-index l.listed) ≡ false
