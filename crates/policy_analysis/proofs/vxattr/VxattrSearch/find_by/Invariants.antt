use Rattle.std.proofs.Common.{◌≡◌, true, [], ◌∷◌, take}
use Rattle.std.specs.Prelude.{All}
use Rattle.capgrant.specs.Verdict.{granted}
use Rattle.policy_analysis.specs.Vxattrs.{asks_own}
use Rattle.policy_analysis.proofs.vxattr.VxattrSearch.find_by.Given as goal

abbrev pub invariant-loop-own : goal.invariant-loop-own
invariant-loop-own l = All (λ own. granted (asks_own l.self.fs l.self.nobody l.grant (own ∷ [])) l.self.old.now ≡ true) (take l.own-index l.gids)
