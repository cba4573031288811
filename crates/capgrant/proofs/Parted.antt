-- A grant allows where the rules that look at no access don't fail, and those that look at it don't either.
use Rattle.std.proofs.Common.{◌≡◌, Bool, true, false, not, ◌&&◌, Option, Some, is_none, find, cond, refl}
use Rattle.capspec.specs.declared.grant.Grant.{Grant}
use Rattle.capgrant.specs.declared.rule.Rule.{Rule}
use Rattle.capgrant.specs.declared.rule.Rule.TheVariants as rule
use Rattle.capgrant.specs.Question.{Question}
use Rattle.capgrant.specs.Rule.{access_rules}
use Rattle.capgrant.specs.Failing.{fails, fails_fsname, fails_gids, fails_path, fails_uid, first_failing}
use Rattle.capgrant.specs.Verdict.{allows, may_allow}

parted : (fs uid gids path : Bool) (rest : Option Rule) → is_none (cond fs (Some rule.FsName) (cond uid (Some rule.Uid) (cond gids (Some rule.Gids) (cond path (Some rule.Path) rest)))) ≡ ((not path && (not fs && (not uid && not gids))) && is_none rest)
parted true uid gids true rest = refl
parted true uid gids false rest = refl
parted false true gids true rest = refl
parted false true gids false rest = refl
parted false false true true rest = refl
parted false false true false rest = refl
parted false false false true rest = refl
parted false false false false rest = refl

pub allows_parted : (q : Question) (g : Grant) → allows q g ≡ (may_allow q g && is_none (find (λ r. fails r q g) access_rules))
unfolding first_failing
allows_parted q g = parted (fails_fsname q g) (fails_uid q g) (fails_gids q g) (fails_path q g) (find (λ r. fails r q g) access_rules)
