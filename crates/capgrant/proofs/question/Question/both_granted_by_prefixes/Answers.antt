use Rattle.std.proofs.Common.{true, sym, ap, ◌∙◌}
use Rattle.capgrant.specs.Question.{Question}
use Rattle.capgrant.specs.Failing.{fails_fsname, fails_gids, fails_path, fails_uid}
use Rattle.capgrant.specs.Verdict.{allows, may_allow}
use Rattle.capgrant.proofs.Verdicts.{among_first}
use Rattle.capgrant.proofs.question.Question.both_granted_by_prefixes.Goals as goal

-- the rules that look at no access say the same to both
pub allows_passed-two-requires : goal.allows_passed-two-requires
unfolding fails_fsname fails_uid fails_gids fails_path
allows_passed-two-requires c = c.may_allow-passed.ensures ∙ ap (λ (q : Question). may_allow q c.index-grants-place.result) (sym c.requires.other)

pub returns-then-two-clause-one : goal.returns-then-two-clause-one
returns-then-two-clause-one c = sym (among_first (allows c.args.self.now) c.args.grants.now c.loop-place.place (sym c.loop-place.invariant.one ∙ c.if-one.true))

pub returns-then-two-clause-other : goal.returns-then-two-clause-other
returns-then-two-clause-other c = sym (among_first (allows c.args.other.now) c.args.grants.now c.loop-place.place (sym c.loop-place.invariant.two ∙ c.if-two.true))
