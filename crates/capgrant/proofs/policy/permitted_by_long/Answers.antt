use Rattle.std.proofs.Common.{sym, subst, ap, map, ◌∙◌}
use Rattle.capspec.specs.SharedPrefix.{AreSharedPrefixes}
use Rattle.capgrant.specs.Question.{Question}
use Rattle.capgrant.proofs.policy.permitted_by_long.Goals as goal

pub both_granted_by_prefixes-reads-requires-clause-shared_prefix : goal.both_granted_by_prefixes-reads-requires-clause-shared_prefix
both_granted_by_prefixes-reads-requires-clause-shared_prefix c =
    let names = map (λ name. name.now) c.args.path.now in
    subst (λ names. AreSharedPrefixes names c.as_slice-list.result.now c.deref.result.now) (sym (ap (λ (q : Question). q.path) c.asked-reading.ensures))
    (subst (λ grants. AreSharedPrefixes names grants c.deref.result.now) (sym (c.as_slice-list.ensures.same ∙ c.grants.ensures))
    (subst (λ shared_prefix. AreSharedPrefixes names c.args.grants.now shared_prefix) (sym c.deref.ensures.0) c.shared_prefixes-shared_prefix.ensures))
