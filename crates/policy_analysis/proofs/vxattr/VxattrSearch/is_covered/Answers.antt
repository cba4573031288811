use Rattle.std.proofs.Common.{◌≡◌, ℕ, Option, Some, None, List, sym, ◌∙◌}
use Rattle.std.specs.Prelude.{is_some, position}
use Rattle.capspec.specs.declared.grant.Grant.{Grant}
use Rattle.capgrant.specs.Question.{Question}
use Rattle.capgrant.specs.Verdict.{allows, granted}
use Rattle.capgrant.proofs.Verdicts.{granted_nowhere, granted_somewhere}
use Rattle.policy_analysis.proofs.vxattr.VxattrSearch.is_covered.Goals as goal

where_first : (q : Question) (grants : List Grant) (place : Option ℕ) → position (allows q) grants ≡ place → is_some place ≡ granted q grants
where_first q grants (Some i) is = granted_somewhere q grants i is
where_first q grants None is = granted_nowhere q grants is

pub returns : goal.returns
returns c = c.is_some.ensures ∙ where_first _ c.args.self.now.old.now c.first_allowing.result (sym c.first_allowing.ensures)
