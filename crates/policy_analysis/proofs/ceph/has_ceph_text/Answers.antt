use Rattle.std.proofs.Common.{ℕ, List, length, ap, ◌∙◌}
use Rattle.std.specs.Prelude.{◌==◌}
use Rattle.policy_analysis.proofs.CephTexts.{by_gids, by_squash}
use Rattle.policy_analysis.proofs.ceph.has_ceph_text.Goals as goal

pub returns-then-is_none : goal.returns-then-is_none
returns-then-is_none c = by_squash c.args.grant.now c.in-Some.field-0 c.is_none.result c.in-Some.is c.is_none.ensures c.if-is_none.true

pub returns-in-None : goal.returns-in-None
returns-in-None c = by_gids c.args.grant.now c.is_empty.result c.in-None.is (c.is_empty.ensures ∙ ap (λ (gids : List ℕ). length gids == 0) c.as_slice.ensures)
