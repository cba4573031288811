use Rattle.std.proofs.Common.{◌≡◌, ◌∙◌, ℕ, List, Option, true, sym, ap, refl, rules}
use Rattle.std.specs.Prelude.{find}
use Rattle.capgrant.specs.Failing.{fails, first_failing}
use Rattle.capgrant.specs.declared.rule.Rule.{Rule}
use Rattle.capffi.specs.ByBlock.{open_rules, with_groups}
use Rattle.capffi.proofs.Entries.{alone_tells, openly}
use Rattle.capffi.proofs.judging.Case.fast_alone.Goals as goal

pub returns : goal.returns
returns c =
    let is_open : c.is_for_all.result ≡ true = search rules in
    let found : Option Rule = find (λ (r : Rule). fails r c.args.self.now c.split_grant-grant.result.0) open_rules in
    let fails = openly c.args.self.now c.split_grant-grant.result.0 found refl (c.is_for_all.ensures.uid is_open) (c.is_for_all.ensures.gids is_open) in
    λ (groups : List ℕ). alone_tells _ c.args.entries.now _ c.args.text.now found _ c.requires (ap (first_failing (with_groups c.args.self.now groups)) (sym c.split_grant-grant.ensures.grant) ∙ fails groups) c.number_alone.ensures
