use Rattle.std.proofs.Common.{◌≡◌, List, length, ap, sym, subst, ◌∙◌, true}
use Rattle.std.specs.Prelude.{IfSome}
use Rattle.capgrant.specs.declared.rule.Rule.{Rule}
use Rattle.std.proofs.lemmas.Bool.{both_ways}
use Rattle.capbits.specs.Caps.{Caps, has}
use Rattle.cluster_audit.specs.declared.findings.Denial.TheVariants.{Own}
use Rattle.cluster_audit.proofs.Missing.{found_exactly, nobody_may, none_beyond, to_nobody}
use Rattle.cluster_audit.proofs.findings.beyond.Goals as goal

pub returns-then-is_empty : goal.returns-then-is_empty
returns-then-is_empty c = λ cap own. none_beyond c.args.held c.permitted_to_some.result (sym c.minus-caps.ensures ∙ c.is_empty.ensures.none.0 c.if-is_empty.true) cap _ (c.permitted_to_some.ensures.exact cap) own

pub reasons-requires : goal.reasons-requires
reasons-requires c =
    nobody_may c.args.inode.now c.args.grants.now c.minus-caps.result c.least_access-missing.result c.least_access-missing.ensures
    (λ cap out. to_nobody c.args.inode.now c.args.grants.now c.args.held c.permitted_to_some.result c.permitted_to_some.ensures.at_all cap (ap (λ (s : Caps). has s cap) (sym c.minus-caps.ensures) ∙ out))

pub returns : goal.returns
returns c = record {
  caps = λ cap. found_exactly c.args.held c.permitted_to_some.result c.minus-caps.result cap _ c.minus-caps.ensures (c.permitted_to_some.ensures.exact cap);
  some = λ none. both_ways _ c.if-is_empty.false (c.is_empty.ensures.none.1 none);
  missing = c.least_access-missing.ensures;
  denial = ap Own c.reasons.ensures.exact;
  one_each = subst (λ (rules : List Rule). IfSome c.least_access-missing.result (λ access. length rules ≡ length c.args.grants.now)) c.reasons.ensures.exact c.reasons.ensures.one_each;
}
