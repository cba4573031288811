-- Steps of loops over the grants of a client.
use Rattle.std.proofs.Common.{◌≡◌, ℕ, ◌+◌, ◌<◌, Option, Some, None, List, [], ◌∷◌, ◌++◌, length, take, drop, get_or, refl, sym, ap, ◌∙◌}
use Rattle.std.specs.List.{cons_option}
use Rattle.std.specs.Option.{option_to_list}
use Rattle.std.proofs.lemmas.List.{drop_more, take_more}
use Rattle.std.proofs.lemmas.List.Elements.{filter_map-append}
use Rattle.release_grants.specs.declared.grant.Grant.{Grant}
use Rattle.release_grants.specs.declared.switches.Switches.{Switches}
use Rattle.release_rules.specs.declared.rule.Rule.{Rule}
use Rattle.release_rules.specs.Clients.{decided, refused_behind}
use Rattle.release_rules.specs.Failing.{first_failing}
use Rattle.release_rules.specs.Question.{Question}
use Rattle.release_rules.specs.Verdicts.{first_failures}

-- ---- the rules that grants fail by

pub one_more_is : (sw : Switches) (q : Question) (grants : List Grant) (i : ℕ) (g : Grant) (failing : Option Rule) (before after : List Rule) → i < length grants → g ≡ get_or grants i g → failing ≡ first_failing sw q g
    → before ≡ first_failures sw q (take i grants) → after ≡ before ++ option_to_list failing → after ≡ first_failures sw q (take (i + 1) grants)
one_more_is sw q grants i g failing before after within is fails so_far more =
    more ∙ ap (λ (rules : List Rule). rules ++ option_to_list failing) so_far ∙ ap (λ (f : Option Rule). first_failures sw q (take i grants) ++ option_to_list f) fails ∙ ap (λ (rules : List Rule). first_failures sw q (take i grants) ++ rules) (of_one (first_failing sw q g))
    ∙ sym (filter_map-append (first_failing sw q) (take i grants) (g ∷ []))
    ∙ sym (ap (first_failures sw q) (take_more grants i g within ∙ ap (λ (x : Grant). take i grants ++ x ∷ []) (sym is)))
  where
    of_one : (f : Option Rule) → option_to_list f ≡ cons_option f []
    of_one None = refl
    of_one (Some rule) = refl

-- ---- the refusal of a client

pub one_more_decides : (sw : Switches) (q : Question) (grants : List Grant) (i : ℕ) (g : Grant) (before : Option ℕ) → i < length grants → g ≡ get_or grants i g
    → refused_behind sw q (i + 1) (decided sw q (i + 1) before g) (drop (i + 1) grants) ≡ refused_behind sw q i before (drop i grants)
one_more_decides sw q grants i g before within is =
    sym (ap (refused_behind sw q i before) (drop_more grants i g within) ∙ ap (λ (x : Grant). refused_behind sw q (i + 1) (decided sw q (i + 1) before x) (drop (i + 1) grants)) (sym is))
