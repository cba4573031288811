-- Why what nobody may is denied, grant by grant.
use Rattle.std.proofs.Common.{◌≡◌, ℕ, ◌+◌, ◌<◌, zero, suc, false, Option, Some, None, is_none, List, [], ◌∷◌, ◌++◌, length, take, get_or, refl, sym, ap, ◌∙◌}
use Rattle.std.proofs.Common.{arith}
use Rattle.std.specs.Prelude.{filter_map, position, slice_get}
use Rattle.std.specs.List.{cons_option}
use Rattle.std.proofs.lemmas.Bool.{both_ways, or_parts, true≢false}
use Rattle.std.proofs.lemmas.List.{take_more}
use Rattle.std.proofs.lemmas.List.Elements.{filter_map-append}
use Rattle.std.proofs.lemmas.List.Folds.{list_any_at}
use Rattle.capbits.specs.declared.caller.Caller.{Caller}
use Rattle.capspec.specs.declared.grant.Grant.{Grant}
use Rattle.capgrant.specs.declared.access.Attr.{Attr}
use Rattle.capgrant.specs.declared.rule.Rule.{Rule}
use Rattle.capgrant.specs.declared.answer.Verdict.{Verdict}
use Rattle.capgrant.specs.declared.answer.Verdict.TheVariants.{Allowed, Denied}
use Rattle.capgrant.specs.Question.{Question}
use Rattle.capgrant.specs.Failing.{first_failing}
use Rattle.capgrant.specs.Verdict.{allows, first_failures, granted, verdict_of}
use Rattle.capgrant.proofs.Verdicts.{allowed_nowhere, granted_somewhere}
use Rattle.policy_analysis.specs.Callers.{Wanted, asked, asker}
use Rattle.policy_analysis.specs.Standing.{attr_for, reason}

-- ---- the rules of a denial

here : (found : Option Rule) (rest : List Rule) → is_none found ≡ false → slice_get (cons_option found rest) 0 ≡ found
here None rest some = absurd (true≢false some)
here (Some rule) rest some = refl

later : (found : Option Rule) (rest : List Rule) (place : ℕ) → is_none found ≡ false → slice_get (cons_option found rest) (suc place) ≡ slice_get rest place
later None rest place some = absurd (true≢false some)
later (Some rule) rest place some = refl

-- where no grant allows, the rule at a place is the one by which the grant there fails first
failure_at : (q : Question) (grants : List Grant) (place : ℕ) (g : Grant) → granted q grants ≡ false → place < length grants → g ≡ get_or grants place g → slice_get (first_failures q grants) place ≡ first_failing q g
failure_at q [] place g none within at = absurd (omega arith)
failure_at q (h ∷ grants) zero g none within at = here (first_failing q h) (first_failures q grants) (or_parts (allows q h) (granted q grants) none).0 ∙ ap (first_failing q) (sym at)
failure_at q (h ∷ grants) (suc place) g none within at =
    let parts = or_parts (allows q h) (granted q grants) none in
    later (first_failing q h) (first_failures q grants) place parts.0 ∙ failure_at q grants place g parts.1 (omega arith) at

abbrev rules_of : Verdict → List Rule
rules_of (Allowed grant) = []
rules_of (Denied rules) = rules

denied : (q : Question) (grants : List Grant) → granted q grants ≡ false → verdict_of q grants ≡ Denied (first_failures q grants)
denied q grants none = by_place (position (allows q) grants) refl
  where
    by_place : (place : Option ℕ) → position (allows q) grants ≡ place → verdict_of q grants ≡ Denied (first_failures q grants)
    by_place None e = sym (allowed_nowhere q grants e)
    by_place (Some place) e = absurd (both_ways (granted q grants) none (sym (granted_somewhere q grants place e)))

-- ---- of a grant where nobody is allowed it

-- nobody is allowed it, as each grant is asked
abbrev pub IsDeniedTo : Wanted → Option Attr → List Grant → Type 0
IsDeniedTo w attr grants = (g : Grant) (c : Caller) → granted (asked w (attr_for attr g) c) grants ≡ false

-- why this grant denies it to its own user
abbrev pub reason_of : Wanted → Option Attr → Grant → Option Rule
reason_of w attr g = reason w (attr_for attr g) g

-- it is found at the grant's place in the denial
pub reason_at : (w seen : Wanted) (attr : Option Attr) (grants : List Grant) (place : ℕ) (g : Grant) (at_attr : Attr) (who : Caller) (gids : List ℕ) (rules : List Rule)
    → IsDeniedTo w attr grants → place < length grants → g ≡ get_or grants place g
    → seen ≡ w → at_attr ≡ attr_for attr g → gids ≡ g.gids → who ≡ asker at_attr g gids → Denied rules ≡ verdict_of (asked seen at_attr who) grants → slice_get rules place ≡ reason w (attr_for attr g) g
reason_at w seen attr grants place g at_attr who gids rules nobody within at same attr_is listed is exact =
    let asks : asked seen at_attr who ≡ asked w (attr_for attr g) (asker (attr_for attr g) g g.gids) =
    ap (λ (c : Caller). asked seen at_attr c) (is ∙ ap (asker at_attr g) listed)
    ∙ ap (λ (a : Attr). asked seen a (asker a g g.gids)) attr_is
    ∙ ap (λ (s : Wanted). asked s (attr_for attr g) (asker (attr_for attr g) g g.gids)) same in
    let none : granted (asked seen at_attr who) grants ≡ false = ap (λ (p : Question). granted p grants) asks ∙ nobody g (asker (attr_for attr g) g g.gids) in
    ap (λ (v : Verdict). slice_get (rules_of v) place) (exact ∙ denied (asked seen at_attr who) grants none)
    ∙ failure_at (asked seen at_attr who) grants place g none within at
    ∙ ap (λ (p : Question). first_failing p g) asks

pub has_reason : (w : Wanted) (attr : Option Attr) (grants : List Grant) (place : ℕ) (g : Grant) → IsDeniedTo w attr grants → place < length grants → g ≡ get_or grants place g → reason_of w attr g ≡ None → ⊥
has_reason w attr grants place g nobody within at none =
    let q : Question = asked w (attr_for attr g) (asker (attr_for attr g) g g.gids) in
    both_ways (granted q grants) (nobody g (asker (attr_for attr g) g g.gids)) (list_any_at (allows q) grants place g within (ap (allows q) (sym at) ∙ ap is_none none))

-- one grant more
pub one_more : (w : Wanted) (attr : Option Attr) (grants : List Grant) (rules : List Rule) (place : ℕ) (g : Grant) (rule : Rule) → place < length grants → g ≡ get_or grants place g → rules ≡ filter_map (reason_of w attr) (take place grants) → reason_of w attr g ≡ Some rule → rules ++ rule ∷ [] ≡ filter_map (reason_of w attr) (take (place + 1) grants)
one_more w attr grants rules place g rule within at before is =
    ap (λ (rs : List Rule). rs ++ rule ∷ []) before
    ∙ ap (λ (o : Option Rule). filter_map (reason_of w attr) (take place grants) ++ cons_option o []) (sym is)
    ∙ sym (filter_map-append (reason_of w attr) (take place grants) (g ∷ []))
    ∙ sym (ap (filter_map (reason_of w attr)) (take_more grants place g within ∙ ap (λ (x : Grant). take place grants ++ x ∷ []) (sym at)))
