-- Where the first grant that allows stands, and how the rules of those that do not are gathered.
use Rattle.std.proofs.Common.{◌≡◌, ℕ, ◌+◌, ◌<◌, zero, suc, Bool, true, false, ltb, Option, Some, None, is_none, List, [], ◌∷◌, ◌++◌, ◌||◌, length, take}
use Rattle.std.proofs.Common.{get_or, refl, sym, ap, ◌∙◌, arith, inl, inr}
use Rattle.std.specs.Prelude.{position}
use Rattle.std.specs.List.{cons_option, list_any, position_or_len}
use Rattle.std.proofs.lemmas.Bool.{lt-ltb, or_parts}
use Rattle.std.proofs.lemmas.Bool.Decides.{nat_tests}
use Rattle.std.proofs.lemmas.List.{append-nil, take_more}
use Rattle.std.proofs.lemmas.List.Elements.{filter_map-append}
use Rattle.capspec.specs.declared.grant.Grant.{Grant}
use Rattle.capspec.proofs.Fronts.{which}
use Rattle.capgrant.specs.declared.rule.Rule.{Rule}
use Rattle.capgrant.specs.declared.answer.Verdict.TheVariants.{Allowed, Denied}
use Rattle.capgrant.specs.Question.{Question}
use Rattle.capgrant.specs.Failing.{first_failing}
use Rattle.capgrant.specs.Verdict.{allows, first_failures, granted, verdict_at, verdict_of}

-- one grant more
one_more : (q : Question) (grants : List Grant) (i : ℕ) (g : Grant) → i < length grants → g ≡ get_or grants i g → first_failures q (take (i + 1) grants) ≡ first_failures q (take i grants) ++ first_failures q (g ∷ [])
one_more q grants i g within is =
    ap (first_failures q) (take_more grants i g within ∙ ap (λ (x : Grant). take i grants ++ x ∷ []) (sym is)) ∙ filter_map-append (first_failing q) (take i grants) (g ∷ [])

pub one_more_fails : (q : Question) (grants : List Grant) (i : ℕ) (g : Grant) (rule : Rule) → i < length grants → g ≡ get_or grants i g → first_failing q g ≡ Some rule → first_failures q (take (i + 1) grants) ≡ first_failures q (take i grants) ++ rule ∷ []
one_more_fails q grants i g rule within is fails = one_more q grants i g within is ∙ rw fails refl

pub one_more_allows : (q : Question) (grants : List Grant) (i : ℕ) (g : Grant) → i < length grants → g ≡ get_or grants i g → first_failing q g ≡ None → first_failures q (take (i + 1) grants) ≡ first_failures q (take i grants)
one_more_allows q grants i g within is passes = one_more q grants i g within is ∙ rw passes (append-nil (first_failures q (take i grants)))

-- where none allows, each fails by a rule
one_more_rule : (found : Option Rule) (rules : List Rule) (n : ℕ) → is_none found ≡ false → length rules ≡ n → length (cons_option found rules) ≡ suc n
one_more_rule (Some rule) rules n some e = ap suc e
one_more_rule None rules n some e = cc

one_each : (q : Question) (grants : List Grant) → granted q grants ≡ false → length (first_failures q grants) ≡ length grants
one_each q [] none = refl
one_each q (g ∷ grants) none =
    let parts = or_parts (allows q g) (granted q grants) none in
    one_more_rule (first_failing q g) (first_failures q grants) (length grants) parts.0 (one_each q grants parts.1)

-- an element passes where the first that does comes before the end
pub any_place : {X : Type 0} (p : X → Bool) (xs : List X) → list_any p xs ≡ ltb (position_or_len p xs) (length xs)
any_place p [] = refl
any_place p (x ∷ xs) =
    elim (which (p x)) [
      | inl e ↦ rw e (sym (lt-ltb 0 (length (x ∷ xs)) (omega arith)))
      | inr e ↦ let rest = any_place p xs in rw e (grind (arith, nat_tests))
    ]

pub granted_somewhere : (q : Question) (grants : List Grant) (i : ℕ) → position (allows q) grants ≡ Some i → true ≡ granted q grants
granted_somewhere q grants i is =
    elim (which (ltb (position_or_len (allows q) grants) (length grants))) [
      | inl e ↦ sym (any_place (allows q) grants ∙ e)
      | inr e ↦ let none : None ≡ Some i = rw e at is in (cc)
    ]

pub granted_nowhere : (q : Question) (grants : List Grant) → position (allows q) grants ≡ None → false ≡ granted q grants
granted_nowhere q grants is =
    elim (which (ltb (position_or_len (allows q) grants) (length grants))) [
      | inl e ↦ let some : Some (position_or_len (allows q) grants) ≡ None = rw e at is in (cc)
      | inr e ↦ sym (any_place (allows q) grants ∙ e)
    ]

-- the verdict of a first grant that allows, and of none
pub allowed_at : (q : Question) (grants : List Grant) (i : ℕ) → position (allows q) grants ≡ Some i → Allowed (i + 1) ≡ verdict_of q grants
unfolding verdict_of
allowed_at q grants i is = ap (λ (place : Option ℕ). verdict_at place (first_failures q grants)) (sym is)

pub allowed_nowhere : (q : Question) (grants : List Grant) → position (allows q) grants ≡ None → Denied (first_failures q grants) ≡ verdict_of q grants
unfolding verdict_of
allowed_nowhere q grants is = ap (λ (place : Option ℕ). verdict_at place (first_failures q grants)) (sym is)

-- and then each fails by a rule
pub each_fails : (q : Question) (grants : List Grant) → position (allows q) grants ≡ None → length (first_failures q grants) ≡ length grants
each_fails q grants is = one_each q grants (sym (granted_nowhere q grants is))

-- what one of the first passes, one of all passes
pub among_first : {T : Type 0} (p : T → Bool) (xs : List T) (n : ℕ) → list_any p (take n xs) ≡ true → list_any p xs ≡ true
among_first p [] zero e = e
among_first p [] (suc n) e = e
among_first p (x ∷ xs) zero e = absurd (cc)
among_first p (x ∷ xs) (suc n) e = by_test (p x) (among_first p xs n) e
  where
    by_test : (b : Bool) → (list_any p (take n xs) ≡ true → list_any p xs ≡ true) → (b || list_any p (take n xs)) ≡ true → (b || list_any p xs) ≡ true
    by_test true rest e = refl
    by_test false rest e = rest e
