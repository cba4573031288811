-- What is given by one after the other.
use Rattle.std.proofs.Common.{◌≡◌, ℕ, ◌+◌, ◌<◌, ◌≤◌, List, [], ◌∷◌, ◌++◌, length, drop, get_or, refl, sym, ap, subst, ◌∙◌, append_assoc}
use Rattle.std.proofs.lemmas.List.{append-nil, drop_all, drop_more}
use Rattle.cluster_audit.specs.Audited.{AddsTo, Give}
use Rattle.cluster_audit.specs.Audited.Give.{no_more, one_more}

module _ {X Y : Type 0} (Gives : X → List Y → Type 0) (xs : List X) where
  -- with what the others give behind it this is what all give
  abbrev pub IsGiven : ℕ → List Y → Type 0
  IsGiven i before = (rest : List Y) → Give Gives (drop i xs) rest → Give Gives xs (before ++ rest)

  pub one_given : (i : ℕ) (x : X) (before after some : List Y) → i < length xs → x ≡ get_or xs i x → IsGiven i before → after ≡ before ++ some → Gives x some → IsGiven (i + 1) after
  one_given i x before after some inside is begun added gives rest given =
      let here : drop i xs ≡ x ∷ drop (i + 1) xs = drop_more xs i x inside ∙ ap (λ (y : X). y ∷ drop (i + 1) xs) (sym is) in
      subst (λ (t : List Y). Give Gives xs (t ++ rest)) (sym added)
      (subst (λ (t : List Y). Give Gives xs t) (sym (append_assoc before some rest))
      (begun (some ++ rest) (subst (λ (ys : List X). Give Gives ys (some ++ rest)) (sym here) (one_more some rest gives given))))

  pub all_given : (i : ℕ) (before : List Y) → length xs ≤ i → IsGiven i before → Give Gives xs before
  all_given i before end begun =
      subst (λ (t : List Y). Give Gives xs t) (append-nil before)
      (begun [] (subst (λ (ys : List X). Give Gives ys []) (sym (drop_all i xs end)) no_more))

-- ---- in texts

module _ (P : List ℕ → Type 0) (old new : List ℕ) where
  pub nothing_given : new ≡ old → P [] → AddsTo P old new
  nothing_given same holds = ([], same ∙ sym (append-nil old), holds)

  pub given_too : (Q : List ℕ → Type 0) → ((text : List ℕ) → Q text → P text) → AddsTo Q old new → AddsTo P old new
  given_too Q also adds = (adds.0, adds.1, also adds.0 adds.2)

module _ {X : Type 0} (Gives : X → List ℕ → Type 0) (xs : List X) where
  pub one_added : (i : ℕ) (x : X) (first before after : List ℕ) → i < length xs → x ≡ get_or xs i x → AddsTo (IsGiven Gives xs i) first before → AddsTo (Gives x) before after → AddsTo (IsGiven Gives xs (i + 1)) first after
  one_added i x first before after inside is begun adds = (
    begun.0 ++ adds.0,
    adds.1 ∙ ap (λ (t : List ℕ). t ++ adds.0) begun.1 ∙ append_assoc first begun.0 adds.0,
    one_given Gives xs i x begun.0 (begun.0 ++ adds.0) adds.0 inside is begun.2 refl adds.2,
  )

  pub all_added : (i : ℕ) (first after : List ℕ) → length xs ≤ i → AddsTo (IsGiven Gives xs i) first after → AddsTo (Give Gives xs) first after
  all_added i first after end begun = (begun.0, begun.1, all_given Gives xs i begun.0 end begun.2)
