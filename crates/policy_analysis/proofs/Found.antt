-- Lists to which one more is added at the end.
use Rattle.std.proofs.Common.{◌≡◌, ◌⊎◌, inl, inr, ℕ, ◌+◌, ◌<◌, List, [], ◌∷◌, ◌++◌, length, get_or, sym, ap, ◌∙◌, subst, arith}
use Rattle.std.proofs.Math.ListN.{get_or-append}
use Rattle.std.proofs.Math.Seq.{get_or-append_seam}
use Rattle.std.proofs.lemmas.List.{get_or_default, length-append}
use Rattle.capspec.specs.declared.grant.Grant.{Grant}
use Rattle.policy_analysis.specs.declared.finding.Finding.{Finding}
use Rattle.policy_analysis.specs.Findings.{IsFinding}

-- what holds of each element at its index holds with one more, of which it holds too
pub holds_with : {X : Type 0} (P : ℕ → X → Type 0) (xs after : List X) (n : ℕ) (x : X) → after ≡ xs ++ x ∷ [] → length xs ≡ n → ((i : ℕ) (d : X) → i < n → P i (get_or xs i d)) → P n x → (i : ℕ) (d : X) → i < n + 1 → P i (get_or after i d)
holds_with {X = X} P xs after n x is long before here i d less = by_case (cases i less)
  where
    cases : (i : ℕ) → i < n + 1 → (i < n) ⊎ (i ≡ n)
    cases i less = grind arith

    by_case : (i < n) ⊎ (i ≡ n) → P i (get_or after i d)
    by_case (inl early) =
        let within : i < length xs = omega arith in
        subst (λ (y : X). P i y) (sym (ap (λ (ys : List X). get_or ys i d) is ∙ get_or-append xs (x ∷ []) d i within)) (before i d early)
    by_case (inr last) =
        let at : get_or after n d ≡ x = ap (λ (ys : List X). get_or ys n d) is ∙ ap (λ (k : ℕ). get_or (xs ++ x ∷ []) k d) (sym long) ∙ get_or-append_seam xs x [] d in
        subst (λ (k : ℕ). P k (get_or after k d)) (sym last) (subst (λ (y : X). P n y) (sym at) here)

pub one_longer : {X : Type 0} (xs after : List X) (n : ℕ) (x : X) → after ≡ xs ++ x ∷ [] → length xs ≡ n → length after ≡ n + 1
one_longer xs after n x is long = ap length is ∙ length-append xs (x ∷ []) ∙ ap (λ (k : ℕ). k + 1) long

-- a finding of the grant that stands at this place, whatever the default
pub finding_at : (grants : List Grant) (numbers : List ℕ) (place : ℕ) (g : Grant) (f : Finding) → place < length grants → g ≡ get_or grants place g → IsFinding grants numbers g f → (d : Grant) → IsFinding grants numbers (get_or grants place d) f
finding_at grants numbers place g f within is finding d = subst (λ (h : Grant). IsFinding grants numbers h f) (is ∙ get_or_default grants place g d within) finding
