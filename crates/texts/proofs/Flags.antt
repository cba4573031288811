-- Flags of readers and writers that did not fail.
use Rattle.std.proofs.Common.{Bool, true, false, refl, sym, ◌∙◌, inl, inr}
use Rattle.std.specs.Prelude.{◌⊎◌, ◌↔◌, IsTrue, IsFalse}
use Rattle.std.proofs.lemmas.Bool.{false≢true}

pub not_set : (flag : Bool) → (IsTrue flag → ⊥) → IsFalse flag
not_set false never = refl
not_set true never = absurd (never refl)

-- what did not fail left the flag clear
pub still_clear : (old new : Bool) {A : Type 0} → (IsTrue new ↔ (IsTrue old ⊎ A)) → (A → ⊥) → IsFalse old → IsFalse new
still_clear old new flag none clear = not_set new (λ set. elim (flag.0 set) [ inl was ↦ false≢true (sym clear ∙ was) | inr bad ↦ none bad ])
