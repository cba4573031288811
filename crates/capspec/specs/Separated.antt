-- Texts of things in a row.
use Rattle.std.specs.Prelude.{◌≡◌, ℕ, Bool, List, [], ◌∷◌, ◌++◌, IsTrue}

-- the text of one thing or more, with one byte between each two that separates them
abbrev pub AreSeparated : {A : Type 0} → (ℕ → Bool) → (List ℕ → A → Type 0) → List ℕ → List A → Type 0
AreSeparated separates Is text [] = ⊥
AreSeparated separates Is text (x ∷ []) = Is text x
AreSeparated separates Is text (x ∷ y ∷ more) =
    (first rest : List ℕ) × (mark : ℕ) × (text ≡ first ++ mark ∷ rest) × IsTrue (separates mark) × Is first x × AreSeparated separates Is rest (y ∷ more)
