-- Two to four bytes are the same by their first two and their last two.
use Rattle.std.proofs.Common.{◌≡◌, ℕ, ◌+◌, ◌-◌, ◌≤◌, List, [], ◌∷◌, length, get_or, refl, arith}

pub same_by_pairs : (xs ys : List ℕ) (d : ℕ) → length xs ≡ length ys → 2 ≤ length ys → length ys ≤ 4 → get_or xs 0 d ≡ get_or ys 0 d → get_or xs 1 d ≡ get_or ys 1 d → get_or xs (length ys - 2) d ≡ get_or ys (length ys - 2) d → get_or xs (length ys - 2 + 1) d ≡ get_or ys (length ys - 2 + 1) d → xs ≡ ys
same_by_pairs [] ys d same two four a b c e = absurd (omega (arith, same, two))
same_by_pairs (x ∷ []) ys d same two four a b c e = absurd (omega (arith, same, two))
same_by_pairs (x ∷ x' ∷ xs) [] d same two four a b c e = absurd (omega (arith, two))
same_by_pairs (x ∷ x' ∷ xs) (y ∷ []) d same two four a b c e = absurd (omega (arith, two))
same_by_pairs (x ∷ x' ∷ []) (y ∷ y' ∷ []) d same two four a b c e = rw (a, b) refl
same_by_pairs (x ∷ x' ∷ []) (y ∷ y' ∷ z ∷ ys) d same two four a b c e = absurd (omega (arith, same))
same_by_pairs (x ∷ x' ∷ w ∷ xs) (y ∷ y' ∷ []) d same two four a b c e = absurd (omega (arith, same))
same_by_pairs (x ∷ x' ∷ w ∷ []) (y ∷ y' ∷ z ∷ []) d same two four a b c e = rw (a, b, e) refl
same_by_pairs (x ∷ x' ∷ w ∷ []) (y ∷ y' ∷ z ∷ z' ∷ ys) d same two four a b c e = absurd (omega (arith, same))
same_by_pairs (x ∷ x' ∷ w ∷ w' ∷ xs) (y ∷ y' ∷ z ∷ []) d same two four a b c e = absurd (omega (arith, same))
same_by_pairs (x ∷ x' ∷ w ∷ w' ∷ []) (y ∷ y' ∷ z ∷ z' ∷ []) d same two four a b c e = rw (a, b, c, e) refl
same_by_pairs (x ∷ x' ∷ w ∷ w' ∷ []) (y ∷ y' ∷ z ∷ z' ∷ y'' ∷ ys) d same two four a b c e = absurd (omega (arith, same))
same_by_pairs (x ∷ x' ∷ w ∷ w' ∷ w'' ∷ xs) (y ∷ y' ∷ z ∷ z' ∷ ys) d same two four a b c e = absurd (omega (arith, same, four))
