-- The slashes at the end of a text, as a loop drops them.
use Rattle.std.proofs.Common.{◌≡◌, ℕ, ◌+◌, ◌-◌, ◌<◌, ◌≤◌, true, false, List, [], ◌∷◌, ◌++◌, length, get_or, take, refl, sym, ap, ◌∙◌, arith}
use Rattle.std.proofs.lemmas.List.{take_more}
use Rattle.release_grants.specs.Paths.{is_slash, unless_last_slash, without_last_slashes}

-- a last slash counts for nothing
slash_behind : (b : ℕ) → is_slash b ≡ true → (xs : List ℕ) → without_last_slashes (xs ++ b ∷ []) ≡ without_last_slashes xs
slash_behind b is [] = rw is refl
slash_behind b is (x ∷ xs) = ap (unless_last_slash x) (slash_behind b is xs)

-- and behind another byte nothing does
other_behind : (b : ℕ) → is_slash b ≡ false → (xs : List ℕ) → without_last_slashes (xs ++ b ∷ []) ≡ xs ++ b ∷ []
other_behind b is [] = rw is refl
other_behind b is (x ∷ []) = ap (unless_last_slash x) (other_behind b is [])
other_behind b is (x ∷ y ∷ xs) = ap (unless_last_slash x) (other_behind b is (y ∷ xs))

-- the last of the first bytes
last_taken : (text : List ℕ) (end : ℕ) → 0 < end → end ≤ length text → take end text ≡ take (end - 1) text ++ get_or text (end - 1) 0 ∷ []
last_taken text end some within = let on : end ≡ (end - 1) + 1 = omega arith in ap (λ n. take n text) on ∙ take_more text (end - 1) 0 (omega arith)

pub one_less : (text : List ℕ) (end : ℕ) → 0 < end → end ≤ length text → is_slash (get_or text (end - 1) 0) ≡ true → without_last_slashes (take (end - 1) text) ≡ without_last_slashes (take end text)
one_less text end some within is = sym (ap without_last_slashes (last_taken text end some within) ∙ slash_behind (get_or text (end - 1) 0) is (take (end - 1) text))

pub none_less : (text : List ℕ) (end : ℕ) → 0 < end → end ≤ length text → is_slash (get_or text (end - 1) 0) ≡ false → take end text ≡ without_last_slashes (take end text)
none_less text end some within is =
    let last = last_taken text end some within in
    last ∙ sym (other_behind (get_or text (end - 1) 0) is (take (end - 1) text)) ∙ ap without_last_slashes (sym last)

pub nothing_less : (text : List ℕ) (end : ℕ) → end ≤ 0 → take end text ≡ without_last_slashes (take end text)
nothing_less text end none = let zero : end ≡ 0 = omega arith in rw zero refl
