-- Bytes spelled as the characters with their numbers.
use Rattle.std.proofs.Common.{◌≡◌, ℕ, ◌<◌, ◌+◌, length, take, get_or, List, [], ◌∷◌, ◌++◌, map, refl, sym, ap, ◌∙◌, true, arith}
use Rattle.std.proofs.Math.Utf8.{low_scalar}
use Rattle.std.proofs.lemmas.Str.{chars-encodes, encodes-append}
use Rattle.std.proofs.lemmas.List.{append-nil, take_more}
use Rattle.std.proofs.lemmas.List.Elements.{All-from_recursion, All-same, recursion_from_All}
use Rattle.std.specs.List.{AllByRecursion}
use Rattle.std.specs.Prelude.{All}
use Rattle.std.specs.Char.{encode_utf8}
use Rattle.std.specs.Str.{all_scalars, chars, encode_utf8_all}

abbrev IsByte : ℕ → Type 0
IsByte b = b < 256

bytes_are_scalars : (bs : List ℕ) → AllByRecursion IsByte bs → all_scalars bs ≡ true
bytes_are_scalars [] all = refl
bytes_are_scalars (b ∷ bs) all = rw (low_scalar b (omega (arith, all.0))) (bytes_are_scalars bs all.1)

-- the characters of a text that spells bytes are these bytes
pub chars_of_bytes : (text bs : List ℕ) → All IsByte bs → text ≡ encode_utf8_all bs → chars text ≡ bs
chars_of_bytes text bs all spelt = ap chars spelt ∙ chars-encodes bs (bytes_are_scalars bs (recursion_from_All IsByte bs all))

front_and_last : (xs : List ℕ) (x : ℕ) → AllByRecursion IsByte (xs ++ x ∷ []) → AllByRecursion IsByte xs × IsByte x
front_and_last [] x all = (tt, all.0)
front_and_last (y ∷ ys) x all = let more = front_and_last ys x all.1 in ((all.0, more.0), more.1)

pub front_of_bytes : (xs : List ℕ) (x : ℕ) → All IsByte (xs ++ x ∷ []) → All IsByte xs
front_of_bytes xs x all = All-from_recursion IsByte xs (front_and_last xs x (recursion_from_All IsByte (xs ++ x ∷ []) all)).0

pub last_is_byte : (xs : List ℕ) (x : ℕ) → All IsByte (xs ++ x ∷ []) → x < 256
last_is_byte xs x all = (front_and_last xs x (recursion_from_All IsByte (xs ++ x ∷ []) all)).1

-- one more character
pub one_more : (old new xs : List ℕ) (x b : ℕ) → (All IsByte xs → old ≡ xs) → b ≡ x → new ≡ old ++ b ∷ [] → All IsByte (xs ++ x ∷ []) → new ≡ xs ++ x ∷ []
one_more old new xs x b before same pushed all = pushed ∙ ap (λ (ys : List ℕ). ys ++ b ∷ []) (before (front_of_bytes xs x all)) ∙ ap (λ (y : ℕ). xs ++ y ∷ []) same

-- a character that is no byte
pub no_byte : {A : Type 0} (xs : List ℕ) (x : ℕ) → ¬ (x < 256) → All IsByte (xs ++ x ∷ []) → A
no_byte xs x big all = absurd (big (last_is_byte xs x all))

mapped_to_itself : (xs : List ℕ) → map (λ c. c) xs ≡ xs
mapped_to_itself [] = refl
mapped_to_itself (x ∷ xs) = ap (λ ys. x ∷ ys) (mapped_to_itself xs)

-- all characters were gone over
pub all_characters : (text gone kept spelt : List ℕ) → map (λ c. c) gone ≡ chars text → (All IsByte gone → kept ≡ gone) → All IsByte spelt → text ≡ encode_utf8_all spelt → kept ≡ spelt
all_characters text gone kept spelt whole same all spells =
    let gone_is : gone ≡ spelt = sym (mapped_to_itself gone) ∙ whole ∙ chars_of_bytes text spelt all spells in
    same (All-same IsByte gone spelt gone_is all) ∙ gone_is

-- one more byte is spelled
pub spells_one_more : (before after : List ℕ) (bs : List ℕ) (i b : ℕ) → i < length bs → b ≡ get_or bs i 0 → before ≡ encode_utf8_all (take i bs) → after ≡ before ++ encode_utf8 b → after ≡ encode_utf8_all (take (i + 1) bs)
spells_one_more before after bs i b inside same kept pushed =
    pushed ∙ ap (λ t. t ++ encode_utf8 b) kept ∙ sym (rw (take_more bs i 0 inside, ← same) (encodes-append (take i bs) (b ∷ []) ∙ ap (λ t. encode_utf8_all (take i bs) ++ t) (append-nil (encode_utf8 b))))
