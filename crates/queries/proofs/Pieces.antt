-- Texts cut into pieces: what a loop over the pieces knows of the whole text.
use Rattle.std.proofs.Common.{◌≡◌, ℕ, ◌<◌, ◌≤◌, ◌^◌, true, false, cond, List, [], ◌∷◌, length, map, get_or, refl, sym, ap, subst, ◌∙◌, arith}
use Rattle.std.proofs.lemmas.List.{length-map}
use Rattle.std.specs.Prelude.{All, Err, IsOk, None, Ok, Option, Result, Some}
use Rattle.std.specs.Borrow.{Bor}
use Rattle.std.specs.List.{AllByRecursion, onto_first, slice_split}
use Rattle.std.specs.Str.Parse.{IsNumeral, digits_value}
use Rattle.std.proofs.lemmas.Bool.{false≢true}
use Rattle.std.proofs.lemmas.List.Elements.{All-from_recursion, All-map, All-same, recursion_from_All}
use Rattle.std.specs.Result.{result_ok}
use Rattle.std.proofs.lemmas.Simd.{map-map}
use Rattle.capspec.proofs.Valued.{IsNumeric, numbers_are, pieces_are}
use Rattle.capspec.specs.Items.{IsNumber, is_comma}
use Rattle.capspec.specs.Separated.{AreSeparated}
use Rattle.queries.specs.Values.{AreGroups}

-- what can't take one more is full
pub is_full : {T E : Type 0} (r : Result T E) (o : Option T) (n cap : ℕ) → o ≡ None → o ≡ result_ok r → (n < cap → IsOk r) → cap ≤ n
is_full (Ok x) o n cap none ok room = let bad : None ≡ Some x = sym none ∙ ok in absurd (cc)
is_full (Err e) o n cap none ok room = let full : n < cap → ⊥ = λ below. false≢true (room below) in omega (arith, full)

-- what stands between the commas
abbrev pub between_commas : List ℕ → List (List ℕ)
between_commas text = slice_split is_comma text

abbrev IsPiece : List ℕ → List ℕ → Type 0
IsPiece text piece = text ≡ piece

-- a byte in front of the first piece, which is no comma
longer_first : (b : ℕ) (text : List ℕ) (pieces : List (List ℕ)) → AreSeparated is_comma IsPiece text pieces → AreSeparated is_comma IsPiece (b ∷ text) (onto_first b pieces)
longer_first b text [] row = absurd row
longer_first b text (piece ∷ []) row = ap (λ (t : List ℕ). b ∷ t) row
longer_first b text (piece ∷ other ∷ more) row = (b ∷ row.0, row.1, row.2, ap (λ (t : List ℕ). b ∷ t) row.3, row.4, ap (λ (t : List ℕ). b ∷ t) row.5, row.6)

-- a comma in front of a text
comma_first : (b : ℕ) (text : List ℕ) (pieces : List (List ℕ)) → is_comma b ≡ true → AreSeparated is_comma IsPiece text pieces → AreSeparated is_comma IsPiece (b ∷ text) ([] ∷ pieces)
comma_first b text [] comma row = absurd row
comma_first b text (piece ∷ more) comma row = ([], text, b, refl, comma, refl, row)

-- a text is its pieces with commas between them
split_row : (text : List ℕ) → AreSeparated is_comma IsPiece text (between_commas text)
split_row [] = refl
split_row (b ∷ bs) = elim (is_comma b) as (λ t. is_comma b ≡ t → AreSeparated is_comma IsPiece (b ∷ bs) (cond t ([] ∷ between_commas bs) (onto_first b (between_commas bs)))) [
  | true ↦ λ comma. comma_first b bs (between_commas bs) comma (split_row bs)
  | false ↦ λ other. longer_first b bs (between_commas bs) (split_row bs)
] refl

numbers_row : (text : List ℕ) (pieces : List (List ℕ)) → AreSeparated is_comma IsPiece text pieces → AllByRecursion IsNumeric pieces → AreSeparated is_comma IsNumber text (map (digits_value 10) pieces)
numbers_row text [] row numbers = absurd row
numbers_row text (piece ∷ []) row numbers = rw row numbers.0
numbers_row text (piece ∷ other ∷ more) row numbers =
    (row.0, row.1, row.2, row.3, row.4, rw row.5 numbers.0, numbers_row row.1 (other ∷ more) row.6 numbers.1)

-- one piece is no number
pub not_groups : (text : List ℕ) (k : ℕ) (digits : List ℕ) → k < length (between_commas text) → digits ≡ get_or (between_commas text) k digits → ¬ (IsNumeral 10 digits × (digits_value 10 digits < 2 ^ 32)) → (gids : List ℕ) → ¬ AreGroups text gids
not_groups text k digits inside same unread gids groups =
    let number : IsNumeric digits = subst (λ (t : List ℕ). IsNumeric t) (sym same) (All-from_recursion IsNumeric (between_commas text) (pieces_are text gids groups.0) k digits inside) in
    unread (number.numeral, number.small)

-- there are more than sixteen pieces
pub many_groups : (text : List ℕ) (k : ℕ) → k < length (between_commas text) → 16 ≤ k → (gids : List ℕ) → ¬ AreGroups text gids
many_groups text k inside many gids groups =
    let count : length gids ≡ length (between_commas text) = ap length (numbers_are text gids groups.0) ∙ length-map (between_commas text) (digits_value 10) in
    omega (arith, count, groups.1)

-- every piece was read
pub all_groups : (text : List ℕ) (pieces : List (Bor (List ℕ))) (gids : List ℕ) → map (λ t. t.now) pieces ≡ between_commas text → All (λ t. IsNumeric t.now) pieces → length pieces ≤ 16
    → gids ≡ map (λ t. digits_value 10 t.now) pieces → AreGroups text gids
all_groups text pieces gids whole numbers few same =
    let now : Bor (List ℕ) → List ℕ = λ t. t.now in
    let gids_are : gids ≡ map (digits_value 10) (between_commas text) = same ∙ sym (map-map (digits_value 10) now pieces) ∙ ap (map (digits_value 10)) whole in
    let all : AllByRecursion IsNumeric (between_commas text) = recursion_from_All IsNumeric (between_commas text) (All-same IsNumeric (between_commas text) (map now pieces) (sym whole) (All-map IsNumeric now pieces numbers)) in
    let count : length gids ≡ length pieces = ap length same ∙ length-map pieces (λ t. digits_value 10 t.now) in
    (rw gids_are (numbers_row text (between_commas text) (split_row text) all), omega (arith, count))
