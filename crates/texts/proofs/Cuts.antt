-- A text cut at a mark.
use Rattle.std.proofs.Common.{◌≡◌, ℕ, ◌+◌, ◌-◌, ◌≤◌, Bool, true, false, cond, ltb, List, [], ◌∷◌, length, take, drop, Option, None, Some, refl, sym, ◌∙◌}
use Rattle.std.proofs.Common.{arith}
use Rattle.std.specs.List.{position_or_len, slice_split}
use Rattle.std.proofs.lemmas.Bool.{ltb-false, ltb-true}
use Rattle.std.proofs.lemmas.List.Splits.{slice_split_first, slice_split_none}
use Rattle.std.proofs.lemmas.List.Sums.{fails_before_first}
use Rattle.std.proofs.lemmas.List.{take_rest}

-- a text without a mark is one piece
one_piece : (p : ℕ → Bool) (text : List ℕ) → length text ≤ position_or_len p text → slice_split p text ≡ text ∷ []
one_piece p text none = slice_split_none p text (λ k d inside. fails_before_first p text k d (omega arith))

-- what the search for a mark answers
abbrev first_mark : (ℕ → Bool) → List ℕ → Option ℕ
first_mark p text = cond (ltb (position_or_len p text) (length text)) (Some (position_or_len p text)) None

pub cut_none : (p : ℕ → Bool) (text : List ℕ) (found : Option ℕ) → found ≡ first_mark p text → found ≡ None → slice_split p text ≡ text ∷ []
cut_none p text found is none =
    elim (ltb (position_or_len p text) (length text)) as (λ b. ltb (position_or_len p text) (length text) ≡ b → cond b (Some (position_or_len p text)) None ≡ None → slice_split p text ≡ text ∷ []) [
      | true ↦ λ _ bad. absurd (cc)
      | false ↦ λ outside _. one_piece p text (ltb-false (position_or_len p text) (length text) outside)
    ] refl (sym is ∙ none)

pub cut_some : (p : ℕ → Bool) (text : List ℕ) (found : Option ℕ) (end : ℕ) → found ≡ first_mark p text → found ≡ Some end → slice_split p text ≡ take end text ∷ slice_split p (take (length text - (end + 1)) (drop (end + 1) text))
cut_some p text found end is some =
    elim (ltb (position_or_len p text) (length text)) as (λ b. ltb (position_or_len p text) (length text) ≡ b → cond b (Some (position_or_len p text)) None ≡ Some end
    → slice_split p text ≡ take end text ∷ slice_split p (take (length text - (end + 1)) (drop (end + 1) text))) [
      | true ↦ λ inside same.
          let here : position_or_len p text ≡ end = cc in
          rw (take_rest text (end + 1), sym here) (slice_split_first p text 0 (ltb-true (position_or_len p text) (length text) inside))
      | false ↦ λ _ bad. absurd (cc)
    ] refl (sym is ∙ some)
