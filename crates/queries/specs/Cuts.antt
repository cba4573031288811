-- A text cut at a mark.
use Rattle.std.specs.Prelude.{ℕ, zero, suc, nat_eq, ◌%◌, ◌==◌, Bool, true, ◌&&◌, List, [], ◌∷◌, length, take, drop, count_by}
use Rattle.std.specs.Prelude.{Option, Some, None, option_map, option_and_then, if◌then◌else◌}
use Rattle.std.specs.List.{starts_with}

-- what stands before and behind the first place of the mark in the text
abbrev pub cut_first : List ℕ → List ℕ → Option (List ℕ × List ℕ)
cut_first mark [] = None
cut_first mark (b ∷ bytes) =
    if starts_with nat_eq (b ∷ bytes) mark then Some ([], drop (length mark) (b ∷ bytes))
    else option_map (λ parts. (b ∷ parts.0, parts.1)) (cut_first mark bytes)

-- the same of the last place behind which the text passes the test, of the places below this one
abbrev pub cut_below : (List ℕ → Bool) → List ℕ → List ℕ → ℕ → Option (List ℕ × List ℕ)
cut_below test mark text zero = None
cut_below test mark text (suc at) =
    let behind : List ℕ = drop (length mark) (drop at text) in
    if starts_with nat_eq (drop at text) mark && test behind then Some (take at text, behind) else cut_below test mark text at

abbrev pub is_any : List ℕ → Bool
is_any text = true

-- the same of the last place
abbrev pub cut : List ℕ → List ℕ → Option (List ℕ × List ℕ)
cut mark text = cut_below is_any mark text (length text)

-- each double quote in the text is closed
abbrev pub is_closed : List ℕ → Bool
is_closed text = count_by (λ b. b == 34) text % 2 == 0

-- the same of the last place behind which they are
abbrev pub cut_closed : List ℕ → List ℕ → Option (List ℕ × List ℕ)
cut_closed mark text = cut_below is_closed mark text (length text)

-- what stands behind the mark, where the text begins with it
abbrev pub behind_front : List ℕ → List ℕ → Option (List ℕ)
behind_front mark text = if starts_with nat_eq text mark then Some (drop (length mark) text) else None

-- the same where each double quote behind it is closed
abbrev pub closed_behind : List ℕ → List ℕ → Option (List ℕ)
closed_behind mark text =
    let behind : List ℕ = drop (length mark) text in
    if starts_with nat_eq text mark && is_closed behind then Some behind else None

-- what comes of a text that is cut at the last place of the mark, if it has one
abbrev pub then_cut : {A : Type 0} → List ℕ → List ℕ → (List ℕ → List ℕ → Option A) → Option A
then_cut mark text next = option_and_then (λ parts. next parts.0 parts.1) (cut mark text)

-- the same of the last place behind which double quotes are closed
abbrev pub then_cut_closed : {A : Type 0} → List ℕ → List ℕ → (List ℕ → List ℕ → Option A) → Option A
then_cut_closed mark text next = option_and_then (λ parts. next parts.0 parts.1) (cut_closed mark text)
