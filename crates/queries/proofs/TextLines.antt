-- The lines of two texts, one behind the other.
use Rattle.std.proofs.Common.{◌≡◌, inl, inr, ℕ, false, List, [], ◌∷◌, ◌++◌, codes, refl, sym, ap, ◌∙◌, append_assoc, append-nil}
use Rattle.std.specs.List.{onto_first}
use Rattle.std.proofs.lemmas.Bool.{cases_Bool, cond-false, cond-true, cond_both}
use Rattle.texts.specs.ScriptLines.{is_line_feed, lines}
use Rattle.queries.specs.Counts.{but_last, ended}

-- the last line goes on with the piece
abbrev onward : List (List ℕ) → List ℕ → List (List ℕ)
onward [] piece = lines piece
onward (line ∷ []) piece = lines (line ++ piece)
onward (line ∷ next ∷ more) piece = line ∷ onward (next ∷ more) piece

ends_in : (ended : List (List ℕ)) (last piece : List ℕ) → onward (ended ++ last ∷ []) piece ≡ ended ++ lines (last ++ piece)
ends_in [] last piece = refl
ends_in (line ∷ []) last piece = refl
ends_in (line ∷ next ∷ ended) last piece = ap (λ (ls : List (List ℕ)). line ∷ ls) (ends_in (next ∷ ended) last piece)

no_line : (log : List ℕ) → lines log ≡ [] → ⊥
no_line [] = λ is. absurd (cc)
no_line (b ∷ log) = cond_both (is_line_feed b) ([] ∷ lines log) (onto_first b (lines log)) (λ (ls : List (List ℕ)). ls ≡ [] → ⊥) (λ feed is. absurd (cc)) (λ other. onto (lines log))
  where
    onto : (ls : List (List ℕ)) → onto_first b ls ≡ [] → ⊥
    onto [] is = absurd (cc)
    onto (line ∷ ls) is = absurd (cc)

behind_feed : (ls : List (List ℕ)) (piece : List ℕ) → (ls ≡ [] → ⊥) → onward ([] ∷ ls) piece ≡ [] ∷ onward ls piece
behind_feed [] piece some = absurd (some refl)
behind_feed (line ∷ ls) piece some = refl

no_feed : (b : ℕ) (text : List ℕ) → is_line_feed b ≡ false → lines (b ∷ text) ≡ onto_first b (lines text)
no_feed b text other = cond-false (is_line_feed b) ([] ∷ lines text) (onto_first b (lines text)) other

behind_other : (b : ℕ) (ls : List (List ℕ)) (piece : List ℕ) → is_line_feed b ≡ false → onward (onto_first b ls) piece ≡ onto_first b (onward ls piece)
behind_other b [] piece other = no_feed b piece other
behind_other b (line ∷ []) piece other = no_feed b (line ++ piece) other
behind_other b (line ∷ next ∷ ls) piece other = refl

of_both : (log piece : List ℕ) → lines (log ++ piece) ≡ onward (lines log) piece
of_both [] piece = refl
of_both (b ∷ log) piece = elim (cases_Bool (is_line_feed b)) [
  | inl feed ↦
      cond-true (is_line_feed b) ([] ∷ lines (log ++ piece)) (onto_first b (lines (log ++ piece))) feed
      ∙ ap (λ (ls : List (List ℕ)). [] ∷ ls) (of_both log piece)
      ∙ sym (behind_feed (lines log) piece (no_line log))
      ∙ ap (λ (ls : List (List ℕ)). onward ls piece) (sym (cond-true (is_line_feed b) ([] ∷ lines log) (onto_first b (lines log)) feed))
  | inr other ↦
      no_feed b (log ++ piece) other
      ∙ ap (onto_first b) (of_both log piece)
      ∙ sym (behind_other b (lines log) piece other)
      ∙ ap (λ (ls : List (List ℕ)). onward ls piece) (sym (no_feed b log other))
]

pub goes_on : (log piece last : List ℕ) (ended : List (List ℕ)) → lines log ≡ ended ++ last ∷ [] → lines (log ++ piece) ≡ ended ++ lines (last ++ piece)
goes_on log piece last ended is = of_both log piece ∙ ap (λ (ls : List (List ℕ)). onward ls piece) is ∙ ends_in ended last piece

-- ---- texts whose last line has ended

-- nothing stands behind the lines that end in it
abbrev pub Whole : List ℕ → Type 0
Whole text = (ls : List (List ℕ)) × (lines text ≡ ls ++ [] ∷ [])

pub none_whole : Whole []
none_whole = ([], refl)

pub both_whole : (a b : List ℕ) → Whole a → Whole b → Whole (a ++ b)
both_whole a b one other = (one.0 ++ other.0, goes_on a b [] one.0 one.1 ∙ ap (λ (ls : List (List ℕ)). one.0 ++ ls) other.1 ∙ sym (append_assoc one.0 other.0 ([] ∷ [])))

-- a first line, and more
abbrev Begins : List ℕ → Type 0
Begins text = (l : List ℕ) × (ls : List (List ℕ)) × (lines text ≡ l ∷ (ls ++ [] ∷ []))

begins : (text : List ℕ) → Begins (text ++ codes "\n")
begins [] = ([], [], refl)
begins (b ∷ text) =
    let rest : List ℕ = text ++ codes "\n" in
    let so = begins text in
    elim (cases_Bool (is_line_feed b)) [
      | inl feed ↦ ([], so.0 ∷ so.1, cond-true (is_line_feed b) ([] ∷ lines rest) (onto_first b (lines rest)) feed ∙ ap (λ (ls : List (List ℕ)). [] ∷ ls) so.2)
      | inr other ↦ (b ∷ so.0, so.1, no_feed b rest other ∙ ap (onto_first b) so.2)
    ]

pub fed_whole : (text : List ℕ) → Whole (text ++ codes "\n")
fed_whole text = let so = begins text in (so.0 ∷ so.1, so.2)

but_last_of_both : (xs ys : List (List ℕ)) → (ys ≡ [] → ⊥) → but_last (xs ++ ys) ≡ xs ++ but_last ys
but_last_of_both [] ys some = refl
but_last_of_both (x ∷ []) [] some = absurd (some refl)
but_last_of_both (x ∷ []) (y ∷ ys) some = refl
but_last_of_both (x ∷ z ∷ xs) ys some = ap (λ (ls : List (List ℕ)). x ∷ ls) (but_last_of_both (z ∷ xs) ys some)

pub ended_in : (text last : List ℕ) (ls : List (List ℕ)) → lines text ≡ ls ++ last ∷ [] → ended text ≡ ls
ended_in text last ls is = ap but_last is ∙ but_last_of_both ls (last ∷ []) (λ none. absurd (cc)) ∙ append-nil ls

pub ended_in_both : (a b : List ℕ) → Whole a → ended (a ++ b) ≡ ended a ++ ended b
ended_in_both a b whole =
    ap but_last (goes_on a b [] whole.0 whole.1) ∙ but_last_of_both whole.0 (lines b) (no_line b) ∙ ap (λ (ls : List (List ℕ)). ls ++ ended b) (sym (ended_in a [] whole.0 whole.1))
