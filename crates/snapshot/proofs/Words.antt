-- Words at home, and words that are away.
use Rattle.std.proofs.Common.{◌≡◌, ℕ, zero, suc, ◌+◌, ◌<◌, ◌≤◌, true, false, List, [], ◌∷◌, ◌++◌, length, replicate, set, ap, sym, ◌∙◌, arith, append_assoc}
use Rattle.std.proofs.Common.{length-append}
use Rattle.std.proofs.lemmas.List.{length-replicate, replicate_more}
use Rattle.logbook.specs.Pages.{Cell, cell}
use Rattle.snapshot.specs.Rows.{cells_of, words_of}

pub words-length : (rows away : ℕ) → length (words_of rows away) ≡ rows + away
words-length rows away =
    let home : List Cell = replicate rows (0, true) in
    let out : List Cell = replicate away (0, false) in
    let at_home : length home ≡ rows = length-replicate rows (0, true) in
    let not_home : length out ≡ away = length-replicate away (0, false) in
    length-append home out ∙ (λ i. at_home i + not_home i)

-- one word more is away
pub words_more : (rows away : ℕ) → words_of rows away ++ (0, false) ∷ [] ≡ words_of rows (away + 1)
words_more rows away = append_assoc (replicate rows (0, true)) (replicate away (0, false)) ((0, false) ∷ []) ∙ ap (λ (ws : List Cell). replicate rows (0, true) ++ ws) (replicate_more away (0, false))

-- the first of those that are away comes home
pub words_home : (rows away left : ℕ) → away ≡ suc left → set (words_of rows away) rows (0, true) ≡ words_of (suc rows) left
words_home zero zero left e = absurd (omega arith)
words_home zero (suc away) left e = ap (λ (n : ℕ). (0, true) ∷ replicate n (0, false)) (omega arith)
words_home (suc rows) away left e = ap (λ (ws : List Cell). (0, true) ∷ ws) (words_home rows away left e)

-- what is away stands behind the words of all rows
pub words_away : (rows away k : ℕ) → k < rows + away → (cell (words_of rows away) k).1 ≡ false → rows ≤ k
words_away zero away k lt e = omega arith
words_away (suc rows) away zero lt e = absurd (cc e)
words_away (suc rows) away (suc k) lt e = let rest = words_away rows away k (omega arith) e in omega arith

pub cells_away : (rows away k : ℕ) → k + 2 < length (cells_of rows away) → (cell (cells_of rows away) (k + 2)).1 ≡ false → rows ≤ k
cells_away rows away k lt e =
    let behind : k + 2 ≡ suc (suc k) = omega arith in
    words_away rows away k (omega (arith, words-length rows away, lt)) (ap (λ (n : ℕ). (cell (cells_of rows away) n).1) (sym behind) ∙ e)

pub cells_set : (x y c : Cell) (ws : List Cell) (k : ℕ) → set (x ∷ y ∷ ws) (k + 2) c ≡ x ∷ y ∷ set ws k c
cells_set x y c ws k = let behind : k + 2 ≡ suc (suc k) = omega arith in ap (λ (n : ℕ). set (x ∷ y ∷ ws) n c) behind
