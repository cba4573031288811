-- Rows that are added one by one: what begins a legal history is legal.
use Rattle.std.proofs.Common.{◌≡◌, ℕ, zero, suc, ◌<◌, List, [], ◌∷◌, ◌++◌, length, take, drop, get_or, refl, ap, sym, ◌∙◌, subst, arith, append_assoc}
use mathlib.Core.List.{IsPrefix}
use Rattle.capstep.specs.declared.row.Row.{Row}
use Rattle.capstep.specs.Numbers.{AreNumbered}
use Rattle.capstep.specs.History.{IsLegal, Replays}
use Rattle.capstep.specs.State.{State}
use Rattle.snapshot.specs.Rows.{Legal}

no_row : (earlier later : List Row) (row : Row) → [] ≡ earlier ++ row ∷ later → ⊥
no_row [] later row is = cc
no_row (e ∷ earlier) later row is = cc

-- no row leads from the opening to itself
pub legal_none : (opening : State) → IsLegal opening [] opening
legal_none opening = record { replays = refl; numbered = λ earlier later row is. absurd (no_row earlier later row is) }

replays_begin : (first last : State) (xs ys : List Row) → Replays first (xs ++ ys) last → (mid : State) × Replays first xs mid
replays_begin first last [] ys run = (first, refl)
replays_begin first last (x ∷ xs) ys run = let rest = replays_begin run.0 last xs ys run.2 in (rest.0, (run.0, run.1, rest.1))

numbered_begin : (xs ys : List Row) → AreNumbered (xs ++ ys) → AreNumbered xs
numbered_begin xs ys all earlier later row is = all earlier (later ++ ys) row (ap (λ (rows : List Row). rows ++ ys) is ∙ append_assoc earlier (row ∷ later) ys)

pub legal_begin : (opening last : State) (xs ys : List Row) → IsLegal opening (xs ++ ys) last → Legal opening xs
legal_begin opening last xs ys legal =
    let run = replays_begin opening last xs ys legal.replays in
    record { last = run.0; is_legal = record { replays = run.1; numbered = numbered_begin xs ys legal.numbered } }

pub take_begins : {A : Type 0} (n : ℕ) (ys : List A) → IsPrefix (take n ys) ys
take_begins zero [] = ([], refl)
take_begins zero (y ∷ ys) = (y ∷ ys, refl)
take_begins (suc n) [] = ([], refl)
take_begins (suc n) (y ∷ ys) = let rest = take_begins n ys in (rest.0, ap (λ zs. y ∷ zs) rest.1)

pub split_at : {A : Type 0} (n : ℕ) (ys : List A) (y : A) → n < length ys → y ≡ get_or ys n y → (take n ys ++ y ∷ []) ++ drop (suc n) ys ≡ ys
split_at n [] y h e = absurd (omega arith)
split_at zero (z ∷ ys) y h e = ap (λ w. w ∷ ys) e
split_at (suc n) (z ∷ ys) y h e = ap (λ zs. z ∷ zs) (split_at n ys y (omega arith) e)

-- the rows up to one of them are legal
pub legal_more : (opening : State) (rows : List Row) (n : ℕ) (row : Row) → Legal opening rows → n < length rows → row ≡ get_or rows n row → Legal opening (take n rows ++ row ∷ [])
legal_more opening rows n row legal lt e =
    legal_begin opening legal.last (take n rows ++ row ∷ []) (drop (suc n) rows) (subst (λ (r : List Row). IsLegal opening r legal.last) (sym (split_at n rows row lt e)) legal.is_legal)
