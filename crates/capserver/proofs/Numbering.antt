-- Passes one by one.
use Rattle.std.proofs.Common.{◌≡◌, ℕ, zero, suc, ◌+◌, ◌<◌, ◌≤◌, List, [], ◌∷◌, ◌++◌, length, take, get_or, ap, subst, ◌∙◌, arith}
use mathlib.Core.List.{IsPrefix}
use Rattle.capstep.specs.declared.row.Row.{Row}
use Rattle.snapshot.proofs.Beginnings.{prefix_trans}
use Rattle.capserver.specs.Passes.{AllBegin, AllNew, PassState, pass_state}

-- one more new pass
pub new_more : (n m : ℕ) (ps : List PassState) (p : PassState) → AllNew n ps → p ≡ pass_state m 0 [] → m ≡ (n + length ps) + 1 → AllNew n (ps ++ p ∷ [])
new_more n m [] p h e is = let k : m ≡ n + 1 = omega arith in (e ∙ ap (λ k. pass_state k 0 []) k, tt)
new_more n m (q ∷ ps) p h e is = (h.0, new_more (n + 1) m ps p h.1 e (omega arith))

none_begin : (rows : List Row) (ps : List PassState) → AllBegin rows (take zero ps)
none_begin rows [] = tt
none_begin rows (p ∷ ps) = tt

-- one pass more of those whose rows begin these
pub begin_more : (rows : List Row) (n : ℕ) (ps : List PassState) (p : PassState) → AllBegin rows (take n ps) → n < length ps → p ≡ get_or ps n p → IsPrefix p.known rows → AllBegin rows (take (suc n) ps)
begin_more rows n [] p h lt e b = absurd (omega arith)
begin_more rows zero (q ∷ ps) p h lt e b = (subst (λ (r : PassState). IsPrefix r.known rows) e b, none_begin rows ps)
begin_more rows (suc n) (q ∷ ps) p h lt e b = (h.0, begin_more rows n ps p h.1 (omega arith) e b)

-- the first ones are all
pub begin_all : (rows : List Row) (n : ℕ) (ps : List PassState) → length ps ≤ n → AllBegin rows (take n ps) → AllBegin rows ps
begin_all rows n [] le h = tt
begin_all rows zero (q ∷ ps) le h = absurd (omega arith)
begin_all rows (suc n) (q ∷ ps) le h = (h.0, begin_all rows n ps (omega arith) h.1)

-- what begins some rows begins the longer history that they begin
pub begin_longer : (rows longer : List Row) (ps : List PassState) → AllBegin rows ps → IsPrefix rows longer → AllBegin longer ps
begin_longer rows longer [] h up = tt
begin_longer rows longer (p ∷ ps) h up = (prefix_trans p.known rows longer h.0 up, begin_longer rows longer ps h.1 up)
