-- Which inodes a step affects: one, or those of a set.
use Rattle.std.proofs.Common.{◌≡◌, ◌+◌, ◌-◌, ℕ, Bool, true, false, not, cond, ◌==◌, ◌||◌, ◌&&◌, inl, ◌⊎◌, Result, Ok, Err, OnOk, List, [], ◌∷◌, refl, sym, ap}
use Rattle.std.proofs.Common.{◌∙◌, Contains, true≢false, arith}
use Rattle.std.proofs.Math.Bool.{or-false}
use Rattle.std.proofs.lemmas.Bool.{eqb-true, false_from_ne_true}
use Rattle.std.specs.Cmp.{nat_cmp_total, unsigned_tied}
use Rattle.std.specs.Ordering.{eq_by_cmp, nat_cmp}
use Rattle.std.specs.FinSet as set
use Rattle.step_acts.proofs.InoSets.{added, at_more, none-there}
use Rattle.capcore.proofs.CommonPieces.{EntryRow, InoSet, Widens, second_true}

-- ---- one inode

-- a set of one has no other
pub one-inode : (ino : ℕ) → set.contains (set.insert (set.empty {R = nat_cmp}) ino) ≡ (λ other. other == ino)
one-inode ino i other =
    (set.contains-insert nat_cmp_total (set.empty {R = nat_cmp}) ino other
    ∙ ap (λ b. eq_by_cmp nat_cmp other ino || b) (none-there other) ∙ or-false (eq_by_cmp nat_cmp other ino) ∙ unsigned_tied other ino) i

pub one-counts : (ino : ℕ) → set.len (set.insert (set.empty {R = nat_cmp}) ino) ≡ 1
one-counts ino =
    set.len-insert nat_cmp_total (set.empty {R = nat_cmp}) ino
    ∙ ap (λ b. cond b (set.len (set.empty {R = nat_cmp})) (set.len (set.empty {R = nat_cmp}) + 1)) (none-there ino)
    ∙ ap (λ n. n + 1) (set.len-empty nat_cmp)

-- nor has any that counts one
pub none-besides : (inos : InoSet) (ino : ℕ) → set.len inos ≡ 1 → set.contains inos ino ≡ true → set.contains inos ≡ (λ other. other == ino)
none-besides inos ino one here = λ i other. by_test other (other == ino) refl i
  where
    by_test : (other : ℕ) (b : Bool) → (other == ino) ≡ b → set.contains inos other ≡ b
    by_test other true is = ap (set.contains inos) (eqb-true other ino is) ∙ here
    by_test other false away = false_from_ne_true (set.contains inos other) (λ there.
        let rest : InoSet = set.remove inos ino in
        let none : rest ≡ set.empty = set.empty_of_len rest (set.len-remove nat_cmp_total inos ino ∙ ap (λ b. cond b (set.len inos - 1) (set.len inos)) here ∙ ap (λ n. n - 1) one) in
        let left : set.contains rest other ≡ true =
        set.contains-remove nat_cmp_total inos ino other ∙ ap (λ b. not b && set.contains inos other) (unsigned_tied other ino ∙ away) ∙ there in
        true≢false (sym left ∙ ap (λ (t : InoSet). set.contains t other) none ∙ none-there other))

-- ---- where a client is: the inodes that are gathered for it

-- what was in a set stays there with one more
pub insert-widens : (old new : InoSet) (k : ℕ) → new ≡ set.insert old k → Widens old new
insert-widens old new k is q was = at_more k old new is q ∙ second_true (eq_by_cmp nat_cmp q k) (set.contains old q) was

-- of the rows that were gone through, each is on an inode that is reached
abbrev pub AreIncluded : InoSet → List EntryRow → List EntryRow → Type 0
AreIncluded inos all left = (row : EntryRow) → Contains all row → (Contains left row) ⊎ (set.contains inos row.holder.ino.0 ≡ true)

pub first-included : (inos : InoSet) (all : List EntryRow) → AreIncluded inos all all
first-included inos all row inside = inl inside

pub more-included : (a b : InoSet) (all left rest : List EntryRow) (row : EntryRow) → left ≡ row ∷ rest → b ≡ set.insert a row.holder.ino.0 → AreIncluded a all left → AreIncluded b all rest
more-included a b all left rest row is more so_far = grind (arith, added, insert-widens)

pub all-included : (inos : InoSet) (all left : List EntryRow) → left ≡ [] → AreIncluded inos all left → (row : EntryRow) → Contains all row → set.contains inos row.holder.ino.0 ≡ true
all-included inos all left none so_far row inside = grind arith

-- where there was memory for one more, it is among them
pub among-tried : {A E : Type 0} (k : ℕ) (old new : InoSet) (r : Result A E) → OnOk r (new ≡ set.insert old k) → OnOk r (set.contains new k ≡ true)
among-tried k old new (Ok x) ok = added k old new ok
among-tried k old new (Err e) ok = ok
