-- What an inode more makes of a set.
use Rattle.std.proofs.Common.{◌≡◌, ℕ, ◌≤◌, ◌+◌, true, false, cond, ◌||◌, Result, Ok, Err, OnOk, OnErr, ap, ◌∙◌, arith}
use Rattle.std.proofs.Math.Bool.{or-true}
use Rattle.std.specs.Cmp.{eq_by_cmp_equiv, nat_cmp_total}
use Rattle.std.specs.Ordering.{eq_by_cmp, nat_cmp}
use Rattle.std.specs.FinSet as set
use Rattle.step_acts.proofs.Common.{InoSet}
use Rattle.step_acts.specs.AffectedInodes.{Widens}

pub none-there : (k : ℕ) → set.contains (set.empty {R = nat_cmp}) k ≡ false
none-there k = set.contains-empty nat_cmp k

module _ (k : ℕ) (old new : InoSet) (is : new ≡ set.insert old k) where
  pub at_more : (q : ℕ) → set.contains new q ≡ (eq_by_cmp nat_cmp q k || set.contains old q)
  at_more q = ap (λ (t : InoSet). set.contains t q) is ∙ set.contains-insert nat_cmp_total old k q

  -- it is one of them
  pub added : set.contains new k ≡ true
  added = at_more k ∙ ap (λ b. b || set.contains old k) ((eq_by_cmp_equiv nat_cmp_total).refl k)

-- whether or not there was memory for it, what was in stays in
pub widens-tried : {A E : Type 0} (k : ℕ) (old new : InoSet) (r : Result A E) → OnOk r (new ≡ set.insert old k) → OnErr r (new ≡ old) → Widens old new
widens-tried k old new (Ok x) ok err ino there = at_more k old new ok ino ∙ ap (λ b. eq_by_cmp nat_cmp ino k || b) there ∙ or-true (eq_by_cmp nat_cmp ino k)
widens-tried k old new (Err e) ok err ino there = ap (λ (s : InoSet). set.contains s ino) err ∙ there

-- and there is one more at most
pub few-tried : {A E : Type 0} (k : ℕ) (old new : InoSet) (r : Result A E) → OnOk r (new ≡ set.insert old k) → OnErr r (new ≡ old) → set.len new ≤ set.len old + 1
few-tried k old new (Ok x) ok err = elim (set.contains old k) as (λ b. set.len new ≡ cond b (set.len old) (set.len old + 1) → set.len new ≤ set.len old + 1) [
  | true ↦ λ is. omega (arith, is)
  | false ↦ λ is. omega (arith, is)
] (ap (λ (s : InoSet). set.len s) ok ∙ set.len-insert nat_cmp_total old k)
few-tried k old new (Err e) ok err = let same = ap (λ (s : InoSet). set.len s) err in omega (arith, same)
