use Rattle.std.proofs.Common.{rules, of_calls, ltb, ℕ, ◌≤◌, ◌<◌, List, length, sym, subst, ◌∙◌}
use Rattle.std.proofs.lemmas.Bool.{ltb-false, ltb-true}
use Rattle.std.proofs.lemmas.List.Sorted.{IsPartitionPoint-from_clause, IsPartitionedBy-ltb}
use Rattle.lockmachine.specs.declared.waiters.Waiter.{Waiter}
use Rattle.lockmachine.specs.Waiters.{AreLower, AreSorted, lock_number, lock_of}
use Rattle.lockmachine.proofs.ByLock.{all-lower, lower-at, none-lower}
use Rattle.lockmachine.proofs.waiters.Waiters.count_below.Goals as goal

pub returns-then-not-is_below : goal.returns-then-not-is_below
returns-then-not-is_below c =
    let lock = lock_number c.args.ino.0 c.args.part in
    let sorted : AreSorted c.deref.result.now = subst AreSorted (sym c.deref.ensures.value) c.self.invariant.0 in
    let least = ltb-false (lock_of c.in-Some-Some.lowest.now) lock (sym c.is_below.ensures ∙ c.if-not-is_below.true) in
    subst (λ (ws : List Waiter). AreLower lock ws 0) (c.deref.ensures.value ∙ c.self.view_is)
    (none-lower lock c.deref.result.now sorted (λ d. subst (λ (w : Waiter). lock ≤ lock_of w) (c.in-Some-Some.ensures.item.3.1 d) least))

pub returns-then-is_below : goal.returns-then-is_below
returns-then-is_below c =
    let lock = lock_number c.args.ino.0 c.args.part in
    let sorted : AreSorted c.deref-2.result.now = subst AreSorted (sym c.deref-2.ensures.value) c.self.invariant.0 in
    let most = ltb-true (lock_of c.in-Some-Some.highest.now) lock (sym c.is_below-2.ensures ∙ c.if-is_below.true) in
    let all = all-lower lock c.deref-2.result.now sorted (λ d. subst (λ (w : Waiter). lock_of w < lock) (c.in-Some-Some.ensures'.item.3.1 d) most) in
    subst (λ (n : ℕ). AreLower lock c.args.self.now n) (c.deref-2.ensures.len ∙ sym c.len.ensures)
    (subst (λ (ws : List Waiter). AreLower lock ws (length c.deref-2.result.now)) (c.deref-2.ensures.value ∙ c.self.view_is) all)

pub returns : goal.returns
returns c =
    let lock = lock_number c.args.ino.0 c.args.part in
    let sorted : AreSorted c.deref-3.result.now = subst AreSorted (sym c.deref-3.ensures.value) c.self.invariant.0 in
    let parted = IsPartitionedBy-ltb lock_of c.deref-3.result.now lock sorted in
    let point = IsPartitionPoint-from_clause (λ w. ltb (lock_of w) lock) _ _ c.partition_point.ensures.partitioned parted (λ a r q k. search (rules, of_calls)) in
    subst (λ (ws : List Waiter). AreLower lock ws c.partition_point.result) (c.deref-3.ensures.value ∙ c.self.view_is)
    (lower-at lock c.deref-3.result.now c.partition_point.result c.partition_point.ensures.bound point)
