use Rattle.std.proofs.Common.{rules, of_calls, not, ltb, List, [], ◌∷◌, ◌++◌, filter, sym, ap, subst, ◌∙◌, arith}
use Rattle.std.specs.List.{insert}
use Rattle.std.proofs.lemmas.List.Sorted.{IsPartitionPoint-from_clause}
use Rattle.lockmachine.specs.declared.waiters.Waiter.{Waiter}
use Rattle.lockmachine.specs.Waiters.{AreSorted, StandAlike, is_at, lock_of}
use Rattle.lockmachine.proofs.ByLock.{parted-above, placed}
use Rattle.lockmachine.proofs.waiters.Waiters.add.Goals as goal
use Rattle.lockmachine.proofs.waiters.Waiters.add.Goals.{In-Ok}

both : (c : In-Ok) → AreSorted (insert c.self.inside.list.items c.partition_point-place.result c.args.waiter)
    × StandAlike (insert c.self.inside.list.items c.partition_point-place.result c.args.waiter) (c.self.inside.list.items ++ c.args.waiter ∷ [])
both c =
    let w = c.args.waiter in
    let i = c.partition_point-place.result in
    let sorted : AreSorted c.deref.result.now = subst AreSorted (sym c.deref.ensures.value) c.self.invariant.0 in
    let parted = parted-above c.deref.result.now w sorted in
    let point = IsPartitionPoint-from_clause (λ x. not (ltb (lock_of w) (lock_of x))) _ _ c.partition_point-place.ensures.partitioned parted (λ a r q k. search (rules, of_calls)) in
    subst (λ (ws : List Waiter). AreSorted (insert ws i w) × StandAlike (insert ws i w) (ws ++ w ∷ [])) c.deref.ensures.value
    (placed c.deref.result.now i w sorted c.partition_point-place.ensures.bound point)

pub invariant_of-self : goal.invariant_of-self
invariant_of-self c = (subst AreSorted (sym c.in-Ok.ensures.items) (both c).0, omega (arith, c.self.invariant.1, c.insert.ensures.capacity))

pub returns : goal.returns
returns c = λ lock.
    ap (filter (is_at lock)) c.in-Ok.ensures.items ∙ (both c).1 lock ∙ ap (λ (ws : List Waiter). filter (is_at lock) (ws ++ c.args.waiter ∷ [])) c.self.view_is
