use Rattle.std.proofs.Common.{◌≡◌, ◌+◌, ◌<◌, List, [], ◌∷◌, ◌++◌, length, map, sym, ap, subst, arith}
use Rattle.lockmachine.specs.declared.request.Request.{Request}
use Rattle.lockmachine.specs.declared.waiters.Waiter.{Waiter}
use Rattle.lockmachine.specs.Locks.{IsLockMap, LockMap, next_request}
use Rattle.lockmachine.specs.Waiters.{StandAlike, waiter_of}
use Rattle.lockmachine.proofs.ByLock.{added, as-many-wait, fills}
use Rattle.lockmachine.proofs.Queue.{with_request-stays}
use Rattle.lockmachine.proofs.Counted.{locks_are}
use Rattle.lockmachine.proofs.locks.Locks.enqueue_tested.Goals as goal

pub add-requires : goal.add-requires
add-requires c =
    let many = as-many-wait c.self.inside.queue.items c.self.inside.waiters c.self.invariant.2 in
    let same : length c.self.inside.queue.items ≡ length c.args.self.now.locks.queue = ap (λ (l : LockMap). length l.queue) (locks_are c.self.view_is) in
    let few : length c.args.self.now.locks.queue < 1024 = fills (length c.args.self.now.locks.queue) c.requires.room in
    omega arith

pub invariant_of-self : goal.invariant_of-self
invariant_of-self c =
    let old : LockMap = record { states = c.self.inside.states.states; queue = c.self.inside.queue.items; last = c.self.inside.last } in
    let same : length c.self.inside.queue.items ≡ length c.args.self.now.locks.queue = ap (λ (l : LockMap). length l.queue) (locks_are c.self.view_is) in
    let few : length c.args.self.now.locks.queue < 1024 = fills (length c.args.self.now.locks.queue) c.requires.room in
    let room : length c.self.inside.queue.items < 1024 = omega arith in
    let more : StandAlike c.add.new.self (c.self.inside.waiters ++ waiter_of (next_request old c.args.client c.args.ino c.args.operation) ∷ []) =
    subst (λ (w : Waiter). StandAlike c.add.new.self (c.self.inside.waiters ++ w ∷ [])) c.of.ensures c.add.ensures in (
      subst (λ (qs : List Request). IsLockMap (record { states = c.self.inside.states.states; queue = qs; last = c.self.inside.last + 1 })) (sym c.in-Ok.ensures.items)
          (with_request-stays old c.args.client c.args.ino c.args.operation c.self.invariant.0 room),
      omega (arith, c.self.invariant.1, c.push.ensures.capacity),
      subst (λ (qs : List Request). StandAlike c.add.new.self (map waiter_of qs)) (sym c.in-Ok.ensures.items)
          (added c.self.inside.queue.items (next_request old c.args.client c.args.ino c.args.operation) c.self.inside.waiters c.add.new.self c.self.invariant.2 more),
    )
