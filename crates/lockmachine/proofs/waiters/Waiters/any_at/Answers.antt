use Rattle.std.proofs.Common.{◌≡◌, ◌≤◌, List, length, subst, ◌∙◌}
use Rattle.lockmachine.specs.declared.waiters.Waiter.{Waiter}
use Rattle.lockmachine.specs.Waiters.{AreSorted}
use Rattle.lockmachine.proofs.ByLock.{IsRead, any-past, any-read}
use Rattle.lockmachine.proofs.waiters.Waiters.any_at.Goals as goal

pub returns-in-Some : goal.returns-in-Some
returns-in-Some c =
    let ws : List Waiter = c.args.self.now in
    let seen : c.deref.result.now ≡ ws = c.deref.ensures.value ∙ c.self.view_is in
    any-read c.args.ino.0 ws c.count_below-lower.result c.in-Some.first.now (subst AreSorted c.self.view_is c.self.invariant.0)
    c.count_below-lower.ensures
    (subst (λ (l : List Waiter). IsRead l c.count_below-lower.result c.in-Some.first.now) seen c.in-Some.ensures.lookup.3)

pub returns-in-None : goal.returns-in-None
returns-in-None c =
    let ws : List Waiter = c.args.self.now in
    let seen : c.deref.result.now ≡ ws = c.deref.ensures.value ∙ c.self.view_is in
    any-past c.args.ino.0 ws c.count_below-lower.result (subst AreSorted c.self.view_is c.self.invariant.0)
    c.count_below-lower.ensures
    (subst (λ (l : List Waiter). length l ≤ c.count_below-lower.result) seen c.in-None.ensures.lookup.3)
