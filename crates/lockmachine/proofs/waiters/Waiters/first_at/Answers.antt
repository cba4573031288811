use Rattle.std.proofs.Common.{◌≡◌, ◌≤◌, List, length, sym, ap, subst, ◌∙◌}
use Rattle.std.specs.Bool.{then_some}
use Rattle.std.specs.Option.{option_copied}
use Rattle.lockmachine.specs.declared.waiters.Waiter.{Waiter}
use Rattle.lockmachine.specs.Waiters.{AreSorted, lock_number}
use Rattle.lockmachine.proofs.ByLock.{IsRead, read-if, read-past}
use Rattle.lockmachine.proofs.waiters.Waiters.first_at.Goals as goal

pub returns-in-Some : goal.returns-in-Some
returns-in-Some c =
    let ws : List Waiter = c.args.self.now in
    let lock = lock_number c.args.ino.0 c.args.part in
    let seen : c.deref.result.now ≡ ws = c.deref.ensures.value ∙ c.self.view_is in
    let read : IsRead ws c.count_below-lower.result c.in-Some.first.now = subst (λ (l : List Waiter). IsRead l c.count_below-lower.result c.in-Some.first.now) seen c.in-Some.ensures.lookup.3 in
    ap option_copied (c.then_some.ensures ∙ ap (λ b. then_some b c.in-Some.first) c.is_for.ensures)
    ∙ read-if lock ws c.count_below-lower.result c.in-Some.first (subst AreSorted c.self.view_is c.self.invariant.0) c.count_below-lower.ensures read

pub returns-in-None : goal.returns-in-None
returns-in-None c =
    let ws : List Waiter = c.args.self.now in
    let seen : c.deref.result.now ≡ ws = c.deref.ensures.value ∙ c.self.view_is in
    sym (read-past (lock_number c.args.ino.0 c.args.part) ws c.count_below-lower.result (subst AreSorted c.self.view_is c.self.invariant.0) c.count_below-lower.ensures
    (subst (λ (l : List Waiter). length l ≤ c.count_below-lower.result) seen c.in-None.ensures.lookup.3))
