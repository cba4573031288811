use Rattle.std.proofs.Common.{sym, ap, ◌∙◌}
use Rattle.std.specs.Option.{option_copied}
use Rattle.lockmachine.specs.declared.waiters.Waiter.{Waiter}
use Rattle.lockmachine.specs.Locks.{LockMap, lock_at}
use Rattle.lockmachine.specs.Moves.{is_served_in}
use Rattle.lockmachine.specs.Requests.{first_for}
use Rattle.lockmachine.proofs.ByLock.{seen-first}
use Rattle.lockmachine.proofs.FirstServed.{none-served, served-is}
use Rattle.lockmachine.proofs.Counted.{locks_are}
use Rattle.lockmachine.proofs.locks.Locks.first_where_served.Goals as goal

pub returns-in_err-first-clause-number : goal.returns-in_err-first-clause-number
returns-in_err-first-clause-number c =
    c.from_residual.ensures ∙ none-served c.args.self.now.locks (first_for c.args.self.now.locks.queue c.args.ino.0 c.args.part)
    (sym (seen-first c.args.self.now.locks c.self.inside.queue.items c.self.inside.waiters (ap (λ (l : LockMap). l.queue) (locks_are c.self.view_is)) c.self.invariant.2 c.args.ino.0 c.args.part) ∙ sym c.first_at.ensures ∙ ap option_copied c.in_err-first.was)

pub returns-clause-number : goal.returns-clause-number
returns-clause-number c =
    c.then_some.ensures
    ∙ served-is c.args.self.now.locks (first_for c.args.self.now.locks.queue c.args.ino.0 c.args.part) c.in_ok-first.first.now
    (sym (seen-first c.args.self.now.locks c.self.inside.queue.items c.self.inside.waiters (ap (λ (l : LockMap). l.queue) (locks_are c.self.view_is)) c.self.invariant.2 c.args.ino.0 c.args.part) ∙ sym c.first_at.ensures ∙ ap option_copied c.in_ok-first.was) c.serves.result
    (λ q same. c.serves.ensures ∙ ap (λ (v : Waiter). is_served_in (lock_at c.args.self.now.locks v.ino.0 v.part) v.head) (sym same))
