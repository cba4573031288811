use Rattle.std.proofs.Common.{sym, ap, ◌∙◌}
use Rattle.std.specs.List.{find}
use Rattle.std.specs.Option.{option_copied}
use Rattle.lockmachine.specs.Locks.{LockMap}
use Rattle.lockmachine.specs.Requests.{first_for, part_of_operation}
use Rattle.lockmachine.specs.Waiters.{is_at, lock_number}
use Rattle.lockmachine.proofs.ByLock.{no-number, number-is, seen-first}
use Rattle.lockmachine.proofs.Counted.{locks_are}
use Rattle.lockmachine.proofs.locks.Locks.is_first.Goals as goal

pub returns-in-Some : goal.returns-in-Some
returns-in-Some c =
    let part = part_of_operation c.args.request.now.operation in
    let ino = c.args.request.now.ino.0 in
    number-is (first_for c.args.self.now.locks.queue ino part) c.in-Some.first.now c.args.request.now.ticket.0
    (sym (seen-first c.args.self.now.locks c.self.inside.queue.items c.self.inside.waiters (ap (λ (l : LockMap). l.queue) (locks_are c.self.view_is)) c.self.invariant.2 ino part)
    ∙ sym (c.first_at.ensures ∙ ap (λ p. find (is_at (lock_number ino p)) c.self.inside.waiters) c.part.ensures) ∙ ap option_copied c.in-Some.is)

pub returns-in-None : goal.returns-in-None
returns-in-None c =
    let part = part_of_operation c.args.request.now.operation in
    let ino = c.args.request.now.ino.0 in
    no-number (first_for c.args.self.now.locks.queue ino part) c.args.request.now.ticket.0
    (sym (seen-first c.args.self.now.locks c.self.inside.queue.items c.self.inside.waiters (ap (λ (l : LockMap). l.queue) (locks_are c.self.view_is)) c.self.invariant.2 ino part)
    ∙ sym (c.first_at.ensures ∙ ap (λ p. find (is_at (lock_number ino p)) c.self.inside.waiters) c.part.ensures) ∙ ap option_copied c.in-None.is)
