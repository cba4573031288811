use Rattle.std.proofs.Common.{◌≡◌, true, sym, ap, ◌∙◌}
use Rattle.std.specs.Option.{option_copied}
use Rattle.lockmachine.specs.Locks.{LockMap}
use Rattle.lockmachine.specs.Requests.{first_for}
use Rattle.lockmachine.specs.Scene.{head_in}
use Rattle.lockmachine.specs.Waiters.{queue_if}
use Rattle.lockmachine.proofs.ByLock.{head-is, no-head, seen-first}
use Rattle.lockmachine.proofs.Counted.{locks_are}
use Rattle.lockmachine.proofs.locks.Locks.head.Goals as goal

pub returns-in-Some : goal.returns-in-Some
returns-in-Some c =
    let asked : c.args.waits ≡ true = cc in
    head-is (first_for c.args.self.now.locks.queue c.args.ino.0 c.args.part) c.in-Some.first.now
    (sym (seen-first c.args.self.now.locks c.self.inside.queue.items c.self.inside.waiters (ap (λ (l : LockMap). l.queue) (locks_are c.self.view_is)) c.self.invariant.2 c.args.ino.0 c.args.part) ∙ sym c.first_at.ensures ∙ ap option_copied c.in-Some.is)
    ∙ ap (λ b. head_in (queue_if b c.args.self.now.locks.queue) c.args.ino.0 c.args.part) (sym asked)

pub returns-in-None : goal.returns-in-None
returns-in-None c =
    let asked : c.args.waits ≡ true = cc in
    no-head (first_for c.args.self.now.locks.queue c.args.ino.0 c.args.part)
    (sym (seen-first c.args.self.now.locks c.self.inside.queue.items c.self.inside.waiters (ap (λ (l : LockMap). l.queue) (locks_are c.self.view_is)) c.self.invariant.2 c.args.ino.0 c.args.part) ∙ sym c.first_at.ensures ∙ ap option_copied c.in-None.is)
    ∙ ap (λ b. head_in (queue_if b c.args.self.now.locks.queue) c.args.ino.0 c.args.part) (sym asked)
