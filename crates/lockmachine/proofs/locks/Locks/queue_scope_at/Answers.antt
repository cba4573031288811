use Rattle.std.proofs.Common.{refl, ap, sym, ◌∙◌}
use Rattle.std.specs.List.{list_any}
use Rattle.lockmachine.specs.Locks.{LockMap}
use Rattle.lockmachine.specs.Requests.{waits_for}
use Rattle.lockmachine.proofs.ByLock.{any-waiter}
use Rattle.lockmachine.proofs.Counted.{locks_are}
use Rattle.lockmachine.proofs.locks.Locks.queue_scope_at.Goals as goal

pub returns-then-not-alone : goal.returns-then-not-alone
returns-then-not-alone c = refl

pub returns-then-any_at : goal.returns-then-any_at
returns-then-any_at c = c.requires search

pub returns : goal.returns
returns c = (
  c.requires search,
  sym
      (c.any_at.ensures ∙ any-waiter c.self.inside.queue.items c.self.inside.waiters c.self.invariant.2 c.args.ino.0
      ∙ ap (λ (l : LockMap). list_any (waits_for c.args.ino.0) l.queue) (locks_are c.self.view_is)) ∙ c.if-any_at.false,
)
