use Rattle.std.proofs.Common.{◌≡◌, ◌==◌, List, filter, map, not, sym, ap, subst, ◌∙◌, arith}
use Rattle.std.specs.List.{position}
use Rattle.lockmachine.proofs.Positions.{no_position}
use Rattle.lockmachine.specs.declared.request.Request.{Request}
use Rattle.lockmachine.specs.Requests.{is_numbered}
use Rattle.lockmachine.specs.declared.waiters.Waiter.{Waiter}
use Rattle.lockmachine.specs.Counts.{CountedLocks}
use Rattle.lockmachine.specs.Locks.{IsLockMap, LockMap, request_at, without_request}
use Rattle.lockmachine.specs.Waiters.{StandAlike, waiter_of}
use Rattle.lockmachine.proofs.ByLock.{kept}
use Rattle.lockmachine.proofs.Queue.{none_taken, taken, without_request-stays}
use Rattle.lockmachine.proofs.Counted.{locks_are}
use Rattle.lockmachine.proofs.locks.Locks.take_request.Goals as goal

pub returns-in_err-place-clause-left : goal.returns-in_err-place-clause-left
returns-in_err-place-clause-left c =
    let none = no_position (is_numbered c.args.ticket.0) c.args.self.now.locks.queue (sym c.place_of.ensures ∙ c.in_err-place.was) in
    ap (λ (qs : List Request). record c.args.self.now { locks = record c.args.self.now.locks { queue = qs } }) (sym (none_taken (is_numbered c.args.ticket.0) c.args.self.now.locks.queue none))

pub returns-in_err-place-clause-taken : goal.returns-in_err-place-clause-taken
returns-in_err-place-clause-taken c =
    c.from_residual.ensures ∙ sym (no_position (is_numbered c.args.ticket.0) c.args.self.now.locks.queue (sym c.place_of.ensures ∙ c.in_err-place.was))

pub returns-clause-left : goal.returns-clause-left
returns-clause-left c =
    let at = ap (λ (l : LockMap). position (is_numbered c.args.ticket.0) l.queue) (locks_are c.self.view_is) ∙ sym c.place_of.ensures ∙ c.in_ok-place.was in
    let both = taken c.self.inside.queue.items c.args.ticket.0 c.in_ok-place.place c.remove.result c.self.invariant.0.rising at c.remove.ensures.value in
    ap (λ (qs : List Request). record { locks = record { states = c.self.inside.states.states; queue = qs; last = c.self.inside.last }; counts = c.self.inside.states.counts }) (c.remove.ensures.items ∙ both.1)
    ∙ ap (λ (l : CountedLocks). record l { locks = without_request l.locks c.args.ticket.0 }) c.self.view_is

pub returns-clause-taken : goal.returns-clause-taken
returns-clause-taken c =
    let at = ap (λ (l : LockMap). position (is_numbered c.args.ticket.0) l.queue) (locks_are c.self.view_is) ∙ sym c.place_of.ensures ∙ c.in_ok-place.was in
    let both = taken c.self.inside.queue.items c.args.ticket.0 c.in_ok-place.place c.remove.result c.self.invariant.0.rising at c.remove.ensures.value in
    sym both.0 ∙ ap (λ (l : LockMap). request_at l c.args.ticket.0) (locks_are c.self.view_is)

pub invariant_of-self : goal.invariant_of-self
invariant_of-self c =
    let old : LockMap = record { states = c.self.inside.states.states; queue = c.self.inside.queue.items; last = c.self.inside.last } in
    let at = ap (λ (l : LockMap). position (is_numbered c.args.ticket.0) l.queue) (locks_are c.self.view_is) ∙ sym c.place_of.ensures ∙ c.in_ok-place.was in
    let both = taken c.self.inside.queue.items c.args.ticket.0 c.in_ok-place.place c.remove.result c.self.invariant.0.rising at c.remove.ensures.value in
    let left : c.remove.new.self.items ≡ filter (λ q. not (is_numbered c.args.ticket.0 q)) c.self.inside.queue.items = c.remove.ensures.items ∙ both.1 in (
      subst (λ (qs : List Request). IsLockMap (record { states = c.self.inside.states.states; queue = qs; last = c.self.inside.last })) (sym left)
          (without_request-stays old c.args.ticket.0 c.self.invariant.0),
      omega (arith, c.self.invariant.1, c.remove.ensures.capacity),
      subst (λ (ws : List Waiter). StandAlike ws (map waiter_of c.remove.new.self.items)) (sym c.take_out.ensures)
          (subst (λ (qs : List Request). StandAlike (filter (λ w. not (w.ticket.0 == c.args.ticket.0)) c.self.inside.waiters) (map waiter_of qs)) (sym left)
          (kept c.self.inside.queue.items c.self.inside.waiters (λ w. not (w.ticket.0 == c.args.ticket.0)) c.self.invariant.2)),
    )
