use Rattle.std.proofs.Common.{rules, ◌≡◌, ◌==◌, List, map, sym, ap, subst, not, filter, ◌∙◌, arith}
use Rattle.std.proofs.lemmas.Fn.{filter_same}
use Rattle.lockmachine.specs.declared.request.Request.{Request}
use Rattle.lockmachine.specs.Requests.{is_of_client}
use Rattle.lockmachine.specs.Counts.{CountedLocks}
use Rattle.lockmachine.specs.Locks.{IsLockMap, LockMap, without_requests_of}
use Rattle.lockmachine.specs.declared.waiters.Waiter.{Waiter}
use Rattle.lockmachine.specs.Waiters.{StandAlike, waiter_of}
use Rattle.lockmachine.proofs.ByLock.{kept}
use Rattle.lockmachine.proofs.Queue.{without_requests_of-stays}
use Rattle.lockmachine.proofs.Counted.{locks_are}
use Rattle.lockmachine.proofs.locks.Locks.drop_requests_of.Goals as goal

pub invariant_of-self-else-is_empty : goal.invariant_of-self-else-is_empty
invariant_of-self-else-is_empty c =
    let left : c.retain.new.self.items ≡ filter (λ q. not (is_of_client c.args.client q)) c.self.inside.queue.items =
    filter_same _ (λ q. not (is_of_client c.args.client q)) _ (λ x b f' k. search rules) _ _ c.retain.ensures.filtered in (
      subst (λ (qs : List Request). IsLockMap (record { states = c.self.inside.states.states; queue = qs; last = c.self.inside.last })) (sym left)
          (without_requests_of-stays (record { states = c.self.inside.states.states; queue = c.self.inside.queue.items; last = c.self.inside.last }) c.args.client c.self.invariant.0),
      omega (arith, c.self.invariant.1, c.retain.ensures.capacity),
      subst (λ (ws : List Waiter). StandAlike ws (map waiter_of c.retain.new.self.items)) (sym c.drop_those_of.ensures)
          (subst (λ (qs : List Request). StandAlike (filter (λ w. not (w.client.0 == c.args.client.0)) c.self.inside.waiters) (map waiter_of qs)) (sym left)
          (kept c.self.inside.queue.items c.self.inside.waiters (λ w. not (w.client.0 == c.args.client.0)) c.self.invariant.2)),
    )

pub returns-then-is_empty : goal.returns-then-is_empty
returns-then-is_empty c =
    ap (λ (qs : List Request). record { locks = record { states = c.self.inside.states.states; queue = qs; last = c.self.inside.last }; counts = c.self.inside.states.counts })
    (filter_same _ (λ q. not (is_of_client c.args.client q)) _ (λ x b f' k. search rules) _ _ c.retain.ensures.filtered)
    ∙ ap (λ (l : CountedLocks). record l { locks = without_requests_of l.locks c.args.client }) c.self.view_is

pub returns-else-is_empty : goal.returns-else-is_empty
returns-else-is_empty c =
    ap (λ (qs : List Request). record { locks = record { states = c.self.inside.states.states; queue = qs; last = c.self.inside.last }; counts = c.self.inside.states.counts })
    (filter_same _ (λ q. not (is_of_client c.args.client q)) _ (λ x b f' k. search rules) _ _ c.retain.ensures.filtered)
    ∙ ap (λ (l : CountedLocks). record l { locks = without_requests_of l.locks c.args.client }) c.self.view_is
