use Rattle.std.proofs.Common.{rules, ◌≡◌, ◌==◌, not, filter, sym, ap, subst, ◌∙◌, arith}
use Rattle.std.proofs.lemmas.Fn.{filter_same}
use Rattle.std.proofs.lemmas.List.Kept.{IsNonDecreasingBy-filter}
use Rattle.lockmachine.specs.Waiters.{AreSorted, lock_of}
use Rattle.lockmachine.proofs.waiters.Waiters.take_out.Goals as goal
use Rattle.lockmachine.proofs.waiters.Waiters.take_out.Goals.{After-retain}

-- the others are left
left : (c : After-retain) → c.retain.new.self.items ≡ filter (λ w. not (w.ticket.0 == c.args.ticket.0)) c.self.inside.list.items
left c = filter_same _ (λ w. not (w.ticket.0 == c.args.ticket.0)) _ (λ x b f' k. search rules) _ _ c.retain.ensures.filtered

pub invariant_of-self : goal.invariant_of-self
invariant_of-self c = (
  subst AreSorted (sym (left c)) (IsNonDecreasingBy-filter lock_of (λ w. not (w.ticket.0 == c.args.ticket.0)) c.self.inside.list.items c.self.invariant.0),
  omega (arith, c.self.invariant.1, c.retain.ensures.capacity),
)

pub returns : goal.returns
returns c = left c ∙ ap (filter (λ w. not (w.ticket.0 == c.args.ticket.0))) c.self.view_is
