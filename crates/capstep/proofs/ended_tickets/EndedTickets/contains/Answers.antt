use Rattle.std.proofs.Common.{◌≡◌, ◌==◌, ℕ, true, List, eq-eqb, sym, ap, subst, ◌∙◌}
use Rattle.std.proofs.lemmas.List.Folds.{list_any_at}
use Rattle.std.specs.List.{list_any}
use Rattle.std.specs.List.Sorted.{IsNonDecreasing}
use Rattle.capstep.proofs.EndNumbers.{found}
use Rattle.capstep.proofs.ended_tickets.EndedTickets.contains.Goals as goal

pub returns-in_default : goal.returns-in_default
returns-in_default c =
    c.is_ok.ensures.value
    ∙ found c.as_slice.result.now c.args.ticket.0 c.binary_search.result (subst IsNonDecreasing (sym c.as_slice.ensures.value) c.self.invariant) c.binary_search.ensures.position
    ∙ ap (list_any (λ number. number == c.args.ticket.0)) (c.as_slice.ensures.value ∙ c.self.view_is)

pub returns-in-Some : goal.returns-in-Some
returns-in-Some c =
    let p = λ (number : ℕ). number == c.args.ticket.0 in
    sym (subst (λ (numbers : List ℕ). list_any p numbers ≡ true) (c.deref-2.ensures.value ∙ c.self.view_is)
    (list_any_at p c.deref-2.result.now _ 0 c.in-Some.ensures.lookup.3.0 (ap p (sym (c.in-Some.ensures.lookup.3.1 0)) ∙ eq-eqb c.in-Some.number.now c.args.ticket.0 c.if-number-ticket.true)))
