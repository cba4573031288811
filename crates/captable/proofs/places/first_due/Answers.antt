use Rattle.std.proofs.Common.{◌∙◌, sym, subst}
use Rattle.captable.specs.Places.{NoneDueBefore}
use Rattle.captable.proofs.NotDue.{step-nearer, step-none_due}
use Rattle.captable.proofs.places.first_due.Goals as goal

pub places-init : goal.places-init
places-init c = c.requires

pub places-smaller : goal.places-smaller
places-smaller c =
    step-nearer c.args.lists.now c.args.client c.places.place c.in-Some.key c.in-Some.is c.next_of_client-place.ensures.sound c.places.invariant c.next_of_client-place.result c.next_of_client-place.ensures.next

pub places-preserved : goal.places-preserved
places-preserved c =
    step-none_due c.args.lists.now c.args.client c.places.place c.in-Some.key c.in-Some.is c.next_of_client-place.ensures.sound c.places.invariant c.next_of_client-place.result c.next_of_client-place.ensures.next
    (sym c.is_due_at.ensures ∙ c.if-is_due_at.false)

pub returns-then-is_due_at-clause-none_due : goal.returns-then-is_due_at-clause-none_due
returns-then-is_due_at-clause-none_due c = subst (NoneDueBefore c.args.lists.now c.args.client) c.in-Some.is c.places.invariant

pub returns-in_default-clause-none_due : goal.returns-in_default-clause-none_due
returns-in_default-clause-none_due c = c.places.invariant
