use Rattle.std.proofs.Common.{◌∙◌, sym, ap, is_some}
use Rattle.std.specs.Option.{option_map}
use Rattle.cap_arena.specs.Lists.{OfClient, keys}
use Rattle.captable.specs.declared.polls.Poll.{Poll}
use Rattle.captable.specs.Places.{is_due_at}
use Rattle.captable.proofs.Placed.{none_due-end}
use Rattle.captable.proofs.polls.place_to_poll_from.Goals as goal

pub returns-in-Some-clause-none_due : goal.returns-in-Some-clause-none_due
returns-in-Some-clause-none_due c = c.requires.none_due c.args.client c.in-Some.poll.now.place (ap (option_map (λ (poll : Poll). poll.place)) (sym c.in-Some.ensures))

pub returns-in-None-clause-none_due : goal.returns-in-None-clause-none_due
returns-in-None-clause-none_due c =
    let t = c.args.lists.now in
    none_due-end (keys t (OfClient c.args.client)) (is_due_at t) (ap (λ o. is_some (option_map (λ (poll : Poll). poll.place) o)) c.in-None.ensures ∙ c.requires.placed c.args.client)
