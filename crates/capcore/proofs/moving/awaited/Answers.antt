use Rattle.std.proofs.Common.{rules, tests, ◌≡◌, Some, unwrap_or, sym, ap, ◌∙◌}
use Rattle.std.proofs.lemmas.Iterator.{YieldsList-from_slice}
use Rattle.std.proofs.lemmas.Iterator.Search.{position_from_yields_List}
use Rattle.std.specs.List.{find, position}
use Rattle.capstep.proofs.Taking.{none_taken, taken}
use Rattle.lockmachine.proofs.Positions.{no_position}
use Rattle.capcore.proofs.Common.{Reply, awaited_as, but_for, is_of_ticket, outcome_reply}
use Rattle.capcore.proofs.moving.awaited.Goals.{After-into_reply, After-position}
use Rattle.capcore.proofs.moving.awaited.Goals as goal

placed : (c : After-position) → c.position.result ≡ position (is_of_ticket c.args.ticket) c.args.due.now.items
placed c = position_from_yields_List (is_of_ticket c.args.ticket) _ _ c.position.result c.position.ensures.ran (YieldsList-from_slice c.args.due.now.items (search rules)) (λ x b q k. search (rules, tests))

-- ---- it waits

pub returns-in_default-clause-reply : goal.returns-in_default-clause-reply
returns-in_default-clause-reply c =
    ap (awaited_as c.args.ticket) (sym (no_position (is_of_ticket c.args.ticket) c.args.due.now.items (sym (placed (goal.at.returns-in_default-clause-reply c).After-position) ∙ c.in_default.is)))

pub returns-in_default-clause-left : goal.returns-in_default-clause-left
returns-in_default-clause-left c =
    none_taken c.args.ticket c.args.due.now.items (no_position (is_of_ticket c.args.ticket) c.args.due.now.items (sym (placed (goal.at.returns-in_default-clause-left c).After-position) ∙ c.in_default.is))

-- ---- it ended

both : (c : After-into_reply) → position (is_of_ticket c.args.ticket) c.args.due.now.items ≡ Some c.in-Some.place
    → (c.remove.new.self.items ≡ but_for c.args.ticket c.args.due.now.items)
    × (unwrap_or c.into_reply.result (Reply.Waiting c.args.ticket) ≡ awaited_as c.args.ticket (find (is_of_ticket c.args.ticket) c.args.due.now.items))
both c at =
    let own = taken c.args.due.now.items c.args.ticket c.in-Some.place c.remove.result c.requires.differ at c.remove.ensures.value in
    (c.remove.ensures.items ∙ own.1, ap (λ o. unwrap_or o (Reply.Waiting c.args.ticket)) (c.into_reply.ensures ∙ ap outcome_reply c.into_outcome.ensures) ∙ ap (awaited_as c.args.ticket) (sym own.0))

pub returns-in-Some-into_reply-clause-reply : goal.returns-in-Some-into_reply-clause-reply
returns-in-Some-into_reply-clause-reply c =
    ap (λ o. unwrap_or o (Reply.Waiting c.args.ticket)) (sym c.in-Some-into_reply.is) ∙ (both (goal.at.returns-in-Some-into_reply-clause-reply c).After-into_reply (sym (placed (goal.at.returns-in-Some-into_reply-clause-reply c).After-position) ∙ c.in-Some.is)).1

pub returns-in-Some-into_reply-clause-left : goal.returns-in-Some-into_reply-clause-left
returns-in-Some-into_reply-clause-left c = (both (goal.at.returns-in-Some-into_reply-clause-left c).After-into_reply (sym (placed (goal.at.returns-in-Some-into_reply-clause-left c).After-position) ∙ c.in-Some.is)).0

pub returns-in-None-clause-reply : goal.returns-in-None-clause-reply
returns-in-None-clause-reply c =
    ap (λ o. unwrap_or o (Reply.Waiting c.args.ticket)) (sym c.in-None.is) ∙ (both (goal.at.returns-in-None-clause-reply c).After-into_reply (sym (placed (goal.at.returns-in-None-clause-reply c).After-position) ∙ c.in-Some.is)).1

pub returns-in-None-clause-left : goal.returns-in-None-clause-left
returns-in-None-clause-left c = (both (goal.at.returns-in-None-clause-left c).After-into_reply (sym (placed (goal.at.returns-in-None-clause-left c).After-position) ∙ c.in-Some.is)).0
