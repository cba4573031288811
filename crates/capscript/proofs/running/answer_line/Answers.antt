use Rattle.texts.specs.Watched.{inner_of}
use Rattle.capscript.proofs.Histories.{event_answered, event_stopped, read_said, stopped_unread}
use Rattle.capscript.proofs.running.answer_line.Goals as goal

pub returns-in-Some-clause-ok : goal.returns-in-Some-clause-ok
returns-in-Some-clause-ok g c =
    let known = g.W.Write.contents in
    let text = c.args.text.now in
    event_answered c.args.core.now c.answer_event.new.core text c.in-Some.event (known (inner_of c.args.writer.now)) (known (inner_of c.answer_event.new.writer)) c.answer_event.result
    (read_said c.in_ok-event.field-0 text c.in-Some.field-0-0 c.in-Some.event c.in_ok-event.ensures.event c.in-Some.is) c.answer_event.ensures.ok

pub returns-in-Some-clause-err : goal.returns-in-Some-clause-err
returns-in-Some-clause-err g c =
    let known = g.W.Write.contents in
    let text = c.args.text.now in
    event_stopped c.args.core.now c.answer_event.new.core c.args.number text c.in-Some.event (known (inner_of c.args.writer.now)) (known (inner_of c.answer_event.new.writer)) c.answer_event.result
    (read_said c.in_ok-event.field-0 text c.in-Some.field-0-0 c.in-Some.event c.in_ok-event.ensures.event c.in-Some.is) c.answer_event.ensures.err c.answer_event.ensures.memory c.answer_event.ensures.part

pub returns-in_err-event-clause-err : goal.returns-in_err-event-clause-err
returns-in_err-event-clause-err g c =
    stopped_unread c.args.core.now c.args.number c.args.text.now (g.W.Write.contents (inner_of c.args.writer.now)) c.in_err-event.field-0.0 c.from_residual.result c.from_residual.ensures.1 c.in_err-event.ensures.err
