use Rattle.capserver.proofs.Holding.{fresh_of, known_of}
use Rattle.capserver.proofs.locked.Locked.answer.Goals as goal

pub returns-clause-fresh : goal.returns-clause-fresh
returns-clause-fresh g c there =
    let all = known_of c.publish-rows.result c.step.new.self.rows c.of.new.pass.known _ (c.of.ensures.fresh there) c.publish-rows.ensures.all in
    rw c.of.ensures.reply
    (fresh_of c.args.self.now c.step.new.self c.args.pass.now c.step.new.pass c.look.new.self c.of.new.pass c.args.event c.in_ok-reply.reply
    c.in_ok-reply.ensures.promised.next c.in_ok-reply.ensures.calls c.look.ensures.known c.of.ensures.known all.0 all.1)

-- what is published changes nothing of the core
pub returns-clause-promised : goal.returns-clause-promised
returns-clause-promised g c = rw c.publish-rows.ensures.same (rw c.of.ensures.reply c.in_ok-reply.ensures.promised)

pub returns-clause-legal : goal.returns-clause-legal
returns-clause-legal g c = c.of.ensures.legal c.look.ensures.legal
