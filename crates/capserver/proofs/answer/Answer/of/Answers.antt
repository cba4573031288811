use Rattle.std.proofs.Common.{refl}
use Rattle.capserver.proofs.answer.Answer.of.Goals.{in-None, in-Some}
use Rattle.capserver.proofs.answer.Answer.of.Goals as goal

-- the pass caught up, or it is as it was
pub returns-clause-legal : goal.returns-clause-legal
returns-clause-legal g c before =
    elim c.match-rows.branch [
      | in-Some w ↦ rw w.pass-is w.catch_up-fresh.ensures.legal
      | in-None w ↦ rw w.pass-is before
    ]

-- a proof of its own, so that another reply is refused at once
pub returns-clause-reply : goal.returns-clause-reply
returns-clause-reply c = λ _. refl
