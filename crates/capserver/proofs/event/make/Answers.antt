use Rattle.std.proofs.Common.{rules, subst}
use Rattle.capbits.specs.declared.ids.PassId.{PassId}
use Rattle.capcore.specs.Promised.{IsPromised}
use Rattle.capserver.proofs.event.make.Goals as goal

-- the core promises it by the number of the pass
pub returns-clause-promised : goal.returns-clause-promised
returns-clause-promised g c =
    subst (λ (pass : PassId). IsPromised c.args.core.now pass c.args.event c.in_ok-reply.reply c.apply.new.self) (λ i. record { 0 = c.number.ensures i }) c.in_ok-reply.ensures.promised

-- and a history that is full is answered as such, by a proof of its own: a body that answers without the core is refused without a long search
pub returns-clause-full : goal.returns-clause-full
returns-clause-full g c = search rules
