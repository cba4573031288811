use Rattle.std.specs.Prelude.{Err, IfOk, Ok, Result}
use Rattle.capserver.proofs.server.CapServer.call.Goals as goal

answered_as : {T E : Type 0} → (Said Fact : T → Type 0) → ((x : T) → Said x → Fact x) → (result : Result T E) → IfOk result Said → IfOk result Fact
answered_as Said Fact more (Ok x) said = more x said
answered_as Said Fact more (Err e) said = tt

-- the state is the one that was found under the lock
pub returns-clause-answered : goal.returns-clause-answered
returns-clause-answered g c =
    answered_as _ _ (λ answer promised. record { old = c.deref_mut.result.now; led = c.answer-answer.ensures.led; new = c.answer-answer.new.self; promised = promised }) c.answer-answer.result c.answer-answer.ensures.promised
