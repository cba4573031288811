use Rattle.std.proofs.Common.{refl, sym, ap, ◌∙◌}
use Rattle.captable.specs.Tests.{ack_tests}
use Rattle.capstep.specs.Judge.{connected_tests}
use Rattle.capcore.proofs.Common.{EntryRequest, Scene, before, entry_event, first_failing, passed-front, plain, revoked_of}
use Rattle.capcore.proofs.judging.entry_refusal.Goals as goal

pub returns-in-None-connected_refusal : goal.returns-in-None-connected_refusal
returns-in-None-connected_refusal c = λ known.
    let s : Scene = plain c.args.scene.now in
    let k = c.args.holder in
    c.ack_refusal.ensures
    ∙ ap (λ caps. first_failing (ack_tests s.table k c.in-Ack.seq caps)) (c.revoked_of.ensures s refl known)
    ∙ sym (passed-front (connected_tests s k.client k.ino.0) (ack_tests s.table k c.in-Ack.seq (revoked_of s k)) (sym c.connected_refusal.ensures ∙ c.in-None-connected_refusal.is))
    ∙ ap (λ (request : EntryRequest). first_failing (before s (entry_event k.client k.ino request))) (sym c.in-Ack.is)
