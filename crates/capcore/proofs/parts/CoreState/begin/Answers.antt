use Rattle.std.proofs.Common.{◌≡◌, length, refl, sym, ap, subst, arith}
use Rattle.capcore.proofs.EntryStays.{others-have_all, request-less}
use Rattle.capcore.proofs.EntryRequests.{affects-of_request, below-of_request, effect-affected, keeps-of_request}
use Rattle.capcore.specs.Begun.{AreCountedIn}
use Rattle.step_acts.specs.Known.{StillKept}
use Rattle.capcore.specs.EntryRequest.{table_after}
use Rattle.capcore.proofs.Begun.{on_err, one-begun}
use Rattle.capcore.proofs.Common.{Affected, Event, Holder, Scene, State, StepOutput, changes-still, effect, effect_unless, entry_event, none-judged, plain}
use Rattle.capcore.proofs.Common.{request-table, room-for, view_of}
use Rattle.capcore.proofs.EntryWhole.{effect-reply}
use Rattle.capcore.proofs.Unaffected.{kept_scene}
use Rattle.capcore.specs.UnderWay.{HasBegun, MayBegin, event_of, state_of}
use Rattle.capcore.specs.declared.parts.ReplyDue.TheVariants.{Requested}
use Rattle.capcore.specs.declared.parts.Applied.{Applied}
use Rattle.capcore.specs.declared.parts.LockEvent.{LockEvent}
use Rattle.capcore.specs.declared.parts.CoreState.{CoreState}
use Rattle.capcore.proofs.parts.CoreState.begin.Goals as goal

-- for want of memory all is as it was
pub returns-in_err-apply_request-in-OfEntry-clause-whole : goal.returns-in_err-apply_request-in-OfEntry-clause-whole
returns-in_err-apply_request-in-OfEntry-clause-whole c = rw c.in_err-apply_request-in-OfEntry.ensures.err (on_err _ c.requires.may.whole)

pub returns-in_ok-apply_request-in-OfEntry-clause-begun : goal.returns-in_ok-apply_request-in-OfEntry-clause-begun
returns-in_ok-apply_request-in-OfEntry-clause-begun c =
    let p : CoreState = c.args.self.now in
    let k : Holder = c.in-OfEntry.holder in
    let request = c.in-OfEntry.request in
    let e : Event = entry_event k.client k.ino request in
    let may : MayBegin p e = subst (λ (a : LockEvent). MayBegin p (event_of a)) c.in-OfEntry.is c.requires.may in
    let now = c.apply_request.new.scene.table.kept in
    let counts = c.apply_request.new.scene.locks.counts in
    let after : Scene = record (plain p.scene) { table = table_after (plain p.scene) k request } in
    let ok : plain c.apply_request.new.scene ≡ after = c.in_ok-apply_request-in-OfEntry.ensures.ok in
    let q : CoreState = record { scene = kept_scene after now counts; messages = p.messages } in
    let output : StepOutput = record c.begin.new.self { changes = c.clear.new.self } in
    let old : State = state_of p in
    let requested : Applied = record { affected = Affected.Entry k; reply_due = Requested k request } in
    let kept = subst (λ (s : Scene). StillKept (plain p.scene) s.table p.scene.table.kept now) ok c.apply_request.ensures.kept in
    let counted : AreCountedIn q.scene = subst (λ (s : Scene). AreCountedIn (kept_scene s now counts)) ok (c.apply_request.ensures.counted may.whole.3) in
    let begun = c.in_ok-begin-in-OfEntry.ensures in
    let none = ap length c.clear.ensures.items in
    subst (λ (a : LockEvent). HasBegun p (event_of a) requested (record q { scene = c.apply_request.new.scene }) output) (sym c.in-OfEntry.is)
    (subst (λ (s : Scene). HasBegun p e requested (record q { scene = kept_scene s now counts }) output) (sym ok)
    (one-begun p q output e k may (effect old e) (ap (effect_unless old e) may.passed) (keeps-of_request old k request) (below-of_request old k request may.table may.passed)
    (sym (ap (λ (s : State). s.scene) (effect-affected old k.client k.ino request))) refl requested.affected requested.reply_due refl (sym (effect-reply old k.client k.ino request)) refl refl
    (affects-of_request old k request may.table may.passed may.whole.0) (request-table old k request may.table may.passed) kept.known (kept.permitted may.whole.2.1) (request-less (plain p.scene) k request) counted may.order
    (room-for c.begin.new.self output.changes output.judged c.waiting-waiting.result (length p.scene.locks.locks.queue) begun.room (omega (arith, c.waiting-waiting.ensures.waiting)))
    (none-judged output.judged after begun.judged)
    (omega (arith, none, begun.places, c.clear.ensures.room, c.waiting-waiting.ensures.waiting), others-have_all p.scene.table.kept now old k request may.whole.0 may.whole.2.0 kept.known)
    may.whole.1 tt (changes-still output.changes.items (view_of old) c.clear.ensures.items)))
