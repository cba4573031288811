use Rattle.std.proofs.Common.{◌≡◌, ◌≤◌, ◌++◌, length, sym, ap, subst, ◌∙◌, arith}
use Rattle.std.specs.Option.{option_map}
use Rattle.capcore.specs.declared.settle.Affected.TheVariants.{Inodes}
use Rattle.capcore.proofs.Begun.{on_err}
use Rattle.capcore.proofs.Common.{AreChanges, ClientView, KeptScene, SessionTable, StepOutput, dropped_by, is_end, none-judged, plain, room-for}
use Rattle.capcore.proofs.Common.{session_changed, session_event, view, view_of}
use Rattle.capcore.proofs.Granted.{left-permitted}
use Rattle.capcore.proofs.SessionStep.{change-begun, few-messages, few-waiting, noted-few}
use Rattle.capcore.specs.UnderWay.{HasBegun, state_of}
use Rattle.capcore.specs.declared.parts.ReplyDue.TheVariants.{Dropped}
use Rattle.capcore.specs.declared.parts.Applied.{Applied}
use Rattle.capcore.specs.declared.parts.CoreState.{CoreState}
use Rattle.capcore.proofs.parts.CoreState.session_change.Goals as goal

-- for want of memory all is as it was
pub returns-in_err-change_tested-clause-whole : goal.returns-in_err-change_tested-clause-whole
returns-in_err-change_tested-clause-whole c = rw c.in_err-change_tested.ensures.err (on_err _ c.requires.may.whole)

pub returns-clause-begun : goal.returns-clause-begun
returns-clause-begun c =
    let p : CoreState = c.args.self.now in
    let client = c.args.client in
    let change = c.args.change in
    let ends = is_end change in
    let room = c.in_ok-inodes.ensures in
    let left_scene : KeptScene = c.drop_client_state.new.scene in
    let kept = c.renew_granted.new.scene.table.kept in
    let q : CoreState = record { scene = record left_scene { table = record left_scene.table { kept = kept } }; messages = c.drop_client_state.new.messages } in
    let output : StepOutput = record c.new.new.output { changes = c.start.new.self } in
    let effect : Applied = record { affected = Inodes c.in_ok-inodes.field-0.inodes; reply_due = Dropped c.drop_client_state.new.dropped } in
    let one = noted-few c.in_ok-inodes.field-0.note in
    let noted = ap length c.start.ensures.items in
    let is : plain left_scene ≡ (session_changed (state_of p) client change).scene =
    ap plain c.drop_client_state.ensures.rest ∙ (λ i. record (plain p.scene) { sessions = c.in_ok-change_tested.ensures.ok i; table = c.drop_client_state.ensures.table i; locks = c.drop_client_state.ensures.locks i }) in
    let fewer : length left_scene.locks.locks.queue ≤ length p.scene.locks.locks.queue = rw c.drop_client_state.ensures.locks (few-waiting ends p.scene.locks.locks client) in
    let few = few-messages ends p.messages.items client in
    let left = ap length c.drop_client_state.ensures.messages in
    subst (λ (s : KeptScene). HasBegun p (session_event client change) effect (record q { scene = s }) output) (sym c.renew_granted.ensures.rest)
    (change-begun p q output client change c.requires.may is c.drop_client_state.ensures.messages c.in_ok-inodes.field-0.inodes room.has_inodes
    (λ k f there. c.renew_granted.ensures.pending k ∙ ap (option_map (λ (sets : ClientView). sets.pending)) (c.drop_client_state.ensures.known k f there)) (c.renew_granted.ensures.permitted (state_of p) is
    (left-permitted p.scene.table.kept left_scene.table.kept (plain p.scene) ends client left_scene.table.entries c.drop_client_state.ensures.table c.drop_client_state.ensures.known c.requires.may.whole.2.1))
    (c.drop_client_state.ensures.counted c.requires.may.whole.3)
    c.drop_client_state.new.dropped (c.drop_client_state.ensures.dropped ∙ ap (λ ms. ms ++ dropped_by ends p.scene.locks.locks client) room.dropped.0)
    (room-for c.new.new.output output.changes output.judged (length p.scene.locks.locks.queue) (length left_scene.locks.locks.queue) room.room fewer) (none-judged output.judged (plain left_scene) room.judged)
    (omega (arith, fewer, one, noted, c.start.ensures.room, room.places))
    (omega (arith, few, left, fewer, c.drop_client_state.ensures.left, c.requires.may.whole.1))
    c.drop_client_state.ensures.room
    (subst (λ (s : KeptScene). AreChanges output.changes.items (view_of (state_of p)) (view s.tree s.sessions.sessions)) (sym c.drop_client_state.ensures.rest)
    (subst (λ (t : SessionTable). AreChanges output.changes.items (view_of (state_of p)) (view p.scene.tree t.sessions)) (sym c.in_ok-change_tested.ensures.ok)
    (let notes = room.note in rw c.start.ensures.items (notes.lead p.scene.tree p.scene.sessions)))))
