use Rattle.std.proofs.Common.{is_some, ◌≡◌, length, refl, sym, ap, subst, ◌∙◌, arith}
use Rattle.std.specs.FinSet as set
use Rattle.capstep.proofs.Noting.{changes-all}
use Rattle.capcore.proofs.Begun.{on_err, one-begun}
use Rattle.capcore.proofs.Common.{Affected, AffectsOne, AreCounted, Event, HoldAlike, Holder, InoSet, IsTable, KeptTable, Reply, StepOutput, Table, alike-less}
use Rattle.capcore.proofs.Common.{direct, known_of, none-judged, one-counts, one-inode, permitted_of, plain, room-for, says, still-there, touched, with_flush}
use Rattle.capcore.proofs.Flushed.{below-of_flush, flush-affects, flush-calls, flush-direct, flush-table}
use Rattle.capcore.specs.UnderWay.{state_of}
use Rattle.capcore.specs.declared.parts.ReplyDue.TheVariants.{Done}
use Rattle.capcore.specs.declared.parts.CoreState.{CoreState}
use Rattle.capcore.proofs.parts.CoreState.flush.Goals as goal

pub alter-requires : goal.alter-requires
alter-requires c = record { passed = flush-calls (plain c.args.self.now.scene) c.args.holder c.args.change.now c.requires.may.passed }

-- for want of memory all is as it was
pub returns-in_err-alter-clause-whole : goal.returns-in_err-alter-clause-whole
returns-in_err-alter-clause-whole c = rw c.in_err-alter.ensures.err (on_err _ c.requires.may.whole)

pub returns-clause-begun : goal.returns-clause-begun
returns-clause-begun c =
    let p : CoreState = c.args.self.now in
    let k : Holder = c.args.holder in
    let change = c.args.change.now in
    let e : Event = Event.Flush k.client k.ino change in
    let may = c.requires.may in
    let table : KeptTable = c.touch.new.self in
    let q : CoreState = record { scene = record p.scene { tree = c.alter.new.tree; table = table }; messages = p.messages } in
    let kept : table ≡ record { entries = touched p.scene.table.entries k; kept = c.renew_changed.new.table.kept } =
    c.touch.ensures ∙ ap (λ (t : KeptTable). record t { entries = touched t.entries k }) c.renew_changed.ensures.entries in
    let entries : table.entries ≡ touched p.scene.table.entries k = ap (λ (t : KeptTable). t.entries) kept in
    let sets : table.kept ≡ c.renew_changed.new.table.kept = ap (λ (t : KeptTable). t.kept) kept in
    let same : c.renew_changed.new.table.entries ≡ p.scene.table.entries = ap (λ (t : KeptTable). t.entries) c.renew_changed.ensures.entries in
    let output : StepOutput = record c.begin.new.self { changes = c.note_change.new.self } in
    let by_itself : direct (state_of p) e ≡ says (with_flush (state_of p) k change) Reply.Done = flush-direct (state_of p) k change may.passed in
    let alike : HoldAlike p.scene.table.entries table.entries = subst (HoldAlike p.scene.table.entries) (sym entries) (λ j f there. (f, there, refl)) in
    let begun = c.in_ok-begin.ensures in
    let none = ap length c.clear.ensures.items in
    let one = ap (λ (inos : InoSet). set.len inos) c.of.ensures ∙ one-counts k.ino.0 in
    let is : plain q.scene ≡ (with_flush (state_of p) k change).scene = λ i. record (plain p.scene) { tree = c.in_ok-alter.ensures.ok i; table = entries i } in
    one-begun p q output e k may (says (with_flush (state_of p) k change) Reply.Done) by_itself (refl, refl) (λ count given. below-of_flush count (state_of p) k change given) is refl
    (Affected.Inodes c.of.result) Done (ap set.contains c.of.ensures ∙ one-inode k.ino.0) refl refl refl (subst (AffectsOne k.ino.0 (state_of p)) (sym is) (flush-affects (state_of p) k change may.whole.0 may.table))
    (subst IsTable (sym entries) (flush-table (state_of p) k change may.table))
    (still-there p.scene.table.entries table.entries p.scene.table.kept q.scene.table.kept (λ j f there. ap is_some (alike j f there).1) (λ j f there. ap (λ known. known_of known j) sets ∙ c.renew_changed.ensures.pending j))
    (λ j f there. let was = alike j f there in ap (λ known. permitted_of known j) sets ∙ c.renew_changed.ensures.permitted p.scene.tree c.in_ok-alter.ensures.ok may.whole.2.1 j was.0 was.1) (alike-less p.scene.table.entries table.entries alike)
    (subst (λ (t : Table). AreCounted t p.scene.locks) (sym entries) may.whole.3) may.order
    (room-for c.begin.new.self output.changes output.judged c.waiting-waiting.result (length p.scene.locks.locks.queue) begun.room (omega (arith, c.waiting-waiting.ensures.waiting)))
    (none-judged output.judged (plain q.scene) begun.judged)
    (omega (arith, none, one, begun.places, c.clear.ensures.room, c.note_change.ensures.count, c.note_change.ensures.room, c.waiting-waiting.ensures.waiting))
    may.whole.1 tt
    (changes-all c.clear.new.self.items output.changes.items p.scene.tree c.alter.new.tree p.scene.sessions.sessions c.clear.ensures.items (c.note_change.ensures.lead p.scene.tree c.in_ok-alter.ensures.ok))
