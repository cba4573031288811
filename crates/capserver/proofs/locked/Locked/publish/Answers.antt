use Rattle.std.proofs.Common.{MatchOption, Option, ap, subst, sym}
use mathlib.Core.List.{IsPrefix}
use Rattle.capstep.specs.History.{CoreValue}
use Rattle.snapshot.specs.Publishing.{Publishing}
use Rattle.capserver.specs.Held.{IsHeld}
use Rattle.snapshot.proofs.Publishing.{held_of}
use Rattle.capserver.proofs.Holding.{all_of, held_mended, held_shown, legal_of, ready_of, room_of}
use Rattle.capserver.proofs.locked.Locked.publish.Given.{Over}
use Rattle.capserver.proofs.locked.Locked.publish.Goals as goal

-- what stood under the lock when who publishes was taken out
held : (g : Over) (c : goal.After-sessions g) → IsHeld c.self.inside.core c.self.inside.calls.total c.in-Some.publisher
held g c = held_of c.self.inside.publisher c.take.result c.in-Some.publisher (IsHeld c.self.inside.core c.self.inside.calls.total) c.self.invariant.4 c.take.ensures.value c.in-Some.is

pub mend-requires-clause-legal : goal.mend-requires-clause-legal
mend-requires-clause-legal g c = legal_of g.L.Server.opening c.self.inside.core c.history.result.now c.self.invariant.2.replays c.history.ensures.legal c.history.ensures.rows

pub mend-requires-clause-begins : goal.mend-requires-clause-begins
mend-requires-clause-begins g c = subst (IsPrefix c.in-Some.publisher.rows) (sym c.history.ensures.rows) (held g c).begins

pub mend-requires-clause-room : goal.mend-requires-clause-room
mend-requires-clause-room g c = room_of c.self.inside.core c.history.result.now (held g c).room c.history.ensures.legal c.history.ensures.rows

pub publish-publisher-requires : goal.publish-publisher-requires
publish-publisher-requires g c =
    let o = g.L.Server.opening in
    let core = c.self.inside.core in
    let calls = c.self.inside.calls.total in
    let mended = held_mended core calls c.self.inside.publisher c.take.result c.in-Some.publisher c.mend.new.self c.history.result.now (record { tree = c.tree.result.now; sessions = c.sessions.result.now.sessions })
    c.self.invariant.4 c.take.ensures.value c.in-Some.is c.history.ensures.rows (λ i. record { tree = c.tree.ensures i; sessions = (c.sessions.ensures i).sessions }) c.mend.ensures.begins c.mend.ensures.unchanged c.mend.ensures.rows c.mend.ensures.view in
    ready_of o core calls c.mend.new.self c.self.invariant.2.replays mended c.history.ensures.legal.legal.numbered

pub invariant_of-self : goal.invariant_of-self
invariant_of-self g c =
    let core = c.self.inside.core in
    let calls = c.self.inside.calls.total in
    let mended = held_mended core calls c.self.inside.publisher c.take.result c.in-Some.publisher c.mend.new.self c.history.result.now (record { tree = c.tree.result.now; sessions = c.sessions.result.now.sessions })
    c.self.invariant.4 c.take.ensures.value c.in-Some.is c.history.ensures.rows (λ i. record { tree = c.tree.ensures i; sessions = (c.sessions.ensures i).sessions }) c.mend.ensures.begins c.mend.ensures.unchanged c.mend.ensures.rows c.mend.ensures.view in
    (c.self.invariant.0, c.self.invariant.1, c.self.invariant.2, c.self.invariant.3, subst (λ (q : Option Publishing). MatchOption q ⊥ (IsHeld core calls)) (sym c.put_back.ensures) (held_shown core calls c.mend.new.self c.publish-publisher.result.0 mended c.publish-publisher.ensures.same))

pub returns-clause-all : goal.returns-clause-all
returns-clause-all g c =
    let core = c.self.inside.core in
    let calls = c.self.inside.calls.total in
    let mended = held_mended core calls c.self.inside.publisher c.take.result c.in-Some.publisher c.mend.new.self c.history.result.now (record { tree = c.tree.result.now; sessions = c.sessions.result.now.sessions })
    c.self.invariant.4 c.take.ensures.value c.in-Some.is c.history.ensures.rows (λ i. record { tree = c.tree.ensures i; sessions = (c.sessions.ensures i).sessions }) c.mend.ensures.begins c.mend.ensures.unchanged c.mend.ensures.rows c.mend.ensures.view in
    all_of c.mend.new.self core.rows c.args.self.now.rows c.publish-publisher.result.1 mended.whole (ap (λ (t : CoreValue). t.rows) c.self.view_is) c.publish-publisher.ensures.all
