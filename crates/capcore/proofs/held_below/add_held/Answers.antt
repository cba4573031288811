use Rattle.std.proofs.Common.{ℕ, ◌+◌, ◌≤◌, get_or, List, sym, ap, subst, ◌∙◌, true≢false, arith}
use Rattle.std.specs.List.{AllWithin}
use Rattle.std.specs.FinSet as set
use Rattle.capstep.specs.NotedChanges.{Noted}
use Rattle.capcore.proofs.CommonPieces.{EntryRow, Ino, InoSet}
use Rattle.step_acts.proofs.InoSets.{added, few-tried, widens-tried}
use Rattle.step_acts.proofs.Walked.{IsAdded, added-more}
use Rattle.capcore.proofs.held_below.add_held.Goals.{else-is_held, then-is_held+in_ok-add_place+in_ok-insert}
use Rattle.step_acts.specs.AffectedInodes.{Widens}
use Rattle.capcore.proofs.held_below.add_held.Goals as goal

pub loop-ino-preserved : goal.loop-ino-preserved
loop-ino-preserved c =
    let rows : List EntryRow = c.args.table.now.entries.rows in
    let inos : List Ino = c.args.inos.now in
    let i : ℕ = c.loop-ino.ino-index in
    let ino : Ino = get_or inos i (record { 0 = 0 }) in
    let was : InoSet = c.loop-ino.affected in
    elim c.if-is_held.branch [
      | then-is_held+in_ok-add_place+in_ok-insert w ↦
          let now : InoSet = w.insert.new.self in
          let one : Widens was now = widens-tried ino.0 was now w.insert.result w.insert.ensures.ok w.insert.ensures.err in
          let few : set.len now ≤ set.len was + 1 = few-tried ino.0 was now w.insert.result w.insert.ensures.ok w.insert.ensures.err in
          record {
            widens = subst (Widens c.args.affected.now) (sym w.affected-is) (λ k there. one k (c.loop-ino.invariant.widens k there));
            items = ap (λ (n : Noted). n.items) w.changes-is ∙ w.add_place.ensures.items ∙ c.loop-ino.invariant.items;
            places = rw (w.affected-is, w.changes-is) (omega (arith, few, w.in_ok-add_place.ensures.ok, c.loop-ino.invariant.places));
            room = rw w.changes-is (omega (arith, w.in_ok-add_place.ensures.ok, c.loop-ino.invariant.room));
            covers = subst (λ (m : InoSet). AllWithin (IsAdded rows m) inos 0 (i + 1)) (sym w.affected-is)
                (added-more rows was now inos i (record { 0 = 0 }) c.loop-ino-test.true one c.loop-ino.invariant.covers (λ _. added ino.0 was now w.in_ok-insert.ensures.ok));
          }
      | else-is_held w ↦
          let here : IsAdded rows was ino = λ held. absurd (true≢false (sym held ∙ sym c.is_held.ensures ∙ w.if-is_held.false)) in
          record {
            widens = subst (Widens c.args.affected.now) (sym w.affected-is) c.loop-ino.invariant.widens;
            items = ap (λ (n : Noted). n.items) w.changes-is ∙ c.loop-ino.invariant.items;
            places = rw (w.affected-is, w.changes-is) c.loop-ino.invariant.places;
            room = rw w.changes-is c.loop-ino.invariant.room;
            covers = subst (λ (m : InoSet). AllWithin (IsAdded rows m) inos 0 (i + 1)) (sym w.affected-is)
                (added-more rows was was inos i (record { 0 = 0 }) c.loop-ino-test.true (λ ino there. there) c.loop-ino.invariant.covers here);
          }
    ]
