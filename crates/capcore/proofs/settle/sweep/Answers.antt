use Rattle.std.proofs.Common.{◌≡◌, ◌+◌, Some, sym, ap, subst}
use Rattle.std.specs.FinSet as set
use Rattle.lockmachine.proofs.Alone.{nobody-done, nobody-kept}
use Rattle.lockmachine.specs.Cursors.{IsServable}
use Rattle.capcore.proofs.CommonPieces.{IsNext, KeptScene, Scene, plain}
use Rattle.capcore.proofs.Sweeping.{fewer_behind, last-cursor, next-cursor, still-stays, swept-on}
use Rattle.capcore.proofs.settle.sweep.Goals.{After-advance_at}
use Rattle.capcore.specs.Begun.{ArePermittedIn}
use Rattle.capcore.specs.Sweep.{AreStill, IsSwept, StandsAt}
use Rattle.capcore.proofs.settle.sweep.Goals as goal

module _ (c : After-advance_at) where
  abbrev first : Scene
  first = plain c.args.scene.now

  abbrev now : Scene
  now = plain c.inodes.scene

  abbrev after : KeptScene
  after = record c.inodes.scene { locks = c.advance_at.new.self }

  abbrev new : Scene
  new = plain after

  more : IsSwept (set.contains c.args.affected.now) first new
  more =
      swept-on (set.contains c.args.affected.now) first now c.inodes.invariant.swept c.inodes.place.at.0 c.inodes.invariant.stands.here c.advance_at.new.self.locks
      c.advance_at.ensures.moves c.advance_at.ensures.elsewhere

  still : AreStill (set.contains c.args.affected.now) new
  still =
      let is = more in
      subst (AreStill (set.contains c.args.affected.now)) (sym is.is) (still-stays (set.contains c.args.affected.now) first new.locks c.requires.still is.queue is.states)

  -- the locks alone change
  rest : after ≡ record c.args.scene.now { locks = c.advance_at.new.self }
  rest = ap (λ (s : KeptScene). record s { locks = c.advance_at.new.self }) c.inodes.invariant.rest

  -- it stands where it stood
  stands : StandsAt (set.contains c.args.affected.now) c.inodes.place new
  stands = record {
    cursor = c.advance_at.ensures.cursor;
    here = c.inodes.invariant.stands.here;
    alone = λ known. nobody-kept c.inodes.place.at.0 now.locks new.locks c.advance_at.ensures.elsewhere (c.inodes.invariant.stands.alone known);
  }

pub returns-in-Some-clause-swept : goal.returns-in-Some-clause-swept
returns-in-Some-clause-swept c = more (goal.at.returns-in-Some-clause-swept c).After-advance_at

pub returns-in-None-clause-swept : goal.returns-in-None-clause-swept
returns-in-None-clause-swept c = more (goal.at.returns-in-None-clause-swept c).After-advance_at

pub returns-in-Some-clause-rest : goal.returns-in-Some-clause-rest
returns-in-Some-clause-rest c = rest (goal.at.returns-in-Some-clause-rest c).After-advance_at

pub returns-in-None-clause-rest : goal.returns-in-None-clause-rest
returns-in-None-clause-rest c = rest (goal.at.returns-in-None-clause-rest c).After-advance_at

pub inodes-smaller : goal.inodes-smaller
inodes-smaller c = fewer_behind c.args.affected.now c.inodes.place.at.0 c.in-Some-after.at (subst (IsNext c.args.affected.now (c.inodes.place.at.0 + 1)) c.in-Some-after.is c.after.ensures)

pub inodes-preserved : goal.inodes-preserved
inodes-preserved c =
    let here = (goal.at.inodes-preserved c).After-advance_at in
    let next : IsNext c.args.affected.now (c.inodes.place.at.0 + 1) (Some c.in-Some-after.at) = subst (IsNext c.args.affected.now (c.inodes.place.at.0 + 1)) c.in-Some-after.is c.after.ensures in
    let done = subst (IsServable (new here) c.inodes.place.at.0) c.in_default.is c.advance_at.ensures.servable in
    record {
      rest = rest here;
      counted = c.advance_at.ensures.counted;
      swept = more here;
      stands = record {
        cursor = next-cursor c.args.affected.now (new here) c.inodes.place.at.0 c.in-Some-after.at (still here) c.advance_at.ensures.cursor done next;
        here = next.has;
        alone = λ known. nobody-done (new here) c.inodes.place.at.0 c.in-Some-after.at.0 done;
      };
    }

pub returns-in-Some-clause-place : goal.returns-in-Some-clause-place
returns-in-Some-clause-place c = stands (goal.at.returns-in-Some-clause-place c).After-advance_at

pub returns-in-None-clause-place : goal.returns-in-None-clause-place
returns-in-None-clause-place c = stands (goal.at.returns-in-None-clause-place c).After-advance_at

pub returns-in-None-clause-next : goal.returns-in-None-clause-next
returns-in-None-clause-next c =
    let here = (goal.at.returns-in-None-clause-next c).After-advance_at in
    let beyond = subst (IsNext c.args.affected.now (c.inodes.place.at.0 + 1)) c.in-None.is c.after.ensures in
    let done = subst (IsServable (new here) c.inodes.place.at.0) c.in_default.is c.advance_at.ensures.servable in
    last-cursor c.args.affected.now (new here) c.inodes.place.at.0 (still here) c.advance_at.ensures.cursor done beyond

pub advance_at-requires : goal.advance_at-requires
advance_at-requires c = record {
  cursor = c.inodes.invariant.stands.cursor;
  alone = c.inodes.invariant.stands.alone;
  permitted = λ k e on here. subst (λ (s : KeptScene). ArePermittedIn s.table.kept (plain s)) (sym c.inodes.invariant.rest) c.requires.permitted k e here;
  counted = c.inodes.invariant.counted;
}
