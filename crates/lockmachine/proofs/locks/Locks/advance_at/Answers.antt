use Rattle.lockmachine.specs.Scene.{scene_by}
use Rattle.lockmachine.proofs.Alone.{suffices-stays}
use Rattle.lockmachine.proofs.Ending.{few}
use Rattle.lockmachine.proofs.Settling.{one_more}
use Rattle.lockmachine.proofs.locks.Locks.advance_at.Goals as goal

pub moves-smaller : goal.moves-smaller
moves-smaller c =
    let now = scene_by c.args.policy.now c.args.table.now.entries c.moves.self.locks in
    (one_more _ now c.args.ino.0 c.next_move_by.result c.make_counted.new.self.locks c.moves.invariant.0 c.next_move_by.ensures.next c.in_default.not-Settled c.in_default.not-Serve c.make_counted.ensures.locks).fewer

pub moves-preserved : goal.moves-preserved
moves-preserved c =
    let now = scene_by c.args.policy.now c.args.table.now.entries c.moves.self.locks in
    ((one_more _ now c.args.ino.0 c.next_move_by.result c.make_counted.new.self.locks c.moves.invariant.0 c.next_move_by.ensures.next c.in_default.not-Settled c.in_default.not-Serve c.make_counted.ensures.locks).so_far, c.next_move_by.ensures.wanted, c.make_counted.ensures.counted c.moves.invariant.2)

pub returns-in-Settled-clause-moves : goal.returns-in-Settled-clause-moves
returns-in-Settled-clause-moves c = (c.moves.invariant.0.steps, few _ _ _ c.moves.invariant.0.runs, c.moves.invariant.0.runs)

pub returns-in-Serve-clause-moves : goal.returns-in-Serve-clause-moves
returns-in-Serve-clause-moves c = (c.moves.invariant.0.steps, few _ _ _ c.moves.invariant.0.runs, c.moves.invariant.0.runs)

pub next_move_by-requires-clause-scope : goal.next_move_by-requires-clause-scope
next_move_by-requires-clause-scope c = suffices-stays c.queue_scope_at-scope.result c.args.ino.0 c.args.self.now.locks c.moves.self.locks c.moves.invariant.0.elsewhere c.queue_scope_at-scope.ensures
