use Rattle.std.proofs.Common.{◌≡◌, subst, sym, arith}
use Rattle.capcore.proofs.CommonPieces.{CountedLocks}
use Rattle.capcore.proofs.FirstLocks.{AreFirstBelow, first_below_more, first_below_none, first_of_all}
use Rattle.capcore.proofs.start.first_locks.Goals as goal

pub loop-number-init : goal.loop-number-init
loop-number-init c = subst (λ (l : CountedLocks). AreFirstBelow c.args.tree.now.nodes 0 l.locks) (sym c.in_ok-locks.ensures) (first_below_none c.args.tree.now.nodes)

pub loop-number-preserved : goal.loop-number-preserved
loop-number-preserved c =
    first_below_more c.args.tree.now.nodes c.loop-number.number c.loop-number.locks.locks c.add_locks.new.locks.locks c.loop-number.invariant c.in_ok-add_locks.ensures.ok

pub returns-clause-states : goal.returns-clause-states
returns-clause-states c =
    let tree = c.args.tree.now in
    let last = c.last-last.result.0 in
    let ended : c.loop-number.number ≡ last = omega arith in
    let before = subst (λ n. AreFirstBelow tree.nodes n c.loop-number.locks.locks) ended c.loop-number.invariant in
    first_of_all tree last c.add_locks-2.new.locks.locks c.add_locks-2.ensures.sound c.last-last.ensures.last
    (first_below_more tree.nodes last c.loop-number.locks.locks c.add_locks-2.new.locks.locks before c.in_ok-add_locks-2.ensures.ok)
