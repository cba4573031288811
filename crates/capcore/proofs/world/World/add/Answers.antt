use Rattle.std.proofs.Common.{◌≡◌, ◌+◌, None, refl, sym, subst, arith}
use Rattle.inotree.proofs.Passing.{passed-create}
use Rattle.lockmachine.specs.Counts as counting
use Rattle.capcore.proofs.Common.{CountedLocks, State, create_tests, first_failing}
use Rattle.capcore.proofs.Unaffected.{birth-whole, undone-whole}
use Rattle.capcore.proofs.Undone.{added-dropped, not_given}
use Rattle.capcore.specs.UnderWay.{IsWhole}
use Rattle.capcore.specs.declared.parts.CoreState.{CoreState}
use Rattle.capcore.proofs.world.World.add.Goals as goal

pub overflow_add-ino : goal.overflow_add-ino
overflow_add-ino c =
    let no_fault : first_failing (create_tests c.self.inside.parts.scene.tree c.args.dir.0 c.args.name.now) ≡ None =
    subst (λ (s : State). first_failing (create_tests s.scene.tree c.args.dir.0 c.args.name.now) ≡ None) (sym c.self.view_is) c.requires.passed in
    let more = (passed-create c.self.inside.parts.scene.tree c.args.dir.0 c.args.name.now no_fault).2 in
    let last = c.last.ensures.last in
    omega (arith, more, last)

pub invariant_of-self-in-Ok : goal.invariant_of-self-in-Ok
invariant_of-self-in-Ok c =
    rw (c.in-Ok.ensures.ok, c.in_ok-add_ino.ensures.ok, c.last.ensures.last) (birth-whole c.self.inside.parts c.self.invariant c.args.kind c.args.dir.0 c.args.name.now c.args.attr c.last.ensures.sound)

pub invariant_of-self : goal.invariant_of-self
invariant_of-self c = rw c.in_err-add_ino.ensures.err c.self.invariant

pub invariant_of-self-in-Err : goal.invariant_of-self-in-Err
invariant_of-self-in-Err c =
    let p : CoreState = c.self.inside.parts in
    let next = p.scene.tree.last + 1 in
    let undone = added-dropped p.scene.locks.locks next (not_given c.self.invariant.0 c.last.ensures.sound) in
    let left : c.drop_ino.new.self ≡ counting.without_ino (counting.with_ino p.scene.locks next) next = rw (c.drop_ino.ensures, c.in_ok-add_ino.ensures.ok, c.last.ensures.last) refl in
    rw c.in-Err.ensures.err (subst (λ (l : CountedLocks). IsWhole (record p { scene = record p.scene { locks = l } })) (sym left)
    (undone-whole p c.self.invariant next undone))

pub returns-in-Err-clause-err : goal.returns-in-Err-clause-err
returns-in-Err-clause-err c =
    let undone = added-dropped c.self.inside.parts.scene.locks.locks (c.self.inside.parts.scene.tree.last + 1) (not_given c.self.invariant.0 c.last.ensures.sound) in
    rw (c.in-Err.ensures.err, c.drop_ino.ensures, c.in_ok-add_ino.ensures.ok, c.last.ensures.last, undone) c.self.view_is
