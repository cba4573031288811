use Rattle.std.proofs.Common.{◌≡◌, [], ◌∷◌, length, refl, sym, ap, subst, ◌∙◌, arith}
use Rattle.std.proofs.lemmas.List.{length-append}
use Rattle.std.specs.List.{fold}
use Rattle.capstep.proofs.Noting.{leads-forgotten}
use Rattle.lockmachine.proofs.CountsStay.{counted-dropped}
use Rattle.policy_view.specs.declared.change.ViewChange.TheVariants.{Forgotten}
use Rattle.lockmachine.specs.Locks.{without_ino}
use Rattle.capcore.proofs.CommonPieces.{AreCounted, CountedLocks, Scene, leads-none, leads-then, plain}
use Rattle.capcore.proofs.Strays.{forget-all_of, forget_on}
use Rattle.capcore.specs.Affected.{forget_at}
use Rattle.capcore.proofs.finish.forget_affected.Goals as goal

pub inodes-init : goal.inodes-init
inodes-init c = record { left = refl; table = refl; counted = λ all. all; queue = refl; lead = leads-none c.args.changes.now.items c.args.scene.now.tree; places = omega (arith, c.numbers-walk.ensures.count, c.requires.places) }

pub inodes-preserved-then-not-is_held : goal.inodes-preserved-then-not-is_held
inodes-preserved-then-not-is_held c =
    let s : Scene = plain c.inodes.scene in
    let locks : c.drop_ino.new.self.locks ≡ without_ino s.locks c.in-Some.ino.0 = ap (λ (l : CountedLocks). l.locks) c.drop_ino.ensures in
    let gone : record s { tree = c.forget.new.self; locks = c.drop_ino.new.self.locks } ≡ forget_at c.in-Some.ino.0 s = grind arith in
    let more = ap length c.in-Some.ensures.some in
    let notes = ap length c.push.ensures.items ∙ length-append c.inodes.changes.items (Forgotten c.in-Some.ino ∷ []) in
    record {
      left = ap (λ (now : Scene). fold forget_on now c.next.new.self) gone ∙ ap (fold forget_on s) (sym c.in-Some.ensures.some) ∙ c.inodes.invariant.left;
      table = c.inodes.invariant.table;
      counted = λ all. subst (AreCounted s.table) (sym c.drop_ino.ensures) (counted-dropped s.table c.inodes.scene.locks c.in-Some.ino.0 (c.inodes.invariant.counted all));
      queue = ap (λ (l : CountedLocks). l.locks.queue) c.drop_ino.ensures ∙ c.inodes.invariant.queue;
      lead = leads-then c.args.changes.now.items c.inodes.changes.items c.push.new.self.items c.args.scene.now.tree s.tree c.forget.new.self
          c.inodes.invariant.lead (rw (c.push.ensures.items, c.forget.ensures) (leads-forgotten c.inodes.changes.items s.tree c.in-Some.ino));
      places = omega (arith, more, notes, c.push.ensures.room, c.inodes.invariant.places);
    }

pub returns-clause-left : goal.returns-clause-left
returns-clause-left c =
    ap (fold forget_on (plain c.inodes.scene)) (sym c.in_default.ensures.none.0) ∙ c.inodes.invariant.left
    ∙ forget-all_of c.args.affected.now c.numbers-walk.result (plain c.args.scene.now) c.numbers-walk.ensures.list
