use Rattle.std.proofs.Common.{◌≡◌, ◌==◌, ℕ, Bool, List, [], vec_len, refl, sym, ap, subst, ◌∙◌, arith, eq-eqb}
use Rattle.std.proofs.lemmas.Bool.{eqb-true}
use Rattle.std.proofs.lemmas.List.{nil_from_length}
use Rattle.std.specs.FinSet as set
use Rattle.capcore.proofs.Among.{none-besides, one-counts, one-inode}
use Rattle.capcore.proofs.CommonPieces.{ClientViews, Ended, Ino, InoSet, Scene, leads-then, plain}
use Rattle.capcore.proofs.NobodyServed.{others-still, served_none, settled-ends, settled-may}
use Rattle.capcore.proofs.SameLocks.{same-locks}
use Rattle.capcore.proofs.settle.end.Goals.{After-settle, In-Entry, In-Inodes}
use Rattle.capcore.specs.Begun.{IsReady, MayEnd, MaySettle}
use Rattle.capcore.specs.Serves.{EndsAt, EndsWith}
use Rattle.capcore.specs.declared.output.StepOutput.{StepOutput}
use Rattle.capcore.specs.declared.settle.Affected.{Affected}
use Rattle.capcore.specs.declared.settle.Affected.TheVariants.{Entry, Inodes}
use Rattle.capcore.proofs.settle.end.Goals as goal

-- ---- where one entry alone was affected

entry_ready : (c : In-Entry) → IsReady (Entry c.in-Entry.holder) c.args.scene.now.table.kept (plain c.args.scene.now) c.args.output.now
entry_ready c = subst (λ (a : Affected). IsReady a c.args.scene.now.table.kept (plain c.args.scene.now) c.args.output.now) c.in-Entry.is c.requires.ready

pub settle-requires : goal.settle-requires
settle-requires c =
    let ready = entry_ready (goal.at.settle-requires c).In-Entry in
    let may = ready.entries in
    let one = ap (λ (inos : InoSet). set.len inos) c.of-included.ensures ∙ one-counts c.in-Entry.holder.ino.0 in
    record {
      settles = subst (λ (from : ℕ → Bool). MaySettle from (plain c.args.scene.now)) (sym (ap set.contains c.of-included.ensures ∙ one-inode c.in-Entry.holder.ino.0)) ready.settles;
      judged = ready.judged;
      room = ready.room;
      places = omega (arith, one, ready.at.0);
      permitted = may.permitted;
      counted = c.requires.counted;
    }

module _ (c : After-settle) where
  abbrev ino : ℕ
  ino = c.in-Entry.holder.ino.0

  only : set.contains c.of-included.result ≡ (λ other. other == ino)
  only = ap set.contains c.of-included.ensures ∙ one-inode ino

  ready_was : IsReady (Entry c.in-Entry.holder) c.args.scene.now.table.kept (plain c.args.scene.now) c.args.output.now
  ready_was = subst (λ (a : Affected). IsReady a c.args.scene.now.table.kept (plain c.args.scene.now) c.args.output.now) c.in-Entry.is c.requires.ready

  -- where one inode is affected still, it is none but that
  alone : set.len c.settle.new.affected ≡ 1 → set.contains c.settle.new.affected ≡ (λ other. other == ino)
  alone one =
      let settles = c.settle.ensures.settles in
      let there = settles.settles in
      none-besides c.settle.new.affected ino one (there.among ino (ap (λ (f : ℕ → Bool). f ino) only ∙ eq-eqb ino ino refl))

  -- the locks settle, and the step ends
  ends_there : (sized : List Ino) → c.settle.new.output.sized.items ≡ sized → (sets : ClientViews) (last : Scene)
      → EndsAt (set.contains c.settle.new.affected) sized c.settle.new.scene.table.kept sets (plain c.settle.new.scene) last
      → EndsWith (λ other. other == ino) c.args.scene.now.table.kept sets (plain c.args.scene.now) last c.settle.new.output.given.items
  ends_there sized are sets last ends =
      let settles = c.settle.ensures.settles in
      subst (λ (from : ℕ → Bool). EndsWith from c.args.scene.now.table.kept sets (plain c.args.scene.now) last c.settle.new.output.given.items) only
      (settled-ends (set.contains c.settle.new.affected) (set.contains c.of-included.result) c.args.scene.now.table.kept c.settle.new.scene.table.kept sets (plain c.args.scene.now) (plain c.settle.new.scene) last
      c.settle.new.output.given.items c.settle.new.output.sized.items settles c.settle.ensures.tree c.settle.ensures.pending c.settle.ensures.permitted
      (subst (λ (sized : List Ino). EndsAt (set.contains c.settle.new.affected) sized c.settle.new.scene.table.kept sets (plain c.settle.new.scene) last) (sym are) ends))

  may_end : MayEnd c.settle.new.scene.table.kept (plain c.settle.new.scene)
  may_end = let ready = ready_was in settled-may _ _ _ _ _ _ _ _ c.settle.ensures.settles c.settle.ensures.permitted ready.entries

pub finish_alone-requires-clause-others : goal.finish_alone-requires-clause-others
finish_alone-requires-clause-others c =
    let here = (goal.at.finish_alone-requires-clause-others c).After-settle in
    let ready = ready_was here in
    let nobody : c.settle.new.output.given.items ≡ [] = nil_from_length c.settle.new.output.given.items (omega (arith, eqb-true (vec_len c.settle.new.output.given) 0 (sym c.is_empty.ensures ∙ c.if-is_empty.true))) in
    let same = sym c.of_ino.ensures ∙ same-locks c.of_ino.result c.of_ino-before.result (sym c.eq.ensures ∙ c.if-eq.true) ∙ c.of_ino-before.ensures in
    others-still (set.contains c.settle.new.affected) (set.contains c.of-included.result) (plain c.args.scene.now) (plain c.settle.new.scene) c.settle.new.output.given.items c.settle.new.output.sized.items
    c.settle.ensures.settles nobody c.args.scene.now.table.kept c.settle.new.scene.table.kept c.in-Entry.holder c.settle.ensures.pending same ready.at.1

pub finish_alone-requires-clause-entries : goal.finish_alone-requires-clause-entries
finish_alone-requires-clause-entries c = may_end (goal.at.finish_alone-requires-clause-entries c).After-settle

pub finish_alone-requires-clause-alone : goal.finish_alone-requires-clause-alone
finish_alone-requires-clause-alone c = alone (goal.at.finish_alone-requires-clause-alone c).After-settle (eqb-true (set.len c.settle.new.affected) 1 (sym c.is_single.ensures ∙ c.if-is_single.true))

pub finish_alone-requires-clause-places : goal.finish_alone-requires-clause-places
finish_alone-requires-clause-places c = omega (arith, c.settle.ensures.places)

pub finish-requires-clause-entries : goal.finish-requires-clause-entries
finish-requires-clause-entries c = may_end (goal.at.finish-requires-clause-entries c).After-settle

pub returns-then-eq-clause-ends : goal.returns-then-eq-clause-ends
returns-then-eq-clause-ends c =
    let here = (goal.at.returns-then-eq-clause-ends c).After-settle in
    let nobody : c.settle.new.output.given.items ≡ [] = nil_from_length c.settle.new.output.given.items (omega (arith, eqb-true (vec_len c.settle.new.output.given) 0 (sym c.is_empty.ensures ∙ c.if-is_empty.true))) in
    let none = served_none (set.contains c.settle.new.affected) (set.contains c.of-included.result) (plain c.args.scene.now) (plain c.settle.new.scene) c.settle.new.output.given.items c.settle.new.output.sized.items
    c.settle.ensures.settles nobody in
    rw c.in-Entry.is (ends_there here [] none.0 c.finish_alone.new.scene.table.kept (plain c.finish_alone.new.scene) c.finish_alone.ensures.ends)

pub returns-then-eq-clause-lead : goal.returns-then-eq-clause-lead
returns-then-eq-clause-lead c =
    leads-then c.args.output.now.changes.items c.settle.new.output.changes.items c.finish_alone.new.changes.items c.args.scene.now.tree c.settle.new.scene.tree c.finish_alone.new.scene.tree
    c.settle.ensures.lead c.finish_alone.ensures.lead

pub returns-in-Entry-clause-ends : goal.returns-in-Entry-clause-ends
returns-in-Entry-clause-ends c =
    let here = (goal.at.returns-in-Entry-clause-ends c).After-settle in
    rw c.in-Entry.is
    (subst (λ (ended_now : List Ended). EndsWith (λ other. other == ino here) c.args.scene.now.table.kept c.finish.new.scene.table.kept (plain c.args.scene.now) (plain c.finish.new.scene) ended_now)
    (sym (ap (λ (e : StepOutput). e.given.items) c.finish.ensures.rest))
    (ends_there here c.settle.new.output.sized.items refl c.finish.new.scene.table.kept (plain c.finish.new.scene) c.finish.ensures.ends))

pub returns-in-Entry-clause-lead : goal.returns-in-Entry-clause-lead
returns-in-Entry-clause-lead c =
    leads-then c.args.output.now.changes.items c.settle.new.output.changes.items c.finish.new.output.changes.items c.args.scene.now.tree c.settle.new.scene.tree c.finish.new.scene.tree
    c.settle.ensures.lead c.finish.ensures.lead

-- ---- at several inodes

inodes_ready : (c : In-Inodes) → IsReady (Inodes c.in-Inodes.inos) c.args.scene.now.table.kept (plain c.args.scene.now) c.args.output.now
inodes_ready c = subst (λ (a : Affected). IsReady a c.args.scene.now.table.kept (plain c.args.scene.now) c.args.output.now) c.in-Inodes.is c.requires.ready

pub settle-requires-in-Inodes : goal.settle-requires-in-Inodes
settle-requires-in-Inodes c =
    let ready = inodes_ready (goal.at.settle-requires-in-Inodes c).In-Inodes in
    let may = ready.entries in
    record { settles = ready.settles; judged = ready.judged; room = ready.room; places = ready.at; permitted = may.permitted; counted = c.requires.counted }

pub finish-requires-in-Inodes-clause-entries : goal.finish-requires-in-Inodes-clause-entries
finish-requires-in-Inodes-clause-entries c =
    let ready = inodes_ready (goal.at.finish-requires-in-Inodes-clause-entries c).In-Inodes in
    settled-may _ _ _ _ _ _ _ _ c.settle-in-Inodes.ensures.settles c.settle-in-Inodes.ensures.permitted ready.entries

pub returns-clause-ends : goal.returns-clause-ends
returns-clause-ends c =
    let settled : Scene = plain c.settle-in-Inodes.new.scene in
    rw c.in-Inodes.is
    (subst (λ (ended_now : List Ended). EndsWith (set.contains c.in-Inodes.inos) c.args.scene.now.table.kept c.finish-in-Inodes.new.scene.table.kept (plain c.args.scene.now) (plain c.finish-in-Inodes.new.scene) ended_now)
    (sym (ap (λ (e : StepOutput). e.given.items) c.finish-in-Inodes.ensures.rest))
    (settled-ends (set.contains c.settle-in-Inodes.new.affected) (set.contains c.in-Inodes.inos) c.args.scene.now.table.kept c.settle-in-Inodes.new.scene.table.kept c.finish-in-Inodes.new.scene.table.kept
    (plain c.args.scene.now) settled (plain c.finish-in-Inodes.new.scene) c.settle-in-Inodes.new.output.given.items c.settle-in-Inodes.new.output.sized.items
    c.settle-in-Inodes.ensures.settles c.settle-in-Inodes.ensures.tree c.settle-in-Inodes.ensures.pending c.settle-in-Inodes.ensures.permitted c.finish-in-Inodes.ensures.ends))

pub returns-clause-lead : goal.returns-clause-lead
returns-clause-lead c =
    leads-then c.args.output.now.changes.items c.settle-in-Inodes.new.output.changes.items c.finish-in-Inodes.new.output.changes.items
    c.args.scene.now.tree c.settle-in-Inodes.new.scene.tree c.finish-in-Inodes.new.scene.tree c.settle-in-Inodes.ensures.lead c.finish-in-Inodes.ensures.lead
