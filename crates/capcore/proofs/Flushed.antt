-- A flush that nothing rejects, by itself: it changes its inode alone, and of the entries only the order of recall.
use Rattle.std.proofs.Common.{◌≡◌, ◌≢◌, ℕ, [], ◌∷◌, None, refl, sym, ap, subst, ◌∙◌, arith}
use Rattle.std.proofs.lemmas.List.Elements.{All-filter}
use Rattle.std.specs.FinMap as map
use Rattle.inotree.proofs.OneInode.{exist-changed, presence-other}
use Rattle.captable.proofs.Moves.{IsTable-touched}
use Rattle.captable.specs.Calls.{touched}
use Rattle.capcore.proofs.EntryRequests.{after-passed, before-passed}
use Rattle.lockmachine.proofs.SameBut.{same-entries, same-trans, same-tree}
use Rattle.capcore.proofs.OneChange.{alike_change, by_change}
use Rattle.step_acts.specs.Served.{change_call_tests}
use Rattle.capstep.specs.Changing.{tree_changed}
use Rattle.lockmachine.specs.Elsewhere.{IsSameBut}
use Rattle.lockmachine.specs.declared.request.Change.{Change}
use Rattle.capcore.proofs.Common.{AffectsOne, AreBelow, AreGiven, Event, Holder, IsAffectedEntry, IsLockAtRest, IsSound, IsTable, Nodes, Reply, Scene, State}
use Rattle.capcore.proofs.Common.{all-left, caps_in, change_tests, direct, effect_unless, exclusive, first_failing, is_of_inode, judged, part_of_change}
use Rattle.capcore.proofs.Common.{passed-both, presence, release_tests, says, sound-pinned, with_flush}

exist_change : (tree : Nodes) (ino : ℕ) (change : Change) (other : ℕ) → map.contains_key (tree_changed tree ino change).nodes other ≡ map.contains_key tree.nodes other
exist_change tree ino change other =
    by_change tree ino (λ t. map.contains_key t.nodes other ≡ map.contains_key tree.nodes other) refl (λ f. exist-changed tree f ino other) change

presence_change : (tree : Nodes) (ino : ℕ) (change : Change) (other : ℕ) → other ≢ ino → presence (tree_changed tree ino change).nodes other ≡ presence tree.nodes other
presence_change tree ino change other off =
    by_change tree ino (λ t. presence t.nodes other ≡ presence tree.nodes other) refl (λ f. presence-other tree f ino other off) change

-- a change of an inode, with the entries as they were
same-flush : (s : Scene) (k : Holder) (change : Change) → IsSameBut k.ino.0 s (record s { tree = tree_changed s.tree k.ino.0 change; table = touched s.table k })
same-flush s k change =
    let changed : Scene = record s { tree = tree_changed s.tree k.ino.0 change } in
    same-trans k.ino.0 s changed (record changed { table = touched s.table k })
    (same-tree k.ino.0 s (tree_changed s.tree k.ino.0 change) (λ other off. presence_change s.tree k.ino.0 change other off) (λ other off. alike_change s.tree k.ino.0 other change off))
    (same-entries k.ino.0 changed (touched s.table k) (λ other off. refl))

pub flush-affects : (old : State) (k : Holder) (change : Change) → IsSound old → IsTable old.scene.table → AffectsOne k.ino.0 old (with_flush old k change).scene
flush-affects old k change sound table = record {
  same = same-flush old.scene k change;
  states = refl;
  exist = λ other. exist_change old.scene.tree k.ino.0 change other;
  locked = λ other. sound.locked other ∙ sym (exist_change old.scene.tree k.ino.0 change other);
  waiting = sound.waiting;
  at_lock = λ part none. subst (IsLockAtRest old.scene k.ino.0 part) none (sound.at_rest.each k.ino.0 part);
  each =
      All-filter (is_of_inode (record { 0 = k.ino.0 })) (IsAffectedEntry (with_flush old k change).scene) old.scene.table.rows
      (all-left old (with_flush old k change).scene sound table refl refl (λ ino. exist_change old.scene.tree k.ino.0 change ino));
  calm = λ row inside none. absurd (sound-pinned old sound row inside none);
}

pub flush-table : (old : State) (k : Holder) (change : Change) → IsTable old.scene.table → IsTable (with_flush old k change).scene.table
flush-table old k change table = IsTable-touched old.scene.table k table

pub below-of_flush : (count : ℕ) (old : State) (k : Holder) (change : Change) → AreGiven count old → AreBelow count (with_flush old k change)
below-of_flush count old k change given = (given.entries, omega (arith, given.made), omega (arith, given.last))

-- ---- what nothing rejects

-- the change has passed its tests
flush_passed : (s : Scene) (k : Holder) (change : Change) → judged s (Event.Flush k.client k.ino change) ≡ None → first_failing (change_tests s k.ino.0 change) ≡ None
flush_passed s k change free =
    (passed-both (release_tests s.table k (caps_in (exclusive (part_of_change change) ∷ []))) (change_tests s k.ino.0 change)
    (after-passed s (Event.Flush k.client k.ino change) free)).1

-- and so has the call that makes it
pub flush-calls : (s : Scene) (k : Holder) (change : Change) → judged s (Event.Flush k.client k.ino change) ≡ None → first_failing (change_call_tests s.tree k.ino.0 change) ≡ None
flush-calls s k change free = grind (arith, passed-both, before-passed, flush_passed)

-- the change is all that it comes to by itself
pub flush-direct : (old : State) (k : Holder) (change : Change) → judged old.scene (Event.Flush k.client k.ino change) ≡ None
    → direct old (Event.Flush k.client k.ino change) ≡ says (with_flush old k change) Reply.Done
flush-direct old k change free = ap (effect_unless old (Event.Flush k.client k.ino change)) free
