-- What a request that is served leaves of the tree.
pub use Rattle.step_acts.proofs.Renewed.{alike_change}
use Rattle.std.proofs.Common.{◌≡◌, ◌≢◌, ℕ, true, false, None, ◌⊎◌, inl, inr, refl, subst, arith}
use Rattle.std.specs.FinMap as map
use Rattle.capbits.proofs.Tests.{pass-both}
use Rattle.inotree.proofs.Moving.{changed-within, moved-alike, moved-tree, moved-within}
use Rattle.inotree.proofs.OneInode.{alike-unlinked, childless-empty, childless-file, presence-other, sound-attribute, sound-no-attribute, sound-rmdir}
use Rattle.inotree.proofs.OneInode.{sound-setting, sound-unlink}
use Rattle.inotree.specs.Calls.{changed}
use Rattle.capstep.proofs.Rejecting.{passed-all}
use Rattle.step_acts.proofs.Again.{stays-or-makes}
use Rattle.capstep.specs.Changing.{tree_changed}
use Rattle.capstep.specs.Operations.{change_tests, operation_after, operation_before, operation_needs}
use Rattle.capstep.specs.Serving.{MayEndAs}
use Rattle.lockmachine.specs.declared.request.Change.{Change}
use Rattle.lockmachine.specs.declared.request.Change.TheVariants.{RemoveXattr, Set, SetXattr}
use Rattle.lockmachine.specs.declared.request.Operation.TheVariants.{Alter, Get, Rename, Rmdir, Unlink}
use Rattle.capcore.proofs.CommonPieces.{IsAlike, IsTree, Node, Nodes, Operation, Outcome, Request, Scene, alike-itself, exist-changed, first_failing}
use Rattle.capcore.proofs.CommonPieces.{is_rename, is_within, presence, tree_after, tree_with}

-- ---- whatever the operation

-- the tree that an operation makes is that of before, or a change of its inode
module _ (tree : Nodes) (ino : ℕ) (P : Nodes → Type 0) (same : P tree) (each : (f : Node → Node) → P (changed f tree ino)) where
  pub by_change : (change : Change) → P (tree_changed tree ino change)
  by_change change = grind arith

  pub by_operation : (operation : Operation) → P (tree_with tree ino operation)
  by_operation operation = grind arith

module _ (s : Scene) (q : Request) (o : Outcome) (ends : MayEndAs s q o) where
  after_any : (P : Nodes → Type 0) → P s.tree → ((f : Node → Node) → P (changed f s.tree q.ino.0)) → P (tree_after s.tree q o)
  after_any P same each = grind (arith, stays-or-makes, by_operation)

  pub exist-after : (ino : ℕ) → map.contains_key (tree_after s.tree q o).nodes ino ≡ map.contains_key s.tree.nodes ino
  exist-after ino = after_any (λ t. map.contains_key t.nodes ino ≡ map.contains_key s.tree.nodes ino) refl (λ f. exist-changed s.tree f q.ino.0 ino)

  pub presence-after : (ino : ℕ) → (ino ≡ q.ino.0 → ⊥) → presence (tree_after s.tree q o).nodes ino ≡ presence s.tree.nodes ino
  presence-after ino off = after_any (λ t. presence t.nodes ino ≡ presence s.tree.nodes ino) refl (λ f. presence-other s.tree f q.ino.0 ino off)

  pub last-after : (tree_after s.tree q o).last ≡ s.tree.last
  last-after = after_any (λ t. t.last ≡ s.tree.last) refl (λ f. refl)

-- ---- by operation

-- what is not below the inode, where that moves
alike_operation : (s : Scene) (ino other : ℕ) (operation : Operation) → IsTree s.tree → first_failing (operation_after s ino operation) ≡ None → (other ≡ ino → ⊥)
    → (is_rename operation ≡ true → is_within s.tree.nodes other ino ≡ false) → IsAlike s.tree (tree_with s.tree ino operation) other
alike_operation s ino other (Get part) sound passed off below = alike-itself s.tree other
alike_operation s ino other (Alter change) sound passed off below = alike_change s.tree ino other change off
alike_operation s ino other Unlink sound passed off below = alike-unlinked s.tree ino other (childless-file s.tree ino sound passed) off
alike_operation s ino other Rmdir sound passed off below = alike-unlinked s.tree ino other (childless-empty s.tree ino passed) off
alike_operation s ino other (Rename dir name) sound passed off below = moved-alike s.tree ino dir.0 name other (below refl)

pub sound_change : (s : Scene) (ino : ℕ) (change : Change) → IsTree s.tree → first_failing (change_tests s ino change) ≡ None → IsTree (tree_changed s.tree ino change)
sound_change s ino (Set setting) sound passed = sound-setting s.tree setting ino sound
sound_change s ino (SetXattr name value) sound passed = sound-attribute s.tree name value ino sound passed
sound_change s ino (RemoveXattr name) sound passed = sound-no-attribute s.tree name ino sound

sound_operation : (s : Scene) (ino : ℕ) (operation : Operation) → IsTree s.tree → first_failing (operation_before s ino operation) ≡ None → first_failing (operation_after s ino operation) ≡ None → IsTree (tree_with s.tree ino operation)
sound_operation s ino (Get part) sound one more = sound
sound_operation s ino (Alter change) sound one more = sound_change s ino change sound more
sound_operation s ino Unlink sound one more = sound-unlink s.tree ino sound one more
sound_operation s ino Rmdir sound one more = sound-rmdir s.tree ino sound one more
sound_operation s ino (Rename dir name) sound one more =
    moved-tree s.tree ino dir.0 name sound (pass-both (operation_before s ino (Rename dir name)) (operation_after s ino (Rename dir name)) one more)

-- what lies below another did so before, or the inode moved and it lay at or below that
abbrev Lay : Nodes → ℕ → Operation → ℕ → ℕ → Type 0
Lay tree ino operation other above = (is_within tree.nodes other above ≡ true) ⊎ ((is_rename operation ≡ true) × (is_within tree.nodes other ino ≡ true))

within_operation : (tree : Nodes) (ino other above : ℕ) (operation : Operation) → is_within (tree_with tree ino operation).nodes other above ≡ true → Lay tree ino operation other above
within_operation tree ino other above operation below = grind (arith, moved-within, changed-within)

-- ---- however it ends

pub within-after : (tree : Nodes) (q : Request) (o : Outcome) (other above : ℕ) → is_within (tree_after tree q o).nodes other above ≡ true → Lay tree q.ino.0 q.operation other above
within-after tree q o other above below = grind (arith, within_operation)

pub alike-apart : (s : Scene) (q : Request) (o : Outcome) (ino : ℕ) → IsTree s.tree → MayEndAs s q o → ino ≢ q.ino.0
    → (is_rename q.operation ≡ true → is_within s.tree.nodes ino q.ino.0 ≡ false) → IsAlike s.tree (tree_after s.tree q o) ino
alike-apart s q o ino sound ends off below = elim (stays-or-makes s q o ends) [
  | inl left ↦ subst (λ (t : Nodes). IsAlike s.tree t ino) left (alike-itself s.tree ino)
  | inr made ↦
      let passed = passed-all s (operation_before s q.ino.0 q.operation) (operation_needs s q.client q.ino.0 q.operation) (operation_after s q.ino.0 q.operation) made.0 in
      subst (λ (t : Nodes). IsAlike s.tree t ino) made.1 (alike_operation s q.ino.0 ino q.operation sound passed.1 off below)
]

pub sound-after : (s : Scene) (q : Request) (o : Outcome) → IsTree s.tree → MayEndAs s q o → IsTree (tree_after s.tree q o)
sound-after s q o sound ends = elim (stays-or-makes s q o ends) [
  | inl left ↦ subst IsTree left sound
  | inr made ↦
      let passed = passed-all s (operation_before s q.ino.0 q.operation) (operation_needs s q.client q.ino.0 q.operation) (operation_after s q.ino.0 q.operation) made.0 in
      subst IsTree made.1 (sound_operation s q.ino.0 q.operation sound passed.0 passed.1)
]
