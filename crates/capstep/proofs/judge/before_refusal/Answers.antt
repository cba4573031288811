use Rattle.std.proofs.Common.{◌≡◌, ℕ, [], ◌∷◌, ◌++◌, Option, Some, None, sym, ap, ◌∙◌, arith}
use Rattle.capbits.proofs.Tests.{failing-front}
use Rattle.inotree.specs.Tests.{inode_tests, root_test}
use Rattle.lockmachine.specs.declared.request.Operation.TheVariants.{Get, Rename}
use Rattle.lockmachine.specs.Scene.{plain}
use Rattle.capstep.proofs.Common.{Alter, Nodes, Operation, Refusal, Rmdir, Scene, Unlink, first_failing, operation_before}
use Rattle.capstep.specs.OperationRefs.{operation_of}
use Rattle.capstep.specs.declared.operations.OperationRef.{OperationRef}
use Rattle.capstep.proofs.judge.before_refusal.Goals as goal

-- each operation is on an inode that is there and has a path
missing : (s : Scene) (ino : ℕ) (operation : Operation) (r : Refusal) → first_failing (inode_tests s.tree ino) ≡ Some r → first_failing (operation_before s ino operation) ≡ Some r
missing s ino (Get part) r is = is
missing s ino (Alter change) r is = is
missing s ino Unlink r is = failing-front (inode_tests s.tree ino) (root_test s.tree ino ∷ []) r is
missing s ino Rmdir r is = failing-front (inode_tests s.tree ino) (root_test s.tree ino ∷ []) r is
missing s ino (Rename dir name) r is = failing-front (inode_tests s.tree ino) (root_test s.tree ino ∷ inode_tests s.tree dir.0) r is

pub returns-in-Some : goal.returns-in-Some
returns-in-Some c = sym (missing (plain c.args.scene.now) c.args.ino.0 (operation_of c.args.operation) c.in-Some.refusal (sym c.inode_refusal.ensures ∙ c.in-Some.is))

moved : (tree : Nodes) (ino dir : ℕ) (r : Option Refusal) → first_failing (inode_tests tree ino) ≡ None → first_failing (root_test tree ino ∷ []) ≡ None
    → r ≡ first_failing (inode_tests tree dir) → r ≡ first_failing (inode_tests tree ino ++ root_test tree ino ∷ inode_tests tree dir)
moved tree ino dir r here apart is = grind arith

pub returns-in-None : goal.returns-in-None
returns-in-None c =
    let s : Scene = plain c.args.scene.now in
    moved s.tree c.args.ino.0 c.in-Rename.dir.0 c.inode_refusal-in-None.result (sym c.inode_refusal.ensures ∙ c.in_default.is) (sym c.root_refusal-in-Rename.ensures ∙ c.in-None.is) c.inode_refusal-in-None.ensures
    ∙ ap (λ (operation : OperationRef). first_failing (operation_before s c.args.ino.0 (operation_of operation))) (sym c.in-Rename.is)
