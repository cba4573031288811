-- A request that is judged again when it is served: the calls that it makes, how it ends and the tree that it leaves.
use Rattle.std.proofs.Common.{◌≡◌, ◌⊎◌, inl, inr, ℕ, true, Option, Some, None, refl, sym, ap, subst, ◌∙◌, arith}
use Rattle.capbits.proofs.Tests.{pass-both}
use Rattle.capbits.specs.declared.cap.Part.{Part}
use Rattle.inotree.specs.declared.node.Node.{Node}
use Rattle.capstep.specs.Operations.{change_tests}
use Rattle.capstep.specs.Serving.{As_judged, MayEndAs, Without_memory, outcome_unless, passed_as, rejection_outcome, values_outcome}
use Rattle.step_acts.proofs.Common.{Alter, Change, Nodes, Operation, Outcome, Rejection, Request, Scene}
use Rattle.step_acts.proofs.Common.{first_failing, judged_again, operation_after, operation_before, takes_memory, tree_after, tree_with}
use Rattle.capstep.proofs.Rejecting.{passed-all}
use Rattle.step_acts.specs.Served.{call_tests, change_call_tests}

-- ---- how it ends

-- the call that makes a change finds its tests passed
pub change-passed : (s : Scene) (ino : ℕ) (change : Change) → first_failing (operation_before s ino (Alter change)) ≡ None → first_failing (change_tests s ino change) ≡ None → first_failing (change_call_tests s.tree ino change) ≡ None
change-passed s ino change one more = grind (arith, pass-both)

operation_passed : (s : Scene) (ino : ℕ) (operation : Operation) → first_failing (operation_before s ino operation) ≡ None → first_failing (operation_after s ino operation) ≡ None → first_failing (call_tests s.tree ino operation) ≡ None
operation_passed s ino operation one more = grind (arith, change-passed, pass-both)

-- the call that carries out a request that nothing rejects finds its tests passed
pub calls-passed : (s : Scene) (q : Request) → judged_again s q ≡ None → first_failing (call_tests s.tree q.ino.0 q.operation) ≡ None
calls-passed s q free = grind (arith, passed-all, operation_passed)

-- a request that is rejected ends so
pub ends-rejection : (s : Scene) (q : Request) (rejection : Rejection) (o : Outcome) → judged_again s q ≡ Some rejection → o ≡ rejection_outcome rejection → MayEndAs s q o
ends-rejection s q rejection o is ends = subst (MayEndAs s q) (sym (ends ∙ ap (outcome_unless s q) (sym is))) As_judged

-- and one that nothing rejects as its operation ends
pub ends-passed : (s : Scene) (q : Request) (o : Outcome) → judged_again s q ≡ None → o ≡ passed_as s q.ino.0 q.operation → MayEndAs s q o
ends-passed s q o free ends = subst (MayEndAs s q) (sym (ends ∙ ap (outcome_unless s q) (sym free))) As_judged

pub ends-without_memory : (s : Scene) (q : Request) (o : Outcome) → judged_again s q ≡ None → takes_memory q.operation ≡ true → o ≡ Outcome.OutOfMemory → MayEndAs s q o
ends-without_memory s q o free takes ends = subst (MayEndAs s q) (sym ends) (Without_memory free takes)

-- ---- the tree that it leaves

pub tree-rejection : (tree : Nodes) (q : Request) (rejection : Rejection) (o : Outcome) → o ≡ rejection_outcome rejection → tree ≡ tree_after tree q o
tree-rejection tree q rejection o is = grind arith

values-tree : (tree : Nodes) (q : Request) (part : Part) (node : Option Node) (same : tree_with tree q.ino.0 q.operation ≡ tree) → tree_with tree q.ino.0 q.operation ≡ tree_after tree q (values_outcome part node)
values-tree tree q part node same = grind arith

passed_tree : (s : Scene) (q : Request) (operation : Operation) → q.operation ≡ operation → tree_with s.tree q.ino.0 q.operation ≡ tree_after s.tree q (passed_as s q.ino.0 operation)
passed_tree s q operation is = grind (arith, values-tree)

pub tree-passed : (s : Scene) (q : Request) → tree_with s.tree q.ino.0 q.operation ≡ tree_after s.tree q (passed_as s q.ino.0 q.operation)
tree-passed s q = passed_tree s q q.operation refl

-- a serving leaves the tree, or makes the change that nothing rejects
pub stays-or-makes : (s : Scene) (q : Request) (o : Outcome) → MayEndAs s q o →
    (s.tree ≡ tree_after s.tree q o) ⊎ ((judged_again s q ≡ None) × (tree_with s.tree q.ino.0 q.operation ≡ tree_after s.tree q o))
stays-or-makes s q o (As_judged) = by_rejection (judged_again s q) refl
  where
    by_rejection : (rejection : Option Rejection) → judged_again s q ≡ rejection →
        (s.tree ≡ tree_after s.tree q (outcome_unless s q (judged_again s q))) ⊎ ((judged_again s q ≡ None) × (tree_with s.tree q.ino.0 q.operation ≡ tree_after s.tree q (outcome_unless s q (judged_again s q))))
    by_rejection None is = inr (is, tree-passed s q ∙ ap (λ rejection. tree_after s.tree q (outcome_unless s q rejection)) (sym is))
    by_rejection (Some rejection) is = inl (tree-rejection s.tree q rejection (outcome_unless s q (judged_again s q)) (ap (outcome_unless s q) is))
stays-or-makes s q o (Without_memory free takes) = inl refl
