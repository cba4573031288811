use Rattle.capspec.proofs.Counted.{counted_names}
use Rattle.capspec.proofs.tree_path.TreePath.from_slashed.Goals as goal

pub invariant_of-result : goal.invariant_of-result
invariant_of-result c = (c.requires, counted_names _ _ _ c.count_slashes-count.ensures c.as_slice.ensures.value c.requires)
