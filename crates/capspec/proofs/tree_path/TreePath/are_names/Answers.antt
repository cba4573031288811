use Rattle.capspec.proofs.Slashed.{are_all_names}
use Rattle.capspec.proofs.tree_path.TreePath.are_names.Goals as goal

pub returns : goal.returns
returns c = rw (← c.self.view_is) (are_all_names c.self.inside.text.items)
