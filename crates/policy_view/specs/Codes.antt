-- How a view is stored.
use Rattle.std.specs.Prelude.{refl}
use Rattle.std.specs.Coded.{Coded, code_by, coded×}
use Rattle.inotree.specs.Tree.{Nodes, nodes_code}
use Rattle.sessiontab.specs.Connected.{SessionMap, session_map_code}
use Rattle.policy_view.specs.declared.view.View.{View}

abbrev pub view_code : Coded View
view_code = code_by (Nodes × SessionMap) (coded× nodes_code session_map_code) (λ v. (v.tree, v.sessions)) (λ p. record { tree = p.0; sessions = p.1 }) (λ _. refl)
