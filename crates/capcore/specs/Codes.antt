-- How values are stored.
use Rattle.std.specs.Coded.{Coded, code_by, coded_list, coded_ℕ, coded×}
use Rattle.std.specs.Prelude.{List, refl, ℕ}
use Rattle.inotree.specs.Tree.{Nodes, nodes_code}
use Rattle.captable.specs.Table.{Table}
use Rattle.captable.specs.Codes as entries
use Rattle.sessiontab.specs.Table.{SessionTable, table_code}
use Rattle.capstep.specs.declared.outcome.Ended.{Ended}
use Rattle.capstep.specs.declared.row.Row.{Row}
use Rattle.capstep.specs.History.{CoreValue, core_value}
use Rattle.capstep.specs.State.{State}
use Rattle.policy_view.specs.declared.change.ViewChange.{ViewChange}
use Rattle.lockmachine.specs.Codes.{lock_map_code}
use Rattle.lockmachine.specs.Locks.{LockMap}
use Rattle.lockmachine.specs.Scene.{Scene}
use Rattle.policy_view.specs.contracts.change.ViewChange as view_change
use Rattle.capstep.specs.contracts.outcome.Ended as ended
use Rattle.capstep.specs.contracts.row.Row as history_row

-- a state as its parts
abbrev pub scene_code : Coded Scene
scene_code =
    code_by (List ℕ × (Nodes × (SessionTable × (Table × LockMap))))
    (coded× (coded_list coded_ℕ) (coded× nodes_code (coded× table_code (coded× entries.table_code lock_map_code))))
    (λ s. (s.fs, (s.tree, (s.sessions, (s.table, s.locks)))))
    (λ p. record { fs = p.0; tree = p.1.0; sessions = p.1.1.0; table = p.1.1.1.0; locks = p.1.1.1.1 })
    (λ _. refl)

abbrev pub state_code : Coded State
state_code =
    code_by (Scene × List Ended) (coded× scene_code (coded_list ended.the_row.coded))
    (λ s. (s.scene, s.messages)) (λ p. record { scene = p.0; messages = p.1 }) (λ _. refl)

-- and with its history, and what the last step changed
abbrev pub core_code : Coded CoreValue
core_code =
    code_by (State × (List Row × (ℕ × List ViewChange)))
    (coded× state_code (coded× (coded_list history_row.the_row.coded) (coded× coded_ℕ (coded_list view_change.the_row.coded))))
    (λ t. (t.state, (t.rows, (t.max_rows, t.changes)))) (λ p. core_value p.0 p.1.0 p.1.1.0 p.1.1.1) (λ _. refl)
