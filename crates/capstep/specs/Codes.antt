-- How values are stored.
use Rattle.std.specs.Coded.{Coded, code_by, coded_list, coded_ℕ, coded×}
use Rattle.std.specs.Prelude.{List, refl, ℕ}
use Rattle.policy_view.specs.declared.change.ViewChange.{ViewChange}
use Rattle.policy_view.specs.contracts.change.ViewChange as view_change
use Rattle.capstep.specs.NotedChanges.{Noted}

-- a list with room as its parts
abbrev pub noted_code : Coded Noted
noted_code =
    code_by (List ViewChange × ℕ) (coded× (coded_list view_change.the_row.coded) coded_ℕ)
    (λ n. (n.items, n.room)) (λ p. record { items = p.0; room = p.1 }) (λ _. refl)
