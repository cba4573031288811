-- How a table is stored: as the parts of it.
use Rattle.std.specs.Prelude.{List, refl, ℕ}
use Rattle.std.specs.Coded.{Coded, code_by, coded_list, coded_ℕ, coded×}
use Rattle.captable.specs.declared.entry.Holder.{Holder}
use Rattle.captable.specs.declared.entry.EntryRow.{EntryRow}
use Rattle.captable.specs.declared.entry.ClientView.{ClientView}
use Rattle.captable.specs.contracts.entry.Holder as holder
use Rattle.captable.specs.contracts.entry.EntryRow as entry_row
use Rattle.captable.specs.contracts.entry.ClientView as sets
use Rattle.captable.specs.Kept.{KeptRow, KeptTable}
use Rattle.captable.specs.Table.{Table}

abbrev pub table_code : Coded Table
table_code =
    code_by (List EntryRow × (List Holder × ℕ)) (coded× (coded_list entry_row.the_row.coded) (coded× (coded_list holder.the_row.coded) coded_ℕ))
    (λ t. (t.rows, (t.recall, t.made))) (λ p. record { rows = p.0; recall = p.1.0; made = p.1.1 }) (λ _. refl)

abbrev pub kept_row_code : Coded KeptRow
kept_row_code =
    code_by (Holder × ClientView) (coded× holder.the_row.coded sets.the_row.coded)
    (λ r. (r.holder, r.sets)) (λ p. record { holder = p.0; sets = p.1 }) (λ _. refl)

-- with what is kept beside it
abbrev pub kept_table_code : Coded KeptTable
kept_table_code =
    code_by (Table × List KeptRow) (coded× table_code (coded_list kept_row_code))
    (λ t. (t.entries, t.kept)) (λ p. record { entries = p.0; kept = p.1 }) (λ _. refl)
