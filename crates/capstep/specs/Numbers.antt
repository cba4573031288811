-- The numbers of rows.
use Rattle.std.specs.FinMap as map
use Rattle.std.specs.FinMap.{FinMap}
use Rattle.std.specs.List.{count_by}
use Rattle.std.specs.Ordering.{nat_cmp}
use Rattle.std.specs.Prelude.{◌≡◌, ◌==◌, ℕ, ◌+◌, List, ◌∷◌, ◌++◌, unwrap_or}
use Rattle.capbits.specs.declared.ids.PassId.{PassId}
use Rattle.capstep.specs.declared.row.Row.{Row}

-- how many of the rows are of a pass
abbrev pub rows_of : PassId → List Row → ℕ
rows_of pass rows = count_by (λ row. row.pass.0 == pass.0) rows

-- the rows of each pass are numbered 1, 2, 3 and so on
abbrev pub AreNumbered : List Row → Type 0
AreNumbered rows = (earlier later : List Row) (row : Row) → rows ≡ earlier ++ row ∷ later → row.nth ≡ rows_of row.pass earlier + 1

-- how many rows a pass has by these counts: none where it has no count
abbrev pub count_of : FinMap nat_cmp ℕ → PassId → ℕ
count_of counts pass = unwrap_or (map.get counts pass.0) 0

-- each pass has as many rows as its count says
abbrev pub AreCounted : FinMap nat_cmp ℕ → List Row → Type 0
AreCounted counts rows = (pass : PassId) → count_of counts pass ≡ rows_of pass rows
