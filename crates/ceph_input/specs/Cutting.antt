-- What a reader of an array has read, and the rows that are left.
use Rattle.std.specs.Prelude.{ℕ, ◌+◌, ◌<◌, ◌++◌, ◌≡◌, List, length, Option, Some, None}
use Rattle.ceph_input.specs.declared.stage.Stage.{Stage}
use Rattle.ceph_input.specs.declared.cut.Cut.{Cut}
use Rattle.ceph_input.specs.Rows.{Rows, row, rows_at, unindented}

-- where it stands, how many bytes it has read, and what of an item that is not yet whole
pub record Reading : Type 0 where
  pub stage : Stage
  pub byte : ℕ
  pub item : List ℕ

abbrev pub reading : Stage → ℕ → List ℕ → Reading
reading stage byte item = record { stage = stage; byte = byte; item = item }

-- the rows of the text that follows
abbrev pub rows_left : Reading → List ℕ → Rows
rows_left r text = rows_at r.stage r.byte r.item text

-- the same where an item is handed on, behind which this is left of a chunk; where none is, the chunk is used up
abbrev pub handed : Option Cut → Reading → List ℕ → Rows
handed None r tail = rows_left r tail
handed (Some cut) r tail = row cut.byte (unindented r.item) (rows_left r (cut.rest.now ++ tail))

-- each byte of a chunk is counted as read, or left
abbrev pub IsCounted : Option Cut → ℕ → List ℕ → ℕ → Type 0
IsCounted None old chunk new = new ≡ old + length chunk
IsCounted (Some cut) old chunk new = (new + length cut.rest.now ≡ old + length chunk) × (length cut.rest.now < length chunk)
