-- The rows that the values stand in, and the place of each number among them.
use Rattle.std.specs.Prelude.{◌≡◌, ℕ, List, Option, Some, slice_get, is_some, if◌then◌else◌}
use Rattle.std.specs.Prelude.{map as each}
use Rattle.std.specs.BTreeMap.{BTreeMap, get}
use Rattle.std.specs.FinMap as map
use Rattle.std.specs.FinMap.{FinMap}
use Rattle.std.specs.Option.{option_map}
use Rattle.std.specs.Ordering.{nat_cmp}
use Rattle.capbits.specs.declared.rows.Row.{Row}

module _ {T : Type 0} where
  -- a row's value under its number
  abbrev pub entry_of : Row T → ℕ × T
  entry_of row = (row.number, row.value)

  -- the values that stand in the rows
  abbrev pub map_of : List (Row T) → FinMap nat_cmp T
  map_of rows = map.from_entries (each entry_of rows)

  -- a map with a value under a number, if that had none
  abbrev pub with_new : FinMap nat_cmp T → ℕ → T → FinMap nat_cmp T
  with_new m number value = if map.contains_key m number then m else map.insert m number value

  -- the number in the row at a place, if there is one
  abbrev pub number_at : List (Row T) → ℕ → Option ℕ
  number_at rows k = option_map (λ (row : Row T). row.number) (slice_get rows k)

  -- the number in each row has its place. So no two rows have the same number
  abbrev pub HasPlaces : BTreeMap ℕ ℕ → List (Row T) → Type 0
  HasPlaces places rows = (k q : ℕ) → number_at rows k ≡ Some q → get nat_cmp places q ≡ Some k

  -- a number has a place exactly if a row has it
  abbrev pub HasRows : BTreeMap ℕ ℕ → List (Row T) → Type 0
  HasRows places rows = (q : ℕ) → is_some (get nat_cmp places q) ≡ map.contains_key (map_of rows) q

  -- each row has its place, and no other number has one
  abbrev pub IsPlaced : BTreeMap ℕ ℕ → List (Row T) → Type 0
  IsPlaced places rows = HasPlaces places rows × HasRows places rows
