-- What the items of a list give, one after the other.
use Rattle.std.specs.Prelude.{ℕ, ◌+◌, List, [], ◌∷◌, ◌++◌, length, Option, Some, option_and_then, option_map, unwrap_or, Result, Ok, Err}
use Rattle.serde_json.specs.Data.{Data, Items, item, no_items}

-- what is made of the items, each added to what was made before; None where one can't be added
abbrev pub with_each : {A : Type 0} → (A → Data → Option A) → A → Items → Option A
with_each add before no_items = Some before
with_each add before (item d ds) = option_and_then (λ more. with_each add more ds) (add before d)

-- what each item is, behind those before; or what is wrong, by the number of the first that is none
abbrev pub each_of : {T F : Type 0} → (Data → Option T) → (ℕ → F) → List T → Items → Result (List T) F
each_of read wrong before no_items = Ok before
each_of read wrong before (item d ds) = unwrap_or (option_map (λ t. each_of read wrong (before ++ t ∷ []) ds) (read d)) (Err (wrong (length before + 1)))
