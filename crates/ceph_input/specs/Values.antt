-- What stands at the keys of JSON objects, and why a text gives nothing.
use Rattle.std.specs.Prelude.{◌≡◌, ℕ, ◌^◌, nat_lt, if◌then◌else◌, List, Option, Some, None, Result, Err, option_and_then}
use Rattle.serde_json.specs.Data.{Data, Items, no_items}
use Rattle.serde_json.specs.Find.{as_array, as_number, as_str, as_u64, get}
use Rattle.ceph_input.specs.declared.cluster_fault.ClusterFault.{ClusterFault}
use Rattle.ceph_input.specs.declared.cluster_fault.ClusterFault.TheVariants.{NoMemory, NotJson}
use Rattle.ceph_input.specs.declared.values.NoJson.{NoJson}
use Rattle.ceph_input.specs.declared.values.NoJson.TheVariants as no_json

-- the text at a key
abbrev pub text_at : List ℕ → Data → Option (List ℕ)
text_at key d = option_and_then as_str (get key d)

-- the number at a key, of 64 bits and without a sign
abbrev pub number_at : List ℕ → Data → Option ℕ
number_at key d = option_and_then as_u64 (option_and_then as_number (get key d))

-- the same of 32 bits
abbrev pub id_at : List ℕ → Data → Option ℕ
id_at key d = option_and_then (λ n. if nat_lt n (2 ^ 32) then Some n else None) (number_at key d)

abbrev pub items_or_none : Option Data → Option Items
items_or_none None = Some no_items
items_or_none (Some list) = as_array list

-- the items of the list at a key; none where nothing stands there
abbrev pub items_at : List ℕ → Data → Option Items
items_at key d = items_or_none (get key d)

-- ---- faults

-- the text is no JSON; want of memory is in no text
abbrev pub IsNoJson : NoJson → Option Data → Type 0
IsNoJson (no_json.At line column) json = json ≡ None
IsNoJson no_json.NoMemory json = Unit {0}

-- the fault is the one that is found in a text; None is found where it is no JSON
abbrev pub IsFaultIn : {T : Type 0} → ClusterFault → Option (Result T ClusterFault) → Type 0
IsFaultIn NoMemory found = Unit {0}
IsFaultIn (NotJson line column) found = found ≡ None
IsFaultIn fault found = found ≡ Some (Err fault)
