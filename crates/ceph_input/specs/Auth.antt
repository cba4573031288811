-- The entities of an auth list, and the text of the grants that each has for the MDS.
use Rattle.std.specs.Prelude.{◌≡◌, ℕ, Bool, nat_eq, bytes_eq, if◌then◌else◌, List, [], find, codes, Option, Some, None, is_some}
use Rattle.std.specs.Prelude.{unwrap_or, ok_or, option_map, option_and_then, Result, Err}
use Rattle.std.specs.List.{starts_with}
use Rattle.std.specs.Str.{is_utf8}
use Rattle.serde_json.specs.Data.{Data, Items}
use Rattle.serde_json.specs.Read.{read}
use Rattle.serde_json.specs.Find.{as_array, as_object, as_str, get}
use Rattle.ceph_input.specs.declared.auth_fault.AuthFault.{AuthFault}
use Rattle.ceph_input.specs.declared.auth_fault.AuthFault.TheVariants.{NoCaps, NoEntity, NoList, NoMemory, NotAnEntity, NotJson}
use Rattle.ceph_input.specs.Each.{each_of}

-- an entity: its name, and the text of its grants for the MDS, if it has one
pub record Named : Type 0 where
  pub name : List ℕ
  pub caps : Option (List ℕ)

abbrev pub named : List ℕ → Option (List ℕ) → Named
named name caps = record { name = name; caps = caps }

-- its name begins with `client.`
abbrev pub is_client : Named → Bool
is_client e = starts_with nat_eq e.name (codes "client.")

-- the JSON that a text is, if it is in UTF-8 and is JSON
abbrev pub json_of : List ℕ → Option Data
json_of text = if is_utf8 text then read text else None

-- what may be missing, but is else a text
abbrev pub text_or_none : Option Data → Option (Option (List ℕ))
text_or_none None = Some None
text_or_none (Some value) = option_map Some (as_str value)

-- what the caps of an entity, which are an object, have at `mds`
abbrev pub mds_in : Data → Option (Option (List ℕ))
mds_in caps = if is_some (as_object caps) then text_or_none (get (codes "mds") caps) else None

-- the entity that an item is: with a text at `entity`, and caps at `caps`
abbrev pub entity_of : Data → Option Named
entity_of d = option_and_then (λ name. option_map (named name) (option_and_then mds_in (get (codes "caps") d))) (option_and_then as_str (get (codes "entity") d))

-- the entities that the items are, behind those before; or the number of the first that is none
abbrev pub entities_of : List Named → Items → Result (List Named) AuthFault
entities_of before items = each_of entity_of NotAnEntity before items

-- the list at `auth_dump`, else the value itself, if it is one
abbrev pub list_in : Data → Option Items
list_in d = as_array (unwrap_or (get (codes "auth_dump") d) d)

-- the auth list that a JSON value is
abbrev pub auth_in : Data → Result (List Named) AuthFault
auth_in d = unwrap_or (option_map (entities_of []) (list_in d)) (Err NoList)

-- the same of a text; None where it is no JSON
abbrev pub auth_of : List ℕ → Option (Result (List Named) AuthFault)
auth_of text = option_map auth_in (json_of text)

-- the fault is the one that is found in a text; want of memory is in none
abbrev pub IsFaultOf : AuthFault → Option (Result (List Named) AuthFault) → Type 0
IsFaultOf NoMemory found = Unit {0}
IsFaultOf (NotJson line column) found = found ≡ None
IsFaultOf fault found = found ≡ Some (Err fault)

-- the grants of an entity, if there is one
abbrev pub caps_of : Option Named → Result (List ℕ) AuthFault
caps_of None = Err NoEntity
caps_of (Some e) = ok_or e.caps NoCaps

-- the grants of the first entity of this name
abbrev pub caps_in : List Named → List ℕ → Result (List ℕ) AuthFault
caps_in list name = caps_of (find (λ e. bytes_eq e.name name) list)
