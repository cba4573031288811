-- The sessions of a cluster's clients.
use Rattle.std.specs.Prelude.{◌-◌, ◌==◌, ℕ, Bool, false, not, nat_lt, if◌then◌else◌, List, [], codes, get_or, length, Option, unwrap_or, option_map, option_and_then, Result, Err}
use Rattle.std.specs.List.{list_any}
use Rattle.serde_json.specs.Data.{Data, Items}
use Rattle.serde_json.specs.Find.{as_array, get}
use Rattle.ceph_input.specs.Auth.{json_of}
use Rattle.ceph_input.specs.Each.{each_of}
use Rattle.ceph_input.specs.declared.cluster_fault.ClusterFault.{ClusterFault}
use Rattle.ceph_input.specs.declared.cluster_fault.ClusterFault.TheVariants.{BadItem, NoList}
use Rattle.ceph_input.specs.Values.{number_at, text_at}

-- a key: what it is the key of, such as `client`, and its name
pub record KeyName : Type 0 where
  pub kind : List ℕ
  pub id : List ℕ

abbrev pub key_of : List ℕ → List ℕ → KeyName
key_of kind id = record { kind = kind; id = id }

-- a session: its number, the key by which its client was let in, and what it calls itself, where these are told, and whether its client is
-- known not to check itself
pub record Connected : Type 0 where
  pub number : ℕ
  pub key : Option KeyName
  pub entity : Option (List ℕ)
  pub unchecked : Bool

abbrev pub connected : ℕ → Option KeyName → Option (List ℕ) → Bool → Connected
connected number key entity unchecked = record { number = number; key = key; entity = entity; unchecked = unchecked }

-- the key that stands at `auth_name`
abbrev pub key_at : Data → Option KeyName
key_at d = option_and_then (λ kind. option_map (key_of kind) (text_at (codes "id") d)) (text_at (codes "type_str") d)

abbrev pub key_in : Data → Option KeyName
key_in d = option_and_then key_at (get (codes "auth_name") d)

-- what the client of a session calls itself
abbrev pub entity_in : Data → Option (List ℕ)
entity_in d = option_and_then (text_at (codes "entity_id")) (get (codes "client_metadata") d)

-- of a number in hexadecimal digits the sixth from the end has the bits 20 to 23, and with one of these bit 21
abbrev pub has_bit_21 : List ℕ → Bool
has_bit_21 digits = if nat_lt (length digits) 6 then false else list_any (λ digit. digit == get_or digits (length digits - 6) 0) (codes "2367abef")

-- the features that the client of a session has
abbrev pub features_in : Data → Option (List ℕ)
features_in d = option_and_then (text_at (codes "feature_bits")) (option_and_then (get (codes "client_features")) (get (codes "client_metadata") d))

-- it tells its features, and not the one of bit 21: that it checks by its grants what it changes
abbrev pub unchecked_in : Data → Bool
unchecked_in d = unwrap_or (option_map (λ features. not (has_bit_21 features)) (features_in d)) false

-- the session that an item is: with a number at `id`
abbrev pub session_of : Data → Option Connected
session_of d = option_map (λ number. connected number (key_in d) (entity_in d) (unchecked_in d)) (number_at (codes "id") d)

-- the sessions that the items are, behind those before; or the number of the first that is none
abbrev pub sessions_from : List Connected → Items → Result (List Connected) ClusterFault
sessions_from before items = each_of session_of BadItem before items

-- the sessions that a JSON value lists
abbrev pub sessions_in : Data → Result (List Connected) ClusterFault
sessions_in d = unwrap_or (option_map (sessions_from []) (as_array d)) (Err NoList)

-- the same of a text; None where it is no JSON
abbrev pub sessions_of : List ℕ → Option (Result (List Connected) ClusterFault)
sessions_of text = option_map sessions_in (json_of text)
