-- By which name the auth list knows the client of a session.
use Rattle.std.specs.Prelude.{◌≡◌, ℕ, Bool, not, ◌&&◌, is_some, if◌then◌else◌, List, ◌++◌, codes, find, bytes_eq, map, Option, Some, None, option_map, Ok}
use Rattle.ceph_input.specs.Auth.{Named}
use Rattle.ceph_input.specs.Sessions.{Connected, KeyName, sessions_of}

-- a session: its number, the name of its client in the auth list, if it tells one, what it calls itself otherwise, if it does, and whether it is
-- known not to check itself
pub record Known : Type 0 where
  pub number : ℕ
  pub client : Option (List ℕ)
  pub alias : Option (List ℕ)
  pub unchecked : Bool

abbrev pub known : ℕ → Option (List ℕ) → Option (List ℕ) → Bool → Known
known number client alias unchecked = record { number = number; client = client; alias = alias; unchecked = unchecked }

abbrev pub is_listed : List Named → List ℕ → Bool
is_listed entities name = is_some (find (λ e. bytes_eq e.name name) entities)

-- the name of a key of this kind
abbrev pub key_name : List ℕ → List ℕ → List ℕ
key_name kind id = kind ++ (codes "." ++ id)

abbrev pub client_name : List ℕ → List ℕ
client_name id = key_name (codes "client") id

abbrev pub manager_name : List ℕ → List ℕ
manager_name id = key_name (codes "mgr") id

-- of whom no key is told, who calls itself this is a client; or a manager, where the list has one of this name, and no client
abbrev pub name_in : List Named → List ℕ → List ℕ
name_in entities id = if not (is_listed entities (client_name id)) && is_listed entities (manager_name id) then manager_name id else client_name id

-- the name of the key, or what the client calls itself tells
abbrev pub told_name : List Named → Option KeyName → Option (List ℕ) → Option (List ℕ)
told_name entities (Some k) entity = Some (key_name k.kind k.id)
told_name entities None entity = option_map (name_in entities) entity

-- what the client calls itself, where its key has another name
abbrev pub alias_of : Option KeyName → Option (List ℕ) → Option (List ℕ)
alias_of None entity = None
alias_of (Some k) None = None
alias_of (Some k) (Some id) = if bytes_eq k.id id then None else Some id

abbrev pub known_as : List Named → Connected → Known
known_as entities s = known s.number (told_name entities s.key s.entity) (alias_of s.key s.entity) s.unchecked

-- the text means sessions, and these are they by the names that the list has
abbrev pub AreKnown : List Named → List ℕ → List Known → Type 0
AreKnown entities text sessions = (listed : List Connected) × (sessions_of text ≡ Some (Ok listed)) × (sessions ≡ map (known_as entities) listed)
