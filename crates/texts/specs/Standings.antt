-- The object that says of one client whether somebody behind its key may make an access.
use Rattle.std.specs.Prelude.{◌≡◌, ◌<◌, ◌^◌, ℕ, Option, Some, None, IfSome, List, [], ◌∷◌, codes}
use Rattle.hex.specs.Hex.{IsBytes}
use Rattle.serde_json.specs.Data.{Data, Members, no_members, object, string}
use Rattle.capspec.specs.declared.fault.SpecFault.{SpecFault}
use Rattle.capgrant.specs.declared.access.Attr.{Attr}
use Rattle.capgrant.specs.declared.answer.Verdict.TheVariants as verdicts
use Rattle.policy_analysis.specs.declared.standing.Standing.{Standing}
use Rattle.policy_analysis.specs.declared.standing.Standing.TheVariants.{Allowed, Denied, Depends}
use Rattle.policy_analysis.specs.Callers.{Wanted}
use Rattle.release_rules.specs.declared.beside.Others.{Others}
use Rattle.texts.specs.Explaining.{path_text}
use Rattle.texts.specs.Lines.{HasNumber}
use Rattle.texts.specs.Standing.{fault_word}
use Rattle.texts.specs.Values.{Table, bytes_value, json_line, natural, with_all}
use Rattle.texts.specs.Answers.{allowing_table, attr_table, others_table, place_table, verdict_table}

-- the owner, the group and the mode, where they are known
abbrev pub known_table : Option Attr → Table
known_table None = []
known_table (Some attr) = attr_table attr

-- the members, the client, and what is asked of it
abbrev pub with_client : List ℕ → Wanted → Option Attr → Members → Members
with_client client w attr ms = with_all (known_table attr) (with_all (place_table w.access w.path w.fs) (with_all ((codes "client", bytes_value client) ∷ []) ms))

-- the object with the client, what is asked of it, and these members
abbrev pub client_value : List ℕ → Wanted → Option Attr → Table → Data
client_value client w attr table = object (with_all table (with_client client w attr no_members))

-- by which grant, or by which rules
abbrev pub standing_table : Standing → Table
standing_table (Allowed grant) = allowing_table (codes "allowed") grant
standing_table (Depends grant) = allowing_table (codes "depends") grant
standing_table (Denied rules) = verdict_table (verdicts.Denied rules)

-- and what the MDS of each release answers, where it answers otherwise
abbrev pub standing_value : List ℕ → Wanted → Option Attr → Standing → Others → Data
standing_value client w attr standing others = object (with_all (others_table others) (with_all (standing_table standing) (with_client client w attr no_members)))

-- what is wrong with its grants, and how many bytes of their text stand before that
abbrev pub fault_table : SpecFault → Table
fault_table fault = (codes "verdict", string (codes "unread")) ∷ (codes "fault", string (fault_word fault.kind)) ∷ (codes "at", natural fault.at) ∷ []

abbrev pub unread_value : List ℕ → Wanted → Option Attr → SpecFault → Data
unread_value client w attr fault = object (with_all (fault_table fault) (with_client client w attr no_members))

-- ---- as lines

abbrev pub standing_object : List ℕ → Wanted → Option Attr → Standing → Others → List ℕ
standing_object client w attr standing others = json_line (standing_value client w attr standing others)

abbrev pub unread_object : List ℕ → Wanted → Option Attr → SpecFault → List ℕ
unread_object client w attr fault = json_line (unread_value client w attr fault)

-- ---- one answer for an object

-- what is asked has bytes for names and numbers of 32 bits, and a mode of 12 where one is known
pub record IsWanted (name : List ℕ) (w : Wanted) (attr : Option Attr) : Type 0 where
  pub client : IsBytes name
  pub access : HasNumber w.access
  pub path : IsBytes (path_text w.path)
  pub fs : IsBytes w.fs
  pub mode : IfSome attr (λ known. known.mode < 2 ^ 12)

-- the same is asked of the same client; of two paths the text is
abbrev pub AskAlike : List ℕ → List ℕ → Wanted → Wanted → Option Attr → Option Attr → Type 0
AskAlike c d w u a b = (c ≡ d) × (w.access ≡ u.access) × (path_text w.path ≡ path_text u.path) × (w.fs ≡ u.fs) × (a ≡ b)

-- what is said of clients and is the same object is the same said of the same client
abbrev pub OneStanding : Type 0
OneStanding = (c d : List ℕ) (w u : Wanted) (a b : Option Attr) (s t : Standing) (others further : Others) → IsWanted c w a → IsWanted d u b
    → standing_value c w a s others ≡ standing_value d u b t further → AskAlike c d w u a b × (s ≡ t) × (others ≡ further)
