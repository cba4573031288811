-- What clients of a cluster hold and may not.
use Rattle.std.specs.Prelude.{◌≡◌, ◌⊎◌, ◌==◌, ◌||◌, ℕ, Bool, false, is_some, if◌then◌else◌, Option, Some, None, option_and_then, option_map, unwrap_or, Ok, List, [], ◌∷◌, ◌++◌, length, find}
use Rattle.std.specs.Option.{option_or}
use Rattle.std.specs.Prelude.{bytes_eq}
use Rattle.std.specs.FinMap as map
use Rattle.std.specs.List.{flat_map}
use Rattle.capbits.specs.Caps.{Caps}
use Rattle.capbits.specs.Text.{text_of}
use Rattle.ceph_input.specs.Auth.{IsFaultOf, Named, auth_of}
use Rattle.ceph_input.specs.Values.{IsFaultIn}
use Rattle.ceph_input.specs.Sessions.{sessions_of}
use Rattle.ceph_input.specs.Dump.{Held, Listed, PathMap}
use Rattle.cluster_audit.specs.declared.findings.Finding.{Finding}
use Rattle.cluster_audit.specs.declared.conflict.Conflict.{Conflict}
use Rattle.cluster_audit.specs.declared.conflict.Holding.{Holding}
use Rattle.cluster_audit.specs.Conflicts.{conflicts_of}
use Rattle.cluster_audit.specs.declared.mds_findings.Beyond.{Beyond}
use Rattle.cluster_audit.specs.declared.grants_by.GrantsBy.{GrantsBy}
use Rattle.cluster_audit.specs.declared.grants_by.Unreadable.{Unreadable}
use Rattle.cluster_audit.specs.declared.unjudged.Unknown.TheVariants.{Address, Spelling}
use Rattle.cluster_audit.specs.Callers.{Inode, inode}
use Rattle.cluster_audit.specs.Findings.{is_unjudged}
use Rattle.cluster_audit.specs.GrantsBy.{IsReadBy, IsUnreadBy}
use Rattle.cluster_audit.specs.MdsFindings.{IsBeyondBy}
use Rattle.cluster_audit.specs.Known.{AreKnown, Known}
use Rattle.texts.specs.declared.shape.Shape.{Shape}
use Rattle.cluster_audit.specs.declared.fault.HeldFault.{HeldFault}
use Rattle.cluster_audit.specs.declared.fault.HeldFault.TheVariants.{Auth, Sessions}
use Rattle.cluster_audit.specs.declared.notes.Manner.{Manner}
use Rattle.cluster_audit.specs.declared.notes.Notes.{Notes}
use Rattle.cluster_audit.specs.Shaped.{alias_in, conflict_in, found_in, pathless_in, unknown_in, unlinked_in, unlisted_in, unnamed_in}
use Rattle.cluster_audit.specs.Shaped.{unreadable_in}

-- ---- who it is

-- the entities of the auth list, and the sessions by the names that it has
pub record Roster : Type 0 where
  pub entities : List Named
  pub sessions : List Known

abbrev pub roster : List Named → List Known → Roster
roster entities sessions = record { entities = entities; sessions = sessions }

-- the same, and how is told what is found of them
pub record Clients : Type 0 where
  pub manner : Manner
  pub entities : List Named
  pub sessions : List Known

abbrev pub clients : Manner → List Named → List Known → Clients
clients manner entities sessions = record { manner = manner; entities = entities; sessions = sessions }

abbrev pub clients_of : Manner → Roster → Clients
clients_of manner known = clients manner known.entities known.sessions

-- the first session of this number
abbrev pub session_of : List Known → ℕ → Option Known
session_of sessions number = find (λ s. s.number == number) sessions

-- the name of its client, if there is one and it tells any
abbrev pub name_of : List Known → ℕ → Option (List ℕ)
name_of sessions number = option_and_then (λ s. s.client) (session_of sessions number)

-- the entry that the auth list has of its client
abbrev pub entity_of : List Named → List Known → ℕ → Option Named
entity_of entities sessions number = option_and_then (λ client. find (λ e. bytes_eq e.name client) entities) (name_of sessions number)

-- whether its client is known not to check itself
abbrev pub is_unchecked : List Known → ℕ → Bool
is_unchecked sessions number = unwrap_or (option_map (λ s. s.unchecked) (session_of sessions number)) false

-- ---- what is said of one who holds something

-- what is found beyond grants is told; nothing where nothing is
abbrev pub finding_text : Manner → ℕ → List (List ℕ) → List ℕ → ℕ → Bool → Caps → Caps → Option Finding → List ℕ
finding_text m number path client session unchecked issued pending None = []
finding_text m number path client session unchecked issued pending (Some f) = found_in m number path client session issued pending f (is_unjudged unchecked f.caps)

-- so is that the client's address permits some of it
abbrev pub address_text : Shape → ℕ → List (List ℕ) → List ℕ → ℕ → Bool → List ℕ
address_text shape number path client session is_open = if is_open then unknown_in shape Address number path client session else []

-- what is held is judged by the grants
abbrev pub IsReportedBeyond : Manner → ℕ → Inode → List ℕ → ℕ → Bool → GrantsBy → Caps → Caps → List ℕ → List ℕ → Type 0
IsReportedBeyond m number i client session unchecked grants issued pending found unknown = (b : Beyond) × IsBeyondBy grants i issued b
    × (found ≡ finding_text m number i.path client session unchecked issued pending b.finding) × (unknown ≡ address_text m.shape number i.path client session b.is_open)

-- the same of what is known to be held; else a line says that it is not known
abbrev pub IsJudged : Manner → ℕ → Inode → List ℕ → Bool → GrantsBy → Held → List ℕ → List ℕ → Type 0
IsJudged m number i client unchecked grants h found unknown = ((issued : Caps) × (pending : Caps) × (h.issued ≡ text_of issued) × (h.pending ≡ text_of pending) × IsReportedBeyond m number i client h.client unchecked grants issued pending found unknown)
    ⊎ (((issued pending : Caps) → h.issued ≡ text_of issued → h.pending ≡ text_of pending → ⊥) × (found ≡ []) × (unknown ≡ unknown_in m.shape Spelling number i.path client h.client))

-- the grants are those of the text that the auth list may have of a client; where they can't be read a line tells why
abbrev pub IsJudgedBy : Manner → ℕ → Inode → List ℕ → Bool → Held → Option (List ℕ) → List ℕ → List ℕ → Type 0
IsJudgedBy m number i client unchecked h caps found unknown = ((grants : GrantsBy) × IsReadBy m.mds caps grants × IsJudged m number i client unchecked grants h found unknown)
    ⊎ ((what : Unreadable) × IsUnreadBy m.mds caps what × (found ≡ []) × (unknown ≡ unreadable_in m.shape client what))

-- of the entry that the auth list has of it
abbrev pub SaysOfEntity : Manner → ℕ → Inode → List ℕ → Bool → Held → Option Named → List ℕ → List ℕ → Type 0
SaysOfEntity m number i client unchecked h None found unknown = (found ≡ []) × (unknown ≡ unlisted_in m.shape client)
SaysOfEntity m number i client unchecked h (Some e) found unknown = IsJudgedBy m number i client unchecked h e.caps found unknown

-- of the name of it that is known
abbrev pub SaysOfName : Clients → ℕ → Inode → Held → Option (List ℕ) → List ℕ → List ℕ → Type 0
SaysOfName known number i h None found unknown = (found ≡ []) × (unknown ≡ unnamed_in known.manner.shape h.client)
SaysOfName known number i h (Some client) found unknown = SaysOfEntity known.manner number i client (is_unchecked known.sessions h.client) h (find (λ e. bytes_eq e.name client) known.entities) found unknown

-- of one who holds something of the inode of this number
abbrev pub SaysOf : Clients → ℕ → Inode → Held → List ℕ → List ℕ → Type 0
SaysOf known number i h found unknown = SaysOfName known number i h (name_of known.sessions h.client) found unknown

-- ---- what is said of all

-- texts of which this holds are added to the notes
abbrev pub Adds : (List ℕ → List ℕ → Type 0) → Notes → Notes → Type 0
Adds P old new = (found : List ℕ) × (unknown : List ℕ) × (new.found.items ≡ old.found.items ++ found) × (new.unknown.items ≡ old.unknown.items ++ unknown) × P found unknown

-- each says something in turn, of what is found and of what is not known
pub data AreReports {X : Type 0} (Says : X → List ℕ → List ℕ → Type 0) : List X → List ℕ → List ℕ → Type 0 where
  no_more : AreReports Says [] [] []
  one_more : {x : X} {xs : List X} (found unknown founds unknowns : List ℕ) → Says x found unknown → AreReports Says xs founds unknowns → AreReports Says (x ∷ xs) (found ++ founds) (unknown ++ unknowns)

-- of one who holds something of the inode of this number, to which no path leads, and whose name may be known
abbrev pub pathless_text : Shape → ℕ → Held → Option (List ℕ) → List ℕ
pathless_text shape number h None = unnamed_in shape h.client
pathless_text shape number h (Some client) = pathless_in shape number client h.client h.issued

abbrev pub pathless_of : Shape → List Known → ℕ → Held → List ℕ
pathless_of shape sessions number h = pathless_text shape number h (name_of sessions h.client)

-- of an inode: of each who holds something of it, on the path that leads to it; or that none does
abbrev pub SaysAt : List ℕ → Clients → Listed → Option (List (List ℕ)) → List ℕ → List ℕ → Type 0
SaysAt fs known it None found unknown = (found ≡ []) × (unknown ≡ flat_map (pathless_of known.manner.shape known.sessions it.number) it.holders)
SaysAt fs known it (Some path) found unknown = AreReports (SaysOf known it.number (inode fs path it.attr)) it.holders found unknown

-- the names that lead to an inode, or that led to it before it was unlinked
abbrev pub path_of : PathMap → Listed → Option (List (List ℕ))
path_of paths it = option_or (map.get paths it.number) it.prior

abbrev pub SaysOfInode : List ℕ → Clients → PathMap → Listed → List ℕ → List ℕ → Type 0
SaysOfInode fs known paths it found unknown = SaysAt fs known it (path_of paths it) found unknown

-- ---- what two sessions hold together

-- each gives some, one after the other
pub data Give {X Y : Type 0} (Gives : X → List Y → Type 0) : List X → List Y → Type 0 where
  no_more : Give Gives [] []
  one_more : {x : X} {xs : List X} (some others : List Y) → Gives x some → Give Gives xs others → Give Gives (x ∷ xs) (some ++ others)

-- a text of which this holds is added
abbrev pub AddsTo : (List ℕ → Type 0) → List ℕ → List ℕ → Type 0
AddsTo P old new = (more : List ℕ) × (new ≡ old ++ more) × P more

-- what the MDS has issued is held, also where it is being revoked; what is spelled otherwise than caps are is not known
abbrev pub Holds : Held → List Holding → Type 0
Holds h known = ((caps : Caps) × (h.issued ≡ text_of caps) × (known ≡ record { client = h.client; caps = caps } ∷ []))
    ⊎ (((caps : Caps) → h.issued ≡ text_of caps → ⊥) × (known ≡ []))

-- two sessions in conflict on the inode of this number, to which a path may lead, by the names that they tell
abbrev pub conflict_at : Manner → List Known → ℕ → Option (List (List ℕ)) → Conflict → List ℕ
conflict_at m sessions number path c = conflict_in m number path (name_of sessions c.one.client) (name_of sessions c.other.client) c

-- of an inode a line for each pair that holds of it what the table of the locks keeps apart
abbrev pub SaysOfPairs : Manner → List Known → PathMap → Listed → List ℕ → Type 0
SaysOfPairs m sessions paths it text = (holdings : List Holding) × Give Holds it.holders holdings
    × (text ≡ flat_map (conflict_at m sessions it.number (map.get paths it.number)) (conflicts_of holdings))

-- ---- names

-- of a session, by its number, the name of its client, and what that calls itself otherwise
abbrev pub alias_text : Shape → ℕ → Option (List ℕ) → Option (List ℕ) → List ℕ
alias_text shape session None alias = []
alias_text shape session (Some client) None = []
alias_text shape session (Some client) (Some alias) = alias_in shape session client alias

abbrev pub says_of_name : Shape → Known → List ℕ
says_of_name shape s = alias_text shape s.number s.client s.alias

-- ---- unlinked inodes

-- of an inode that was unlinked, by the names that led to it, if it is not silent
abbrev pub prior_text : Shape → ℕ → Option (List (List ℕ)) → Bool → List ℕ
prior_text shape number None silent = []
prior_text shape number (Some path) silent = if silent then [] else unlinked_in shape number path

-- it is where nobody holds anything of it, or a path leads to it
abbrev pub says_of_prior : Shape → PathMap → Listed → List ℕ
says_of_prior shape paths it = prior_text shape it.number it.prior ((length it.holders == 0) || is_some (map.get paths it.number))

abbrev pub remarks : Shape → List Known → PathMap → List Listed → List ℕ
remarks shape sessions paths inodes = flat_map (says_of_name shape) sessions ++ flat_map (says_of_prior shape paths) inodes

-- ---- the texts

-- two texts mean an auth list and sessions, and these are the clients of the cluster
abbrev pub AreClients : List ℕ → List ℕ → Roster → Type 0
AreClients auth sessions known = (auth_of auth ≡ Some (Ok known.entities)) × AreKnown known.entities sessions known.sessions

-- the text means an auth list
abbrev pub IsAuthList : List ℕ → Type 0
IsAuthList auth = (entities : List Named) × (auth_of auth ≡ Some (Ok entities))

-- the fault is that of the first of the two that means nothing
abbrev pub IsFaultOfClients : List ℕ → List ℕ → HeldFault → Type 0
IsFaultOfClients auth sessions (Auth fault) = IsFaultOf fault (auth_of auth)
IsFaultOfClients auth sessions (Sessions fault) = IsAuthList auth × IsFaultIn fault (sessions_of sessions)
