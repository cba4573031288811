-- What an audit finds, as objects of JSON.
use Rattle.std.specs.Prelude.{ℕ, Bool, if◌then◌else◌, List, [], ◌∷◌, ◌++◌, Option, Some, None, codes}
use Rattle.std.specs.Fmt.{decimal}
use Rattle.serde_json.specs.Data.{Data, null, string}
use Rattle.capbits.specs.Caps.{Caps}
use Rattle.capbits.specs.Sets.{is_empty, minus}
use Rattle.capbits.specs.Text.{text_of}
use Rattle.capspec.specs.declared.fault.SpecFault.{SpecFault}
use Rattle.capgrant.specs.declared.access.Access.{Access}
use Rattle.release_rules.specs.declared.release.Release.{Release}
use Rattle.release_rules.specs.declared.rule.Rule.{Rule}
use Rattle.release_rules.specs.Releases.{version_of}
use Rattle.capgrant.specs.Access.{access_word}
use Rattle.cluster_audit.specs.declared.findings.Denial.{Denial}
use Rattle.cluster_audit.specs.declared.findings.Denial.TheVariants.{Own, There}
use Rattle.cluster_audit.specs.declared.findings.Finding.{Finding}
use Rattle.cluster_audit.specs.declared.conflict.Conflict.{Conflict}
use Rattle.cluster_audit.specs.declared.grants_by.Unreadable.{Unreadable}
use Rattle.cluster_audit.specs.declared.grants_by.Unreadable.TheVariants as unreadable
use Rattle.cluster_audit.specs.declared.unjudged.Unknown.{Unknown}
use Rattle.cluster_audit.specs.declared.unjudged.Unknown.TheVariants.{Address, Spelling}
use Rattle.texts.specs.Explaining.{path_text}
use Rattle.texts.specs.MdsAnswers.{mds_rules_value}
use Rattle.texts.specs.Standing.{fault_word}
use Rattle.texts.specs.Answers.{rules_value}
use Rattle.texts.specs.Values.{Table, bytes_value, json_line, natural, object_of, or_null}
use Rattle.cluster_audit.specs.declared.notes.Detail.{Detail}
use Rattle.cluster_audit.specs.declared.notes.Detail.TheVariants.{Each, Groups}
use Rattle.cluster_audit.specs.declared.summary.Counts.{Counts}
use Rattle.cluster_audit.specs.Findings.{rules_there}

abbrev pub caps_value : Caps → Data
caps_value caps = bytes_value (text_of caps)

-- null where there are none
abbrev pub caps_or_null : Caps → Data
caps_or_null caps = if is_empty caps then null else caps_value caps

abbrev pub path_value : List (List ℕ) → Data
path_value path = bytes_value (path_text path)

abbrev pub access_value : Access → Data
access_value access = string (access_word access)

-- ---- what is held and may not be

-- by which rules of a release the grants deny an access; a word where none lets the client mount
abbrev pub told_value : Option (List Rule) → Data
told_value (Some rules) = mds_rules_value rules
told_value None = string (codes "cannot-mount")

-- by which rules the grants deny an access
abbrev pub denial_value : Denial → Data
denial_value (Own rules) = rules_value rules
denial_value (There standing) = told_value (rules_there standing)

-- why the least access that would permit some of it is denied; null where no access permits it
abbrev pub why_value : Option Access → Denial → Data
why_value missing denial = or_null (λ access. denial_value denial) missing

-- of which client, and why
abbrev pub group_table : List ℕ → Finding → Table
group_table client f = (codes "kind", string (codes "held-beyond"))
    ∷ (codes "client", bytes_value client)
    ∷ (codes "rules", why_value f.missing f.denial)
    ∷ []

-- the first Ceph of which no MDS judges what is written back by it; null where somebody does
abbrev pub unjudged_value : Bool → Data
unjudged_value unjudged = if unjudged then natural 18 else null

-- the least access that would permit some of it, where, in which session, what is held, what of it nobody is permitted, what of that is
-- being revoked already, and whether nobody judges what is written back by it
abbrev pub held_table : ℕ → List (List ℕ) → ℕ → Caps → Caps → Finding → Bool → Table
held_table number path session issued pending f unjudged = (codes "missing", or_null access_value f.missing)
    ∷ (codes "inode", natural number)
    ∷ (codes "path", path_value path)
    ∷ (codes "session", natural session)
    ∷ (codes "holds", caps_value issued)
    ∷ (codes "may_not", caps_value f.caps)
    ∷ (codes "being_revoked", caps_or_null (minus f.caps pending))
    ∷ (codes "unjudged_from", unjudged_value unjudged)
    ∷ []

-- a client holds of an inode what nobody behind its key is permitted
abbrev pub found_value : ℕ → List (List ℕ) → List ℕ → ℕ → Caps → Caps → Finding → Bool → Data
found_value number path client session issued pending f unjudged = object_of (group_table client f ++ held_table number path session issued pending f unjudged)

-- what all that is found so of it has in common
abbrev pub alike_value : List ℕ → Finding → Data
alike_value client f = object_of (group_table client f)

abbrev pub found_object : Detail → ℕ → List (List ℕ) → List ℕ → ℕ → Caps → Caps → Finding → Bool → List ℕ
found_object Each number path client session issued pending f unjudged = json_line (found_value number path client session issued pending f unjudged)
found_object Groups number path client session issued pending f unjudged = json_line (alike_value client f)

-- ---- what two sessions hold together

-- the number of a session; among groups it stands for a client that tells no name, alone
abbrev pub session_value : Detail → ℕ → Option (List ℕ) → Data
session_value Each number name = natural number
session_value Groups number None = natural number
session_value Groups number (Some client) = null

-- two clients, of which the one and the other may tell a name, and what of each conflicts
abbrev pub conflict_table : Detail → Option (List ℕ) → Option (List ℕ) → Conflict → Table
conflict_table detail one other c = (codes "kind", string (codes "conflict"))
    ∷ (codes "client", or_null bytes_value one)
    ∷ (codes "session", session_value detail c.one.client one)
    ∷ (codes "caps", caps_value c.one.caps)
    ∷ (codes "other_client", or_null bytes_value other)
    ∷ (codes "other_session", session_value detail c.other.client other)
    ∷ (codes "other_caps", caps_value c.other.caps)
    ∷ []

-- on which inode, and by which path, where one leads to it
abbrev pub inode_table : ℕ → Option (List (List ℕ)) → Table
inode_table number path = (codes "inode", natural number) ∷ (codes "path", or_null path_value path) ∷ []

-- two sessions hold of an inode what no two may hold together
abbrev pub conflict_value : ℕ → Option (List (List ℕ)) → Option (List ℕ) → Option (List ℕ) → Conflict → Data
conflict_value number path one other c = object_of (conflict_table Each one other c ++ inode_table number path)

-- what all such pairs of two clients by the same caps have in common
abbrev pub conflict_group_value : Option (List ℕ) → Option (List ℕ) → Conflict → Data
conflict_group_value one other c = object_of (conflict_table Groups one other c)

abbrev pub conflict_object : Detail → ℕ → Option (List (List ℕ)) → Option (List ℕ) → Option (List ℕ) → Conflict → List ℕ
conflict_object Each number path one other c = json_line (conflict_value number path one other c)
conflict_object Groups number path one other c = json_line (conflict_group_value one other c)

-- ---- groups

-- what so many objects have in common, by its text
abbrev pub group_object : ℕ → List ℕ → List ℕ
group_object count each = codes "{\"count\":" ++ (decimal count ++ (codes ",\"each\":" ++ (each ++ codes ",\"kind\":\"group\"}\n")))

-- the same as a value
abbrev pub group_value : ℕ → Data → Data
group_value count each = object_of ((codes "count", natural count) ∷ (codes "each", each) ∷ (codes "kind", string (codes "group")) ∷ [])

-- ---- names and paths

-- the client of a session calls itself otherwise than its key is named
abbrev pub alias_value : ℕ → List ℕ → List ℕ → Data
alias_value session client alias = object_of ((codes "kind", string (codes "other-name")) ∷ (codes "session", natural session) ∷ (codes "client", bytes_value client) ∷ (codes "calls_itself", bytes_value alias) ∷ [])

-- an inode was unlinked, and is judged by the path that it had
abbrev pub unlinked_value : ℕ → List (List ℕ) → Data
unlinked_value number path = object_of ((codes "kind", string (codes "unlinked")) ∷ (codes "inode", natural number) ∷ (codes "path", path_value path) ∷ [])

-- ---- what could not be judged

-- a client that no session names
abbrev pub unnamed_value : ℕ → Data
unnamed_value number = object_of ((codes "kind", string (codes "no-session")) ∷ (codes "session", natural number) ∷ [])

-- one that the auth list lacks
abbrev pub unlisted_value : List ℕ → Data
unlisted_value client = object_of ((codes "kind", string (codes "no-entry")) ∷ (codes "client", bytes_value client) ∷ [])

-- one whose grants can't be read: what is wrong, and how many bytes of their text stand before that
abbrev pub unread_value : List ℕ → SpecFault → Data
unread_value client fault = object_of ((codes "kind", string (codes "unread")) ∷ (codes "client", bytes_value client) ∷ (codes "fault", string (fault_word fault.kind)) ∷ (codes "at", natural fault.at) ∷ [])

-- one whose grants the MDS of a release reads up to a byte alone
abbrev pub not_read_value : List ℕ → Release → ℕ → Data
not_read_value client release at = object_of ((codes "kind", string (codes "unread")) ∷ (codes "client", bytes_value client) ∷ (codes "mds", string (version_of release)) ∷ (codes "at", natural at) ∷ [])

abbrev pub unreadable_value : List ℕ → Unreadable → Data
unreadable_value client (unreadable.Own fault) = unread_value client fault
unreadable_value client (unreadable.There release at) = not_read_value client release at

-- what is not known of what is held
abbrev pub unknown_word : Unknown → List ℕ
unknown_word Spelling = codes "unknown-caps"
unknown_word Address = codes "depends-on-address"

abbrev pub unknown_value : Unknown → ℕ → List (List ℕ) → List ℕ → ℕ → Data
unknown_value unknown number path client session = object_of ((codes "kind", string (unknown_word unknown)) ∷ (codes "inode", natural number) ∷ (codes "path", path_value path) ∷ (codes "client", bytes_value client) ∷ (codes "session", natural session) ∷ [])

-- a client holds something of an inode to which no path leads
abbrev pub pathless_value : ℕ → List ℕ → ℕ → List ℕ → Data
pathless_value number client session issued = object_of ((codes "kind", string (codes "no-path")) ∷ (codes "inode", natural number) ∷ (codes "client", bytes_value client) ∷ (codes "session", natural session) ∷ (codes "holds", bytes_value issued) ∷ [])

-- ---- the end

-- how much an audit looked at, and what came of it
abbrev pub counts_value : Counts → Data
counts_value n = object_of ((codes "kind", string (codes "summary"))
    ∷ (codes "inodes", natural n.inodes)
    ∷ (codes "entries", natural n.entries)
    ∷ (codes "sessions", natural n.sessions)
    ∷ (codes "held_beyond", natural n.held_beyond)
    ∷ (codes "conflicts", natural n.conflicts)
    ∷ (codes "not_judged", natural n.not_judged)
    ∷ [])

abbrev pub counts_object : Counts → List ℕ
counts_object n = json_line (counts_value n)
