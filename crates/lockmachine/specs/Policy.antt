-- What the grants of a client say of an inode, on a tree and with the sessions of one moment.
use Rattle.std.specs.Prelude.{◌≡◌, ℕ, Bool, false, List, [], ◌∷◌, Option, Some, None}
use Rattle.std.specs.FinMap as map
use Rattle.capbits.specs.declared.caller.Caller.{Caller}
use Rattle.capbits.specs.declared.cap.Cap.TheVariants.{P}
use Rattle.capbits.specs.Caps.{Caps}
use Rattle.capbits.specs.Sets.{caps_in}
use Rattle.capspec.specs.declared.grant.Grant.{Grant}
use Rattle.capgrant.specs.declared.access.Access.{Access}
use Rattle.capgrant.specs.declared.access.Attr.{Attr}
use Rattle.capgrant.specs.declared.rule.Rule.{Rule}
use Rattle.capgrant.specs.Question.{Question}
use Rattle.capgrant.specs.Verdict.{first_failures, granted}
use Rattle.capgrant.specs.Permitted.{permitted_of}
use Rattle.sessiontab.specs.declared.session.Session.{Session}
use Rattle.sessiontab.specs.Table.{SessionTable}
use Rattle.inotree.specs.declared.node.Node.{Node}
use Rattle.inotree.specs.Tree.{Nodes, path_of}
use Rattle.captable.specs.declared.entry.Holder.{Holder}
use Rattle.captable.specs.declared.entry.Entry.{Entry}
use Rattle.captable.specs.Table.{Table, entry_at}
use Rattle.captable.specs.Known as known
use Rattle.captable.specs.Known.{ClientViews}

-- all that a verdict reads: the caller with its grants, and of the inode its path and whose it is
pub record Subject : Type 0 where
  pub caller : Caller
  pub grants : List Grant
  pub path : List (List ℕ)
  pub attr : Attr

abbrev pub subject_of : Option Session → Option (List (List ℕ)) → Option Node → Option Subject
subject_of None path inode = None
subject_of (Some session) None inode = None
subject_of (Some session) (Some path) None = None
subject_of (Some session) (Some path) (Some node) =
    Some (record { caller = session.caller; grants = session.grants; path = path; attr = node.attr })

-- the client has a session, and the inode a path
abbrev pub subject : Nodes → SessionTable → Holder → Option Subject
subject tree sessions k = subject_of (map.get sessions.sessions k.client.0) (path_of tree.nodes k.ino.0) (map.get tree.nodes k.ino.0)

-- may the client make this access to the inode?
abbrev pub question_of : List ℕ → Subject → Access → Question
question_of fs s access = record { fs = fs; caller = s.caller; path = s.path; attr = s.attr; access = access }

abbrev pub is_granted_to : List ℕ → Option Subject → Access → Bool
is_granted_to fs None access = false
is_granted_to fs (Some s) access = granted (question_of fs s access) s.grants

-- some grant of the client allows the access
abbrev pub is_granted : List ℕ → Nodes → SessionTable → Holder → Access → Bool
is_granted fs tree sessions k access = is_granted_to fs (subject tree sessions k) access

abbrev pub failures_of : List ℕ → Option Subject → Access → List Rule
failures_of fs None access = []
failures_of fs (Some s) access = first_failures (question_of fs s access) s.grants

-- the rule by which each grant of the client fails first, in the order of the grants
abbrev pub failures : List ℕ → Nodes → SessionTable → Holder → Access → List Rule
failures fs tree sessions k access = failures_of fs (subject tree sessions k) access

-- without a session, and on a stray, which has no path, the pin alone is permitted
abbrev pub permitted_to : List ℕ → Option Subject → Caps
permitted_to fs None = caps_in (P ∷ [])
permitted_to fs (Some s) = permitted_of (question_of fs s) s.grants

-- what the grants permit the client to hold
abbrev pub permitted : List ℕ → Nodes → SessionTable → Holder → Caps
permitted fs tree sessions k = permitted_to fs (subject tree sessions k)

-- ---- what is known of it

-- of each entry is known what its client is permitted
abbrev pub ArePermitted : ClientViews → List ℕ → Nodes → SessionTable → Table → Type 0
ArePermitted sets fs tree sessions table =
    (k : Holder) (e : Entry) → entry_at table k ≡ Some e → known.permitted_of sets k ≡ Some (permitted fs tree sessions k)

-- and so of each on one inode
abbrev pub ArePermittedOn : ClientViews → List ℕ → Nodes → SessionTable → Table → ℕ → Type 0
ArePermittedOn sets fs tree sessions table ino =
    (k : Holder) (e : Entry) → k.ino.0 ≡ ino → entry_at table k ≡ Some e → known.permitted_of sets k ≡ Some (permitted fs tree sessions k)
