-- What `audit` writes, and why it stops before that.
use Rattle.std.specs.Prelude.{◌≡◌, ◌⊎◌, ℕ, Bool, List, Option, Some, None, IfSome, IsTrue, Ok, if◌then◌else◌}
use Rattle.std.specs.Io.KnownBytes.{Appends, Keeps}
use Rattle.ceph_input.specs.FsNames.{AreFsNames, fs_among}
use Rattle.cluster_audit.specs.declared.fault.HeldFault.{HeldFault}
use Rattle.ceph_input.specs.Dump.{Dump, tree_of}
use Rattle.cluster_audit.specs.Audited.{AreClients, IsFaultOfClients, Roster, clients_of}
use Rattle.cluster_audit.specs.Report.{IsReport}
use Rattle.queries.specs.declared.fault.QuestionFault.TheVariants.{BadValue}
use Rattle.queries.specs.declared.options.Opt.TheVariants.{Fs}
use Rattle.queries.specs.Values.{IsFsIf}
use Rattle.cli_queries.specs.declared.audit_args.AuditArgs.{AuditArgs}
use Rattle.cli_queries.specs.declared.fault.AnswerFault.{AnswerFault}
use Rattle.cli_queries.specs.declared.fault.AnswerFault.TheVariants.{Cluster, NoMemory, Question, SeveralFileSystems, WriteFailed}
use Rattle.cli_queries.specs.Growing.{StopsTree}

-- the clients of the cluster are those that two texts mean
abbrev pub AreClientsOf : AuditArgs → Roster → Type 0
AreClientsOf audit_args known = AreClients audit_args.auth.items audit_args.sessions.items known

-- this is told of the clients and the tree, and it is written; the status is 3 where anything was found or could not be judged, else 0
abbrev pub IsCheckedBy : AuditArgs → List ℕ → Roster → Dump → ℕ → Option (List ℕ) → Option (List ℕ) → Type 0
IsCheckedBy audit_args fs known tree status old new = (text : List ℕ) × (found : Bool) × IsReport fs (clients_of audit_args.manner known) tree text found
    × (status ≡ (if found then 3 else 0)) × Appends old new text

-- the same by the texts, of which that of the tree was to be read
pub record AnswersAuditArgs (audit_args : AuditArgs) (input : Option (List ℕ)) (status : ℕ) (old new : Option (List ℕ)) : Type 0 where
  pub known : Roster
  pub tree : Dump
  pub given : Option (List ℕ)
  pub names : List (List ℕ)
  pub fs : List ℕ
  pub is_given : IsFsIf audit_args.fs given
  pub named : AreFsNames known.entities names
  pub asked : fs_among names given ≡ Some fs
  pub are_clients : AreClientsOf audit_args known
  pub is_tree : IfSome input (λ text. tree_of text ≡ Ok tree)
  pub reported : IsCheckedBy audit_args fs known tree status old new

-- none is given of the file systems that the grants name
abbrev pub IsNamedSeveral : AuditArgs → Roster → AnswerFault → Type 0
IsNamedSeveral audit_args known fault = (fault ≡ SeveralFileSystems) × (audit_args.fs ≡ None) × ((names : List (List ℕ)) × AreFsNames known.entities names × (fs_among names None ≡ None))

-- no file system has the name, the auth list or the sessions are none, its grants name several file systems and none is given, behind these the
-- tree is not read, or memory was missing
abbrev pub IsFaultOfAudit : AuditArgs → AnswerFault → Option (List ℕ) → Bool → Type 0
IsFaultOfAudit audit_args fault input unread = ((fault ≡ Question (BadValue Fs)) × ((name : Option (List ℕ)) → ¬ IsFsIf audit_args.fs name))
    ⊎ (((found : HeldFault) × (fault ≡ Cluster found) × IsFaultOfClients audit_args.auth.items audit_args.sessions.items found)
    ⊎ (((known : Roster) × AreClientsOf audit_args known × (IsNamedSeveral audit_args known fault ⊎ StopsTree fault input unread)) ⊎ (fault ≡ NoMemory)))

-- a write failed; or it is a fault of these, and nothing was written
abbrev pub StopsAuditArgs : AuditArgs → AnswerFault → Option (List ℕ) → Bool → Bool → Option (List ℕ) → Option (List ℕ) → Type 0
StopsAuditArgs audit_args fault input unread unwritten old new = ((fault ≡ WriteFailed) × IsTrue unwritten) ⊎ (IsFaultOfAudit audit_args fault input unread × Keeps old new)
