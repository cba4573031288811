-- A cluster that was audited, or was not.
use Rattle.std.proofs.Common.{◌≡◌, ℕ, Bool, List, Option, Some, inl, inr, subst, sym, ap, ◌∙◌}
use Rattle.std.specs.Io.KnownBytes.{Appends}
use Rattle.std.specs.Prelude.{Err, IfErr, IfOk, IfSome, IsErrAnd, IsFalse, IsTrue, Ok, OnOk, Result, if◌then◌else◌}
use Rattle.ceph_input.specs.Dump.{Dump, tree_of}
use Rattle.ceph_input.specs.FsNames.{AreFsNames, fs_among}
use Rattle.cluster_audit.specs.Audited.{AreClients, IsFaultOfClients, Roster, clients_of}
use Rattle.cluster_audit.specs.Report.{IsReport}
use Rattle.cluster_audit.specs.declared.fault.HeldFault.{HeldFault}
use Rattle.queries.specs.declared.fault.QuestionFault.{QuestionFault}
use Rattle.queries.specs.declared.fault.QuestionFault.TheVariants.{BadValue}
use Rattle.queries.specs.declared.options.Opt.TheVariants.{Fs}
use Rattle.queries.specs.Values.{IsFsIf}
use Rattle.cli_queries.specs.declared.audit_args.AuditArgs.{AuditArgs}
use Rattle.cli_queries.specs.declared.fault.AnswerFault.{AnswerFault}
use Rattle.cli_queries.specs.declared.fault.AnswerFault.TheVariants.{Cluster, NoMemory, WriteFailed}
use Rattle.cli_queries.specs.AuditArgs.{AnswersAuditArgs, AreClientsOf, StopsAuditArgs}
use Rattle.cli_queries.specs.Fault.{IsFaultOfNames, fault_of}
use Rattle.cli_queries.specs.FileSystems.{AreNamedIn}
use Rattle.cli_queries.specs.Growing.{StopsTree}
use Rattle.cli_queries.proofs.FileSystems.{none_given}
use Rattle.cli_queries.proofs.Unwritten.{unchanged}

-- the clients are those of the texts
pub are_of : (audit_args : AuditArgs) (auth sessions : List ℕ) (known : Roster) → auth ≡ audit_args.auth.items → sessions ≡ audit_args.sessions.items → AreClients auth sessions known → AreClientsOf audit_args known
are_of audit_args auth sessions known list others are =
    subst (λ (a : List ℕ). AreClients a audit_args.sessions.items known) list (subst (λ (s : List ℕ). AreClients auth s known) others are)

-- no file system has the name
pub bad_fs : {T : Type 0} (audit_args : AuditArgs) (input known : Option (List ℕ)) (unread unwritten : Bool) (found : QuestionFault) (answer : Result T AnswerFault) → (found ≡ BadValue Fs) × ((name : Option (List ℕ)) → ¬ IsFsIf audit_args.fs name)
    → IsErrAnd answer (λ fault. fault ≡ fault_of found) → IfErr answer (λ fault. StopsAuditArgs audit_args fault input unread unwritten known known)
bad_fs audit_args input known unread unwritten found (Ok x) bad reported = tt
bad_fs audit_args input known unread unwritten found (Err fault) bad reported = inr (inl (reported ∙ ap fault_of bad.0, bad.1), unchanged known)

-- the auth list or the sessions are none
pub bad_clients : {T : Type 0} (audit_args : AuditArgs) (auth sessions : List ℕ) (input bytes : Option (List ℕ)) (unread unwritten : Bool) (found : HeldFault) (answer : Result T AnswerFault) → auth ≡ audit_args.auth.items → sessions ≡ audit_args.sessions.items
    → IsFaultOfClients auth sessions found → IsErrAnd answer (λ fault. fault ≡ Cluster found) → IfErr answer (λ fault. StopsAuditArgs audit_args fault input unread unwritten bytes bytes)
bad_clients audit_args auth sessions input bytes unread unwritten found (Ok x) list others why reported = tt
bad_clients audit_args auth sessions input bytes unread unwritten found (Err fault) list others why reported =
    let these : IsFaultOfClients audit_args.auth.items audit_args.sessions.items found =
    subst (λ (a : List ℕ). IsFaultOfClients a audit_args.sessions.items found) list (subst (λ (s : List ℕ). IsFaultOfClients auth s found) others why) in
    inr (inr (inl (found, reported, these)), unchanged bytes)

-- memory was missing
pub forgotten : {T : Type 0} (audit_args : AuditArgs) (input bytes : Option (List ℕ)) (unread unwritten : Bool) (answer : Result T AnswerFault) → IsErrAnd answer (λ fault. fault ≡ NoMemory)
    → IfErr answer (λ fault. StopsAuditArgs audit_args fault input unread unwritten bytes bytes)
forgotten audit_args input bytes unread unwritten (Ok x) reported = tt
forgotten audit_args input bytes unread unwritten (Err fault) reported = inr (inr (inr (inr reported)), unchanged bytes)

-- a write failed
pub unwritten_audit : {T : Type 0} (audit_args : AuditArgs) (input old new : Option (List ℕ)) (unread unwritten : Bool) (answer : Result T AnswerFault) → IfErr answer (λ fault. (fault ≡ WriteFailed) × IsTrue unwritten)
    → IfErr answer (λ fault. StopsAuditArgs audit_args fault input unread unwritten old new)
unwritten_audit audit_args input old new unread unwritten (Ok x) why = tt
unwritten_audit audit_args input old new unread unwritten (Err fault) why = inl why

module _ (audit_args : AuditArgs) (known : Roster) (names : List (List ℕ)) (given : Option (List ℕ)) (are : AreClientsOf audit_args known) (named : AreFsNames known.entities names) (is_given : IsFsIf audit_args.fs given) where
  -- none is given of several file systems, or memory was missing
  pub several_named : {T : Type 0} (input bytes : Option (List ℕ)) (unread unwritten : Bool) (found : AnswerFault) (answer : Result T AnswerFault) → IsFaultOfNames names given found → IsErrAnd answer (λ fault. fault ≡ found)
      → IfErr answer (λ fault. StopsAuditArgs audit_args fault input unread unwritten bytes bytes)
  several_named input bytes unread unwritten found (Ok x) why reported = tt
  several_named input bytes unread unwritten found (Err fault) (inl several) reported =
      let none = none_given audit_args.fs names given is_given several.1 in
      inr (inr (inr (inl (known, are, inl (reported ∙ several.0, none.0, (names, named, none.1))))), unchanged bytes)
  several_named input bytes unread unwritten found (Err fault) (inr missed) reported = inr (inr (inr (inr (reported ∙ missed))), unchanged bytes)

  -- the tree is not read
  pub tree_refused : {T : Type 0} (input bytes : Option (List ℕ)) (unread unwritten : Bool) (found : AnswerFault) (answer : Result T AnswerFault) → StopsTree found input unread → IsErrAnd answer (λ fault. fault ≡ found)
      → IfErr answer (λ fault. StopsAuditArgs audit_args fault input unread unwritten bytes bytes)
  tree_refused input bytes unread unwritten found (Ok x) why reported = tt
  tree_refused input bytes unread unwritten found (Err fault) why reported =
      inr (inr (inr (inl (known, are, inr (subst (λ (f : AnswerFault). StopsTree f input unread) (sym reported) why)))), unchanged bytes)

  -- the file systems are those that the auth list names
  pub are_named : {T E : Type 0} (result : Result T E) → OnOk result (AreNamedIn audit_args.auth.items names)
  are_named (Ok x) = (known.entities, are.0, named)
  are_named (Err fault) = tt

  pub audit_reported : {E : Type 0} (fs text written : List ℕ) (tree : Dump) (found : Bool) (status : ℕ) (input old new : Option (List ℕ)) (failed : Bool) (answer : Result ℕ E)
      → fs_among names given ≡ Some fs → IfSome input (λ read. tree_of read ≡ Ok tree) → IsReport fs (clients_of audit_args.manner known) tree text found → status ≡ (if found then 3 else 0) → written ≡ text
      → IfOk answer (λ reported. reported ≡ status) → OnOk answer (IsFalse failed × Appends old new written) → IfOk answer (λ reported. AnswersAuditArgs audit_args input reported old new)
  audit_reported fs text written tree found status input old new failed (Err fault) asked is audit which what says wrote = tt
  audit_reported fs text written tree found status input old new failed (Ok reported) asked is audit which what says wrote = record {
    known = known;
    tree = tree;
    given = given;
    names = names;
    fs = fs;
    is_given = is_given;
    named = named;
    asked = asked;
    are_clients = are;
    is_tree = is;
    reported = (text, found, audit, says ∙ which, subst (λ (t : List ℕ). Appends old new t) what wrote.1);
  }
