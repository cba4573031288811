-- What the texts and numbers of a call mean, and what is said to them.
use Rattle.std.specs.Prelude.{◌≡◌, ◌==◌, ◌<◌, ◌≤◌, ◌⊎◌, ℕ, List, length, IsTrue, IsFalse, Option, Some, None, Result, MatchResult, if◌then◌else◌}
use Rattle.capbits.specs.Caps.{Caps}
use Rattle.capspec.specs.Faults.{IsFault}
use Rattle.capspec.specs.Grants.{Reads}
use Rattle.capspec.specs.Names.{IsFsName}
use Rattle.capspec.specs.Paths.{are_few_and_short, names_of}
use Rattle.capspec.specs.declared.grant.Grant.{Grant}
use Rattle.capgrant.specs.declared.access.Access.{Access}
use Rattle.capgrant.specs.declared.access.Access.TheVariants as accesses
use Rattle.capgrant.specs.declared.answer.Verdict.{Verdict}
use Rattle.capgrant.specs.Permitted.{permitted_of}
use Rattle.capgrant.specs.Question.{question}
use Rattle.capgrant.specs.Verdict.{verdict_of}
use Rattle.capffi.specs.declared.asking.Asked.{Asked}
use Rattle.capffi.specs.declared.passed.Question.{Question}
use Rattle.capffi.specs.declared.trouble.Trouble.{Trouble}
use Rattle.capffi.specs.declared.trouble.Trouble.TheVariants as troubles

-- the access that a number names; the second number is the new owner or group
unfoldable pub access_of : ℕ → ℕ → Option Access
access_of kind number =
    if kind == 0 then Some accesses.Read
    else (if kind == 1 then Some accesses.Write
    else (if kind == 2 then Some accesses.SetVxattr
    else (if kind == 3 then Some accesses.Snapshot
    else (if kind == 4 then Some accesses.Chmod
    else (if kind == 5 then Some (accesses.Chown number)
    else (if kind == 6 then Some (accesses.Chgrp number)
    else None))))))

-- the texts and numbers of a question mean what is asked
pub record Means (grants fs path groups : List ℕ) (q : Question) (asked : Asked) : Type 0 where
  pub are_grants : Reads grants asked.grants
  pub is_fs : (asked.fs ≡ fs) × IsFsName fs
  pub is_caller : (asked.caller ≡ record { uid = q.uid; gid = q.gid; groups = groups }) × (length groups ≤ 16)
  pub is_path : (asked.path ≡ names_of path) × IsTrue (are_few_and_short (names_of path))
  pub is_attr : (asked.attr ≡ record { uid = q.owner; gid = q.group; mode = q.mode }) × (q.mode ≤ 4095)

-- what is said of a grant text that gives no grants: its first fault, or that memory was missing
abbrev pub IsTextTrouble : List ℕ → Trouble → Type 0
IsTextTrouble text (troubles.Grants fault) = IsFault text fault
IsTextTrouble text troubles.Memory = Unit {0}
IsTextTrouble text trouble = ⊥

-- what is said of a text that gives no path: that it means none, or that memory was missing for the one that it means
abbrev pub IsPathTrouble : List ℕ → Trouble → Type 0
IsPathTrouble text troubles.Path = IsFalse (are_few_and_short (names_of text))
IsPathTrouble text troubles.Memory = IsTrue (are_few_and_short (names_of text))
IsPathTrouble text trouble = ⊥

-- the same of the values behind the grants: the one that is told means nothing, and those before it mean something
abbrev pub IsValueTrouble : List ℕ → List ℕ → List ℕ → Question → Trouble → Type 0
IsValueTrouble fs path groups q troubles.Fs = ¬ IsFsName fs
IsValueTrouble fs path groups q troubles.Groups = IsFsName fs × (16 < length groups)
IsValueTrouble fs path groups q troubles.Path = IsFsName fs × (length groups ≤ 16) × IsFalse (are_few_and_short (names_of path))
IsValueTrouble fs path groups q troubles.Mode = IsFsName fs × (length groups ≤ 16) × IsTrue (are_few_and_short (names_of path)) × (4095 < q.mode)
IsValueTrouble fs path groups q troubles.Memory = Unit {0}
IsValueTrouble fs path groups q trouble = ⊥

-- the first of the values that means nothing: the grants, or one behind them
abbrev pub IsTrouble : List ℕ → List ℕ → List ℕ → List ℕ → Question → Trouble → Type 0
IsTrouble grants fs path groups q trouble = IsTextTrouble grants trouble ⊎ (((list : List Grant) × Reads grants list) × IsValueTrouble fs path groups q trouble)

-- the same, where the access is looked at last
abbrev pub IsVerdictTrouble : List ℕ → List ℕ → List ℕ → List ℕ → Question → Trouble → Type 0
IsVerdictTrouble grants fs path groups q trouble =
    IsTrouble grants fs path groups q trouble
    ⊎ ((trouble ≡ troubles.Access) × (access_of q.access q.number ≡ None) × (asked : Asked) × Means grants fs path groups q asked)

-- what the grants say to an access
abbrev pub verdict_on : Asked → Access → Verdict
verdict_on asked access = verdict_of (question asked.fs asked.caller asked.path asked.attr access) asked.grants

-- the caps that the grants permit
abbrev pub permitted_on : Asked → Caps
permitted_on asked = permitted_of (question asked.fs asked.caller asked.path asked.attr) asked.grants

-- the verdict is that on what is asked
abbrev pub IsVerdict : List ℕ → List ℕ → List ℕ → List ℕ → Question → Verdict → Type 0
IsVerdict grants fs path groups q verdict =
    (asked : Asked) × (access : Access) × Means grants fs path groups q asked × (access_of q.access q.number ≡ Some access) × (verdict ≡ verdict_on asked access)

-- the verdict on a question, or why there is none
abbrev pub IsJudged : List ℕ → List ℕ → List ℕ → List ℕ → Question → Result Verdict Trouble → Type 0
IsJudged grants fs path groups q found = MatchResult found (IsVerdict grants fs path groups q) (IsVerdictTrouble grants fs path groups q)

-- the caps that are permitted, or why none are told
abbrev pub IsPermitted : List ℕ → List ℕ → List ℕ → List ℕ → Question → Result Caps Trouble → Type 0
IsPermitted grants fs path groups q found =
    MatchResult found (λ caps. (asked : Asked) × Means grants fs path groups q asked × (caps ≡ permitted_on asked)) (IsTrouble grants fs path groups q)
