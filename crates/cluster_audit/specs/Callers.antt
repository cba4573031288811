-- What somebody behind a client's key may hold.
use Rattle.std.specs.Prelude.{IsTrue, List, ℕ}
use Rattle.capbits.specs.declared.caller.Caller.{Caller}
use Rattle.capbits.specs.declared.cap.Cap.{Cap}
use Rattle.capbits.specs.Caps.{Caps, has}
use Rattle.capspec.specs.declared.grant.Grant.{Grant}
use Rattle.capgrant.specs.declared.access.Access.{Access}
use Rattle.capgrant.specs.declared.access.Attr.{Attr}
use Rattle.capgrant.specs.Question.{Question}
use Rattle.capgrant.specs.Permitted.{permitted_of}
use Rattle.capgrant.specs.Verdict.{granted}
use Rattle.policy_analysis.specs.Callers.{IsCallerOf, Wanted, wanted}
use Rattle.policy_analysis.specs.Callers.{asked as asked_of}

-- an inode as the rules see it: its file system, its names from the root down, which are its place as the rules of a release take it too, its owner,
-- group and mode
pub record Inode : Type 0 where
  pub fs : List ℕ
  pub path : List (List ℕ)
  pub place : List (List ℕ)
  pub attr : Attr

abbrev pub inode : List ℕ → List (List ℕ) → Attr → Inode
inode fs path attr = record { fs = fs; path = path; place = path; attr = attr }

-- what is wanted of the inode
abbrev pub wanted_of : Inode → Access → Wanted
wanted_of i access = wanted i.fs i.path access

abbrev pub asked : Inode → Caller → Access → Question
asked i caller access = asked_of (wanted_of i access) i.attr caller

-- what the grants permit a caller to hold of the inode
abbrev pub permitted_to : Inode → List Grant → Caller → Caps
permitted_to i grants caller = permitted_of (asked i caller) grants

-- some caller of the client is permitted the cap
abbrev pub IsPermittedToSome : Inode → List Grant → Cap → Type 0
IsPermittedToSome i grants cap = (caller : Caller) × IsCallerOf grants caller × IsTrue (has (permitted_to i grants caller) cap)

-- ---- of one access

-- some caller of the client may make it
abbrev pub SomebodyMay : Inode → List Grant → Access → Type 0
SomebodyMay i grants access = (caller : Caller) × IsCallerOf grants caller × IsTrue (granted (asked i caller access) grants)
