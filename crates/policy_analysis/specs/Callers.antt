-- Who asks behind a client's key, and what a grant allows them. A key names no user: a caller comes with each request.
use Rattle.std.specs.Prelude.{◌≡◌, ℕ, Bool, true, false, not, ◌==◌, if◌then◌else◌, Option, Some, None, unwrap_or, List, [], ◌∷◌, length, All, Contains, IsTrue}
use Rattle.std.specs.List.{list_any}
use Rattle.capbits.specs.declared.caller.Caller.{Caller}
use Rattle.capspec.specs.declared.grant.Grant.{Grant}
use Rattle.capgrant.specs.declared.access.Access.{Access}
use Rattle.capgrant.specs.declared.access.Attr.{Attr}
use Rattle.capgrant.specs.Question.{Question, contains, question}
use Rattle.capgrant.specs.Verdict.{allows}

-- ---- callers

-- the user whom a grant names: the one of its uid; any but root where it has none
abbrev pub is_user_of : Option ℕ → ℕ → Bool
is_user_of (Some own) uid = own == uid
is_user_of None uid = not (uid == 0)

-- the grant names the caller: its user, in any first group, with no further groups but some of those that it lists
pub record Names (g : Grant) (caller : Caller) : Type 0 where
  pub user : is_user_of g.uid caller.uid ≡ true
  pub groups : All (λ gid. contains g.gids gid ≡ true) caller.groups

-- a caller of the client: some grant of the client names it
abbrev pub IsCallerOf : List Grant → Caller → Type 0
IsCallerOf grants caller = (g : Grant) × Contains grants g × Names g caller

-- ---- what they want

-- an access to the inode with these names from the root down, on this file system
pub record Wanted : Type 0 where
  pub fs : List ℕ
  pub path : List (List ℕ)
  pub access : Access

abbrev pub wanted : List ℕ → List (List ℕ) → Access → Wanted
wanted fs path access = record { fs = fs; path = path; access = access }

-- the same of an inode of this owner, group and mode, by this caller
abbrev pub asked : Wanted → Attr → Caller → Question
asked w attr caller = question w.fs caller w.path attr w.access

-- the grant allows it to a caller whom it names
abbrev pub AllowsSome : Wanted → Attr → Grant → Type 0
AllowsSome w attr g = (caller : Caller) × Names g caller × IsTrue (allows (asked w attr caller) g)

-- the grant allows it to no caller at all, whoever it is and whatever its groups
abbrev pub AllowsNone : Wanted → Attr → Grant → Type 0
AllowsNone w attr g = (caller : Caller) → allows (asked w attr caller) g ≡ false

-- ---- the few who are asked

-- a gid that is neither root's nor this one
abbrev pub beside : ℕ → ℕ
beside gid = if gid == 1 then 2 else 1

-- the user whom a grant names, or one whom it means too
abbrev pub user_of : Grant → ℕ
user_of g = unwrap_or g.uid 1

-- that user in these further groups; its first group is neither root's nor the inode's
abbrev pub asker : Attr → Grant → List ℕ → Caller
asker attr g groups = record { uid = user_of g; gid = beside attr.gid; groups = groups }

-- the grant allows it to its user in these further groups
abbrev pub allows_in : Wanted → Attr → Grant → List ℕ → Bool
allows_in w attr g groups = allows (asked w attr (asker attr g groups)) g

-- the same in one of the groups that it lists, alone, or in none where it lists none
abbrev pub allows_one : Wanted → Attr → Grant → Bool
allows_one w attr g = if length g.gids == 0 then allows_in w attr g [] else list_any (λ gid. allows_in w attr g (gid ∷ [])) g.gids
