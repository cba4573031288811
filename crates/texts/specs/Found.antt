-- Each thing that is found of a grant.
use Rattle.std.specs.Prelude.{◌≡◌, ℕ, ◌<◌, ◌^◌, Bool, true, not, Option, Some, None, List, [], ◌∷◌, ◌++◌, codes, map, All, if◌then◌else◌}
use Rattle.std.specs.List.{AllZip}
use Rattle.policy_analysis.specs.declared.finding.Finding.{Finding}
use Rattle.policy_analysis.specs.declared.witness.Witness.{Witness}
use Rattle.policy_analysis.specs.declared.unread.Unread.{Unread}
use Rattle.policy_analysis.specs.declared.oddity.Oddity.{Oddity}
use Rattle.policy_analysis.specs.declared.releases.Releases.{Releases}
use Rattle.texts.specs.Comparing.{found_line}
use Rattle.texts.specs.Lines.{IsReported, TellTheSame}
use Rattle.texts.specs.Linting.{covered_text, finding_lines, nothing_text, odd_line, refused_line, reported_if, stands_line, unread_text}

-- the others cover it; it allows nothing; this question undoes its root_squash; Ceph 16 reads no text of it, or not the one that stands;
-- by the rules of these releases this is odd in it, or clients refuse this question, which it allows
pub data Found : Type 0 where
  covered : Found
  nothing : Found
  undone : Witness → Found
  unread : Found
  stands : Unread → Found
  odd : Releases → Oddity → Found
  refused : Releases → Witness → Found

abbrev pub found_if : Bool → Found → List Found
found_if test found = if test then found ∷ [] else []

-- what is made of a value, where there is one
abbrev pub found_by : {A : Type 0} → (A → Found) → Option A → List Found
found_by makes None = []
found_by makes (Some a) = makes a ∷ []

-- all that is found of a grant, in the order of its lines, each with the number of the grant
abbrev pub all_found : Finding → Option Unread → List (ℕ × Found)
all_found f why =
    map (λ found. (f.grant, found))
    (found_if f.is_redundant covered ++ (found_if f.allows_nothing nothing ++ (found_by undone f.undoing ++ (found_if (not f.has_ceph_text) unread ++ found_by stands why))))

-- ---- one finding for a line

-- the line of one thing that is found of the grant of this number
abbrev pub line_of : ℕ → Found → List ℕ
line_of grant covered = reported_if true grant covered_text
line_of grant nothing = reported_if true grant nothing_text
line_of grant (undone w) = reported_if true grant (codes ": ") ++ found_line (codes "root_squash undone, ") (Some w)
line_of grant unread = reported_if true grant unread_text
line_of grant (stands why) = stands_line grant (Some why)
line_of grant (odd releases oddity) = odd_line grant releases oddity
line_of grant (refused releases w) = refused_line grant releases w

abbrev pub thing_line : ℕ × Found → List ℕ
thing_line x = line_of x.0 x.1

-- the question of one that has one can be told
abbrev pub IsReportedIf : Found → Type 0
IsReportedIf (undone w) = IsReported w
IsReportedIf (refused releases w) = IsReported w
IsReportedIf found = Unit {0}

-- the same, and the number of the grant has 64 bits
abbrev pub HasLine : ℕ × Found → Type 0
HasLine x = (x.0 < 2 ^ 64) × IsReportedIf x.1

-- the two are the same; of questions it is enough that they tell the same
abbrev pub SameFound : Found → Found → Type 0
SameFound covered covered = Unit {0}
SameFound nothing nothing = Unit {0}
SameFound (undone v) (undone w) = TellTheSame v w
SameFound unread unread = Unit {0}
SameFound (stands why) (stands other) = why ≡ other
SameFound (odd releases oddity) (odd further other) = (releases ≡ further) × (oddity ≡ other)
SameFound (refused releases v) (refused further w) = (releases ≡ further) × TellTheSame v w
SameFound found other = ⊥

-- and found of the same grant
abbrev pub SameOfGrant : ℕ × Found → ℕ × Found → Type 0
SameOfGrant x y = (x.0 ≡ y.0) × SameFound x.1 y.1

-- lines of findings that are the same tell the same, one thing after the other
abbrev pub OneFinding : Type 0
OneFinding = (f g : Finding) (why other : Option Unread) → All HasLine (all_found f why) → All HasLine (all_found g other)
    → finding_lines f why ≡ finding_lines g other → AllZip SameOfGrant (all_found f why) (all_found g other)
