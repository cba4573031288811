-- The objects that say what is found of a grant.
use Rattle.std.specs.Prelude.{◌≡◌, ℕ, Bool, not, Option, Some, None, List, [], ◌∷◌, ◌++◌, codes, if◌then◌else◌}
use Rattle.std.specs.List.{flat_map}
use Rattle.serde_json.specs.Data.{Data, no_members, object, string}
use Rattle.policy_analysis.specs.declared.finding.Finding.{Finding}
use Rattle.policy_analysis.specs.declared.oddity.Oddity.{Oddity}
use Rattle.policy_analysis.specs.declared.oddity.Oddity.TheVariants.{CommandsMds, GidsAlone, LargeUid, NoNetwork, TwoSlashes, ZeroUid}
use Rattle.policy_analysis.specs.declared.witness.Witness.{Witness}
use Rattle.policy_analysis.specs.declared.unread.Unread.{Unread}
use Rattle.policy_analysis.specs.declared.unread.Unread.TheVariants.{AnyFileSystem, Order, WhiteSpace}
use Rattle.capspec.specs.Items.{key_name as name}
use Rattle.texts.specs.Found.{Found, SameOfGrant, all_found}
use Rattle.texts.specs.Found.Found.{covered, nothing, odd, refused, stands, undone, unread}
use Rattle.policy_analysis.specs.declared.releases.Releases.{Releases}
use Rattle.policy_analysis.specs.Releases.{releases_numbers}
use Rattle.texts.specs.Values.{ReadsBack, Table, json_line, natural, numbers_value, object_of, with_all}
use Rattle.texts.specs.Answers.{IsAskable}
use Rattle.texts.specs.Changes.{asked_by, with_witness}

-- this is found of the grant of this number
abbrev pub finding_table : List ℕ → ℕ → Table
finding_table finding grant = (codes "finding", string finding) ∷ (codes "grant", natural grant) ∷ []

-- a line of it, where the test is passed
abbrev pub finding_if : Bool → List ℕ → ℕ → List ℕ
finding_if test finding grant = if test then json_line (object_of (finding_table finding grant)) else []

-- its root_squash is undone: a question that it denies for that alone, and the grant that allows it
abbrev pub undone_value : ℕ → Witness → Data
undone_value grant w = object (with_witness (codes "allowed_by") w (with_all (finding_table (codes "root-squash-undone") grant) no_members))

abbrev pub undone_line : ℕ → Option Witness → List ℕ
undone_line grant None = []
undone_line grant (Some w) = json_line (undone_value grant w)

-- why Ceph 16 does not read the grant of this number as it stands in its text
abbrev pub reason_table : ℕ → List ℕ → Table → Table
reason_table grant reason more = (codes "finding", string (codes "unread-as-it-stands")) ∷ (codes "grant", natural grant) ∷ (codes "reason", string reason) ∷ more

-- the item with the first of these keys has to stand before that with the second
abbrev pub order_table : ℕ → List ℕ → List ℕ → Table
order_table grant first second = reason_table grant (codes "order") ((codes "first", string first) ∷ (codes "second", string second) ∷ [])

abbrev pub stands_table : ℕ → Unread → Table
stands_table grant WhiteSpace = reason_table grant (codes "white-space") []
stands_table grant AnyFileSystem = reason_table grant (codes "any-file-system") []
stands_table grant (Order first second) = order_table grant (name first) (name second)

abbrev pub stands_object : ℕ → Option Unread → List ℕ
stands_object grant None = []
stands_object grant (Some why) = json_line (object_of (stands_table grant why))

-- what is found of one grant, a line for each, and why Ceph 16 does not read it as it stands
abbrev pub finding_objects : Finding → Option Unread → List ℕ
finding_objects f why =
    finding_if f.is_redundant (codes "covered") f.grant
    ++ (finding_if f.allows_nothing (codes "allows-nothing") f.grant
    ++ (undone_line f.grant f.undoing
    ++ (finding_if (not f.has_ceph_text) (codes "unread-by-ceph-16") f.grant
    ++ stands_object f.grant why)))

-- ---- by the rules of releases

abbrev pub oddity_word : Oddity → List ℕ
oddity_word ZeroUid = codes "zero-uid"
oddity_word GidsAlone = codes "gids-alone"
oddity_word CommandsMds = codes "mds-commands"
oddity_word NoNetwork = codes "no-network"
oddity_word TwoSlashes = codes "two-slashes"
oddity_word LargeUid = codes "large-uid"

-- this is found of the grant of this number by the rules of these releases
abbrev pub releases_table : List ℕ → ℕ → Releases → Table
releases_table finding grant releases =
    (codes "finding", string finding) ∷ (codes "grant", natural grant) ∷ (codes "releases", numbers_value (releases_numbers releases)) ∷ []

abbrev pub odd_value : ℕ → Releases → Oddity → Data
odd_value grant releases oddity = object_of (releases_table (oddity_word oddity) grant releases)

-- its clients refuse a question that it allows, and the grant by which they do
abbrev pub refused_value : ℕ → Releases → Witness → Data
refused_value grant releases w = object (with_witness (codes "refused_by") w (with_all (releases_table (codes "refused-by-clients") grant releases) no_members))

-- ---- one finding for an object

-- the object for one thing that is found of the grant of this number, and its line
abbrev pub found_value : ℕ → Found → Data
found_value grant covered = object_of (finding_table (codes "covered") grant)
found_value grant nothing = object_of (finding_table (codes "allows-nothing") grant)
found_value grant (undone w) = undone_value grant w
found_value grant unread = object_of (finding_table (codes "unread-by-ceph-16") grant)
found_value grant (stands why) = object_of (stands_table grant why)
found_value grant (odd releases oddity) = odd_value grant releases oddity
found_value grant (refused releases w) = refused_value grant releases w

abbrev pub found_object : ℕ × Found → List ℕ
found_object x = json_line (found_value x.0 x.1)

-- the question of one that has one can be asked
abbrev pub IsAskableIf : Found → Type 0
IsAskableIf (undone w) = IsAskable (asked_by w)
IsAskableIf (refused releases w) = IsAskable (asked_by w)
IsAskableIf found = Unit {0}

-- who reads its object has it again
abbrev pub IsRead : ℕ × Found → Type 0
IsRead x = ReadsBack (found_value x.0 x.1)

abbrev pub HasObject : ℕ × Found → Type 0
HasObject x = IsAskableIf x.1 × IsRead x

-- findings that are the same object are the same, of the same grant
abbrev pub OneFinding : Type 0
OneFinding = (x y : ℕ × Found) → IsAskableIf x.1 → IsAskableIf y.1 → found_value x.0 x.1 ≡ found_value y.0 y.1 → SameOfGrant x y

-- a line for each thing that is found has its object
abbrev pub EachHasAnObject : Type 0
EachHasAnObject = (f : Finding) (why : Option Unread) → finding_objects f why ≡ flat_map found_object (all_found f why)
