-- The lines that say what is found of a grant.
use Rattle.std.specs.Prelude.{ℕ, Bool, true, not, Option, Some, None, is_some, List, [], ◌++◌, codes, if◌then◌else◌}
use Rattle.std.specs.Fmt.{decimal}
use Rattle.policy_analysis.specs.declared.finding.Finding.{Finding}
use Rattle.policy_analysis.specs.declared.oddity.Oddity.{Oddity}
use Rattle.policy_analysis.specs.declared.oddity.Oddity.TheVariants.{CommandsMds, GidsAlone, LargeUid, NoNetwork, TwoSlashes, ZeroUid}
use Rattle.policy_analysis.specs.declared.witness.Witness.{Witness}
use Rattle.policy_analysis.specs.declared.unread.Unread.{Unread}
use Rattle.policy_analysis.specs.declared.unread.Unread.TheVariants.{AnyFileSystem, Order, WhiteSpace}
use Rattle.capspec.specs.Items.{key_name as name}
use Rattle.policy_analysis.specs.declared.releases.Releases.{Releases}
use Rattle.texts.specs.Comparing.{found_line}
use Rattle.policy_analysis.specs.Releases.{releases_text}

abbrev pub covered_text : List ℕ
covered_text = codes ": covered by the others\n"

abbrev pub nothing_text : List ℕ
nothing_text = codes ": allows nothing, as no inode has . or .. in its path\n"

abbrev pub unread_text : List ℕ
unread_text = codes ": not read by Ceph 16, which takes no uid beside fsname or root_squash\n"

-- this of the grant of this number, where the test is passed
abbrev pub reported_if : Bool → ℕ → List ℕ → List ℕ
reported_if test grant more = if test then codes "grant " ++ (decimal grant ++ more) else []

-- why Ceph 16 does not read the grant of this number as it stands in its text
abbrev pub stands_line : ℕ → Option Unread → List ℕ
stands_line grant None = []
stands_line grant (Some WhiteSpace) = reported_if true grant (codes ": not read by Ceph 16 as it stands, which takes only spaces round the separator before it\n")
stands_line grant (Some AnyFileSystem) = reported_if true grant (codes ": not read by Ceph 16 as it stands, which takes no * for fsname\n")
stands_line grant (Some (Order first second)) =
    reported_if true grant (codes ": not read by Ceph 16 as it stands, which takes ") ++ (name first ++ (codes " before " ++ (name second ++ codes "\n")))

-- what is found of one grant, a line for each, and why Ceph 16 does not read it as it stands
abbrev pub finding_lines : Finding → Option Unread → List ℕ
finding_lines f unread =
    reported_if f.is_redundant f.grant covered_text
    ++ (reported_if f.allows_nothing f.grant nothing_text
    ++ (reported_if (is_some f.undoing) f.grant (codes ": ")
    ++ (found_line (codes "root_squash undone, ") f.undoing
    ++ (reported_if (not f.has_ceph_text) f.grant unread_text
    ++ stands_line f.grant unread))))

-- ---- by the rules of releases

abbrev pub oddity_text : Oddity → List ℕ
oddity_text ZeroUid = codes ": uid=0 is no uid, so it is for every user\n"
oddity_text GidsAlone = codes ": gids mean nothing without a uid, so it is for every user\n"
oddity_text CommandsMds = codes ": commands every MDS, whatever its fsname\n"
oddity_text NoNetwork = codes ": network without an address and a length, so it is for nobody\n"
oddity_text TwoSlashes = codes ": two slashes side by side in its path, so it is for nothing\n"
oddity_text LargeUid = codes ": large uid, which no caller has, so it is for nobody\n"

-- what is odd in the grant of this number, by these releases
abbrev pub odd_line : ℕ → Releases → Oddity → List ℕ
odd_line grant releases oddity = reported_if true grant (codes ": " ++ (releases_text releases ++ oddity_text oddity))

-- what the grant of this number allows and clients of these releases refuse
abbrev pub refused_line : ℕ → Releases → Witness → List ℕ
refused_line grant releases w = reported_if true grant (codes ": " ++ (releases_text releases ++ found_line (codes ": refused by clients, ") (Some w)))
