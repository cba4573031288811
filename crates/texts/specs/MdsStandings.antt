-- What is said of one client by a release: whether somebody behind its key may make an access there.
use Rattle.std.specs.Prelude.{◌≡◌, ℕ, Bool, true, false, Option, Some, None, List, [], ◌∷◌, ◌++◌, codes}
use Rattle.std.specs.Fmt.{decimal}
use Rattle.serde_json.specs.Data.{Data, no_members, object, string}
use Rattle.capgrant.specs.declared.access.Access.{Access}
use Rattle.capgrant.specs.Access.{access_word}
use Rattle.policy_analysis.specs.declared.mds_standing.MdsStanding.{MdsStanding}
use Rattle.policy_analysis.specs.Callers.{Wanted}
use Rattle.policy_analysis.specs.MdsStanding.{MdsWanted}
use Rattle.release_rules.specs.declared.release.Release.{Release}
use Rattle.release_rules.specs.declared.verdict.Verdict.{Verdict}
use Rattle.release_rules.specs.declared.verdict.Verdict.TheVariants.{Allowed, CannotMount, Denied, DependsOnAddress}
use Rattle.release_rules.specs.Releases.{version_of}
use Rattle.texts.specs.Explaining.{path_text}
use Rattle.texts.specs.Lines.{HasNumber}
use Rattle.texts.specs.Mds.{mds_reason, refused_line}
use Rattle.texts.specs.MdsAnswers.{failures_value, grant_value}
use Rattle.texts.specs.MdsTold.{HasMdsGrant, HasRefusal}
use Rattle.texts.specs.Quoting.{quoted}
use Rattle.texts.specs.Standings.{AskAlike, IsWanted, with_client}
use Rattle.texts.specs.Values.{Table, json_line, natural, or_null, with_all}

-- ---- as lines

-- what stands before the access, by whether the inode's owner, group and mode decide
abbrev pub mds_front : Verdict → Bool → List ℕ
mds_front (Allowed grant) false = codes ": allowed "
mds_front (Allowed grant) true = codes ": depends on owner, group and mode: "
mds_front (DependsOnAddress grant) false = codes ": depends on the address: "
mds_front (DependsOnAddress grant) true = codes ": depends on owner, group, mode and the address: "
mds_front CannotMount by_inode = codes ": denied "
mds_front (Denied rules) by_inode = codes ": denied "

-- of this client: the access, the path, and by which grant or rules
abbrev pub mds_client_line : List ℕ → Access → List (List ℕ) → MdsStanding → List ℕ
mds_client_line client access path standing =
    quoted client ++ (mds_front standing.verdict standing.by_inode ++ (access_word access ++ (codes " " ++ (quoted (path_text path) ++ (mds_reason standing.verdict ++ codes "\n")))))

-- a line of the client's for the grant by which it refuses itself, where it does
abbrev pub refused_client : List ℕ → Option ℕ → List ℕ
refused_client client None = []
refused_client client (Some grant) = quoted client ++ (codes ": " ++ refused_line (Some grant))

-- both
abbrev pub mds_client_text : List ℕ → Access → List (List ℕ) → MdsStanding → List ℕ
mds_client_text client access path standing = mds_client_line client access path standing ++ refused_client client standing.refused

-- where the release does not read its grants: up to which byte it does
abbrev pub mds_unread_line : List ℕ → Release → ℕ → List ℕ
mds_unread_line client release at = quoted client ++ (codes ": grants: not read by Ceph " ++ (version_of release ++ (codes " at " ++ (decimal at ++ codes "\n"))))

-- ---- as objects

-- what is asked, without the release
abbrev pub wanted_of : MdsWanted → Wanted
wanted_of w = record { fs = w.fs; path = w.path; access = w.access }

abbrev pub mds_standing_word : Verdict → Bool → List ℕ
mds_standing_word (Allowed grant) false = codes "allowed"
mds_standing_word (Allowed grant) true = codes "depends"
mds_standing_word (DependsOnAddress grant) false = codes "depends-on-address"
mds_standing_word (DependsOnAddress grant) true = codes "depends-on-inode-and-address"
mds_standing_word CannotMount by_inode = codes "cannot-mount"
mds_standing_word (Denied rules) by_inode = codes "denied"

abbrev pub mds_standing_table : Release → MdsStanding → Table
mds_standing_table release standing =
    (codes "mds", string (version_of release)) ∷ (codes "verdict", string (mds_standing_word standing.verdict standing.by_inode)) ∷ (codes "grant", grant_value standing.verdict)
    ∷ (codes "rules", failures_value standing.verdict) ∷ (codes "refused_by_client", or_null natural standing.refused) ∷ []

abbrev pub mds_standing_value : List ℕ → MdsWanted → MdsStanding → Data
mds_standing_value client w standing = object (with_all (mds_standing_table w.release standing) (with_client client (wanted_of w) w.known no_members))

abbrev pub mds_unread_table : Release → ℕ → Table
mds_unread_table release at = (codes "mds", string (version_of release)) ∷ (codes "verdict", string (codes "unread")) ∷ (codes "at", natural at) ∷ []

abbrev pub mds_unread_value : List ℕ → MdsWanted → ℕ → Data
mds_unread_value client w at = object (with_all (mds_unread_table w.release at) (with_client client (wanted_of w) w.known no_members))

-- as lines

abbrev pub mds_standing_object : List ℕ → MdsWanted → MdsStanding → List ℕ
mds_standing_object client w standing = json_line (mds_standing_value client w standing)

abbrev pub mds_unread_object : List ℕ → MdsWanted → ℕ → List ℕ
mds_unread_object client w at = json_line (mds_unread_value client w at)

-- ---- one answer for a text

-- the inode decides nothing where nobody may
abbrev pub DecidesIf : Verdict → Bool → Type 0
DecidesIf CannotMount by_inode = by_inode ≡ false
DecidesIf (Denied rules) by_inode = by_inode ≡ false
DecidesIf verdict by_inode = Unit {0}

-- its numbers fit, and the inode decides nothing where nobody may
pub record IsStanding (standing : MdsStanding) : Type 0 where
  pub grant : HasMdsGrant standing.verdict
  pub refused : HasRefusal standing.refused
  pub by_inode : DecidesIf standing.verdict standing.by_inode

-- texts that are the same tell the same of the same client; of two paths the text counts
abbrev pub OneMdsClient : Type 0
OneMdsClient = (c d : List ℕ) (a b : Access) (p q : List (List ℕ)) (s t : MdsStanding) → HasNumber a → HasNumber b → IsStanding s → IsStanding t
    → mds_client_text c a p s ≡ mds_client_text d b q t → (c ≡ d) × (a ≡ b) × (path_text p ≡ path_text q) × (s ≡ t)

-- so do objects, which tell the release too
abbrev pub OneMdsStanding : Type 0
OneMdsStanding = (c d : List ℕ) (w u : MdsWanted) (s t : MdsStanding) → IsWanted c (wanted_of w) w.known → IsWanted d (wanted_of u) u.known → IsStanding s → IsStanding t
    → mds_standing_value c w s ≡ mds_standing_value d u t → AskAlike c d (wanted_of w) (wanted_of u) w.known u.known × (w.release ≡ u.release) × (s ≡ t)
