-- What is told of a text of grants that is looked over.
use Rattle.std.specs.Prelude.{◌≡◌, ◌≢◌, ℕ, ◌+◌, Option, Some, None, Result, Ok, Err, List, [], ◌∷◌, ◌++◌, map, All, if◌then◌else◌}
use Rattle.std.specs.List.{AllZip, flat_map}
use Rattle.capspec.specs.declared.grant.Grant.{Grant}
use Rattle.capspec.specs.Grants.{Reads}
use Rattle.release_grants.specs.declared.grant.Grant.{Grant as Given}
use Rattle.release_grants.specs.declared.reading.Unread.{Unread as NotRead}
use Rattle.release_rules.specs.declared.release.Release.{Release}
use Rattle.release_grants.specs.Reading.{read_of}
use Rattle.policy_analysis.specs.declared.unread.Unread.{Unread}
use Rattle.policy_analysis.specs.Ceph16Syntax.{AreReported}
use Rattle.policy_analysis.specs.declared.finding.Finding.{Finding}
use Rattle.policy_analysis.specs.declared.oddity.OddGrant.{OddGrant}
use Rattle.policy_analysis.specs.declared.refusal.Refusal.{Refusal}
use Rattle.policy_analysis.specs.Findings.{AreFindings}
use Rattle.policy_analysis.specs.Oddities.{oddities}
use Rattle.policy_analysis.specs.Refusals.{AreRefusals}
use Rattle.policy_analysis.specs.Releases.{switches_for}
use Rattle.texts.specs.Found.{Found, HasLine, SameOfGrant, all_found, thing_line}
use Rattle.texts.specs.Found.Found.{odd, refused}
use Rattle.texts.specs.Linting.{finding_lines}
use Rattle.texts.specs.Findings.{HasObject, finding_objects, found_object}
use Rattle.texts.specs.Shapes.{nothing_in}
use Rattle.policy_analysis.specs.declared.releases.Releases.{Releases}
use Rattle.policy_analysis.specs.declared.releases.Releases.TheVariants.{One, Today}
use Rattle.texts.specs.declared.shape.Shape.{Shape}
use Rattle.texts.specs.declared.shape.Shape.TheVariants.{Lines, Objects}
use Rattle.queries.specs.Mds.{MdsReads}

-- what is found of a grant, in this shape
abbrev pub found_in : Shape → Finding → Option Unread → List ℕ
found_in Lines f unread = finding_lines f unread
found_in Objects f unread = finding_objects f unread

-- the same; why Ceph 16 does not read it as it stands counts where it reads some text of it
abbrev pub found_of : Shape → Finding → Option Unread → List ℕ
found_of shape f unread = found_in shape f (if f.has_ceph_text then unread else None)

-- all of it, grant by grant
abbrev pub lint_in : Shape → List Finding → List (Option Unread) → List ℕ
lint_in shape [] unread = []
lint_in shape (f ∷ findings) [] = []
lint_in shape (f ∷ findings) (why ∷ unread) = found_of shape f why ++ lint_in shape findings unread

-- ---- by the rules of releases

-- one thing in this shape
abbrev pub thing_in : Shape → ℕ × Found → List ℕ
thing_in Lines x = thing_line x
thing_in Objects x = found_object x

abbrev pub things_in : Shape → List (ℕ × Found) → List ℕ
things_in shape things = flat_map (thing_in shape) things

-- what is odd in grants, by these releases
abbrev pub odd_thing : Releases → OddGrant → ℕ × Found
odd_thing releases o = (o.grant, odd releases o.oddity)

abbrev pub odd_things : Releases → List OddGrant → List (ℕ × Found)
odd_things releases odds = map (odd_thing releases) odds

-- what clients refuse of what the grant of this number allows
abbrev pub refused_thing : ℕ → Refusal → ℕ × Found
refused_thing number one = (number, refused one.releases one.witness)

-- the same of all grants, which are counted on from this number
abbrev pub refused_from : ℕ → List (Option Refusal) → List (ℕ × Found)
refused_from number [] = []
refused_from number (None ∷ found) = refused_from (number + 1) found
refused_from number (Some one ∷ found) = refused_thing number one ∷ refused_from (number + 1) found

-- what is found of grants by the rules of these releases: what is odd in them, and what clients refuse
pub record AreByReleases (releases : Releases) (grants : List Given) (things : List (ℕ × Found)) : Type 0 where
  pub found : List (Option Refusal)
  pub refusals : AreRefusals releases grants found
  pub things_are : things ≡ odd_things releases (oddities (switches_for releases) grants) ++ refused_from 1 found

-- the same of the grants that Ceph 18 and 20 read in a text; nothing, where they don't read it
abbrev pub AreOfRead : Result (List Given) NotRead → List (ℕ × Found) → Type 0
AreOfRead (Ok grants) things = AreByReleases Today grants things
AreOfRead (Err unread) things = things ≡ []

abbrev pub AreToday : List ℕ → List (ℕ × Found) → Type 0
AreToday text things = AreOfRead (read_of (switches_for Today) text) things

-- behind the one text the other has those of which this holds, in this shape
abbrev pub AddsThings : (List (ℕ × Found) → Type 0) → Shape → List ℕ → List ℕ → Type 0
AddsThings Are shape old new = (things : List (ℕ × Found)) × Are things × (new ≡ old ++ things_in shape things)

-- ---- of a text

-- the lines tell, in this shape, what is found of the grants that the text means, and are empty where that is nothing
pub record IsLintOf (shape : Shape) (text lines : List ℕ) : Type 0 where
  pub grants : List Grant
  pub findings : List Finding
  pub unread : List (Option Unread)
  pub means : Reads text grants
  pub found : AreFindings grants findings
  pub reported : AreReported text grants unread
  pub lines_are : AddsThings (AreToday text) shape (lint_in shape findings unread) lines

-- the lines tell, in this shape, what is found of the grants that the release reads in the text, by its rules alone
pub record IsLintBy (release : Release) (shape : Shape) (text lines : List ℕ) : Type 0 where
  pub grants : List Given
  pub reads : MdsReads release text grants
  pub lines_are : AddsThings (AreByReleases (One release) grants) shape [] lines

-- ---- one list of findings for a text

-- all that is found, grant by grant, as it is told
abbrev pub found_in_all : List Finding → List (Option Unread) → List (ℕ × Found)
found_in_all [] unread = []
found_in_all (f ∷ findings) [] = []
found_in_all (f ∷ findings) (why ∷ unread) = all_found f (if f.has_ceph_text then why else None) ++ found_in_all findings unread

-- its numbers and names fit into this shape
abbrev pub HasText : Shape → ℕ × Found → Type 0
HasText Lines x = HasLine x
HasText Objects x = HasObject x

-- texts of this shape that are the same tell the same things, one after the other
abbrev pub OneLint : Type 0
OneLint = (shape : Shape) (fs gs : List Finding) (us ws : List (Option Unread)) (xs ys : List (ℕ × Found))
    → All (HasText shape) (found_in_all fs us ++ xs) → All (HasText shape) (found_in_all gs ws ++ ys)
    → lint_in shape fs us ++ things_in shape xs ≡ lint_in shape gs ws ++ things_in shape ys → AllZip SameOfGrant (found_in_all fs us ++ xs) (found_in_all gs ws ++ ys)

-- and no line that tells a thing says that there is none
abbrev pub SaysSomething : Type 0
SaysSomething = (fs : List Finding) (us : List (Option Unread)) (xs : List (ℕ × Found)) → lint_in Lines fs us ++ things_in Lines xs ≢ nothing_in Lines
