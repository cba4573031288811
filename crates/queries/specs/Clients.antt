-- Which clients of a cluster may make an access.
use Rattle.std.specs.Prelude.{◌≡◌, ◌⊎◌, ◌||◌, ◌&&◌, ℕ, Bool, true, false, bytes_eq, codes, Option, Some, None, is_some, List, [], ◌∷◌, ◌++◌, if◌then◌else◌}
use Rattle.capspec.specs.declared.fault.SpecFault.{SpecFault}
use Rattle.capspec.specs.declared.grant.Grant.{Grant}
use Rattle.capspec.specs.Faults.{IsFault}
use Rattle.capspec.specs.Grants.{Reads}
use Rattle.capgrant.specs.declared.access.Attr.{Attr}
use Rattle.ceph_input.specs.Auth.{Named, is_client}
use Rattle.policy_analysis.specs.declared.standing.Standing.{Standing}
use Rattle.policy_analysis.specs.declared.standing.Standing.TheVariants.{Denied}
use Rattle.policy_analysis.specs.Callers.{Wanted}
use Rattle.policy_analysis.specs.BesideStanding.{other_of}
use Rattle.policy_analysis.specs.Standing.{Answers}
use Rattle.release_rules.specs.declared.beside.Others.{Others}
use Rattle.release_rules.specs.declared.release.Release.{Release}
use Rattle.release_rules.specs.declared.release.Release.TheVariants.{Pacific, Reef, Tentacle}
use Rattle.texts.specs.declared.shape.Shape.{Shape}
use Rattle.texts.specs.declared.shape.Shape.TheVariants.{Lines, Objects}
use Rattle.texts.specs.Standing.{standing_line, standing_others, unread_line}
use Rattle.texts.specs.Standings.{standing_object, unread_object}
use Rattle.queries.specs.declared.clients.Telling.{Telling}
use Rattle.queries.specs.declared.clients.WhoAnswer.{WhoAnswer}
use Rattle.queries.specs.ClientsBy.{SaysBy, wanted_there}
use Rattle.queries.specs.declared.clients.Telling.TheVariants.{Line, More, Object}

-- ---- beside what releases say

-- no release answers otherwise
abbrev pub nothing : Others
nothing = record { pacific = None; reef = None; tentacle = None }

-- what each release answers otherwise, by the same text of grants
abbrev pub others_to : Wanted → Option Attr → List ℕ → Standing → Others
others_to w attr text standing = record {
  pacific = other_of (wanted_there w attr Pacific) text standing;
  reef = other_of (wanted_there w attr Reef) text standing;
  tentacle = other_of (wanted_there w attr Tentacle) text standing;
}

-- a line alone tells nothing of it
abbrev pub others_in : Telling → Wanted → Option Attr → List ℕ → Standing → Others
others_in Line w attr text standing = nothing
others_in telling w attr text standing = others_to w attr text standing

-- ---- what is said

-- the shape of what is told in this way
abbrev pub shape_of : Telling → Shape
shape_of Line = Lines
shape_of More = Lines
shape_of Object = Objects

-- what is said of a client, told in this way: a line; or this with one for each answer that releases give otherwise; or an object that says all of it
abbrev pub standing_in : Telling → List ℕ → Wanted → Option Attr → Standing → Others → List ℕ
standing_in Line client w attr standing others = standing_line client w.access w.path standing
standing_in More client w attr standing others = standing_line client w.access w.path standing ++ standing_others client others
standing_in Object client w attr standing others = standing_object client w attr standing others

-- the same of one whose grants can't be read
abbrev pub unread_in : Telling → List ℕ → Wanted → Option Attr → SpecFault → List ℕ
unread_in Line client w attr fault = unread_line client fault
unread_in More client w attr fault = unread_line client fault
unread_in Object client w attr fault = unread_object client w attr fault

-- a client, or another who has grants for the MDS
abbrev pub is_told : Named → Bool
is_told e = is_client e || is_some e.caps

-- the text whose grants are judged: `allow` alone, which the MDS of each release reads, allows all that `allow rwps` does
abbrev pub meant : List ℕ → List ℕ
meant text = if bytes_eq text (codes "allow") then codes "allow rwps" else text

-- the line says what the grants that the text means say, and where releases answer otherwise by the text
pub record IsJudged (telling : Telling) (w : Wanted) (attr : Option Attr) (client text line : List ℕ) : Type 0 where
  pub grants : List Grant
  pub standing : Standing
  pub means : Reads (meant text) grants
  pub answers : Answers w attr grants standing
  pub line_is : line ≡ standing_in telling client w attr standing (others_in telling w attr text standing)

-- it says the first fault of the text
pub record IsUnread (telling : Telling) (w : Wanted) (attr : Option Attr) (client text line : List ℕ) : Type 0 where
  pub fault : SpecFault
  pub first : IsFault text fault
  pub line_is : line ≡ unread_in telling client w attr fault

-- What the line of a client says by the text of its grants, and whether it could be judged. One without grants is denied everything, by no rule.
abbrev pub Says : Telling → Wanted → Option Attr → List ℕ → Option (List ℕ) → Bool → List ℕ → Type 0
Says telling w attr client None judged line = (judged ≡ true) × (line ≡ standing_in telling client w attr (Denied []) nothing)
Says telling w attr client (Some text) judged line =
    ((judged ≡ true) × IsJudged telling w attr client text line) ⊎ ((judged ≡ false) × IsUnread telling w attr client (meant text) line)

-- the same by the rules of a release, where one is named
abbrev pub SaysFor : Telling → Wanted → Option Attr → Option Release → List ℕ → Option (List ℕ) → Bool → List ℕ → Type 0
SaysFor telling w attr None client caps judged line = Says telling w attr client caps judged line
SaysFor telling w attr (Some release) client caps judged line = SaysBy telling (wanted_there w attr release) client caps judged line

-- lines that say this for each of whom is told, in the order of the list, and whether all of them could be judged
pub data AreLines (Say : List ℕ → Option (List ℕ) → Bool → List ℕ → Type 0) : List Named → Bool → List ℕ → Type 0 where
  no_more : AreLines Say [] true []
  client : {e : Named} {es : List Named} (judged others : Bool) (line lines : List ℕ) → is_told e ≡ true → Say e.name e.caps judged line → AreLines Say es others lines
      → AreLines Say (e ∷ es) (judged && others) (line ++ lines)
  another : {e : Named} {es : List Named} {others : Bool} {lines : List ℕ} → is_told e ≡ false → AreLines Say es others lines → AreLines Say (e ∷ es) others lines

-- the answer has these for the entities of an auth list, by the rules of a release where one is named
abbrev pub AnswersWho : Telling → Wanted → Option Attr → Option Release → List Named → WhoAnswer → Type 0
AnswersWho telling w attr mds list answer = AreLines (SaysFor telling w attr mds) list answer.judges_all answer.lines.items
