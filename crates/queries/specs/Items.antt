-- The things that are told of a log: its text tells which.
use Rattle.std.specs.Prelude.{◌≡◌, ℕ, ◌<◌, ◌^◌, Bool, false, None, List, ◌++◌, length, All}
use Rattle.std.specs.List.{AllZip, flat_map}
use Rattle.hex.specs.Hex.{IsBytes}
use Rattle.texts.specs.declared.mds_asked.MdsAccess.{MdsAccess}
use Rattle.texts.specs.declared.mds_asked.MdsAccess.TheVariants.{Mask as AllOf}
use Rattle.texts.specs.declared.shape.Shape.{Shape}
use Rattle.texts.specs.declared.shape.Shape.TheVariants.{Lines, Objects}
use Rattle.texts.specs.Explaining.{path_text}
use Rattle.texts.specs.Lines.{HasNumber}
use Rattle.texts.specs.MdsTold.{HasMdsGrant, HasSmallNumbers}
use Rattle.texts.specs.Remarked.{AreLeftAlike, HasNumbers}
use Rattle.texts.specs.Values.{HasWholeNumbers}
use Rattle.policy_analysis.specs.Left.{left_to_client}
use Rattle.queries.specs.declared.question.Question.{Question}
use Rattle.queries.specs.Question.{verdict_on}
use Rattle.queries.specs.Remarks.{asked_of, others_on}
use Rattle.queries.specs.AnyPath.{HasSmall}
use Rattle.queries.specs.Told.{Told, object_value, passed_in, text_in}
use Rattle.queries.specs.Told.Told.{answered, bad, formless, judged_by, not_read, pathless, refused, unknown}
use Rattle.queries.specs.Reported.{IsReportOf, Item, Scope}

-- a whole log: these things, and how many lines were passed over
abbrev pub item_in : Shape → Item → List ℕ
item_in shape item = text_in shape item.0 item.1

abbrev pub reported_in : Shape → List Item → ℕ → List ℕ
reported_in shape items passed = flat_map (item_in shape) items ++ passed_in shape passed

-- ---- one thing for its text

-- all that a mask of small numbers asks for
abbrev pub IsOfMask : MdsAccess → Type 0
IsOfMask (AllOf bits uid gid) = HasSmallNumbers (AllOf bits uid gid)
IsOfMask access = ⊥

-- its numbers fit; its client refuses nothing
abbrev pub IsTellable : Told → Type 0
IsTellable (answered q grants) = HasNumbers (asked_of q) q.grants × (length grants < 2 ^ 63)
IsTellable (judged_by a answer) = IsOfMask a.access × HasMdsGrant answer.verdict × (answer.refused ≡ None)
IsTellable (pathless caller access any) = HasSmallNumbers access × HasSmall any
IsTellable (refused fault) = fault.at < 2 ^ 64
IsTellable (not_read found) = found.at < 2 ^ 64
IsTellable told = Unit {0}

abbrev pub HasLines : Item → Type 0
HasLines item = (item.0 < 2 ^ 64) × IsTellable item.1

-- the numbers of what is asked fit
abbrev pub AsksFitting : Told → Type 0
AsksFitting (answered q grants) = HasNumber q.access × (q.attr.mode < 2 ^ 12)
AsksFitting (judged_by a answer) = HasSmallNumbers a.access × HasNumber a.asking.access × (a.asking.attr.mode < 2 ^ 12)
AsksFitting (pathless caller access any) = HasSmallNumbers access
AsksFitting told = Unit {0}

-- and so do all in its object
abbrev pub HasObject : Item → Type 0
HasObject item = AsksFitting item.1 × HasWholeNumbers (object_value item.0 item.1)

-- its names are bytes
abbrev pub NamesAreBytes : Told → Type 0
NamesAreBytes (answered q grants) = IsBytes (path_text q.path) × IsBytes q.fs
NamesAreBytes (judged_by a answer) = IsBytes (path_text a.asking.path) × IsBytes a.asking.fs
NamesAreBytes (unknown mask) = IsBytes mask
NamesAreBytes told = Unit {0}

abbrev pub HasBytes : Item → Type 0
HasBytes item = NamesAreBytes item.1

-- the same access is asked for at the same path, and the same is said to that and beside it, by the texts of the grants
abbrev pub AnswerAlike : Question → List ℕ → Question → List ℕ → Type 0
AnswerAlike q grants r others =
    (q.access ≡ r.access) × (path_text q.path ≡ path_text r.path) × (verdict_on q ≡ verdict_on r)
    × AreLeftAlike q.attr (left_to_client (asked_of q) q.grants) r.attr (left_to_client (asked_of r) r.grants)
    × (others_on grants q ≡ others_on others r)

abbrev pub SameTold : Told → Told → Type 0
SameTold (answered q grants) (answered r others) = AnswerAlike q grants r others
SameTold (judged_by a x) (judged_by b y) = (a.access ≡ b.access) × (path_text a.asking.path ≡ path_text b.asking.path) × (x.verdict ≡ y.verdict)
SameTold (pathless caller a x) (pathless other b y) = (a ≡ b) × (x ≡ y)
SameTold formless formless = Unit {0}
SameTold (unknown mask) (unknown other) = mask ≡ other
SameTold (refused fault) (refused other) = fault ≡ other
SameTold (bad option) (bad other) = option ≡ other
SameTold (not_read found) (not_read other) = found ≡ other
SameTold told other = ⊥

-- and of the same line
abbrev pub SameOfLine : Item → Item → Type 0
SameOfLine x y = (x.0 ≡ y.0) × SameTold x.1 y.1

-- lines that are the same tell the same, one thing after the other, and as many lines that were passed over
abbrev pub OneLog : Type 0
OneLog = (xs ys : List Item) (m n : ℕ) → All HasLines xs → All HasLines ys → m < 2 ^ 64 → n < 2 ^ 64
    → reported_in Lines xs m ≡ reported_in Lines ys n → AllZip SameOfLine xs ys × (m ≡ n)

-- and so do objects, where names are bytes
abbrev pub OneLogOfObjects : Type 0
OneLogOfObjects = (xs ys : List Item) (m n : ℕ) → All HasObject xs → All HasObject ys → All HasBytes xs → All HasBytes ys → m < 2 ^ 64 → n < 2 ^ 64
    → reported_in Objects xs m ≡ reported_in Objects ys n → AllZip SameOfLine xs ys × (m ≡ n)

-- what is told of a log that is not too long, and not counted, is such things
abbrev pub EachHasItsText : Type 0
EachHasItsText = (scope : Scope) (log reported : List ℕ) (judged : Bool) → scope.counts ≡ false → length log < 2 ^ 62 → IsReportOf scope log reported judged
    → (xs : List Item) × (passed : ℕ) × All HasLines xs × All HasObject xs × (passed < 2 ^ 64) × (reported ≡ reported_in scope.shape xs passed)
