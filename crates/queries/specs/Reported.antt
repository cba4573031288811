-- What is told of a log, line by line.
use Rattle.std.specs.Prelude.{◌≡◌, ◌⊎◌, ℕ, ◌+◌, ◌==◌, Bool, true, false, ◌&&◌, ◌||◌, Option, Some, None, is_some, map, option_map, List, [], ◌∷◌, ◌++◌, length}
use Rattle.std.specs.Prelude.{codes, if◌then◌else◌}
use Rattle.std.specs.List.{flat_map, list_all}
use Rattle.capgrant.specs.declared.access.Access.{Access}
use Rattle.release_grants.specs.declared.grant.Grant.{Grant}
use Rattle.release_rules.specs.declared.release.Release.{Release}
use Rattle.queries.specs.declared.fault.QuestionFault.{QuestionFault}
use Rattle.queries.specs.declared.fault.QuestionFault.TheVariants.{BadValue, Grants, NoMemory}
use Rattle.queries.specs.declared.mds.MdsAsking.{MdsAsking}
use Rattle.queries.specs.declared.mds.MdsFault.TheVariants.{NotRead as NotReadThere}
use Rattle.queries.specs.declared.mds.NotRead.{NotRead}
use Rattle.queries.specs.declared.question.Asking.{Asking}
use Rattle.queries.specs.declared.question.Question.{Question}
use Rattle.queries.specs.declared.question.Values.{Values}
use Rattle.queries.specs.Mds.{IsMdsFault, MdsReads, answer_by}
use Rattle.queries.specs.Question.{AsksBy, AsksFor, IsFaultIn, IsFaultOfAsking}
use Rattle.texts.specs.declared.mds_asked.MdsAccess.TheVariants.{Mask as AllOf, One}
use Rattle.texts.specs.ScriptLines.{lines}
use Rattle.texts.specs.declared.shape.Shape.{Shape}
use Rattle.queries.specs.Counts.{counted_in, counts, ended}
use Rattle.queries.specs.Kinds.{kind_in}
use Rattle.queries.specs.Told.{Told, allows, is_judgement, passed_in, text_in}
use Rattle.queries.specs.Told.Told.{answered, bad, formless, judged_by, not_read, pathless, refused, unknown}
use Rattle.queries.specs.declared.log_scope.LogScope.{LogScope}
use Rattle.queries.specs.declared.log_text.LogState.{LogState}
use Rattle.queries.specs.declared.mask.Mask.{Mask}
use Rattle.queries.specs.Checks.{CheckTexts, HeadTexts, check_in, check_of, head_in}
use Rattle.queries.specs.Before.{BeforeTexts, GivenTexts, before_in, given_of, known_of, said_before}
use Rattle.queries.specs.AnyPath.{any_path_by, any_path_of}
use Rattle.queries.specs.Masks.{AreNumbersOf, IsMaskOf, accesses_of}

-- what is to be told of a log: on the file system of this name, where a check has none; of all, or of what is denied alone; by the rules of
-- this release, or by this server's; by lines or by objects; each thing by itself, or counted
pub record Scope : Type 0 where
  pub fs : List ℕ
  pub only_denied : Bool
  pub release : Option Release
  pub shape : Shape
  pub counts : Bool

abbrev pub scope : List ℕ → Bool → Option Release → Shape → Bool → Scope
scope fs only_denied release shape counts = record { fs = fs; only_denied = only_denied; release = release; shape = shape; counts = counts }

-- the same of what the code has
abbrev pub scope_of : LogScope → Scope
scope_of s = scope s.fs.now s.only_denied s.release s.shape s.counts

-- the values of a question by the parts of a check, and by what is given beside it: to read, at this path
pub record AreValues (given : GivenTexts) (at : List ℕ) (check : CheckTexts) (v : Values) : Type 0 where
  pub grants : v.grants.items ≡ check.grants
  pub fs : v.fs.items ≡ given.fs
  pub uid : v.uid.items ≡ check.uid
  pub gid : v.gid.items ≡ check.gid
  pub groups : option_map (λ groups. groups.items) v.groups ≡ given.groups
  pub path : v.path.items ≡ at
  pub owner : v.owner.items ≡ check.inode.owner
  pub group : v.group.items ≡ check.inode.group
  pub mode : v.mode.items ≡ check.inode.mode
  pub access : v.access.items ≡ codes "read"
  pub addr : v.addr ≡ None

-- the same question of another access
abbrev pub with_access : Question → Access → Question
with_access q access = record q { access = access }

-- ---- by this server's rules

-- what is answered to the question of this access, whose grants were read in this text, where its path is known, or is not
abbrev pub answer_to : Bool → List ℕ → Question → Access → Told
answer_to has_path grants q access =
    let asked = with_access q access in
    if has_path then answered asked grants else pathless asked.caller (One access) (any_path_of asked)

-- what is wrong with the values; want of memory is told of none
abbrev pub TellsFault : QuestionFault → Told → Type 0
TellsFault (Grants fault) told = told ≡ refused fault
TellsFault (BadValue option) told = told ≡ bad option
TellsFault NoMemory told = ⊥

-- the answers for all that the mask asks for
pub record IsAnswered (has_path : Bool) (check : CheckTexts) (v : Values) (told : List Told) : Type 0 where
  pub mask : Mask
  pub question : Question
  pub is_mask : IsMaskOf check mask
  pub asks : AsksFor v question
  pub told_is : told ≡ map (answer_to has_path check.grants question) (accesses_of mask)

-- or the first fault of its values
pub record IsFaulty (v : Values) (told : List Told) : Type 0 where
  pub fault : QuestionFault
  pub first : IsFaultIn v fault
  pub one : Told
  pub tells : TellsFault fault one
  pub told_is : told ≡ one ∷ []

-- the root, where no path is known
abbrev pub path_or_root : Option (List ℕ) → List ℕ
path_or_root None = codes "/"
path_or_root (Some path) = path

-- what is told of a check, with what is given beside it
abbrev pub Says : GivenTexts → CheckTexts → List Told → Type 0
Says given check told =
    (((mask : Mask) → ¬ IsMaskOf check mask) × (told ≡ unknown check.mask ∷ []))
    ⊎ ((v : Values) × AreValues given (path_or_root given.path) check v × (IsAnswered (is_some given.path) check v told ⊎ IsFaulty v told))

-- ---- by the rules of a release

-- all that the mask asks for, at once
abbrev pub asking_all : Mask → Asking → MdsAsking
asking_all mask asking = record { access = AllOf mask.bits mask.uid mask.gid; asking = asking }

-- what its MDS says to that by these grants, where the path is known, or is not
abbrev pub answer_there : Bool → Release → List Grant → MdsAsking → Told
answer_there has_path release grants a = if has_path then judged_by a (answer_by release a grants) else pathless a.asking.caller a.access (any_path_by release a grants)

-- it does not read the grants
pub record IsUnreadBy (release : Release) (check : CheckTexts) (told : List Told) : Type 0 where
  pub found : NotRead
  pub is_fault : IsMdsFault release check.grants (NotReadThere found)
  pub told_is : told ≡ not_read found ∷ []

-- the answer of its MDS to all that the numbers of the mask ask for at once
pub record IsAnsweredBy (has_path : Bool) (release : Release) (check : CheckTexts) (v : Values) (told : List Told) : Type 0 where
  pub mask : Mask
  pub grants : List Grant
  pub asking : Asking
  pub numbers : AreNumbersOf check mask
  pub reads : MdsReads release check.grants grants
  pub asks : AsksBy v (codes "read") asking
  pub told_is : told ≡ answer_there has_path release grants (asking_all mask asking) ∷ []

-- or the first fault of its values
pub record IsFaultyBy (v : Values) (told : List Told) : Type 0 where
  pub fault : QuestionFault
  pub first : IsFaultOfAsking v (codes "read") fault
  pub one : Told
  pub tells : TellsFault fault one
  pub told_is : told ≡ one ∷ []

-- what is told of a check by the rules of this release alone
abbrev pub SaysThere : Release → GivenTexts → CheckTexts → List Told → Type 0
SaysThere release given check told =
    (((mask : Mask) → ¬ AreNumbersOf check mask) × (told ≡ unknown check.mask ∷ []))
    ⊎ (IsUnreadBy release check told
    ⊎ ((v : Values) × AreValues given (path_or_root given.path) check v × (IsAnsweredBy (is_some given.path) release check v told ⊎ IsFaultyBy v told)))

-- ---- by either

abbrev pub SaysBy : Option Release → GivenTexts → CheckTexts → List Told → Type 0
SaysBy None given check told = Says given check told
SaysBy (Some release) given check told = SaysThere release given check told

-- the same of a text that should be one, with a file system where it names none, and what the line before it says
abbrev pub SaysIf : Scope → Option (List ℕ) → Option BeforeTexts → Option CheckTexts → List Told → Type 0
SaysIf scope name before None told = told ≡ formless ∷ []
SaysIf scope name before (Some check) told = SaysBy scope.release (given_of scope.fs name (known_of check before) check) check told

-- by the head of a check
abbrev pub SaysBehind : Scope → Option BeforeTexts → Option HeadTexts → List Told → Type 0
SaysBehind scope before None told = told ≡ formless ∷ []
SaysBehind scope before (Some (name, parts)) told = SaysIf scope name before (check_of parts) told

-- ---- the text of it

-- what is told of a line, behind its number
abbrev pub Item : Type 0
Item = ℕ × Told

abbrev pub of_line : ℕ → List Told → List Item
of_line number told = map (λ one. (number, one)) told

-- with the number of its line, or only of which kind it is, so that it can be counted
abbrev pub item_text : Scope → Item → List ℕ
item_text scope item = if scope.counts then kind_in scope.shape item.1 else text_in scope.shape item.0 item.1

-- what is allowed is left out where what is denied is told alone, or counted
abbrev pub leaves_out : Scope → Bool
leaves_out scope = scope.only_denied || scope.counts

abbrev pub text_told : Scope → Item → List ℕ
text_told scope item = if leaves_out scope && allows item.1 then [] else item_text scope item

abbrev pub text_of : Scope → List Item → List ℕ
text_of scope items = flat_map (text_told scope) items

-- ---- line by line

-- where the telling of a log is: the number of the next line, how many were passed over, whether each check was judged, and the last line that
-- says something of the next check
pub record State : Type 0 where
  pub number : ℕ
  pub passed : ℕ
  pub judged : Bool
  pub before : List ℕ

-- the same of what the code has
abbrev pub state_of : LogState → State
state_of s = record { number = s.number; passed = s.passed; judged = s.is_judged; before = s.before.items }

abbrev pub start : State
start = record { number = 1; passed = 0; judged = true; before = [] }

-- behind a line that is no check
abbrev pub behind_other : State → List ℕ → State
behind_other s line = record s { number = s.number + 1; passed = s.passed + (if length line == 0 then 0 else 1) }

-- the line says something of the next check
abbrev pub keeping : State → List ℕ → State
keeping s line = record s { before = line }

-- behind a check, which was judged, or was not
abbrev pub behind_check : State → Bool → State
behind_check s judged = record s { number = s.number + 1; judged = s.judged && judged; before = [] }

-- What is told of a line, and where the telling is then: nothing of one that says something of the next check, nor of another that is no check;
-- of a check what is said, by what the line before it says.
pub data IsReported (scope : Scope) (s : State) (line : List ℕ) : List Item → State → Type 0 where
  kept : is_some (before_in line) ≡ true → IsReported scope s line [] (keeping (behind_other s line) line)
  passed_over : is_some (before_in line) ≡ false → check_in line ≡ None → IsReported scope s line [] (behind_other s line)
  checked : (parts : List ℕ × List ℕ) (told : List Told) → is_some (before_in line) ≡ false → check_in line ≡ Some parts
      → SaysBehind scope (said_before s.before) (head_in parts) told → IsReported scope s line (of_line s.number told) (behind_check s (list_all is_judgement told))

-- of these lines, one after the other
pub data AreReported (scope : Scope) : State → List (List ℕ) → List Item → State → Type 0 where
  no_more : {s : State} → AreReported scope s [] [] s
  one_more : {s next end : State} {line : List ℕ} {lines : List (List ℕ)} (first more : List Item) → IsReported scope s line first next → AreReported scope next lines more end → AreReported scope s (line ∷ lines) (first ++ more) end

-- each line of its text, which is a kind of things, once, with how often it stands there
abbrev pub counts_in : Scope → List Item → List ℕ
counts_in scope items = flat_map (counted_in scope.shape) (counts (ended (text_of scope items)))

-- the text of that, or its counts; with how many lines were passed over
abbrev pub log_text : Scope → List Item → ℕ → List ℕ
log_text scope items passed = (if scope.counts then counts_in scope items else text_of scope items) ++ passed_in scope.shape passed

-- these things are told of the lines of a log, and so many lines are passed over; and whether each check of it is judged
abbrev pub AreTold : Scope → List ℕ → List Item → ℕ → Bool → Type 0
AreTold scope log items passed judged = (end : State) × AreReported scope start (lines log) items end × (passed ≡ end.passed) × (judged ≡ end.judged)

-- the text that tells of a log, and whether each check of it is judged
abbrev pub IsReportOf : Scope → List ℕ → List ℕ → Bool → Type 0
IsReportOf scope log reported judged = (items : List Item) × (passed : ℕ) × AreTold scope log items passed judged × (reported ≡ log_text scope items passed)
