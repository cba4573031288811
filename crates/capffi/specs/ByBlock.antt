-- What the grants of a block say to a question.
use Rattle.std.specs.Prelude.{◌≡◌, ◌==◌, ◌<◌, ◌≤◌, ◌⊎◌, ℕ, List, [], ◌∷◌, length, IsTrue, IsFalse, Option, Some, None, Result, Ok, MatchResult, if◌then◌else◌}
use Rattle.capspec.specs.Paths.{are_few_and_short, names_of}
use Rattle.capgrant.specs.declared.access.Access.{Access}
use Rattle.capgrant.specs.declared.answer.Verdict.{Verdict}
use Rattle.capgrant.specs.declared.answer.Verdict.TheVariants.{Allowed}
use Rattle.capgrant.specs.declared.rule.Rule.{Rule}
use Rattle.capgrant.specs.declared.rule.Rule.TheVariants.{FsName, NoP, NoS, NoWrite, Path, RootSquash}
use Rattle.capgrant.specs.Question.{question}
use Rattle.capgrant.specs.Question.{Question as Asked}
use Rattle.capgrant.specs.Rule.{rule_number}
use Rattle.capgrant.specs.Verdict.{verdict_of}
use Rattle.capffi.specs.declared.block.Block.{Block}
use Rattle.capffi.specs.declared.passed.Answer.{Answer}
use Rattle.capffi.specs.declared.passed.Question.{Question}
use Rattle.capffi.specs.Answering.{answer_of}
use Rattle.capffi.specs.declared.trouble.Trouble.{Trouble}
use Rattle.capffi.specs.declared.trouble.Trouble.TheVariants as troubles
use Rattle.capffi.specs.Asking.{access_of}
use Rattle.capffi.specs.Blocks.{IsBlock, block_fs, block_grants}

-- what is asked of each grant: who the caller is and whose the inode is, by numbers
abbrev pub case_of : List ℕ → List (List ℕ) → List ℕ → Question → Access → Asked
case_of fs path groups q access = question fs (record { uid = q.uid; gid = q.gid; groups = groups }) path (record { uid = q.owner; gid = q.group; mode = q.mode }) access

-- the verdict of the grants of the block, on the file system of the block
abbrev pub IsVerdictOf : Block → List ℕ → List (List ℕ) → List ℕ → Question → Verdict → Type 0
IsVerdictOf block text path groups q verdict =
    (access : Access) × (q.mode ≤ 4095) × (access_of q.access q.number ≡ Some access) × (verdict ≡ verdict_of (case_of (block_fs block text) path groups q access) (block_grants block text))

-- the mode is too great, or else the number of the access is none
abbrev pub IsNumberTrouble : Question → Trouble → Type 0
IsNumberTrouble q troubles.Mode = 4095 < q.mode
IsNumberTrouble q troubles.Access = (q.mode ≤ 4095) × (access_of q.access q.number ≡ None)
IsNumberTrouble q trouble = ⊥

-- what is said of the names of a path
abbrev pub IsBlockJudgedOf : Block → List ℕ → List (List ℕ) → List ℕ → Question → Result Verdict Trouble → Type 0
IsBlockJudgedOf block text path groups q found = MatchResult found (IsVerdictOf block text path groups q) (IsNumberTrouble q)

-- the first of the values that means nothing is told: the block, the groups, the path, or one of the numbers
abbrev pub IsBlockTrouble : Block → List ℕ → List (List ℕ) → List ℕ → Question → Trouble → Type 0
IsBlockTrouble block text path groups q troubles.Block = ¬ IsBlock block text
IsBlockTrouble block text path groups q troubles.Groups = IsBlock block text × (16 < length groups)
IsBlockTrouble block text path groups q troubles.Path = IsBlock block text × (length groups ≤ 16) × IsFalse (are_few_and_short path)
IsBlockTrouble block text path groups q troubles.Memory = Unit {0}
IsBlockTrouble block text path groups q trouble = IsBlock block text × (length groups ≤ 16) × IsTrue (are_few_and_short path) × IsNumberTrouble q trouble

-- what is said of the names of a path that may be too many or too long, or why there is no verdict
abbrev pub IsBlockJudgedOn : Block → List ℕ → List (List ℕ) → List ℕ → Question → Result Verdict Trouble → Type 0
IsBlockJudgedOn block text path groups q found =
    MatchResult found
    (λ verdict. IsBlock block text × (length groups ≤ 16) × IsTrue (are_few_and_short path) × IsVerdictOf block text path groups q verdict)
    (IsBlockTrouble block text path groups q)

-- the same of a path's text, of which nothing but its names counts
abbrev pub IsBlockJudged : Block → List ℕ → List ℕ → List ℕ → Question → Result Verdict Trouble → Type 0
IsBlockJudged block text path groups q found = IsBlockJudgedOn block text (names_of path) groups q found

-- the numbers are those of the verdict, whatever the groups of the caller
abbrev pub IsFast : Block → List ℕ → List ℕ → Question → Answer → Type 0
IsFast block text path q answered = (groups : List ℕ) → length groups ≤ 16 → (verdict : Verdict) × IsBlockJudged block text path groups q (Ok verdict) × (answered ≡ answer_of verdict)

-- the same of the names of a path that are neither too many nor too long
abbrev pub IsFastOf : Block → List ℕ → List (List ℕ) → Question → Answer → Type 0
IsFastOf block text path q answered = (groups : List ℕ) → (verdict : Verdict) × IsVerdictOf block text path groups q verdict × (answered ≡ answer_of verdict)

-- 17 says that the answer was written, a number from 1 to 16 that the grant of this number allows, and 0 nothing
abbrev pub Tells : (Answer → Type 0) → Answer → Answer → ℕ → Type 0
Tells Is before after reported =
    ((reported ≡ 0) × (after ≡ before)) ⊎ ((reported ≡ 17) × Is after) ⊎ ((1 ≤ reported) × (reported ≤ 16) × (after ≡ before) × Is (answer_of (Allowed reported)))

abbrev pub TellsFast : Block → List ℕ → List ℕ → Question → Answer → Answer → ℕ → Type 0
TellsFast block text path q before after reported = Tells (IsFast block text path q) before after reported

-- the answer of a grant that is alone, by the number of the rule that it fails by, or 0 where it allows
abbrev pub alone : ℕ → Answer
alone rule =
    if rule == 0 then answer_of (Allowed 1)
    else record { grant = 0; count = 1; rules = rule ∷ 0 ∷ 0 ∷ 0 ∷ 0 ∷ 0 ∷ 0 ∷ 0 ∷ 0 ∷ 0 ∷ 0 ∷ 0 ∷ 0 ∷ 0 ∷ 0 ∷ 0 ∷ [] }

-- the number of a rule, or 0 where there is none
abbrev pub number_of : Option Rule → ℕ
number_of None = 0
number_of (Some rule) = rule_number rule

-- the same question of a caller with other groups
abbrev pub with_groups : Asked → List ℕ → Asked
with_groups q groups = question q.fs (record { uid = q.caller.uid; gid = q.caller.gid; groups = groups }) q.path q.attr q.access

-- the rules that a grant for everybody can fail by, in their order
abbrev pub open_rules : List Rule
open_rules = FsName ∷ Path ∷ NoWrite ∷ RootSquash ∷ NoP ∷ NoS ∷ []
