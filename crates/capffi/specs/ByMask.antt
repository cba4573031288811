-- What the grants of a block say to the mask of a server.
use Rattle.std.specs.Prelude.{◌≡◌, ◌%◌, ◌⊎◌, not, false, ℕ, Bool, List, [], ◌∷◌, IsTrue, IsFalse, Option, Some, None, Result, Ok, Err, MatchResult, fold, if◌then◌else◌}
use Rattle.capspec.specs.Paths.{names_of, are_few_and_short}
use Rattle.capgrant.specs.declared.access.Access.{Access}
use Rattle.capgrant.specs.declared.access.Access.TheVariants.{Chgrp, Chmod, Chown, Read, SetVxattr, Snapshot, Write}
use Rattle.capgrant.specs.declared.answer.Verdict.{Verdict}
use Rattle.capgrant.specs.Masks.{accesses_in, is_known}
use Rattle.capgrant.specs.Question.{question}
use Rattle.capgrant.specs.Verdict.{is_allowed, verdict_of}
use Rattle.capffi.specs.declared.block.Block.{Block}
use Rattle.capffi.specs.declared.by_mask.MaskVerdict.{MaskVerdict}
use Rattle.capffi.specs.declared.passed.Answer.{Answer}
use Rattle.capffi.specs.declared.passed.Check.{Check}
use Rattle.capffi.specs.declared.trouble.Trouble.{Trouble}
use Rattle.capffi.specs.declared.trouble.Trouble.TheVariants as troubles
use Rattle.capffi.specs.Answering.{answer_of, no_answer}
use Rattle.capffi.specs.ByBlock.{Tells}
use Rattle.capffi.specs.Blocks.{IsBlock, block_fs, block_grants}
use Rattle.capffi.specs.Trouble.{status_of}

-- what the check's mask asks for
abbrev pub accesses_of : Check → List Access
accesses_of c = accesses_in c.mask c.new_uid c.new_gid

-- the verdict on an access to an inode whose mode ends in these twelve bits, on the file system of the block
abbrev pub verdict_on : Block → List ℕ → List (List ℕ) → List ℕ → Check → Access → Verdict
verdict_on block text path groups c access =
    verdict_of (question (block_fs block text) (record { uid = c.uid; gid = c.gid; groups = groups }) path (record { uid = c.owner; gid = c.group; mode = c.mode % 4096 }) access) (block_grants block text)

-- an access was told as denied
abbrev pub is_denied : Option MaskVerdict → Bool
is_denied None = false
is_denied (Some reported) = not (is_allowed reported.verdict)

-- the next access is judged, unless one before it was denied
abbrev pub mask_verdict_next : (Access → Verdict) → Option MaskVerdict → Access → Option MaskVerdict
mask_verdict_next judge reported access = if is_denied reported then reported else Some (record { access = access; verdict = judge access })

-- the first of the accesses that is denied, or else the last, with its verdict
abbrev pub mask_verdict_of : (Access → Verdict) → List Access → Option MaskVerdict
mask_verdict_of judge accesses = fold (mask_verdict_next judge) None accesses

-- what is said of the names of a path
abbrev pub IsMaskJudgedOf : Block → List ℕ → List (List ℕ) → List ℕ → Check → Result MaskVerdict Trouble → Type 0
IsMaskJudgedOf block text path groups c found =
    MatchResult found
    (λ reported. IsTrue (is_known c.mask) × (Some reported ≡ mask_verdict_of (verdict_on block text path groups c) (accesses_of c)))
    (λ trouble. (trouble ≡ troubles.Access) × (IsFalse (is_known c.mask) ⊎ (accesses_of c ≡ [])))

-- the first of the values that means nothing is told: the block, the path, or a mask that has another bit or asks for nothing
abbrev pub IsMaskTrouble : Block → List ℕ → List (List ℕ) → Check → Trouble → Type 0
IsMaskTrouble block text path c troubles.Block = ¬ IsBlock block text
IsMaskTrouble block text path c troubles.Path = IsBlock block text × IsFalse (are_few_and_short path)
IsMaskTrouble block text path c troubles.Access = IsBlock block text × IsTrue (are_few_and_short path) × (IsFalse (is_known c.mask) ⊎ (accesses_of c ≡ []))
IsMaskTrouble block text path c troubles.Memory = Unit {0}
IsMaskTrouble block text path c trouble = ⊥

-- what is said of the names of a path that may be too many or too long, or why there is no verdict
abbrev pub IsMaskJudgedOn : Block → List ℕ → List (List ℕ) → List ℕ → Check → Result MaskVerdict Trouble → Type 0
IsMaskJudgedOn block text path groups c found =
    MatchResult found
    (λ reported. IsBlock block text × IsTrue (are_few_and_short path) × IsTrue (is_known c.mask) × (Some reported ≡ mask_verdict_of (verdict_on block text path groups c) (accesses_of c)))
    (IsMaskTrouble block text path c)

-- the same of a path's text, of which nothing but its names counts
abbrev pub IsMaskJudged : Block → List ℕ → List ℕ → List ℕ → Check → Result MaskVerdict Trouble → Type 0
IsMaskJudged block text path groups c found = IsMaskJudgedOn block text (names_of path) groups c found

-- the numbers are those of what is told of the one access of the mask, whatever the groups of the caller
abbrev pub IsFastToMask : Block → List ℕ → List ℕ → Check → Answer → Type 0
IsFastToMask block text path c answered =
    (groups : List ℕ) → (reported : MaskVerdict) × (accesses_of c ≡ reported.access ∷ []) × IsMaskJudged block text path groups c (Ok reported) × (answered ≡ answer_of reported.verdict)

-- the numbers are those of the verdict on an access, whatever the groups of the caller
abbrev pub IsFastOn : Block → List ℕ → List (List ℕ) → Check → Access → Answer → Type 0
IsFastOn block text path c access answered = (groups : List ℕ) → answered ≡ answer_of (verdict_on block text path groups c access)

abbrev pub TellsFastToMask : Block → List ℕ → List ℕ → Check → Answer → Answer → ℕ → Type 0
TellsFastToMask block text path c before after reported = Tells (IsFastToMask block text path c) before after reported

-- the number of an access
abbrev pub access_number : Access → ℕ
access_number Read = 0
access_number Write = 1
access_number SetVxattr = 2
access_number Snapshot = 3
access_number Chmod = 4
access_number (Chown uid) = 5
access_number (Chgrp gid) = 6

-- the numbers of what is said
abbrev pub mask_status : Result MaskVerdict Trouble → ℕ
mask_status (Ok reported) = 0
mask_status (Err trouble) = status_of trouble

abbrev pub mask_answer : Result MaskVerdict Trouble → Answer
mask_answer (Ok reported) = answer_of reported.verdict
mask_answer (Err trouble) = no_answer

abbrev pub mask_access : Result MaskVerdict Trouble → ℕ
mask_access (Ok reported) = access_number reported.access
mask_access (Err trouble) = 0

-- the status, the answer and the number of its access are those of what the grants of the block say to the mask
abbrev pub TellsMask : Block → List ℕ → List ℕ → List ℕ → Check → ℕ → Answer → ℕ → Type 0
TellsMask block text path groups c reported answered access =
    (found : Result MaskVerdict Trouble) × IsMaskJudged block text path groups c found × (reported ≡ mask_status found) × (answered ≡ mask_answer found) × (access ≡ mask_access found)
