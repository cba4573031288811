-- What each call tells C, from the numbers and texts that C passed.
use Rattle.std.specs.Prelude.{◌≡◌, ℕ, List, Result, Ok, Err}
use Rattle.capbits.specs.Caps.{Caps, bits_of}
use Rattle.capspec.specs.Grants.{Reads}
use Rattle.capspec.specs.declared.grant.Grant.{Grant}
use Rattle.capgrant.specs.declared.answer.Verdict.{Verdict}
use Rattle.locktable.specs.declared.states.StableState.{StableState as TableState}
use Rattle.capffi.specs.declared.passed.Answer.{Answer}
use Rattle.capffi.specs.declared.passed.Fault.{Fault}
use Rattle.capffi.specs.declared.passed.Question.{Question}
use Rattle.capffi.specs.declared.passed.StableState.{StableState}
use Rattle.capffi.specs.declared.passed.Wants.{Wants}
use Rattle.capffi.specs.declared.trouble.Trouble.{Trouble}
use Rattle.capffi.specs.declared.block.Block.{Block}
use Rattle.capffi.specs.Answering.{answer_of, no_answer}
use Rattle.capffi.specs.Asking.{IsJudged, IsPermitted, IsTextTrouble}
use Rattle.capffi.specs.ByBlock.{IsBlockJudged}
use Rattle.capffi.specs.Filling.{IsFilled}
use Rattle.capffi.specs.Locks.{IsTargetOf, numbers_of}
use Rattle.capffi.specs.Texts.{IsFormOf, IsPut}
use Rattle.capffi.specs.Trouble.{fault_of, no_fault, status_of}

-- the status of what is said
abbrev pub status : {A : Type 0} → Result A Trouble → ℕ
status (Ok found) = 0
status (Err trouble) = status_of trouble

-- the fault of what is said
abbrev pub fault : {A : Type 0} → Result A Trouble → Fault
fault (Ok found) = no_fault
fault (Err trouble) = fault_of trouble

-- a verdict as numbers, or zeros
abbrev pub answer : Result Verdict Trouble → Answer
answer (Ok verdict) = answer_of verdict
answer (Err trouble) = no_answer

-- caps as bits, or 0
abbrev pub caps_bits : Result Caps Trouble → ℕ
caps_bits (Ok caps) = bits_of caps
caps_bits (Err trouble) = 0

-- a state as numbers, or zeros
abbrev pub state_numbers : Result TableState Trouble → StableState
state_numbers (Ok state) = numbers_of state
state_numbers (Err trouble) = record { kind = 0; holder = 0 }

-- the status, the answer and the fault are those of the verdict on the question
abbrev pub TellsVerdict : List ℕ → List ℕ → List ℕ → List ℕ → Question → ℕ → Answer → Fault → Type 0
TellsVerdict grants fs path groups q reported answered why =
    (found : Result Verdict Trouble) × IsJudged grants fs path groups q found × (reported ≡ status found) × (answered ≡ answer found) × (why ≡ fault found)

-- the status, the bits and the fault are those of the caps that are permitted
abbrev pub TellsPermitted : List ℕ → List ℕ → List ℕ → List ℕ → Question → ℕ → ℕ → Fault → Type 0
TellsPermitted grants fs path groups q reported bits why =
    (found : Result Caps Trouble) × IsPermitted grants fs path groups q found × (reported ≡ status found) × (bits ≡ caps_bits found) × (why ≡ fault found)

-- the text means grants, or its fault is told
abbrev pub IsChecked : List ℕ → Result (List Grant) Trouble → Type 0
IsChecked text (Ok grants) = Reads text grants
IsChecked text (Err trouble) = IsTextTrouble text trouble

-- the status and the fault are those of the text
abbrev pub TellsCheck : List ℕ → ℕ → Fault → Type 0
TellsCheck text reported why = (found : Result (List Grant) Trouble) × IsChecked text found × (reported ≡ status found) × (why ≡ fault found)

-- the form of what the text means was put into the room, or there is none, the room is as it was and the fault is told
abbrev pub IsWritten : List ℕ → List ℕ → List ℕ → ℕ → ℕ → Result (List ℕ) Trouble → Type 0
IsWritten text before after len reported (Ok form) = IsFormOf text form × IsPut form before after len reported
IsWritten text before after len reported (Err trouble) = IsTextTrouble text trouble × (reported ≡ status_of trouble) × (len ≡ 0) × (after ≡ before)

-- the status, the room, the length and the fault are those of the form of what the text means
abbrev pub TellsForm : List ℕ → List ℕ → List ℕ → ℕ → ℕ → Fault → Type 0
TellsForm text before after len reported why = (found : Result (List ℕ) Trouble) × IsWritten text before after len reported found × (why ≡ fault found)

-- the status and the numbers are those of the target
abbrev pub TellsTarget : ℕ → StableState → Wants → ℕ → StableState → Type 0
TellsTarget part state w reported target = (found : Result TableState Trouble) × IsTargetOf part state w found × (reported ≡ status found) × (target ≡ state_numbers found)

-- the status and the answer are those of the verdict of the grants that the block says
abbrev pub TellsVerdictBy : Block → List ℕ → List ℕ → List ℕ → Question → ℕ → Answer → Type 0
TellsVerdictBy block text path groups q reported answered = (found : Result Verdict Trouble) × IsBlockJudged block text path groups q found × (reported ≡ status found) × (answered ≡ answer found)

-- the block, its text, the length, the status and the fault are those of the grants that the text means
abbrev pub TellsRead : List ℕ → List ℕ → Block → Block → List ℕ → List ℕ → ℕ → ℕ → Fault → Type 0
TellsRead grants fs old new before after len reported why = (found : Result (List Grant) Trouble) × IsFilled grants fs old new before after len reported found × (why ≡ fault found)
