-- Refusals: their names, and which of some tests answers.
use Rattle.std.specs.Prelude.{ℕ, Bool, List, [], ◌∷◌, ◌++◌, Option, Some, None, Result, Ok, Err, codes, if◌then◌else◌}
use Rattle.std.specs.Fmt.{decimal}
use Rattle.capbits.specs.declared.change_error.ChangeError.{ChangeError}
use Rattle.capbits.specs.declared.change_error.ChangeError.TheVariants as errors
use Rattle.capbits.specs.declared.refusal.Refusal.{Refusal}
use Rattle.capbits.specs.declared.refusal.Refusal.TheVariants as refusals

-- the name of a refusal; behind OldSeq the least number that would be taken, in decimal, without leading zeros
abbrev pub refusal_word : Refusal → List ℕ
refusal_word refusals.Blocklisted = codes "Blocklisted"
refusal_word refusals.SessionOpen = codes "SessionOpen"
refusal_word refusals.NoSession = codes "NoSession"
refusal_word refusals.SessionStale = codes "SessionStale"
refusal_word refusals.NotStale = codes "NotStale"
refusal_word refusals.NotBlocked = codes "NotBlocked"
refusal_word refusals.NoIno = codes "NoIno"
refusal_word refusals.Gone = codes "Gone"
refusal_word refusals.Root = codes "Root"
refusal_word refusals.NotDir = codes "NotDir"
refusal_word refusals.IsDir = codes "IsDir"
refusal_word refusals.NoEnt = codes "NoEnt"
refusal_word refusals.NameBad = codes "NameBad"
refusal_word refusals.Exists = codes "Exists"
refusal_word refusals.NotEmpty = codes "NotEmpty"
refusal_word refusals.Loop = codes "Loop"
refusal_word refusals.TooDeep = codes "TooDeep"
refusal_word refusals.NoXattr = codes "NoXattr"
refusal_word refusals.NoEntry = codes "NoEntry"
refusal_word refusals.NotHeld = codes "NotHeld"
refusal_word refusals.NothingToAck = codes "NothingToAck"
refusal_word refusals.BadSeq = codes "BadSeq"
refusal_word (refusals.OldSeq need) = codes "OldSeq " ++ decimal need
refusal_word refusals.Limit = codes "Limit"

-- a test, and what is answered where it fails
pub record Test : Type 0 where
  pub fails : Bool
  pub refusal : Refusal

abbrev pub refused_if : Bool → Refusal → Test
refused_if fails refusal = record { fails = fails; refusal = refusal }

-- what the first test that fails answers
abbrev pub first_failing : List Test → Option Refusal
first_failing [] = None
first_failing (t ∷ ts) = if t.fails then Some t.refusal else first_failing ts

-- why a call was refused; want of memory is no refusal
abbrev pub refusal_in : {T : Type 0} → Result T ChangeError → Option Refusal
refusal_in (Ok value) = None
refusal_in (Err (errors.Refused why)) = Some why
refusal_in (Err errors.NoMemory) = None
