-- With how many first bytes of a text that of some set of caps begins.
use Rattle.std.specs.Prelude.{◌≡◌, ℕ, ◌<◌, ◌≤◌, List, ◌++◌, length, take}
use Rattle.capbits.specs.Caps.{Caps}
use Rattle.capbits.specs.Text.{text_of}

-- the text of some set begins with these bytes
abbrev pub BeginsText : List ℕ → Type 0
BeginsText front = (s : Caps) × ((rest : List ℕ) × (text_of s ≡ front ++ rest))

-- so many first bytes begin the text of some set, and no more of them do
pub record IsLongestBeginning (bytes : List ℕ) (at : ℕ) : Type 0 where
  pub within : at ≤ length bytes
  pub begins : BeginsText (take at bytes)
  pub longest : (n : ℕ) → at < n → n ≤ length bytes → ¬ BeginsText (take n bytes)
