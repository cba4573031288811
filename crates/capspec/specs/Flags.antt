-- Which flags a grant has, the words that name them, and the words that this profile leaves out.
use Rattle.std.specs.Prelude.{◌≡◌, ◌⊎◌, ℕ, Bool, true, false, ◌==◌, ◌||◌, ◌&&◌, nat_le, List, codes, count_by}
use Rattle.std.specs.List.{list_all}
use Rattle.capspec.specs.declared.flags.Flags4.{Flags4}
use Rattle.capspec.specs.declared.flags.Flags4.TheVariants.{R, Rw, Rwp, Rwps, Rws}

-- whether w, p or s is among the flags
abbrev pub has_w : Flags4 → Bool
has_w R = false
has_w Rw = true
has_w Rwp = true
has_w Rws = true
has_w Rwps = true

abbrev pub has_p : Flags4 → Bool
has_p R = false
has_p Rw = false
has_p Rwp = true
has_p Rws = false
has_p Rwps = true

abbrev pub has_s : Flags4 → Bool
has_s R = false
has_s Rw = false
has_s Rwp = false
has_s Rws = true
has_s Rwps = true

-- the flag words: each of the five in its one order, and `*` and `all` for all four
abbrev pub IsFlags : List ℕ → Flags4 → Type 0
IsFlags word R = word ≡ codes "r"
IsFlags word Rw = word ≡ codes "rw"
IsFlags word Rwp = word ≡ codes "rwp"
IsFlags word Rws = word ≡ codes "rws"
IsFlags word Rwps = (word ≡ codes "rwps") ⊎ (word ≡ codes "*") ⊎ (word ≡ codes "all")

-- the letters of the flags
abbrev pub flags_text : Flags4 → List ℕ
flags_text R = codes "r"
flags_text Rw = codes "rw"
flags_text Rwp = codes "rwp"
flags_text Rws = codes "rws"
flags_text Rwps = codes "rwps"

-- the letter of a flag of this profile, or f
abbrev pub is_flag : ℕ → Bool
is_flag b = (b == 114) || (b == 119) || (b == 112) || (b == 115) || (b == 102)

-- how often a byte stands in the word
abbrev pub count_of : ℕ → List ℕ → ℕ
count_of byte word = count_by (λ b. b == byte) word

-- the flag f, and else only flags of this profile, none of them twice
abbrev pub is_left_out : List ℕ → Bool
is_left_out word = list_all is_flag word && nat_le (count_of 114 word) 1 && nat_le (count_of 119 word) 1 && nat_le (count_of 112 word) 1 && nat_le (count_of 115 word) 1 && (count_of 102 word == 1)
