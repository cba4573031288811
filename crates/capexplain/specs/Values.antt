-- What single words write, or the fault of one that does not.
use Rattle.std.specs.Prelude.{◌≡◌, ◌≢◌, ℕ, ◌+◌, ◌*◌, ◌^◌, ◌%◌, ◌==◌, ◌&&◌, ◌||◌, Bool, Result, Ok, Err, List, [], ◌∷◌, length, find, codes, bytes_eq, nat_lt}
use Rattle.std.specs.Prelude.{nat_le, if◌then◌else◌}
use Rattle.std.specs.Char.{digit_value}
use Rattle.std.specs.Int.{is_in_range}
use Rattle.std.specs.List.{list_all, slice_split}
use Rattle.std.specs.Option.{ok_or}
use Rattle.std.specs.Str.Parse.{digits_value}
use Rattle.capbits.specs.Caps.{Caps}
use Rattle.capbits.specs.Text.{text_of}
use Rattle.capbits.specs.declared.cap.Part.{Part}
use Rattle.capbits.specs.declared.cap.Part.TheVariants.{A, F, L, X}
use Rattle.capbits.specs.declared.ids.ClientId.{ClientId}
use Rattle.capbits.specs.declared.ids.Ino.{Ino}
use Rattle.capspec.specs.Items.{is_comma}
use Rattle.capstep.specs.declared.event.OpenMode.{OpenMode}
use Rattle.capstep.specs.declared.event.OpenMode.TheVariants as opens
use Rattle.capstep.specs.Words.{open_word, part_word}
use Rattle.texts.specs.declared.fault.LineFault.{LineFault}
use Rattle.texts.specs.declared.fault.LineFault.TheVariants.{Hex, Mode, Number}
use Rattle.texts.specs.declared.fault.LineFault.TheVariants as faults

-- what cannot be read ends the reading
infixl 10 ◌>>=◌
abbrev pub ◌>>=◌ : {A B : Type 0} → Result A LineFault → (A → Result B LineFault) → Result B LineFault
Ok read >>= next = next read
Err fault >>= next = Err fault

-- one digit of the radix or more, and nothing else
abbrev pub is_numeral : ℕ → List ℕ → Bool
is_numeral radix text = nat_lt 0 (length text) && list_all (λ b. nat_lt (digit_value b) radix) text

-- the decimal number, if it is below the limit
unfoldable pub number_below : ℕ → List ℕ → Result ℕ LineFault
number_below limit word = if is_numeral 10 word && nat_lt (digits_value 10 word) limit then Ok (digits_value 10 word) else Err Number

abbrev pub number_in : List ℕ → Result ℕ LineFault
number_in word = number_below (2 ^ 32) word

unfoldable pub client_in : List ℕ → Result ClientId LineFault
client_in word = do
  number ← number_in word
  Ok (record { 0 = number })

-- the client, where there is no other word
abbrev pub only_client : List (List ℕ) → Result ClientId LineFault
only_client (word ∷ []) = client_in word
only_client words = Err faults.Count

unfoldable pub ino_in : List ℕ → Result Ino LineFault
ino_in word = do
  number ← number_below (2 ^ 64) word
  Ok (record { 0 = number })

-- the number of a change
abbrev pub seq_in : List ℕ → Result ℕ LineFault
seq_in word = number_below (2 ^ 64) word

-- one to four octal digits
unfoldable pub mode_in : List ℕ → Result ℕ LineFault
mode_in word = if is_numeral 8 word && nat_le (length word) 4 then Ok (digits_value 8 word) else Err Mode

abbrev pub numbers_in : List (List ℕ) → Result (List ℕ) LineFault
numbers_in [] = Ok []
numbers_in (word ∷ words) = do
  number ← number_in word
  numbers ← numbers_in words
  Ok (number ∷ numbers)

-- numbers with a comma between each two, at most sixteen
abbrev pub list_in : List ℕ → Result (List ℕ) LineFault
list_in word = do
  gids ← numbers_in (slice_split is_comma word)
  if nat_le (length gids) 16 then Ok gids else Err Number

-- `-` for none, or a list of them
unfoldable pub groups_in : List ℕ → Result (List ℕ) LineFault
groups_in word = if bytes_eq word (codes "-") then Ok [] else list_in word

-- what an inode is opened for
unfoldable pub open_mode_in : List ℕ → Result OpenMode LineFault
open_mode_in word = ok_or (find (λ mode. bytes_eq word (open_word mode)) (opens.Read ∷ opens.Write ∷ opens.ReadWrite ∷ [])) Mode

-- a part of what an inode keeps
unfoldable pub part_in : List ℕ → Result Part LineFault
part_in word = ok_or (find (λ part. bytes_eq word (part_word part)) (A ∷ L ∷ X ∷ F ∷ [])) faults.Part

-- 0 to 9, and a to f
abbrev pub is_hex_digit : ℕ → Bool
is_hex_digit b = is_in_range 48 57 b || is_in_range 97 102 b

-- two digits for each byte, and at least one byte
abbrev pub is_hex : List ℕ → Bool
is_hex word = nat_lt 0 (length word) && (length word % 2 == 0) && list_all is_hex_digit word

abbrev pub hex_bytes : List ℕ → List ℕ
hex_bytes (high ∷ low ∷ digits) = (16 * digit_value high + digit_value low) ∷ hex_bytes digits
hex_bytes [] = []
hex_bytes (digit ∷ []) = []

-- `-` for no bytes, or the bytes in hexadecimal digits
abbrev pub bytes_in : List ℕ → Result (List ℕ) LineFault
bytes_in word = if bytes_eq word (codes "-") then Ok [] else if is_hex word then Ok (hex_bytes word) else Err Hex

-- the set of caps that is so spelled; a set has one spelling
abbrev pub Spells : List ℕ → Caps → Type 0
Spells word caps = word ≡ text_of caps

-- no set is so spelled
abbrev pub SpellsNone : List ℕ → Type 0
SpellsNone word = (caps : Caps) → word ≢ text_of caps
