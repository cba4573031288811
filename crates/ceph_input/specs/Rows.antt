-- The text of an array, cut into the texts of its items.
use Rattle.std.specs.Prelude.{◌≡◌, ℕ, ◌+◌, ◌-◌, ◌≤◌, ◌==◌, nat_le, Bool, true, false, IsTrue, ◌&&◌, ◌||◌, if◌then◌else◌, List, [], ◌∷◌, ◌++◌, length}
use Rattle.ceph_input.specs.declared.array_fault.Expected.{Expected}
use Rattle.ceph_input.specs.declared.array_fault.Expected.TheVariants as wants
use Rattle.ceph_input.specs.declared.array_fault.RowFault.{RowFault}
use Rattle.ceph_input.specs.declared.array_fault.RowFault.TheVariants.{NoMemory, Unexpected}
use Rattle.ceph_input.specs.declared.place.Place.{Place}
use Rattle.ceph_input.specs.declared.place.Place.TheVariants.{Escaped, Outside, Quoted}
use Rattle.ceph_input.specs.declared.stage.Stage.{Stage}
use Rattle.ceph_input.specs.declared.stage.Stage.TheVariants.{Closing, First, Item, Next, Opening}
use Rattle.ceph_input.specs.declared.outside.Pass.{Pass}
use Rattle.ceph_input.specs.declared.outside.Pass.TheVariants as passes

-- What a text gives, in order: items, each with the number of its first byte, and then that the array is closed and nothing but white
-- space follows; or that something else was expected at a byte.
pub data Rows : Type 0 where
  closed : Rows
  broken : ℕ → Expected → Rows
  row : ℕ → List ℕ → Rows → Rows

-- how many bytes an item may have, with the white space before and behind it
abbrev pub longest_item : ℕ
longest_item = 16777216

-- a space, a tab, a line feed or a carriage return
abbrev pub is_white : ℕ → Bool
is_white b = (b == 32) || ((b == 9) || ((b == 10) || (b == 13)))

-- a bracket or a brace that opens
abbrev pub opens : ℕ → Bool
opens b = (b == 91) || (b == 123)

-- one that closes
abbrev pub closes : ℕ → Bool
closes b = (b == 93) || (b == 125)

-- ---- within an item

abbrev pub depth_of : Place → ℕ
depth_of (Outside depth) = depth
depth_of (Quoted depth) = depth
depth_of (Escaped depth) = depth

-- Where what follows a byte stands. Strings stand between quotes, and in them a byte behind a backslash is no quote; only outside of them
-- brackets count.
abbrev pub after : Place → ℕ → Place
after (Outside depth) b = if b == 34 then Quoted depth else (if opens b then Outside (depth + 1) else (if closes b then Outside (depth - 1) else Outside depth))
after (Quoted depth) b = if b == 92 then Escaped depth else (if b == 34 then Outside depth else Quoted depth)
after (Escaped depth) b = Quoted depth

-- an item ends before a comma or a closing bracket, outside of strings and where no bracket is open
abbrev pub ends : Place → ℕ → Bool
ends (Outside depth) b = (depth == 0) && ((b == 44) || (b == 93))
ends (Quoted depth) b = false
ends (Escaped depth) b = false

-- an item without the white space before its first byte
abbrev pub unindented : List ℕ → List ℕ
unindented [] = []
unindented (b ∷ item) = if is_white b then unindented item else b ∷ item

-- ---- the array

-- behind its closing bracket: `byte` is the number of the byte with which the text goes on
abbrev pub closing_from : ℕ → List ℕ → Rows
closing_from byte [] = closed
closing_from byte (b ∷ text) = if is_white b then closing_from (byte + 1) text else broken byte wants.End

-- in an item, of which this is read already
abbrev pub items_from : ℕ → List ℕ → Place → List ℕ → Rows
items_from byte item place [] = broken byte wants.Separator
items_from byte item place (b ∷ text) =
    if ends place b then row (byte - length (unindented item)) (unindented item) (if b == 44 then items_from (byte + 1) [] (Outside 0) text else closing_from (byte + 1) text)
    else (if nat_le longest_item (length item) then broken byte wants.ShorterItem else items_from (byte + 1) (item ++ b ∷ []) (after place b) text)

-- before the first item
abbrev pub first_from : ℕ → List ℕ → Rows
first_from byte [] = broken byte wants.Item
first_from byte (b ∷ text) = if is_white b then first_from (byte + 1) text else (if b == 93 then closing_from (byte + 1) text else items_from byte [] (Outside 0) (b ∷ text))

-- before the opening bracket
abbrev pub opening_from : ℕ → List ℕ → Rows
opening_from byte [] = broken byte wants.Opening
opening_from byte (b ∷ text) = if is_white b then opening_from (byte + 1) text else (if b == 91 then first_from (byte + 1) text else broken byte wants.Opening)

abbrev pub rows_of : List ℕ → Rows
rows_of text = opening_from 0 text

-- the fault is the one with which the rows end at once; want of memory is in no text
abbrev pub IsBroken : RowFault → Rows → Type 0
IsBroken NoMemory rows = Unit {0}
IsBroken (Unexpected byte expected) rows = rows ≡ broken byte expected

-- ---- the same by where a reader stands

abbrev pub rows_at : Stage → ℕ → List ℕ → List ℕ → Rows
rows_at Opening byte item text = opening_from byte text
rows_at First byte item text = first_from byte text
rows_at Next byte item text = items_from byte [] (Outside 0) text
rows_at (Item place) byte item text = items_from byte item place text
rows_at Closing byte item text = closing_from byte text

abbrev pub depth_at : Stage → ℕ
depth_at Opening = 0
depth_at First = 0
depth_at Next = 0
depth_at (Item place) = depth_of place
depth_at Closing = 0

-- what follows belongs to an item
abbrev pub is_inside : Stage → Bool
is_inside Opening = false
is_inside First = false
is_inside Next = true
is_inside (Item place) = true
is_inside Closing = false

-- the rows by what a byte outside of items is
abbrev pub passed : Pass → ℕ → List ℕ → ℕ → List ℕ → Rows
passed (passes.Taken stage) byte item b text = rows_at stage (byte + 1) item text
passed (passes.Item stage) byte item b text = rows_at stage byte item (b ∷ text)
passed (passes.Wrong expected) byte item b text = broken byte expected

-- no bracket is open behind a byte that stands outside of items, and none more before an item
abbrev pub IsShallow : Pass → ℕ → Type 0
IsShallow (passes.Taken stage) depth = depth_at stage ≡ 0
IsShallow (passes.Item stage) depth = IsTrue (is_inside stage) × (depth_at stage ≤ depth)
IsShallow (passes.Wrong expected) depth = Unit {0}
