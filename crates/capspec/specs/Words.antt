-- The words of a grant text, and what is wrong with one: each kind of fault beside its test, in the order of the tests.
use Rattle.std.specs.Prelude.{◌≡◌, ◌≢◌, ◌⊎◌, ◌≤◌, ◌<◌, ℕ, Bool, false, not, ◌==◌, ◌||◌, ◌&&◌, List, [], ◌∷◌, ◌++◌, length, codes, IsTrue, IsFalse, MatchBool}
use Rattle.std.specs.Prelude.{if◌then◌else◌}
use Rattle.byte_sets.specs.declared.sets.ByteSet.TheVariants.{AllBut, Plain, White}
use Rattle.capspec.specs.declared.fault.SpecFaultKind.{SpecFaultKind}
use Rattle.capspec.specs.declared.fault.SpecFaultKind.TheVariants as kinds
use Rattle.capspec.specs.declared.flags.Flags4.{Flags4}
use Rattle.capspec.specs.declared.items.Key.{Key}
use Rattle.capspec.specs.declared.items.Key.TheVariants as keys
use Rattle.byte_sets.specs.Sets.{begins, is_in, is_within}
use Rattle.capspec.specs.Bytes.{TakesWord, ends_word}
use Rattle.capspec.specs.Flags.{IsFlags, is_left_out}
use Rattle.capspec.specs.Items.{IsItem, IsNumber, IsValue, Item, is_comma, key_of, key_text}
use Rattle.capspec.specs.Separated.{AreSeparated}

-- the longest front whose bytes pass the test, and what follows it
abbrev pub front_while : (ℕ → Bool) → List ℕ → List ℕ
front_while test [] = []
front_while test (b ∷ bs) = if test b then b ∷ front_while test bs else []

abbrev pub rest_while : (ℕ → Bool) → List ℕ → List ℕ
rest_while test [] = []
rest_while test (b ∷ bs) = if test b then rest_while test bs else b ∷ bs

-- the text from its first byte on that is not white space: here the next word stands, or none
abbrev pub next : List ℕ → List ℕ
next text = rest_while (is_in White) text

-- the word at the front of a text, up to white space, a mark or the end, and what follows it
abbrev pub plain_word : List ℕ → List ℕ
plain_word text = front_while (is_in Plain) text

abbrev pub behind_word : List ℕ → List ℕ
behind_word text = rest_while (is_in Plain) text

-- a decimal digit
abbrev pub is_digit : ℕ → Bool
is_digit b = is_within 48 57 b

-- a comma with a digit behind it comes next: here the value of a gids item goes on
abbrev pub goes_on : List ℕ → Bool
goes_on [] = false
goes_on (b ∷ bs) = is_comma b && begins is_digit bs

-- the value of a gids item at the front of a text: a comma belongs to it where a digit follows
abbrev pub gids_word : List ℕ → List ℕ
gids_word [] = []
gids_word (b ∷ bs) = if ends_word (b ∷ bs) && not (goes_on (b ∷ bs)) then [] else b ∷ gids_word bs

-- the text begins with the whole word of an item
pub record BeginsWithItem (text : List ℕ) (item : Item) (rest : List ℕ) : Type 0 where
  pub takes : TakesWord (λ word. IsItem word item) text rest
  pub whole : key_of item ≡ keys.Gids → IsFalse (goes_on rest)

-- no item with the key has this value
abbrev pub IsNoValue : Key → List ℕ → Type 0
IsNoValue key value = (item : Item) → key_of item ≡ key → IsValue value item → ⊥

-- ---- the first word

-- before: how many grants stand before it
abbrev pub IsWrongFirst : ℕ → List ℕ → SpecFaultKind → Type 0
IsWrongFirst before word kind =
    ((16 ≤ before) × (kind ≡ kinds.TooMany))
    ⊎ ((before < 16) × (word ≢ codes "allow") × (kind ≡ kinds.NotAllow))

-- ---- the second word

abbrev pub IsWrongSecond : List ℕ → SpecFaultKind → Type 0
IsWrongSecond word kind = ((flags : Flags4) → IsFlags word flags → ⊥) × (kind ≡ (if is_left_out word then kinds.LeftOut else kinds.BadFlags))

-- ---- the items

-- the text begins with the key, and the value stands behind it; `root_squash` has none
pub record IsKeyed (key : Key) (text value : List ℕ) : Type 0 where
  pub parts : text ≡ key_text key ++ value
  pub whole : key ≡ keys.RootSquash → IsTrue (ends_word value)

-- a word without a key of ours
abbrev pub IsWrongOther : List ℕ → SpecFaultKind → Type 0
IsWrongOther word kind =
    ((word ≡ codes "network") × (kind ≡ kinds.LeftOut))
    ⊎ ((word ≢ codes "network") × (kind ≡ kinds.BadItem))

-- a path with the quote in front, and from behind its path on what stands there
abbrev pub IsWrongQuoted : ℕ → List ℕ → List ℕ → SpecFaultKind → Type 0
IsWrongQuoted quote path [] kind = kind ≡ kinds.OpenQuote
IsWrongQuoted quote path (closing ∷ behind) kind = MatchBool (ends_word behind)
    (IsNoValue keys.Path (quote ∷ path ++ quote ∷ []) × (kind ≡ kinds.BadPath))
    (kind ≡ kinds.BadItem)

abbrev pub is_quote : ℕ → Bool
is_quote b = (b == 34) || (b == 39)

abbrev pub IsWrongPath : List ℕ → SpecFaultKind → Type 0
IsWrongPath [] kind = kind ≡ kinds.BadPath
IsWrongPath (b ∷ bs) kind = MatchBool (is_quote b)
    (IsWrongQuoted b (front_while (is_in (AllBut b)) bs) (rest_while (is_in (AllBut b)) bs) kind)
    (IsNoValue keys.Path (plain_word (b ∷ bs)) × (kind ≡ kinds.BadPath))

-- the value of a gids item; numbers: what it lists
abbrev pub IsWrongGids : List ℕ → SpecFaultKind → Type 0
IsWrongGids value kind =
    (((numbers : List ℕ) → AreSeparated is_comma IsNumber value numbers → ⊥) × (kind ≡ kinds.BadNumber))
    ⊎ ((numbers : List ℕ) × AreSeparated is_comma IsNumber value numbers × (16 < length numbers) × (kind ≡ kinds.TooMany))

-- the text behind the key
abbrev pub IsWrongValue : Key → List ℕ → SpecFaultKind → Type 0
IsWrongValue keys.FsName text kind = IsNoValue keys.FsName (plain_word text) × (kind ≡ kinds.BadItem)
IsWrongValue keys.Path text kind = IsWrongPath text kind
IsWrongValue keys.Uid text kind = IsNoValue keys.Uid (plain_word text) × (kind ≡ kinds.BadNumber)
IsWrongValue keys.Gids text kind = IsWrongGids (gids_word text) kind
IsWrongValue keys.RootSquash text kind = ⊥

-- the text from the item on; stood: whether an item with the key stood before it in the grant
abbrev pub IsWrongItem : (Key → Bool) → List ℕ → SpecFaultKind → Type 0
IsWrongItem stood text kind =
    (((key : Key) (value : List ℕ) → IsKeyed key text value → ⊥) × IsWrongOther (plain_word text) kind)
    ⊎ ((key : Key) × (value : List ℕ) × IsKeyed key text value × MatchBool (stood key) (kind ≡ kinds.Twice) (IsWrongValue key value kind))
