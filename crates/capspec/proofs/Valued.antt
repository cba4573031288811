-- The value of an item stands for one item, and the text that it is at the front of tells where it ends.
use Rattle.std.proofs.Common.{◌≡◌, ℕ, Bool, true, false, eqb, ◌||◌, List, [], ◌∷◌, ◌++◌, Some, None, map, refl, sym, ap, ◌∙◌, append_assoc, arith, inl, inr}
use Rattle.std.specs.Prelude.{if◌then◌else◌}
use Rattle.std.specs.List.{AllByRecursion, list_all, slice_split}
use Rattle.std.proofs.lemmas.List.Elements.{All-from_recursion}
use Rattle.std.proofs.lemmas.List.Splits.{slice_split_at, slice_split_none}
use Rattle.std.specs.Str.Parse.{AllDigits, digits_value}
use Rattle.std.proofs.lemmas.Bool.{and_parts, eqb-true, not-true}
use Rattle.std.proofs.lemmas.Bool.Decides.{nat_tests}
use Rattle.std.proofs.lemmas.List.{append-nil}
use Rattle.std.proofs.lemmas.Str.Parse.{digit_from_value}
use Rattle.byte_sets.specs.declared.sets.ByteSet.TheVariants.{AllBut, Plain}
use Rattle.capspec.specs.declared.items.Key.{Key}
use Rattle.capspec.specs.declared.items.Key.TheVariants as keys
use Rattle.byte_sets.specs.Sets.{begins, is_bare_path_byte, is_fs_name_byte, is_in, is_mark, is_white}
use Rattle.capspec.specs.Bytes.{ends_word}
use Rattle.capspec.specs.Items.{IsNumber, IsPath, IsQuotedBy, IsValue, Item, is_comma, key_of}
use Rattle.capspec.specs.Items.Item.{FsName, Gids, Path, RootSquash, Uid}
use Rattle.capspec.specs.Names.{IsFsName}
use Rattle.capspec.specs.Paths.{names_of}
use Rattle.capspec.specs.Separated.{AreSeparated}
use Rattle.capspec.specs.Words.{front_while, gids_word, goes_on, is_digit, is_quote}
use Rattle.capspec.proofs.Fronts.{front_is, not_byte}

-- ---- bytes of words

pub fs_name_is_plain : (b : ℕ) → is_fs_name_byte b ≡ true → is_in Plain b ≡ true
fs_name_is_plain b h = grind (arith, nat_tests)

pub bare_is_plain : (b : ℕ) → is_bare_path_byte b ≡ true → is_in Plain b ≡ true
bare_is_plain b h = grind (arith, nat_tests)

pub digit_is_plain : (b : ℕ) → is_digit b ≡ true → is_in Plain b ≡ true
digit_is_plain b h = grind (arith, nat_tests)

pub all_plain : (test : ℕ → Bool) → ((b : ℕ) → test b ≡ true → is_in Plain b ≡ true) → (bs : List ℕ) → list_all test bs ≡ true → list_all (is_in Plain) bs ≡ true
all_plain test sub [] all = refl
all_plain test sub (b ∷ bs) all =
    let both = and_parts (test b) (list_all test bs) all in
    rw (sub b both.0) (all_plain test sub bs both.1)

-- digits, as a test
pub all_digits : (bs : List ℕ) → AllDigits 10 bs → list_all is_digit bs ≡ true
all_digits [] all = refl
all_digits (b ∷ bs) all =
    let within = digit_from_value b all.0 in
    let here : is_digit b ≡ true = grind (arith, nat_tests) in
    rw here (all_digits bs all.1)

pub numeral_digits : (digits : List ℕ) (n : ℕ) → IsNumber digits n → list_all is_digit digits ≡ true
numeral_digits digits n is = all_digits digits is.numeral.1

-- ---- the numbers of a gids item

pub no_commas : (bs : List ℕ) → list_all is_digit bs ≡ true → AllByRecursion (λ b. is_comma b ≡ false) bs
no_commas [] all = tt
no_commas (b ∷ bs) all =
    let both = and_parts (is_digit b) (list_all is_digit bs) all in
    (not_byte is_digit b 44 both.0 refl, no_commas bs both.1)

-- a number between commas
abbrev pub IsNumeric : List ℕ → Type 0
IsNumeric digits = IsNumber digits (digits_value 10 digits)

number_is_numeric : (digits : List ℕ) (n : ℕ) → IsNumber digits n → IsNumeric digits
number_is_numeric digits n is = record { numeral = is.numeral; value = refl; small = rw is.value is.small }

pub split_one : (digits : List ℕ) (n : ℕ) → IsNumber digits n → slice_split is_comma digits ≡ digits ∷ []
split_one digits n is = slice_split_none is_comma digits (All-from_recursion _ digits (no_commas digits (numeral_digits digits n is)))

pub split_first : (digits rest : List ℕ) (mark n : ℕ) → IsNumber digits n → is_comma mark ≡ true → slice_split is_comma (digits ++ mark ∷ rest) ≡ digits ∷ slice_split is_comma rest
split_first digits rest mark n is comma = slice_split_at is_comma digits mark rest (All-from_recursion _ digits (no_commas digits (numeral_digits digits n is))) comma

pub numbers_are : (value gids : List ℕ) → AreSeparated is_comma IsNumber value gids → gids ≡ map (digits_value 10) (slice_split is_comma value)
numbers_are value [] row = absurd row
numbers_are value (x ∷ []) row = rw (split_one value x row) (ap (λ (n : ℕ). n ∷ []) (sym row.value))
numbers_are value (x ∷ y ∷ more) row =
    let cut : slice_split is_comma value ≡ row.0 ∷ slice_split is_comma row.1 = ap (slice_split is_comma) row.3 ∙ split_first row.0 row.1 row.2 x row.5 row.4 in
    let rest : y ∷ more ≡ map (digits_value 10) (slice_split is_comma row.1) = numbers_are row.1 (y ∷ more) row.6 in
    rw (cut, sym row.5.value, rest) refl

pub pieces_are : (value gids : List ℕ) → AreSeparated is_comma IsNumber value gids → AllByRecursion IsNumeric (slice_split is_comma value)
pieces_are value [] row = absurd row
pieces_are value (x ∷ []) row = rw (split_one value x row) (number_is_numeric value x row, tt)
pieces_are value (x ∷ y ∷ more) row =
    let cut : slice_split is_comma value ≡ row.0 ∷ slice_split is_comma row.1 = ap (slice_split is_comma) row.3 ∙ split_first row.0 row.1 row.2 x row.5 row.4 in
    rw cut (number_is_numeric row.0 x row.5, pieces_are row.1 (y ∷ more) row.6)

pub gids_once : (value gids other : List ℕ) → AreSeparated is_comma IsNumber value gids → AreSeparated is_comma IsNumber value other → gids ≡ other
gids_once value gids other row row' = numbers_are value gids row ∙ sym (numbers_are value other row')

pub gids_word-digits : (digits t : List ℕ) → list_all is_digit digits ≡ true → gids_word (digits ++ t) ≡ digits ++ gids_word t
gids_word-digits [] t all = refl
gids_word-digits (b ∷ bs) t all =
    let both = and_parts (is_digit b) (list_all is_digit bs) all in
    rw (not-true (is_white b || is_mark b) (digit_is_plain b both.0)) (ap (λ (s : List ℕ). b ∷ s) (gids_word-digits bs t both.1))

pub gids_word-stop : (rest : List ℕ) → ends_word rest ≡ true → goes_on rest ≡ false → gids_word rest ≡ []
gids_word-stop [] ends stop = refl
gids_word-stop (b ∷ bs) ends stop = rw (ends, stop) refl

pub gids_word-comma : (t : List ℕ) → begins is_digit t ≡ true → gids_word (44 ∷ t) ≡ 44 ∷ gids_word t
gids_word-comma t digit = rw digit refl

number_begins : (digits t : List ℕ) (n : ℕ) → IsNumber digits n → begins is_digit (digits ++ t) ≡ true
number_begins [] t n is = absurd (omega (arith, is.numeral.0))
number_begins (b ∷ bs) t n is = (and_parts (is_digit b) (list_all is_digit bs) (numeral_digits (b ∷ bs) n is)).0

row_begins : (value t gids : List ℕ) → AreSeparated is_comma IsNumber value gids → begins is_digit (value ++ t) ≡ true
row_begins value t [] row = absurd row
row_begins value t (x ∷ []) row = number_begins value t x row
row_begins value t (x ∷ y ∷ more) row = ap (λ (s : List ℕ). begins is_digit (s ++ t)) row.3 ∙ ap (begins is_digit) (append_assoc row.0 (row.2 ∷ row.1) t) ∙ number_begins row.0 (row.2 ∷ (row.1 ++ t)) x row.5

pub gids_word_is : (value rest gids : List ℕ) → AreSeparated is_comma IsNumber value gids → ends_word rest ≡ true → goes_on rest ≡ false → gids_word (value ++ rest) ≡ value
gids_word_is value rest [] row ends stop = absurd row
gids_word_is value rest (x ∷ []) row ends stop =
    gids_word-digits value rest (numeral_digits value x row) ∙ ap (λ (s : List ℕ). value ++ s) (gids_word-stop rest ends stop) ∙ append-nil value
gids_word_is value rest (x ∷ y ∷ more) row ends stop =
    let same : row.2 ≡ 44 = eqb-true row.2 44 row.4 in
    ap (λ (s : List ℕ). gids_word (s ++ rest)) row.3 ∙ ap gids_word (append_assoc row.0 (row.2 ∷ row.1) rest)
    ∙ gids_word-digits row.0 (row.2 ∷ (row.1 ++ rest)) (numeral_digits row.0 x row.5)
    ∙ ap (λ (m : ℕ). row.0 ++ gids_word (m ∷ (row.1 ++ rest))) same
    ∙ ap (λ (s : List ℕ). row.0 ++ s) (gids_word-comma (row.1 ++ rest) (row_begins row.1 rest (y ∷ more) row.6) ∙ ap (λ (s : List ℕ). 44 ∷ s) (gids_word_is row.1 rest (y ∷ more) row.6 ends stop))
    ∙ ap (λ (m : ℕ). row.0 ++ m ∷ row.1) (sym same) ∙ sym row.3

-- ---- the item that a value is

abbrev pub path_in : List ℕ → List ℕ
path_in [] = []
path_in (b ∷ bs) = if is_quote b then front_while (is_in (AllBut b)) bs else b ∷ bs

abbrev item_in : Key → List ℕ → Item
item_in keys.FsName value = FsName (if begins (λ b. eqb b 42) value then None else Some value)
item_in keys.Path value = Path (names_of (path_in value))
item_in keys.Uid value = Uid (digits_value 10 value)
item_in keys.Gids value = Gids (map (digits_value 10) (slice_split is_comma value))
item_in keys.RootSquash value = RootSquash

name_begins : (name : List ℕ) → IsFsName name → begins (λ b. eqb b 42) name ≡ false
name_begins [] is = refl
name_begins (b ∷ bs) is = not_byte is_fs_name_byte b 42 (and_parts (is_fs_name_byte b) _ is.all_in).0 refl

pub quote_not_bare : (b : ℕ) → is_bare_path_byte b ≡ true → is_quote b ≡ false
quote_not_bare b h = grind (arith, nat_tests)

bare_path_in : (value : List ℕ) → list_all is_bare_path_byte value ≡ true → path_in value ≡ value
bare_path_in [] all = refl
bare_path_in (b ∷ bs) all = rw (quote_not_bare b (and_parts (is_bare_path_byte b) (list_all is_bare_path_byte bs) all).0) refl

eqb_same : (n : ℕ) → eqb n n ≡ true
eqb_same n = grind (arith, nat_tests)

pub not_quote : (q : ℕ) (rest : List ℕ) → begins (is_in (AllBut q)) (q ∷ rest) ≡ false
not_quote q rest = rw (eqb_same q) refl

pub quoted_path_in : (q : ℕ) (value path : List ℕ) → is_quote q ≡ true → IsQuotedBy q value path → path_in value ≡ path
quoted_path_in q value path quote is = ap path_in is.parts ∙ rw quote (front_is (is_in (AllBut q)) path (q ∷ []) is.none_inside (not_quote q []))

pub path_in_is : (value path : List ℕ) → IsPath value path → path_in value ≡ path
path_in_is value path is = elim is.written [
  | inl bare ↦ bare_path_in value (rw bare.same bare.all_in) ∙ bare.same
  | inr (inl quoted) ↦ quoted_path_in 34 value path refl quoted
  | inr (inr quoted) ↦ quoted_path_in 39 value path refl quoted
]

pub value_is : (value : List ℕ) (item : Item) → IsValue value item → item_in (key_of item) value ≡ item
value_is value (FsName None) is = rw is refl
value_is value (FsName (Some name)) is = rw (is.0, name_begins name is.1) refl
value_is value (Path names) is = ap (λ (p : List ℕ). Path (names_of p)) (path_in_is value is.0 is.1) ∙ ap Path (sym is.2)
value_is value (Uid uid) is = ap Uid is.value
value_is value (Gids gids) is = ap Gids (sym (numbers_are value gids is.0))
value_is value RootSquash is = refl

pub value_once : (value : List ℕ) (item other : Item) → IsValue value item → IsValue value other → key_of item ≡ key_of other → item ≡ other
value_once value item other is is' same = sym (value_is value item is) ∙ ap (λ (k : Key). item_in k value) same ∙ value_is value other is'
