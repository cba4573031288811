-- Values of items, taken from the front of a text, and why there is none.
use Rattle.std.proofs.Common.{◌≡◌, ◌≢◌, ℕ, ◌≤◌, Bool, true, false, not, ◌||◌, ◌&&◌, eqb, List, [], ◌∷◌, ◌++◌, length, Some, None, refl, sym, ap, subst, ◌∙◌}
use Rattle.std.proofs.Common.{inl, inr, append_assoc, arith}
use Rattle.std.specs.Prelude.{codes}
use Rattle.std.specs.List.{list_all, list_any}
use Rattle.std.specs.Str.{bytes_eq}
use Rattle.std.specs.Char.{digit_value}
use Rattle.std.proofs.lemmas.Bool.{and_parts, eqb-true, not-false, or_from, true≢false}
use Rattle.std.proofs.lemmas.Bool.Decides.{nat_tests}
use Rattle.std.proofs.lemmas.List.{nil_from_length}
use Rattle.std.proofs.lemmas.Slice.Eq.{bytes_eq-Decides}
use Rattle.std.proofs.lemmas.Str.{digit_value_digit}
use Rattle.byte_sets.specs.declared.sets.ByteSet.TheVariants.{AllBut, BarePath, Plain}
use Rattle.capspec.specs.declared.fault.SpecFaultKind.{SpecFaultKind}
use Rattle.capspec.specs.declared.fault.SpecFaultKind.TheVariants as kinds
use Rattle.capspec.specs.declared.items.Key.TheVariants as keys
use Rattle.byte_sets.specs.Sets.{SplitsWhile, begins, is_bare_path_byte, is_in, is_mark, is_white}
use Rattle.capspec.specs.Bytes.{TakesWord, ends_word}
use Rattle.capspec.specs.Items.{IsNumber, IsPath, IsPlainOrQuoted, IsQuotedBy, can_be_path, is_control}
use Rattle.capspec.specs.Items.Item.{FsName, Gids, Path, RootSquash, Uid}
use Rattle.capspec.specs.Names.{IsFsName}
use Rattle.capspec.specs.Paths.{are_few_and_short, names_of}
use Rattle.capspec.specs.Words.{IsNoValue, IsWrongOther, IsWrongPath, IsWrongQuoted, behind_word, front_while, is_digit, is_quote, plain_word, rest_while}
use Rattle.capspec.proofs.Fronts.{front_parts, rest_stops, split_front, split_rest, which, within_front, within_rest}
use Rattle.capspec.proofs.Valued.{bare_is_plain, digit_is_plain, numeral_digits, path_in, path_in_is, quote_not_bare, quoted_path_in}

pub not_that : (word text other : List ℕ) (r : Bool) → r ≡ bytes_eq word other → other ≡ text → r ≡ false → word ≢ text
not_that word text other r same is differs e = true≢false (sym ((bytes_eq-Decides word other).1 (e ∙ sym is)) ∙ sym same ∙ differs)

pub that_word : (text word rest : List ℕ) → SplitsWhile Plain text word rest → plain_word text ≡ word
that_word text word rest cut = split_front Plain text word rest cut

-- ---- names, numbers and other words

pub no_fs_name : (text word rest : List ℕ) → SplitsWhile Plain text word rest → word ≢ codes "*" → (IsFsName word → ⊥) → IsNoValue keys.FsName (plain_word text)
no_fs_name text word rest cut not_star none (FsName None) keyed is = not_star (sym (that_word text word rest cut) ∙ is)
no_fs_name text word rest cut not_star none (FsName (Some name)) keyed is = none (subst IsFsName (sym is.0 ∙ that_word text word rest cut) is.1)
no_fs_name text word rest cut not_star none (Path names) keyed is = absurd (cc)
no_fs_name text word rest cut not_star none (Uid uid) keyed is = absurd (cc)
no_fs_name text word rest cut not_star none (Gids gids) keyed is = absurd (cc)
no_fs_name text word rest cut not_star none RootSquash keyed is = absurd (cc)

pub not_plain_ends : (rest : List ℕ) → begins (is_in Plain) rest ≡ false → ends_word rest ≡ true
not_plain_ends [] stops = refl
not_plain_ends (b ∷ bs) stops = not-false (is_white b || is_mark b) stops

-- where the whole word is digits, they end where the word ends
pub no_uid : (text : List ℕ) → ((n : ℕ) → IsNumber (front_while is_digit text) n → ends_word (rest_while is_digit text) ≡ true → ⊥) → IsNoValue keys.Uid (plain_word text)
no_uid text none (Uid uid) keyed is =
    let all : list_all is_digit (plain_word text) ≡ true = numeral_digits (plain_word text) uid is in
    none uid (subst (λ (digits : List ℕ). IsNumber digits uid) (sym (within_front is_digit digit_is_plain text all)) is)
    (ap ends_word (within_rest is_digit digit_is_plain text all) ∙ not_plain_ends (behind_word text) (rest_stops (is_in Plain) text))
no_uid text none (FsName name) keyed is = absurd (cc)
no_uid text none (Path names) keyed is = absurd (cc)
no_uid text none (Gids gids) keyed is = absurd (cc)
no_uid text none RootSquash keyed is = absurd (cc)

pub takes_uid : (text rest : List ℕ) (uid : ℕ) → IsNumber (front_while is_digit text) uid → rest ≡ rest_while is_digit text → ends_word rest ≡ true → TakesWord (λ value. IsNumber value uid) text rest
takes_uid text rest uid is rest-is ends =
    (record { front = front_while is_digit text; parts = front_parts is_digit text ∙ ap (λ (t : List ℕ). front_while is_digit text ++ t) (sym rest-is); holds = is }, ends)

pub other_wrong : (text word rest : List ℕ) → SplitsWhile Plain text word rest → word ≢ codes "network" → IsWrongOther (plain_word text) kinds.BadItem
other_wrong text word rest cut differs = inr ((λ e. differs (sym (that_word text word rest cut) ∙ e)), refl)

-- ---- paths without quotes

-- a byte of a path without quotes is no control byte
bare_no_control : (b : ℕ) → is_bare_path_byte b ≡ true → is_control b ≡ false
bare_no_control b bare = grind (arith, nat_tests)

all_no_control : (bs : List ℕ) → list_all is_bare_path_byte bs ≡ true → list_any is_control bs ≡ false
all_no_control [] all = refl
all_no_control (b ∷ bs) all =
    let both = and_parts (is_bare_path_byte b) (list_all is_bare_path_byte bs) all in
    or_from (is_control b) (list_any is_control bs) (bare_no_control b both.0) (all_no_control bs both.1)

bare_fit : (path : List ℕ) → list_all is_bare_path_byte path ≡ true → eqb (length path) 0 ≡ false → are_few_and_short (names_of path) ≡ true → can_be_path path ≡ true
bare_fit path all some few = rw (some, all_no_control path all, few) refl

pub takes_bare : (text path rest : List ℕ) → SplitsWhile BarePath text path rest → eqb (length path) 0 ≡ false → ends_word rest ≡ true → are_few_and_short (names_of path) ≡ true → TakesWord (λ value. IsPath value path) text rest
takes_bare text path rest cut some ends few =
    (record { front = path; parts = cut.parts; holds = record { written = inl (record { same = refl; all_in = cut.all_in }); fit = bare_fit path cut.all_in some few } }, ends)

quoted_begins : (q : ℕ) (value path : List ℕ) → is_quote q ≡ true → IsQuotedBy q value path → begins is_quote value ≡ true
quoted_begins q value path quote is = ap (begins is_quote) is.parts ∙ quote

front_begins : (text word rest : List ℕ) → text ≡ word ++ rest → begins is_quote text ≡ false → begins is_quote word ≡ false
front_begins text [] rest parts bare = refl
front_begins text (b ∷ bs) rest parts bare = sym (ap (begins is_quote) parts) ∙ bare

no_bare_path : (word path : List ℕ) → begins is_quote word ≡ false → (list_all is_bare_path_byte word ≡ true → can_be_path word ≡ true → ⊥) → IsPath word path → ⊥
no_bare_path word path unquoted none is = elim is.written [
  | inl bare ↦ none (ap (list_all is_bare_path_byte) bare.same ∙ bare.all_in) (ap can_be_path bare.same ∙ is.fit)
  | inr (inl quoted) ↦ true≢false (sym (quoted_begins 34 word path refl quoted) ∙ unquoted)
  | inr (inr quoted) ↦ true≢false (sym (quoted_begins 39 word path refl quoted) ∙ unquoted)
]

no_path_item : (word : List ℕ) → ((path : List ℕ) → IsPath word path → ⊥) → IsNoValue keys.Path word
no_path_item word none (Path names) keyed is = none is.0 is.1
no_path_item word none (FsName name) keyed is = absurd (cc)
no_path_item word none (Uid uid) keyed is = absurd (cc)
no_path_item word none (Gids gids) keyed is = absurd (cc)
no_path_item word none RootSquash keyed is = absurd (cc)

bare_wrong : (text : List ℕ) → begins is_quote text ≡ false → IsNoValue keys.Path (plain_word text) → IsWrongPath text kinds.BadPath
bare_wrong [] unquoted none = refl
bare_wrong (b ∷ bs) unquoted none = rw unquoted (none, refl)

-- where the whole word is a path without quotes, the bytes of such a path end where the word ends
pub unbare : (text path rest : List ℕ) → SplitsWhile BarePath text path rest → begins is_quote text ≡ false → (ends_word rest ≡ true → can_be_path path ≡ true → ⊥) → IsWrongPath text kinds.BadPath
unbare text path rest cut unquoted none =
    bare_wrong text unquoted (no_path_item (plain_word text) (λ other. no_bare_path (plain_word text) other (front_begins text (plain_word text) (behind_word text) (front_parts (is_in Plain) text) unquoted)
    (λ all fit.
    let front : path ≡ plain_word text = sym (split_front BarePath text path rest cut) ∙ within_front is_bare_path_byte bare_is_plain text all in
    let behind : rest ≡ behind_word text = sym (split_rest BarePath text path rest cut) ∙ within_rest is_bare_path_byte bare_is_plain text all in
    none (ap ends_word behind ∙ not_plain_ends (behind_word text) (rest_stops (is_in Plain) text)) (ap can_be_path front ∙ fit))))

pub empty_unfit : (path : List ℕ) → eqb (length path) 0 ≡ true → can_be_path path ≡ true → ⊥
empty_unfit path none fit = true≢false (sym fit ∙ rw none refl)

pub names_unfit : (path : List ℕ) → are_few_and_short (names_of path) ≡ false → can_be_path path ≡ true → ⊥
names_unfit path unfit fit = true≢false (sym (and_parts (not (eqb (length path) 0) && not (list_any is_control path)) (are_few_and_short (names_of path)) fit).1 ∙ unfit)

-- ---- paths in quotes

quoted_by : (q : ℕ) → is_quote q ≡ true → (value path : List ℕ) → IsQuotedBy q value path → IsPlainOrQuoted value path
quoted_by q quote value path is = elim (which (eqb q 34)) [
  | inl e ↦ inr (inl (subst (λ (b : ℕ). IsQuotedBy b value path) (eqb-true q 34 e) is))
  | inr e ↦ let other : eqb q 39 ≡ true = rw e at quote in inr (inr (subst (λ (b : ℕ). IsQuotedBy b value path) (eqb-true q 39 other) is))
]

-- a path up to its closing quote
pub takes_quoted : (quote : ℕ) (inside path closing rest : List ℕ) (b : ℕ) → is_quote quote ≡ true → SplitsWhile (AllBut quote) inside path closing → closing ≡ b ∷ rest → ends_word rest ≡ true → can_be_path path ≡ true
    → TakesWord (λ value. IsPath (quote ∷ value) path) inside rest
takes_quoted quote inside path closing rest b is_one cut closing-is ends fit =
    let stops : begins (is_in (AllBut quote)) (b ∷ rest) ≡ false = subst (λ (t : List ℕ). begins (is_in (AllBut quote)) t ≡ false) closing-is cut.longest in
    let same : b ≡ quote = eqb-true b quote (not-false (eqb b quote) stops) in
    let whole : inside ≡ (path ++ quote ∷ []) ++ rest = cut.parts ∙ ap (λ (t : List ℕ). path ++ t) (closing-is ∙ ap (λ (q : ℕ). q ∷ rest) same) ∙ sym (append_assoc path (quote ∷ []) rest) in
    (record { front = path ++ quote ∷ []; parts = whole; holds = record { written = quoted_by quote is_one _ path (record { parts = refl; none_inside = cut.all_in }); fit = fit } }, ends)

quoted_wrong : (quote : ℕ) (inside path closing : List ℕ) (kind : SpecFaultKind) → is_quote quote ≡ true → SplitsWhile (AllBut quote) inside path closing → IsWrongQuoted quote path closing kind → IsWrongPath (quote ∷ inside) kind
quoted_wrong quote inside path closing kind is_one cut wrong =
    let here : IsWrongQuoted quote (front_while (is_in (AllBut quote)) inside) (rest_while (is_in (AllBut quote)) inside) kind =
    subst (λ (p : List ℕ). IsWrongQuoted quote p (rest_while (is_in (AllBut quote)) inside) kind) (sym (split_front (AllBut quote) inside path closing cut))
    (subst (λ (c : List ℕ). IsWrongQuoted quote path c kind) (sym (split_rest (AllBut quote) inside path closing cut)) wrong) in
    rw is_one here

pub open_wrong : (quote : ℕ) (inside path closing : List ℕ) → is_quote quote ≡ true → SplitsWhile (AllBut quote) inside path closing → length closing ≡ 0 → IsWrongPath (quote ∷ inside) kinds.OpenQuote
open_wrong quote inside path closing is_one cut none =
    quoted_wrong quote inside path closing kinds.OpenQuote is_one cut (subst (λ (c : List ℕ). IsWrongQuoted quote path c kinds.OpenQuote) (sym (nil_from_length closing none)) refl)

pub behind_wrong : (quote : ℕ) (inside path closing rest : List ℕ) (b : ℕ) → is_quote quote ≡ true → SplitsWhile (AllBut quote) inside path closing → closing ≡ b ∷ rest → ends_word rest ≡ false → IsWrongPath (quote ∷ inside) kinds.BadItem
behind_wrong quote inside path closing rest b is_one cut closing-is goes_on =
    quoted_wrong quote inside path closing kinds.BadItem is_one cut (subst (λ (c : List ℕ). IsWrongQuoted quote path c kinds.BadItem) (sym closing-is) (rw goes_on refl))

no_quoted_path : (quote : ℕ) (path other : List ℕ) → is_quote quote ≡ true → list_all (is_in (AllBut quote)) path ≡ true → can_be_path path ≡ false → IsPath (quote ∷ path ++ quote ∷ []) other → ⊥
no_quoted_path quote path other is_one none_inside unfit is =
    let in_quotes : path_in (quote ∷ path ++ quote ∷ []) ≡ path = quoted_path_in quote (quote ∷ path ++ quote ∷ []) path is_one (record { parts = refl; none_inside = none_inside }) in
    let value : List ℕ = quote ∷ path ++ quote ∷ [] in
    elim is.written [
      | inl bare ↦ true≢false (sym is_one ∙ quote_not_bare quote (and_parts (is_bare_path_byte quote) (list_all is_bare_path_byte (path ++ quote ∷ [])) (ap (list_all is_bare_path_byte) bare.same ∙ bare.all_in)).0)
      | inr quoted ↦ true≢false (sym is.fit ∙ ap can_be_path (sym (path_in_is value other is) ∙ in_quotes) ∙ unfit)
    ]

pub unfit_quoted_wrong : (quote : ℕ) (inside path closing rest : List ℕ) (b : ℕ) → is_quote quote ≡ true → SplitsWhile (AllBut quote) inside path closing → closing ≡ b ∷ rest → ends_word rest ≡ true → can_be_path path ≡ false
    → IsWrongPath (quote ∷ inside) kinds.BadPath
unfit_quoted_wrong quote inside path closing rest b is_one cut closing-is ends unfit =
    quoted_wrong quote inside path closing kinds.BadPath is_one cut (subst (λ (c : List ℕ). IsWrongQuoted quote path c kinds.BadPath) (sym closing-is)
    (rw ends (no_path_item (quote ∷ path ++ quote ∷ []) (λ other. no_quoted_path quote path other is_one cut.all_in unfit), refl)))

-- ---- digits

pub no_digit : (b : ℕ) → 10 ≤ digit_value b → is_digit b ≡ false
no_digit b large = elim (which (is_digit b)) [
  | inl e ↦ let within : (48 ≤ b) × (b ≤ 57) = grind (arith, nat_tests) in absurd (omega (arith, digit_value_digit b within, within))
  | inr e ↦ e
]
