-- A value that is right is not wrong, and a wrong one is wrong in one way.
use Rattle.std.proofs.Common.{◌≡◌, ℕ, ◌<◌, Bool, true, false, List, [], ◌∷◌, ◌++◌, length, Option, Some, None, refl, sym, ap, subst, ◌∙◌, append_assoc, arith}
use Rattle.std.proofs.Common.{inl, inr}
use Rattle.std.specs.Prelude.{MatchBool, codes, if◌then◌else◌}
use Rattle.std.specs.List.{list_all}
use Rattle.std.proofs.lemmas.Bool.{and_parts, true≢false}
use Rattle.byte_sets.specs.declared.sets.ByteSet.TheVariants.{AllBut}
use Rattle.capspec.specs.declared.fault.SpecFaultKind.{SpecFaultKind}
use Rattle.capspec.specs.declared.fault.SpecFaultKind.TheVariants as kinds
use Rattle.capspec.specs.declared.items.Key.{Key}
use Rattle.capspec.specs.declared.items.Key.TheVariants as keys
use Rattle.byte_sets.specs.Sets.{is_bare_path_byte, is_fs_name_byte, is_in}
use Rattle.capspec.specs.Bytes.{ends_word}
use Rattle.capspec.specs.Items.{IsBare, IsNumber, IsPath, IsQuotedBy, IsValue, Item, can_be_path, is_comma, key_of}
use Rattle.capspec.specs.Items.Item.{FsName, Gids, Path, RootSquash, Uid}
use Rattle.capspec.specs.Paths.{names_of}
use Rattle.capspec.specs.Separated.{AreSeparated}
use Rattle.capspec.specs.Words.{IsNoValue, IsWrongGids, IsWrongPath, IsWrongQuoted, IsWrongValue, front_while, gids_word, goes_on, is_digit, is_quote}
use Rattle.capspec.specs.Words.{plain_word, rest_while}
use Rattle.capspec.proofs.Fronts.{front_is, plain_is, rest_is}
use Rattle.capspec.proofs.Valued.{all_plain, bare_is_plain, digit_is_plain, fs_name_is_plain, gids_once, gids_word_is, not_quote, numeral_digits}
use Rattle.capspec.proofs.Valued.{quote_not_bare}

-- the value at the front of a text
abbrev path_word : List ℕ → List ℕ
path_word [] = []
path_word (b ∷ bs) = if is_quote b then b ∷ front_while (is_in (AllBut b)) bs ++ b ∷ [] else plain_word (b ∷ bs)

abbrev pub value_word : Key → List ℕ → List ℕ
value_word keys.FsName text = plain_word text
value_word keys.Path text = path_word text
value_word keys.Uid text = plain_word text
value_word keys.Gids text = gids_word text
value_word keys.RootSquash text = []

fs_name_word : (value rest : List ℕ) (name : Option (List ℕ)) → IsValue value (FsName name) → ends_word rest ≡ true → plain_word (value ++ rest) ≡ value
fs_name_word value rest None is ends = ap (λ (v : List ℕ). plain_word (v ++ rest)) is ∙ plain_is (codes "*") rest refl ends ∙ sym is
fs_name_word value rest (Some name) is ends = plain_is value rest (all_plain is_fs_name_byte fs_name_is_plain value (rw is.0 is.1.all_in)) ends

uid_word : (value rest : List ℕ) (uid : ℕ) → IsNumber value uid → ends_word rest ≡ true → plain_word (value ++ rest) ≡ value
uid_word value rest uid is ends = plain_is value rest (all_plain is_digit digit_is_plain value (numeral_digits value uid is)) ends

bare_word : (value rest path : List ℕ) → IsBare value path → 0 < length path → ends_word rest ≡ true → path_word (value ++ rest) ≡ value
bare_word [] rest path is some ends = absurd (omega (arith, ap length is.same))
bare_word (b ∷ bs) rest path is some ends =
    let all : list_all is_bare_path_byte (b ∷ bs) ≡ true = ap (list_all is_bare_path_byte) is.same ∙ is.all_in in
    rw (quote_not_bare b (and_parts (is_bare_path_byte b) (list_all is_bare_path_byte bs) all).0) (plain_is (b ∷ bs) rest (all_plain is_bare_path_byte bare_is_plain (b ∷ bs) all) ends)

quoted_front : (q : ℕ) (path rest : List ℕ) → list_all (is_in (AllBut q)) path ≡ true → front_while (is_in (AllBut q)) ((path ++ q ∷ []) ++ rest) ≡ path
quoted_front q path rest none_inside = ap (front_while (is_in (AllBut q))) (append_assoc path (q ∷ []) rest) ∙ front_is (is_in (AllBut q)) path (q ∷ rest) none_inside (not_quote q rest)

quoted_rest : (q : ℕ) (path rest : List ℕ) → list_all (is_in (AllBut q)) path ≡ true → rest_while (is_in (AllBut q)) ((path ++ q ∷ []) ++ rest) ≡ q ∷ rest
quoted_rest q path rest none_inside = ap (rest_while (is_in (AllBut q))) (append_assoc path (q ∷ []) rest) ∙ rest_is (is_in (AllBut q)) path (q ∷ rest) none_inside (not_quote q rest)

quoted_word : (q : ℕ) (value rest path : List ℕ) → is_quote q ≡ true → IsQuotedBy q value path → path_word (value ++ rest) ≡ value
quoted_word q value rest path quote is =
    ap (λ (v : List ℕ). path_word (v ++ rest)) is.parts ∙ rw quote (ap (λ (p : List ℕ). q ∷ p ++ q ∷ []) (quoted_front q path rest is.none_inside)) ∙ sym is.parts

path_is_long : (path : List ℕ) → can_be_path path ≡ true → 0 < length path
path_is_long [] fit = absurd (true≢false (sym fit))
path_is_long (b ∷ bs) fit = omega arith

path_word_is : (value rest path : List ℕ) → IsPath value path → ends_word rest ≡ true → path_word (value ++ rest) ≡ value
path_word_is value rest path is ends = elim is.written [
  | inl bare ↦ bare_word value rest path bare (path_is_long path is.fit) ends
  | inr (inl quoted) ↦ quoted_word 34 value rest path refl quoted
  | inr (inr quoted) ↦ quoted_word 39 value rest path refl quoted
]

pub value_word_is : (value rest : List ℕ) (item : Item) → IsValue value item → ends_word rest ≡ true → (key_of item ≡ keys.Gids → goes_on rest ≡ false) → value_word (key_of item) (value ++ rest) ≡ value
value_word_is value rest (FsName name) is ends whole = fs_name_word value rest name is ends
value_word_is value rest (Path names) is ends whole = path_word_is value rest is.0 is.1 ends
value_word_is value rest (Uid uid) is ends whole = uid_word value rest uid is ends
value_word_is value rest (Gids gids) is ends whole = gids_word_is value rest gids is.0 ends (whole refl)
value_word_is value rest RootSquash is ends whole = sym is

-- ---- right and wrong

-- a value that the text begins with is the value of the item
no_value : (key : Key) (value word : List ℕ) (item : Item) → IsValue value item → key_of item ≡ key → word ≡ value → IsNoValue key word → ⊥
no_value key value word item is keyed same none = none item keyed (subst (λ (v : List ℕ). IsValue v item) (sym same) is)

right_bare : (value rest path : List ℕ) (kind : SpecFaultKind) → IsPath value path → IsBare value path → ends_word rest ≡ true → IsWrongPath (value ++ rest) kind → ⊥
right_bare [] rest path kind is bare ends wrong = omega (arith, ap length bare.same, path_is_long path is.fit)
right_bare (b ∷ bs) rest path kind is bare ends wrong =
    let all : list_all is_bare_path_byte (b ∷ bs) ≡ true = ap (list_all is_bare_path_byte) bare.same ∙ bare.all_in in
    let whole : IsWrongPath (b ∷ (bs ++ rest)) kind = wrong in
    let at_bare = rw (quote_not_bare b (and_parts (is_bare_path_byte b) (list_all is_bare_path_byte bs) all).0) at whole in
    no_value keys.Path (b ∷ bs) (plain_word ((b ∷ bs) ++ rest)) (Path (names_of path)) (path, is, refl) refl (plain_is (b ∷ bs) rest (all_plain is_bare_path_byte bare_is_plain (b ∷ bs) all) ends) at_bare.0

right_quoted : (q : ℕ) (value rest path : List ℕ) (kind : SpecFaultKind) → is_quote q ≡ true → IsPath value path → IsQuotedBy q value path → ends_word rest ≡ true → IsWrongPath (value ++ rest) kind → ⊥
right_quoted q value rest path kind quote is quoted ends wrong =
    let whole : IsWrongPath (q ∷ ((path ++ q ∷ []) ++ rest)) kind = subst (λ (v : List ℕ). IsWrongPath (v ++ rest) kind) quoted.parts wrong in
    let at_quote : IsWrongQuoted q (front_while (is_in (AllBut q)) ((path ++ q ∷ []) ++ rest)) (rest_while (is_in (AllBut q)) ((path ++ q ∷ []) ++ rest)) kind = rw quote at whole in
    let split : IsWrongQuoted q path (q ∷ rest) kind = rw (quoted_front q path rest quoted.none_inside, quoted_rest q path rest quoted.none_inside) at at_quote in
    let closed : IsNoValue keys.Path (q ∷ path ++ q ∷ []) × (kind ≡ kinds.BadPath) = rw ends at split in
    no_value keys.Path value (q ∷ path ++ q ∷ []) (Path (names_of path)) (path, is, refl) refl (sym quoted.parts) closed.0

right_path : (value rest path : List ℕ) (kind : SpecFaultKind) → IsPath value path → ends_word rest ≡ true → IsWrongPath (value ++ rest) kind → ⊥
right_path value rest path kind is ends wrong = elim is.written [
  | inl bare ↦ right_bare value rest path kind is bare ends wrong
  | inr (inl quoted) ↦ right_quoted 34 value rest path kind refl is quoted ends wrong
  | inr (inr quoted) ↦ right_quoted 39 value rest path kind refl is quoted ends wrong
]

right_gids : (value word gids : List ℕ) (kind : SpecFaultKind) → IsValue value (Gids gids) → word ≡ value → IsWrongGids word kind → ⊥
right_gids value word gids kind is same (inl none) = none.0 gids (subst (λ (v : List ℕ). AreSeparated is_comma IsNumber v gids) (sym same) is.0)
right_gids value word gids kind is same (inr many) =
    let listed : gids ≡ many.0 = gids_once value gids many.0 is.0 (subst (λ (v : List ℕ). AreSeparated is_comma IsNumber v many.0) same many.1) in
    omega (arith, ap length listed, is.1, many.2)

pub right_value : (value rest : List ℕ) (item : Item) (kind : SpecFaultKind) → IsValue value item → ends_word rest ≡ true → (key_of item ≡ keys.Gids → goes_on rest ≡ false) → IsWrongValue (key_of item) (value ++ rest) kind → ⊥
right_value value rest (FsName name) kind is ends whole wrong = no_value keys.FsName value (plain_word (value ++ rest)) (FsName name) is refl (fs_name_word value rest name is ends) wrong.0
right_value value rest (Path names) kind is ends whole wrong = right_path value rest is.0 kind is.1 ends wrong
right_value value rest (Uid uid) kind is ends whole wrong = no_value keys.Uid value (plain_word (value ++ rest)) (Uid uid) is refl (uid_word value rest uid is ends) wrong.0
right_value value rest (Gids gids) kind is ends whole wrong = right_gids value (gids_word (value ++ rest)) gids kind is (gids_word_is value rest gids is.0 ends (whole refl)) wrong
right_value value rest RootSquash kind is ends whole wrong = wrong

-- one kind of fault
one_of : (b : Bool) (P : Type 0) (kind other wrong else_wrong : SpecFaultKind) → MatchBool b (P × (kind ≡ wrong)) (kind ≡ else_wrong) → MatchBool b (P × (other ≡ wrong)) (other ≡ else_wrong) → kind ≡ other
one_of true P kind other wrong else_wrong a b = a.1 ∙ sym b.1
one_of false P kind other wrong else_wrong a b = a ∙ sym b

quoted_wrong_once : (q : ℕ) (path closing : List ℕ) (kind other : SpecFaultKind) → IsWrongQuoted q path closing kind → IsWrongQuoted q path closing other → kind ≡ other
quoted_wrong_once q path [] kind other a b = a ∙ sym b
quoted_wrong_once q path (c ∷ behind) kind other a b = one_of (ends_word behind) _ kind other _ _ a b

either : (b : Bool) (P Q : SpecFaultKind → Type 0) (kind other : SpecFaultKind) → (P kind → P other → kind ≡ other) → (Q kind → Q other → kind ≡ other) → MatchBool b (P kind) (Q kind) → MatchBool b (P other) (Q other) → kind ≡ other
either true P Q kind other p q a b = p a b
either false P Q kind other p q a b = q a b

path_wrong_once : (text : List ℕ) (kind other : SpecFaultKind) → IsWrongPath text kind → IsWrongPath text other → kind ≡ other
path_wrong_once [] kind other a b = a ∙ sym b
path_wrong_once (c ∷ cs) kind other a b =
    either (is_quote c) (λ k. IsWrongQuoted c (front_while (is_in (AllBut c)) cs) (rest_while (is_in (AllBut c)) cs) k) (λ k. IsNoValue keys.Path (plain_word (c ∷ cs)) × (k ≡ kinds.BadPath)) kind other
    (quoted_wrong_once c (front_while (is_in (AllBut c)) cs) (rest_while (is_in (AllBut c)) cs) kind other) (λ p q. p.1 ∙ sym q.1) a b

gids_wrong_once : (value : List ℕ) (kind other : SpecFaultKind) → IsWrongGids value kind → IsWrongGids value other → kind ≡ other
gids_wrong_once value kind other (inl a) (inl b) = a.1 ∙ sym b.1
gids_wrong_once value kind other (inl a) (inr b) = absurd (a.0 b.0 b.1)
gids_wrong_once value kind other (inr a) (inl b) = absurd (b.0 a.0 a.1)
gids_wrong_once value kind other (inr a) (inr b) = a.3 ∙ sym b.3

pub value_wrong_once : (key : Key) (text : List ℕ) (kind other : SpecFaultKind) → IsWrongValue key text kind → IsWrongValue key text other → kind ≡ other
value_wrong_once keys.FsName text kind other a b = a.1 ∙ sym b.1
value_wrong_once keys.Path text kind other a b = path_wrong_once text kind other a b
value_wrong_once keys.Uid text kind other a b = a.1 ∙ sym b.1
value_wrong_once keys.Gids text kind other a b = gids_wrong_once (gids_word text) kind other a b
value_wrong_once keys.RootSquash text kind other a b = absurd a
