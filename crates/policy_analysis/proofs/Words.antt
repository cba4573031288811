-- What follows the words of a text that reads.
use Rattle.std.proofs.Common.{◌≡◌, ℕ, ◌<◌, ◌≤◌, Bool, true, false, eqb, not, ◌||◌, List, [], ◌∷◌, ◌++◌, length, drop, Some, None, Option, refl, sym, ap, ◌∙◌}
use Rattle.std.proofs.Common.{append_assoc, arith, inl, inr}
use Rattle.std.specs.Prelude.{codes, nat_eq}
use Rattle.std.specs.List.{list_all, starts_with}
use Rattle.std.proofs.lemmas.Bool.{and_parts, not-true, true≢false}
use Rattle.std.proofs.lemmas.Bool.Decides.{nat_tests}
use Rattle.std.proofs.lemmas.List.{append_cancel_left, length-drop}
use Rattle.byte_sets.specs.Sets.{begins, is_bare_path_byte, is_fs_name_byte, is_mark, is_white}
use Rattle.capspec.specs.Bytes.{ends_grant, ends_word}
use Rattle.capspec.specs.Grants.{AreWordsOf, IsGap}
use Rattle.capspec.specs.Items.{IsItem, IsNumber, IsPath, Item, can_be_path, is_comma, key_of}
use Rattle.capspec.specs.Items.Item.{FsName, Gids, Path, RootSquash, Uid}
use Rattle.capspec.specs.Names.{IsFsName}
use Rattle.capspec.specs.Separated.{AreSeparated}
use Rattle.capspec.specs.Words.{gids_word, goes_on, is_digit, next}
use Rattle.capspec.proofs.Fronts.{not_byte, which}
use Rattle.capspec.proofs.Taken.{empty_unfit}
use Rattle.capspec.proofs.Valued.{all_plain, bare_is_plain, digit_is_plain, fs_name_is_plain, gids_word_is, numeral_digits}
use Rattle.capspec.specs.declared.items.Key.{Key}
use Rattle.policy_analysis.specs.Scanning.{behind_item, behind_quote, behind_word, can_end, key_at, wrong_at}
use Rattle.policy_analysis.specs.Ceph16Syntax.{wrong_behind}

-- ---- where words end

-- a byte of a word without quotes
abbrev pub is_plain : ℕ → Bool
is_plain b = not (is_white b || is_mark b)

pub white_ends : (b : ℕ) (bs : List ℕ) → is_white b ≡ true → can_end (b ∷ bs) ≡ true
white_ends b bs white = rw (white, not_byte is_white b 44 white refl) refl

pub gap_ends : (gap tail : List ℕ) → IsGap gap → can_end (gap ++ tail) ≡ true
gap_ends [] tail is = absurd (omega (arith, is.1))
gap_ends (g ∷ gs) tail is = white_ends g (gs ++ tail) (and_parts (is_white g) (list_all is_white gs) is.0).0

pub words_end : (words tail : List ℕ) (items : List Item) → AreWordsOf words items → can_end tail ≡ true → can_end (words ++ tail) ≡ true
words_end words tail [] are ends = ap (λ (t : List ℕ). can_end (t ++ tail)) are ∙ ends
words_end words tail (item ∷ items) are ends =
    ap (λ (t : List ℕ). can_end (t ++ tail)) are.3 ∙ ap can_end (append_assoc are.0 (are.1 ++ are.2) tail) ∙ gap_ends are.0 ((are.1 ++ are.2) ++ tail) are.4

pub behind_plain : (word tail : List ℕ) → list_all is_plain word ≡ true → can_end tail ≡ true → behind_word (word ++ tail) ≡ tail
behind_plain [] [] all ends = refl
behind_plain [] (b ∷ bs) all ends = rw ends refl
behind_plain (b ∷ bs) tail all ends =
    let both = and_parts (is_plain b) (list_all is_plain bs) all in
    rw (not-true (is_white b || is_mark b) both.0) (behind_plain bs tail both.1 ends)

word_parts : (text : List ℕ) → text ≡ gids_word text ++ behind_word text
word_parts [] = refl
word_parts (b ∷ bs) = elim (which (can_end (b ∷ bs))) [ inl e ↦ rw e refl | inr e ↦ rw e (ap (λ (t : List ℕ). b ∷ t) (word_parts bs)) ]

behind_numbers : (value tail gids : List ℕ) → AreSeparated is_comma IsNumber value gids → can_end tail ≡ true → behind_word (value ++ tail) ≡ tail
behind_numbers value tail gids row ends =
    let both = and_parts (ends_word tail) (not (goes_on tail)) ends in
    let front : gids_word (value ++ tail) ≡ value = gids_word_is value tail gids row both.0 (not-true (goes_on tail) both.1) in
    append_cancel_left value (behind_word (value ++ tail)) tail (sym (word_parts (value ++ tail) ∙ ap (λ (t : List ℕ). t ++ behind_word (value ++ tail)) front))

-- ---- where items end

no_double : (b : ℕ) → is_bare_path_byte b ≡ true → eqb 34 b ≡ false
no_double b bare = grind (arith, nat_tests)

no_single : (b : ℕ) → is_bare_path_byte b ≡ true → eqb 39 b ≡ false
no_single b bare = grind (arith, nat_tests)

no_star : (b : ℕ) → is_fs_name_byte b ≡ true → eqb 42 b ≡ false
no_star b named = grind (arith, nat_tests)

same : (n : ℕ) → eqb n n ≡ true
same n = grind (arith, nat_tests)

behind_quoted : (quote : ℕ) (path tail : List ℕ) → list_all (λ b. not (eqb b quote)) path ≡ true → behind_quote quote ((path ++ quote ∷ []) ++ tail) ≡ tail
behind_quoted quote [] tail all = rw (same quote) refl
behind_quoted quote (b ∷ bs) tail all =
    let both = and_parts (not (eqb b quote)) (list_all (λ b. not (eqb b quote)) bs) all in
    rw (not-true (eqb b quote) both.0) (behind_quoted quote bs tail both.1)

behind_bare : (value tail : List ℕ) → can_be_path value ≡ true → list_all is_bare_path_byte value ≡ true → can_end tail ≡ true → behind_item (codes "path=" ++ (value ++ tail)) ≡ tail
behind_bare [] tail fit all ends = absurd (empty_unfit [] refl fit)
behind_bare (b ∷ bs) tail fit all ends =
    let first = (and_parts (is_bare_path_byte b) (list_all is_bare_path_byte bs) all).0 in
    rw (no_double b first, no_single b first) (behind_plain (codes "path=" ++ b ∷ bs) tail (all_plain is_bare_path_byte bare_is_plain (b ∷ bs) all) ends)

behind_path : (value path tail : List ℕ) → IsPath value path → can_end tail ≡ true → behind_item (codes "path=" ++ (value ++ tail)) ≡ tail
behind_path value path tail is ends = elim is.written [
  | inl bare ↦ behind_bare value tail (ap can_be_path bare.same ∙ is.fit) (ap (list_all is_bare_path_byte) bare.same ∙ bare.all_in) ends
  | inr (inl quoted) ↦ ap (λ (t : List ℕ). behind_item (codes "path=" ++ (t ++ tail))) quoted.parts ∙ behind_quoted 34 path tail quoted.none_inside
  | inr (inr quoted) ↦ ap (λ (t : List ℕ). behind_item (codes "path=" ++ (t ++ tail))) quoted.parts ∙ behind_quoted 39 path tail quoted.none_inside
]

pub behind_item_is : (word tail : List ℕ) (item : Item) → IsItem word item → can_end tail ≡ true → behind_item (word ++ tail) ≡ tail
behind_item_is word tail (FsName None) is ends = rw (is.1, is.2) (behind_plain [] tail refl ends)
behind_item_is word tail (FsName (Some name)) is ends = rw (is.1, is.2.0) (behind_plain name tail (all_plain is_fs_name_byte fs_name_is_plain name is.2.1.all_in) ends)
behind_item_is word tail (Path names) is ends = ap (λ (w : List ℕ). behind_item (w ++ tail)) is.1 ∙ behind_path is.0 is.2.0 tail is.2.1 ends
behind_item_is word tail (Uid uid) is ends = rw is.1 (behind_plain is.0 tail (all_plain is_digit digit_is_plain is.0 (numeral_digits is.0 uid is.2)) ends)
behind_item_is word tail (Gids gids) is ends = rw is.1 (behind_numbers is.0 tail gids is.2.0 ends)
behind_item_is word tail RootSquash is ends = rw (is.1, is.2) (behind_plain [] tail refl ends)

-- ---- what the front of an item tells

pub key_at_is : (word tail : List ℕ) (item : Item) → IsItem word item → key_at (word ++ tail) ≡ key_of item
key_at_is word tail (FsName name) is = rw is.1 refl
key_at_is word tail (Path names) is = rw is.1 refl
key_at_is word tail (Uid uid) is = rw is.1 refl
key_at_is word tail (Gids gids) is = rw is.1 refl
key_at_is word tail RootSquash is = rw is.1 refl

no_star_in : (name tail : List ℕ) → IsFsName name → starts_with nat_eq (codes "fsname=" ++ (name ++ tail)) (codes "fsname=*") ≡ false
no_star_in [] tail is = absurd (omega (arith, is.some))
no_star_in (b ∷ bs) tail is = rw (no_star b (and_parts (is_fs_name_byte b) (list_all is_fs_name_byte bs) is.all_in).0) refl

pub wrong_at_is : (last : Option Key) (word tail : List ℕ) (item : Item) → IsItem word item → wrong_at last (word ++ tail) ≡ wrong_behind last item
wrong_at_is last word tail (FsName None) is = rw (is.1, is.2) refl
wrong_at_is last word tail (FsName (Some name)) is = rw (is.1, is.2.0) (rw (no_star_in name tail is.2.1) refl)
wrong_at_is last word tail (Path names) is = rw is.1 refl
wrong_at_is last word tail (Uid uid) is = rw is.1 refl
wrong_at_is last word tail (Gids gids) is = rw is.1 refl
wrong_at_is last word tail RootSquash is = rw is.1 refl

-- ---- what follows is shorter

pub next_shorter : (text : List ℕ) → length (next text) ≤ length text
next_shorter [] = omega arith
next_shorter (b ∷ bs) = elim (which (is_white b)) [ inl e ↦ rw e (omega (arith, next_shorter bs)) | inr e ↦ rw e (omega arith) ]

pub word_shorter : (text : List ℕ) → length (behind_word text) ≤ length text
word_shorter [] = omega arith
word_shorter (b ∷ bs) = elim (which (can_end (b ∷ bs))) [ inl e ↦ rw e (omega arith) | inr e ↦ rw e (omega (arith, word_shorter bs)) ]

quote_shorter : (quote : ℕ) (text : List ℕ) → length (behind_quote quote text) ≤ length text
quote_shorter quote [] = omega arith
quote_shorter quote (b ∷ bs) = elim (which (eqb b quote)) [ inl e ↦ rw e (omega arith) | inr e ↦ rw e (omega (arith, quote_shorter quote bs)) ]

inside_shorter : (quote b : ℕ) (bs : List ℕ) → length (behind_quote quote (drop 5 bs)) ≤ length bs
inside_shorter quote b bs = omega (arith, quote_shorter quote (drop 5 bs), length-drop 5 bs)

ends_not : (b : ℕ) (bs : List ℕ) → is_white b ≡ false → is_mark b ≡ false → can_end (b ∷ bs) ≡ false
ends_not b bs white mark = rw (white, mark) refl

pub item_shorter : (text : List ℕ) → begins is_white text ≡ false → ends_grant text ≡ false → length (behind_item text) < length text
item_shorter [] white mark = absurd (true≢false mark)
item_shorter (b ∷ bs) white mark =
    let plain : length (behind_word (b ∷ bs)) ≤ length bs = rw (ends_not b bs white mark) (word_shorter bs) in
    elim (which (starts_with nat_eq (b ∷ bs) (codes "path=\""))) [
      | inl e ↦ rw e (omega (arith, inside_shorter 34 b bs))
      | inr e ↦ rw e (elim (which (starts_with nat_eq (b ∷ bs) (codes "path='"))) [
        | inl f ↦ rw f (omega (arith, inside_shorter 39 b bs))
        | inr f ↦ rw f (omega (arith, plain))
      ])
    ]
