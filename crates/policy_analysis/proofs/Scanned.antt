-- The items of a grant, one after the other.
use Rattle.std.proofs.Common.{◌≡◌, ℕ, ◌<◌, true, false, List, [], ◌∷◌, ◌++◌, length, Some, None, Option, refl, sym, ap, ◌∙◌, append_assoc, arith}
use Rattle.std.specs.Option.{option_or}
use Rattle.std.proofs.lemmas.Bool.{true≢false}
use Rattle.byte_sets.specs.Sets.{is_white}
use Rattle.capspec.specs.Bytes.{ends_grant}
use Rattle.capspec.specs.Items.{Item, key_of}
use Rattle.capspec.specs.Words.{next}
use Rattle.capspec.proofs.Fronts.{rest_is, rest_stops}
use Rattle.capspec.proofs.Complete.{item_goes_on, item_letter}
use Rattle.capspec.specs.declared.items.Key.{Key}
use Rattle.policy_analysis.specs.declared.unread.Unread.{Unread}
use Rattle.policy_analysis.specs.Scanning.{HasItems, behind_item, key_at, wrong_at}
use Rattle.policy_analysis.specs.Ceph16Syntax.{first_wrong, wrong_behind}
use Rattle.policy_analysis.proofs.Words.{behind_item_is, item_shorter, key_at_is, next_shorter, words_end, wrong_at_is}

-- What is left of the items at the place where a loop over them stands: with what it found and the last key, their first reason is what is to be told.
pub record IsLeft (rest : List ℕ) (last : Option Key) (found reported : Option Unread) (tail : List ℕ) : Type 0 where
  pub left : List Item
  pub has : HasItems rest left tail
  pub same : option_or found (first_wrong last left) ≡ reported

-- the text from the first of them on
here : (rest : List ℕ) (item : Item) (left : List Item) (tail : List ℕ) (has : HasItems rest (item ∷ left) tail) → next rest ≡ has.are_words.1 ++ (has.are_words.2 ++ tail)
here rest item left tail has =
    let are = has.are_words in
    let from : List ℕ = are.1 ++ (are.2 ++ tail) in
    let whole : rest ≡ are.0 ++ from = has.parts ∙ ap (λ (t : List ℕ). t ++ tail) are.3 ∙ simp append_assoc in
    ap next whole ∙ rest_is is_white are.0 from are.4.0 (item_letter are.1 (are.2 ++ tail) item are.5)

pub left_all : (text : List ℕ) (before : Option Unread) (items : List Item) (tail : List ℕ) → HasItems text items tail → IsLeft text None before (option_or before (first_wrong None items)) tail
left_all text before items tail has = record { left = items; has = has; same = refl }

-- ---- at the end

or_none : (found : Option Unread) → option_or found None ≡ found
or_none None = refl
or_none (Some why) = refl

at_end : (rest : List ℕ) (left : List Item) (tail : List ℕ) → HasItems rest left tail → ends_grant (next rest) ≡ true → (left ≡ []) × (rest ≡ tail)
at_end rest [] tail has ends = (refl, has.parts ∙ ap (λ (t : List ℕ). t ++ tail) has.are_words)
at_end rest (item ∷ left) tail has ends = absurd (true≢false (sym ends ∙ ap ends_grant (here rest item left tail has) ∙ item_goes_on has.are_words.1 (has.are_words.2 ++ tail) item has.are_words.5))

pub found_all : (rest : List ℕ) (last : Option Key) (found reported : Option Unread) (tail : List ℕ) → IsLeft rest last found reported tail → ends_grant (next rest) ≡ true → (found ≡ reported) × (rest ≡ tail)
found_all rest last found reported tail is ends =
    let end = at_end rest is.left tail is.has ends in
    (sym (or_none found) ∙ ap (λ (left : List Item). option_or found (first_wrong last left)) (sym end.0) ∙ is.same, end.1)

-- ---- one item more

or_assoc : (a b c : Option Unread) → option_or (option_or a b) c ≡ option_or a (option_or b c)
or_assoc None b c = refl
or_assoc (Some why) b c = refl

behind_one : (rest : List ℕ) (item : Item) (left : List Item) (tail : List ℕ) → HasItems rest (item ∷ left) tail → HasItems (behind_item (next rest)) left tail
behind_one rest item left tail has =
    let are = has.are_words in
    record {
      words = are.2;
      parts = ap behind_item (here rest item left tail has) ∙ behind_item_is are.1 (are.2 ++ tail) item are.5 (words_end are.2 tail left are.6 has.word_ends);
      are_words = are.6;
      word_ends = has.word_ends;
      grant_ends = has.grant_ends;
    }

module _ (rest : List ℕ) (last : Option Key) (found reported : Option Unread) (tail : List ℕ) (goes_on : ends_grant (next rest) ≡ false) where
  one_less : (left : List Item) → HasItems rest left tail → option_or found (first_wrong last left) ≡ reported
      → IsLeft (behind_item (next rest)) (Some (key_at (next rest))) (option_or found (wrong_at last (next rest))) reported tail
  one_less [] has same =
      let at : rest ≡ tail = has.parts ∙ ap (λ (t : List ℕ). t ++ tail) has.are_words in
      absurd (true≢false (sym has.grant_ends ∙ ap (λ (t : List ℕ). ends_grant (next t)) (sym at) ∙ goes_on))
  one_less (item ∷ left) has same =
      let are = has.are_words in
      let at : next rest ≡ are.1 ++ (are.2 ++ tail) = here rest item left tail has in
      let key : key_at (next rest) ≡ key_of item = ap key_at at ∙ key_at_is are.1 (are.2 ++ tail) item are.5 in
      let wrong : wrong_at last (next rest) ≡ wrong_behind last item = ap (wrong_at last) at ∙ wrong_at_is last are.1 (are.2 ++ tail) item are.5 in
      record {
        left = left;
        has = behind_one rest item left tail has;
        same = ap (λ (k : Key). option_or (option_or found (wrong_at last (next rest))) (first_wrong (Some k) left)) key
            ∙ ap (λ (w : Option Unread). option_or (option_or found w) (first_wrong (Some (key_of item)) left)) wrong
            ∙ or_assoc found (wrong_behind last item) (first_wrong (Some (key_of item)) left) ∙ same;
      }

  pub left_behind : IsLeft rest last found reported tail → IsLeft (behind_item (next rest)) (Some (key_at (next rest))) (option_or found (wrong_at last (next rest))) reported tail
  left_behind is = one_less is.left is.has is.same

pub rest_shorter : (rest : List ℕ) → ends_grant (next rest) ≡ false → length (behind_item (next rest)) < length rest
rest_shorter rest goes_on = omega (arith, item_shorter (next rest) (rest_stops is_white rest) goes_on, next_shorter rest)
