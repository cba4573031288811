-- The longest front of a text, as a loop finds it.
use Rattle.std.proofs.Common.{◌≡◌, ℕ, ◌+◌, ◌<◌, ◌≤◌, Bool, true, false, List, ◌++◌, length, get_or, take, drop, refl, sym, ap, ◌∙◌, arith, take-add}
use Rattle.std.proofs.Math.Seq.{drop-cons, drop-length}
use Rattle.std.proofs.lemmas.List.{drop-drop, drop_at, take-append-drop, take_all, take_at}
use Rattle.std.proofs.lemmas.List.Folds.{list_all-append}
use Rattle.std.specs.List.{list_all}
use Rattle.byte_sets.specs.declared.sets.ByteSet.{ByteSet}
use Rattle.byte_sets.specs.Sets.{SplitsWhile, begins, is_in}

pub begins-drop : (test : ℕ → Bool) (text : List ℕ) (at : ℕ) → at < length text → begins test (drop at text) ≡ test (get_or text at 0)
begins-drop test text at within = rw (drop-cons text at 0) refl

pub splits_here : (set : ByteSet) (text front rest : List ℕ) (at : ℕ) → at < length text → list_all (is_in set) (take at text) ≡ true → is_in set (get_or text at 0) ≡ false
    → front ≡ take at text → rest ≡ drop at text → SplitsWhile set text front rest
splits_here set text front rest at within all_in stops front-is rest-is = record {
  parts = rw (front-is, rest-is) (sym (take-append-drop at text));
  all_in = rw front-is all_in;
  longest = rw rest-is (begins-drop (is_in set) text at within ∙ stops);
}

pub splits_nowhere : (set : ByteSet) (text front rest : List ℕ) (at : ℕ) → length text ≤ at → list_all (is_in set) (take at text) ≡ true
    → front ≡ take (length text) text → rest ≡ drop (length text) text → SplitsWhile set text front rest
splits_nowhere set text front rest at past all_in front-is rest-is = record {
  parts = rw (front-is, rest-is) (sym (take-append-drop (length text) text));
  all_in = rw (front-is, take_all (length text) text (omega arith)) (rw (take_all at text past) at all_in);
  longest = rw (rest-is, drop-length text) refl;
}

-- a front and more behind it pass together
pub all_more : (test : ℕ → Bool) (text : List ℕ) (at count : ℕ) → list_all test (take at text) ≡ true → list_all test (take count (drop at text)) ≡ true → list_all test (take (at + count) text) ≡ true
all_more test text at count front more = ap (list_all test) (take-add at count text) ∙ list_all-append test (take at text) (take count (drop at text)) ∙ rw (front, more) refl

-- behind bytes that pass the longest front goes on
pub splits_behind : (set : ByteSet) (text behind front rest first last : List ℕ) (at : ℕ) → list_all (is_in set) (take at text) ≡ true → behind ≡ drop at text → SplitsWhile set behind front rest
    → first ≡ take (at + length front) text → last ≡ drop (at + length front) text → SplitsWhile set text first last
splits_behind set text behind front rest first last at all_in behind-is cut first-is last-is =
    let parts : drop at text ≡ front ++ rest = sym behind-is ∙ cut.parts in
    let more : take (length front) (drop at text) ≡ front = ap (take (length front)) parts ∙ take_at front rest (length front) refl in
    let left : last ≡ rest = last-is ∙ sym (drop-drop (length front) at text) ∙ ap (drop (length front)) parts ∙ drop_at front rest (length front) refl in
    record {
      parts = rw (first-is, last-is) (sym (take-append-drop (at + length front) text));
      all_in = ap (list_all (is_in set)) first-is ∙ all_more (is_in set) text at (length front) all_in (ap (list_all (is_in set)) more ∙ cut.all_in);
      longest = ap (begins (is_in set)) left ∙ cut.longest;
    }
