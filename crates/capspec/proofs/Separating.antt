-- Texts of things in a row, read from the left.
use Rattle.std.proofs.Common.{◌≡◌, ◌⊎◌, ℕ, ◌<◌, ◌≤◌, Bool, true, false, not, ◌||◌, ◌&&◌, List, [], ◌∷◌, ◌++◌, length, refl, sym, ap, subst, ◌∙◌, inl, inr}
use Rattle.std.proofs.Common.{append_assoc, arith, length-append}
use Rattle.std.specs.Prelude.{IsTrue, ◌↔◌}
use Rattle.std.specs.Bool.{OnFalse, OnTrue}
use Rattle.std.specs.List.{AllByRecursion, list_all, slice_split}
use Rattle.std.proofs.lemmas.Bool.{and_parts, cases_lt, eqb-true, true≢false}
use Rattle.std.proofs.lemmas.List.{append-nil}
use Rattle.std.proofs.lemmas.List.Elements.{All-from_recursion}
use Rattle.std.proofs.lemmas.List.Folds.{list_all-append}
use Rattle.std.proofs.lemmas.List.Splits.{slice_split_at, slice_split_none}
use Rattle.capspec.specs.declared.fault.SpecFaultKind.TheVariants as kinds
use Rattle.byte_sets.specs.Sets.{begins}
use Rattle.capspec.specs.Bytes.{TakesWord, ends_word}
use Rattle.capspec.specs.Separated.{AreSeparated}
use Rattle.capspec.specs.Items.{IsNumber, IsValue, is_comma}
use Rattle.capspec.specs.Items.Item.{Gids}
use Rattle.capspec.specs.Words.{IsWrongGids, front_while, gids_word, goes_on, is_digit, rest_while}
use Rattle.capspec.proofs.Fronts.{front_all, front_parts, rest_stops, which}
use Rattle.capspec.proofs.Valued.{IsNumeric, gids_word-comma, gids_word-digits, gids_word-stop, no_commas, numeral_digits, pieces_are, split_first}

module _ {A : Type 0} (separates : ℕ → Bool) (Is : List ℕ → A → Type 0) where
  -- what stands before the next thing of a row: nothing, or the things so far and a mark
  abbrev pub IsBefore : List ℕ → List A → Type 0
  IsBefore done [] = done ≡ []
  IsBefore done (x ∷ xs) = (text : List ℕ) × (mark : ℕ) × (done ≡ text ++ mark ∷ []) × IsTrue (separates mark) × AreSeparated separates Is text (x ∷ xs)

  one_more : (text t : List ℕ) (mark : ℕ) (x : A) (xs : List A) (y : A) → AreSeparated separates Is text (x ∷ xs) → IsTrue (separates mark) → Is t y → AreSeparated separates Is (text ++ mark ∷ t) (x ∷ (xs ++ y ∷ []))
  one_more text t mark x [] y row is_one is_y = (text, t, mark, refl, is_one, row, is_y)
  one_more text t mark x (z ∷ zs) y row is_one is_y =
      (row.0, row.1 ++ mark ∷ t, row.2, ap (λ (s : List ℕ). s ++ mark ∷ t) row.3 ∙ append_assoc row.0 (row.2 ∷ row.1) (mark ∷ t), row.4, row.5, one_more row.1 t mark z zs y row.6 is_one is_y)

  -- the next thing of the row
  pub joined : (done t : List ℕ) (xs : List A) (y : A) → IsBefore done xs → Is t y → AreSeparated separates Is (done ++ t) (xs ++ y ∷ [])
  joined done t [] y before is_y = subst (λ (s : List ℕ). Is (s ++ t) y) (sym before) is_y
  joined done t (x ∷ xs) y before is_y =
      subst (λ (s : List ℕ). AreSeparated separates Is s (x ∷ (xs ++ y ∷ []))) (sym (ap (λ (s : List ℕ). s ++ t) before.2 ∙ append_assoc before.0 (before.1 ∷ []) t))
      (one_more before.0 t before.1 x xs y before.4 before.3 is_y)

  -- and a mark behind it
  pub marked : (text : List ℕ) (mark : ℕ) (xs : List A) → AreSeparated separates Is text xs → IsTrue (separates mark) → IsBefore (text ++ mark ∷ []) xs
  marked text mark [] row is_one = absurd row
  marked text mark (x ∷ xs) row is_one = (text, mark, refl, is_one, row)

-- the numbers of a gids item up to a place, of which those in gids are all while all fit
pub record HasGids (text rest : List ℕ) (all_fit : Bool) (gids : List ℕ) : Type 0 where
  pub done : List ℕ
  pub numbers : List ℕ
  pub pieces : List (List ℕ)
  pub parts : text ≡ done ++ rest
  pub before : IsBefore is_comma IsNumber done numbers
  pub word : gids_word text ≡ done ++ gids_word rest
  pub split : (more : List ℕ) → slice_split is_comma (done ++ more) ≡ pieces ++ slice_split is_comma more
  pub kept : all_fit ≡ true → gids ≡ numbers
  pub few : length gids ≤ 16
  pub over : all_fit ≡ false → 16 < length numbers

few_more : (pushed : Bool) (gid : ℕ) (old new : List ℕ) → IsTrue pushed ↔ (length old < 16) → OnTrue pushed (new ≡ old ++ gid ∷ []) → OnFalse pushed (new ≡ old) → length old ≤ 16 → length new ≤ 16
few_more true gid old new room added full few = let less : length old < 16 = room.0 refl in rw added (omega (arith, length-append old (gid ∷ [])))
few_more false gid old new room added full few = rw full few

was_added : (pushed : Bool) (gid : ℕ) (old new : List ℕ) → OnTrue pushed (new ≡ old ++ gid ∷ []) → pushed ≡ true → new ≡ old ++ gid ∷ []
was_added true gid old new added e = added
was_added false gid old new added e = absurd (cc)

kept_more : (all_fit pushed : Bool) (gid : ℕ) (old new numbers : List ℕ) → (all_fit ≡ true → old ≡ numbers) → OnTrue pushed (new ≡ old ++ gid ∷ []) → (all_fit && pushed) ≡ true → new ≡ numbers ++ gid ∷ []
kept_more all_fit pushed gid old new numbers kept added both =
    let parts = and_parts all_fit pushed both in
    was_added pushed gid old new added parts.1 ∙ ap (λ (s : List ℕ). s ++ gid ∷ []) (kept parts.0)

is_full : (pushed : Bool) (old : List ℕ) → IsTrue pushed ↔ (length old < 16) → pushed ≡ false → 16 ≤ length old
is_full pushed old room full = elim (cases_lt (length old) 16) [ inl lt ↦ absurd (true≢false (sym (room.1 lt) ∙ full)) | inr le ↦ le ]

over_more : (all_fit pushed : Bool) (gid : ℕ) (old numbers : List ℕ) → (all_fit ≡ true → old ≡ numbers) → (all_fit ≡ false → 16 < length numbers) → IsTrue pushed ↔ (length old < 16) → (all_fit && pushed) ≡ false → 16 < length (numbers ++ gid ∷ [])
over_more true pushed gid old numbers kept over room full = omega (arith, is_full pushed old room full, ap length (kept refl), length-append numbers (gid ∷ []))
over_more false pushed gid old numbers kept over room full = omega (arith, over refl, length-append numbers (gid ∷ []))

-- the number at the front of a text
abbrev pub digits_of : List ℕ → List ℕ
digits_of text = front_while is_digit text

pub more_gids : (text rest after more : List ℕ) (all_fit pushed : Bool) (gid : ℕ) (old new : List ℕ) → HasGids text rest all_fit old → IsNumber (digits_of rest) gid → after ≡ rest_while is_digit rest → after ≡ 44 ∷ more → begins is_digit more ≡ true
    → IsTrue pushed ↔ (length old < 16) → OnTrue pushed (new ≡ old ++ gid ∷ []) → OnFalse pushed (new ≡ old) → HasGids text more (all_fit && pushed) new
more_gids text rest after more all_fit pushed gid old new so_far is after-is comma digit room added full =
    let digits : List ℕ = digits_of rest in
    let here : rest ≡ digits ++ 44 ∷ more = front_parts is_digit rest ∙ ap (λ (s : List ℕ). digits ++ s) (sym after-is ∙ comma) in
    let word_here : gids_word rest ≡ digits ++ 44 ∷ gids_word more = ap gids_word here ∙ gids_word-digits digits (44 ∷ more) (front_all is_digit rest) ∙ ap (λ (s : List ℕ). digits ++ s) (gids_word-comma more digit) in
    record {
      done = (so_far.done ++ digits) ++ 44 ∷ [];
      numbers = so_far.numbers ++ gid ∷ [];
      pieces = so_far.pieces ++ digits ∷ [];
      parts = so_far.parts ∙ ap (λ (s : List ℕ). so_far.done ++ s) here ∙ simp append_assoc;
      before = marked is_comma IsNumber (so_far.done ++ digits) 44 (so_far.numbers ++ gid ∷ []) (joined is_comma IsNumber so_far.done digits so_far.numbers gid so_far.before is) refl;
      word = so_far.word ∙ ap (λ (s : List ℕ). so_far.done ++ s) word_here ∙ simp append_assoc;
      split = λ w.
          let regrouped : ((so_far.done ++ digits) ++ 44 ∷ []) ++ w ≡ so_far.done ++ (digits ++ 44 ∷ w) = simp append_assoc in
          ap (slice_split is_comma) regrouped ∙ so_far.split (digits ++ 44 ∷ w) ∙ ap (λ (p : List (List ℕ)). so_far.pieces ++ p) (split_first digits w 44 gid is refl) ∙ sym (append_assoc so_far.pieces (digits ∷ []) (slice_split is_comma w));
      kept = kept_more all_fit pushed gid old new so_far.numbers so_far.kept added;
      few = few_more pushed gid old new room added full so_far.few;
      over = over_more all_fit pushed gid old so_far.numbers so_far.kept so_far.over room;
    }

pub all_gids : (text rest after : List ℕ) (all_fit pushed : Bool) (gid : ℕ) (old new : List ℕ) → HasGids text rest all_fit old → IsNumber (digits_of rest) gid → after ≡ rest_while is_digit rest → ends_word after ≡ true
    → IsTrue pushed ↔ (length old < 16) → OnTrue pushed (new ≡ old ++ gid ∷ []) → OnFalse pushed (new ≡ old) → (all_fit && pushed) ≡ true → TakesWord (λ value. IsValue value (Gids new)) text after
all_gids text rest after all_fit pushed gid old new so_far is after-is ends room added full fit =
    let digits : List ℕ = digits_of rest in
    let here : rest ≡ digits ++ after = front_parts is_digit rest ∙ ap (λ (s : List ℕ). digits ++ s) (sym after-is) in
    let same : new ≡ so_far.numbers ++ gid ∷ [] = kept_more all_fit pushed gid old new so_far.numbers so_far.kept added fit in (
      record {
        front = so_far.done ++ digits;
        parts = so_far.parts ∙ ap (λ (s : List ℕ). so_far.done ++ s) here ∙ sym (append_assoc so_far.done digits after);
        holds = (subst (λ (ns : List ℕ). AreSeparated is_comma IsNumber (so_far.done ++ digits) ns) (sym same) (joined is_comma IsNumber so_far.done digits so_far.numbers gid so_far.before is), few_more pushed gid old new room added full so_far.few);
      },
      ends,
    )

-- ---- why there are no numbers

-- a byte of numbers with commas between them
is_listed : ℕ → Bool
is_listed b = is_digit b || is_comma b

digits_listed : (digits : List ℕ) → list_all is_digit digits ≡ true → list_all is_listed digits ≡ true
unfolding is_listed
digits_listed [] all = refl
digits_listed (b ∷ bs) all =
    let both = and_parts (is_digit b) (list_all is_digit bs) all in
    rw both.0 (digits_listed bs both.1)

row_listed : (value gids : List ℕ) → AreSeparated is_comma IsNumber value gids → list_all is_listed value ≡ true
unfolding is_listed
row_listed value [] row = absurd row
row_listed value (x ∷ []) row = digits_listed value (numeral_digits value x row)
row_listed value (x ∷ y ∷ more) row =
    let rest : list_all is_listed row.1 ≡ true = row_listed row.1 (y ∷ more) row.6 in
    let mark : is_listed row.2 ≡ true = ap is_listed (eqb-true row.2 44 row.4) in
    ap (list_all is_listed) row.3 ∙ list_all-append is_listed row.0 (row.2 ∷ row.1) ∙ rw (digits_listed row.0 (numeral_digits row.0 x row.5), mark) rest

all_right : (xs ys : List (List ℕ)) → AllByRecursion IsNumeric (xs ++ ys) → AllByRecursion IsNumeric ys
all_right [] ys all = all
all_right (x ∷ xs) ys all = all_right xs ys all.1

split_stuck : (digits : List ℕ) → list_all is_digit digits ≡ true → slice_split is_comma digits ≡ digits ∷ []
split_stuck digits all = slice_split_none is_comma digits (All-from_recursion _ digits (no_commas digits all))

split_at : (digits rest : List ℕ) (mark : ℕ) → list_all is_digit digits ≡ true → is_comma mark ≡ true → slice_split is_comma (digits ++ mark ∷ rest) ≡ digits ∷ slice_split is_comma rest
split_at digits rest mark all comma = slice_split_at is_comma digits mark rest (All-from_recursion _ digits (no_commas digits all)) comma

-- behind the digits of a number stands a comma or nothing
comma_or_none : (digits rest : List ℕ) → list_all is_digit digits ≡ true → begins is_digit rest ≡ false → list_all is_listed rest ≡ true → AllByRecursion IsNumeric (slice_split is_comma (digits ++ rest)) → IsNumeric digits × ((rest ≡ []) ⊎ (begins is_comma rest ≡ true))
unfolding is_listed
comma_or_none digits [] all other listed pieces =
    let one : AllByRecursion IsNumeric (digits ∷ []) = subst (AllByRecursion IsNumeric) (ap (slice_split is_comma) (append-nil digits) ∙ split_stuck digits all) pieces in
    (one.0, inl refl)
comma_or_none digits (c ∷ cs) all other listed pieces =
    let here : (is_digit c || is_comma c) ≡ true = (and_parts (is_digit c || is_comma c) (list_all is_listed cs) listed).0 in
    let comma : is_comma c ≡ true = rw other at here in
    let first : AllByRecursion IsNumeric (digits ∷ slice_split is_comma cs) = subst (AllByRecursion IsNumeric) (split_at digits cs c all comma) pieces in
    (first.0, inr comma)

gids_begins : (text : List ℕ) → begins is_digit text ≡ false → begins is_digit (gids_word text) ≡ false
gids_begins [] other = refl
gids_begins (b ∷ bs) other = elim (which (ends_word (b ∷ bs) && not (goes_on (b ∷ bs)))) [ inl e ↦ rw e refl | inr e ↦ rw e other ]

-- the digits that stand at a place in the numbers
number_here : (text rest : List ℕ) (all_fit : Bool) (gids ns : List ℕ) → HasGids text rest all_fit gids → AreSeparated is_comma IsNumber (gids_word text) ns
    → IsNumeric (digits_of rest) × ((gids_word (rest_while is_digit rest) ≡ []) ⊎ (begins is_comma (gids_word (rest_while is_digit rest)) ≡ true))
number_here text rest all_fit gids ns so_far row =
    let digits : List ℕ = digits_of rest in
    let after : List ℕ = gids_word (rest_while is_digit rest) in
    let word_here : gids_word rest ≡ digits ++ after = ap gids_word (front_parts is_digit rest) ∙ gids_word-digits digits (rest_while is_digit rest) (front_all is_digit rest) in
    let whole : gids_word text ≡ so_far.done ++ (digits ++ after) = so_far.word ∙ ap (λ (s : List ℕ). so_far.done ++ s) word_here in
    let listed : list_all is_listed (so_far.done ++ (digits ++ after)) ≡ true = ap (list_all is_listed) (sym whole) ∙ row_listed (gids_word text) ns row in
    let behind = and_parts _ _ (sym (list_all-append is_listed so_far.done (digits ++ after)) ∙ listed) in
    let last = and_parts _ _ (sym (list_all-append is_listed digits after) ∙ behind.1) in
    let pieces : AllByRecursion IsNumeric (so_far.pieces ++ slice_split is_comma (digits ++ after)) = subst (AllByRecursion IsNumeric) (ap (slice_split is_comma) whole ∙ so_far.split (digits ++ after)) (pieces_are (gids_word text) ns row) in
    comma_or_none digits after (front_all is_digit rest) (gids_begins (rest_while is_digit rest) (rest_stops is_digit rest)) last.1 (all_right so_far.pieces (slice_split is_comma (digits ++ after)) pieces)

pub no_number : (text rest : List ℕ) (all_fit : Bool) (gids : List ℕ) → HasGids text rest all_fit gids → ((n : ℕ) → IsNumber (digits_of rest) n → ⊥) → IsWrongGids (gids_word text) kinds.BadNumber
no_number text rest all_fit gids so_far none = inl ((λ ns row. none _ (number_here text rest all_fit gids ns so_far row).0), refl)

stuck : (after : List ℕ) → ends_word after ≡ false → (gids_word after ≡ []) ⊎ (begins is_comma (gids_word after) ≡ true) → ⊥
stuck [] unended h = true≢false unended
stuck (b ∷ bs) unended (inl none) = let some : b ∷ gids_word bs ≡ [] = rw unended at none in absurd (cc)
stuck (b ∷ bs) unended (inr comma) =
    let here : is_comma b ≡ true = rw unended at comma in
    true≢false (sym (ap (λ (c : ℕ). ends_word (c ∷ bs)) (eqb-true b 44 here)) ∙ unended)

pub not_ended : (text rest after : List ℕ) (all_fit : Bool) (gids : List ℕ) → HasGids text rest all_fit gids → after ≡ rest_while is_digit rest → ends_word after ≡ false → IsWrongGids (gids_word text) kinds.BadNumber
not_ended text rest after all_fit gids so_far after-is unended =
    inl ((λ ns row. stuck (rest_while is_digit rest) (ap ends_word (sym after-is) ∙ unended) (number_here text rest all_fit gids ns so_far row).1), refl)

pub too_many_gids : (text rest after : List ℕ) (all_fit pushed : Bool) (gid : ℕ) (old : List ℕ) → HasGids text rest all_fit old → IsNumber (digits_of rest) gid → after ≡ rest_while is_digit rest → ends_word after ≡ true → goes_on after ≡ false
    → IsTrue pushed ↔ (length old < 16) → (all_fit && pushed) ≡ false → IsWrongGids (gids_word text) kinds.TooMany
too_many_gids text rest after all_fit pushed gid old so_far is after-is ends stops room full =
    let digits : List ℕ = digits_of rest in
    let here : rest ≡ digits ++ after = front_parts is_digit rest ∙ ap (λ (s : List ℕ). digits ++ s) (sym after-is) in
    let word_here : gids_word rest ≡ digits = ap gids_word here ∙ gids_word-digits digits after (front_all is_digit rest) ∙ ap (λ (s : List ℕ). digits ++ s) (gids_word-stop after ends stops) ∙ append-nil digits in
    let whole : gids_word text ≡ so_far.done ++ digits = so_far.word ∙ ap (λ (s : List ℕ). so_far.done ++ s) word_here in
    inr (
      so_far.numbers ++ gid ∷ [],
      subst (λ (v : List ℕ). AreSeparated is_comma IsNumber v (so_far.numbers ++ gid ∷ [])) (sym whole) (joined is_comma IsNumber so_far.done digits so_far.numbers gid so_far.before is),
      over_more all_fit pushed gid old so_far.numbers so_far.kept so_far.over room full,
      refl,
    )

pub gids_shrink : (rest after more : List ℕ) → after ≡ rest_while is_digit rest → after ≡ 44 ∷ more → length more < length rest
gids_shrink rest after more after-is comma =
    omega (arith, ap length (front_parts is_digit rest), length-append (front_while is_digit rest) (rest_while is_digit rest), ap length (sym after-is ∙ comma))
