-- Group numbers between commas: what a loop over the pieces knows of the whole text.
use Rattle.std.proofs.Common.{◌≡◌, ℕ, ◌^◌, ◌<◌, ◌≤◌, Bool, true, false, zero, suc, List, [], ◌∷◌, ◌++◌, length, get_or, refl, sym, ap, subst, ◌∙◌, arith, inl}
use Rattle.std.proofs.Common.{inr}
use Rattle.std.specs.List.{slice_split}
use Rattle.std.specs.Prelude.{◌⊎◌, nat_lt, nat_le, ◌&&◌, bytes_eq, codes, Result, Ok, Err, IsOk, OnOk, is_err, IsErrAnd, if◌then◌else◌}
use Rattle.std.specs.Str.Parse.{digits_value}
use Rattle.std.proofs.lemmas.Bool.{false≢true}
use Rattle.std.proofs.lemmas.Bool.Decides.{nat_tests}
use Rattle.capspec.specs.Items.{is_comma}
use Rattle.texts.specs.declared.fault.LineFault.{LineFault}
use Rattle.texts.specs.declared.fault.LineFault.TheVariants.{Number}
use Rattle.capexplain.specs.Values.{is_numeral, number_below, number_in, numbers_in, list_in, groups_in, ◌>>=◌}

abbrev pub between_commas : List ℕ → List (List ℕ)
between_commas text = slice_split is_comma text

-- a word and more of them, by what is read of each
abbrev joined : Result ℕ LineFault → Result (List ℕ) LineFault → Result (List ℕ) LineFault
joined number numbers = number >>= (λ n. numbers >>= (λ ns. Ok (n ∷ ns)))

-- one more word
more_read : (number : Result ℕ LineFault) (numbers longer : Result (List ℕ) LineFault) (gids : List ℕ) (gid : ℕ) → ((ns : List ℕ) → numbers ≡ Ok ns → longer ≡ Ok (ns ++ gid ∷ [])) → joined number numbers ≡ Ok gids → joined number longer ≡ Ok (gids ++ gid ∷ [])
more_read (Err fault) numbers longer gids gid step is = absurd (cc)
more_read (Ok n) (Err fault) longer gids gid step is = absurd (cc)
more_read (Ok n) (Ok ns) longer gids gid step is = rw (step ns refl) (let same : n ∷ ns ≡ gids = cc in ap (λ (t : List ℕ). Ok (t ++ gid ∷ [])) same)

pub numbers_more : (words : List (List ℕ)) (word : List ℕ) (gids : List ℕ) (gid : ℕ) → numbers_in words ≡ Ok gids → number_in word ≡ Ok gid → numbers_in (words ++ word ∷ []) ≡ Ok (gids ++ gid ∷ [])
numbers_more [] word gids gid is last = let none : [] ≡ gids = cc in rw (last, sym none) refl
numbers_more (w ∷ words) word gids gid is last = more_read (number_in w) (numbers_in words) (numbers_in (words ++ word ∷ [])) gids gid (λ ns read. numbers_more words word ns gid read last) is

-- ---- all words are numbers, or the answer is that one is none

number_or_none : (word : List ℕ) → IsOk (number_in word) ⊎ (number_in word ≡ Err Number)
unfolding number_below
number_or_none word = by_test (is_numeral 10 word && nat_lt (digits_value 10 word) (2 ^ 32))
  where
    by_test : (b : Bool) → (let read : Result ℕ LineFault = (if b then Ok (digits_value 10 word) else Err Number) in IsOk read ⊎ (read ≡ Err Number))
    by_test true = inl refl
    by_test false = inr refl

pub record AreNumbers (words : List (List ℕ)) : Type 0 where
  pub gids : List ℕ
  pub read : numbers_in words ≡ Ok gids
  pub count : length gids ≡ length words
  pub each : (k : ℕ) (otherwise : List ℕ) → k < length words → IsOk (number_in (get_or words k otherwise))

numbers_or_none : (words : List (List ℕ)) → AreNumbers words ⊎ (numbers_in words ≡ Err Number)
numbers_or_none [] = inl (record { gids = []; read = refl; count = refl; each = λ k otherwise inside. absurd (omega arith) })
numbers_or_none (word ∷ words) = both (number_in word) (number_or_none word) refl (numbers_or_none words)
  where
    both : (number : Result ℕ LineFault) → IsOk number ⊎ (number ≡ Err Number) → number_in word ≡ number → AreNumbers words ⊎ (numbers_in words ≡ Err Number) → AreNumbers (word ∷ words) ⊎ (numbers_in (word ∷ words) ≡ Err Number)
    both (Err fault) (inl good) is rest = absurd (false≢true good)
    both (Err fault) (inr none) is rest = let same : fault ≡ Number = cc in inr (rw (is, same) refl)
    both (Ok n) which is (inr none) = inr (rw (is, none) refl)
    both (Ok n) which is (inl are) = inl (record { gids = n ∷ are.gids; read = rw (is, are.read) refl; count = ap suc are.count; each = each })
      where
        each : (k : ℕ) (otherwise : List ℕ) → k < length (word ∷ words) → IsOk (number_in (get_or (word ∷ words) k otherwise))
        each zero otherwise inside = rw is refl
        each (suc k) otherwise inside = are.each k otherwise (omega arith)

pub numbers_count : (words : List (List ℕ)) (gids : List ℕ) → numbers_in words ≡ Ok gids → length gids ≡ length words
numbers_count words gids read = elim (numbers_or_none words) [
  | inl are ↦ let same : gids ≡ are.gids = cc (are.read) in ap length same ∙ are.count
  | inr none ↦ absurd (cc)
]

-- ---- what the loop answers

-- what can't take one more is full
pub is_full : {T E : Type 0} (pushed : Result T E) (count cap : ℕ) → is_err pushed ≡ true → (count < cap → IsOk pushed) → cap ≤ count
is_full (Ok done) count cap bad room = absurd (false≢true bad)
is_full (Err refused) count cap bad room = let full : count < cap → ⊥ = λ below. false≢true (room below) in omega (arith, full)

one_is_none : (text : List ℕ) (k : ℕ) (digits : List ℕ) (fault : LineFault) → k < length (between_commas text) → digits ≡ get_or (between_commas text) k digits → Err fault ≡ number_in digits → list_in text ≡ Err fault
one_is_none text k digits fault inside same unread = elim (numbers_or_none (between_commas text)) [
  | inl are ↦ let good : IsOk (number_in digits) = subst (λ (word : List ℕ). IsOk (number_in word)) (sym same) (are.each k digits inside) in absurd (false≢true (subst (λ (r : Result ℕ LineFault). IsOk r) (sym unread) good))
  | inr none ↦ elim (number_or_none digits) [
    | inl good ↦ absurd (false≢true (subst (λ (r : Result ℕ LineFault). IsOk r) (sym unread) good))
    | inr number ↦ let is : fault ≡ Number = cc in rw (none, is) refl
  ]
]

within : (gids : List ℕ) → length gids ≤ 16 → nat_le (length gids) 16 ≡ true
within gids few = grind (arith, nat_tests)

beyond : (gids : List ℕ) → 16 < length gids → nat_le (length gids) 16 ≡ false
beyond gids many = grind (arith, nat_tests)

-- `-` is no list of numbers
listed : (text : List ℕ) → false ≡ bytes_eq text (codes "-") → groups_in text ≡ list_in text
unfolding groups_in
listed text other = rw (sym other) refl

-- what could take one more did
pub has_pushed : {T E P Q : Type 0} (pushed : Result T E) → is_err pushed ≡ false → OnOk pushed P → (IsOk pushed → Q) → P × Q
has_pushed (Ok done) good ok room = (ok, room refl)
has_pushed (Err refused) good ok room = absurd (false≢true (sym good))

pub bad_number : (answer : Result (List ℕ) LineFault) (text : List ℕ) (k : ℕ) (digits : List ℕ) (fault : LineFault) → IsErrAnd answer (λ reported. reported ≡ fault) → false ≡ bytes_eq text (codes "-") → k < length (between_commas text) → digits ≡ get_or (between_commas text) k digits → Err fault ≡ number_in digits
    → answer ≡ groups_in text
bad_number (Ok gids) text k digits fault reported other inside same unread = absurd reported
bad_number (Err is) text k digits fault reported other inside same unread = ap Err reported ∙ sym (one_is_none text k digits fault inside same unread) ∙ sym (listed text other)

pub too_many : (text : List ℕ) → false ≡ bytes_eq text (codes "-") → 16 < length (between_commas text) → Err Number ≡ groups_in text
too_many text other many = elim (numbers_or_none (between_commas text)) [
  | inl are ↦ let full : nat_le (length are.gids) 16 ≡ false = beyond are.gids (omega (arith, are.count)) in rw (listed text other, are.read, full) refl
  | inr none ↦ rw (listed text other, none) refl
]

pub all_numbers : (text : List ℕ) (gids : List ℕ) → false ≡ bytes_eq text (codes "-") → numbers_in (between_commas text) ≡ Ok gids → length gids ≤ 16 → Ok gids ≡ groups_in text
all_numbers text gids other read few = rw (listed text other, read, within gids few) refl
