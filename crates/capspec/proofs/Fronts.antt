-- The longest front of a text that passes a test, and the word at its front.
use Rattle.std.proofs.Common.{◌≡◌, ℕ, ◌⊎◌, Bool, true, false, cond, eqb, List, [], ◌∷◌, ◌++◌, refl, sym, ap, subst, ◌∙◌, inl, inr}
use Rattle.std.specs.List.{list_all}
use Rattle.std.proofs.lemmas.Bool.{and_parts, eqb-true, true≢false}
use Rattle.byte_sets.specs.declared.sets.ByteSet.{ByteSet}
use Rattle.byte_sets.specs.declared.sets.ByteSet.TheVariants.{Plain}
use Rattle.byte_sets.specs.Sets.{SplitsWhile, begins, is_in}
use Rattle.capspec.specs.Bytes.{ends_word}
use Rattle.capspec.specs.Words.{behind_word, front_while, plain_word, rest_while}

pub front_is : (test : ℕ → Bool) (front rest : List ℕ) → list_all test front ≡ true → begins test rest ≡ false → front_while test (front ++ rest) ≡ front
front_is test [] [] all stops = refl
front_is test [] (b ∷ bs) all stops = rw stops refl
front_is test (b ∷ bs) rest all stops =
    let both = and_parts (test b) (list_all test bs) all in
    rw both.0 (ap (λ (t : List ℕ). b ∷ t) (front_is test bs rest both.1 stops))

pub rest_is : (test : ℕ → Bool) (front rest : List ℕ) → list_all test front ≡ true → begins test rest ≡ false → rest_while test (front ++ rest) ≡ rest
rest_is test [] [] all stops = refl
rest_is test [] (b ∷ bs) all stops = rw stops refl
rest_is test (b ∷ bs) rest all stops =
    let both = and_parts (test b) (list_all test bs) all in
    rw both.0 (rest_is test bs rest both.1 stops)

-- a split is determined by its text
pub split_front : (set : ByteSet) (text front rest : List ℕ) → SplitsWhile set text front rest → front_while (is_in set) text ≡ front
split_front set text front rest cut = ap (front_while (is_in set)) cut.parts ∙ front_is (is_in set) front rest cut.all_in cut.longest

pub split_rest : (set : ByteSet) (text front rest : List ℕ) → SplitsWhile set text front rest → rest_while (is_in set) text ≡ rest
split_rest set text front rest cut = ap (rest_while (is_in set)) cut.parts ∙ rest_is (is_in set) front rest cut.all_in cut.longest

not_sub : (a b : Bool) → (a ≡ true → b ≡ true) → b ≡ false → a ≡ false
not_sub true b sub e = absurd (true≢false (sym (sub refl) ∙ e))
not_sub false b sub e = refl

pub which : (b : Bool) → (b ≡ true) ⊎ (b ≡ false)
which true = inl refl
which false = inr refl

pub front_parts : (test : ℕ → Bool) (text : List ℕ) → text ≡ front_while test text ++ rest_while test text
front_parts test [] = refl
front_parts test (b ∷ bs) = elim (which (test b)) [ inl e ↦ rw e (ap (λ (t : List ℕ). b ∷ t) (front_parts test bs)) | inr e ↦ rw e refl ]

pub front_all : (test : ℕ → Bool) (text : List ℕ) → list_all test (front_while test text) ≡ true
front_all test [] = refl
front_all test (b ∷ bs) = elim (which (test b)) [ inl e ↦ rw (e, e) (front_all test bs) | inr e ↦ rw e refl ]

pub rest_stops : (test : ℕ → Bool) (text : List ℕ) → begins test (rest_while test text) ≡ false
rest_stops test [] = refl
rest_stops test (b ∷ bs) = elim (which (test b)) [ inl e ↦ rw e (rest_stops test bs) | inr e ↦ rw (e, e) refl ]

-- where a test of some bytes of words passes all of a word, it splits as words do
pub within_front : (test : ℕ → Bool) → ((b : ℕ) → test b ≡ true → is_in Plain b ≡ true) → (text : List ℕ) → list_all test (plain_word text) ≡ true → front_while test text ≡ plain_word text
within_front test sub [] all = refl
within_front test sub (b ∷ bs) all =
    elim (which (is_in Plain b)) [
      | inl e ↦
          let all' : list_all test (cond true (b ∷ plain_word bs) []) ≡ true = subst (λ (v : Bool). list_all test (cond v (b ∷ plain_word bs) []) ≡ true) e all in
          let both = and_parts (test b) (list_all test (plain_word bs)) all' in
          rw (e, both.0) (ap (λ (t : List ℕ). b ∷ t) (within_front test sub bs both.1))
      | inr e ↦ rw (e, not_sub (test b) (is_in Plain b) (sub b) e) refl
    ]

pub within_rest : (test : ℕ → Bool) → ((b : ℕ) → test b ≡ true → is_in Plain b ≡ true) → (text : List ℕ) → list_all test (plain_word text) ≡ true → rest_while test text ≡ behind_word text
within_rest test sub [] all = refl
within_rest test sub (b ∷ bs) all =
    elim (which (is_in Plain b)) [
      | inl e ↦
          let all' : list_all test (cond true (b ∷ plain_word bs) []) ≡ true = subst (λ (v : Bool). list_all test (cond v (b ∷ plain_word bs) []) ≡ true) e all in
          let both = and_parts (test b) (list_all test (plain_word bs)) all' in
          rw (e, both.0) (within_rest test sub bs both.1)
      | inr e ↦ rw (e, not_sub (test b) (is_in Plain b) (sub b) e) refl
    ]

-- a byte that passes is not one that fails
pub not_byte : (test : ℕ → Bool) (b c : ℕ) → test b ≡ true → test c ≡ false → eqb b c ≡ false
not_byte test b c passes fails = elim (which (eqb b c)) [ inl e ↦ absurd (true≢false (sym passes ∙ ap test (eqb-true b c e) ∙ fails)) | inr e ↦ e ]

-- what ends a word is no byte of one
pub ends_plain : (rest : List ℕ) → ends_word rest ≡ true → begins (is_in Plain) rest ≡ false
ends_plain [] ends = refl
ends_plain (b ∷ bs) ends = rw ends refl

pub plain_is : (word rest : List ℕ) → list_all (is_in Plain) word ≡ true → ends_word rest ≡ true → plain_word (word ++ rest) ≡ word
plain_is word rest all ends = front_is (is_in Plain) word rest all (ends_plain rest ends)

pub behind_is : (word rest : List ℕ) → list_all (is_in Plain) word ≡ true → ends_word rest ≡ true → behind_word (word ++ rest) ≡ rest
behind_is word rest all ends = rest_is (is_in Plain) word rest all (ends_plain rest ends)
