-- What is known of the spellings that begin with the bytes that were read.
use Rattle.std.specs.Prelude.{◌≡◌, ◌≢◌, ℕ, ◌+◌, ◌<◌, ◌≤◌, Bool, true, false, ◌||◌, ◌-◌, List, [], ◌∷◌, ◌++◌, length, take, zero, suc, refl, IsTrue, IsFalse}
use Rattle.std.specs.List.{list_any}
use Rattle.std.proofs.Common.{◌∙◌, sym, ap, subst, true≢false, arith, append_assoc, append-nil, length-drop, drop, get_or}
use Rattle.std.proofs.lemmas.List.{take-append-drop, take_all, take_more}
use Rattle.std.proofs.Math.Seq.{take-add, take-length}
use Rattle.std.proofs.lemmas.List.Folds.{list_any-append}
use Rattle.capbits.specs.declared.cap.Cap.{Cap}
use Rattle.capbits.specs.declared.cap.Cap.TheVariants.{P}
use Rattle.capbits.specs.declared.cap.Part.{Part}
use Rattle.capbits.specs.declared.cap.Part.TheVariants.{A, F, L, X}
use Rattle.capbits.specs.Caps.{Caps, caps_where, has}
use Rattle.capbits.specs.Sets.{caps_in, caps_of_part, covers, has-caps_in, has-none, has-union, no_caps, same_cap, same_cap-eq, union}
use Rattle.cap_text.specs.Beginnings.{BeginsText, IsLongestBeginning}
use Rattle.capbits.specs.Text.{capital_of, group_of, groups_in, letter_of, letters_in, text_of}
use Rattle.capbits.proofs.Spelling.{text_of-some}
use Rattle.capbits.proofs.Following.{Apart, ApartParts, apart_behind, apart_caps, apart_parts, apart_parts_behind, behind_capital, behind_letter, behind_parts}
use Rattle.capbits.proofs.Following.{clash, dash_alone, first_capital, groups_in-lacking, groups_in-split, in_parts, in_rest, in_rest-append, in_rest-cons}
use Rattle.capbits.proofs.Following.{is_capital, is_letter, letters_in-lacking, letters_in-split, letters_in-with, letters_of, letters_of_text, neither}
use Rattle.capbits.proofs.Following.{nil_cons, no_letter, or_false, or_left, or_right, outside, passed_caps, passed_parts, rest_of, same_self}

-- bytes were read, and with them these caps: what can follow is letters of `caps` and groups of `parts`, and a letter has to
-- where the last byte was a capital
pub record HasRead (bytes : List ℕ) (got : Caps) (needs : Bool) (caps : List Cap) (parts : List Part) : Type 0 where
  pub caps_apart : Apart caps parts
  pub parts_apart : ApartParts parts
  pub some_caps : IsTrue needs → caps ≢ []
  -- nothing of what can follow was read
  pub lacks : (d : Cap) → IsTrue (in_rest d caps parts) → IsFalse (has got d)
  -- a set with the same caps apart from these has a spelling that begins with the bytes
  pub sound : (s : Caps) → ((d : Cap) → IsFalse (in_rest d caps parts) → has s d ≡ has got d) → (IsTrue needs → letters_in s caps ≢ []) → letters_of s ≡ bytes ++ rest_of s caps parts
  -- a spelling that begins with the bytes goes on so
  pub complete : (s : Caps) (w : List ℕ) → letters_of s ≡ bytes ++ w → (rest_of s caps parts ≡ w) × (IsTrue needs → letters_in s caps ≢ [])

-- before the first byte
pub read_nothing : HasRead [] no_caps false (P ∷ []) (A ∷ L ∷ X ∷ F ∷ [])
read_nothing = record {
  caps_apart = apart_caps;
  parts_apart = apart_parts;
  some_caps = λ w. absurd (true≢false (sym w));
  lacks = λ d _. has-none d;
  sound = λ s _ _. refl;
  complete = λ s w e. (e, (λ n. absurd (true≢false (sym n))));
}

or_nothing : (b : Bool) → (b || false) ≡ b
or_nothing true = refl
or_nothing false = refl

-- one cap more
has_more : (got : Caps) (c d : Cap) → has (union got (caps_in (c ∷ []))) d ≡ (has got d || same_cap d c)
has_more got c d = has-union got (caps_in (c ∷ [])) d ∙ ap (λ b. has got d || b) (has-caps_in (c ∷ []) d ∙ or_nothing (same_cap d c))

-- a cap that can still follow is another than the one that comes once
not_again : (d c : Cap) (caps : List Cap) (parts : List Part) → IsFalse (in_rest c caps parts) → IsTrue (in_rest d caps parts) → IsFalse (same_cap d c)
not_again d c caps parts f r =
    elim (same_cap d c) as (λ v. same_cap d c ≡ v → IsFalse v) [
      | true ↦ λ e. clash (in_rest c caps parts) (ap (λ k. in_rest k caps parts) (sym (same_cap-eq d c e)) ∙ r) f
      | false ↦ λ _. refl
    ] refl

-- a letter was read
after_letter : (bytes : List ℕ) (got : Caps) (needs : Bool) (front : List Cap) (c : Cap) (caps : List Cap) (parts : List Part) → HasRead bytes got needs (front ++ c ∷ caps) parts
    → HasRead (bytes ++ letter_of c ∷ []) (union got (caps_in (c ∷ []))) false caps parts
after_letter bytes got needs front c caps parts h =
    let t : Caps = union got (caps_in (c ∷ [])) in
    let behind : Apart (c ∷ caps) parts = apart_behind front c caps parts h.caps_apart in
    let more : (d : Cap) → IsTrue (in_rest d (c ∷ caps) parts) → IsTrue (in_rest d (front ++ c ∷ caps) parts) = λ d r. in_rest-append d front (c ∷ caps) parts ∙ or_right (list_any (same_cap d) front) (in_rest d (c ∷ caps) parts) r in
    let rest : (d : Cap) → IsTrue (in_rest d caps parts) → IsTrue (in_rest d (c ∷ caps) parts) = λ d r. in_rest-cons d c caps parts ∙ or_right (same_cap d c) (in_rest d caps parts) r in
    let apart : (d : Cap) → IsTrue (in_rest d caps parts) → IsFalse (same_cap d c) = λ d r. not_again d c caps parts behind.0.2 r in
    let out : (d : Cap) → IsFalse (in_rest d (c ∷ caps) parts) → IsFalse (same_cap d c) × IsFalse (in_rest d caps parts) = λ d r. or_false (same_cap d c) (in_rest d caps parts) (sym (in_rest-cons d c caps parts) ∙ r) in
    record {
      caps_apart = behind.1;
      parts_apart = h.parts_apart;
      some_caps = λ w. absurd (true≢false (sym w));
      lacks = λ d r. has_more got c d ∙ neither (has got d) (same_cap d c) (h.lacks d (more d (rest d r))) (apart d r);
      sound = λ s agree _.
          let there : IsTrue (has s c) = agree c behind.0.2 ∙ has_more got c c ∙ or_right (has got c) (same_cap c c) (same_self c) in
          let passed : (d : Cap) → IsTrue (list_any (same_cap d) front) → IsFalse (has s d) = λ d r.
          (let o = out d (passed_caps front c caps parts h.caps_apart d r) in
          agree d o.1 ∙ has_more got c d ∙ neither (has got d) (same_cap d c) (h.lacks d (in_rest-append d front (c ∷ caps) parts ∙ or_left (list_any (same_cap d) front) (in_rest d (c ∷ caps) parts) r)) o.0) in
          let letters : letters_in s (front ++ c ∷ caps) ≡ letter_of c ∷ letters_in s caps = letters_in-split s front c caps passed there in
          h.sound s (λ d r. (let o = out d (or_false (list_any (same_cap d) front) (in_rest d (c ∷ caps) parts) (sym (in_rest-append d front (c ∷ caps) parts) ∙ r)).1 in
          agree d o.1 ∙ has_more got c d ∙ ap (λ b. has got d || b) o.0 ∙ or_nothing (has got d))) (λ _ none. nil_cons _ _ (sym none ∙ letters))
          ∙ ap (λ ls. bytes ++ (ls ++ groups_in s parts)) letters
          ∙ sym (append_assoc bytes (letter_of c ∷ []) (rest_of s caps parts));
      complete = λ s w e. (behind_letter s front c caps parts w h.caps_apart (h.complete s (letter_of c ∷ w) (e ∙ append_assoc bytes (letter_of c ∷ []) w)).0, (λ n. absurd (true≢false (sym n))));
    }

some_in_part : (part : Part) → caps_of_part part ≢ []
some_in_part A e = cc
some_in_part L e = cc
some_in_part X e = cc
some_in_part F e = cc

-- a capital was read
after_capital : (bytes : List ℕ) (got : Caps) (caps : List Cap) (front : List Part) (part : Part) (parts : List Part) → IsFalse (is_letter caps (capital_of part)) → HasRead bytes got false caps (front ++ part ∷ parts)
    → HasRead (bytes ++ capital_of part ∷ []) got true (caps_of_part part) parts
after_capital bytes got caps front part parts other h =
    let behind : ApartParts (part ∷ parts) = apart_parts_behind front part parts h.parts_apart in
    let split : (d : Cap) → in_parts d (front ++ part ∷ parts) ≡ (in_parts d front || in_rest d (caps_of_part part) parts) = λ d. list_any-append (covers d) front (part ∷ parts) in
    let in_front : (d : Cap) → IsTrue (in_parts d front) → IsTrue (in_rest d caps (front ++ part ∷ parts)) = λ d r.
    or_right (list_any (same_cap d) caps) (in_parts d (front ++ part ∷ parts)) (split d ∙ or_left (in_parts d front) (in_rest d (caps_of_part part) parts) r) in
    let later : (d : Cap) → IsTrue (in_rest d (caps_of_part part) parts) → IsTrue (in_rest d caps (front ++ part ∷ parts)) = λ d r.
    or_right (list_any (same_cap d) caps) (in_parts d (front ++ part ∷ parts)) (split d ∙ or_right (in_parts d front) (in_rest d (caps_of_part part) parts) r) in
    record {
      caps_apart = behind.1;
      parts_apart = behind.2;
      some_caps = λ _. some_in_part part;
      lacks = λ d r. h.lacks d (later d r);
      sound = λ s agree some.
          let no_caps_left : letters_in s caps ≡ [] = letters_in-lacking s caps (λ d r. agree d (behind_parts d front part parts (outside caps (front ++ part ∷ parts) h.caps_apart d r)) ∙ h.lacks d (or_left (list_any (same_cap d) caps) (in_parts d (front ++ part ∷ parts)) r)) in
          let passed : (d : Cap) → IsTrue (in_parts d front) → IsFalse (has s d) = λ d r. agree d (passed_parts front part parts h.parts_apart d r) ∙ h.lacks d (in_front d r) in
          h.sound s (λ d r. agree d (behind_parts d front part parts (or_false (list_any (same_cap d) caps) (in_parts d (front ++ part ∷ parts)) r).1)) (λ w. absurd (true≢false (sym w)))
          ∙ (λ i. bytes ++ (no_caps_left i ++ groups_in-split s front part parts passed (some refl) i))
          ∙ sym (append_assoc bytes (capital_of part ∷ []) (rest_of s (caps_of_part part) parts));
      complete = λ s w e.
          let goes_on = (h.complete s (capital_of part ∷ w) (e ∙ append_assoc bytes (capital_of part ∷ []) w)).0 in
          let found = behind_capital s front part parts w h.parts_apart (no_letter s caps (front ++ part ∷ parts) (capital_of part) w other goes_on).1 in
          (found.0, (λ _. found.1));
    }

-- a byte that can't follow: no spelling begins with the bytes and with it
pub cannot_follow : (bytes : List ℕ) (got : Caps) (needs : Bool) (caps : List Cap) (parts : List Part) (x : ℕ) → HasRead bytes got needs caps parts → IsFalse (is_letter caps x) → (IsFalse needs → IsFalse (is_capital parts x))
    → (s : Caps) (w : List ℕ) → letters_of s ≡ (bytes ++ x ∷ []) ++ w → ⊥
cannot_follow bytes got needs caps parts x h other no_capital s w e =
    let goes_on = h.complete s (x ∷ w) (e ∙ append_assoc bytes (x ∷ []) w) in
    let none = no_letter s caps parts x w other goes_on.0 in
    elim needs as (λ v. needs ≡ v → ⊥) [
      | true ↦ λ n. goes_on.1 n none.0
      | false ↦ λ n. clash (is_capital parts x) (first_capital s parts x w none.1) (no_capital n)
    ] refl

-- what was read begins the text of some set
front_begins : (bytes : List ℕ) (s : Caps) (w : List ℕ) → letters_of s ≡ bytes ++ w → BeginsText bytes
front_begins [] s w e = (s, (text_of s, refl))
front_begins (x ∷ bytes) s w e = (s, (w, sym (text_of-some s ((x ∷ bytes) ++ w) (sym e) (λ none. nil_cons x (bytes ++ w) (sym none)))))

some_letters : (s : Caps) (caps : List Cap) → caps ≢ [] → ((d : Cap) → IsTrue (list_any (same_cap d) caps) → IsTrue (has s d)) → letters_in s caps ≢ []
some_letters s [] ne h none = ne refl
some_letters s (c ∷ caps) ne h none = nil_cons _ _ (sym none ∙ letters_in-with s c caps (h c (or_left (same_cap c c) (list_any (same_cap c) caps) (same_self c))))

pub read_begins : (bytes : List ℕ) (got : Caps) (needs : Bool) (caps : List Cap) (parts : List Part) → HasRead bytes got needs caps parts → BeginsText bytes
read_begins bytes got true caps parts h =
    let t : Caps = union got (caps_in caps) in
    let more : (d : Cap) → has t d ≡ (has got d || list_any (same_cap d) caps) = λ d. has-union got (caps_in caps) d ∙ ap (λ b. has got d || b) (has-caps_in caps d) in
    front_begins bytes t (rest_of t caps parts)
    (h.sound t
    (λ d r. more d ∙ ap (λ b. has got d || b) (or_false (list_any (same_cap d) caps) (in_parts d parts) r).0 ∙ or_nothing (has got d))
    (λ _. some_letters t caps (h.some_caps refl) (λ d r. more d ∙ or_right (has got d) (list_any (same_cap d) caps) r)))
read_begins bytes got false caps parts h = front_begins bytes got (rest_of got caps parts) (h.sound got (λ d _. refl) (λ w. absurd (true≢false (sym w))))

-- all of a text was read, and no letter is missing: it is the text of what was read
pub all_read : (text : List ℕ) (got : Caps) (caps : List Cap) (parts : List Part) → text ≢ [] → HasRead text got false caps parts → text ≡ text_of got
all_read text got caps parts ne h =
    let none : rest_of got caps parts ≡ [] = (λ i. letters_in-lacking got caps (λ d r. h.lacks d (or_left (list_any (same_cap d) caps) (in_parts d parts) r)) i ++ groups_in-lacking got parts (λ d r. h.lacks d (or_right (list_any (same_cap d) caps) (in_parts d parts) r)) i) in
    text_of-some got text (sym (append-nil text) ∙ ap (λ w. text ++ w) (sym none) ∙ sym (h.sound got (λ d _. refl) (λ w. absurd (true≢false (sym w))))) ne

-- all of a text was read, and a letter is missing
pub letter_missing : (text : List ℕ) (got : Caps) (caps : List Cap) (parts : List Part) → HasRead text got true caps parts → IsLongestBeginning text (length text)
letter_missing text got caps parts h = record {
  within = omega arith;
  begins = subst BeginsText (sym (take-length text)) (read_begins text got true caps parts h);
  longest = λ n lt le _. absurd (omega arith);
}

-- a text that begins with no dash and is the beginning of a set's text begins its letters
letters_of_front : (text : List ℕ) (n : ℕ) (s : Caps) (w : List ℕ) → get_or text 0 0 ≢ 45 → text ≢ [] → 0 < n → text_of s ≡ take n text ++ w → letters_of s ≡ take n text ++ w
letters_of_front [] n s w no_dash ne lt e = absurd (ne refl)
letters_of_front (x ∷ text) zero s w no_dash ne lt e = absurd (omega arith)
letters_of_front (x ∷ text) (suc n) s w no_dash ne lt e = letters_of_text s x (take n text ++ w) no_dash e

front_nil : (xs ys : List ℕ) → xs ++ ys ≡ [] → xs ≡ []
front_nil [] ys e = refl
front_nil (x ∷ xs) ys e = absurd (nil_cons x (xs ++ ys) (sym e))

-- no set has a text to which a letter is missing
pub not_a_text : (text : List ℕ) (got : Caps) (caps : List Cap) (parts : List Part) → get_or text 0 0 ≢ 45 → text ≢ [] → HasRead text got true caps parts → (s : Caps) → text ≡ text_of s → ⊥
not_a_text [] got caps parts no_dash ne h s e = ne refl
not_a_text (x ∷ text) got caps parts no_dash ne h s e =
    let goes_on = h.complete s [] (letters_of_text s x text no_dash (sym e) ∙ sym (append-nil (x ∷ text))) in
    goes_on.1 refl (front_nil (letters_in s caps) (groups_in s parts) goes_on.0)

-- a byte can't follow those before it
pub wrong_byte : (text : List ℕ) (at : ℕ) (got : Caps) (needs : Bool) (caps : List Cap) (parts : List Part) → get_or text 0 0 ≢ 45 → text ≢ [] → at < length text → HasRead (take at text) got needs caps parts
    → IsFalse (is_letter caps (get_or text at 0)) → (IsFalse needs → IsFalse (is_capital parts (get_or text at 0))) → IsLongestBeginning text at
wrong_byte text at got needs caps parts no_dash ne lt h other no_capital = record {
  within = omega arith;
  begins = read_begins (take at text) got needs caps parts h;
  longest = λ n more le begins.
      let s : Caps = begins.0 in
      let w : List ℕ = begins.1.0 in
      let m : ℕ = n - (at + 1) in
      let some : 0 < n = omega arith in
      let sum : n ≡ at + 1 + m = omega arith in
      let split : take n text ≡ (take at text ++ get_or text at 0 ∷ []) ++ take m (drop (at + 1) text) = ap (λ n. take n text) sum ∙ take-add (at + 1) m text ∙ ap (λ front. front ++ take m (drop (at + 1) text)) (take_more text at 0 lt) in
      cannot_follow (take at text) got needs caps parts (get_or text at 0) h other no_capital s (take m (drop (at + 1) text) ++ w)
      (letters_of_front text n s w no_dash ne some begins.1.1
      ∙ ap (λ front. front ++ w) split
      ∙ append_assoc (take at text ++ get_or text at 0 ∷ []) (take m (drop (at + 1) text)) w);
}

le_self : (n : ℕ) → n ≤ n
le_self n = omega arith

-- nor is a text with a fault inside
pub fault_inside : (text : List ℕ) (at : ℕ) → at < length text → IsLongestBeginning text at → (s : Caps) → text ≡ text_of s → ⊥
fault_inside text at lt fault s e = fault.longest (length text) lt (le_self (length text)) (s, ([], sym e ∙ sym (take-length text) ∙ sym (append-nil (take (length text) text))))

-- texts of no letters
pub empty_text : IsLongestBeginning [] 0
empty_text = record {
  within = le_self 0;
  begins = (no_caps, (text_of no_caps, refl));
  longest = λ n lt le _. absurd (omega arith);
}

pub text_of-empty : text_of no_caps ≡ 45 ∷ []
unfolding text_of letters_in groups_in group_of no_caps has caps_where
text_of-empty = refl

no_more_than_dash : (y : ℕ) (text : List ℕ) (n : ℕ) (s : Caps) (w : List ℕ) → 1 < n → text_of s ≡ take n (45 ∷ y ∷ text) ++ w → ⊥
no_more_than_dash y text zero s w lt e = omega arith
no_more_than_dash y text (suc zero) s w lt e = omega arith
no_more_than_dash y text (suc (suc n)) s w lt e = nil_cons y (take n text ++ w) (sym (dash_alone s (y ∷ (take n text ++ w)) e))

pub behind_dash : (y : ℕ) (text : List ℕ) → IsLongestBeginning (45 ∷ y ∷ text) 1
behind_dash y text = record {
  within = omega arith;
  begins = (no_caps, ([], text_of-empty));
  longest = λ n lt le begins. no_more_than_dash y text n begins.0 begins.1.0 lt begins.1.1;
}

-- the loop's two steps, at the byte where it stands
pub letter_step : (text : List ℕ) (at : ℕ) (got one set : Caps) (needs : Bool) (caps later : List Cap) (parts : List Part) (c : Cap) → at < length text → HasRead (take at text) got needs caps parts
    → letter_of c ≡ get_or text at 0 → (front : List Cap) × (caps ≡ front ++ c ∷ later) → one ≡ caps_in (c ∷ []) → set ≡ union got one → HasRead (take (at + 1) text) set false later parts
letter_step text at got one set needs caps later parts c lt h letter split one_is set_is =
    let read = after_letter (take at text) got needs split.0 c later parts (subst (λ caps. HasRead (take at text) got needs caps parts) split.1 h) in
    subst (λ bytes. HasRead bytes set false later parts) (ap (λ x. take at text ++ x ∷ []) letter ∙ sym (take_more text at 0 lt))
    (subst (λ s. HasRead (take at text ++ letter_of c ∷ []) s false later parts) (sym (set_is ∙ ap (union got) one_is)) read)

pub capital_step : (text : List ℕ) (at : ℕ) (got : Caps) (needs : Bool) (caps within : List Cap) (parts later : List Part) (part : Part) → at < length text → HasRead (take at text) got needs caps parts → IsFalse needs
    → IsFalse (is_letter caps (get_or text at 0)) → capital_of part ≡ get_or text at 0 → (front : List Part) × (parts ≡ front ++ part ∷ later) → within ≡ caps_of_part part → HasRead (take (at + 1) text) got true within later
capital_step text at got needs caps within parts later part lt h no_need other capital split within_is =
    let start = subst (λ needs. HasRead (take at text) got needs caps (split.0 ++ part ∷ later)) no_need (subst (λ parts. HasRead (take at text) got needs caps parts) split.1 h) in
    let read = after_capital (take at text) got caps split.0 part later (ap (is_letter caps) capital ∙ other) start in
    subst (λ bytes. HasRead bytes got true within later) (ap (λ x. take at text ++ x ∷ []) capital ∙ sym (take_more text at 0 lt))
    (subst (λ caps. HasRead (take at text ++ capital_of part ∷ []) got true caps later) (sym within_is) read)

-- the arms of a match on a text
pub no_bytes : (text : List ℕ) → length text < 1 → text ≡ []
no_bytes [] h = refl
no_bytes (x ∷ text) h = absurd (omega arith)

pub one_byte : (text : List ℕ) (x : ℕ) → 1 ≤ length text → length text < 2 → get_or text 0 0 ≡ x → text ≡ x ∷ []
one_byte [] x some few e = absurd (omega arith)
one_byte (y ∷ []) x some few e = ap (λ y. y ∷ []) e
one_byte (y ∷ z ∷ text) x some few e = absurd (omega arith)

pub more_behind_dash : (text : List ℕ) → 2 ≤ length text → get_or text 0 0 ≡ 45 → IsLongestBeginning text 1
more_behind_dash [] some e = absurd (omega arith)
more_behind_dash (x ∷ []) some e = absurd (omega arith)
more_behind_dash (x ∷ y ∷ text) some e = subst (λ x. IsLongestBeginning (x ∷ y ∷ text) 1) (sym e) (behind_dash y text)

-- an element of a list, with what stands before and behind it
pub split_at : {T : Type 0} → (xs : List T) (i : ℕ) (x : T) → i < length xs → (front : List T) × (xs ≡ front ++ get_or xs i x ∷ take (length xs - (i + 1)) (drop (i + 1) xs))
split_at xs i x lt =
    let all : length (drop (i + 1) xs) ≤ length xs - (i + 1) = omega (arith, length-drop (i + 1) xs) in (
      take i xs,
      sym (take-append-drop (i + 1) xs)
          ∙ ap (λ front. front ++ drop (i + 1) xs) (take_more xs i x lt)
          ∙ append_assoc (take i xs) (get_or xs i x ∷ []) (drop (i + 1) xs)
          ∙ ap (λ rest. take i xs ++ get_or xs i x ∷ rest) (sym (take_all (length xs - (i + 1)) (drop (i + 1) xs) all)),
    )
