-- No value has a line feed in its text, so lines of values come apart in one way only.
use Rattle.std.proofs.Common.{◌≡◌, ℕ, zero, suc, ◌+◌, ◌/◌, ◌%◌, pos, negsuc, Bool, true, false, cond, List, [], ◌∷◌, ◌++◌, Some, refl, sym, ap, ◌∙◌}
use Rattle.std.proofs.Common.{append_assoc, nat_lt, arith}
use Rattle.std.specs.Prelude.{codes, not, ◌||◌, ◌&&◌, ◌==◌, All}
use Rattle.std.specs.Fmt.{decimal, digit_glyph, digits, digits_onto}
use Rattle.std.specs.List.{flat_map, list_all}
use Rattle.std.proofs.lemmas.Bool.{and_from, cond_both, false≢true, ltb-false, ne_eqb}
use Rattle.std.proofs.lemmas.List.Elements.{All-head, All-tail}
use Rattle.std.proofs.lemmas.List.Folds.{list_all-append}
use Rattle.json.specs.Print.{escape, escape_byte, escape_letter, quoted}
use Rattle.serde_json.specs.Data.{Data, Items, Members, Num, array, boolean, float, item, member, negative, no_items, no_members, null, number, object, string}
use Rattle.serde_json.specs.Data.{unsigned}
use Rattle.serde_json.specs.Read.{read}
use Rattle.serde_json.specs.Written.{comma_if, compact_text, items_text, members_text, number_text}
use Rattle.texts.proofs.Quoted.{parted_at}
use Rattle.texts.specs.Values.{ReadsBack, json_line}

abbrev pub is_inside : ℕ → Bool
is_inside byte = not (byte == 10)

abbrev IsInside : ℕ → Type 0
IsInside byte = is_inside byte ≡ true

abbrev pub IsOneLine : List ℕ → Type 0
IsOneLine text = list_all is_inside text ≡ true

inside : (byte : ℕ) → (byte ≡ 10 → ⊥) → IsInside byte
inside byte other = ap not (ne_eqb byte 10 other)

joined : (xs ys : List ℕ) → IsOneLine xs → IsOneLine ys → IsOneLine (xs ++ ys)
joined xs ys p q = list_all-append is_inside xs ys ∙ and_from (list_all is_inside xs) (list_all is_inside ys) p q

-- ---- numbers

glyph : (d : ℕ) → IsInside (digit_glyph false d)
glyph d = cond_both (nat_lt d 10) (48 + d) (87 + d) IsInside (λ small. inside (48 + d) (λ is. omega (arith, is))) (λ large. inside (87 + d) (λ is. omega (arith, is)))

onto : (k n : ℕ) (text : List ℕ) → IsOneLine text → IsOneLine (digits_onto k 10 false n text)
onto zero n text p = p
onto (suc k) n text p =
    let last : List ℕ = digit_glyph false (n % 10) ∷ text in
    let more : IsOneLine last = and_from (is_inside (digit_glyph false (n % 10))) (list_all is_inside text) (glyph (n % 10)) p in
    cond_both (n / 10 == 0) last (digits_onto k 10 false (n / 10) last) IsOneLine (λ none. more) (λ some. onto k (n / 10) last more)

in_digits : (n : ℕ) → IsOneLine (decimal n)
unfolding digits
in_digits n = onto 64 n [] refl

in_number : (n : Num) → IsOneLine (number_text n)
in_number (unsigned n) = in_digits n
in_number (negative (pos n)) = in_digits n
in_number (negative (negsuc n)) = in_digits (suc n)
in_number (float x) = refl

-- ---- strings

letter : (byte : ℕ) → IsInside (escape_letter byte)
letter byte =
    let tab : ℕ = cond (byte == 9) 116 0 in
    let carriage : ℕ = cond (byte == 13) 114 tab in
    let feed : ℕ = cond (byte == 10) 110 carriage in
    let form : ℕ = cond (byte == 12) 102 feed in
    let back : ℕ = cond (byte == 8) 98 form in
    cond_both ((byte == 34) || (byte == 92)) byte back IsInside (λ mark. inside byte (λ is. absurd (false≢true (sym (ap (λ (n : ℕ). (n == 34) || (n == 92)) is) ∙ mark))))
    (λ other. cond_both (byte == 8) 98 form IsInside (λ is. refl)
    (λ other. cond_both (byte == 12) 102 feed IsInside (λ is. refl)
    (λ other. cond_both (byte == 10) 110 carriage IsInside (λ is. refl)
    (λ other. cond_both (byte == 13) 114 tab IsInside (λ is. refl)
    (λ other. cond_both (byte == 9) 116 0 IsInside (λ is. refl) (λ other. refl))))))

in_escape : (byte : ℕ) → IsOneLine (escape_byte byte)
unfolding escape_byte
in_escape byte =
    let high : ℕ = digit_glyph false (byte / 16) in
    let low : ℕ = digit_glyph false (byte % 16) in
    let digits : List ℕ = 92 ∷ 117 ∷ 48 ∷ 48 ∷ high ∷ low ∷ [] in
    cond_both (nat_lt 0 (escape_letter byte)) (92 ∷ escape_letter byte ∷ []) (cond (nat_lt byte 32) digits (byte ∷ [])) IsOneLine (λ short. and_from (is_inside (escape_letter byte)) true (letter byte) refl)
    (λ none. cond_both (nat_lt byte 32) digits (byte ∷ []) IsOneLine
    (λ small. and_from (is_inside high) (is_inside low && true) (glyph (byte / 16)) (and_from (is_inside low) true (glyph (byte % 16)) refl))
    (λ large. and_from (is_inside byte) true (inside byte (λ is. omega (arith, is, ltb-false byte 32 large))) refl))

in_escapes : (bytes : List ℕ) → IsOneLine (escape bytes)
in_escapes [] = refl
in_escapes (byte ∷ bytes) = joined (escape_byte byte) (escape bytes) (in_escape byte) (in_escapes bytes)

in_quotes : (bytes : List ℕ) → IsOneLine (quoted bytes)
in_quotes bytes = joined (escape bytes) (34 ∷ []) (in_escapes bytes) refl

-- ---- values

in_comma : (later : Bool) → IsOneLine (comma_if later)
in_comma true = refl
in_comma false = refl

mutual
  pub in_value : (d : Data) → IsOneLine (compact_text d)
  in_value null = refl
  in_value (boolean true) = refl
  in_value (boolean false) = refl
  in_value (number n) = in_number n
  in_value (string text) = in_quotes text
  in_value (array ds) = in_items false ds
  in_value (object ms) = in_members false ms

  in_items : (later : Bool) (ds : Items) → IsOneLine (items_text later ds)
  in_items later no_items = refl
  in_items later (item d ds) = joined (comma_if later) (compact_text d ++ items_text true ds) (in_comma later) (joined (compact_text d) (items_text true ds) (in_value d) (in_items true ds))

  in_members : (later : Bool) (ms : Members) → IsOneLine (members_text later ms)
  in_members later no_members = refl
  in_members later (member k d ms) =
      joined (comma_if later) (quoted k ++ 58 ∷ (compact_text d ++ members_text true ms)) (in_comma later)
      (joined (quoted k) (58 ∷ (compact_text d ++ members_text true ms)) (in_quotes k) (joined (compact_text d) (members_text true ms) (in_value d) (in_members true ms)))

-- ---- lines

pub one_line : (d e : Data) (s t : List ℕ) → ReadsBack d → ReadsBack e → json_line d ++ s ≡ json_line e ++ t → (d ≡ e) × (s ≡ t)
one_line d e s t reads also same =
    let both = parted_at is_inside 10 (compact_text d) (compact_text e) s t refl (in_value d) (in_value e) (sym (append_assoc (compact_text d) (codes "\n") s) ∙ same ∙ append_assoc (compact_text e) (codes "\n") t) in
    let value : Some d ≡ Some e = sym reads ∙ ap read both.0 ∙ also in
    (cc, both.1)

pub some_line : {A : Type 0} (d : Data) (s : List ℕ) → [] ≡ json_line d ++ s → A
some_line d s same = by_text (compact_text d) same
  where
    by_text : {B : Type 0} (text : List ℕ) → [] ≡ (text ++ codes "\n") ++ s → B
    by_text [] e = absurd (let it : [] ≡ 10 ∷ s = e in cc)
    by_text (byte ∷ text) e = absurd (let it : [] ≡ byte ∷ ((text ++ codes "\n") ++ s) = e in cc)

pub one_stream : (ds es : List Data) → All ReadsBack ds → All ReadsBack es → flat_map json_line ds ≡ flat_map json_line es → ds ≡ es
one_stream [] [] p q same = refl
one_stream [] (e ∷ es) p q same = some_line e (flat_map json_line es) same
one_stream (d ∷ ds) [] p q same = some_line d (flat_map json_line ds) (sym same)
one_stream (d ∷ ds) (e ∷ es) p q same =
    let both = one_line d e (flat_map json_line ds) (flat_map json_line es) (All-head ReadsBack d ds p) (All-head ReadsBack e es q) same in
    let here : d ≡ e = both.0 in
    let more : ds ≡ es = one_stream ds es (All-tail ReadsBack d ds p) (All-tail ReadsBack e es q) both.1 in
    λ i. here i ∷ more i
