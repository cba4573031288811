-- The grants of a text, one after the other.
use Rattle.std.proofs.Common.{◌≡◌, ℕ, Bool, true, false, eqb, ◌||◌, List, [], ◌∷◌, ◌++◌, drop, Some, None, Option, map, refl, sym, ap, subst, ◌∙◌}
use Rattle.std.proofs.Common.{append_assoc, arith, inl, inr}
use Rattle.std.specs.Prelude.{codes, if◌then◌else◌}
use Rattle.std.specs.List.{list_all}
use Rattle.std.specs.Option.{option_or}
use Rattle.std.proofs.Math.Bool.{and-false}
use Rattle.std.proofs.lemmas.Bool.{and_parts}
use Rattle.std.proofs.lemmas.Bool.Decides.{nat_tests}
use Rattle.std.proofs.lemmas.List.{append-nil}
use Rattle.std.proofs.lemmas.List.Folds.{list_all-append}
use Rattle.capspec.specs.declared.grant.Grant.{Grant}
use Rattle.byte_sets.specs.Sets.{begins, is_mark, is_white}
use Rattle.capspec.specs.Bytes.{ends_grant}
use Rattle.capspec.specs.Grants.{IsGrant}
use Rattle.capspec.specs.Separated.{AreSeparated}
use Rattle.capspec.specs.Words.{goes_on, is_digit, next}
use Rattle.capspec.proofs.Complete.{blank_no_digit, flags_letter, flags_plain, grant_end_not_white, mark_not_white}
use Rattle.capspec.proofs.Fronts.{rest_is, which}
use Rattle.policy_analysis.specs.declared.unread.Unread.{Unread}
use Rattle.policy_analysis.specs.declared.unread.Unread.TheVariants.{WhiteSpace}
use Rattle.policy_analysis.specs.Scanning.{Begins, HasItems, behind_word, can_end, has_spaces, wrong_between}
use Rattle.policy_analysis.specs.Ceph16Syntax.{GrantText, Stands, are_spaces, first_wrong, why, why_each, wrong_white}
use Rattle.policy_analysis.proofs.Words.{behind_plain, gap_ends, white_ends, words_end}

-- ---- the front of a grant

end_ends : (end : List ℕ) → ends_grant end ≡ true → goes_on end ≡ false → can_end end ≡ true
end_ends [] ends stops = refl
end_ends (b ∷ bs) ends stops = rw (mark_not_white b ends, ends, stops) refl

white_then : (white end : List ℕ) → list_all is_white white ≡ true → can_end end ≡ true → can_end (white ++ end) ≡ true
white_then [] end blank ends = ends
white_then (w ∷ ws) end blank ends = white_ends w (ws ++ end) (and_parts (is_white w) (list_all is_white ws) blank).0

-- behind the flags the items stand
pub items_of : (text : List ℕ) (s : GrantText) (end : List ℕ) → Begins text s end → HasItems (behind_word (next (behind_word (next text)))) s.items (s.after ++ end)
items_of text s end begin =
    let is : IsGrant begin.piece s.grant = begin.stands.0 in
    let tail : List ℕ = is.after ++ end in
    let items_text : List ℕ = is.words ++ tail in
    let flags_text : List ℕ = is.flags ++ items_text in
    let behind : List ℕ = is.gap ++ flags_text in
    let first : List ℕ = codes "allow" ++ behind in
    let whole : text ≡ is.before ++ first = begin.parts ∙ ap (λ (t : List ℕ). t ++ end) is.parts ∙ simp append_assoc in
    let here : next text ≡ first = ap next whole ∙ rest_is is_white is.before first is.blank_before refl in
    let tail_ends : can_end tail ≡ true = white_then is.after end is.blank_after (end_ends end begin.ends begin.stops) in
    let second : next (behind_word (next text)) ≡ flags_text =
    ap (λ (t : List ℕ). next (behind_word t)) here ∙ ap next (behind_plain (codes "allow") behind refl (gap_ends is.gap flags_text is.is_gap)) ∙ rest_is is_white is.gap flags_text is.is_gap.0 (flags_letter is.flags items_text s.grant.flags is.are_flags) in
    let third : behind_word (next (behind_word (next text))) ≡ items_text =
    ap behind_word second ∙ behind_plain is.flags items_text (flags_plain is.flags s.grant.flags is.are_flags) (words_end is.words tail is.items is.are_words tail_ends) in
    let next_end : next tail ≡ end = rest_is is_white is.after end is.blank_after (grant_end_not_white end begin.ends) in
    let has : HasItems (behind_word (next (behind_word (next text)))) is.items tail = record {
      words = is.words;
      parts = third;
      are_words = is.are_words;
      word_ends = tail_ends;
      grant_ends = ap ends_grant next_end ∙ begin.ends;
    } in
    rw (begin.stands.2, begin.stands.3) has

-- ---- what follows a grant

-- the grants behind its end
abbrev pub Follow : List ℕ → List GrantText → Type 0
Follow [] more = more ≡ []
Follow (mark ∷ rest) more = AreSeparated is_mark Stands rest more

-- a grant begins with `allow`
piece_begins : (piece end : List ℕ) (s : GrantText) → Stands piece s → (tail : List ℕ) × (piece ++ end ≡ s.before ++ (codes "allow" ++ tail)) × (list_all is_white s.before ≡ true)
piece_begins piece end s is =
    let tail : List ℕ = is.0.gap ++ (is.0.flags ++ (is.0.words ++ (is.0.after ++ end))) in
    let whole : piece ++ end ≡ is.0.before ++ (codes "allow" ++ tail) = ap (λ (t : List ℕ). t ++ end) is.0.parts ∙ simp append_assoc in
    (tail, rw is.1 whole, rw is.1 is.0.blank_before)

row_begins : (text : List ℕ) (s : GrantText) (more : List GrantText) → AreSeparated is_mark Stands text (s ∷ more) → (tail : List ℕ) × (text ≡ s.before ++ (codes "allow" ++ tail)) × (list_all is_white s.before ≡ true)
row_begins text s [] row =
    let here = piece_begins text [] s row in
    (here.0, sym (append-nil text) ∙ here.1, here.2)
row_begins text s (t ∷ more) row =
    let here = piece_begins row.0 (row.2 ∷ row.1) s row.5 in
    (here.0, row.3 ∙ here.1, here.2)

row_no_digit : (text : List ℕ) (s : GrantText) (more : List GrantText) → AreSeparated is_mark Stands text (s ∷ more) → begins is_digit text ≡ false
row_no_digit text s more row =
    let here = row_begins text s more row in
    ap (begins is_digit) here.1 ∙ blank_no_digit s.before (codes "allow" ++ here.0) here.2 refl

first_of : (text : List ℕ) (s : GrantText) (more : List GrantText) → AreSeparated is_mark Stands text (s ∷ more) → (end : List ℕ) × Begins text s end × Follow end more
first_of text s [] row = ([], record { piece = text; parts = sym (append-nil text); stands = row; ends = refl; stops = refl }, refl)
first_of text s (t ∷ more) row = (row.2 ∷ row.1, record { piece = row.0; parts = row.3; stands = row.5; ends = row.4; stops = rw (row_no_digit row.1 t more row.6) (and-false (eqb row.2 44)) }, row.6)

-- ---- spaces round a separator

not_space : (b : ℕ) → is_white b ≡ false → eqb b 32 ≡ false
not_space b h = grind (arith, nat_tests)

not_tab : (b : ℕ) → is_white b ≡ false → (eqb b 9 || eqb b 10) ≡ false
not_tab b h = grind (arith, nat_tests)

has_spaces_is : (white rest : List ℕ) → list_all is_white white ≡ true → begins is_white rest ≡ false → has_spaces (white ++ rest) ≡ are_spaces white
has_spaces_is [] [] blank none = refl
has_spaces_is [] (b ∷ bs) blank none = rw (not_space b none, not_tab b none) refl
has_spaces_is (w ∷ ws) rest blank none =
    let both = and_parts (is_white w) (list_all is_white ws) blank in
    elim (which (eqb w 32)) [ inl e ↦ rw e (has_spaces_is ws rest both.1 none) | inr e ↦ let tab : (eqb w 9 || eqb w 10) ≡ true = rw e at both.0 in rw (e, tab) refl ]

-- ---- the loop over the grants

-- What is left of the grants at a place of a loop over them: what was told, and what is to be told of these, is what is to be told of all.
pub record AreLeft (rest : List ℕ) (before : Option Unread) (reported : List (Option Unread)) (texts_of_grants : List GrantText) : Type 0 where
  pub around : List ℕ
  pub left : List GrantText
  pub row : AreSeparated is_mark Stands rest left
  pub white : before ≡ wrong_white around
  pub same : reported ++ why_each around left ≡ why_each [] texts_of_grants

-- what a scan of the next of them gives
abbrev pub IsScan : List ℕ → Option Unread → Option Unread → List ℕ → Type 0
IsScan rest before found behind = (s : GrantText) (end : List ℕ) → Begins rest s end → (found ≡ option_or before (first_wrong None s.items)) × (behind ≡ s.after ++ end)

module _ (rest : List ℕ) (before : Option Unread) (reported : List (Option Unread)) (texts_of_grants : List GrantText) (found : Option Unread) (behind : List ℕ) (scan : IsScan rest before found behind) where
  why_is : (around : List ℕ) (s : GrantText) (end : List ℕ) → before ≡ wrong_white around → Begins rest s end → found ≡ why around s.items
  why_is around s end white begin = rw ((scan s end begin).0, white) refl

  next_is : (s : GrantText) (end : List ℕ) → Begins rest s end → (next behind ≡ end) × (list_all is_white s.after ≡ true)
  next_is s end begin =
      let blank : list_all is_white s.after ≡ true = ap (list_all is_white) begin.stands.3 ∙ begin.stands.0.blank_after in
      (ap next (scan s end begin).1 ∙ rest_is is_white s.after end blank (grant_end_not_white end begin.ends), blank)

  all_of : (around : List ℕ) (left : List GrantText) → AreSeparated is_mark Stands rest left → before ≡ wrong_white around → reported ++ why_each around left ≡ why_each [] texts_of_grants → next behind ≡ []
      → reported ++ found ∷ [] ≡ why_each [] texts_of_grants
  unfolding first_of
  all_of around [] row white same none = absurd row
  all_of around (s ∷ []) row white same none =
      let first = first_of rest s [] row in
      ap (λ (w : Option Unread). reported ++ w ∷ []) (why_is around s first.0 white first.1) ∙ same
  all_of around (s ∷ t ∷ more) row white same none =
      let begin = (first_of rest s (t ∷ more) row).1 in
      absurd (never (sym none ∙ (next_is s (row.2 ∷ row.1) begin).0))
    where
      never : [] ≡ row.2 ∷ row.1 → ⊥
      never e = cc

  pub reported_all : AreLeft rest before reported texts_of_grants → next behind ≡ [] → reported ++ found ∷ [] ≡ why_each [] texts_of_grants
  reported_all is none = all_of is.around is.left is.row is.white is.same none

  module _ (mark : ℕ) (more : List ℕ) (goes_on : next behind ≡ mark ∷ more) where
    more_of : (around : List ℕ) (left : List GrantText) → AreSeparated is_mark Stands rest left → before ≡ wrong_white around → reported ++ why_each around left ≡ why_each [] texts_of_grants
        → AreLeft more (wrong_between behind more) (reported ++ found ∷ []) texts_of_grants
    unfolding first_of
    more_of around [] row white same = absurd row
    more_of around (s ∷ []) row white same =
        let first = first_of rest s [] row in
        absurd (never (sym (next_is s [] first.1).0 ∙ goes_on))
      where
        never : [] ≡ mark ∷ more → ⊥
        never e = cc
    more_of around (s ∷ t ∷ texts_left) row white same =
        let begin = (first_of rest s (t ∷ texts_left) row).1 in
        let at = next_is s (row.2 ∷ row.1) begin in
        let here : row.1 ≡ more = ap (drop 1) (sym at.0 ∙ goes_on) in
        let begins_there = row_begins row.1 t texts_left row.6 in
        let after : has_spaces behind ≡ are_spaces s.after = ap has_spaces (scan s (row.2 ∷ row.1) begin).1 ∙ has_spaces_is s.after (row.2 ∷ row.1) at.1 (mark_not_white row.2 row.4) in
        let ahead : has_spaces more ≡ are_spaces t.before = ap has_spaces (sym here ∙ begins_there.1) ∙ has_spaces_is t.before (codes "allow" ++ begins_there.0) begins_there.2 refl in
        record {
          around = s.after ++ t.before;
          left = t ∷ texts_left;
          row = subst (λ (text : List ℕ). AreSeparated is_mark Stands text (t ∷ texts_left)) here row.6;
          white = rw (after, ahead) (ap (λ (all : Bool). if all then None else Some WhiteSpace) (sym (list_all-append (λ b. eqb b 32) s.after t.before)));
          same = append_assoc reported (found ∷ []) (why_each (s.after ++ t.before) (t ∷ texts_left))
              ∙ ap (λ (w : Option Unread). reported ++ w ∷ why_each (s.after ++ t.before) (t ∷ texts_left)) (why_is around s (row.2 ∷ row.1) white begin) ∙ same;
        }

    pub reported_more : AreLeft rest before reported texts_of_grants → AreLeft more (wrong_between behind more) (reported ++ found ∷ []) texts_of_grants
    reported_more is = more_of is.around is.left is.row is.white is.same

-- ---- how the grants of a text that reads stand

join : (text : List ℕ) (g h : Grant) (more : List Grant) (row : AreSeparated is_mark IsGrant text (g ∷ h ∷ more)) (texts_of_grants : List GrantText) → AreSeparated is_mark Stands row.1 texts_of_grants → map (λ s. s.grant) texts_of_grants ≡ h ∷ more
    → (all : List GrantText) × AreSeparated is_mark Stands text all × (map (λ s. s.grant) all ≡ g ∷ h ∷ more)
join text g h more row [] stand same = absurd stand
join text g h more row (t ∷ texts_of_grants) stand same =
    (record { grant = g; before = row.5.before; items = row.5.items; after = row.5.after } ∷ t ∷ texts_of_grants, (row.0, row.1, row.2, row.3, row.4, (row.5, refl, refl, refl), stand), ap (λ (gs : List Grant). g ∷ gs) same)

pub grant_texts_of : (text : List ℕ) (grants : List Grant) → AreSeparated is_mark IsGrant text grants → (texts_of_grants : List GrantText) × AreSeparated is_mark Stands text texts_of_grants × (map (λ s. s.grant) texts_of_grants ≡ grants)
grant_texts_of text [] row = absurd row
grant_texts_of text (g ∷ []) row = (record { grant = g; before = row.before; items = row.items; after = row.after } ∷ [], (row, refl, refl, refl), refl)
grant_texts_of text (g ∷ h ∷ more) row =
    let rest = grant_texts_of row.1 (h ∷ more) row.6 in
    join text g h more row rest.0 rest.1 rest.2
