-- A text that reads has no fault: its tests come to its grants.
use Rattle.std.proofs.Common.{◌≡◌, ℕ, ◌+◌, ◌<◌, ◌≤◌, Bool, true, false, eqb, ◌&&◌, List, [], ◌∷◌, ◌++◌, length, Option, Some, None, Ok, refl, sym, ap, subst}
use Rattle.std.proofs.Common.{◌∙◌, append_assoc, arith, inl, inr, length-append}
use Rattle.std.specs.Prelude.{codes, filter_map, is_some}
use Rattle.std.specs.List.{list_all}
use Rattle.std.proofs.lemmas.Bool.{and_parts, true≢false}
use Rattle.std.proofs.lemmas.Bool.Decides.{nat_tests}
use Rattle.std.proofs.lemmas.List.{append-nil}
use Rattle.std.proofs.lemmas.List.Elements.{filter_map-append}
use Rattle.std.proofs.lemmas.List.Folds.{list_all-append}
use Rattle.byte_sets.specs.declared.sets.ByteSet.TheVariants.{Plain, White}
use Rattle.capspec.specs.declared.flags.Flags4.{Flags4}
use Rattle.capspec.specs.declared.flags.Flags4.TheVariants.{R, Rw, Rwp, Rwps, Rws}
use Rattle.capspec.specs.declared.grant.Grant.{Grant}
use Rattle.capspec.specs.declared.items.Key.TheVariants as keys
use Rattle.byte_sets.specs.Sets.{begins, is_in, is_mark, is_white}
use Rattle.capspec.specs.Bytes.{ends_grant, ends_word}
use Rattle.capspec.specs.Flags.{IsFlags}
use Rattle.capspec.specs.Grants.{AreItemsOf, AreWordsOf, IsGap, IsGrant, IsSaidOnce, Reads, fsname_in, gids_in, path_in, root_squash_in, uid_in}
use Rattle.capspec.specs.Items.{IsItem, Item, key_of}
use Rattle.capspec.specs.Items.Item.{FsName, Gids, Path, RootSquash, Uid}
use Rattle.capspec.specs.Separated.{AreSeparated}
use Rattle.capspec.specs.Words.{BeginsWithItem, behind_word, goes_on, is_digit, next, plain_word}
use Rattle.capspec.specs.Faults.{GrantGives, GrantsGive, ItemsGive, TestsGive, gids_item, grant_end, grant_ends, is_said, last_grant, next_grant, next_item}
use Rattle.capspec.specs.Faults.{right_grant, second, stood}
use Rattle.capspec.proofs.Fronts.{behind_is, not_byte, plain_is, rest_is, which}
use Rattle.capspec.proofs.Words.{kept}

-- ---- white space and what it stands between

white_then : (gap tail : List ℕ) → list_all is_white gap ≡ true → ends_word tail ≡ true → ends_word (gap ++ tail) ≡ true
white_then [] tail blank ends = ends
white_then (g ∷ gs) tail blank ends = rw (and_parts (is_white g) (list_all is_white gs) blank).0 refl

white_stops : (gap tail : List ℕ) → list_all is_white gap ≡ true → goes_on tail ≡ false → goes_on (gap ++ tail) ≡ false
white_stops [] tail blank stops = stops
white_stops (g ∷ gs) tail blank stops = rw (not_byte is_white g 44 (and_parts (is_white g) (list_all is_white gs) blank).0 refl) refl

gap_ends : (gap tail : List ℕ) → IsGap gap → ends_word (gap ++ tail) ≡ true
gap_ends [] tail is = absurd (omega (arith, is.1))
gap_ends (g ∷ gs) tail is = rw (and_parts (is_white g) (list_all is_white gs) is.0).0 refl

gap_stops : (gap tail : List ℕ) → IsGap gap → goes_on (gap ++ tail) ≡ false
gap_stops [] tail is = absurd (omega (arith, is.1))
gap_stops (g ∷ gs) tail is = rw (not_byte is_white g 44 (and_parts (is_white g) (list_all is_white gs) is.0).0 refl) refl

pub mark_not_white : (b : ℕ) → is_mark b ≡ true → is_white b ≡ false
mark_not_white b h = grind (arith, nat_tests)

pub grant_end_not_white : (rest : List ℕ) → ends_grant rest ≡ true → begins is_white rest ≡ false
grant_end_not_white [] ends = refl
grant_end_not_white (b ∷ bs) ends = mark_not_white b ends

grant_end_ends : (rest : List ℕ) → ends_grant rest ≡ true → ends_word rest ≡ true
grant_end_ends [] ends = refl
grant_end_ends (b ∷ bs) ends = rw (mark_not_white b ends, ends) refl

next_is : (gap from : List ℕ) → list_all is_white gap ≡ true → begins is_white from ≡ false → next (gap ++ from) ≡ from
next_is gap from blank begins = rest_is (is_in White) gap from blank begins

-- ---- the items of a grant

pub item_letter : (word tail : List ℕ) (item : Item) → IsItem word item → begins is_white (word ++ tail) ≡ false
item_letter word tail (FsName name) is = rw is.1 refl
item_letter word tail (Path names) is = rw is.1 refl
item_letter word tail (Uid uid) is = rw is.1 refl
item_letter word tail (Gids gids) is = rw is.1 refl
item_letter word tail RootSquash is = rw is.1 refl

pub item_goes_on : (word tail : List ℕ) (item : Item) → IsItem word item → ends_grant (word ++ tail) ≡ false
item_goes_on word tail (FsName name) is = rw is.1 refl
item_goes_on word tail (Path names) is = rw is.1 refl
item_goes_on word tail (Uid uid) is = rw is.1 refl
item_goes_on word tail (Gids gids) is = rw is.1 refl
item_goes_on word tail RootSquash is = rw is.1 refl

words_end : (words tail : List ℕ) (items : List Item) → AreWordsOf words items → ends_word tail ≡ true → ends_word (words ++ tail) ≡ true
words_end words tail [] are ends = ap (λ (t : List ℕ). ends_word (t ++ tail)) are ∙ ends
words_end words tail (item ∷ items) are ends =
    ap (λ (t : List ℕ). ends_word (t ++ tail)) are.3 ∙ ap ends_word (append_assoc are.0 (are.1 ++ are.2) tail) ∙ gap_ends are.0 ((are.1 ++ are.2) ++ tail) are.4

words_stop : (words tail : List ℕ) (items : List Item) → AreWordsOf words items → goes_on tail ≡ false → goes_on (words ++ tail) ≡ false
words_stop words tail [] are stops = ap (λ (t : List ℕ). goes_on (t ++ tail)) are ∙ stops
words_stop words tail (item ∷ items) are stops =
    ap (λ (t : List ℕ). goes_on (t ++ tail)) are.3 ∙ ap goes_on (append_assoc are.0 (are.1 ++ are.2) tail) ∙ gap_stops are.0 ((are.1 ++ are.2) ++ tail) are.4

said_before : {A : Type 0} (default : A) (said more : List A) (value field : A) → IsSaidOnce default (said ++ value ∷ more) field → is_said said ≡ false
said_before default [] more value field once = refl
said_before default (s ∷ []) more value field once = absurd once
said_before default (s ∷ t ∷ said) more value field once = absurd once

not_before : {A : Type 0} (says : Item → Option A) (earlier items : List Item) (item : Item) (default value field : A) → says item ≡ Some value → IsSaidOnce default (filter_map says (earlier ++ item ∷ items)) field
    → is_said (filter_map says earlier) ≡ false
not_before says earlier items item default value field one once =
    let apart : filter_map says (earlier ++ item ∷ items) ≡ filter_map says earlier ++ value ∷ filter_map says items = filter_map-append says earlier (item ∷ items) ∙ rw one refl in
    said_before default (filter_map says earlier) (filter_map says items) value field (subst (λ (s : List _). IsSaidOnce default s field) apart once)

key_is_new : (earlier items : List Item) (item : Item) (grant : Grant) → AreItemsOf (earlier ++ item ∷ items) grant → stood earlier (key_of item) ≡ false
key_is_new earlier items (FsName name) grant are = not_before fsname_in earlier items (FsName name) None name grant.fsname refl are.fsname
key_is_new earlier items (Path names) grant are = not_before path_in earlier items (Path names) [] names grant.path refl are.path
key_is_new earlier items (Uid uid) grant are = not_before uid_in earlier items (Uid uid) None (Some uid) grant.uid refl are.uid
key_is_new earlier items (Gids gids) grant are = not_before gids_in earlier items (Gids gids) [] gids grant.gids refl are.gids
key_is_new earlier items RootSquash grant are = not_before root_squash_in earlier items RootSquash false true grant.root_squash refl are.root_squash

is_said-append : {A : Type 0} (said : List A) (value : A) → is_said (said ++ value ∷ []) ≡ true
is_said-append [] value = refl
is_said-append (s ∷ said) value = refl

-- the text from the gids item on is known if there is one
pub gids_known : (earlier : List Item) (gids : Option (List ℕ)) (item : Item) (from : List ℕ) → is_some gids ≡ stood earlier keys.Gids → is_some (gids_item gids item from) ≡ stood (earlier ++ item ∷ []) keys.Gids
gids_known earlier gids (FsName name) from known = known ∙ ap is_said (sym (kept gids_in earlier (FsName name) (filter_map gids_in earlier) refl refl))
gids_known earlier gids (Path names) from known = known ∙ ap is_said (sym (kept gids_in earlier (Path names) (filter_map gids_in earlier) refl refl))
gids_known earlier gids (Uid uid) from known = known ∙ ap is_said (sym (kept gids_in earlier (Uid uid) (filter_map gids_in earlier) refl refl))
gids_known earlier gids (Gids numbers) from known = sym (ap is_said (filter_map-append gids_in earlier (Gids numbers ∷ [])) ∙ is_said-append (filter_map gids_in earlier) numbers)
gids_known earlier gids RootSquash from known = known ∙ ap is_said (sym (kept gids_in earlier RootSquash (filter_map gids_in earlier) refl refl))

unsaid : {A : Type 0} (said : List A) → is_said said ≡ false → said ≡ []
unsaid [] e = refl
unsaid (s ∷ said) e = absurd (true≢false e)

ends_right : (items : List Item) (gids : Option (List ℕ)) (rest : List ℕ) (grant : Grant) → is_some gids ≡ stood items keys.Gids → AreItemsOf items grant → grant_end items gids rest ≡ Ok (items, rest)
ends_right items None rest grant known are = refl
ends_right items (Some from) rest grant known are = elim (which (stood items keys.Uid)) [
  | inl e ↦ rw e refl
  | inr e ↦ absurd (true≢false (known ∙ ap is_said (are.gids_with_uid (unsaid (filter_map uid_in items) e))))
]

items_give : (items earlier : List Item) (words tail : List ℕ) (gids : Option (List ℕ)) (grant : Grant) → AreWordsOf words items → AreItemsOf (earlier ++ items) grant → is_some gids ≡ stood earlier keys.Gids
    → ends_word tail ≡ true → goes_on tail ≡ false → ends_grant (next tail) ≡ true → ItemsGive earlier gids (words ++ tail) (Ok (earlier ++ items, next tail))
items_give [] earlier words tail gids grant are_words are known ends stops grant_ends_here =
    let all : earlier ++ [] ≡ earlier = append-nil earlier in
    let result : grant_end earlier gids (next tail) ≡ Ok (earlier ++ [], next tail) = ends_right earlier gids (next tail) grant known (subst (λ (i : List Item). AreItemsOf i grant) all are) ∙ ap (λ (i : List Item). Ok (i, next tail)) (sym all) in
    subst (λ (t : List ℕ). ItemsGive earlier gids (t ++ tail) (Ok (earlier ++ [], next tail))) (sym are_words) (subst (ItemsGive earlier gids tail) result (grant_ends grant_ends_here))
items_give (item ∷ items) earlier words tail gids grant are_words are known ends stops grant_ends_here =
    let from : List ℕ = are_words.1 ++ (are_words.2 ++ tail) in
    let whole : words ++ tail ≡ are_words.0 ++ from = ap (λ (t : List ℕ). t ++ tail) are_words.3 ∙ simp append_assoc in
    let here : next (words ++ tail) ≡ from = ap next whole ∙ next_is are_words.0 from are_words.4.0 (item_letter are_words.1 (are_words.2 ++ tail) item are_words.5) in
    let begin : BeginsWithItem from item (are_words.2 ++ tail) = record {
      takes = (record { front = are_words.1; parts = refl; holds = are_words.5 }, words_end are_words.2 tail items are_words.6 ends);
      whole = λ _. words_stop are_words.2 tail items are_words.6 stops;
    } in
    let joined : (earlier ++ item ∷ []) ++ items ≡ earlier ++ item ∷ items = append_assoc earlier (item ∷ []) items in
    let on : ItemsGive (earlier ++ item ∷ []) (gids_item gids item (next (words ++ tail))) (are_words.2 ++ tail) (Ok ((earlier ++ item ∷ []) ++ items, next tail)) =
    items_give items (earlier ++ item ∷ []) are_words.2 tail (gids_item gids item (next (words ++ tail))) grant are_words.6 (subst (λ (i : List Item). AreItemsOf i grant) (sym joined) are)
    (gids_known earlier gids item (next (words ++ tail)) known) ends stops grant_ends_here in
    next_item item (are_words.2 ++ tail) (ap ends_grant here ∙ item_goes_on are_words.1 (are_words.2 ++ tail) item are_words.5) (key_is_new earlier items item grant are)
    (subst (λ (t : List ℕ). BeginsWithItem t item (are_words.2 ++ tail)) (sym here) begin)
    (subst (λ (i : List Item). ItemsGive (earlier ++ item ∷ []) (gids_item gids item (next (words ++ tail))) (are_words.2 ++ tail) (Ok (i, next tail))) joined on)

-- ---- a grant

pub flags_letter : (word tail : List ℕ) (flags : Flags4) → IsFlags word flags → begins is_white (word ++ tail) ≡ false
flags_letter word tail R is = rw is refl
flags_letter word tail Rw is = rw is refl
flags_letter word tail Rwp is = rw is refl
flags_letter word tail Rws is = rw is refl
flags_letter word tail Rwps (inl is) = rw is refl
flags_letter word tail Rwps (inr (inl is)) = rw is refl
flags_letter word tail Rwps (inr (inr is)) = rw is refl

pub flags_plain : (word : List ℕ) (flags : Flags4) → IsFlags word flags → list_all (is_in Plain) word ≡ true
flags_plain word R is = rw is refl
flags_plain word Rw is = rw is refl
flags_plain word Rwp is = rw is refl
flags_plain word Rws is = rw is refl
flags_plain word Rwps (inl is) = rw is refl
flags_plain word Rwps (inr (inl is)) = rw is refl
flags_plain word Rwps (inr (inr is)) = rw is refl

grant_gives : (before : ℕ) (front rest : List ℕ) (grant : Grant) → before < 16 → IsGrant front grant → ends_grant rest ≡ true → goes_on rest ≡ false → GrantGives before (front ++ rest) (Ok (grant, rest))
grant_gives before front rest grant few is ends stops =
    let tail : List ℕ = is.after ++ rest in
    let items_text : List ℕ = is.words ++ tail in
    let flags_text : List ℕ = is.flags ++ items_text in
    let behind : List ℕ = is.gap ++ flags_text in
    let first : List ℕ = codes "allow" ++ behind in
    let whole : front ++ rest ≡ is.before ++ first = ap (λ (t : List ℕ). t ++ rest) is.parts ∙ simp append_assoc in
    let here : next (front ++ rest) ≡ first = ap next whole ∙ next_is is.before first is.blank_before refl in
    let behind_ends : ends_word behind ≡ true = gap_ends is.gap flags_text is.is_gap in
    let tail_ends : ends_word tail ≡ true = white_then is.after rest is.blank_after (grant_end_ends rest ends) in
    let tail_stops : goes_on tail ≡ false = white_stops is.after rest is.blank_after stops in
    let tail_next : next tail ≡ rest = next_is is.after rest is.blank_after (grant_end_not_white rest ends) in
    let items_end : ends_word items_text ≡ true = words_end is.words tail is.items is.are_words tail_ends in
    let second_here : second (front ++ rest) ≡ flags_text = ap (λ (t : List ℕ). next (behind_word t)) here ∙ ap next (behind_is (codes "allow") behind refl behind_ends) ∙ next_is is.gap flags_text is.is_gap.0 (flags_letter is.flags items_text grant.flags is.are_flags) in
    let flags_here : plain_word (second (front ++ rest)) ≡ is.flags = ap plain_word second_here ∙ plain_is is.flags items_text (flags_plain is.flags grant.flags is.are_flags) items_end in
    let items_here : behind_word (second (front ++ rest)) ≡ items_text = ap behind_word second_here ∙ behind_is is.flags items_text (flags_plain is.flags grant.flags is.are_flags) items_end in
    let give : ItemsGive [] None items_text (Ok (is.items, next tail)) = items_give is.items [] is.words tail None grant is.are_words is.are_items refl tail_ends tail_stops (ap ends_grant tail_next ∙ ends) in
    right_grant is.items (few, ap plain_word here ∙ plain_is (codes "allow") behind refl behind_ends) (subst (λ (w : List ℕ). IsFlags w grant.flags) (sym flags_here) is.are_flags)
    (subst (λ (t : List ℕ). ItemsGive [] None t (Ok (is.items, rest))) (sym items_here) (subst (λ (r : List ℕ). ItemsGive [] None items_text (Ok (is.items, r))) tail_next give)) is.are_items

-- ---- the grants of a text

pub blank_no_digit : (gap tail : List ℕ) → list_all is_white gap ≡ true → begins is_digit tail ≡ false → begins is_digit (gap ++ tail) ≡ false
blank_no_digit [] tail blank other = other
blank_no_digit (g ∷ gs) tail blank other = white_no_digit g (and_parts (is_white g) (list_all is_white gs) blank).0
  where
    white_no_digit : (b : ℕ) → is_white b ≡ true → is_digit b ≡ false
    white_no_digit b h = grind (arith, nat_tests)

grant_no_digit : (front tail : List ℕ) (grant : Grant) → IsGrant front grant → begins is_digit (front ++ tail) ≡ false
grant_no_digit front tail grant is =
    ap (λ (t : List ℕ). begins is_digit (t ++ tail)) is.parts ∙ ap (begins is_digit) (append_assoc is.before (codes "allow" ++ (is.gap ++ (is.flags ++ (is.words ++ is.after)))) tail)
    ∙ blank_no_digit is.before ((codes "allow" ++ (is.gap ++ (is.flags ++ (is.words ++ is.after)))) ++ tail) is.blank_before refl

row_no_digit : (text : List ℕ) (grants : List Grant) → AreSeparated is_mark IsGrant text grants → begins is_digit text ≡ false
row_no_digit text [] row = absurd row
row_no_digit text (x ∷ []) row = ap (begins is_digit) (sym (append-nil text)) ∙ grant_no_digit text [] x row
row_no_digit text (x ∷ y ∷ more) row = ap (begins is_digit) row.3 ∙ grant_no_digit row.0 (row.2 ∷ row.1) x row.5

mark_stops : (mark : ℕ) (rest : List ℕ) → begins is_digit rest ≡ false → goes_on (mark ∷ rest) ≡ false
mark_stops mark rest other = elim (which (eqb mark 44)) [ inl e ↦ rw (e, other) refl | inr e ↦ rw e refl ]

grants_give : (grants before : List Grant) (text : List ℕ) → AreSeparated is_mark IsGrant text grants → length before + length grants ≤ 16 → GrantsGive before text (Ok (before ++ grants))
grants_give [] before text row few = absurd row
grants_give (x ∷ []) before text row few = last_grant (subst (λ (t : List ℕ). GrantGives (length before) t (Ok (x, []))) (append-nil text) (grant_gives (length before) text [] x (omega arith) row refl refl))
grants_give (x ∷ y ∷ more) before text row few =
    let joined : (before ++ x ∷ []) ++ (y ∷ more) ≡ before ++ x ∷ y ∷ more = append_assoc before (x ∷ []) (y ∷ more) in
    next_grant x row.2 row.1
    (subst (λ (t : List ℕ). GrantGives (length before) t (Ok (x, row.2 ∷ row.1))) (sym row.3) (grant_gives (length before) row.0 (row.2 ∷ row.1) x (omega arith) row.5 row.4 (mark_stops row.2 row.1 (row_no_digit row.1 (y ∷ more) row.6))))
    (subst (λ (g : List Grant). GrantsGive (before ++ x ∷ []) row.1 (Ok g)) joined (grants_give (y ∷ more) (before ++ x ∷ []) row.1 row.6 (omega (arith, length-append before (x ∷ [])))))

not_blank : (front tail : List ℕ) (grant : Grant) → IsGrant front grant → list_all is_white (front ++ tail) ≡ false
not_blank front tail grant is =
    ap (λ (t : List ℕ). list_all is_white (t ++ tail)) is.parts ∙ ap (list_all is_white) (append_assoc is.before (codes "allow" ++ (is.gap ++ (is.flags ++ (is.words ++ is.after)))) tail)
    ∙ list_all-append is_white is.before ((codes "allow" ++ (is.gap ++ (is.flags ++ (is.words ++ is.after)))) ++ tail) ∙ and_false (list_all is_white is.before)
  where
    and_false : (b : Bool) → (b && false) ≡ false
    and_false true = refl
    and_false false = refl

row_not_blank : (text : List ℕ) (grants : List Grant) → AreSeparated is_mark IsGrant text grants → list_all is_white text ≡ false
row_not_blank text [] row = absurd row
row_not_blank text (x ∷ []) row = ap (list_all is_white) (sym (append-nil text)) ∙ not_blank text [] x row
row_not_blank text (x ∷ y ∷ more) row = ap (list_all is_white) row.3 ∙ not_blank row.0 (row.2 ∷ row.1) x row.5

pub reads_give : (text : List ℕ) (grants : List Grant) → Reads text grants → TestsGive text (Ok grants)
reads_give text grants reads = inr (row_not_blank text grants reads.are_grants, grants_give grants [] text reads.are_grants (omega (arith, reads.few)))
