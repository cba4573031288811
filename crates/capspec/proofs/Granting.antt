-- Whole grants, read from the left.
use Rattle.std.proofs.Common.{◌≡◌, ◌≢◌, ◌⊎◌, ℕ, ◌+◌, ◌-◌, ◌<◌, ◌≤◌, true, false, eqb, not, ◌||◌, List, [], ◌∷◌, ◌++◌, length, None, Result, Ok, Err, refl, sym}
use Rattle.std.proofs.Common.{ap, subst, ◌∙◌, append_assoc, arith, length-append, inl, inr}
use Rattle.std.specs.Prelude.{IfErr, IfOk, IsErr, IsOkAnd, IsTrue, MatchResult, codes}
use Rattle.std.specs.List.{list_all}
use Rattle.std.specs.Global.{Vec}
use Rattle.std.specs.declared.alloc.AllocError.{AllocError}
use Rattle.std.proofs.lemmas.Bool.{and_parts, eqb-true, not-true, true≢false}
use Rattle.std.proofs.lemmas.List.{append-nil, append_cancel_left, nil_from_length}
use Rattle.byte_sets.specs.declared.sets.ByteSet.TheVariants.{Plain, White}
use Rattle.capspec.specs.declared.draft.Draft.{Draft}
use Rattle.capspec.specs.declared.fault.SpecFault.{SpecFault}
use Rattle.capspec.specs.declared.fault.SpecFaultKind.{SpecFaultKind}
use Rattle.capspec.specs.declared.fault.SpecFaultKind.TheVariants as kinds
use Rattle.capspec.specs.declared.flags.Flags4.{Flags4}
use Rattle.capspec.specs.declared.reading.Refusal.{Refusal}
use Rattle.capspec.specs.Words.{IsWrongSecond, behind_word, next, plain_word}
use Rattle.capspec.specs.Faults.{GrantGives, GrantsGive, IsFault, IsNoMemory, IsRightFirst, ItemsGive, TestsGive, fault_at, next_grant, right_grant, second}
use Rattle.capspec.specs.Faults.{wrong_first, wrong_grant, wrong_items, wrong_second}
use Rattle.capspec.proofs.Fronts.{behind_is, front_parts, plain_is, rest_is, split_front, split_rest, which}
use Rattle.capspec.proofs.OneReading.{reads_no_fault, reads_once}
use Rattle.capspec.specs.declared.flags.Flags4.TheVariants.{R, Rw, Rwp, Rwps, Rws}
use Rattle.capspec.specs.declared.grant.Grant.{Grant}
use Rattle.byte_sets.specs.Sets.{SplitsWhile, is_in, is_mark, is_white}
use Rattle.capspec.specs.Bytes.{ends_grant, ends_word}
use Rattle.capspec.specs.Draft.{grant_of, no_items}
use Rattle.capspec.specs.Flags.{IsFlags}
use Rattle.capspec.specs.Grants.{AreNoneOrRead, IsGrant, Reads}
use Rattle.capspec.specs.Parts.{ReadsGrant, ReadsItems}
use Rattle.capspec.specs.Separated.{AreSeparated}
use Rattle.capspec.proofs.Separating.{IsBefore, joined, marked}

flags_are_long : (word : List ℕ) (flags : Flags4) → IsFlags word flags → 0 < length word
flags_are_long word R is = rw is (omega arith)
flags_are_long word Rw is = rw is (omega arith)
flags_are_long word Rwp is = rw is (omega arith)
flags_are_long word Rws is = rw is (omega arith)
flags_are_long word Rwps (inl is) = rw is (omega arith)
flags_are_long word Rwps (inr (inl is)) = rw is (omega arith)
flags_are_long word Rwps (inr (inr is)) = rw is (omega arith)

-- between `allow` and the flags stands white space
flags_gap : (behind gap second word items : List ℕ) → ends_word behind ≡ true → SplitsWhile White behind gap second → SplitsWhile Plain second word items → 0 < length word → 0 < length gap
flags_gap behind (g ∷ gap) second word items ends cut flags long = omega arith
flags_gap behind [] second [] items ends cut flags long = absurd (omega arith)
flags_gap behind [] second (b ∷ bs) items ends cut flags long =
    let ends_here : (is_white b || is_mark b) ≡ true = subst (λ (t : List ℕ). ends_word t ≡ true) (cut.parts ∙ flags.parts) ends in
    let goes_on : (is_white b || is_mark b) ≡ false = not-true _ (and_parts (not (is_white b || is_mark b)) _ flags.all_in).0 in
    absurd (true≢false (sym ends_here ∙ goes_on))

-- ---- the head of a grant

behind_allow : (text before first behind : List ℕ) → SplitsWhile White text before first → first ≡ codes "allow" ++ behind → next text ≡ codes "allow" ++ behind
behind_allow text before first behind cut allow = split_rest White text before first cut ∙ allow

right_first : (text before first behind : List ℕ) (count : ℕ) → SplitsWhile White text before first → first ≡ codes "allow" ++ behind → ends_word behind ≡ true → count < 16 → IsRightFirst count text
right_first text before first behind count cut allow ends few = (few, ap plain_word (behind_allow text before first behind cut allow) ∙ plain_is (codes "allow") behind refl ends)

second_is : (text before first behind gap second' : List ℕ) → SplitsWhile White text before first → first ≡ codes "allow" ++ behind → ends_word behind ≡ true → SplitsWhile White behind gap second' → second text ≡ second'
second_is text before first behind gap second' cut allow ends cut_gap =
    ap (λ (t : List ℕ). next (behind_word t)) (behind_allow text before first behind cut allow) ∙ ap next (behind_is (codes "allow") behind refl ends) ∙ split_rest White behind gap second' cut_gap

first_wrong : (text before first : List ℕ) (count : ℕ) → SplitsWhile White text before first → plain_word first ≢ codes "allow" → count < 16 → GrantGives count text (Err (fault_at first kinds.NotAllow))
first_wrong text before first count cut other few =
    let here : next text ≡ first = split_rest White text before first cut in
    subst (λ (t : List ℕ). GrantGives count text (Err (fault_at t kinds.NotAllow))) here (wrong_first (inr (few, (λ e. other (sym (ap plain_word here) ∙ e)), refl)))

pub not_allow_wrong : (text before first : List ℕ) (count : ℕ) → SplitsWhile White text before first → ((rest : List ℕ) → first ≢ codes "allow" ++ rest) → count < 16 → GrantGives count text (Err (fault_at first kinds.NotAllow))
not_allow_wrong text before first count cut other few =
    first_wrong text before first count cut (λ e. other (behind_word first) (front_parts (is_in Plain) first ∙ ap (λ (w : List ℕ). w ++ behind_word first) e)) few

longer : (behind : List ℕ) → ends_word behind ≡ false → plain_word (codes "allow" ++ behind) ≢ codes "allow"
longer [] unended e = true≢false unended
longer (b ∷ bs) unended e =
    let more : plain_word (codes "allow" ++ b ∷ bs) ≡ codes "allow" ++ (b ∷ plain_word bs) = rw unended refl in
    let none : b ∷ plain_word bs ≡ [] = append_cancel_left (codes "allow") (b ∷ plain_word bs) [] (sym more ∙ e) in
    absurd (cc)

pub longer_wrong : (text before first behind : List ℕ) (count : ℕ) → SplitsWhile White text before first → first ≡ codes "allow" ++ behind → ends_word behind ≡ false → count < 16 → GrantGives count text (Err (fault_at first kinds.NotAllow))
longer_wrong text before first behind count cut allow unended few = first_wrong text before first count cut (λ e. longer behind unended (sym (ap plain_word allow) ∙ e)) few

pub flags_wrong : (text before first behind gap second' word items : List ℕ) (kind : SpecFaultKind) (count : ℕ) → SplitsWhile White text before first → first ≡ codes "allow" ++ behind → ends_word behind ≡ true
    → SplitsWhile White behind gap second' → SplitsWhile Plain second' word items → IsWrongSecond word kind → count < 16 → GrantGives count text (Err (fault_at second' kind))
flags_wrong text before first behind gap second' word items kind count cut allow ends cut_gap cut_word wrong few =
    let here : second text ≡ second' = second_is text before first behind gap second' cut allow ends cut_gap in
    let word_here : plain_word (second text) ≡ word = ap plain_word here ∙ split_front Plain second' word items cut_word in
    subst (λ (t : List ℕ). GrantGives count text (Err (fault_at t kind))) here
    (wrong_second (right_first text before first behind count cut allow ends few) (subst (λ (w : List ℕ). IsWrongSecond w kind) (sym word_here) wrong))

pub items_wrong : (text before first behind gap second' word items : List ℕ) (flags : Flags4) (refusal : Refusal) (count : ℕ) → SplitsWhile White text before first → first ≡ codes "allow" ++ behind → ends_word behind ≡ true
    → SplitsWhile White behind gap second' → SplitsWhile Plain second' word items → IsFlags word flags → ItemsGive [] None items (Err refusal) → count < 16 → GrantGives count text (Err refusal)
items_wrong text before first behind gap second' word items flags refusal count cut allow ends cut_gap cut_word are_flags wrong few =
    let here : second text ≡ second' = second_is text before first behind gap second' cut allow ends cut_gap in
    let word_here : plain_word (second text) ≡ word = ap plain_word here ∙ split_front Plain second' word items cut_word in
    let items_here : behind_word (second text) ≡ items = ap behind_word here ∙ split_rest Plain second' word items cut_word in
    wrong_items flags (right_first text before first behind count cut allow ends few) (subst (λ (w : List ℕ). IsFlags w flags) (sym word_here) are_flags)
    (subst (λ (t : List ℕ). ItemsGive [] None t (Err refusal)) (sym items_here) wrong)

grant_right : (text before first behind gap second' word items rest : List ℕ) (flags : Flags4) (draft : Draft) (count : ℕ) → SplitsWhile White text before first → first ≡ codes "allow" ++ behind → ends_word behind ≡ true
    → SplitsWhile White behind gap second' → SplitsWhile Plain second' word items → IsFlags word flags → ReadsItems (no_items flags) items rest draft → count < 16 → GrantGives count text (Ok (grant_of draft, rest))
grant_right text before first behind gap second' word items rest flags draft count cut allow ends cut_gap cut_word are_flags read few =
    let here : second text ≡ second' = second_is text before first behind gap second' cut allow ends cut_gap in
    let word_here : plain_word (second text) ≡ word = ap plain_word here ∙ split_front Plain second' word items cut_word in
    let items_here : behind_word (second text) ≡ items = ap behind_word here ∙ split_rest Plain second' word items cut_word in
    right_grant read.items (right_first text before first behind count cut allow ends few)
    (subst (λ (w : List ℕ). IsFlags w (grant_of draft).flags) (sym word_here) (subst (IsFlags word) (sym read.same_flags) are_flags))
    (subst (λ (t : List ℕ). ItemsGive [] None t (Ok (read.items, rest))) (sym items_here) read.gives) read.are_items

pub reads_grant : (text before first behind gap second word items rest : List ℕ) (flags : Flags4) (draft : Draft) → SplitsWhile White text before first → first ≡ codes "allow" ++ behind → ends_word behind ≡ true
    → SplitsWhile White behind gap second → SplitsWhile Plain second word items → IsFlags word flags → ReadsItems (no_items flags) items rest draft → ReadsGrant text draft rest
reads_grant text before first behind gap second word items rest flags draft cut allow ends cut_gap cut_word are_flags read =
    let f : List ℕ → List ℕ = λ (t : List ℕ). before ++ (codes "allow" ++ t) in
    record {
      front = before ++ (codes "allow" ++ (gap ++ (word ++ (read.words ++ read.after))));
      parts = cut.parts ∙ ap (λ (t : List ℕ). before ++ t) allow ∙ ap f cut_gap.parts ∙ ap (λ (t : List ℕ). f (gap ++ t)) (cut_word.parts ∙ ap (λ (t : List ℕ). word ++ t) read.parts) ∙ simp append_assoc;
      is_grant = record {
        before = before;
        gap = gap;
        flags = word;
        words = read.words;
        after = read.after;
        items = read.items;
        parts = refl;
        blank_before = cut.all_in;
        is_gap = (cut_gap.all_in, flags_gap behind gap second word items ends cut_gap cut_word (flags_are_long word flags are_flags));
        are_flags = subst (IsFlags word) (sym read.same_flags) are_flags;
        are_words = read.are_words;
        are_items = read.are_items;
        blank_after = read.blank_after;
      };
      ends = read.ends;
      gives = λ count few. grant_right text before first behind gap second word items rest flags draft count cut allow ends cut_gap cut_word are_flags read few;
    }

-- ---- what a refusal leaves is within the text

within : (text front rest : List ℕ) (n : ℕ) → text ≡ front ++ rest → n ≤ length rest → n ≤ length text
within text front rest n parts few = omega (arith, ap length parts, length-append front rest)

pub first_within : (text before first : List ℕ) (kind : SpecFaultKind) (refusal : Refusal) → SplitsWhile White text before first → refusal ≡ fault_at first kind → refusal.left ≤ length text
first_within text before first kind refusal cut is = within text before first refusal.left cut.parts (omega (arith, ap (λ (r : Refusal). r.left) is))

second_in : (text before first behind gap second : List ℕ) (n : ℕ) → SplitsWhile White text before first → first ≡ codes "allow" ++ behind → SplitsWhile White behind gap second → n ≤ length second → n ≤ length text
second_in text before first behind gap second n cut allow cut_gap few =
    within text before first n cut.parts (within first (codes "allow") behind n allow (within behind gap second n cut_gap.parts few))

pub second_within : (text before first behind gap second : List ℕ) (kind : SpecFaultKind) (refusal : Refusal) → SplitsWhile White text before first → first ≡ codes "allow" ++ behind → SplitsWhile White behind gap second
    → refusal ≡ fault_at second kind → refusal.left ≤ length text
second_within text before first behind gap second kind refusal cut allow cut_gap is =
    second_in text before first behind gap second refusal.left cut allow cut_gap (omega (arith, ap (λ (r : Refusal). r.left) is))

pub items_within : (text before first behind gap second word items : List ℕ) (n : ℕ) → SplitsWhile White text before first → first ≡ codes "allow" ++ behind → SplitsWhile White behind gap second → SplitsWhile Plain second word items
    → n ≤ length items → n ≤ length text
items_within text before first behind gap second word items n cut allow cut_gap cut_word few =
    second_in text before first behind gap second n cut allow cut_gap (within second word items n cut_word.parts few)

-- ---- the loop over the grants

-- what was read of a text, and the grants that found memory
pub record HasGrants (text rest : List ℕ) (count : ℕ) (kept : Result (Vec Grant) AllocError) : Type 0 where
  pub done : List ℕ
  pub found : List Grant
  pub parts : text ≡ done ++ rest
  pub before : IsBefore is_mark IsGrant done found
  pub counted : length found ≡ count
  pub are_kept : IfOk kept (λ grants. grants.items ≡ found)
  pub gives : (result : Result (List Grant) Refusal) → GrantsGive found rest result → GrantsGive [] text result

pub rest_within : (text rest : List ℕ) (count : ℕ) (kept : Result (Vec Grant) AllocError) (n : ℕ) → HasGrants text rest count kept → n ≤ length rest → n ≤ length text
rest_within text rest count kept n so_far few = within text so_far.done rest n so_far.parts few

-- one grant more is kept, if it and those before found memory
keeps_more : (kept new : Result (Vec Grant) AllocError) (found : List Grant) (grant : Grant) → IfOk kept (λ grants. grants.items ≡ found) → IfOk new (λ now. IsOkAnd kept (λ old. now.items ≡ old.items ++ grant ∷ []))
    → IfOk new (λ grants. grants.items ≡ found ++ grant ∷ [])
keeps_more kept (Err e) found grant before more = tt
keeps_more (Ok old) (Ok now) found grant before more = more ∙ ap (λ (gs : List Grant). gs ++ grant ∷ []) before
keeps_more (Err e) (Ok now) found grant before more = absurd more

pub has_more_grants : (text rest after more : List ℕ) (mark count : ℕ) (kept new : Result (Vec Grant) AllocError) (draft : Draft) → HasGrants text rest count kept → ReadsGrant rest draft after → after ≡ mark ∷ more → count < 16
    → IfOk new (λ now. IsOkAnd kept (λ old. now.items ≡ old.items ++ grant_of draft ∷ [])) → HasGrants text more (count + 1) new
has_more_grants text rest after more mark count kept new draft so_far read after-is few gathered =
    let row : AreSeparated is_mark IsGrant (so_far.done ++ read.front) (so_far.found ++ grant_of draft ∷ []) = joined is_mark IsGrant so_far.done read.front so_far.found (grant_of draft) so_far.before read.is_grant in
    let is_one : IsTrue (is_mark mark) = subst (λ (t : List ℕ). ends_grant t ≡ true) after-is read.ends in
    record {
      done = (so_far.done ++ read.front) ++ mark ∷ [];
      found = so_far.found ++ grant_of draft ∷ [];
      parts = so_far.parts ∙ ap (λ (t : List ℕ). so_far.done ++ t) (read.parts ∙ ap (λ (t : List ℕ). read.front ++ t) after-is) ∙ simp append_assoc;
      before = marked is_mark IsGrant (so_far.done ++ read.front) mark (so_far.found ++ grant_of draft ∷ []) row is_one;
      counted = omega (arith, length-append so_far.found (grant_of draft ∷ []), so_far.counted);
      are_kept = keeps_more kept new so_far.found (grant_of draft) so_far.are_kept gathered;
      gives = λ result on. so_far.gives result (next_grant (grant_of draft) mark more
          (subst (λ (t : List ℕ). GrantGives (length so_far.found) rest (Ok (grant_of draft, t))) after-is (read.gives (length so_far.found) (omega (arith, so_far.counted)))) on);
    }

reads_all : (text rest : List ℕ) (count : ℕ) (kept : Result (Vec Grant) AllocError) (draft : Draft) (so_far : HasGrants text rest count kept) → ReadsGrant rest draft [] → count < 16 → Reads text (so_far.found ++ grant_of draft ∷ [])
reads_all text rest count kept draft so_far read few = record {
  are_grants = subst (λ (t : List ℕ). AreSeparated is_mark IsGrant t (so_far.found ++ grant_of draft ∷ []))
      (sym (so_far.parts ∙ ap (λ (t : List ℕ). so_far.done ++ t) (read.parts ∙ append-nil read.front)))
      (joined is_mark IsGrant so_far.done read.front so_far.found (grant_of draft) so_far.before read.is_grant);
  few = omega (arith, length-append so_far.found (grant_of draft ∷ []), so_far.counted);
}

kept_read : (text : List ℕ) (new : Result (Vec Grant) AllocError) (found : List Grant) → IfOk new (λ grants. grants.items ≡ found) → Reads text found → IfOk new (λ grants. AreNoneOrRead grants.items)
kept_read text (Ok grants) found is reads = inr (text, subst (Reads text) (sym is) reads)
kept_read text (Err e) found is reads = tt

-- what was kept of a whole text are the grants that it means
pub all_kept : (text rest after : List ℕ) (count : ℕ) (kept new : Result (Vec Grant) AllocError) (draft : Draft) → HasGrants text rest count kept → ReadsGrant rest draft after → after ≡ [] → count < 16
    → IfOk new (λ now. IsOkAnd kept (λ old. now.items ≡ old.items ++ grant_of draft ∷ [])) → IfOk new (λ grants. AreNoneOrRead grants.items)
all_kept text rest after count kept new draft so_far read none few gathered =
    kept_read text new (so_far.found ++ grant_of draft ∷ []) (keeps_more kept new so_far.found (grant_of draft) so_far.are_kept gathered) (reads_all text rest count kept draft so_far (subst (ReadsGrant rest draft) none read) few)

-- ---- the text

-- a fault of what is left, and the place where it stands in the whole text
stands_at : (text : List ℕ) (refusal : Refusal) (fault : SpecFault) → TestsGive text (Err refusal) → fault ≡ record { at = length text - refusal.left; kind = refusal.kind } → IsFault text fault
stands_at text refusal fault gives is = (refusal, gives, is)

not_blank : (text blank first : List ℕ) → SplitsWhile White text blank first → eqb (length first) 0 ≡ false → list_all is_white text ≡ false
not_blank text blank first cut some = elim (which (list_all is_white text)) [
  | inl e ↦
      let none : first ≡ [] = sym (split_rest White text blank first cut) ∙ ap next (sym (append-nil text)) ∙ rest_is (is_in White) text [] e refl in
      absurd (true≢false (sym (ap (λ (t : List ℕ). eqb (length t) 0) none) ∙ some))
  | inr e ↦ e
]

pub empty_fault : (text blank first : List ℕ) (fault : SpecFault) (refusal : Refusal) → SplitsWhile White text blank first → eqb (length first) 0 ≡ true → refusal ≡ fault_at first kinds.Empty → fault ≡ record { at = length text - refusal.left; kind = refusal.kind } → IsFault text fault
empty_fault text blank first fault refusal cut none at is =
    let nothing : first ≡ [] = nil_from_length first (eqb-true _ _ none) in
    let all : list_all is_white text ≡ true = ap (list_all is_white) (cut.parts ∙ ap (λ (t : List ℕ). blank ++ t) nothing ∙ append-nil blank) ∙ cut.all_in in
    stands_at text refusal fault (inl (all, ap Err (at ∙ ap (λ (t : List ℕ). fault_at t kinds.Empty) nothing))) is

pub grant_fault : (text blank first rest : List ℕ) (count : ℕ) (kept : Result (Vec Grant) AllocError) (fault : SpecFault) (refusal : Refusal) → SplitsWhile White text blank first → eqb (length first) 0 ≡ false → HasGrants text rest count kept
    → GrantGives count rest (Err refusal) → fault ≡ record { at = length text - refusal.left; kind = refusal.kind } → IsFault text fault
grant_fault text blank first rest count kept fault refusal cut some so_far wrong is =
    stands_at text refusal fault (inr (not_blank text blank first cut some, so_far.gives (Err refusal) (wrong_grant (subst (λ (n : ℕ). GrantGives n rest (Err refusal)) (sym so_far.counted) wrong)))) is

pub many_fault : (text blank first rest gap from : List ℕ) (count : ℕ) (kept : Result (Vec Grant) AllocError) (fault : SpecFault) (refusal : Refusal) → SplitsWhile White text blank first → eqb (length first) 0 ≡ false → HasGrants text rest count kept
    → 16 ≤ count → SplitsWhile White rest gap from → refusal ≡ fault_at from kinds.TooMany → fault ≡ record { at = length text - refusal.left; kind = refusal.kind } → IsFault text fault
many_fault text blank first rest gap from count kept fault refusal cut some so_far many cut_rest at is =
    let here : next rest ≡ from = split_rest White rest gap from cut_rest in
    let wrong : GrantGives count rest (Err (fault_at (next rest) kinds.TooMany)) = wrong_first (inl (many, refl)) in
    grant_fault text blank first rest count kept fault refusal cut some so_far (subst (λ (r : Refusal). GrantGives count rest (Err r)) (ap (λ (t : List ℕ). fault_at t kinds.TooMany) here ∙ sym at) wrong) is

-- what the text means is what is read, or no memory
abbrev pub IsFaultOrNoMemory : List ℕ → SpecFault → Type 0
IsFaultOrNoMemory text fault = IsFault text fault ⊎ (IsNoMemory fault × (grants : List Grant) × Reads text grants)

pub only_fault : (text : List ℕ) (fault : SpecFault) → IsFaultOrNoMemory text fault → (grants : List Grant) → Reads text grants → IsNoMemory fault
only_fault text fault (inl is) grants reads = absurd (reads_no_fault text grants fault reads is)
only_fault text fault (inr (none, some, read)) grants reads = none

pub only_read : (text : List ℕ) (r : Result (List Grant) SpecFault) → IfOk r (Reads text) → IfErr r (IsFaultOrNoMemory text) → (grants : List Grant) → Reads text grants → MatchResult r (λ read. read ≡ grants) IsNoMemory
only_read text (Ok read) ok err grants reads = reads_once text read grants ok reads
only_read text (Err fault) ok err grants reads = only_fault text fault err grants reads

handed_out : (text : List ℕ) (new : Result (Vec Grant) AllocError) (found : List Grant) (r : Result (List Grant) SpecFault) → IfOk new (λ grants. grants.items ≡ found) → Reads text found
    → MatchResult r (λ handed. IsOkAnd new (λ grants. handed ≡ grants.items)) (λ fault. IsNoMemory fault × IsErr new) → IfOk r (Reads text)
handed_out text (Ok grants) found (Ok handed) is reads same = subst (Reads text) (sym (same ∙ is)) reads
handed_out text (Err e) found (Ok handed) is reads same = absurd same
handed_out text new found (Err fault) is reads same = tt

no_memory : (text : List ℕ) (new : Result (Vec Grant) AllocError) (found : List Grant) (r : Result (List Grant) SpecFault) → Reads text found
    → MatchResult r (λ handed. IsOkAnd new (λ grants. handed ≡ grants.items)) (λ fault. IsNoMemory fault × IsErr new) → IfErr r (IsFaultOrNoMemory text)
no_memory text new found (Ok handed) reads same = tt
no_memory text new found (Err fault) reads same = inr (same.0, found, reads)

-- the three clauses of a text whose grants all stand
pub record IsAnswered (text : List ℕ) (r : Result (List Grant) SpecFault) : Type 0 where
  pub ok : IfOk r (Reads text)
  pub fault : IfErr r (IsFaultOrNoMemory text)

pub reads_grants : (text rest after : List ℕ) (count : ℕ) (kept new : Result (Vec Grant) AllocError) (draft : Draft) (r : Result (List Grant) SpecFault) → HasGrants text rest count kept → ReadsGrant rest draft after
    → after ≡ [] → count < 16 → IfOk new (λ now. IsOkAnd kept (λ old. now.items ≡ old.items ++ grant_of draft ∷ [])) → MatchResult r (λ handed. IsOkAnd new (λ grants. handed ≡ grants.items)) (λ fault. IsNoMemory fault × IsErr new) → IsAnswered text r
reads_grants text rest after count kept new draft r so_far read none few gathered same =
    let reads : Reads text (so_far.found ++ grant_of draft ∷ []) = reads_all text rest count kept draft so_far (subst (ReadsGrant rest draft) none read) few in
    record {
      ok = handed_out text new (so_far.found ++ grant_of draft ∷ []) r (keeps_more kept new so_far.found (grant_of draft) so_far.are_kept gathered) reads same;
      fault = no_memory text new (so_far.found ++ grant_of draft ∷ []) r reads same;
    }
