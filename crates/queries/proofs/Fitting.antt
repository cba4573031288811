-- What is told of a log has numbers that fit.
use Rattle.std.proofs.Common.{◌≡◌, ℕ, zero, suc, ◌+◌, ◌-◌, ◌/◌, ◌%◌, ◌<◌, ◌≤◌, ◌^◌, Bool, Option, Some, None, List, [], ◌∷◌, ◌++◌, length, take, drop, ap, subst}
use Rattle.std.proofs.Common.{arith}
use Rattle.std.specs.Prelude.{codes, All, IfSome, nat_eq, ◌==◌, ◌&&◌, option_map, option_and_then, if◌then◌else◌}
use Rattle.std.specs.List.{onto_first, starts_with}
use Rattle.std.proofs.lemmas.Bool.{cond_both}
use Rattle.std.proofs.lemmas.Int.Digits.{digits_value-lt}
use Rattle.std.proofs.lemmas.List.{length-drop}
use Rattle.std.proofs.lemmas.List.Elements.{All-append, All-cons, All-nil}
use Rattle.capspec.specs.declared.fault.SpecFault.{SpecFault}
use Rattle.capspec.specs.Faults.{IsFault}
use Rattle.capgrant.specs.declared.access.Access.{Access}
use Rattle.capgrant.specs.declared.access.Access.TheVariants.{Chgrp, Chown, Read, SetVxattr, Snapshot, Write}
use Rattle.texts.specs.Lines.{HasNumber}
use Rattle.texts.specs.Remarked.{HasNumbers}
use Rattle.queries.specs.declared.question.Question.{Question}
use Rattle.queries.specs.declared.question.Values.{Values}
use Rattle.queries.specs.Question.{AsksFor}
use Rattle.queries.specs.Remarks.{asked_of}
use Rattle.queries.specs.Values.{IsModeText, without_kind}
use Rattle.texts.specs.ScriptLines.{is_line_feed, lines}
use Rattle.queries.specs.Cuts.{behind_front, cut_below, cut_first, is_any, is_closed, then_cut, then_cut_closed}
use Rattle.queries.specs.Checks.{CheckTexts, InodeTexts, check_in, check_of, check_texts, head_in, head_of, head_with, inode_of, may_stand_before}
use Rattle.queries.specs.declared.mask.Mask.{Mask}
use Rattle.capgrant.specs.Masks.{asked_if}
use Rattle.queries.specs.Masks.{IsMaskOf, accesses_of}
use Rattle.queries.specs.Reported.{with_access}

-- ---- the lines of a log

-- so many at most, and of so many bytes at most
abbrev pub AreShort : ℕ → List (List ℕ) → Type 0
AreShort most [] = Unit {0}
AreShort most (line ∷ more) = (length line ≤ most) × AreShort most more

longer : (ls : List (List ℕ)) (m n : ℕ) → m ≤ n → AreShort m ls → AreShort n ls
longer [] m n less short = tt
longer (line ∷ ls) m n less short = (omega (arith, less, short.0), longer ls m n less short.1)

one_longer : (b : ℕ) (ls : List (List ℕ)) (n : ℕ) → AreShort n ls → AreShort (suc n) (onto_first b ls)
one_longer b [] n short = (omega arith, tt)
one_longer b (line ∷ ls) n short = (omega (arith, short.0), longer ls n (suc n) (omega arith) short.1)

pub short_lines : (log : List ℕ) → AreShort (length log) (lines log)
short_lines [] = (omega arith, tt)
short_lines (b ∷ log) =
    cond_both (is_line_feed b) ([] ∷ lines log) (onto_first b (lines log)) (λ (ls : List (List ℕ)). AreShort (suc (length log)) ls)
    (λ feed. (omega arith, longer (lines log) (length log) (suc (length log)) (omega arith) (short_lines log))) (λ other. one_longer b (lines log) (length log) (short_lines log))

one_more : (b : ℕ) (ls : List (List ℕ)) → length (onto_first b ls) ≤ length ls + 1
one_more b [] = omega arith
one_more b (line ∷ ls) = omega arith

pub few_lines : (log : List ℕ) → length (lines log) ≤ length log + 1
few_lines [] = omega arith
few_lines (b ∷ log) =
    cond_both (is_line_feed b) ([] ∷ lines log) (onto_first b (lines log)) (λ (ls : List (List ℕ)). length ls ≤ suc (length log) + 1)
    (λ feed. omega (arith, few_lines log)) (λ other. omega (arith, few_lines log, one_more b (lines log)))

pub few_more : (bytes : ℕ) → (if bytes == 0 then 0 else 1) ≤ 1
few_more bytes = cond_both (bytes == 0) 0 1 (λ (n : ℕ). n ≤ 1) (λ none. omega arith) (λ some. omega arith)

-- ---- the grants of a check

-- what stands behind a mark has so few bytes
abbrev pub HasFew : {X : Type 0} → ℕ → Option (X × List ℕ) → Type 0
HasFew most parts = IfSome parts (λ p. length p.1 ≤ most)

pub more_than : {X : Type 0} (m n : ℕ) (parts : Option (X × List ℕ)) → m ≤ n → HasFew m parts → HasFew n parts
more_than m n None less few = tt
more_than m n (Some parts) less few = omega (arith, less, few)

first_behind : (mark text : List ℕ) → HasFew (length text) (cut_first mark text)
first_behind mark [] = tt
first_behind mark (b ∷ text) =
    cond_both (starts_with nat_eq (b ∷ text) mark) (Some ([], drop (length mark) (b ∷ text))) (option_map (λ (p : List ℕ × List ℕ). (b ∷ p.0, p.1)) (cut_first mark text)) (HasFew (length (b ∷ text)))
    (λ here. omega (arith, length-drop (length mark) (b ∷ text))) (λ other. further (cut_first mark text) (first_behind mark text))
  where
    further : (parts : Option (List ℕ × List ℕ)) → HasFew (length text) parts → HasFew (length (b ∷ text)) (option_map (λ (p : List ℕ × List ℕ). (b ∷ p.0, p.1)) parts)
    further None few = tt
    further (Some p) few = omega (arith, few)

-- what stands behind the word of a check is no longer than the line
pub short_check : (most : ℕ) (line : List ℕ) (parts : List ℕ × List ℕ) → length line ≤ most → check_in line ≡ Some parts → length parts.1 ≤ most
short_check most line parts short is =
    let P : Option (List ℕ × List ℕ) → Type 0 = HasFew most in
    subst P is (more_than (length line) most (check_in line) short (first_behind (codes "is_capable") line))

with_head : (most : ℕ) (front behind : List ℕ) → length behind ≤ most → HasFew most (head_with front behind)
with_head most front behind short =
    cond_both (length front == 0) (Some (None, behind)) (option_map (λ (name : List ℕ). (Some name, behind)) (behind_front (codes "fs_name ") front)) (HasFew most)
    (λ none. short) (λ some. named (behind_front (codes "fs_name ") front))
  where
    named : (name : Option (List ℕ)) → HasFew most (option_map (λ (n : List ℕ). (Some n, behind)) name)
    named None = tt
    named (Some n) = short

of_inode : (most : ℕ) (parts : Option (List ℕ × List ℕ)) → HasFew most parts → HasFew most (option_and_then (λ p. head_with p.0 p.1) parts)
of_inode most None few = tt
of_inode most (Some parts) few = with_head most parts.0 parts.1 few

pub short_head : (most : ℕ) (parts : List ℕ × List ℕ) → length parts.1 ≤ most → HasFew most (head_in parts)
short_head most parts short =
    let inode : Option (List ℕ × List ℕ) = cut_first (codes " inode(path ") parts.1 in
    cond_both (may_stand_before (codes "10 MDSAuthCap ") parts.0) (head_of parts.1) None (HasFew most)
    (λ may. of_inode most inode (more_than (length parts.1) most inode short (first_behind (codes " inode(path ") parts.1))) (λ other. tt)

-- both parts are no longer than the text
abbrev AreParts : List ℕ → Option (List ℕ × List ℕ) → Type 0
AreParts text parts = IfSome parts (λ p. (length p.0 ≤ length text) × (length p.1 ≤ length text))

less_taken : (at : ℕ) (text : List ℕ) → length (take at text) ≤ length text
less_taken zero text = omega arith
less_taken (suc at) [] = omega arith
less_taken (suc at) (b ∷ text) = omega (arith, less_taken at text)

parts_below : (test : List ℕ → Bool) (mark text : List ℕ) (at : ℕ) → AreParts text (cut_below test mark text at)
parts_below test mark text zero = tt
parts_below test mark text (suc at) =
    let behind : List ℕ = drop (length mark) (drop at text) in
    cond_both (starts_with nat_eq (drop at text) mark && test behind) (Some (take at text, behind)) (cut_below test mark text at) (AreParts text)
    (λ here. (less_taken at text, omega (arith, length-drop (length mark) (drop at text), length-drop at text))) (λ other. parts_below test mark text at)

abbrev IsShort : ℕ → Option CheckTexts → Type 0
IsShort most check = IfSome check (λ c. length c.grants ≤ most)

behind_cut : (most : ℕ) (test : List ℕ → Bool) (mark text : List ℕ) (next : List ℕ → List ℕ → Option CheckTexts)
    → ((a b : List ℕ) → length a ≤ length text → length b ≤ length text → IsShort most (next a b)) → IsShort most (option_and_then (λ p. next p.0 p.1) (cut_below test mark text (length text)))
behind_cut most test mark text next each = by_parts (cut_below test mark text (length text)) (parts_below test mark text (length text))
  where
    by_parts : (parts : Option (List ℕ × List ℕ)) → AreParts text parts → IsShort most (option_and_then (λ p. next p.0 p.1) parts)
    by_parts None fit = tt
    by_parts (Some p) fit = each p.0 p.1 fit.0 fit.1

-- the steps of check_of, from the last
abbrev of_uid : List ℕ → List ℕ → List ℕ → List ℕ → List ℕ → List ℕ → List ℕ → Option CheckTexts
of_uid grants new_gid new_uid mask gid text uid = option_map (λ inode. check_texts inode uid gid mask new_uid new_gid grants) (inode_of text)

abbrev of_gid : List ℕ → List ℕ → List ℕ → List ℕ → List ℕ → List ℕ → Option CheckTexts
of_gid grants new_gid new_uid mask text gid = then_cut (codes ") by caller ") text (of_uid grants new_gid new_uid mask gid)

abbrev of_mask : List ℕ → List ℕ → List ℕ → List ℕ → List ℕ → Option CheckTexts
of_mask grants new_gid new_uid text mask = then_cut (codes ":") text (of_gid grants new_gid new_uid mask)

abbrev of_new_uid : List ℕ → List ℕ → List ℕ → List ℕ → Option CheckTexts
of_new_uid grants new_gid text new_uid = then_cut (codes " mask ") text (of_mask grants new_gid new_uid)

abbrev of_new_gid : List ℕ → List ℕ → List ℕ → Option CheckTexts
of_new_gid grants text new_gid = then_cut (codes " new ") text (of_new_uid grants new_gid)

abbrev of_grants : List ℕ → List ℕ → Option CheckTexts
of_grants text grants = then_cut (codes ":") text (of_new_gid grants)

abbrev of_rest : List ℕ → List ℕ → Option CheckTexts
of_rest text behind = then_cut_closed (codes " cap: MDSAuthCaps[") text of_grants

module _ (most : ℕ) (grants : List ℕ) (small : length grants ≤ most) where
  short_uid : (new_gid new_uid mask gid text uid : List ℕ) → IsShort most (of_uid grants new_gid new_uid mask gid text uid)
  short_uid new_gid new_uid mask gid text uid = by_inode (inode_of text)
    where
      by_inode : (inode : Option InodeTexts) → IsShort most (option_map (λ i. check_texts i uid gid mask new_uid new_gid grants) inode)
      by_inode None = tt
      by_inode (Some inode) = small

  short_gid : (new_gid new_uid mask text gid : List ℕ) → IsShort most (of_gid grants new_gid new_uid mask text gid)
  short_gid new_gid new_uid mask text gid = behind_cut most is_any (codes ") by caller ") text (of_uid grants new_gid new_uid mask gid) (λ a b p q. short_uid new_gid new_uid mask gid a b)

  short_mask : (new_gid new_uid text mask : List ℕ) → IsShort most (of_mask grants new_gid new_uid text mask)
  short_mask new_gid new_uid text mask = behind_cut most is_any (codes ":") text (of_gid grants new_gid new_uid mask) (λ a b p q. short_gid new_gid new_uid mask a b)

  short_new_uid : (new_gid text new_uid : List ℕ) → IsShort most (of_new_uid grants new_gid text new_uid)
  short_new_uid new_gid text new_uid = behind_cut most is_any (codes " mask ") text (of_mask grants new_gid new_uid) (λ a b p q. short_mask new_gid new_uid a b)

  short_new_gid : (text new_gid : List ℕ) → IsShort most (of_new_gid grants text new_gid)
  short_new_gid text new_gid = behind_cut most is_any (codes " new ") text (of_new_uid grants new_gid) (λ a b p q. short_new_uid new_gid a b)

  short_rest : (text : List ℕ) → IsShort most (of_grants text grants)
  short_rest text = behind_cut most is_any (codes ":") text (of_new_gid grants) (λ a b p q. short_new_gid a b)

-- the grants are no longer than what stands behind the head
pub short_grants : (text : List ℕ) → IfSome (check_of text) (λ c. length c.grants ≤ length text)
short_grants text =
    behind_cut (length text) is_any (codes "]") text of_rest
    (λ front behind p q. behind_cut (length text) is_closed (codes " cap: MDSAuthCaps[") front of_grants (λ a grants r s. short_rest (length text) grants (omega (arith, p, s)) a))

pub near_fault : (text : List ℕ) (fault : SpecFault) → IsFault text fault → fault.at ≤ length text
near_fault text fault is = omega (arith, ap (λ (f : SpecFault). f.at) is.2)

-- ---- questions

power : (n : ℕ) → n ≤ 4 → 8 ^ n ≤ 4096
power zero small = omega arith
power (suc zero) small = omega arith
power (suc (suc zero)) small = omega arith
power (suc (suc (suc zero))) small = omega arith
power (suc (suc (suc (suc zero)))) small = omega arith
power (suc (suc (suc (suc (suc n))))) small = absurd (omega (arith, small))

pub small_mode : (text : List ℕ) (mode : ℕ) → IsModeText text mode → mode < 2 ^ 12
small_mode text mode is =
    let digits : List ℕ = without_kind text in
    omega (arith, is.value, digits_value-lt 8 digits is.numeral.1, power (length digits) is.short)

pub fits : (v : Values) (q : Question) (access : Access) → AsksFor v q → HasNumber access → HasNumbers (asked_of (with_access q access)) q.grants
fits v q access asks number =
    record { access = number; owner = asks.owner.small; group = asks.group.small; mode = small_mode v.mode.items q.attr.mode asks.mode; few = omega (arith, asks.grants.few) }

asked : (bits bit : ℕ) (access : Access) → HasNumber access → All HasNumber (asked_if bits bit access)
asked bits bit access number =
    cond_both (bits / bit % 2 == 1) (access ∷ []) [] (λ (xs : List Access). All HasNumber xs) (λ is. All-cons HasNumber access [] number (All-nil HasNumber)) (λ other. All-nil HasNumber)

pub all_asked : (check : CheckTexts) (mask : Mask) → IsMaskOf check mask → All HasNumber (accesses_of mask)
all_asked check mask is =
    let bits : ℕ = mask.bits in
    let last : List Access = asked_if bits 128 Snapshot in
    let fourth : List Access = asked_if bits 64 SetVxattr ++ last in
    let third : List Access = asked_if bits 32 (Chgrp mask.gid) ++ fourth in
    let second : List Access = asked_if bits 16 (Chown mask.uid) ++ third in
    let first : List Access = asked_if bits 2 Write ++ second in
    All-append HasNumber (asked_if bits 1 Read) first (asked bits 1 Read tt)
    (All-append HasNumber (asked_if bits 2 Write) second (asked bits 2 Write tt)
    (All-append HasNumber (asked_if bits 16 (Chown mask.uid)) third (asked bits 16 (Chown mask.uid) is.numbers.uid.small)
    (All-append HasNumber (asked_if bits 32 (Chgrp mask.gid)) fourth (asked bits 32 (Chgrp mask.gid) is.numbers.gid.small)
    (All-append HasNumber (asked_if bits 64 SetVxattr) last (asked bits 64 SetVxattr tt) (asked bits 128 Snapshot tt)))))
