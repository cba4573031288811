-- A check that is written reads back.
use Rattle.std.proofs.Common.{◌≡◌, ℕ, zero, suc, ◌+◌, ◌<◌, ◌≤◌, ◌%◌, Bool, true, false, Option, Some, None, List, [], ◌∷◌, ◌++◌, length, take, drop, append_assoc, refl, sym, ap, inl, inr, ◌∙◌, arith, length-append, zero-add}
use Rattle.std.specs.Prelude.{codes, nat_eq, ◌==◌, ◌&&◌, ◌||◌, not, option_and_then, count_by, cond, IfSome}
use Rattle.std.specs.List.{list_all, starts_with}
use Rattle.std.proofs.lemmas.Bool.{and_from, and_left, and_parts, and_right, cases_Bool, eqb-false, eqb-true, ne_eqb, or_from, or_parts}
use Rattle.std.proofs.lemmas.Bool.Decides.{Decides-eqb}
use Rattle.std.proofs.lemmas.List.Sums.{sum_by-append}
use Rattle.std.proofs.lemmas.Slice.Eq.{starts_is}
use Rattle.capspec.specs.Words.{is_digit}
use Rattle.queries.specs.Cuts.{cut, cut_below, cut_closed, cut_first, is_any, is_closed}
use Rattle.queries.specs.Checks.{CheckTexts, InodeTexts, check_of, head_of, head_with, inode_of}
use Rattle.queries.specs.WrittenChecks.{IsDigits, IsName, IsWritable, StandsInQuotes, with_part, written_check, written_head, written_inode}
use Rattle.queries.proofs.Marks.{hits, misses, stands_at}

-- ---- places of a mark

-- the mark stands somewhere in the text, and what is behind it passes
abbrev has_place : (List ℕ → Bool) → List ℕ → List ℕ → Bool
has_place test mark [] = false
has_place test mark (b ∷ bytes) = (starts_with nat_eq (b ∷ bytes) mark && test (drop (length mark) (b ∷ bytes))) || has_place test mark bytes

nowhere : (test : List ℕ → Bool) (mark text : List ℕ) (at : ℕ) → at < length text → has_place test mark text ≡ false → stands_at test mark text at ≡ false
nowhere test mark [] at inside none = absurd (omega (arith, inside))
nowhere test mark (b ∷ text) zero inside none = (or_parts _ (has_place test mark text) none).0
nowhere test mark (b ∷ text) (suc at) inside none = nowhere test mark text at (omega (arith, inside)) (or_parts (stands_at test mark (b ∷ text) 0) (has_place test mark text) none).1

-- a place of what stands behind a front
dropped : (front : List ℕ) (b : ℕ) (text : List ℕ) (at : ℕ) → drop (length front + 1 + at) (front ++ b ∷ text) ≡ drop at text
dropped [] b text at = ap (λ (n : ℕ). drop n (b ∷ text)) (let e : 0 + 1 + at ≡ suc at = omega arith in e)
dropped (a ∷ front) b text at = ap (λ (n : ℕ). drop n (a ∷ (front ++ b ∷ text))) (let e : suc (length front) + 1 + at ≡ suc (length front + 1 + at) = omega arith in e) ∙ dropped front b text at

-- no place above the front counts
from_above : (test : List ℕ → Bool) (mark front : List ℕ) (b : ℕ) (text : List ℕ) (n : ℕ) → n ≤ length text → has_place test mark text ≡ false
    → cut_below test mark (front ++ b ∷ text) (length front + 1 + n) ≡ cut_below test mark (front ++ b ∷ text) (length front + 1)
from_above test mark front b text zero inside none = ap (cut_below test mark (front ++ b ∷ text)) (let e : length front + 1 + 0 ≡ length front + 1 = omega arith in e)
from_above test mark front b text (suc n) inside none =
    let all : List ℕ = front ++ b ∷ text in
    let at : ℕ = length front + 1 + n in
    let miss : stands_at test mark all at ≡ false =
    ap (λ (t : List ℕ). starts_with nat_eq t mark && test (drop (length mark) t)) (dropped front b text n) ∙ nowhere test mark text n (omega (arith, inside)) none in
    misses test mark all (length front + 1 + suc n) at (omega arith) miss ∙ from_above test mark front b text n (omega (arith, inside)) none

at_front : (front rest : List ℕ) → drop (length front) (front ++ rest) ≡ rest
at_front [] rest = refl
at_front (a ∷ front) rest = at_front front rest

up_to_front : (front rest : List ℕ) → take (length front) (front ++ rest) ≡ front
up_to_front [] rest = refl
up_to_front (a ∷ front) rest = ap (λ (t : List ℕ). a ∷ t) (up_to_front front rest)

starts : (mark rest : List ℕ) → starts_with nat_eq (mark ++ rest) mark ≡ true
starts mark rest = (starts_is Decides-eqb (mark ++ rest) mark (starts_with nat_eq (mark ++ rest) mark) refl).1 rest refl

-- the text is cut at its last mark
cut_at : (test : List ℕ → Bool) (m : ℕ) (mark front part : List ℕ) → test part ≡ true → has_place test (m ∷ mark) (mark ++ part) ≡ false
    → cut_below test (m ∷ mark) (with_part (m ∷ mark) part front) (length (with_part (m ∷ mark) part front)) ≡ Some (front, part)
cut_at test m mark front part passes none =
    let all : List ℕ = front ++ m ∷ (mark ++ part) in
    let long : length all ≡ length front + 1 + length (mark ++ part) = length-append front (m ∷ (mark ++ part)) ∙ (let e : length front + suc (length (mark ++ part)) ≡ length front + 1 + length (mark ++ part) = omega arith in e) in
    let here : drop (length front) all ≡ (m ∷ mark) ++ part = at_front front (m ∷ (mark ++ part)) in
    let behind : drop (length (m ∷ mark)) (drop (length front) all) ≡ part = ap (drop (length (m ∷ mark))) here ∙ at_front (m ∷ mark) part in
    let hit : stands_at test (m ∷ mark) all (length front) ≡ true =
    and_from (starts_with nat_eq (drop (length front) all) (m ∷ mark)) (test (drop (length (m ∷ mark)) (drop (length front) all)))
    (ap (λ (t : List ℕ). starts_with nat_eq t (m ∷ mark)) here ∙ starts (m ∷ mark) part) (ap test behind ∙ passes) in
    ap (cut_below test (m ∷ mark) all) long
    ∙ from_above test (m ∷ mark) front m (mark ++ part) (length (mark ++ part)) (omega arith) none
    ∙ hits test (m ∷ mark) all (length front + 1) (length front) refl hit
    ∙ ap (λ (t : List ℕ). Some (t, drop (length (m ∷ mark)) (drop (length front) all))) (up_to_front front (m ∷ (mark ++ part)))
    ∙ ap (λ (t : List ℕ). Some (front, t)) behind

-- ---- digits

apart : (m d : ℕ) → is_digit m ≡ false → is_digit d ≡ true → nat_eq m d ≡ false
apart m d other digit = ne_eqb m d (λ same. absurd (let e : true ≡ false = sym digit ∙ ap is_digit (sym same) ∙ other in cc))

no_start : (m : ℕ) (mark digits : List ℕ) → is_digit m ≡ false → IsDigits digits → starts_with nat_eq digits (m ∷ mark) ≡ false
no_start m mark [] other all = refl
no_start m mark (d ∷ digits) other all = let e : nat_eq m d ≡ false = apart m d other (and_parts (is_digit d) (list_all is_digit digits) all).0 in rw e refl

no_place : (m : ℕ) (mark digits : List ℕ) → is_digit m ≡ false → IsDigits digits → has_place is_any (m ∷ mark) digits ≡ false
no_place m mark [] other all = refl
no_place m mark (d ∷ digits) other all =
    or_from (starts_with nat_eq (d ∷ digits) (m ∷ mark) && true) (has_place is_any (m ∷ mark) digits) (and_left (starts_with nat_eq (d ∷ digits) (m ∷ mark)) true (no_start m mark (d ∷ digits) other all))
    (no_place m mark digits other (and_parts (is_digit d) (list_all is_digit digits) all).1)

-- behind the last space of a mark that begins with one
no_place_behind_space : (m : ℕ) (mark digits : List ℕ) → is_digit m ≡ false → IsDigits digits → has_place is_any (32 ∷ m ∷ mark) (32 ∷ digits) ≡ false
no_place_behind_space m mark digits other all =
    or_from (starts_with nat_eq (32 ∷ digits) (32 ∷ m ∷ mark) && true) (has_place is_any (32 ∷ m ∷ mark) digits)
    (and_left (starts_with nat_eq (32 ∷ digits) (32 ∷ m ∷ mark)) true (no_start m mark digits other all)) (no_place 32 (m ∷ mark) digits refl all)

-- ---- quotes

abbrev quotes : List ℕ → ℕ
quotes text = count_by (λ b. b == 34) text

odd_behind : (a c : ℕ) → ((a + c) % 2 == 0) ≡ true → (a % 2 == 0) ≡ false → (c % 2 == 0) ≡ false
odd_behind a c even odd = ne_eqb (c % 2) 0 (λ also. eqb-false (a % 2) 0 odd (omega (arith, also, eqb-true ((a + c) % 2) 0 even)))

abbrev one_if_quote : ℕ → ℕ
one_if_quote b = cond (b == 34) 1 0

-- behind a place in quotes there is one that is not closed
unclosed_behind : (mark grants front text : List ℕ) → quotes mark ≡ 0 → is_closed grants ≡ true → StandsInQuotes mark grants → grants ≡ front ++ text → starts_with nat_eq text mark ≡ true → is_closed (drop (length mark) text) ≡ false
unclosed_behind mark grants front text bare closed quoted is starts =
    let behind : List ℕ = drop (length mark) text in
    let here : text ≡ mark ++ behind = (starts_is Decides-eqb text mark (starts_with nat_eq text mark) refl).0 starts in
    let whole : grants ≡ front ++ (mark ++ behind) = is ∙ ap (λ (t : List ℕ). front ++ t) here in
    let counted : quotes grants ≡ quotes front + quotes behind =
    ap quotes whole ∙ sum_by-append one_if_quote front (mark ++ behind) ∙ ap (λ (n : ℕ). quotes front + n) (sum_by-append one_if_quote mark behind ∙ ap (λ (n : ℕ). n + quotes behind) bare ∙ zero-add (quotes behind)) in
    odd_behind (quotes front) (quotes behind) (ap (λ (n : ℕ). n % 2 == 0) (sym counted) ∙ closed) (quoted front behind whole)

no_closed_place : (mark grants : List ℕ) → quotes mark ≡ 0 → is_closed grants ≡ true → StandsInQuotes mark grants → (front rest : List ℕ) → grants ≡ front ++ rest → has_place is_closed mark rest ≡ false
no_closed_place mark grants bare closed quoted front [] is = refl
no_closed_place mark grants bare closed quoted front (b ∷ rest) is =
    or_from (starts_with nat_eq (b ∷ rest) mark && is_closed (drop (length mark) (b ∷ rest))) (has_place is_closed mark rest) never
    (no_closed_place mark grants bare closed quoted (front ++ b ∷ []) rest (is ∙ sym (append_assoc front (b ∷ []) rest)))
  where
    never : (starts_with nat_eq (b ∷ rest) mark && is_closed (drop (length mark) (b ∷ rest))) ≡ false
    never = elim (cases_Bool (starts_with nat_eq (b ∷ rest) mark)) [
      | inl there ↦ and_right (starts_with nat_eq (b ∷ rest) mark) (is_closed (drop (length mark) (b ∷ rest))) (unclosed_behind mark grants front (b ∷ rest) bare closed quoted is there)
      | inr other ↦ and_left (starts_with nat_eq (b ∷ rest) mark) (is_closed (drop (length mark) (b ∷ rest))) other
    ]

-- ---- the parts, from the end

reads_inode : (i : InodeTexts) → IsDigits i.owner → IsDigits i.group → IsDigits i.mode → inode_of (written_inode i) ≡ Some i
reads_inode i owner group mode =
    let one : List ℕ = with_part (codes " owner ") i.owner i.path in
    let two : List ℕ = with_part (codes ":") i.group one in
    let at_mode : cut (codes " mode ") (with_part (codes " mode ") i.mode two) ≡ Some (two, i.mode) = cut_at is_any 32 (codes "mode ") two i.mode refl (no_place_behind_space 109 (codes "ode ") i.mode refl mode) in
    let at_group : cut (codes ":") two ≡ Some (one, i.group) = cut_at is_any 58 [] one i.group refl (no_place 58 [] i.group refl group) in
    let at_owner : cut (codes " owner ") one ≡ Some (i.path, i.owner) = cut_at is_any 32 (codes "owner ") i.path i.owner refl (no_place_behind_space 111 (codes "wner ") i.owner refl owner) in
    rw (at_mode, at_group, at_owner) refl

pub reads_back : (c : CheckTexts) → IsWritable c → check_of (written_check c) ≡ Some c
reads_back c w =
    let inode : List ℕ = written_inode c.inode in
    let one : List ℕ = with_part (codes ") by caller ") c.uid inode in
    let two : List ℕ = with_part (codes ":") c.gid one in
    let three : List ℕ = with_part (codes " mask ") c.mask two in
    let four : List ℕ = with_part (codes " new ") c.new_uid three in
    let five : List ℕ = with_part (codes ":") c.new_gid four in
    let six : List ℕ = with_part (codes " cap: MDSAuthCaps[") c.grants five in
    let at_end : cut (codes "]") (with_part (codes "]") [] six) ≡ Some (six, []) = cut_at is_any 93 [] six [] refl refl in
    let at_grants : cut_closed (codes " cap: MDSAuthCaps[") six ≡ Some (five, c.grants) =
    cut_at is_closed 32 (codes "cap: MDSAuthCaps[") five c.grants w.closed (no_closed_place (codes " cap: MDSAuthCaps[") c.grants refl w.closed w.quoted [] c.grants refl) in
    let at_new_gid : cut (codes ":") five ≡ Some (four, c.new_gid) = cut_at is_any 58 [] four c.new_gid refl (no_place 58 [] c.new_gid refl w.new_gid) in
    let at_new_uid : cut (codes " new ") four ≡ Some (three, c.new_uid) = cut_at is_any 32 (codes "new ") three c.new_uid refl (no_place_behind_space 110 (codes "ew ") c.new_uid refl w.new_uid) in
    let at_mask : cut (codes " mask ") three ≡ Some (two, c.mask) = cut_at is_any 32 (codes "mask ") two c.mask refl (no_place_behind_space 109 (codes "ask ") c.mask refl w.mask) in
    let at_gid : cut (codes ":") two ≡ Some (one, c.gid) = cut_at is_any 58 [] one c.gid refl (no_place 58 [] c.gid refl w.gid) in
    let at_uid : cut (codes ") by caller ") one ≡ Some (inode, c.uid) = cut_at is_any 41 (codes " by caller ") inode c.uid refl (no_place 41 (codes " by caller ") c.uid refl w.uid) in
    rw (at_end, at_grants, at_new_gid, at_new_uid, at_mask, at_gid, at_uid, reads_inode c.inode w.owner w.group w.mode) refl

-- ---- the head

is_not : (b : Bool) → not b ≡ true → b ≡ false
is_not false is = refl
is_not true is = absurd (cc)

-- neither a space nor a parenthesis
is_no : (f : ℕ) (fs : List ℕ) → IsName (f ∷ fs) → ¬ (f ≡ 32) × ¬ (f ≡ 40)
is_no f fs name =
    let here = and_parts (not (f == 32)) (not (f == 40)) (and_parts (not (f == 32) && not (f == 40)) (list_all (λ b. not (b == 32) && not (b == 40)) fs) name).0 in
    (eqb-false f 32 (is_not (f == 32) here.0), eqb-false f 40 (is_not (f == 40) here.1))

-- no name of a file system goes on as an inode begins
no_inode : (word more fs rest : List ℕ) → list_all (λ b. not (b == 32)) word ≡ true → IsName fs → starts_with nat_eq (fs ++ 32 ∷ rest) (word ++ 40 ∷ more) ≡ false
no_inode [] more [] rest spaceless name = refl
no_inode (w ∷ word) more [] rest spaceless name =
    let e : nat_eq w 32 ≡ false = is_not (w == 32) (and_parts (not (w == 32)) (list_all (λ b. not (b == 32)) word) spaceless).0 in rw e refl
no_inode [] more (f ∷ fs) rest spaceless name = let e : nat_eq 40 f ≡ false = ne_eqb 40 f (λ same. (is_no f fs name).1 (sym same)) in rw e refl
no_inode (w ∷ word) more (f ∷ fs) rest spaceless name =
    and_right (nat_eq w f) (starts_with nat_eq (fs ++ 32 ∷ rest) (word ++ 40 ∷ more)) (no_inode word more fs rest (and_parts (not (w == 32)) (list_all (λ b. not (b == 32)) word) spaceless).1 (and_parts (not (f == 32) && not (f == 40)) (list_all (λ b. not (b == 32) && not (b == 40)) fs) name).1)

behind_name : (fs parts : List ℕ) → IsName fs → cut_first (codes " inode(path ") (fs ++ (codes " inode(path " ++ parts)) ≡ Some (fs, parts)
behind_name [] parts name = refl
behind_name (f ∷ fs) parts name =
    let e : nat_eq 32 f ≡ false = ne_eqb 32 f (λ same. (is_no f fs name).0 (sym same)) in
    let more : cut_first (codes " inode(path ") (fs ++ (codes " inode(path " ++ parts)) ≡ Some (fs, parts) = behind_name fs parts (and_parts (not (f == 32) && not (f == 40)) (list_all (λ b. not (b == 32) && not (b == 40)) fs) name).1 in
    rw (e, more) refl

pub head_reads_back : (fs : Option (List ℕ)) (parts : List ℕ) → IfSome fs IsName → head_of (written_head fs ++ parts) ≡ Some (fs, parts)
head_reads_back None parts name = refl
head_reads_back (Some fs) parts name =
    let mark : List ℕ = codes " inode(path " in
    let behind : List ℕ = fs ++ (mark ++ parts) in
    let laid_out : written_head (Some fs) ++ parts ≡ codes "fs_name " ++ behind = ap (λ (t : List ℕ). codes "fs_name " ++ t) (append_assoc fs mark parts) in
    let e : starts_with nat_eq behind (codes "inode(path ") ≡ false = no_inode (codes "inode") (codes "path ") fs (codes "inode(path " ++ parts) refl name in
    let at_space : cut_first mark (32 ∷ behind) ≡ Some (32 ∷ fs, parts) = rw (e, behind_name fs parts name) refl in
    let cut : cut_first mark (codes "fs_name " ++ behind) ≡ Some (codes "fs_name " ++ fs, parts) = rw at_space refl in
    let some : (length (codes "fs_name " ++ fs) == 0) ≡ false = ne_eqb (length (codes "fs_name " ++ fs)) 0 (λ none. absurd (omega (arith, none))) in
    ap head_of laid_out ∙ ap (option_and_then (λ (p : List ℕ × List ℕ). head_with p.0 p.1)) cut ∙ rw some refl
