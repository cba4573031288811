-- A line that answers a question is that of one answer alone.
use Rattle.std.proofs.Common.{◌≡◌, ℕ, zero, suc, ◌+◌, ◌<◌, ◌^◌, ◌%◌, ◌==◌, ◌&&◌, inl, inr, Bool, true, false, List, [], ◌∷◌, ◌++◌, drop, refl, sym, ap, ◌∙◌}
use Rattle.std.proofs.Common.{append_assoc, arith}
use Rattle.std.specs.Prelude.{bytes_eq, codes, if◌then◌else◌, nat_eq, nat_lt}
use Rattle.std.specs.Fmt.{decimal}
use Rattle.std.specs.List.{enumerate_from, flat_map, list_all, starts_with}
use Rattle.std.specs.Str.Parse.{digits_value}
use Rattle.std.proofs.lemmas.Bool.{and_parts, cases_lt}
use Rattle.std.proofs.lemmas.Fmt.{decimal_by_steps, decimal_injective, decimal_is_IsNumeral}
use Rattle.std.proofs.lemmas.List.{append_cancel_left, append_cancel_right}
use Rattle.capgrant.specs.declared.access.Access.{Access}
use Rattle.capgrant.specs.declared.access.Access.TheVariants.{Chgrp, Chmod, Chown, Read, SetVxattr, Snapshot, Write}
use Rattle.capgrant.specs.declared.answer.Verdict.{Verdict}
use Rattle.capgrant.specs.declared.answer.Verdict.TheVariants.{Allowed, Denied}
use Rattle.capgrant.specs.declared.rule.Rule.{Rule}
use Rattle.capgrant.specs.declared.rule.Rule.TheVariants as rules
use Rattle.capgrant.specs.Access.{access_word}
use Rattle.capgrant.specs.Rule.{rule_number, rule_word}
use Rattle.texts.specs.Explaining.{failure_text, failures_text, outcome_text, reason_text}
use Rattle.texts.specs.Lines.{HasGrant, HasNumber, answer_line}
use Rattle.texts.specs.Quoting.{is_plain, quoted}
use Rattle.texts.proofs.Quoted.{bare, bare_to, before_a_space, clash, first_byte, parted_at, plain_both}

-- ---- numbers

abbrev pass_below : (ℕ → Bool) → ℕ → Bool
pass_below test zero = true
pass_below test (suc n) = test (48 + n) && pass_below test n

passes_below : (test : ℕ → Bool) (n value : ℕ) → pass_below test n ≡ true → value < n → test (48 + value) ≡ true
passes_below test zero value all below = absurd (omega arith)
passes_below test (suc n) value all below =
    let parts = and_parts (test (48 + n)) (pass_below test n) all in
    elim (cases_lt value n) [
      | inl less ↦ passes_below test n value parts.1 less
      | inr last ↦ let here : value ≡ n = omega arith in rw here parts.0
    ]

pass_push : (test : ℕ → Bool) (ds : List ℕ) (d : ℕ) → list_all test ds ≡ true → test d ≡ true → list_all test (ds ++ d ∷ []) ≡ true
pass_push test [] d all one = rw one refl
pass_push test (x ∷ ds) d all one =
    let parts = and_parts (test x) (list_all test ds) all in
    rw (parts.0, pass_push test ds d parts.1 one) refl

-- a test that the ten digits pass
number_passes : (test : ℕ → Bool) → pass_below test 10 ≡ true → (n : ℕ) → n < 2 ^ 64 → list_all test (decimal n) ≡ true
number_passes test digits =
    decimal_by_steps (λ n ds. list_all test ds ≡ true)
    (λ n below. pass_push test [] (48 + n) refl (passes_below test 10 n digits below))
    (λ n ds large all. pass_push test ds (48 + n % 10) all (passes_below test 10 (n % 10) digits (omega arith)))

pub plain_number : (n : ℕ) → n < 2 ^ 64 → list_all is_plain (decimal n) ≡ true
plain_number = number_passes is_plain refl

abbrev stands_below_colon : ℕ → Bool
stands_below_colon b = nat_lt b 58

-- a colon ends it
pub number_to_colon : (m n : ℕ) (s t : List ℕ) → m < 2 ^ 64 → n < 2 ^ 64 → decimal m ++ 58 ∷ s ≡ decimal n ++ 58 ∷ t → (m ≡ n) × (s ≡ t)
number_to_colon m n s t small also same =
    let both = parted_at stands_below_colon 58 (decimal m) (decimal n) s t refl (number_passes stands_below_colon refl m small) (number_passes stands_below_colon refl n also) same in
    (decimal_injective m n small also both.0, both.1)

-- a byte that is not plain ends it
pub number_to : (end m n : ℕ) (s t : List ℕ) → is_plain end ≡ false → m < 2 ^ 64 → n < 2 ^ 64 → decimal m ++ end ∷ s ≡ decimal n ++ end ∷ t → (m ≡ n) × (s ≡ t)
number_to end m n s t stops small also same =
    let both = bare_to end (decimal m) (decimal n) s t stops (plain_number m small) (plain_number n also) same in
    (decimal_injective m n small also both.0, both.1)

-- this byte stands behind it, and then one that is not plain
pub number_and : (mark end m n : ℕ) (s t : List ℕ) → is_plain mark ≡ true → is_plain end ≡ false → m < 2 ^ 64 → n < 2 ^ 64 → decimal m ++ mark ∷ end ∷ s ≡ decimal n ++ mark ∷ end ∷ t → (m ≡ n) × (s ≡ t)
number_and mark end m n s t plain stops small also same =
    let one : list_all is_plain (mark ∷ []) ≡ true = rw plain refl in
    let both = bare_to end (decimal m ++ mark ∷ []) (decimal n ++ mark ∷ []) s t stops (plain_both (decimal m) (mark ∷ []) (plain_number m small) one) (plain_both (decimal n) (mark ∷ []) (plain_number n also) one)
    (append_assoc (decimal m) (mark ∷ []) (end ∷ s) ∙ same ∙ sym (append_assoc (decimal n) (mark ∷ []) (end ∷ t))) in
    (decimal_injective m n small also (append_cancel_right (decimal m) (decimal n) (mark ∷ []) both.0), both.1)

-- ---- accesses

-- the access that a word names
abbrev named : List ℕ → Access
named word =
    if bytes_eq word (codes "read") then Read
    else (if bytes_eq word (codes "write") then Write
    else (if bytes_eq word (codes "vxattr") then SetVxattr
    else (if bytes_eq word (codes "snapshot") then Snapshot
    else (if bytes_eq word (codes "chmod") then Chmod
    else (if starts_with nat_eq word (codes "chown:") then Chown (digits_value 10 (drop 6 word)) else Chgrp (digits_value 10 (drop 6 word)))))))

names_it : (a : Access) → HasNumber a → named (access_word a) ≡ a
names_it Read fits = refl
names_it Write fits = refl
names_it SetVxattr fits = refl
names_it Snapshot fits = refl
names_it Chmod fits = refl
names_it (Chown n) fits = ap Chown (decimal_is_IsNumeral n (omega arith)).1
names_it (Chgrp n) fits = ap Chgrp (decimal_is_IsNumeral n (omega arith)).1

pub plain_word : (a : Access) → HasNumber a → list_all is_plain (access_word a) ≡ true
plain_word Read fits = refl
plain_word Write fits = refl
plain_word SetVxattr fits = refl
plain_word Snapshot fits = refl
plain_word Chmod fits = refl
plain_word (Chown n) fits = plain_number n (omega arith)
plain_word (Chgrp n) fits = plain_number n (omega arith)

pub one_access : (a b : Access) → HasNumber a → HasNumber b → access_word a ≡ access_word b → a ≡ b
one_access a b fits also same = sym (names_it a fits) ∙ ap named same ∙ names_it b also

-- ---- rules

abbrev numbered : ℕ → Rule
numbered n =
    if n == 1 then rules.FsName else (if n == 2 then rules.Uid else (if n == 3 then rules.Gids else (if n == 4 then rules.Path else (if n == 5 then rules.NoWrite
    else (if n == 6 then rules.RootSquash else (if n == 7 then rules.NoP else (if n == 8 then rules.NoS else (if n == 9 then rules.NotOwner
    else (if n == 10 then rules.NotOwnGroup else rules.ModeBits)))))))))

has_number : (r : Rule) → (numbered (rule_number r) ≡ r) × (rule_number r < 2 ^ 64)
has_number rules.FsName = (refl, omega arith)
has_number rules.Uid = (refl, omega arith)
has_number rules.Gids = (refl, omega arith)
has_number rules.Path = (refl, omega arith)
has_number rules.NoWrite = (refl, omega arith)
has_number rules.RootSquash = (refl, omega arith)
has_number rules.NoP = (refl, omega arith)
has_number rules.NoS = (refl, omega arith)
has_number rules.NotOwner = (refl, omega arith)
has_number rules.NotOwnGroup = (refl, omega arith)
has_number rules.ModeBits = (refl, omega arith)

-- why a grant fails, and what stands behind
abbrev before_number : ℕ → List ℕ
before_number k = codes "grant " ++ (decimal k ++ codes " rule ")

in_front : (k : ℕ) (r : Rule) (s : List ℕ) → failure_text (k, r) ++ s ≡ before_number k ++ (decimal (rule_number r) ++ 32 ∷ (rule_word r ++ s))
in_front k r s = simp append_assoc

pub one_failure : (k : ℕ) (r q : Rule) (s t : List ℕ) → failure_text (k, r) ++ s ≡ failure_text (k, q) ++ t → (r ≡ q) × (s ≡ t)
one_failure k r q s t same =
    let behind = append_cancel_left (before_number k) (decimal (rule_number r) ++ 32 ∷ (rule_word r ++ s)) (decimal (rule_number q) ++ 32 ∷ (rule_word q ++ t)) (sym (in_front k r s) ∙ same ∙ in_front k q t) in
    let small = (has_number r).1 in
    let also = (has_number q).1 in
    let parted = bare (decimal (rule_number r)) (decimal (rule_number q)) (rule_word r ++ s) (rule_word q ++ t) (plain_number (rule_number r) small) (plain_number (rule_number q) also) behind in
    let rule : r ≡ q = sym (has_number r).0 ∙ ap numbered (decimal_injective (rule_number r) (rule_number q) small also parted.0) ∙ (has_number q).0 in
    (rule, append_cancel_left (rule_word r) s t (parted.1 ∙ ap (λ (x : Rule). rule_word x ++ t) (sym rule)))

abbrev further : ℕ × Rule → List ℕ
further failure = codes ", " ++ failure_text failure

-- a line feed stands behind the last
one_row : (n : ℕ) (rs qs : List Rule) (s t : List ℕ) → flat_map further (enumerate_from n rs) ++ 10 ∷ s ≡ flat_map further (enumerate_from n qs) ++ 10 ∷ t → (rs ≡ qs) × (s ≡ t)
one_row n [] [] s t same = (refl, append_cancel_left (codes "\n") s t same)
one_row n [] (q ∷ qs) s t same = clash 10 44 (omega arith) (ap first_byte same)
one_row n (r ∷ rs) [] s t same = clash 10 44 (omega arith) (sym (ap first_byte same))
one_row n (r ∷ rs) (q ∷ qs) s t same =
    let more : List ℕ = flat_map further (enumerate_from (n + 1) rs) in
    let others : List ℕ = flat_map further (enumerate_from (n + 1) qs) in
    let behind = append_cancel_left (codes ", ") (failure_text (n, r) ++ (more ++ 10 ∷ s)) (failure_text (n, q) ++ (others ++ 10 ∷ t)) (sym (append_assoc (further (n, r)) more (10 ∷ s)) ∙ same ∙ append_assoc (further (n, q)) others (10 ∷ t)) in
    let both = one_failure n r q (more ++ 10 ∷ s) (others ++ 10 ∷ t) behind in
    let rest = one_row (n + 1) rs qs s t both.1 in
    let here : r ≡ q = both.0 in
    let all : rs ≡ qs = rest.0 in
    (cc, rest.1)

pub one_list_to : (rs qs : List Rule) (s t : List ℕ) → failures_text rs ++ 10 ∷ s ≡ failures_text qs ++ 10 ∷ t → (rs ≡ qs) × (s ≡ t)
one_list_to [] [] s t same = (refl, append_cancel_left (codes "no grants\n") s t same)
one_list_to [] (q ∷ qs) s t same = clash 103 110 (omega arith) (sym (ap first_byte same))
one_list_to (r ∷ rs) [] s t same = clash 103 110 (omega arith) (ap first_byte same)
one_list_to (r ∷ rs) (q ∷ qs) s t same =
    let more : List ℕ = flat_map further (enumerate_from 2 rs) in
    let others : List ℕ = flat_map further (enumerate_from 2 qs) in
    let both = one_failure 1 r q (more ++ 10 ∷ s) (others ++ 10 ∷ t) (sym (append_assoc (failure_text (1, r)) more (10 ∷ s)) ∙ same ∙ append_assoc (failure_text (1, q)) others (10 ∷ t)) in
    let rest = one_row 2 rs qs s t both.1 in
    let here : r ≡ q = both.0 in
    let all : rs ≡ qs = rest.0 in
    (cc, rest.1)

pub one_list : (rs qs : List Rule) → failures_text rs ≡ failures_text qs → rs ≡ qs
one_list rs qs same = (one_list_to rs qs [] [] (ap (λ (w : List ℕ). w ++ 10 ∷ []) same)).0

-- ---- whole lines

-- behind `allowed ` or `denied `
pub parted : (a b : Access) (p q s t : List ℕ) → HasNumber a → HasNumber b → access_word a ++ 32 ∷ (quoted p ++ 32 ∷ s) ≡ access_word b ++ 32 ∷ (quoted q ++ 32 ∷ t)
    → (a ≡ b) × (p ≡ q) × (s ≡ t)
parted a b p q s t fits also same =
    let word = bare (access_word a) (access_word b) (quoted p ++ 32 ∷ s) (quoted q ++ 32 ∷ t) (plain_word a fits) (plain_word b also) same in
    let path = before_a_space p q s t word.1 in
    (one_access a b fits also word.0, path.0, path.1)

in_parts : (a : Access) (p : List ℕ) (v : Verdict) (s : List ℕ) → answer_line a p v ++ s ≡ outcome_text a v ++ (quoted p ++ (reason_text v ++ s))
in_parts a p v s = append_assoc (outcome_text a v) (quoted p ++ reason_text v) s ∙ ap (λ (r : List ℕ). outcome_text a v ++ r) (append_assoc (quoted p) (reason_text v) s)

allowed_line : (a : Access) (p : List ℕ) (grant : ℕ) (s : List ℕ) → answer_line a p (Allowed grant) ++ s ≡ codes "allowed " ++ (access_word a ++ 32 ∷ (quoted p ++ 32 ∷ (codes "grant " ++ (decimal grant ++ s))))
allowed_line a p grant s = in_parts a p (Allowed grant) s ∙ ap (λ (r : List ℕ). codes "allowed " ++ r) (append_assoc (access_word a) (codes " ") (quoted p ++ (codes " grant " ++ (decimal grant ++ s))))

denied_line : (a : Access) (p : List ℕ) (rs : List Rule) (s : List ℕ) → answer_line a p (Denied rs) ++ s ≡ codes "denied " ++ (access_word a ++ 32 ∷ (quoted p ++ 32 ∷ (failures_text rs ++ s)))
denied_line a p rs s = in_parts a p (Denied rs) s ∙ ap (λ (r : List ℕ). codes "denied " ++ r) (append_assoc (access_word a) (codes " ") (quoted p ++ (codes " " ++ (failures_text rs ++ s))))

-- and what stands behind the line
pub one_answer_to : (a b : Access) (p q : List ℕ) (v w : Verdict) (s t : List ℕ) → HasNumber a → HasNumber b → HasGrant v → HasGrant w → answer_line a p v ++ 10 ∷ s ≡ answer_line b q w ++ 10 ∷ t
    → (a ≡ b) × (p ≡ q) × (v ≡ w) × (s ≡ t)
one_answer_to a b p q (Allowed g) (Allowed h) s t fits also small too same =
    let behind = append_cancel_left (codes "allowed ") (access_word a ++ 32 ∷ (quoted p ++ 32 ∷ (codes "grant " ++ (decimal g ++ 10 ∷ s)))) (access_word b ++ 32 ∷ (quoted q ++ 32 ∷ (codes "grant " ++ (decimal h ++ 10 ∷ t))))
    (sym (allowed_line a p g (10 ∷ s)) ∙ same ∙ allowed_line b q h (10 ∷ t)) in
    let all = parted a b p q (codes "grant " ++ (decimal g ++ 10 ∷ s)) (codes "grant " ++ (decimal h ++ 10 ∷ t)) fits also behind in
    let number = number_to 10 g h s t refl (omega arith) (omega arith) (append_cancel_left (codes "grant ") (decimal g ++ 10 ∷ s) (decimal h ++ 10 ∷ t) all.2) in
    (all.0, all.1, ap Allowed number.0, number.1)
one_answer_to a b p q (Allowed g) (Denied rs) s t fits also small too same = clash 97 100 (omega arith) (ap first_byte same)
one_answer_to a b p q (Denied rs) (Allowed g) s t fits also small too same = clash 97 100 (omega arith) (sym (ap first_byte same))
one_answer_to a b p q (Denied rs) (Denied qs) s t fits also small too same =
    let behind = append_cancel_left (codes "denied ") (access_word a ++ 32 ∷ (quoted p ++ 32 ∷ (failures_text rs ++ 10 ∷ s))) (access_word b ++ 32 ∷ (quoted q ++ 32 ∷ (failures_text qs ++ 10 ∷ t)))
    (sym (denied_line a p rs (10 ∷ s)) ∙ same ∙ denied_line b q qs (10 ∷ t)) in
    let all = parted a b p q (failures_text rs ++ 10 ∷ s) (failures_text qs ++ 10 ∷ t) fits also behind in
    let rules = one_list_to rs qs s t all.2 in
    (all.0, all.1, ap Denied rules.0, rules.1)

pub one_answer : (a b : Access) (p q : List ℕ) (v w : Verdict) → HasNumber a → HasNumber b → HasGrant v → HasGrant w → answer_line a p v ≡ answer_line b q w → (a ≡ b) × (p ≡ q) × (v ≡ w)
one_answer a b p q v w fits also small too same =
    let all = one_answer_to a b p q v w [] [] fits also small too (ap (λ (line : List ℕ). line ++ 10 ∷ []) same) in
    (all.0, all.1, all.2)
