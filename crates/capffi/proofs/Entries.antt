-- The grants of the entries of a block, one by one.
use Rattle.std.proofs.Common.{◌≡◌, ℕ, ◌+◌, ◌<◌, ◌≤◌, suc, Bool, true, false, ltb, Option, Some, None, List, [], ◌∷◌, ◌++◌, length, take, drop, get_or, refl}
use Rattle.std.proofs.Common.{sym, ap, ◌∙◌, arith}
use Rattle.std.specs.Prelude.{find, is_none, nat_eq, position, set}
use Rattle.std.specs.List.{list_any, position_or_len}
use Rattle.std.proofs.lemmas.Bool.{lt-ltb, or_parts}
use Rattle.std.proofs.lemmas.Bool.Decides.{nat_tests}
use Rattle.std.proofs.lemmas.List.{append-nil, drop_more, length-append, length-take-le, take-append-drop, take_all, take_more}
use Rattle.std.proofs.lemmas.List.Elements.{filter_map-append}
use Rattle.capspec.specs.declared.grant.Grant.{Grant}
use Rattle.capgrant.specs.declared.rule.Rule.{Rule}
use Rattle.capgrant.specs.declared.rule.Rule.TheVariants.{FsName, Gids, ModeBits, NoP, NoS, NoWrite, NotOwnGroup, NotOwner, Path, RootSquash, Uid}
use Rattle.capgrant.specs.Failing.{fails, fails_fsname, fails_gids, fails_mode_bits, fails_no_p, fails_no_s, fails_no_write, fails_not_own_group}
use Rattle.capgrant.specs.Failing.{fails_not_owner, fails_path, fails_root_squash, fails_uid, first_failing}
use Rattle.capgrant.specs.Question.{Question}
use Rattle.capgrant.specs.Rule.{rule_number}
use Rattle.capgrant.specs.declared.answer.Verdict.TheVariants.{Allowed}
use Rattle.capgrant.proofs.Verdicts.{allowed_at, allowed_nowhere, each_fails}
use Rattle.capgrant.specs.Verdict.{allows, first_failures, verdict_of}
use Rattle.capffi.specs.declared.block.Entry.{Entry}
use Rattle.capffi.specs.declared.passed.Answer.{Answer}
use Rattle.capffi.specs.Answering.{answer_of, rule_numbers}
use Rattle.capffi.specs.ByBlock.{alone, number_of, open_rules, with_groups}
use Rattle.capffi.specs.Blocks.{behind, fs_in, grant_of, grants_in, path_in}

-- what stands behind the texts of entries
abbrev pub rest_of : List Entry → List ℕ → List ℕ
rest_of [] text = text
rest_of (e ∷ entries) text = rest_of entries (behind e text)

-- the grant of an entry whose texts stand at the front
abbrev pub first_of : Entry → List ℕ → Grant
first_of e text = grant_of e (path_in e text) (fs_in e text)

grants-append : (xs ys : List Entry) (text : List ℕ) → grants_in (xs ++ ys) text ≡ grants_in xs text ++ grants_in ys (rest_of xs text)
grants-append [] ys text = refl
grants-append (x ∷ xs) ys text = ap (λ (gs : List Grant). first_of x text ∷ gs) (grants-append xs ys (behind x text))

rest-append : (xs ys : List Entry) (text : List ℕ) → rest_of (xs ++ ys) text ≡ rest_of ys (rest_of xs text)
rest-append [] ys text = refl
rest-append (x ∷ xs) ys text = rest-append xs ys (behind x text)

length-grants : (entries : List Entry) (text : List ℕ) → length (grants_in entries text) ≡ length entries
length-grants [] text = refl
length-grants (e ∷ entries) text = ap suc (length-grants entries (behind e text))

-- ---- where the first of some things stands

place_of : {X : Type 0} (p : X → Bool) (xs : List X) (x : X) (ys : List X) → list_any p xs ≡ false → p x ≡ true → position_or_len p (xs ++ x ∷ ys) ≡ length xs
place_of p [] x ys none passes = rw passes refl
place_of p (w ∷ xs) x ys none passes =
    let parts = or_parts (p w) (list_any p xs) none in
    let rest : 1 + position_or_len p (xs ++ x ∷ ys) ≡ suc (length xs) = omega (arith, place_of p xs x ys parts.1 passes) in
    rw parts.0 rest

place_none : {X : Type 0} (p : X → Bool) (xs : List X) → list_any p xs ≡ false → position_or_len p xs ≡ length xs
place_none p [] none = refl
place_none p (w ∷ xs) none =
    let parts = or_parts (p w) (list_any p xs) none in
    let rest : 1 + position_or_len p xs ≡ suc (length xs) = omega (arith, place_none p xs parts.1) in
    rw parts.0 rest

found : {X : Type 0} (p : X → Bool) (xs : List X) (x : X) (ys : List X) → list_any p xs ≡ false → p x ≡ true → Some (length xs) ≡ position p (xs ++ x ∷ ys)
found p xs x ys none passes =
    let within : ltb (length xs) (length (xs ++ x ∷ ys)) ≡ true = lt-ltb (length xs) (length (xs ++ x ∷ ys)) (simp length-append (omega arith)) in
    rw (place_of p xs x ys none passes, within) refl

found_none : {X : Type 0} (p : X → Bool) (xs : List X) → list_any p xs ≡ false → None ≡ position p xs
found_none p xs none = rw (place_none p xs none) (grind (arith, nat_tests))

any_more : {X : Type 0} (p : X → Bool) (xs : List X) (x : X) → list_any p xs ≡ false → p x ≡ false → list_any p (xs ++ x ∷ []) ≡ false
any_more p [] x none fails = rw fails refl
any_more p (w ∷ xs) x none fails = let parts = or_parts (p w) (list_any p xs) none in rw parts.0 (any_more p xs x parts.1 fails)

-- ---- one entry more

abbrev pub at : List Entry → ℕ → Entry → Entry
at entries i d = get_or entries i d

pub rest_more : (entries : List Entry) (i : ℕ) (d : Entry) (text rest : List ℕ) → i < length entries → rest ≡ rest_of (take i entries) text → behind (at entries i d) rest ≡ rest_of (take (i + 1) entries) text
rest_more entries i d text rest within so = rw (take_more entries i d within, rest-append (take i entries) (at entries i d ∷ []) text) (ap (behind (at entries i d)) so)

grants_more : (entries : List Entry) (i : ℕ) (d : Entry) (text rest : List ℕ) → i < length entries → rest ≡ rest_of (take i entries) text → grants_in (take (i + 1) entries) text ≡ grants_in (take i entries) text ++ first_of (at entries i d) rest ∷ []
grants_more entries i d text rest within so =
    ap (λ (es : List Entry). grants_in es text) (take_more entries i d within) ∙ grants-append (take i entries) (at entries i d ∷ []) text
    ∙ ap (λ (r : List ℕ). grants_in (take i entries) text ++ first_of (at entries i d) r ∷ []) (sym so)

pub none_more : (q : Question) (entries : List Entry) (i : ℕ) (d : Entry) (text rest : List ℕ) (g : Grant) → i < length entries → rest ≡ rest_of (take i entries) text → g ≡ first_of (at entries i d) rest → list_any (allows q) (grants_in (take i entries) text) ≡ false → allows q g ≡ false → list_any (allows q) (grants_in (take (i + 1) entries) text) ≡ false
none_more q entries i d text rest g within so grant none fails =
    ap (list_any (allows q)) (grants_more entries i d text rest within so)
    ∙ any_more (allows q) (grants_in (take i entries) text) (first_of (at entries i d) rest) none (ap (allows q) (sym grant) ∙ fails)

failures_more : (q : Question) (entries : List Entry) (i : ℕ) (d : Entry) (text rest : List ℕ) (g : Grant) → i < length entries → rest ≡ rest_of (take i entries) text → g ≡ first_of (at entries i d) rest → first_failures q (grants_in (take (i + 1) entries) text) ≡ first_failures q (grants_in (take i entries) text) ++ first_failures q (g ∷ [])
failures_more q entries i d text rest g within so grant =
    ap (first_failures q) (grants_more entries i d text rest within so) ∙ filter_map-append (first_failing q) (grants_in (take i entries) text) (first_of (at entries i d) rest ∷ [])
    ∙ ap (λ (x : Grant). first_failures q (grants_in (take i entries) text) ++ first_failures q (x ∷ [])) (sym grant)

pub one_more_fails : (q : Question) (entries : List Entry) (i : ℕ) (d : Entry) (text rest : List ℕ) (g : Grant) (rule : Rule) → i < length entries → rest ≡ rest_of (take i entries) text → g ≡ first_of (at entries i d) rest → first_failing q g ≡ Some rule → first_failures q (grants_in (take (i + 1) entries) text) ≡ first_failures q (grants_in (take i entries) text) ++ rule ∷ []
one_more_fails q entries i d text rest g rule within so grant fails = failures_more q entries i d text rest g within so grant ∙ rw fails refl

pub one_more_allows : (q : Question) (entries : List Entry) (i : ℕ) (d : Entry) (text rest : List ℕ) (g : Grant) → i < length entries → rest ≡ rest_of (take i entries) text → g ≡ first_of (at entries i d) rest → first_failing q g ≡ None → first_failures q (grants_in (take (i + 1) entries) text) ≡ first_failures q (grants_in (take i entries) text)
one_more_allows q entries i d text rest g within so grant passes = failures_more q entries i d text rest g within so grant ∙ rw passes (append-nil (first_failures q (grants_in (take i entries) text)))

-- the entries before a place, the one there, and those behind it
here : (entries : List Entry) (i : ℕ) (d : Entry) → i < length entries → entries ≡ take i entries ++ at entries i d ∷ drop (i + 1) entries
here entries i d within = sym (take-append-drop i entries) ∙ ap (λ (es : List Entry). take i entries ++ es) (drop_more entries i d within)

pub found_here : (q : Question) (entries : List Entry) (i : ℕ) (d : Entry) (text rest : List ℕ) (g : Grant) → i < length entries → rest ≡ rest_of (take i entries) text → g ≡ first_of (at entries i d) rest → list_any (allows q) (grants_in (take i entries) text) ≡ false → allows q g ≡ true → Some i ≡ position (allows q) (grants_in entries text)
found_here q entries i d text rest g within so grant none passes =
    let behind_it : List Grant = grants_in (drop (i + 1) entries) (behind (at entries i d) rest) in
    let parts : grants_in entries text ≡ grants_in (take i entries) text ++ first_of (at entries i d) rest ∷ behind_it =
    ap (λ (es : List Entry). grants_in es text) (here entries i d within) ∙ grants-append (take i entries) (at entries i d ∷ drop (i + 1) entries) text
    ∙ ap (λ (r : List ℕ). grants_in (take i entries) text ++ first_of (at entries i d) r ∷ grants_in (drop (i + 1) entries) (behind (at entries i d) r)) (sym so) in
    let count : length (grants_in (take i entries) text) ≡ i = length-grants (take i entries) text ∙ length-take-le i entries (omega (arith, within)) in
    ap (λ (n : ℕ). Some n) (sym count) ∙ found (allows q) (grants_in (take i entries) text) (first_of (at entries i d) rest) behind_it none (ap (allows q) (sym grant) ∙ passes)
    ∙ ap (position (allows q)) (sym parts)

pub found_nowhere : (q : Question) (entries : List Entry) (i : ℕ) (text : List ℕ) → length entries ≤ i → list_any (allows q) (grants_in (take i entries) text) ≡ false → None ≡ position (allows q) (grants_in entries text)
found_nowhere q entries i text past none = found_none (allows q) (grants_in entries text) (ap (λ (es : List Entry). list_any (allows q) (grants_in es text)) (sym (take_all i entries past)) ∙ none)

-- ---- grants for everybody

no_uid : (q : Question) (g : Grant) → g.uid ≡ None → (fails_uid q g ≡ false) × (fails_not_owner q g ≡ false) × (fails_not_own_group q g ≡ false) × (fails_mode_bits q g ≡ false)
unfolding fails_uid fails_not_owner fails_not_own_group fails_mode_bits
no_uid q g is = rw is (refl, refl, refl, refl)

no_gids : (q : Question) (g : Grant) → g.gids ≡ [] → fails_gids q g ≡ false
unfolding fails_gids
no_gids q g is = rw is refl

-- the others of the rules are those that such a grant can fail by
open_first : (q : Question) (g : Grant) → g.uid ≡ None → g.gids ≡ [] → find (λ r. fails r q g) open_rules ≡ first_failing q g
unfolding first_failing
open_first q g uid gids =
    let all = no_uid q g uid in
    rw (all.0, no_gids q g gids, all.1, all.2, all.3) refl

-- the same for a caller with any groups
pub openly : (q : Question) (g : Grant) (found : Option Rule) → found ≡ find (λ r. fails r q g) open_rules → g.uid ≡ None → g.gids ≡ [] → (groups : List ℕ) → first_failing (with_groups q groups) g ≡ found
unfolding fails_fsname fails_path fails_no_write fails_root_squash fails_no_p fails_no_s
openly q g found is uid gids groups = sym (open_first (with_groups q groups) g uid gids) ∙ sym is

-- no text counts for the rules behind that of the path
pub further_same : (q : Question) (e : Entry) (text : List ℕ) (one other : Grant) → one ≡ grant_of e (path_in e []) (fs_in e []) → other ≡ grant_of e (path_in e text) (fs_in e text) → number_of (find (λ r. fails r q one) (drop 2 open_rules)) ≡ number_of (find (λ r. fails r q other) (drop 2 open_rules))
unfolding fails_no_write fails_root_squash fails_no_p fails_no_s
further_same q e text one other is are = rw (is, are) refl

-- ---- the numbers of the rules

put_rule : (rules : List Rule) (place : ℕ) (rule : Rule) → length rules ≡ place → place < 16 → set (rule_numbers rules) place (rule_number rule) ≡ rule_numbers (rules ++ rule ∷ [])
put_rule [] place rule is few = rw (sym is) refl
put_rule (a ∷ []) place rule is few = rw (sym is) refl
put_rule (a ∷ b ∷ []) place rule is few = rw (sym is) refl
put_rule (a ∷ b ∷ c ∷ []) place rule is few = rw (sym is) refl
put_rule (a ∷ b ∷ c ∷ d ∷ []) place rule is few = rw (sym is) refl
put_rule (a ∷ b ∷ c ∷ d ∷ e ∷ []) place rule is few = rw (sym is) refl
put_rule (a ∷ b ∷ c ∷ d ∷ e ∷ f ∷ []) place rule is few = rw (sym is) refl
put_rule (a ∷ b ∷ c ∷ d ∷ e ∷ f ∷ g ∷ []) place rule is few = rw (sym is) refl
put_rule (a ∷ b ∷ c ∷ d ∷ e ∷ f ∷ g ∷ h ∷ []) place rule is few = rw (sym is) refl
put_rule (a ∷ b ∷ c ∷ d ∷ e ∷ f ∷ g ∷ h ∷ i ∷ []) place rule is few = rw (sym is) refl
put_rule (a ∷ b ∷ c ∷ d ∷ e ∷ f ∷ g ∷ h ∷ i ∷ j ∷ []) place rule is few = rw (sym is) refl
put_rule (a ∷ b ∷ c ∷ d ∷ e ∷ f ∷ g ∷ h ∷ i ∷ j ∷ k ∷ []) place rule is few = rw (sym is) refl
put_rule (a ∷ b ∷ c ∷ d ∷ e ∷ f ∷ g ∷ h ∷ i ∷ j ∷ k ∷ l ∷ []) place rule is few = rw (sym is) refl
put_rule (a ∷ b ∷ c ∷ d ∷ e ∷ f ∷ g ∷ h ∷ i ∷ j ∷ k ∷ l ∷ m ∷ []) place rule is few = rw (sym is) refl
put_rule (a ∷ b ∷ c ∷ d ∷ e ∷ f ∷ g ∷ h ∷ i ∷ j ∷ k ∷ l ∷ m ∷ n ∷ []) place rule is few = rw (sym is) refl
put_rule (a ∷ b ∷ c ∷ d ∷ e ∷ f ∷ g ∷ h ∷ i ∷ j ∷ k ∷ l ∷ m ∷ n ∷ o ∷ []) place rule is few = rw (sym is) refl
put_rule (a ∷ b ∷ c ∷ d ∷ e ∷ f ∷ g ∷ h ∷ i ∷ j ∷ k ∷ l ∷ m ∷ n ∷ o ∷ p ∷ rules) place rule is few = absurd (omega (arith, is, few))

-- how many rules there are of grants that all fail
failures_count : (q : Question) (entries : List Entry) (text : List ℕ) → list_any (allows q) (grants_in entries text) ≡ false → length (first_failures q (grants_in entries text)) ≡ length entries
failures_count q entries text none = each_fails q (grants_in entries text) (sym (found_none (allows q) (grants_in entries text) none)) ∙ length-grants entries text

pub rules_more : (q : Question) (entries : List Entry) (i : ℕ) (d : Entry) (text rest : List ℕ) (g : Grant) (rule : Rule) (n : ℕ) (rules : List ℕ) → i < length entries → length entries ≤ 16 → rest ≡ rest_of (take i entries) text → g ≡ first_of (at entries i d) rest → list_any (allows q) (grants_in (take i entries) text) ≡ false → first_failing q g ≡ Some rule
    → n ≡ rule_number rule → rules ≡ rule_numbers (first_failures q (grants_in (take i entries) text)) → set rules i n ≡ rule_numbers (first_failures q (grants_in (take (i + 1) entries) text))
rules_more q entries i d text rest g rule n rules within few so grant none fails number are =
    let count : length (first_failures q (grants_in (take i entries) text)) ≡ i = failures_count q (take i entries) text none ∙ length-take-le i entries (omega (arith, within)) in
    ap (λ (ns : List ℕ). set ns i n) are
    ∙ ap (set (rule_numbers (first_failures q (grants_in (take i entries) text))) i) number
    ∙ put_rule (first_failures q (grants_in (take i entries) text)) i rule count (omega (arith, within, few))
    ∙ ap rule_numbers (sym (one_more_fails q entries i d text rest g rule within so grant fails))

-- the answer of a grant that allows, and of grants none of which does
pub allowed_answer : (q : Question) (grants : List Grant) (i : ℕ) (answered : Answer) → answered ≡ answer_of (Allowed (i + 1)) → Some i ≡ position (allows q) grants → answered ≡ answer_of (verdict_of q grants)
allowed_answer q grants i answered is found = is ∙ ap answer_of (allowed_at q grants i (sym found))

pub denied_answer : (q : Question) (entries : List Entry) (i : ℕ) (text rules : List ℕ) → length entries ≤ i → list_any (allows q) (grants_in (take i entries) text) ≡ false → rules ≡ rule_numbers (first_failures q (grants_in (take i entries) text)) → record { grant = 0; count = length entries; rules = rules } ≡ answer_of (verdict_of q (grants_in entries text))
denied_answer q entries i text rules past none are =
    let all : take i entries ≡ entries = take_all i entries past in
    let none_of : list_any (allows q) (grants_in entries text) ≡ false = ap (λ (es : List Entry). list_any (allows q) (grants_in es text)) (sym all) ∙ none in
    let numbers : rules ≡ rule_numbers (first_failures q (grants_in entries text)) = are ∙ ap (λ (es : List Entry). rule_numbers (first_failures q (grants_in es text))) all in
    let count : length entries ≡ length (first_failures q (grants_in entries text)) = sym (failures_count q entries text none_of) in
    ap (λ (ns : List ℕ). record { grant = 0; count = length entries; rules = ns }) numbers
    ∙ ap (λ (n : ℕ). record { grant = 0; count = n; rules = rule_numbers (first_failures q (grants_in entries text)) }) count
    ∙ ap answer_of (allowed_nowhere q (grants_in entries text) (sym (found_none (allows q) (grants_in entries text) none_of)))

-- ---- a grant that is alone

number_some : (rule : Rule) → nat_eq (rule_number rule) 0 ≡ false
number_some FsName = refl
number_some Uid = refl
number_some Gids = refl
number_some Path = refl
number_some NoWrite = refl
number_some RootSquash = refl
number_some NoP = refl
number_some NoS = refl
number_some NotOwner = refl
number_some NotOwnGroup = refl
number_some ModeBits = refl

pub alone_allows : (q : Question) (entries : List Entry) (d : Entry) (text : List ℕ) → length entries ≡ 1 → first_failing q (first_of (at entries 0 d) text) ≡ None → alone 0 ≡ answer_of (verdict_of q (grants_in entries text))
alone_allows q [] d text one passes = absurd (omega (arith, one))
alone_allows q (e ∷ []) d text one passes = allowed_answer q (grants_in (e ∷ []) text) 0 (answer_of (Allowed 1)) refl (found (allows q) [] (first_of e text) [] refl (ap (λ (found : Option Rule). is_none found) passes))
alone_allows q (e ∷ f ∷ entries) d text one passes = absurd (omega (arith, one))

pub alone_fails : (q : Question) (entries : List Entry) (d : Entry) (text : List ℕ) (rule : Rule) (n : ℕ) → length entries ≡ 1 → first_failing q (first_of (at entries 0 d) text) ≡ Some rule → n ≡ rule_number rule → alone n ≡ answer_of (verdict_of q (grants_in entries text))
alone_fails q [] d text rule n one fails number = absurd (omega (arith, one))
alone_fails q (e ∷ []) d text rule n one fails number =
    let none : list_any (allows q) (grants_in (e ∷ []) text) ≡ false = any_more (allows q) [] (first_of e text) refl (ap (λ (found : Option Rule). is_none found) fails) in
    let are : rule_numbers (rule ∷ []) ≡ rule_numbers (first_failures q (grants_in (e ∷ []) text)) = rw fails refl in
    let is : alone (rule_number rule) ≡ record { grant = 0; count = 1; rules = rule_numbers (rule ∷ []) } = rw (number_some rule) refl in
    ap alone number ∙ is ∙ denied_answer q (e ∷ []) 1 text (rule_numbers (rule ∷ [])) (omega arith) none are
alone_fails q (e ∷ f ∷ entries) d text rule n one fails number = absurd (omega (arith, one))

pub alone_tells : (q : Question) (entries : List Entry) (d : Entry) (text : List ℕ) (found : Option Rule) (n : ℕ) → length entries ≡ 1 → first_failing q (first_of (at entries 0 d) text) ≡ found → n ≡ number_of found → alone n ≡ answer_of (verdict_of q (grants_in entries text))
alone_tells q entries d text None n one passes number = ap alone number ∙ alone_allows q entries d text one passes
alone_tells q entries d text (Some rule) n one fails number = alone_fails q entries d text rule n one fails number
