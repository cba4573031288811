-- The objects of answers have whole numbers.
use Rattle.std.proofs.Common.{ℕ, ◌+◌, ◌<◌, ◌^◌, Bool, true, false, cond, List, [], ◌∷◌, length, map, Option, None, Some, Ordering, Less, Equal, Greater, nat_cmp, arith}
use Rattle.std.specs.Prelude.{⊤, All, IfSome, codes, not}
use Rattle.std.specs.Cmp.Lexicographic.{slice_cmp}
use Rattle.std.specs.List.{enumerate_from}
use Rattle.std.specs.Ordering.{match_ordering}
use Rattle.std.specs.Str.{is_utf8}
use Rattle.std.proofs.lemmas.List.Elements.{All-head, All-tail}
use Rattle.hex.specs.Hex.{encode_lower}
use Rattle.serde_json.specs.Data.{Data, Members, member, no_members, put, string}
use Rattle.serde_json.specs.View.{items_of}
use Rattle.capbits.specs.declared.caller.Caller.{Caller}
use Rattle.capgrant.specs.declared.answer.Verdict.{Verdict}
use Rattle.capgrant.specs.declared.answer.Verdict.TheVariants.{Allowed, Denied}
use Rattle.capgrant.specs.declared.rule.Rule.{Rule}
use Rattle.capgrant.specs.declared.rule.Rule.TheVariants as rules
use Rattle.capgrant.specs.Question.{Question}
use Rattle.capgrant.specs.Rule.{rule_number, rule_word}
use Rattle.release_rules.specs.declared.beside.Otherwise.{Otherwise}
use Rattle.release_rules.specs.declared.beside.Others.{Others}
use Rattle.release_rules.specs.declared.beside.Reason.{Reason}
use Rattle.release_rules.specs.declared.release.Release.{Release}
use Rattle.release_rules.specs.declared.rule.Rule.{Rule as MdsRule}
use Rattle.release_rules.specs.declared.rule.Rule.TheVariants as mds_rules
use Rattle.release_rules.specs.declared.verdict.Verdict.{Verdict as MdsVerdict}
use Rattle.release_rules.specs.declared.verdict.Verdict.TheVariants as mds
use Rattle.release_rules.specs.Rules.{rule_number as mds_number}
use Rattle.release_rules.specs.Rules.{rule_word as mds_rule_word}
use Rattle.texts.specs.declared.mds_asked.MdsAccess.{MdsAccess}
use Rattle.texts.specs.Answers.{answer_value, attr_table, caller_table, is_of_access, other_value, others_table}
use Rattle.texts.specs.Answers.{place_table, reason_if, remarks_table, rule_value, verdict_table, verdict_word, with_question}
use Rattle.texts.specs.Explaining.{path_text}
use Rattle.texts.specs.Lines.{HasGrant}
use Rattle.texts.specs.MdsAnswers.{failures_value, grant_value, mds_rule_value, mds_table, mds_value}
use Rattle.texts.specs.MdsTold.{AreCounted, HasMdsGrant, HasRefusal, IsCounted}
use Rattle.texts.specs.Values.{HasWholeNumbers, ItemsHaveWholeNumbers, MembersHaveWholeNumbers, Table, bytes_value, natural, numbered, numbers_value, object_of, or_null, with_all}

-- ---- any objects

ordered : (o : Ordering) (a b c : Members) → MembersHaveWholeNumbers a → MembersHaveWholeNumbers b → MembersHaveWholeNumbers c → MembersHaveWholeNumbers (match_ordering o a b c)
ordered Less a b c p q r = p
ordered Equal a b c p q r = q
ordered Greater a b c p q r = r

whole-put : (key : List ℕ) (d : Data) (ms : Members) → HasWholeNumbers d → MembersHaveWholeNumbers ms → MembersHaveWholeNumbers (put key d ms)
whole-put key d no_members here whole = (here, tt)
whole-put key d (member other e ms) here whole =
    ordered (slice_cmp nat_cmp key other) (member key d (member other e ms)) (member other d ms) (member other e (put key d ms)) (here, whole) (here, whole.1) (whole.0, whole-put key d ms here whole.1)

abbrev pub AllWhole : Table → Type 0
AllWhole [] = ⊤
AllWhole (m ∷ more) = HasWholeNumbers m.1 × AllWhole more

pub whole-all : (table : Table) (ms : Members) → AllWhole table → MembersHaveWholeNumbers ms → MembersHaveWholeNumbers (with_all table ms)
whole-all [] ms all whole = whole
whole-all (m ∷ more) ms all whole = whole-all more (put m.0 m.1 ms) all.1 (whole-put m.0 m.1 ms all.0 whole)

pub whole-object : (table : Table) → AllWhole table → HasWholeNumbers (object_of table)
whole-object table all = whole-all table no_members all tt

-- ---- their parts

pub whole-bytes : (bytes : List ℕ) → HasWholeNumbers (bytes_value bytes)
whole-bytes bytes = by_form (is_utf8 bytes)
  where
    by_form : (b : Bool) → HasWholeNumbers (cond b (string bytes) (object_of ((codes "hex", string (encode_lower bytes)) ∷ [])))
    by_form true = tt
    by_form false = whole-object ((codes "hex", string (encode_lower bytes)) ∷ []) (tt, tt)

-- a number of 32 bits
abbrev pub IsSmall : ℕ → Type 0
IsSmall n = n < 2 ^ 32

widened : (n : ℕ) → n < 2 ^ 32 → n < 2 ^ 64
widened n small = omega (arith, small)

whole-items : (numbers : List ℕ) → All IsSmall numbers → ItemsHaveWholeNumbers (items_of (map natural numbers))
whole-items [] small = tt
whole-items (n ∷ numbers) small = (widened n (All-head IsSmall n numbers small), whole-items numbers (All-tail IsSmall n numbers small))

pub whole-numbers : (numbers : List ℕ) → All IsSmall numbers → HasWholeNumbers (numbers_value numbers)
whole-numbers numbers small = whole-items numbers small

-- who asks
pub record HasSmallIds (caller : Caller) : Type 0 where
  pub uid : caller.uid < 2 ^ 32
  pub gid : caller.gid < 2 ^ 32
  pub groups : All IsSmall caller.groups

pub whole-caller : (caller : Caller) → HasSmallIds caller → AllWhole (caller_table caller)
whole-caller caller small = (omega (arith, small.uid), (omega (arith, small.gid), (whole-numbers caller.groups small.groups, tt)))

whole-question : (q : Question) (ms : Members) → HasSmallIds q.caller → q.attr.uid < 2 ^ 32 → q.attr.gid < 2 ^ 32 → MembersHaveWholeNumbers ms → MembersHaveWholeNumbers (with_question q ms)
whole-question q ms small owner group whole =
    let placed : Members = with_all (place_table q.access q.path q.fs) ms in
    let place : MembersHaveWholeNumbers placed = whole-all (place_table q.access q.path q.fs) ms (tt, (whole-bytes (path_text q.path), (whole-bytes q.fs, tt))) whole in
    whole-all (attr_table q.attr) (with_all (caller_table q.caller) placed) (omega (arith, owner), (omega (arith, group), (tt, tt)))
    (whole-all (caller_table q.caller) placed (whole-caller q.caller small) place)

whole-line : (number : ℕ) → number < 2 ^ 64 → MembersHaveWholeNumbers (numbered (Some number))
whole-line number small = whole-all ((codes "line", natural number) ∷ []) no_members (small, tt) tt

whole-or_null : {X : Type 0} (value : X → Data) (P : X → Type 0) → ((x : X) → P x → HasWholeNumbers (value x)) → (o : Option X) → IfSome o P → HasWholeNumbers (or_null value o)
whole-or_null value P each None fits = tt
whole-or_null value P each (Some x) fits = each x fits

-- ---- answers

few_rules : (rule : Rule) → rule_number rule < 2 ^ 64
few_rules rules.FsName = omega arith
few_rules rules.Uid = omega arith
few_rules rules.Gids = omega arith
few_rules rules.Path = omega arith
few_rules rules.NoWrite = omega arith
few_rules rules.RootSquash = omega arith
few_rules rules.NoP = omega arith
few_rules rules.NoS = omega arith
few_rules rules.NotOwner = omega arith
few_rules rules.NotOwnGroup = omega arith
few_rules rules.ModeBits = omega arith

whole-rules : (n : ℕ) (failing : List Rule) → n + length failing < 2 ^ 64 → ItemsHaveWholeNumbers (items_of (map rule_value (enumerate_from n failing)))
whole-rules n [] few = tt
whole-rules n (rule ∷ failing) few =
    let table : Table = (codes "grant", natural n) ∷ (codes "rule", natural (rule_number rule)) ∷ (codes "word", string (rule_word rule)) ∷ [] in
    (whole-object table (omega (arith, few), (few_rules rule, (tt, tt))), whole-rules (n + 1) failing (omega (arith, few)))

-- a denial is by so few rules
abbrev pub HasFewRules : Verdict → Type 0
HasFewRules (Allowed grant) = ⊤
HasFewRules (Denied failing) = length failing + 1 < 2 ^ 64

whole-verdict : (v : Verdict) → HasGrant v → HasFewRules v → AllWhole (verdict_table v)
whole-verdict (Allowed grant) small few = (tt, (omega (arith, small), tt))
whole-verdict (Denied failing) small few = (tt, (whole-rules 1 failing (omega (arith, few)), tt))

whole-reason : (condition : Bool) (reason : Reason) → HasWholeNumbers (reason_if condition reason)
whole-reason true reason = tt
whole-reason false reason = tt

whole-other : (other : Otherwise) → other.grant < 2 ^ 64 → HasWholeNumbers (other_value other)
whole-other other small =
    let by_grant : Bool = not (is_of_access other.reason) in
    let by_access : Bool = is_of_access other.reason in
    whole-object
    ((codes "verdict", string (verdict_word other.allows)) ∷ (codes "grant", natural other.grant) ∷ (codes "by_grant", reason_if by_grant other.reason) ∷ (codes "by_access", reason_if by_access other.reason) ∷ [])
    (tt, (small, (whole-reason by_grant other.reason, (whole-reason by_access other.reason, tt))))

whole-others : (others : Others) → AreCounted others → AllWhole (others_table others)
whole-others others counted =
    let each : (other : Option Otherwise) → IsCounted other → HasWholeNumbers (or_null other_value other) = whole-or_null other_value (λ (other : Otherwise). other.grant < 2 ^ 64) whole-other in
    (each others.pacific counted.0, (each others.reef counted.1, (each others.tentacle counted.2, tt)))

whole-remarks : (left : Option ℕ) (others : Others) → IfSome left IsSmall → AreCounted others → AllWhole (remarks_table left others)
whole-remarks left others small counted = (whole-or_null natural IsSmall widened left small, whole-others others counted)

pub whole-answer : (number : ℕ) (q : Question) (v : Verdict) (left : Option ℕ) (others : Others) → number < 2 ^ 64 → HasSmallIds q.caller → q.attr.uid < 2 ^ 32 → q.attr.gid < 2 ^ 32
    → HasGrant v → HasFewRules v → IfSome left IsSmall → AreCounted others → HasWholeNumbers (answer_value (Some number) q v left others)
whole-answer number q v left others small ids owner group grant few to_client counted =
    let asked : Members = with_question q (numbered (Some number)) in
    whole-all (remarks_table left others) (with_all (verdict_table v) asked) (whole-remarks left others to_client counted)
    (whole-all (verdict_table v) asked (whole-verdict v grant few) (whole-question q (numbered (Some number)) ids owner group (whole-line number small)))

-- ---- those of releases

few_mds_rules : (rule : MdsRule) → mds_number rule < 2 ^ 64
few_mds_rules mds_rules.FsName = omega arith
few_mds_rules mds_rules.Uid = omega arith
few_mds_rules mds_rules.Gids = omega arith
few_mds_rules mds_rules.Path = omega arith
few_mds_rules mds_rules.NoWrite = omega arith
few_mds_rules mds_rules.RootSquash = omega arith
few_mds_rules mds_rules.NoP = omega arith
few_mds_rules mds_rules.NoS = omega arith
few_mds_rules mds_rules.NotOwner = omega arith
few_mds_rules mds_rules.NotOwnGroup = omega arith
few_mds_rules mds_rules.ModeBits = omega arith
few_mds_rules mds_rules.NoF = omega arith
few_mds_rules mds_rules.Network = omega arith

whole-mds_rules : (n : ℕ) (failing : List MdsRule) → n + length failing < 2 ^ 64 → ItemsHaveWholeNumbers (items_of (map mds_rule_value (enumerate_from n failing)))
whole-mds_rules n [] few = tt
whole-mds_rules n (rule ∷ failing) few =
    let table : Table = (codes "grant", natural n) ∷ (codes "rule", natural (mds_number rule)) ∷ (codes "word", string (mds_rule_word rule)) ∷ [] in
    (whole-object table (omega (arith, few), (few_mds_rules rule, (tt, tt))), whole-mds_rules (n + 1) failing (omega (arith, few)))

abbrev pub HasFewMdsRules : MdsVerdict → Type 0
HasFewMdsRules (mds.Denied failing) = length failing + 1 < 2 ^ 64
HasFewMdsRules v = ⊤

whole-grant : (v : MdsVerdict) → HasMdsGrant v → HasWholeNumbers (grant_value v)
whole-grant mds.CannotMount small = tt
whole-grant (mds.Allowed grant) small = small
whole-grant (mds.DependsOnAddress grant) small = small
whole-grant (mds.Denied failing) small = tt

whole-failures : (v : MdsVerdict) → HasFewMdsRules v → HasWholeNumbers (failures_value v)
whole-failures mds.CannotMount few = tt
whole-failures (mds.Allowed grant) few = tt
whole-failures (mds.DependsOnAddress grant) few = tt
whole-failures (mds.Denied failing) few = whole-mds_rules 1 failing (omega (arith, few))

pub whole-mds : (number : ℕ) (release : Release) (access : MdsAccess) (q : Question) (v : MdsVerdict) (refused : Option ℕ) → number < 2 ^ 64 → HasSmallIds q.caller → q.attr.uid < 2 ^ 32
    → q.attr.gid < 2 ^ 32 → HasMdsGrant v → HasFewMdsRules v → HasRefusal refused → HasWholeNumbers (mds_value (Some number) release access q v refused)
whole-mds number release access q v refused small ids owner group grant few refusal =
    let asked : Members = with_question q (numbered (Some number)) in
    whole-all (mds_table release access v refused) asked
    (tt, (tt, (tt, (whole-grant v grant, (whole-failures v few, (whole-or_null natural (λ (n : ℕ). n < 2 ^ 64) (λ n fits. fits) refused refusal, tt))))))
    (whole-question q (numbered (Some number)) ids owner group (whole-line number small))
