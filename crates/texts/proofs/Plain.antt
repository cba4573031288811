-- Values without a float, which nest at most so deep.
use Rattle.std.proofs.Common.{◌≡◌, ℕ, suc, ◌≤◌, Bool, true, false, cond, List, [], ◌∷◌, map, Option, None, Some, Ordering, Less, Equal, Greater, nat_cmp, refl}
use Rattle.std.proofs.Common.{sym, subst, arith}
use Rattle.std.specs.Prelude.{⊤, codes, not}
use Rattle.std.specs.Cmp.Lexicographic.{slice_cmp}
use Rattle.std.specs.List.{enumerate_from}
use Rattle.std.specs.Ordering.{match_ordering}
use Rattle.std.specs.Str.{is_utf8}
use Rattle.std.proofs.lemmas.Bool.{or_from, or_parts}
use Rattle.hex.specs.Hex.{encode_lower}
use Rattle.serde_json.specs.Data.{Data, Members, depth, items_depth, member, members_depth, no_members, null, object, put, string}
use Rattle.serde_json.specs.View.{items_of}
use Rattle.serde_json.specs.Written.{has_float, items_have_float, members_have_float}
use Rattle.capbits.specs.declared.caller.Caller.{Caller}
use Rattle.capbits.specs.Text.{text_of}
use Rattle.capgrant.specs.declared.access.Access as access
use Rattle.capgrant.specs.declared.access.Attr.{Attr}
use Rattle.capgrant.specs.declared.answer.Verdict.{Verdict}
use Rattle.capgrant.specs.declared.answer.Verdict.TheVariants.{Allowed, Denied}
use Rattle.capgrant.specs.declared.rule.Rule.{Rule}
use Rattle.capgrant.specs.Access.{access_word}
use Rattle.capgrant.specs.Question.{Question, question}
use Rattle.capgrant.specs.Rule.{rule_number, rule_word}
use Rattle.texts.specs.Explaining.{path_text}
use Rattle.texts.specs.PartTexts.{mode_text}
use Rattle.policy_analysis.specs.declared.witness.Witness.{Witness}
use Rattle.policy_analysis.specs.declared.standing.Standing.{Standing}
use Rattle.policy_analysis.specs.declared.standing.Standing.TheVariants as standings
use Rattle.policy_analysis.specs.Callers.{Wanted}
use Rattle.release_rules.specs.declared.beside.Otherwise.{Otherwise}
use Rattle.release_rules.specs.declared.beside.Others.{Others}
use Rattle.release_rules.specs.declared.beside.Reason.{Reason}
use Rattle.release_rules.specs.declared.release.Release.{Release}
use Rattle.release_rules.specs.declared.rule.Rule.{Rule as MdsRule}
use Rattle.release_rules.specs.declared.verdict.Verdict.{Verdict as MdsVerdict}
use Rattle.release_rules.specs.declared.verdict.Verdict.TheVariants as mds
use Rattle.release_rules.specs.Releases.{version_of}
use Rattle.release_rules.specs.Rules.{rule_number as mds_number}
use Rattle.release_rules.specs.Rules.{rule_word as mds_rule_word}
use Rattle.texts.specs.declared.table.Piece.{Piece}
use Rattle.texts.specs.declared.table.Piece.TheVariants.{Access, Bytes, Caps, MdsRules, Null, Number, Numbers, Path, Rules, Word}
use Rattle.texts.specs.Pieces.{piece_value, pieces_value}
use Rattle.texts.proofs.Tables.{Row, member_of}
use Rattle.texts.specs.Values.{IsPlain, Table, bytes_value, natural, numbered, numbers_value, object_of, or_null, with_all}
use Rattle.texts.specs.Answers.{allowing_table, answer_value, attr_table, caller_table, is_of_access, other_value, others_table}
use Rattle.texts.specs.Answers.{place_table, reason_if, reason_word, remarks_table, rule_value, rules_value, verdict_table}
use Rattle.texts.specs.Answers.{verdict_word, with_question}
use Rattle.texts.specs.declared.mds_asked.MdsAccess.{MdsAccess}
use Rattle.texts.specs.MdsAsked.{mds_access_word}
use Rattle.texts.specs.MdsAnswers.{failures_value, grant_value, mds_rule_value, mds_rules_value, mds_table, mds_value, mds_word}
use Rattle.texts.specs.Changes.{with_witness, witnessed_value}
use Rattle.texts.specs.Standings.{client_value, known_table, standing_table, standing_value, with_client}

-- ---- any values

abbrev pub IsFlat : ℕ → Data → Type 0
IsFlat n d = (has_float d ≡ false) × (depth d ≤ n)

abbrev pub AreFlat : ℕ → Members → Type 0
AreFlat n ms = (members_have_float ms ≡ false) × (members_depth ms ≤ n)

ordered : (P : Members → Type 0) (o : Ordering) (a b c : Members) → P a → P b → P c → P (match_ordering o a b c)
ordered P Less a b c p q r = p
ordered P Equal a b c p q r = q
ordered P Greater a b c p q r = r

flat-member : (n : ℕ) (k : List ℕ) (d : Data) (ms : Members) → IsFlat n d → AreFlat n ms → AreFlat n (member k d ms)
flat-member n k d ms p q = (or_from (has_float d) (members_have_float ms) p.0 q.0, omega (arith, p.1, q.1))

flat-put : (n : ℕ) (k : List ℕ) (d : Data) (ms : Members) → IsFlat n d → AreFlat n ms → AreFlat n (put k d ms)
flat-put n k d no_members p q = flat-member n k d no_members p q
flat-put n k d (member l e ms) p q =
    let parts = or_parts (has_float e) (members_have_float ms) q.0 in
    let first : IsFlat n e = (parts.0, omega (arith, q.1)) in
    let rest : AreFlat n ms = (parts.1, omega (arith, q.1)) in
    ordered (AreFlat n) (slice_cmp nat_cmp k l) (member k d (member l e ms)) (member l d ms) (member l e (put k d ms))
    (flat-member n k d (member l e ms) p q) (flat-member n l d ms p rest) (flat-member n l e (put k d ms) first (flat-put n k d ms p rest))

abbrev pub AllFlat : ℕ → Table → Type 0
AllFlat n [] = ⊤
AllFlat n (m ∷ more) = IsFlat n m.1 × AllFlat n more

pub flat-with_all : (n : ℕ) (table : Table) (ms : Members) → AllFlat n table → AreFlat n ms → AreFlat n (with_all table ms)
flat-with_all n [] ms all q = q
flat-with_all n (m ∷ more) ms all q = flat-with_all n more (put m.0 m.1 ms) all.1 (flat-put n m.0 m.1 ms all.0 q)

pub none : (n : ℕ) → AreFlat n no_members
none n = (refl, omega arith)

pub flat-object_of : (n : ℕ) (table : Table) → AllFlat n table → IsFlat (suc n) (object_of table)
flat-object_of n table all = let both = flat-with_all n table no_members all (none n) in (both.0, omega (arith, both.1))

pub plain-object : (ms : Members) → AreFlat 2 ms → IsPlain (object ms)
plain-object ms both = (both.0, omega (arith, both.1))

flat-items : {X : Type 0} (n : ℕ) (f : X → Data) → ((x : X) → IsFlat n (f x)) → (xs : List X) → (items_have_float (items_of (map f xs)) ≡ false) × (items_depth (items_of (map f xs)) ≤ n)
flat-items n f each [] = (refl, omega arith)
flat-items n f each (x ∷ xs) =
    let here = each x in
    let more = flat-items n f each xs in
    (or_from (has_float (f x)) (items_have_float (items_of (map f xs))) here.0 more.0, omega (arith, here.1, more.1))

-- ---- those of answers

flat-natural : (n k : ℕ) → IsFlat n (natural k)
flat-natural n k = (refl, omega arith)

flat-string : (n : ℕ) (text : List ℕ) → IsFlat n (string text)
flat-string n text = (refl, omega arith)

flat-numbers : (ns : List ℕ) → IsFlat 2 (numbers_value ns)
flat-numbers ns = let both = flat-items 0 natural (flat-natural 0) ns in (both.0, omega (arith, both.1))

flat-hex : (digits : List ℕ) → IsFlat 2 (object_of ((codes "hex", string digits) ∷ []))
flat-hex digits = (refl, omega arith)

pub flat-bytes : (bytes : List ℕ) → IsFlat 2 (bytes_value bytes)
flat-bytes bytes = by_form (is_utf8 bytes)
  where
    by_form : (b : Bool) → IsFlat 2 (cond b (string bytes) (object_of ((codes "hex", string (encode_lower bytes)) ∷ [])))
    by_form true = flat-string 2 bytes
    by_form false = flat-hex (encode_lower bytes)

pub flat-place : (wanted : access.Access) (path : List (List ℕ)) (fs : List ℕ) → AllFlat 2 (place_table wanted path fs)
flat-place wanted path fs = (flat-string 2 (access_word wanted), (flat-bytes (path_text path), (flat-bytes fs, tt)))

pub flat-caller : (caller : Caller) → AllFlat 2 (caller_table caller)
flat-caller caller = (flat-natural 2 caller.uid, (flat-natural 2 caller.gid, (flat-numbers caller.groups, tt)))

pub flat-attr : (attr : Attr) → AllFlat 2 (attr_table attr)
flat-attr attr = (flat-natural 2 attr.uid, (flat-natural 2 attr.gid, (flat-string 2 (mode_text attr.mode), tt)))

pub flat-question : (q : Question) (ms : Members) → AreFlat 2 ms → AreFlat 2 (with_question q ms)
flat-question q ms flat =
    let placed = with_all (place_table q.access q.path q.fs) ms in
    flat-with_all 2 (attr_table q.attr) (with_all (caller_table q.caller) placed) (flat-attr q.attr)
    (flat-with_all 2 (caller_table q.caller) placed (flat-caller q.caller) (flat-with_all 2 (place_table q.access q.path q.fs) ms (flat-place q.access q.path q.fs) flat))

flat-rule : (failure : ℕ × Rule) → IsFlat 1 (rule_value failure)
flat-rule failure =
    flat-object_of 0 ((codes "grant", natural failure.0) ∷ (codes "rule", natural (rule_number failure.1)) ∷ (codes "word", string (rule_word failure.1)) ∷ [])
    (flat-natural 0 failure.0, (flat-natural 0 (rule_number failure.1), (flat-string 0 (rule_word failure.1), tt)))

flat-rules : (rules : List Rule) → IsFlat 2 (rules_value rules)
flat-rules rules = let both = flat-items 1 rule_value flat-rule (enumerate_from 1 rules) in (both.0, omega (arith, both.1))

flat-allowing : (word : List ℕ) (grant : ℕ) → AllFlat 2 (allowing_table word grant)
flat-allowing word grant = (flat-string 2 word, (flat-natural 2 grant, tt))

pub flat-verdict : (v : Verdict) → AllFlat 2 (verdict_table v)
flat-verdict (Allowed grant) = flat-allowing (codes "allowed") grant
flat-verdict (Denied rules) = (flat-string 2 (codes "denied"), (flat-rules rules, tt))

flat-or_null : {X : Type 0} (n : ℕ) (f : X → Data) → ((x : X) → IsFlat n (f x)) → (o : Option X) → IsFlat n (or_null f o)
flat-or_null n f each None = (refl, omega arith)
flat-or_null n f each (Some x) = each x

flat-reason : (condition : Bool) (reason : Reason) → IsFlat 1 (reason_if condition reason)
flat-reason true reason = flat-string 1 (reason_word reason)
flat-reason false reason = (refl, omega arith)

flat-by_release : (other : Otherwise) → IsFlat 2 (other_value other)
flat-by_release other =
    flat-object_of 1
    ((codes "verdict", string (verdict_word other.allows)) ∷ (codes "grant", natural other.grant)
    ∷ (codes "by_grant", reason_if (not (is_of_access other.reason)) other.reason) ∷ (codes "by_access", reason_if (is_of_access other.reason) other.reason) ∷ [])
    (flat-string 1 (verdict_word other.allows), (flat-natural 1 other.grant, (flat-reason (not (is_of_access other.reason)) other.reason, (flat-reason (is_of_access other.reason) other.reason, tt))))

flat-others : (others : Others) → AllFlat 2 (others_table others)
flat-others others =
    (flat-or_null 2 other_value flat-by_release others.pacific, (flat-or_null 2 other_value flat-by_release others.reef, (flat-or_null 2 other_value flat-by_release others.tentacle, tt)))

flat-remarks : (left : Option ℕ) (others : Others) → AllFlat 2 (remarks_table left others)
flat-remarks left others = (flat-or_null 2 natural (flat-natural 2) left, flat-others others)

flat-numbered : (number : Option ℕ) → AreFlat 2 (numbered number)
flat-numbered None = none 2
flat-numbered (Some n) = flat-with_all 2 ((codes "line", natural n) ∷ []) no_members (flat-natural 2 n, tt) (none 2)

pub plain-answer : (number : Option ℕ) (q : Question) (v : Verdict) (left : Option ℕ) (others : Others) → IsPlain (answer_value number q v left others)
plain-answer number q v left others =
    let asked = with_question q (numbered number) in
    let judged = with_all (verdict_table v) asked in
    plain-object (with_all (remarks_table left others) judged)
    (flat-with_all 2 (remarks_table left others) judged (flat-remarks left others) (flat-with_all 2 (verdict_table v) asked (flat-verdict v) (flat-question q (numbered number) (flat-numbered number))))

-- ---- those of releases

flat-mds_rule : (failure : ℕ × MdsRule) → IsFlat 1 (mds_rule_value failure)
flat-mds_rule failure =
    flat-object_of 0 ((codes "grant", natural failure.0) ∷ (codes "rule", natural (mds_number failure.1)) ∷ (codes "word", string (mds_rule_word failure.1)) ∷ [])
    (flat-natural 0 failure.0, (flat-natural 0 (mds_number failure.1), (flat-string 0 (mds_rule_word failure.1), tt)))

flat-mds_rules : (rules : List MdsRule) → IsFlat 2 (mds_rules_value rules)
flat-mds_rules rules = let both = flat-items 1 mds_rule_value flat-mds_rule (enumerate_from 1 rules) in (both.0, omega (arith, both.1))

flat-null : IsFlat 2 null
flat-null = (refl, omega arith)

flat-grant_value : (v : MdsVerdict) → IsFlat 2 (grant_value v)
flat-grant_value mds.CannotMount = flat-null
flat-grant_value (mds.Allowed grant) = flat-natural 2 grant
flat-grant_value (mds.DependsOnAddress grant) = flat-natural 2 grant
flat-grant_value (mds.Denied rules) = flat-null

flat-failures_value : (v : MdsVerdict) → IsFlat 2 (failures_value v)
flat-failures_value mds.CannotMount = flat-null
flat-failures_value (mds.Allowed grant) = flat-null
flat-failures_value (mds.DependsOnAddress grant) = flat-null
flat-failures_value (mds.Denied rules) = flat-mds_rules rules

flat-mds : (release : Release) (access : MdsAccess) (v : MdsVerdict) (refused : Option ℕ) → AllFlat 2 (mds_table release access v refused)
flat-mds release access v refused =
    (flat-string 2 (mds_access_word access), (flat-string 2 (version_of release), (flat-string 2 (mds_word v), (flat-grant_value v, (flat-failures_value v, (flat-or_null 2 natural (flat-natural 2) refused, tt))))))

pub plain-mds : (number : Option ℕ) (release : Release) (access : MdsAccess) (q : Question) (v : MdsVerdict) (refused : Option ℕ) → IsPlain (mds_value number release access q v refused)
plain-mds number release access q v refused =
    let asked = with_question q (numbered number) in
    plain-object (with_all (mds_table release access v refused) asked)
    (flat-with_all 2 (mds_table release access v refused) asked (flat-mds release access v refused) (flat-question q (numbered number) (flat-numbered number)))

-- ---- those of pieces

flat-piece : (p : Piece) → IsFlat 2 (piece_value p)
flat-piece Null = (refl, omega arith)
flat-piece (Number n) = flat-natural 2 n
flat-piece (Word text) = flat-string 2 text.now
flat-piece (Bytes bytes) = flat-bytes bytes.now
flat-piece (Numbers numbers) = flat-numbers numbers.now
flat-piece (Access access) = flat-string 2 (mds_access_word access)
flat-piece (Path path) = flat-bytes (path_text (map (λ name. name.now) path.now))
flat-piece (Caps caps) = flat-bytes (text_of caps)
flat-piece (Rules rules) = flat-rules rules.now
flat-piece (MdsRules rules) = flat-mds_rules rules.now

flat-pieces : (table : List Row) → AllFlat 2 (map member_of table)
flat-pieces [] = tt
flat-pieces (m ∷ more) = (flat-piece m.1, flat-pieces more)

pub plain-pieces : (table : List Row) → IsPlain (pieces_value table)
plain-pieces table = plain-object (with_all (map member_of table) no_members) (flat-with_all 2 (map member_of table) no_members (flat-pieces table) (none 2))

-- ---- those of clients

flat-known : (attr : Option Attr) → AllFlat 2 (known_table attr)
flat-known None = tt
flat-known (Some attr) = flat-attr attr

flat-client : (client : List ℕ) (w : Wanted) (attr : Option Attr) → AreFlat 2 (with_client client w attr no_members)
flat-client client w attr =
    let named = with_all ((codes "client", bytes_value client) ∷ []) no_members in
    let placed = with_all (place_table w.access w.path w.fs) named in
    flat-with_all 2 (known_table attr) placed (flat-known attr)
    (flat-with_all 2 (place_table w.access w.path w.fs) named (flat-place w.access w.path w.fs) (flat-with_all 2 ((codes "client", bytes_value client) ∷ []) no_members (flat-bytes client, tt) (none 2)))

pub plain-client : (client : List ℕ) (w : Wanted) (attr : Option Attr) (table : List Row) → IsPlain (client_value client w attr (map member_of table))
plain-client client w attr table =
    let asked = with_client client w attr no_members in
    plain-object (with_all (map member_of table) asked) (flat-with_all 2 (map member_of table) asked (flat-pieces table) (flat-client client w attr))

flat-standing : (standing : Standing) → AllFlat 2 (standing_table standing)
flat-standing (standings.Allowed grant) = flat-allowing (codes "allowed") grant
flat-standing (standings.Depends grant) = flat-allowing (codes "depends") grant
flat-standing (standings.Denied rules) = (flat-string 2 (codes "denied"), (flat-rules rules, tt))

pub plain-standing : (client : List ℕ) (w : Wanted) (attr : Option Attr) (standing : Standing) (others : Others) → IsPlain (standing_value client w attr standing others)
plain-standing client w attr standing others =
    let asked = with_client client w attr no_members in
    let judged = with_all (standing_table standing) asked in
    plain-object (with_all (others_table others) judged) (flat-with_all 2 (others_table others) judged (flat-others others) (flat-with_all 2 (standing_table standing) asked (flat-standing standing) (flat-client client w attr)))

-- ---- those with a witness

flat-witness : (key : List ℕ) (w : Witness) (ms : Members) → AreFlat 2 ms → AreFlat 2 (with_witness key w ms)
flat-witness key w ms flat =
    let q = question w.fs w.caller w.path.now w.attr w.access in
    flat-with_all 2 ((key, natural w.grant) ∷ []) (with_question q ms) (flat-natural 2 w.grant, tt) (flat-question q ms flat)

pub plain-witnessed : (key : List ℕ) (w : Witness) (table : List Row) → IsPlain (witnessed_value key w (map member_of table))
plain-witnessed key w table =
    let begun = with_all (map member_of table) no_members in
    plain-object (with_witness key w begun) (flat-witness key w begun (flat-with_all 2 (map member_of table) no_members (flat-pieces table) (none 2)))

-- the same of members that are known to be these
pub plain-as : (ms : Members) (d : Data) → object ms ≡ d → IsPlain d → IsPlain (object ms)
plain-as ms d is plain = subst IsPlain (sym is) plain
