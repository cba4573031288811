-- Answers that differ are values that differ.
use Rattle.std.proofs.Common.{◌≡◌, ℕ, ◌+◌, ◌<◌, ◌^◌, Bool, true, false, List, [], ◌∷◌, ◌++◌, map, Option, None, Some, refl, sym, ap, subst, ◌∙◌, arith}
use Rattle.std.specs.Prelude.{bytes_eq, codes, if◌then◌else◌, not}
use Rattle.std.specs.Fmt.{decimal}
use Rattle.std.specs.List.{enumerate_from}
use Rattle.serde_json.specs.Data.{Data, Members, array, item, member, no_items, no_members, null, number, object, string, unsigned}
use Rattle.serde_json.specs.View.{items_of}
use Rattle.capgrant.specs.declared.access.Access.{Access}
use Rattle.capgrant.specs.declared.access.Access.TheVariants.{Read}
use Rattle.capgrant.specs.declared.answer.Verdict.{Verdict}
use Rattle.capgrant.specs.declared.answer.Verdict.TheVariants.{Allowed, Denied}
use Rattle.capgrant.specs.declared.rule.Rule.{Rule}
use Rattle.capgrant.specs.Access.{access_word}
use Rattle.capgrant.specs.Question.{Question}
use Rattle.capgrant.specs.Rule.{rule_number, rule_word}
use Rattle.policy_analysis.specs.declared.witness.Witness.{Witness}
use Rattle.release_rules.specs.declared.beside.Otherwise.{Otherwise}
use Rattle.release_rules.specs.declared.beside.Others.{Others}
use Rattle.release_rules.specs.declared.beside.Reason.{Reason}
use Rattle.release_rules.specs.declared.beside.Reason.TheVariants as reasons
use Rattle.texts.specs.Explaining.{outcome_text, path_text, reason_text}
use Rattle.texts.specs.Lines.{HasNumber, answer_line}
use Rattle.texts.specs.PartTexts.{mode_text}
use Rattle.texts.specs.Quoting.{quoted}
use Rattle.texts.proofs.Answered as lines
use Rattle.texts.proofs.Answered.{one_access}
use Rattle.texts.proofs.Compared.{one_mode}
use Rattle.texts.proofs.Quoted.{clash}
use Rattle.texts.specs.Values.{bytes_value, natural, numbers_value, or_null, with_all}
use Rattle.texts.specs.Answers.{AskOfTheSame, AskTheSame, IsAskable, answer_value, is_of_access, other_value, reason_if}
use Rattle.texts.specs.Answers.{rule_value, verdict_table, verdict_word}
use Rattle.texts.specs.Changes.{asked_by, change_value}
use Rattle.texts.proofs.Spelling.{one_spelling}

-- ---- what a value has

abbrev pub value_in : List ℕ → Members → Data
value_in k no_members = null
value_in k (member l d ms) = if bytes_eq k l then d else value_in k ms

abbrev pub value_at : List ℕ → Data → Data
value_at k (object ms) = value_in k ms
value_at k d = null

abbrev pub text_in : Data → List ℕ
text_in (string text) = text
text_in d = []

abbrev pub number_in : Data → ℕ
number_in (number (unsigned n)) = n
number_in d = 0

abbrev head_of : Data → Data
head_of (array (item d ds)) = d
head_of d = null

abbrev tail_of : Data → Data
tail_of (array (item d ds)) = array ds
tail_of d = null

-- 0 of nothing and of no items
abbrev pub some_in : Data → ℕ
some_in null = 0
some_in (array no_items) = 0
some_in d = 1

-- the first byte of a text
abbrev pub byte_in : Data → ℕ
byte_in (string (byte ∷ more)) = byte
byte_in d = 0

-- ---- accesses and rules: what parts two of them in a line parts them in an object

-- the line of a denial by a rule of this number and word
abbrev denial_line : ℕ → List ℕ → List ℕ
denial_line n word = outcome_text Read (Denied []) ++ (quoted [] ++ (codes " " ++ ((codes "grant " ++ decimal 1 ++ codes " rule " ++ decimal n ++ codes " " ++ word) ++ [])))

abbrev only_rule : Rule → Verdict → Rule
only_rule other (Denied (rule ∷ rules)) = rule
only_rule other verdict = other

one_rule : (r q : Rule) → rule_number r ≡ rule_number q → rule_word r ≡ rule_word q → r ≡ q
one_rule r q numbers words =
    let line : answer_line Read [] (Denied (r ∷ [])) ≡ answer_line Read [] (Denied (q ∷ [])) = λ i. denial_line (numbers i) (words i) in
    ap (only_rule r) (lines.one_answer Read Read [] [] (Denied (r ∷ [])) (Denied (q ∷ [])) tt tt tt tt line).2

-- ---- numbers

one_row_of_numbers : (xs ys : List ℕ) → numbers_value xs ≡ numbers_value ys → xs ≡ ys
one_row_of_numbers [] [] same = refl
one_row_of_numbers [] (y ∷ ys) same = clash 0 1 (omega arith) (ap some_in same)
one_row_of_numbers (x ∷ xs) [] same = clash 0 1 (omega arith) (sym (ap some_in same))
one_row_of_numbers (x ∷ xs) (y ∷ ys) same =
    let here : x ≡ y = ap (λ (d : Data). number_in (head_of d)) same in
    let more : xs ≡ ys = one_row_of_numbers xs ys (ap tail_of same) in
    λ i. here i ∷ more i

-- ---- the verdict

abbrev row_from : ℕ → List Rule → Data
row_from n rules = array (items_of (map rule_value (enumerate_from n rules)))

pub one_row : (n : ℕ) (rs qs : List Rule) → row_from n rs ≡ row_from n qs → rs ≡ qs
one_row n [] [] same = refl
one_row n [] (q ∷ qs) same = clash 0 1 (omega arith) (ap some_in same)
one_row n (r ∷ rs) [] same = clash 0 1 (omega arith) (sym (ap some_in same))
one_row n (r ∷ rs) (q ∷ qs) same =
    let numbers : rule_number r ≡ rule_number q = ap (λ (d : Data). number_in (value_at (codes "rule") (head_of d))) same in
    let words : rule_word r ≡ rule_word q = ap (λ (d : Data). text_in (value_at (codes "word") (head_of d))) same in
    let here : r ≡ q = one_rule r q numbers words in
    let more : rs ≡ qs = one_row (n + 1) rs qs (ap tail_of same) in
    λ i. here i ∷ more i

-- what stands there at a key
abbrev at_key : List ℕ → Verdict → Data
at_key k v = value_in k (with_all (verdict_table v) no_members)

one_verdict : (v w : Verdict) → at_key (codes "verdict") v ≡ at_key (codes "verdict") w → at_key (codes "grant") v ≡ at_key (codes "grant") w → at_key (codes "rules") v ≡ at_key (codes "rules") w → v ≡ w
one_verdict (Allowed g) (Allowed h) word grant rules = ap Allowed (ap number_in grant)
one_verdict (Allowed g) (Denied qs) word grant rules = clash 97 100 (omega arith) (ap byte_in word)
one_verdict (Denied rs) (Allowed h) word grant rules = clash 97 100 (omega arith) (sym (ap byte_in word))
one_verdict (Denied rs) (Denied qs) word grant rules = ap Denied (one_row 1 rs qs rules)

-- ---- what is worth a word beside it

pub one_left : (left also : Option ℕ) → or_null natural left ≡ or_null natural also → left ≡ also
one_left None None same = refl
one_left None (Some n) same = clash 0 1 (omega arith) (ap some_in same)
one_left (Some m) None same = clash 0 1 (omega arith) (sym (ap some_in same))
one_left (Some m) (Some n) same = ap Some (ap number_in same)

one_word : (a b : Bool) → string (verdict_word a) ≡ string (verdict_word b) → a ≡ b
one_word true true same = refl
one_word true false same = clash 97 100 (omega arith) (ap byte_in same)
one_word false true same = clash 97 100 (omega arith) (sym (ap byte_in same))
one_word false false same = refl

abbrev named : List ℕ → Reason
named word =
    if bytes_eq word (codes "other-file-system") then reasons.OtherFileSystem
    else (if bytes_eq word (codes "zero-uid") then reasons.ZeroUid
    else (if bytes_eq word (codes "large-uid") then reasons.LargeUid
    else (if bytes_eq word (codes "path-as-text") then reasons.PathAsText
    else (if bytes_eq word (codes "attribute-by-flag") then reasons.AttributeByFlag
    else (if bytes_eq word (codes "mode-by-bits") then reasons.ModeByBits
    else (if bytes_eq word (codes "groups-in-order") then reasons.GroupsInOrder else reasons.OtherText))))))

-- by what stands at the two keys
abbrev given_for : Data → Data → Reason
given_for (string word) by_access = named word
given_for by_grant by_access = named (text_in by_access)

gives : (reason : Reason) → given_for (reason_if (not (is_of_access reason)) reason) (reason_if (is_of_access reason) reason) ≡ reason
gives reasons.OtherFileSystem = refl
gives reasons.ZeroUid = refl
gives reasons.LargeUid = refl
gives reasons.PathAsText = refl
gives reasons.AttributeByFlag = refl
gives reasons.ModeByBits = refl
gives reasons.GroupsInOrder = refl
gives reasons.OtherText = refl

pub one_other : (a b : Option Otherwise) → or_null other_value a ≡ or_null other_value b → a ≡ b
one_other None None same = refl
one_other None (Some b) same = clash 0 1 (omega arith) (ap some_in same)
one_other (Some a) None same = clash 0 1 (omega arith) (sym (ap some_in same))
one_other (Some a) (Some b) same =
    let allows : a.allows ≡ b.allows = one_word a.allows b.allows (ap (value_at (codes "verdict")) same) in
    let grant : a.grant ≡ b.grant = ap (λ (d : Data). number_in (value_at (codes "grant") d)) same in
    let reason : a.reason ≡ b.reason = sym (gives a.reason) ∙ ap (λ (d : Data). given_for (value_at (codes "by_grant") d) (value_at (codes "by_access") d)) same ∙ gives b.reason in
    λ i. Some (record { allows = allows i; grant = grant i; reason = reason i })

-- ---- what is asked

-- what stands at the keys of a question but for what is asked for
pub record AsksOf (d : Data) (q : Question) : Type 0 where
  pub path : value_at (codes "path") d ≡ bytes_value (path_text q.path)
  pub fs : value_at (codes "fs") d ≡ bytes_value q.fs
  pub uid : value_at (codes "uid") d ≡ natural q.caller.uid
  pub gid : value_at (codes "gid") d ≡ natural q.caller.gid
  pub groups : value_at (codes "groups") d ≡ numbers_value q.caller.groups
  pub owner : value_at (codes "owner") d ≡ natural q.attr.uid
  pub group : value_at (codes "group") d ≡ natural q.attr.gid
  pub mode : value_at (codes "mode") d ≡ string (mode_text q.attr.mode)

pub one_inode : (q r : Question) (d : Data) → IsAskable q → IsAskable r → AsksOf d q → AsksOf d r → AskOfTheSame q r
one_inode q r d fit fits p s =
    let path : path_text q.path ≡ path_text r.path = one_spelling (path_text q.path) (path_text r.path) fit.path fits.path (sym p.path ∙ s.path) in
    let fs : q.fs ≡ r.fs = one_spelling q.fs r.fs fit.fs fits.fs (sym p.fs ∙ s.fs) in
    let uid : q.caller.uid ≡ r.caller.uid = ap number_in (sym p.uid ∙ s.uid) in
    let gid : q.caller.gid ≡ r.caller.gid = ap number_in (sym p.gid ∙ s.gid) in
    let groups : q.caller.groups ≡ r.caller.groups = one_row_of_numbers q.caller.groups r.caller.groups (sym p.groups ∙ s.groups) in
    let owner : q.attr.uid ≡ r.attr.uid = ap number_in (sym p.owner ∙ s.owner) in
    let group : q.attr.gid ≡ r.attr.gid = ap number_in (sym p.group ∙ s.group) in
    let mode : q.attr.mode ≡ r.attr.mode = one_mode q.attr.mode r.attr.mode fit.mode fits.mode (ap text_in (sym p.mode ∙ s.mode)) in
    let caller : q.caller ≡ r.caller = λ i. record { uid = uid i; gid = gid i; groups = groups i } in
    let attr : q.attr ≡ r.attr = λ i. record { uid = owner i; gid = group i; mode = mode i } in
    (path, fs, caller, attr)

-- and with that
pub record Asks (d : Data) (q : Question) : Type 0 where
  pub access : value_at (codes "access") d ≡ string (access_word q.access)
  pub others : AsksOf d q

pub one_question : (q r : Question) (d : Data) → IsAskable q → IsAskable r → Asks d q → Asks d r → AskTheSame q r
one_question q r d fit fits p s =
    let inode = one_inode q r d fit fits p.others s.others in
    (one_access q.access r.access fit.access fits.access (ap text_in (sym p.access ∙ s.access)), inode.0, inode.1, inode.2, inode.3)

-- and at those of its line, its verdict, and what is worth a word beside that
record Shows (d : Data) (line_number : Option ℕ) (q : Question) (v : Verdict) (left : Option ℕ) (others : Others) : Type 0 where
  line : value_at (codes "line") d ≡ or_null natural line_number
  asks : Asks d q
  verdict : value_at (codes "verdict") d ≡ at_key (codes "verdict") v
  grant : value_at (codes "grant") d ≡ at_key (codes "grant") v
  rules : value_at (codes "rules") d ≡ at_key (codes "rules") v
  client : value_at (codes "left_to_client") d ≡ or_null natural left
  pacific : value_at (codes "ceph16") d ≡ or_null other_value others.pacific
  reef : value_at (codes "ceph18") d ≡ or_null other_value others.reef
  tentacle : value_at (codes "ceph20") d ≡ or_null other_value others.tentacle

shows : (line_number : Option ℕ) (q : Question) (v : Verdict) (left : Option ℕ) (others : Others) → Shows (answer_value line_number q v left others) line_number q v left others
shows None q (Allowed g) left others = record {
  line = refl;
  asks = record { access = refl; others = record { path = refl; fs = refl; uid = refl; gid = refl; groups = refl; owner = refl; group = refl; mode = refl } };
  verdict = refl;
  grant = refl;
  rules = refl;
  client = refl;
  pacific = refl;
  reef = refl;
  tentacle = refl;
}
shows None q (Denied rs) left others = record {
  line = refl;
  asks = record { access = refl; others = record { path = refl; fs = refl; uid = refl; gid = refl; groups = refl; owner = refl; group = refl; mode = refl } };
  verdict = refl;
  grant = refl;
  rules = refl;
  client = refl;
  pacific = refl;
  reef = refl;
  tentacle = refl;
}
shows (Some n) q (Allowed g) left others = record {
  line = refl;
  asks = record { access = refl; others = record { path = refl; fs = refl; uid = refl; gid = refl; groups = refl; owner = refl; group = refl; mode = refl } };
  verdict = refl;
  grant = refl;
  rules = refl;
  client = refl;
  pacific = refl;
  reef = refl;
  tentacle = refl;
}
shows (Some n) q (Denied rs) left others = record {
  line = refl;
  asks = record { access = refl; others = record { path = refl; fs = refl; uid = refl; gid = refl; groups = refl; owner = refl; group = refl; mode = refl } };
  verdict = refl;
  grant = refl;
  rules = refl;
  client = refl;
  pacific = refl;
  reef = refl;
  tentacle = refl;
}

pub one_answer : (m n : Option ℕ) (q r : Question) (v w : Verdict) (left also : Option ℕ) (others further : Others) → IsAskable q → IsAskable r → answer_value m q v left others ≡ answer_value n r w also further
    → (m ≡ n) × AskTheSame q r × (v ≡ w) × (left ≡ also) × (others ≡ further)
one_answer m n q r v w left also others further fit fits same =
    let p = shows m q v left others in
    let s : Shows (answer_value m q v left others) n r w also further = subst (λ (d : Data). Shows d n r w also further) (sym same) (shows n r w also further) in
    let pacific : others.pacific ≡ further.pacific = one_other others.pacific further.pacific (sym p.pacific ∙ s.pacific) in
    let reef : others.reef ≡ further.reef = one_other others.reef further.reef (sym p.reef ∙ s.reef) in
    let tentacle : others.tentacle ≡ further.tentacle = one_other others.tentacle further.tentacle (sym p.tentacle ∙ s.tentacle) in (
      one_left m n (sym p.line ∙ s.line),
      one_question q r (answer_value m q v left others) fit fits p.asks s.asks,
      one_verdict v w (sym p.verdict ∙ s.verdict) (sym p.grant ∙ s.grant) (sym p.rules ∙ s.rules),
      one_left left also (sym p.client ∙ s.client),
      (λ i. record { pacific = pacific i; reef = reef i; tentacle = tentacle i }),
    )

-- ---- what is gained or lost

-- what stands at the keys of a change
record Changes (d : Data) (word : List ℕ) (w : Witness) : Type 0 where
  asks : Asks d (asked_by w)
  change : value_at (codes "change") d ≡ string word
  grant : value_at (codes "grant") d ≡ natural w.grant

changes : (change : List ℕ) (w : Witness) → Changes (change_value change w) change w
changes change w =
    record { asks = record { access = refl; others = record { path = refl; fs = refl; uid = refl; gid = refl; groups = refl; owner = refl; group = refl; mode = refl } }; change = refl; grant = refl }

pub one_change : (x y : List ℕ) (v w : Witness) → IsAskable (asked_by v) → IsAskable (asked_by w) → change_value x v ≡ change_value y w → (x ≡ y) × AskTheSame (asked_by v) (asked_by w) × (v.grant ≡ w.grant)
one_change x y v w fit fits same =
    let p = changes x v in
    let s : Changes (change_value x v) y w = subst (λ (d : Data). Changes d y w) (sym same) (changes y w) in (
      ap text_in (sym p.change ∙ s.change),
      one_question (asked_by v) (asked_by w) (change_value x v) fit fits p.asks s.asks,
      ap number_in (sym p.grant ∙ s.grant),
    )
