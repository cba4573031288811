-- Things that are told of a log and differ are objects that differ.
use Rattle.std.proofs.Common.{◌≡◌, ℕ, ◌<◌, ◌^◌, Bool, true, false, Option, None, Some, List, [], ◌∷◌, ◌++◌, refl, sym, ap, subst, ◌∙◌, append_assoc, arith}
use Rattle.std.specs.Prelude.{All, bytes_eq, codes, if◌then◌else◌}
use Rattle.std.specs.List.{AllZip, flat_map}
use Rattle.std.proofs.lemmas.Bool.{false≢true}
use Rattle.std.proofs.lemmas.List.{append-nil}
use Rattle.std.proofs.lemmas.List.Elements.{All-head, All-tail}
use Rattle.serde_json.specs.Data.{Data, null, string}
use Rattle.capgrant.specs.declared.access.Attr.{Attr}
use Rattle.capgrant.specs.declared.answer.Verdict.{Verdict}
use Rattle.capgrant.specs.declared.answer.Verdict.TheVariants.{Allowed, Denied}
use Rattle.capgrant.specs.Question.{Question as Asked}
use Rattle.policy_analysis.specs.Left.{left_to_client}
use Rattle.release_rules.specs.declared.beside.Others.{Others}
use Rattle.texts.specs.declared.shape.Shape.TheVariants.{Objects}
use Rattle.texts.specs.Answers.{IsAskable, answer_value}
use Rattle.texts.specs.Remarked.{AreLeftAlike}
use Rattle.texts.specs.Values.{json_line}
use Rattle.texts.proofs.Clients.{has_word, kind_of}
use Rattle.texts.proofs.Distinct.{number_in, one_answer, text_in, value_at}
use Rattle.texts.proofs.MdsDistinct.{asked_of as release_named, has_version, one_mds_answer}
use Rattle.texts.proofs.MdsWords.{one_word}
use Rattle.texts.proofs.Spelling.{one_spelling}
use Rattle.texts.proofs.WholeNumbers.{one_line}
use Rattle.queries.specs.declared.any_path.AnyPath.{AnyPath}
use Rattle.queries.specs.declared.any_path.AnyPath.TheVariants.{Anywhere, Nowhere, OnAddress, Somewhere}
use Rattle.queries.specs.Items.{AsksFitting, HasBytes, HasObject, NamesAreBytes, SameOfLine, SameTold, item_in, reported_in}
use Rattle.queries.specs.Mds.{asked_by}
use Rattle.queries.specs.Question.{verdict_on}
use Rattle.queries.specs.Remarks.{asked_of, others_on}
use Rattle.queries.specs.Reported.{Item}
use Rattle.queries.specs.Told.{Told, any_grant, any_word, object_value, passed_value}
use Rattle.queries.specs.Told.Told.{answered, bad, formless, judged_by, not_read, pathless, refused, unknown}
use Rattle.queries.proofs.Items.{has_name, option_of, tag}

-- ---- the kinds of objects

abbrev is_text : Data → Bool
is_text (string text) = true
is_text d = false

abbrev is_null : Data → Bool
is_null null = true
is_null d = false

-- by the word for what is wrong
abbrev of_fault : List ℕ → ℕ
of_fault word =
    if bytes_eq word (codes "form") then 1 else (if bytes_eq word (codes "mask") then 2 else (if bytes_eq word (codes "grants") then 3 else (if bytes_eq word (codes "value") then 4 else 7)))

-- an answer has a release, or an inode, or neither where no path is known
abbrev of_answer : Data → ℕ
of_answer d = if is_text (value_at (codes "mds") d) then 6 else (if is_null (value_at (codes "owner") d) then 5 else 0)

abbrev tag_of : Data → ℕ
tag_of d = if is_text (value_at (codes "fault") d) then of_fault (text_in (value_at (codes "fault") d)) else of_answer d

-- its kind, and the number of its line
record Shows (d : Data) (number kind : ℕ) : Type 0 where
  line : number_in (value_at (codes "line") d) ≡ number
  told : tag_of d ≡ kind

shows_answer : (number : ℕ) (q : Asked) (v : Verdict) (left : Option ℕ) (others : Others) → Shows (answer_value (Some number) q v left others) number 0
shows_answer number q (Allowed grant) left others = record { line = refl; told = refl }
shows_answer number q (Denied rules) left others = record { line = refl; told = refl }

shows : (number : ℕ) (t : Told) → Shows (object_value number t) number (tag t)
shows number (answered q grants) = shows_answer number (asked_of q) (verdict_on q) (left_to_client (asked_of q) q.grants) (others_on grants q)
shows number (judged_by a answer) = record { line = refl; told = refl }
shows number (pathless caller access any) = record { line = refl; told = refl }
shows number formless = record { line = refl; told = refl }
shows number (unknown mask) = record { line = refl; told = refl }
shows number (refused fault) = record { line = refl; told = refl }
shows number (bad option) = record { line = refl; told = refl }
shows number (not_read found) = record { line = refl; told = refl }

-- ---- one thing for its object

left_alike : (a b : Attr) (left also : Option ℕ) → a ≡ b → left ≡ also → AreLeftAlike a left b also
left_alike a b left also attrs same = subst (λ (o : Option ℕ). AreLeftAlike a left b o) same (alike left)
  where
    alike : (o : Option ℕ) → AreLeftAlike a o b o
    alike None = tt
    alike (Some grant) = (attrs, refl)

-- what is said at any path, by its word and its grant
abbrev any_from : List ℕ → ℕ → AnyPath
any_from word grant =
    if bytes_eq word (codes "allowed") then Anywhere grant else (if bytes_eq word (codes "depends-on-address") then OnAddress grant else (if bytes_eq word (codes "depends-on-path") then Somewhere grant else Nowhere))

has_any : (any : AnyPath) → any_from (any_word any) (number_in (any_grant any)) ≡ any
has_any (Anywhere grant) = refl
has_any (OnAddress grant) = refl
has_any (Somewhere grant) = refl
has_any Nowhere = refl

abbrev any_at : Data → AnyPath
any_at d = any_from (text_in (value_at (codes "verdict") d)) (number_in (value_at (codes "grant") d))

one_object : (m n : ℕ) (x y : Told) → AsksFitting x → AsksFitting y → NamesAreBytes x → NamesAreBytes y → object_value m x ≡ object_value n y → SameTold x y
one_object m n (answered q grants) (answered r others) p o b c same =
    let here : IsAskable (asked_of q) = record { access = p.0; path = b.0; fs = b.1; mode = p.1 } in
    let there : IsAskable (asked_of r) = record { access = o.0; path = c.0; fs = c.1; mode = o.1 } in
    let both = one_answer (Some m) (Some n) (asked_of q) (asked_of r) (verdict_on q) (verdict_on r) (left_to_client (asked_of q) q.grants) (left_to_client (asked_of r) r.grants) (others_on grants q) (others_on others r) here there same in
    (both.1.0, both.1.1, both.2, left_alike q.attr r.attr (left_to_client (asked_of q) q.grants) (left_to_client (asked_of r) r.grants) both.1.4 both.3, both.4)
one_object m n (judged_by a x) (judged_by b y) p o c d same =
    let here : IsAskable (asked_by a.asking) = record { access = p.1; path = c.0; fs = c.1; mode = p.2 } in
    let there : IsAskable (asked_by b.asking) = record { access = o.1; path = d.0; fs = d.1; mode = o.2 } in
    let both = one_mds_answer (Some m) (Some n) x.release y.release a.access b.access (asked_by a.asking) (asked_by b.asking) x.verdict y.verdict x.refused y.refused p.0 o.0 here there same in
    (both.2, both.3.0, both.4)
one_object m n (pathless caller a x) (pathless other b y) p o c d same = (one_word a b p o (ap (λ (d : Data). text_in (value_at (codes "access") d)) same), sym (has_any x) ∙ ap any_at same ∙ has_any y)
one_object m n formless formless p o b c same = tt
one_object m n (unknown mask) (unknown other) p o b c same = one_spelling mask other b c (ap (value_at (codes "mask")) same)
one_object m n (refused fault) (refused other) p o b c same =
    let kind : fault.kind ≡ other.kind = sym (has_word fault.kind).0 ∙ ap (λ (d : Data). kind_of (text_in (value_at (codes "kind") d))) same ∙ (has_word other.kind).0 in
    let place : fault.at ≡ other.at = ap (λ (d : Data). number_in (value_at (codes "at") d)) same in
    λ i. record { kind = kind i; at = place i }
one_object m n (bad option) (bad other) p o b c same = sym (has_name option).0 ∙ ap (λ (d : Data). option_of (text_in (value_at (codes "option") d))) same ∙ (has_name other).0
one_object m n (not_read found) (not_read other) p o b c same =
    let release : found.release ≡ other.release = sym (has_version found.release) ∙ ap (λ (d : Data). release_named (text_in (value_at (codes "mds") d))) same ∙ has_version other.release in
    let place : found.at ≡ other.at = ap (λ (d : Data). number_in (value_at (codes "at") d)) same in
    λ i. record { release = release i; at = place i }
one_object m n x y p o b c same = absurd (let e : tag x ≡ tag y = sym (shows m x).told ∙ ap tag_of same ∙ (shows n y).told in omega (arith, e))

one_thing : (x y : Item) → HasObject x → HasObject y → HasBytes x → HasBytes y → object_value x.0 x.1 ≡ object_value y.0 y.1 → SameOfLine x y
one_thing x y p o b c same =
    (sym (shows x.0 x.1).line ∙ ap (λ (d : Data). number_in (value_at (codes "line") d)) same ∙ (shows y.0 y.1).line, one_object x.0 y.0 x.1 y.1 p.0 o.0 b c same)

-- ---- whole logs

-- the count at the end has no line, and no other object has one
abbrev counts_lines : Data → Bool
counts_lines d = is_null (value_at (codes "passed_over") d)

no_count_in_answer : (number : ℕ) (q : Asked) (v : Verdict) (left : Option ℕ) (others : Others) → counts_lines (answer_value (Some number) q v left others) ≡ true
no_count_in_answer number q (Allowed grant) left others = refl
no_count_in_answer number q (Denied rules) left others = refl

no_count : (number : ℕ) (t : Told) → counts_lines (object_value number t) ≡ true
no_count number (answered q grants) = no_count_in_answer number (asked_of q) (verdict_on q) (left_to_client (asked_of q) q.grants) (others_on grants q)
no_count number (judged_by a answer) = refl
no_count number (pathless caller access any) = refl
no_count number formless = refl
no_count number (unknown mask) = refl
no_count number (refused fault) = refl
no_count number (bad option) = refl
no_count number (not_read found) = refl

no_thing : {A : Type 0} (m : ℕ) (y : Item) (rest : List ℕ) → HasObject y → m < 2 ^ 64 → json_line (passed_value m) ≡ item_in Objects y ++ rest → A
no_thing m y rest there small same =
    let value = one_line (passed_value m) (object_value y.0 y.1) [] rest (small, tt) there.1 (append-nil (json_line (passed_value m)) ∙ same) in
    absurd (let e : false ≡ true = ap counts_lines value.0 ∙ no_count y.0 y.1 in false≢true e)

pub one_log : (xs ys : List Item) (m n : ℕ) → All HasObject xs → All HasObject ys → All HasBytes xs → All HasBytes ys → m < 2 ^ 64 → n < 2 ^ 64 → reported_in Objects xs m ≡ reported_in Objects ys n
    → AllZip SameOfLine xs ys × (m ≡ n)
one_log [] [] m n p o b c small also same =
    let both = one_line (passed_value m) (passed_value n) [] [] (small, tt) (also, tt) (append-nil (json_line (passed_value m)) ∙ same ∙ sym (append-nil (json_line (passed_value n)))) in
    (tt, ap (λ (d : Data). number_in (value_at (codes "passed_over") d)) both.0)
one_log [] (y ∷ ys) m n p o b c small also same =
    no_thing m y (reported_in Objects ys n) (All-head HasObject y ys o) small (same ∙ append_assoc (item_in Objects y) (flat_map (item_in Objects) ys) (json_line (passed_value n)))
one_log (x ∷ xs) [] m n p o b c small also same =
    no_thing n x (reported_in Objects xs m) (All-head HasObject x xs p) also (sym same ∙ append_assoc (item_in Objects x) (flat_map (item_in Objects) xs) (json_line (passed_value m)))
one_log (x ∷ xs) (y ∷ ys) m n p o b c small also same =
    let here = All-head HasObject x xs p in
    let there = All-head HasObject y ys o in
    let both = one_line (object_value x.0 x.1) (object_value y.0 y.1) (reported_in Objects xs m) (reported_in Objects ys n) here.1 there.1
    (sym (append_assoc (item_in Objects x) (flat_map (item_in Objects) xs) (json_line (passed_value m))) ∙ same ∙ append_assoc (item_in Objects y) (flat_map (item_in Objects) ys) (json_line (passed_value n))) in
    let more = one_log xs ys m n (All-tail HasObject x xs p) (All-tail HasObject y ys o) (All-tail HasBytes x xs b) (All-tail HasBytes y ys c) small also both.1 in
    ((one_thing x y here there (All-head HasBytes x xs b) (All-head HasBytes y ys c) both.0, more.0), more.1)
