-- What is told of a log is one thing after the other, and its text tells which.
use Rattle.std.proofs.Common.{◌≡◌, ◌⊎◌, inl, inr, ℕ, ◌+◌, ◌<◌, ◌≤◌, ◌^◌, ◌%◌, Bool, true, false, Option, Some, None, List, [], ◌∷◌, ◌++◌, drop, length, map, refl}
use Rattle.std.proofs.Common.{sym, ap, subst, ◌∙◌, append_assoc, arith}
use Rattle.std.specs.Prelude.{codes, All, IfSome, bytes_eq, is_some, ◌==◌, ◌&&◌, if◌then◌else◌}
use Rattle.std.specs.Fmt.{decimal}
use Rattle.std.specs.List.{AllZip, flat_map, list_all}
use Rattle.std.proofs.lemmas.Fmt.{decimal_by_steps}
use Rattle.std.proofs.lemmas.Bool.{cond-false}
use Rattle.std.proofs.lemmas.List.{append_cancel_left}
use Rattle.std.proofs.lemmas.List.Elements.{All-append, All-cons, All-head, All-nil, All-tail}
use Rattle.capspec.specs.declared.fault.SpecFault.{SpecFault}
use Rattle.capspec.specs.declared.fault.SpecFaultKind.{SpecFaultKind}
use Rattle.capspec.specs.declared.fault.SpecFaultKind.TheVariants as kinds
use Rattle.capgrant.specs.declared.access.Access.{Access}
use Rattle.capgrant.specs.declared.access.Access.TheVariants.{Chgrp, Chmod, Chown, Read, SetVxattr, Snapshot, Write}
use Rattle.capgrant.specs.declared.answer.Verdict.{Verdict}
use Rattle.capgrant.specs.declared.answer.Verdict.TheVariants.{Allowed, Denied}
use Rattle.capgrant.specs.Access.{access_word}
use Rattle.capgrant.specs.Question.{Question as Asked}
use Rattle.policy_analysis.specs.Left.{left_to_client}
use Rattle.release_rules.specs.declared.beside.Others.{Others}
use Rattle.release_grants.specs.declared.grant.Grant.{Grant}
use Rattle.release_grants.specs.declared.switches.Switches.{Switches}
use Rattle.release_rules.specs.declared.release.Release.{Release}
use Rattle.release_rules.specs.declared.release.Release.TheVariants.{Pacific, Reef, Tentacle}
use Rattle.release_rules.specs.declared.verdict.Verdict.{Verdict as MdsVerdict}
use Rattle.release_rules.specs.declared.verdict.Verdict.TheVariants as mds
use Rattle.release_rules.specs.Clients.{client_refuses}
use Rattle.release_rules.specs.Failing.{may_allow_somewhere}
use Rattle.release_rules.specs.Question.{Question as MdsQuestion}
use Rattle.release_rules.specs.Releases.{switches_of, version_of}
use Rattle.release_grants.proofs.FewRead.{AreFew, few_read, near_read}
use Rattle.texts.specs.Lines.{HasNumber}
use Rattle.texts.specs.Quoting.{is_plain, quoted}
use Rattle.texts.specs.declared.mds_asked.MdsAccess.{MdsAccess}
use Rattle.texts.specs.declared.shape.Shape.{Shape}
use Rattle.texts.specs.declared.shape.Shape.TheVariants.{Lines}
use Rattle.texts.specs.declared.mds_asked.MdsAccess.TheVariants.{Mask as AllOf}
use Rattle.texts.specs.Explaining.{path_text, reason_text}
use Rattle.texts.specs.Mds.{beside_text, mds_line, mds_text, others_lines}
use Rattle.texts.specs.MdsAsked.{asked_there}
use Rattle.texts.specs.MdsTold.{HasMdsGrant, HasSmallNumbers}
use Rattle.texts.specs.Remarks.{left_line}
use Rattle.texts.specs.Standing.{fault_word}
use Rattle.texts.specs.Remarked.{HasNumbers}
use Rattle.texts.proofs.Answered.{number_and, number_to, plain_number}
use Rattle.texts.proofs.Beside.{one_beside_to}
use Rattle.texts.proofs.Clients.{has_word, kind_of}
use Rattle.texts.proofs.MdsAnswered.{one_mds_line_to}
use Rattle.texts.proofs.MdsDistinct.{asked_of as release_named, has_version}
use Rattle.texts.proofs.Quoted.{bare, bare_to, before_a_line_feed, first_byte}
use Rattle.texts.proofs.Remarked.{IsOther}
use Rattle.texts.proofs.WholeObjects.{HasSmallIds}
use Rattle.queries.specs.declared.fault.QuestionFault.{QuestionFault}
use Rattle.queries.specs.declared.fault.QuestionFault.TheVariants.{Grants as BadGrants}
use Rattle.queries.specs.declared.fault.QuestionFault.TheVariants.{BadValue, NoMemory}
use Rattle.queries.specs.declared.mask.Mask.{Mask}
use Rattle.queries.specs.declared.mds.MdsAsking.{MdsAsking}
use Rattle.queries.specs.declared.mds.NotRead.{NotRead}
use Rattle.queries.specs.declared.options.Opt.{Opt}
use Rattle.queries.specs.declared.options.Opt.TheVariants.{Addr, Fs, Gid, Grants, Group, Groups, Mode, Owner, Path, Uid}
use Rattle.queries.specs.declared.options.Opt.TheVariants.{Access as AccessWord}
use Rattle.queries.specs.declared.question.Asking.{Asking}
use Rattle.queries.specs.declared.question.Question.{Question}
use Rattle.queries.specs.declared.question.Values.{Values}
use Rattle.queries.specs.Options.{option_name}
use Rattle.queries.specs.Mds.{answer_by, lines_by, mds_question, mounts, not_read_text}
use Rattle.queries.specs.Question.{AsksFor, IsFaultIn, IsFaultOfAsking, verdict_on}
use Rattle.queries.specs.Remarks.{asked_of, others_on, remarked_answer}
use Rattle.texts.specs.ScriptLines.{lines}
use Rattle.queries.specs.Checks.{CheckTexts, HeadTexts, check_of, head_in}
use Rattle.queries.specs.Before.{BeforeTexts, GivenTexts, given_of, known_of, said_before}
use Rattle.queries.specs.AnyPath.{any_path_text}
use Rattle.queries.specs.Items.{HasLines, HasObject, IsOfMask, IsTellable, SameOfLine, SameTold, item_in, reported_in}
use Rattle.queries.specs.Told.Told.{answered, bad, formless, judged_by, not_read, pathless, refused, unknown}
use Rattle.queries.specs.Masks.{accesses_of}
use Rattle.queries.specs.Reported.{AreReported, AreValues, IsAnswered, IsAnsweredBy, IsFaulty, IsFaultyBy, IsReportOf, IsReported, IsUnreadBy, Item, Says, SaysBehind, SaysBy, SaysIf}
use Rattle.queries.specs.Reported.{Scope, State, TellsFault, answer_there, answer_to, asking_all, counts_in, leaves_out, of_line, path_or_root, text_of, with_access}
use Rattle.queries.specs.Kinds.{kind_in}
use Rattle.queries.specs.Told.{Told, allows, lines_of, passed_in, passed_line}
use Rattle.queries.specs.Reported.AreReported.{no_more, one_more}
use Rattle.queries.specs.Reported.IsReported.{checked, kept, passed_over}
use Rattle.queries.proofs.LogLines.{few_passed, next_number}
use Rattle.queries.proofs.AnyPaths.{has_small, has_small_by, one_any_path}
use Rattle.queries.proofs.FewThere.{are_beside, small_there}
use Rattle.queries.proofs.ObjectNumbers.{AsksSmall, HasAllNumbers, asks_small, few_there, has_object, small_ids, small_of}
use Rattle.queries.proofs.Fitting.{AreShort, HasFew, all_asked, few_lines, fits, near_fault, short_check, short_grants, short_head, short_lines}

-- ---- how the lines begin

-- behind the number
abbrev said : Told → List ℕ
said (answered q grants) = remarked_answer grants q
said (judged_by a answer) = lines_by a answer
said (pathless caller access any) = codes "no path in this line: " ++ any_path_text access any
said formless = codes "a check that is not as an MDS writes it\n"
said (unknown mask) = codes "unknown mask " ++ (quoted mask ++ codes "\n")
said (refused fault) = codes "grants: " ++ (fault_word fault.kind ++ (codes " at " ++ (decimal fault.at ++ codes "\n")))
said (bad option) = codes "bad value of --" ++ (option_name option ++ codes "\n")
said (not_read found) = codes "grants: " ++ (not_read_text found ++ codes "\n")

abbrev behind_number : ℕ → List ℕ → List ℕ
behind_number number more = decimal number ++ 58 ∷ 32 ∷ more

bare_number : (number : ℕ) → number < 2 ^ 64 → quoted (decimal number) ≡ decimal number
bare_number number small = let plain = plain_number number small in rw plain refl

laid_out : (number : ℕ) (told : Told) (s : List ℕ) → number < 2 ^ 64 → lines_of number told ++ s ≡ behind_number number (said told ++ s)
laid_out number (answered q grants) s small = append_assoc (decimal number) (codes ": " ++ remarked_answer grants q) s
laid_out number (judged_by a answer) s small = append_assoc (decimal number) (codes ": " ++ lines_by a answer) s
laid_out number (pathless caller access any) s small = append_assoc (decimal number) (codes ": " ++ said (pathless caller access any)) s
laid_out number formless s small = append_assoc (decimal number) (codes ": " ++ said formless) s
laid_out number (unknown mask) s small = append_assoc (decimal number) (codes ": " ++ said (unknown mask)) s
laid_out number (refused fault) s small =
    ap (λ (digits : List ℕ). (digits ++ (codes ": " ++ said (refused fault))) ++ s) (bare_number number small) ∙ append_assoc (decimal number) (codes ": " ++ said (refused fault)) s
laid_out number (bad option) s small = append_assoc (decimal number) (codes ": " ++ said (bad option)) s
laid_out number (not_read found) s small = append_assoc (decimal number) (codes ": " ++ said (not_read found)) s

low_number : (number : ℕ) → number < 2 ^ 64 → (s : List ℕ) → first_byte (decimal number ++ s) < 58
low_number =
    decimal_by_steps (λ n ds. (s : List ℕ) → first_byte (ds ++ s) < 58)
    (λ n below s. omega arith)
    (λ n ds large all s. let is : (ds ++ (48 + n % 10) ∷ []) ++ s ≡ ds ++ ((48 + n % 10) ∷ s) = append_assoc ds ((48 + n % 10) ∷ []) s in omega (arith, ap first_byte is, all ((48 + n % 10) ∷ s)))

-- nothing that is told, and no count at the end, begins as what is said beside an answer
others : (xs : List Item) (passed : ℕ) → All HasLines xs → IsOther (reported_in Lines xs passed)
others [] passed reported = omega arith
others (x ∷ xs) passed reported =
    let here = All-head HasLines x xs reported in
    let is : reported_in Lines (x ∷ xs) passed ≡ behind_number x.0 (said x.1 ++ reported_in Lines xs passed) =
    append_assoc (lines_of x.0 x.1) (flat_map (item_in Lines) xs) (passed_line passed) ∙ laid_out x.0 x.1 (reported_in Lines xs passed) here.0 in
    omega (arith, ap first_byte is, low_number x.0 here.0 (58 ∷ 32 ∷ (said x.1 ++ reported_in Lines xs passed)))

-- ---- the kinds of things

abbrev pub tag : Told → ℕ
tag (answered q grants) = 0
tag formless = 1
tag (unknown mask) = 2
tag (refused fault) = 3
tag (bad option) = 4
tag (pathless caller access any) = 5
tag (judged_by a answer) = 6
tag (not_read found) = 7

-- the word of what is asked for begins there with an m: it is a mask
abbrev of_mask : List ℕ → ℕ
of_mask text = if first_byte text == 109 then 6 else 0

-- grants that a release does not read, or other faults of theirs
abbrev of_grants : List ℕ → ℕ
of_grants text = if first_byte text == 110 then 7 else 3

abbrev of_verdict : List ℕ → ℕ
of_verdict text = if first_byte text == 97 then of_mask (drop 8 text) else (if first_byte (drop 2 text) == 112 then 6 else of_mask (drop 7 text))

abbrev tag_at : List ℕ → ℕ
tag_at text =
    let byte : ℕ = first_byte text in
    if byte == 117 then 2 else (if byte == 103 then of_grants (drop 8 text) else (if byte == 98 then 4 else (if byte == 110 then 5 else (if first_byte (drop 1 text) == 32 then 1 else of_verdict text))))

no_mask : (a : Access) (text : List ℕ) → of_mask (access_word a ++ text) ≡ 0
no_mask Read text = refl
no_mask Write text = refl
no_mask SetVxattr text = refl
no_mask Snapshot text = refl
no_mask Chmod text = refl
no_mask (Chown uid) text = refl
no_mask (Chgrp gid) text = refl

no_release : (kind : SpecFaultKind) (text : List ℕ) → of_grants (fault_word kind ++ text) ≡ 3
no_release kinds.Empty text = refl
no_release kinds.NotAllow text = refl
no_release kinds.BadFlags text = refl
no_release kinds.BadItem text = refl
no_release kinds.Twice text = refl
no_release kinds.BadNumber text = refl
no_release kinds.OpenQuote text = refl
no_release kinds.GidsWithoutUid text = refl
no_release kinds.LeftOut text = refl
no_release kinds.TooMany text = refl
no_release kinds.BadPath text = refl
no_release kinds.NoMemory text = refl

-- the word behind a front, with what follows
behind_front : (word a b c s : List ℕ) → (((word ++ a) ++ b) ++ c) ++ s ≡ word ++ (a ++ (b ++ (c ++ s)))
behind_front word a b c s = simp append_assoc

of_answer : (q : Asked) (v : Verdict) (left : Option ℕ) (beside : Others) (s : List ℕ) → tag_at (beside_text q v left beside ++ s) ≡ 0
of_answer q (Allowed grant) left beside s =
    let path : List ℕ = quoted (path_text q.path) ++ reason_text (Allowed grant) in
    let more : List ℕ = codes "\n" ++ (left_line q.attr left ++ others_lines [] beside) in
    ap of_mask (behind_front (access_word q.access) (codes " ") path more s) ∙ no_mask q.access (codes " " ++ (path ++ (more ++ s)))
of_answer q (Denied rules) left beside s =
    let path : List ℕ = quoted (path_text q.path) ++ reason_text (Denied rules) in
    let more : List ℕ = codes "\n" ++ (left_line q.attr left ++ others_lines [] beside) in
    ap of_mask (behind_front (access_word q.access) (codes " ") path more s) ∙ no_mask q.access (codes " " ++ (path ++ (more ++ s)))

of_judged : (access : MdsAccess) (path : List (List ℕ)) (verdict : MdsVerdict) (client : Option ℕ) (s : List ℕ) → IsOfMask access → tag_at (mds_text access path verdict client ++ s) ≡ 6
of_judged (AllOf bits uid gid) path mds.CannotMount client s fits = refl
of_judged (AllOf bits uid gid) path (mds.Allowed grant) client s fits = refl
of_judged (AllOf bits uid gid) path (mds.DependsOnAddress grant) client s fits = refl
of_judged (AllOf bits uid gid) path (mds.Denied rules) client s fits = refl
of_judged access path verdict client s fits = absurd fits

has_tag : (told : Told) (s : List ℕ) → IsTellable told → tag_at (said told ++ s) ≡ tag told
has_tag (answered q grants) s fits = of_answer (asked_of q) (verdict_on q) (left_to_client (asked_of q) q.grants) (others_on grants q) s
has_tag (judged_by a answer) s fits = of_judged a.access a.asking.path answer.verdict answer.refused s fits.0
has_tag (pathless caller access any) s fits = refl
has_tag formless s fits = refl
has_tag (unknown mask) s fits = refl
has_tag (refused fault) s fits =
    let more : List ℕ = codes " at " ++ (decimal fault.at ++ codes "\n") in
    ap of_grants (append_assoc (fault_word fault.kind) more s) ∙ no_release fault.kind (more ++ s)
has_tag (bad option) s fits = refl
has_tag (not_read found) s fits = refl

-- ---- options

abbrev pub option_of : List ℕ → Opt
option_of word =
    if bytes_eq word (codes "grants") then Grants else (if bytes_eq word (codes "fs") then Fs else (if bytes_eq word (codes "uid") then Uid
    else (if bytes_eq word (codes "gid") then Gid else (if bytes_eq word (codes "groups") then Groups else (if bytes_eq word (codes "path") then Path
    else (if bytes_eq word (codes "owner") then Owner else (if bytes_eq word (codes "group") then Group else (if bytes_eq word (codes "mode") then Mode
    else (if bytes_eq word (codes "access") then AccessWord else Addr)))))))))

pub has_name : (option : Opt) → (option_of (option_name option) ≡ option) × (list_all is_plain (option_name option) ≡ true)
has_name Grants = (refl, refl)
has_name Fs = (refl, refl)
has_name Uid = (refl, refl)
has_name Gid = (refl, refl)
has_name Groups = (refl, refl)
has_name Path = (refl, refl)
has_name Owner = (refl, refl)
has_name Group = (refl, refl)
has_name Mode = (refl, refl)
has_name AccessWord = (refl, refl)
has_name Addr = (refl, refl)

-- ---- one thing for its lines

one_fault : (f g : SpecFault) (s t : List ℕ) → f.at < 2 ^ 64 → g.at < 2 ^ 64 → said (refused f) ++ s ≡ said (refused g) ++ t → (f ≡ g) × (s ≡ t)
one_fault f g s t small also same =
    let words = bare (fault_word f.kind) (fault_word g.kind) (codes "at " ++ (decimal f.at ++ 10 ∷ s)) (codes "at " ++ (decimal g.at ++ 10 ∷ t)) (has_word f.kind).1 (has_word g.kind).1
    (append_cancel_left (codes "grants: ") _ _ (sym (placed f s) ∙ same ∙ placed g t)) in
    let kind : f.kind ≡ g.kind = sym (has_word f.kind).0 ∙ ap kind_of words.0 ∙ (has_word g.kind).0 in
    let number = number_to 10 f.at g.at s t refl small also (append_cancel_left (codes "at ") _ _ words.1) in
    let place : f.at ≡ g.at = number.0 in
    (λ i. record { kind = kind i; at = place i }, number.1)
  where
    placed : (f : SpecFault) (s : List ℕ) → said (refused f) ++ s ≡ codes "grants: " ++ (fault_word f.kind ++ 32 ∷ (codes "at " ++ (decimal f.at ++ 10 ∷ s)))
    placed f s =
        ap (λ (r : List ℕ). codes "grants: " ++ r)
        (append_assoc (fault_word f.kind) (codes " at " ++ (decimal f.at ++ codes "\n")) s ∙ ap (λ (r : List ℕ). fault_word f.kind ++ (codes " at " ++ r)) (append_assoc (decimal f.at) (codes "\n") s))

one_option : (o p : Opt) (s t : List ℕ) → said (bad o) ++ s ≡ said (bad p) ++ t → (o ≡ p) × (s ≡ t)
one_option o p s t same =
    let both = bare_to 10 (option_name o) (option_name p) s t refl (has_name o).1 (has_name p).1
    (sym (append_assoc (option_name o) (codes "\n") s) ∙ append_cancel_left (codes "bad value of --") _ _ same ∙ append_assoc (option_name p) (codes "\n") t) in
    (sym (has_name o).0 ∙ ap option_of both.0 ∙ (has_name p).0, both.1)

one_release : (a b : Release) (s t : List ℕ) → version_of a ++ 32 ∷ s ≡ version_of b ++ 32 ∷ t → (a ≡ b) × (s ≡ t)
one_release a b s t same =
    let words = bare (version_of a) (version_of b) s t (plain_version a) (plain_version b) same in
    (sym (has_version a) ∙ ap release_named words.0 ∙ has_version b, words.1)
  where
    plain_version : (release : Release) → list_all is_plain (version_of release) ≡ true
    plain_version Pacific = refl
    plain_version Reef = refl
    plain_version Tentacle = refl

one_unread : (f g : NotRead) (s t : List ℕ) → f.at < 2 ^ 64 → g.at < 2 ^ 64 → said (not_read f) ++ s ≡ said (not_read g) ++ t → (f ≡ g) × (s ≡ t)
one_unread f g s t small also same =
    let releases = one_release f.release g.release _ _ (append_cancel_left (codes "grants: not read by Ceph ") _ _ (sym (placed f s) ∙ same ∙ placed g t)) in
    let number = number_to 10 f.at g.at s t refl small also (append_cancel_left (codes "at ") _ _ releases.1) in
    let release : f.release ≡ g.release = releases.0 in
    let place : f.at ≡ g.at = number.0 in
    (λ i. record { release = release i; at = place i }, number.1)
  where
    placed : (f : NotRead) (s : List ℕ) → said (not_read f) ++ s ≡ codes "grants: not read by Ceph " ++ (version_of f.release ++ 32 ∷ (codes "at " ++ (decimal f.at ++ 10 ∷ s)))
    placed f s = laid (version_of f.release) (decimal f.at) s
      where
        laid : (version at s : List ℕ) → (codes "grants: " ++ ((codes "not read by Ceph " ++ (version ++ (codes " at " ++ at))) ++ codes "\n")) ++ s ≡ codes "grants: not read by Ceph " ++ (version ++ 32 ∷ (codes "at " ++ (at ++ 10 ∷ s)))
        laid version at s = simp append_assoc

one_judged : (a b : MdsAccess) (p q : List (List ℕ)) (v w : MdsVerdict) (x y : Option ℕ) (s t : List ℕ) → x ≡ None → y ≡ None → HasSmallNumbers a → HasSmallNumbers b → HasMdsGrant v → HasMdsGrant w
    → mds_text a p v x ++ s ≡ mds_text b q w y ++ t → ((a ≡ b) × (path_text p ≡ path_text q) × (v ≡ w)) × (s ≡ t)
one_judged a b p q v w x y s t none too small also low high same =
    let line = one_mds_line_to a b p q v w s t small also low high (sym (placed a p v x s none) ∙ same ∙ placed b q w y t too) in
    ((line.0, line.1, line.2), line.3)
  where
    placed : (access : MdsAccess) (path : List (List ℕ)) (verdict : MdsVerdict) (client : Option ℕ) (s : List ℕ) → client ≡ None → mds_text access path verdict client ++ s ≡ mds_line access path verdict ++ 10 ∷ s
    placed access path verdict client s none = ap (λ (r : Option ℕ). mds_text access path verdict r ++ s) none ∙ append_assoc (mds_line access path verdict) (codes "\n") s

one_said : (x y : Told) (s t : List ℕ) → IsTellable x → IsTellable y → IsOther s → IsOther t → said x ++ s ≡ said y ++ t → SameTold x y × (s ≡ t)
one_said (answered q grants) (answered r also) s t p o low too same =
    one_beside_to (asked_of q) (asked_of r) (verdict_on q) (verdict_on r) (left_to_client (asked_of q) q.grants) (left_to_client (asked_of r) r.grants) (others_on grants q) (others_on also r) s t
    (are_beside grants q p.0 p.1) (are_beside also r o.0 o.1) low too same
one_said (judged_by a x) (judged_by b y) s t p o low too same =
    one_judged a.access b.access a.asking.path b.asking.path x.verdict y.verdict x.refused y.refused s t p.2 o.2 (small_of a.access p.0) (small_of b.access o.0) p.1 o.1 same
one_said (pathless caller a x) (pathless other b y) s t p o low too same = one_any_path a b x y s t p.0 o.0 p.1 o.1 (append_cancel_left (codes "no path in this line: ") _ _ same)
one_said formless formless s t p o low too same = (tt, append_cancel_left (said formless) s t same)
one_said (unknown mask) (unknown other) s t p o low too same =
    before_a_line_feed mask other s t (sym (append_assoc (quoted mask) (codes "\n") s) ∙ append_cancel_left (codes "unknown mask ") _ _ same ∙ append_assoc (quoted other) (codes "\n") t)
one_said (refused fault) (refused other) s t p o low too same = one_fault fault other s t p o same
one_said (bad option) (bad other) s t p o low too same = one_option option other s t same
one_said (not_read found) (not_read other) s t p o low too same = one_unread found other s t p o same
one_said x y s t p o low too same = absurd (let e : tag x ≡ tag y = sym (has_tag x s p) ∙ ap tag_at same ∙ has_tag y t o in omega (arith, e))

one_thing : (x y : Item) (s t : List ℕ) → HasLines x → HasLines y → IsOther s → IsOther t → item_in Lines x ++ s ≡ item_in Lines y ++ t → SameOfLine x y × (s ≡ t)
one_thing x y s t p o low too same =
    let number = number_and 58 32 x.0 y.0 (said x.1 ++ s) (said y.1 ++ t) refl refl p.0 o.0 (sym (laid_out x.0 x.1 s p.0) ∙ same ∙ laid_out y.0 y.1 t o.0) in
    let told = one_said x.1 y.1 s t p.1 o.1 low too number.1 in
    ((number.0, told.0), told.1)

-- ---- whole logs

one_count : (m n : ℕ) → m < 2 ^ 64 → n < 2 ^ 64 → passed_line m ≡ passed_line n → m ≡ n
one_count m n small also same = (number_to 10 m n [] [] refl small also (append_cancel_left (codes "lines that are no check of policy: ") (decimal m ++ codes "\n") (decimal n ++ codes "\n") same)).0

-- the count begins as no number does
no_thing : {A : Type 0} (y : Item) (m : ℕ) (rest : List ℕ) → HasLines y → passed_line m ≡ item_in Lines y ++ rest → A
no_thing y m rest reported same =
    absurd (omega (arith, ap first_byte (same ∙ laid_out y.0 y.1 rest reported.0), low_number y.0 reported.0 (58 ∷ 32 ∷ (said y.1 ++ rest))))

pub one_log : (xs ys : List Item) (m n : ℕ) → All HasLines xs → All HasLines ys → m < 2 ^ 64 → n < 2 ^ 64 → reported_in Lines xs m ≡ reported_in Lines ys n → AllZip SameOfLine xs ys × (m ≡ n)
one_log [] [] m n p o small also same = (tt, one_count m n small also same)
one_log [] (y ∷ ys) m n p o small also same = no_thing y m (reported_in Lines ys n) (All-head HasLines y ys o) (same ∙ append_assoc (item_in Lines y) (flat_map (item_in Lines) ys) (passed_line n))
one_log (x ∷ xs) [] m n p o small also same = no_thing x n (reported_in Lines xs m) (All-head HasLines x xs p) (sym same ∙ append_assoc (item_in Lines x) (flat_map (item_in Lines) xs) (passed_line m))
one_log (x ∷ xs) (y ∷ ys) m n p o small also same =
    let first = All-tail HasLines x xs p in
    let other = All-tail HasLines y ys o in
    let both = one_thing x y (reported_in Lines xs m) (reported_in Lines ys n) (All-head HasLines x xs p) (All-head HasLines y ys o) (others xs m first) (others ys n other)
    (sym (append_assoc (item_in Lines x) (flat_map (item_in Lines) xs) (passed_line m)) ∙ same ∙ append_assoc (item_in Lines y) (flat_map (item_in Lines) ys) (passed_line n)) in
    let more = one_log xs ys m n first other small also both.1 in
    ((both.0, more.0), more.1)

-- ---- what is told of a check

one : (t : Told) → HasAllNumbers t → All HasAllNumbers (t ∷ [])
one t fits = All-cons HasAllNumbers t [] fits (All-nil HasAllNumbers)

is_one : (told : List Told) (t : Told) → HasAllNumbers t → told ≡ t ∷ [] → All HasAllNumbers told
is_one told t fits is = subst (λ (ts : List Told). All HasAllNumbers ts) (sym is) (one t fits)

of_access : (grants : List ℕ) (q : Question) (has_path : Bool) (access : Access) → length grants < 2 ^ 63 → HasNumbers (asked_of (with_access q access)) q.grants → HasSmallIds q.caller
    → HasAllNumbers (answer_to has_path grants q access)
of_access grants q true access short fit ids = ((fit, short), ids)
of_access grants q false access short fit ids = ((fit.access, has_small (with_access q access) fit), ids)

of_accesses : (v : Values) (grants : List ℕ) (q : Question) (has_path : Bool) → length grants < 2 ^ 63 → AsksFor v q → (accesses : List Access) → All HasNumber accesses
    → All HasAllNumbers (map (answer_to has_path grants q) accesses)
of_accesses v grants q has_path short asks [] numbers = All-nil HasAllNumbers
of_accesses v grants q has_path short asks (access ∷ accesses) numbers =
    All-cons HasAllNumbers (answer_to has_path grants q access) (map (answer_to has_path grants q) accesses)
    (of_access grants q has_path access short (fits v q access asks (All-head HasNumber access accesses numbers)) (small_ids v q asks))
    (of_accesses v grants q has_path short asks accesses (All-tail HasNumber access accesses numbers))

of_fault : (check : CheckTexts) (v : Values) (fault : QuestionFault) (told : Told) → v.grants.items ≡ check.grants → length check.grants < 2 ^ 63 → IsFaultIn v fault → TellsFault fault told → HasAllNumbers told
of_fault check v (BadGrants fault) told same short first tells =
    subst HasAllNumbers (sym tells) (omega (arith, near_fault v.grants.items fault first, ap (λ (bytes : List ℕ). length bytes) same, short), tt)
of_fault check v (BadValue option) told same short first tells = subst HasAllNumbers (sym tells) (tt, tt)
of_fault check v NoMemory told same short first tells = absurd tells

of_values : (given : GivenTexts) (path : List ℕ) (check : CheckTexts) (v : Values) (told : List Told) (has_path : Bool) → length check.grants < 2 ^ 63 → AreValues given path check v
    → IsAnswered has_path check v told ⊎ IsFaulty v told → All HasAllNumbers told
of_values given path check v told has_path short values (inl says) =
    subst (λ (ts : List Told). All HasAllNumbers ts) (sym says.told_is) (of_accesses v check.grants says.question has_path short says.asks (accesses_of says.mask) (all_asked check says.mask says.is_mask))
of_values given path check v told has_path short values (inr says) = is_one told says.one (of_fault check v says.fault says.one values.grants short says.first says.tells) says.told_is

of_check : (given : GivenTexts) (check : CheckTexts) (told : List Told) → length check.grants < 2 ^ 63 → Says given check told → All HasAllNumbers told
of_check given check told short (inl says) = is_one told (unknown check.mask) (tt, tt) says.1
of_check given check told short (inr says) = of_values given (path_or_root given.path) check says.0 told (is_some given.path) short says.1 says.2

-- by a release
of_release : (has_path : Bool) (release : Release) (grants : List Grant) (mask : Mask) (asking : Asking) (most : ℕ) → HasSmallNumbers (AllOf mask.bits mask.uid mask.gid) → AsksSmall asking
    → length grants ≤ most → most + 1 < 2 ^ 64 → HasAllNumbers (answer_there has_path release grants (asking_all mask asking))
of_release true release grants mask asking most fits asks few small =
    let a : MdsAsking = asking_all mask asking in
    let switches : Switches = switches_of release in
    let q : MdsQuestion = mds_question asking (asked_there a.access) in (
      (fits, small_there switches q grants (omega (arith, few, small)), unrefused (mounts (answer_by release a grants).verdict)),
      (asks, few_there switches q grants (omega (arith, few, small))),
    )
  where
    unrefused : (b : Bool) → (if b && false then client_refuses (switches_of release) (mds_question asking (asked_there (AllOf mask.bits mask.uid mask.gid))) grants else None) ≡ None
    unrefused true = refl
    unrefused false = refl
of_release false release grants mask asking most fits asks few small =
    let a : MdsAsking = asking_all mask asking in
    let switches : Switches = switches_of release in
    let q : MdsQuestion = mds_question asking (asked_there a.access) in
    let grant = has_small_by (answer_by release a grants).verdict (may_allow_somewhere switches q) grants most few (omega (arith, small)) (small_there switches q grants (omega (arith, few, small))) in
    ((fits, grant), asks.ids)

of_values_by : (release : Release) (check : CheckTexts) (v : Values) (told : List Told) (has_path : Bool) → length check.grants < 2 ^ 63 → IsAnsweredBy has_path release check v told ⊎ IsFaultyBy v told → All HasAllNumbers told
of_values_by release check v told has_path short (inl says) =
    let few : length says.grants ≤ length check.grants + 1 = subst (AreFew (length check.grants + 1)) says.reads (few_read (switches_of release) check.grants) in
    is_one told (answer_there has_path release says.grants (asking_all says.mask says.asking))
    (of_release has_path release says.grants says.mask says.asking (length check.grants + 1) (says.numbers.bits.small, says.numbers.uid.small, says.numbers.gid.small)
    (asks_small v (codes "read") says.asking says.asks) few (omega (arith, short))) says.told_is
of_values_by release check v told has_path short (inr says) = is_one told says.one (of_fault_by says.fault says.first says.one says.tells) says.told_is
  where
    of_fault_by : (fault : QuestionFault) → IsFaultOfAsking v (codes "read") fault → (t : Told) → TellsFault fault t → HasAllNumbers t
    of_fault_by (BadGrants fault) first t tells = absurd first
    of_fault_by (BadValue option) first t tells = subst HasAllNumbers (sym tells) (tt, tt)
    of_fault_by NoMemory first t tells = absurd tells

of_unread : (release : Release) (check : CheckTexts) (told : List Told) → length check.grants < 2 ^ 63 → IsUnreadBy release check told → All HasAllNumbers told
of_unread release check told short says =
    is_one told (not_read says.found) (omega (arith, short, near_read (switches_of release) check.grants (record { at = says.found.at }) says.is_fault.1), tt) says.told_is

of_check_by : (release : Option Release) (given : GivenTexts) (check : CheckTexts) (told : List Told) → length check.grants < 2 ^ 63 → SaysBy release given check told → All HasAllNumbers told
of_check_by None given check told short says = of_check given check told short says
of_check_by (Some release) given check told short (inl says) = is_one told (unknown check.mask) (tt, tt) says.1
of_check_by (Some release) given check told short (inr (inl says)) = of_unread release check told short says
of_check_by (Some release) given check told short (inr (inr says)) = of_values_by release check says.0 told (is_some given.path) short says.2

of_form : (scope : Scope) (name : Option (List ℕ)) (before : Option BeforeTexts) (check : Option CheckTexts) (told : List Told) → IfSome check (λ c. length c.grants < 2 ^ 63)
    → SaysIf scope name before check told → All HasAllNumbers told
of_form scope name before None told short says = is_one told formless (tt, tt) says
of_form scope name before (Some check) told short says = of_check_by scope.release (given_of scope.fs name (known_of check before) check) check told short says

-- the grants of a check in a line of a short log
short_check_of : (most : ℕ) (text : List ℕ) → length text ≤ most → most < 2 ^ 63 → IfSome (check_of text) (λ c. length c.grants < 2 ^ 63)
short_check_of most text inside short = by_check (check_of text) (short_grants text)
  where
    by_check : (check : Option CheckTexts) → IfSome check (λ c. length c.grants ≤ length text) → IfSome check (λ c. length c.grants < 2 ^ 63)
    by_check None fit = tt
    by_check (Some check) fit = omega (arith, fit, inside, short)

of_head : (scope : Scope) (before : Option BeforeTexts) (most : ℕ) (head : Option HeadTexts) (told : List Told) → most < 2 ^ 63 → HasFew most head → SaysBehind scope before head told → All HasAllNumbers told
of_head scope before most None told short few says = is_one told formless (tt, tt) says
of_head scope before most (Some (name, parts)) told short few says = of_form scope name before (check_of parts) told (short_check_of most parts few short) says

-- ---- what is told of a log

-- it has lines, and an object
abbrev IsThing : Item → Type 0
IsThing item = HasLines item × HasObject item

numbered : (number : ℕ) → number < 2 ^ 64 → (told : List Told) → All HasAllNumbers told → All IsThing (of_line number told)
numbered number small [] fits = All-nil IsThing
numbered number small (t ∷ told) fits =
    let here = All-head HasAllNumbers t told fits in
    All-cons IsThing (number, t) (of_line number told) ((small, here.0), has_object number t small here) (numbered number small told (All-tail HasAllNumbers t told fits))

of_one_line : {scope : Scope} {line : List ℕ} {items : List Item} {s next : State} (most : ℕ) → s.number < 2 ^ 64 → most < 2 ^ 63 → length line ≤ most → IsReported scope s line items next → All IsThing items
of_one_line most small short few (kept before) = All-nil IsThing
of_one_line most small short few (passed_over other without) = All-nil IsThing
of_one_line {scope} {line} {items} {s} most small short few (checked parts told other is says) =
    numbered s.number small told (of_head scope (said_before s.before) most (head_in parts) told short (short_head most parts (short_check most line parts few is)) says)

of_lines : {scope : Scope} {items : List Item} {s end : State} (most : ℕ) (log : List (List ℕ)) → s.number + length log < 2 ^ 64 → most < 2 ^ 63 → AreShort most log → AreReported scope s log items end → All IsThing items
of_lines most [] small short few no_more = All-nil IsThing
of_lines most (line ∷ log) small short few (one_more first more says others) =
    All-append IsThing first more (of_one_line most (omega (arith, small)) short few.0 says) (of_lines most log (omega (arith, small, next_number says)) short few.1 others)

few_at_end : {scope : Scope} {items : List Item} {s end : State} (log : List (List ℕ)) → AreReported scope s log items end → end.passed ≤ s.passed + length log
few_at_end [] no_more = omega arith
few_at_end (line ∷ log) (one_more first more says others) = omega (arith, few_at_end log others, few_passed says)

-- those that are not left out
abbrev FewerTold : Scope → List Item → Type 0
FewerTold scope items = (xs : List Item) × All IsThing xs × (text_of scope items ≡ flat_map (item_in scope.shape) xs)

unless : (left : Bool) (shape : Shape) (item : Item) (text : List ℕ) (xs : List Item) → IsThing item → All IsThing xs → text ≡ flat_map (item_in shape) xs
    → (ys : List Item) × All IsThing ys × ((if left then [] else item_in shape item) ++ text ≡ flat_map (item_in shape) ys)
unless true shape item text xs fits all is = (xs, all, is)
unless false shape item text xs fits all is = (item ∷ xs, All-cons IsThing item xs fits all, ap (λ (t : List ℕ). item_in shape item ++ t) is)

fewer : (scope : Scope) (items : List Item) → scope.counts ≡ false → All IsThing items → FewerTold scope items
fewer scope [] plain all = ([], All-nil IsThing, refl)
fewer scope (item ∷ items) plain all =
    let rest = fewer scope items plain (All-tail IsThing item items all) in
    let left : Bool = leaves_out scope && allows item.1 in
    let told = unless left scope.shape item (text_of scope items) rest.0 (All-head IsThing item items all) rest.1 rest.2 in (
      told.0,
      told.1,
      ap (λ (t : List ℕ). (if left then [] else t) ++ text_of scope items) (cond-false scope.counts (kind_in scope.shape item.1) (item_in scope.shape item) plain) ∙ told.2,
    )

pub each_has_its_text : (scope : Scope) (log reported : List ℕ) (judged : Bool) → scope.counts ≡ false → length log < 2 ^ 62 → IsReportOf scope log reported judged
    → (xs : List Item) × (passed : ℕ) × All HasLines xs × All HasObject xs × (passed < 2 ^ 64) × (reported ≡ reported_in scope.shape xs passed)
each_has_its_text scope log reported judged plain short says =
    let are = says.2.1 in
    let items = says.0 in
    let passed = says.1 in
    let told = fewer scope items plain (of_lines (length log) (lines log) (omega (arith, short, few_lines log)) (omega (arith, short)) (short_lines log) are) in (
      told.0,
      passed,
      λ k d here. (told.1 k d here).0,
      λ k d here. (told.1 k d here).1,
      omega (arith, short, few_lines log, few_at_end (lines log) are, says.2.2),
      says.3 ∙ ap (λ (r : List ℕ). r ++ passed_in scope.shape passed) (cond-false scope.counts (counts_in scope items) (text_of scope items) plain ∙ told.2),
    )
