-- Objects of an audit that are equal tell the same.
use Rattle.std.proofs.Common.{◌≡◌, ℕ, zero, suc, ◌<◌, ◌==◌, ◌&&◌, Bool, true, false, cond, nat_lt, inl, inr, Option, Some, None, List, [], ◌∷◌, ◌++◌, refl, sym, ap}
use Rattle.std.proofs.Common.{◌∙◌, arith}
use Rattle.std.specs.Prelude.{◌||◌, IfSome, bytes_eq, codes, if◌then◌else◌}
use Rattle.std.specs.Fmt.{decimal}
use Rattle.std.specs.List.{list_all}
use Rattle.std.specs.Str.{is_utf8}
use Rattle.std.proofs.lemmas.Bool.{and_parts, eqb-false, eqb-true, ltb-true, or_cases}
use Rattle.hex.specs.Hex.{IsBytes}
use Rattle.serde_json.specs.Data.{Data, null}
use Rattle.capbits.specs.Caps.{Caps}
use Rattle.capbits.specs.Sets.{is_empty, minus}
use Rattle.capbits.specs.Text.{text_of}
use Rattle.capbits.proofs.Emptiness.{is_empty-no_caps}
use Rattle.capbits.proofs.Following.{text_of-injective}
use Rattle.capspec.specs.declared.fault.SpecFault.{SpecFault}
use Rattle.capspec.specs.declared.fault.SpecFaultKind.{SpecFaultKind}
use Rattle.release_rules.specs.declared.release.Release.{Release}
use Rattle.release_rules.specs.declared.release.Release.TheVariants.{Pacific, Reef, Tentacle}
use Rattle.release_rules.specs.Releases.{version_of}
use Rattle.capgrant.specs.declared.access.Access.{Access}
use Rattle.cluster_audit.specs.declared.findings.Finding.{Finding}
use Rattle.cluster_audit.specs.declared.conflict.Conflict.{Conflict}
use Rattle.texts.specs.Explaining.{path_text}
use Rattle.texts.specs.Lines.{HasNumber}
use Rattle.texts.specs.Quoting.{quoted}
use Rattle.texts.specs.Standing.{fault_word, unread_line}
use Rattle.texts.proofs.Clients.{one_fault}
use Rattle.texts.proofs.Quoted.{clash, first_byte}
use Rattle.texts.specs.Values.{bytes_value, or_null}
use Rattle.texts.proofs.Answered.{one_access}
use Rattle.texts.proofs.Distinct.{number_in, some_in, text_in, value_at}
use Rattle.texts.proofs.MdsDistinct.{asked_of, has_version}
use Rattle.texts.proofs.Spelling.{one_spelling}
use Rattle.cluster_audit.specs.declared.grants_by.Unreadable.{Unreadable}
use Rattle.cluster_audit.specs.declared.grants_by.Unreadable.TheVariants as unreadable
use Rattle.cluster_audit.specs.declared.notes.Detail.TheVariants.{Groups}
use Rattle.cluster_audit.specs.declared.unjudged.Unknown.{Unknown}
use Rattle.cluster_audit.specs.declared.unjudged.Unknown.TheVariants.{Address, Spelling}
use Rattle.cluster_audit.specs.declared.summary.Counts.{Counts}
use Rattle.cluster_audit.specs.Instead.{HasBytes, TellMore, value_of}
use Rattle.cluster_audit.specs.Objects.{access_value, caps_or_null, caps_value, path_value, session_value, unjudged_value, unknown_word}
use Rattle.cluster_audit.specs.Reported.{IsOneClient, IsOneInode, Line, TellTheSame}
use Rattle.cluster_audit.specs.Reported as reported
use Rattle.cluster_audit.proofs.Denials.{one_why_value}
use Rattle.cluster_audit.proofs.Tells.{kind}
use Rattle.cluster_audit.proofs.Words.{are_letters, is_letter}

-- ---- sets of caps

below : (b : ℕ) → is_letter b ≡ true → b < 256
below b within =
    elim (or_cases (nat_lt 58 b && nat_lt b 128) (b == 45) within) [
      | inl both ↦ let small : b < 128 = ltb-true b 128 (and_parts (nat_lt 58 b) (nat_lt b 128) both).1 in omega arith
      | inr dash ↦ let is : b ≡ 45 = eqb-true b 45 dash in omega arith
    ]

are_bytes : (xs : List ℕ) → list_all is_letter xs ≡ true → IsBytes xs
are_bytes [] all i = omega arith
are_bytes (x ∷ xs) all zero = below x (and_parts (is_letter x) (list_all is_letter xs) all).0
are_bytes (x ∷ xs) all (suc i) = are_bytes xs (and_parts (is_letter x) (list_all is_letter xs) all).1 i

one_set : (c d : Caps) → caps_value c ≡ caps_value d → c ≡ d
one_set c d same = text_of-injective c d (one_spelling (text_of c) (text_of d) (are_bytes (text_of c) (are_letters c)) (are_bytes (text_of d) (are_letters d)) same)

-- bytes are no null
some_bytes : (xs : List ℕ) → some_in (bytes_value xs) ≡ 1
some_bytes xs = elim (is_utf8 xs) as (λ b. is_utf8 xs ≡ b → some_in (bytes_value xs) ≡ 1) [ true ↦ λ is. rw is refl | false ↦ λ is. rw is refl ] refl

no_bytes : {X : Type 0} (xs : List ℕ) → null ≡ bytes_value xs → X
no_bytes xs same = clash 0 1 (omega arith) (ap some_in same ∙ some_bytes xs)

one_set_or_none : (c d : Caps) → caps_or_null c ≡ caps_or_null d → c ≡ d
one_set_or_none c d =
    elim (is_empty c) as (λ b. is_empty c ≡ b → cond b null (caps_value c) ≡ caps_or_null d → c ≡ d) [
      | true ↦ λ e. elim (is_empty d) as (λ b. is_empty d ≡ b → null ≡ cond b null (caps_value d) → c ≡ d) [
        | true ↦ λ f same. (is_empty-no_caps c).0 e ∙ sym ((is_empty-no_caps d).0 f)
        | false ↦ λ f same. no_bytes (text_of d) same
      ] refl
      | false ↦ λ e. elim (is_empty d) as (λ b. is_empty d ≡ b → caps_value c ≡ cond b null (caps_value d) → c ≡ d) [
        | true ↦ λ f same. no_bytes (text_of c) (sym same)
        | false ↦ λ f same. one_set c d same
      ] refl
    ] refl

-- ---- clients and paths

one_name : (a b : Option (List ℕ)) → IfSome a IsBytes → IfSome b IsBytes → or_null bytes_value a ≡ or_null bytes_value b → a ≡ b
one_name None None fit fits same = refl
one_name None (Some d) fit fits same = no_bytes d same
one_name (Some c) None fit fits same = no_bytes c (sym same)
one_name (Some c) (Some d) fit fits same = ap Some (one_spelling c d fit fits same)

one_inode : (m n : ℕ) (p q : Option (List (List ℕ))) → IfSome p (λ names. IsBytes (path_text names)) → IfSome q (λ names. IsBytes (path_text names)) → m ≡ n → or_null path_value p ≡ or_null path_value q → IsOneInode m p n q
one_inode m n None None fit fits number same = number
one_inode m n None (Some q) fit fits number same = no_bytes (path_text q) same
one_inode m n (Some p) None fit fits number same = no_bytes (path_text p) (sym same)
one_inode m n (Some p) (Some q) fit fits number same = one_spelling (path_text p) (path_text q) fit fits same

-- a session has a number in a group just where it tells no name
one_client : (m n : ℕ) (a b : Option (List ℕ)) → IfSome a IsBytes → IfSome b IsBytes → or_null bytes_value a ≡ or_null bytes_value b → session_value Groups m a ≡ session_value Groups n b → IsOneClient m a n b
one_client m n None None fit fits name number = ap number_in number
one_client m n None (Some d) fit fits name number = no_bytes d name
one_client m n (Some c) None fit fits name number = no_bytes c (sym name)
one_client m n (Some c) (Some d) fit fits name number = one_spelling c d fit fits name

-- ---- reasons

one_missing : (a b : Option Access) → IfSome a HasNumber → IfSome b HasNumber → or_null access_value a ≡ or_null access_value b → a ≡ b
one_missing None None fit fits same = refl
one_missing None (Some b) fit fits same = clash 0 1 (omega arith) (ap some_in same)
one_missing (Some a) None fit fits same = clash 0 1 (omega arith) (sym (ap some_in same))
one_missing (Some a) (Some b) fit fits same = ap Some (one_access a b fit fits (ap text_in same))

abbrev at_start : SpecFaultKind → SpecFault
at_start kind = record { kind = kind; at = 0 }

one_kind : (k l : SpecFaultKind) → fault_word k ≡ fault_word l → k ≡ l
one_kind k l word =
    let line : unread_line [] (at_start k) ≡ unread_line [] (at_start l) = λ i. quoted [] ++ (codes ": grants: " ++ (word i ++ (codes " at " ++ (decimal 0 ++ codes "\n")))) in
    ap (λ (f : SpecFault). f.kind) (one_fault [] [] (at_start k) (at_start l) (omega arith) (omega arith) line).1

one_unjudged : (a b : Bool) → number_in (unjudged_value a) ≡ number_in (unjudged_value b) → a ≡ b
one_unjudged true true same = refl
one_unjudged true false same = clash 0 18 (omega arith) (sym same)
one_unjudged false true same = clash 0 18 (omega arith) same
one_unjudged false false same = refl

-- ---- kinds

abbrev by_word : List ℕ → List ℕ → ℕ
by_word word each =
    if bytes_eq word (codes "held-beyond") then 1 else (if bytes_eq word (codes "group") then (if bytes_eq each (codes "conflict") then 4 else 2)
    else (if bytes_eq word (codes "conflict") then 3 else (if bytes_eq word (codes "no-session") then 5 else (if bytes_eq word (codes "no-entry") then 6
    else (if bytes_eq word (codes "unread") then 7 else (if bytes_eq word (codes "unknown-caps") || bytes_eq word (codes "depends-on-address") then 8 else (if bytes_eq word (codes "no-path") then 9
    else (if bytes_eq word (codes "summary") then 11 else (if bytes_eq word (codes "other-name") then 12 else (if bytes_eq word (codes "unlinked") then 13 else 10))))))))))

-- null where there is none
abbrev data_of : Option Data → Data
data_of value = or_null (λ (d : Data). d) value

kind_in : Data → ℕ
kind_in d = by_word (text_in (value_at (codes "kind") d)) (text_in (value_at (codes "kind") (value_at (codes "each") d)))

kind_is : (l : Line) → HasBytes l → kind_in (data_of (value_of l)) ≡ kind l
unfolding kind_in
kind_is (reported.held k p c n i x f u) fit = refl
kind_is (reported.unread c (unreadable.Own f)) fit = refl
kind_is (reported.unread c (unreadable.There r at)) fit = refl
kind_is (reported.unknown Spelling k p c n) fit = refl
kind_is (reported.unknown Address k p c n) fit = refl
kind_is (reported.otherwise p c n a r o) fit = absurd fit
kind_is (reported.otherwise_group c a r o) fit = absurd fit
kind_is l fit = refl

-- ---- two objects of one kind

abbrev at_key : List ℕ → Option Data → Data
at_key key value = value_at key (data_of value)

abbrev number_at : List ℕ → Option Data → ℕ
number_at key value = number_in (at_key key value)

abbrev at_each : List ℕ → Option Data → Data
at_each key value = value_at key (at_key (codes "each") value)

one_held : (k l : ℕ) (p q : List (List ℕ)) (c d : List ℕ) (m n : ℕ) (i j x y : Caps) (f g : Finding) (a b : Bool) → HasBytes (reported.held k p c m i x f a) → HasBytes (reported.held l q d n j y g b)
    → value_of (reported.held k p c m i x f a) ≡ value_of (reported.held l q d n j y g b) → TellTheSame (reported.held k p c m i x f a) (reported.held l q d n j y g b) × TellMore (reported.held k p c m i x f a) (reported.held l q d n j y g b)
one_held k l p q c d m n i j x y f g a b fit fits same = (
  (
    one_spelling (path_text p) (path_text q) fit.0 fits.0 (ap (at_key (codes "path")) same),
    one_spelling c d fit.1 fits.1 (ap (at_key (codes "client")) same),
    ap (number_at (codes "session")) same,
    one_set i j (ap (at_key (codes "holds")) same),
    one_set f.caps g.caps (ap (at_key (codes "may_not")) same),
    one_set_or_none (minus f.caps x) (minus g.caps y) (ap (at_key (codes "being_revoked")) same),
    one_why_value f.missing g.missing f.denial g.denial (ap (at_key (codes "rules")) same),
    one_unjudged a b (ap (number_at (codes "unjudged_from")) same),
  ),
  (ap (number_at (codes "inode")) same, one_missing f.missing g.missing fit.2 fits.2 (ap (at_key (codes "missing")) same)),
)

one_group : (c d : List ℕ) (f g : Finding) (m n : ℕ) → IsBytes c → IsBytes d → value_of (reported.group c f m) ≡ value_of (reported.group d g n) → TellTheSame (reported.group c f m) (reported.group d g n)
one_group c d f g m n fit fits same = (
  one_why_value f.missing g.missing f.denial g.denial (ap (at_each (codes "rules")) same),
  one_spelling c d fit fits (ap (at_each (codes "client")) same),
  ap (number_at (codes "count")) same,
)

one_conflict : (m n : ℕ) (p q : Option (List (List ℕ))) (a b x y : Option (List ℕ)) (c d : Conflict) → HasBytes (reported.conflict m p a b c) → HasBytes (reported.conflict n q x y d)
    → value_of (reported.conflict m p a b c) ≡ value_of (reported.conflict n q x y d) → TellTheSame (reported.conflict m p a b c) (reported.conflict n q x y d) × (m ≡ n)
one_conflict m n p q a b x y c d fit fits same =
    let number : m ≡ n = ap (number_at (codes "inode")) same in
    let one_number : c.one.client ≡ d.one.client = ap (number_at (codes "session")) same in
    let other_number : c.other.client ≡ d.other.client = ap (number_at (codes "other_session")) same in
    let one_has : c.one.caps ≡ d.one.caps = one_set c.one.caps d.one.caps (ap (at_key (codes "caps")) same) in
    let other_has : c.other.caps ≡ d.other.caps = one_set c.other.caps d.other.caps (ap (at_key (codes "other_caps")) same) in
    let both : c ≡ d = λ i. record { one = record { client = one_number i; caps = one_has i }; other = record { client = other_number i; caps = other_has i } } in (
      (
        one_inode m n p q fit.0 fits.0 number (ap (at_key (codes "path")) same),
        one_name a x fit.1 fits.1 (ap (at_key (codes "client")) same),
        one_name b y fit.2 fits.2 (ap (at_key (codes "other_client")) same),
        both,
      ),
      number,
    )

one_conflict_group : (a b x y : Option (List ℕ)) (c d : Conflict) (m n : ℕ) → HasBytes (reported.conflict_group a b c m) → HasBytes (reported.conflict_group x y d n) → value_of (reported.conflict_group a b c m) ≡ value_of (reported.conflict_group x y d n)
    → TellTheSame (reported.conflict_group a b c m) (reported.conflict_group x y d n)
one_conflict_group a b x y c d m n fit fits same = (
  one_client c.one.client d.one.client a x fit.0 fits.0 (ap (at_each (codes "client")) same) (ap (at_each (codes "session")) same),
  one_set c.one.caps d.one.caps (ap (at_each (codes "caps")) same),
  one_set c.other.caps d.other.caps (ap (at_each (codes "other_caps")) same),
  one_client c.other.client d.other.client b y fit.1 fits.1 (ap (at_each (codes "other_client")) same) (ap (at_each (codes "other_session")) same),
  ap (number_at (codes "count")) same,
)

one_renamed : (m n : ℕ) (c d a b : List ℕ) → HasBytes (reported.renamed m c a) → HasBytes (reported.renamed n d b) → value_of (reported.renamed m c a) ≡ value_of (reported.renamed n d b)
    → TellTheSame (reported.renamed m c a) (reported.renamed n d b)
one_renamed m n c d a b fit fits same = (
  ap (number_at (codes "session")) same,
  one_spelling c d fit.0 fits.0 (ap (at_key (codes "client")) same),
  one_spelling a b fit.1 fits.1 (ap (at_key (codes "calls_itself")) same),
)

one_unlinked : (m n : ℕ) (p q : List (List ℕ)) → HasBytes (reported.unlinked m p) → HasBytes (reported.unlinked n q) → value_of (reported.unlinked m p) ≡ value_of (reported.unlinked n q)
    → TellTheSame (reported.unlinked m p) (reported.unlinked n q)
one_unlinked m n p q fit fits same = (ap (number_at (codes "inode")) same, one_spelling (path_text p) (path_text q) fit fits (ap (at_key (codes "path")) same))

-- none stands where a fault is told
abbrev mds_in : Option Data → List ℕ
mds_in value = text_in (at_key (codes "mds") value)

no_fault : {X : Type 0} (r : Release) → [] ≡ version_of r → X
no_fault Pacific same = clash 0 49 (omega arith) (ap first_byte same)
no_fault Reef same = clash 0 49 (omega arith) (ap first_byte same)
no_fault Tentacle same = clash 0 50 (omega arith) (ap first_byte same)

one_unread : (c d : List ℕ) (v w : Unreadable) → IsBytes c → IsBytes d → value_of (reported.unread c v) ≡ value_of (reported.unread d w) → TellTheSame (reported.unread c v) (reported.unread d w)
one_unread c d (unreadable.Own f) (unreadable.Own g) fit fits same =
    let kind : f.kind ≡ g.kind = one_kind f.kind g.kind (ap (λ (v : Option Data). text_in (at_key (codes "fault") v)) same) in
    let place : f.at ≡ g.at = ap (number_at (codes "at")) same in
    (one_spelling c d fit fits (ap (at_key (codes "client")) same), λ i. unreadable.Own (record { kind = kind i; at = place i }))
one_unread c d (unreadable.Own f) (unreadable.There b n) fit fits same = no_fault b (ap mds_in same)
one_unread c d (unreadable.There a m) (unreadable.Own g) fit fits same = no_fault a (sym (ap mds_in same))
one_unread c d (unreadable.There a m) (unreadable.There b n) fit fits same =
    let release : a ≡ b = sym (has_version a) ∙ ap (λ (v : Option Data). asked_of (mds_in v)) same ∙ has_version b in
    let place : m ≡ n = ap (number_at (codes "at")) same in
    (one_spelling c d fit fits (ap (at_key (codes "client")) same), λ i. unreadable.There (release i) (place i))

one_not_known : (a b : Unknown) → unknown_word a ≡ unknown_word b → a ≡ b
one_not_known Spelling Spelling same = refl
one_not_known Spelling Address same = clash 100 117 (omega arith) (sym (ap first_byte same))
one_not_known Address Spelling same = clash 100 117 (omega arith) (ap first_byte same)
one_not_known Address Address same = refl

one_unknown : (a b : Unknown) (k l : ℕ) (p q : List (List ℕ)) (c d : List ℕ) (m n : ℕ) → HasBytes (reported.unknown a k p c m) → HasBytes (reported.unknown b l q d n) → value_of (reported.unknown a k p c m) ≡ value_of (reported.unknown b l q d n)
    → TellTheSame (reported.unknown a k p c m) (reported.unknown b l q d n) × (k ≡ l)
one_unknown a b k l p q c d m n fit fits same = (
  (
    one_not_known a b (ap (λ (v : Option Data). text_in (at_key (codes "kind") v)) same),
    one_spelling (path_text p) (path_text q) fit.0 fits.0 (ap (at_key (codes "path")) same),
    one_spelling c d fit.1 fits.1 (ap (at_key (codes "client")) same),
    ap (number_at (codes "session")) same,
  ),
  ap (number_at (codes "inode")) same,
)

one_pathless : (k l : ℕ) (c d : List ℕ) (m n : ℕ) (i j : List ℕ) → HasBytes (reported.pathless k c m i) → HasBytes (reported.pathless l d n j) → value_of (reported.pathless k c m i) ≡ value_of (reported.pathless l d n j)
    → TellTheSame (reported.pathless k c m i) (reported.pathless l d n j)
one_pathless k l c d m n i j fit fits same = (
  ap (number_at (codes "inode")) same,
  one_spelling c d fit.0 fits.0 (ap (at_key (codes "client")) same),
  ap (number_at (codes "session")) same,
  one_spelling i j fit.1 fits.1 (ap (at_key (codes "holds")) same),
)

one_summary : (m n : Counts) → value_of (reported.summary m) ≡ value_of (reported.summary n) → m ≡ n
one_summary m n same =
    let inodes : m.inodes ≡ n.inodes = ap (number_at (codes "inodes")) same in
    let entries : m.entries ≡ n.entries = ap (number_at (codes "entries")) same in
    let sessions : m.sessions ≡ n.sessions = ap (number_at (codes "sessions")) same in
    let beyond : m.held_beyond ≡ n.held_beyond = ap (number_at (codes "held_beyond")) same in
    let pairs : m.conflicts ≡ n.conflicts = ap (number_at (codes "conflicts")) same in
    let others : m.not_judged ≡ n.not_judged = ap (number_at (codes "not_judged")) same in
    λ i. record { inodes = inodes i; entries = entries i; sessions = sessions i; held_beyond = beyond i; conflicts = pairs i; not_judged = others i }

-- ---- two objects

of_kind : (a b : Line) → kind a ≡ kind b → HasBytes a → HasBytes b → value_of a ≡ value_of b → TellTheSame a b × TellMore a b
of_kind (reported.held k p c m i x f a) (reported.held l q d n j y g b) e fit fits same = one_held k l p q c d m n i j x y f g a b fit fits same
of_kind (reported.group c f m) (reported.group d g n) e fit fits same = (one_group c d f g m n fit fits same, tt)
of_kind (reported.conflict m p a b c) (reported.conflict n q x y d) e fit fits same = one_conflict m n p q a b x y c d fit fits same
of_kind (reported.conflict_group a b c m) (reported.conflict_group x y d n) e fit fits same = (one_conflict_group a b x y c d m n fit fits same, tt)
of_kind (reported.renamed m c a) (reported.renamed n d b) e fit fits same = (one_renamed m n c d a b fit fits same, tt)
of_kind (reported.unlinked m p) (reported.unlinked n q) e fit fits same = (one_unlinked m n p q fit fits same, tt)
of_kind (reported.unnamed m) (reported.unnamed n) e fit fits same = (ap (number_at (codes "session")) same, tt)
of_kind (reported.unlisted c) (reported.unlisted d) e fit fits same = (one_spelling c d fit fits (ap (at_key (codes "client")) same), tt)
of_kind (reported.unread c v) (reported.unread d w) e fit fits same = (one_unread c d v w fit fits same, tt)
of_kind (reported.unknown a k p c m) (reported.unknown b l q d n) e fit fits same = one_unknown a b k l p q c d m n fit fits same
of_kind (reported.pathless k c m i) (reported.pathless l d n j) e fit fits same = (one_pathless k l c d m n i j fit fits same, tt)
of_kind (reported.otherwise p c m a r o) (reported.otherwise q d n b k f) e fit fits same = absurd fit
of_kind (reported.otherwise_group c a r o) (reported.otherwise_group d b k f) e fit fits same = absurd fit
of_kind reported.nothing reported.nothing e fit fits same = (tt, tt)
of_kind (reported.summary m) (reported.summary n) e fit fits same = (one_summary m n same, tt)
of_kind a b e fit fits same = absurd (eqb-false (kind a) (kind b) refl e)

pub one_object : (a b : Line) → HasBytes a → HasBytes b → value_of a ≡ value_of b → TellTheSame a b × TellMore a b
one_object a b fit fits same = of_kind a b (sym (kind_is a fit) ∙ ap (λ (v : Option Data). kind_in (data_of v)) same ∙ kind_is b fits) fit fits same
