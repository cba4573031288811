-- The text of `who` tells one client after the other.
use Rattle.std.proofs.Common.{◌≡◌, ◌≢◌, ℕ, ◌<◌, ◌≤◌, ◌^◌, inl, inr, Bool, true, false, Option, Some, None, List, [], ◌∷◌, ◌++◌, drop, length, map, refl, sym}
use Rattle.std.proofs.Common.{ap, ◌∙◌, append_assoc, length-append, arith}
use Rattle.std.specs.Prelude.{bytes_eq, codes, All, IfSome, ◌==◌, if◌then◌else◌}
use Rattle.std.specs.Fmt.{decimal}
use Rattle.std.specs.List.{AllZip, flat_map}
use Rattle.std.proofs.lemmas.List.{append-nil, append_cancel_left}
use Rattle.std.proofs.lemmas.List.Concat.{flat_map-append}
use Rattle.std.proofs.lemmas.List.Elements.{All-append, All-cons, All-head, All-nil, All-tail}
use Rattle.capspec.specs.declared.fault.SpecFault.{SpecFault}
use Rattle.capspec.specs.declared.grant.Grant.{Grant}
use Rattle.capgrant.specs.declared.access.Attr.{Attr}
use Rattle.capgrant.specs.Access.{access_word}
use Rattle.ceph_input.specs.Auth.{Named}
use Rattle.policy_analysis.specs.declared.standing.Standing.{Standing}
use Rattle.policy_analysis.specs.declared.standing.Standing.TheVariants.{Allowed, Denied, Depends}
use Rattle.policy_analysis.specs.Callers.{Wanted}
use Rattle.policy_analysis.specs.Standing.{Answers, IsFirst}
use Rattle.release_rules.specs.declared.beside.Others.{Others}
use Rattle.texts.specs.Explaining.{failures_text, path_text}
use Rattle.texts.specs.Lines.{HasGrantIf, HasNumber}
use Rattle.texts.specs.Quoting.{quoted}
use Rattle.texts.specs.MdsTold.{AreCounted}
use Rattle.texts.specs.Standing.{fault_word, standing_line, standing_others, standing_reason, standing_word, unread_line}
use Rattle.texts.proofs.Answered.{number_to, one_list_to, parted}
use Rattle.texts.proofs.Beside.{AreSmall, bare_text, in_list, line_text, lines_of, lines_small, one_line, same_lines}
use Rattle.texts.proofs.Beside.{Line as OfReleases}
use Rattle.texts.proofs.Clients.{has_word, kind_of}
use Rattle.texts.proofs.Quoted.{bare, before_word, clash, first_byte}
use Rattle.queries.proofs.FewClients.{are_counted}
use Rattle.queries.specs.declared.clients.Telling.{Telling}
use Rattle.queries.specs.declared.clients.Telling.TheVariants.{Line, More, Object}
use Rattle.queries.specs.Clients.{AreLines, Says, meant, nothing, others_in, standing_in, unread_in}
use Rattle.queries.specs.Clients.AreLines.{another, client, no_more}
use Rattle.queries.specs.ClientsReported.{HasLength, HasNumbers, Reported, SameReported, reported_lines}
use Rattle.queries.specs.ClientsReported.Reported.{judged, unread}

-- ---- single lines

data Single : Type 0 where
  answer : List ℕ → Wanted → Standing → Single
  refusal : List ℕ → SpecFault → Single
  elsewhere : List ℕ → OfReleases → Single

abbrev single_line : Single → List ℕ
single_line (answer name w standing) = standing_line name w.access w.path standing
single_line (refusal name fault) = unread_line name fault
single_line (elsewhere name other) = line_text (quoted name ++ codes ": ") other

abbrev HasLine : Single → Type 0
HasLine (answer name w standing) = HasNumber w.access × HasGrantIf standing
HasLine (refusal name fault) = fault.at < 2 ^ 64
HasLine (elsewhere name other) = other.1.grant < 2 ^ 64

abbrev SameSingle : Single → Single → Type 0
SameSingle (answer c w s) (answer d u t) = (c ≡ d) × (w.access ≡ u.access) × (path_text w.path ≡ path_text u.path) × (s ≡ t)
SameSingle (refusal c f) (refusal d g) = (c ≡ d) × (f ≡ g)
SameSingle (elsewhere c x) (elsewhere d y) = (c ≡ d) × (x ≡ y)
SameSingle x y = ⊥

-- ---- how they begin

abbrev client_of : Single → List ℕ
client_of (answer name w standing) = name
client_of (refusal name fault) = name
client_of (elsewhere name other) = name

abbrev word_of : Standing → List ℕ
word_of (Allowed grant) = codes "allowed "
word_of (Depends grant) = codes "depends on owner, group and mode: "
word_of (Denied rules) = codes "denied "

abbrev reason_of : Standing → List ℕ → List ℕ
reason_of (Allowed grant) s = codes "grant " ++ (decimal grant ++ 10 ∷ s)
reason_of (Depends grant) s = codes "grant " ++ (decimal grant ++ 10 ∷ s)
reason_of (Denied rules) s = failures_text rules ++ 10 ∷ s

abbrev answered : Wanted → Standing → List ℕ → List ℕ
answered w standing s = word_of standing ++ (access_word w.access ++ 32 ∷ (quoted (path_text w.path) ++ 32 ∷ reason_of standing s))

abbrev faulty : SpecFault → List ℕ → List ℕ
faulty fault s = codes "grants: " ++ (fault_word fault.kind ++ 32 ∷ (codes "at " ++ (decimal fault.at ++ 10 ∷ s)))

-- behind the client
abbrev said : Single → List ℕ → List ℕ
said (answer name w standing) s = answered w standing s
said (refusal name fault) s = faulty fault s
said (elsewhere name other) s = bare_text other ++ s

worded : (standing : Standing) (s : List ℕ) → standing_word standing ++ s ≡ 58 ∷ 32 ∷ (word_of standing ++ s)
worded (Allowed grant) s = refl
worded (Depends grant) s = refl
worded (Denied rules) s = refl

ended : (standing : Standing) (s : List ℕ) → (standing_reason standing ++ codes "\n") ++ s ≡ 32 ∷ reason_of standing s
ended (Allowed grant) s = ap (λ (r : List ℕ). codes " grant " ++ r) (append_assoc (decimal grant) (codes "\n") s)
ended (Depends grant) s = ap (λ (r : List ℕ). codes " grant " ++ r) (append_assoc (decimal grant) (codes "\n") s)
ended (Denied rules) s = ap (λ (r : List ℕ). 32 ∷ r) (append_assoc (failures_text rules) (codes "\n") s)

in_line : (name front word path end s : List ℕ) → (name ++ (front ++ (word ++ 32 ∷ (path ++ end)))) ++ s ≡ name ++ (front ++ (word ++ 32 ∷ (path ++ (end ++ s))))
in_line name front word path end s = simp append_assoc

laid_out : (x : Single) (s : List ℕ) → single_line x ++ s ≡ quoted (client_of x) ++ (codes ":" ++ 32 ∷ said x s)
laid_out (answer name w standing) s =
    let word : List ℕ = access_word w.access in
    let path : List ℕ = quoted (path_text w.path) in
    in_line (quoted name) (standing_word standing) word path (standing_reason standing ++ codes "\n") s
    ∙ ap (λ (r : List ℕ). quoted name ++ (standing_word standing ++ (word ++ 32 ∷ (path ++ r)))) (ended standing s)
    ∙ ap (λ (r : List ℕ). quoted name ++ r) (worded standing (word ++ 32 ∷ (path ++ 32 ∷ reason_of standing s)))
laid_out (refusal name fault) s =
    let end : List ℕ = decimal fault.at ++ codes "\n" in
    append_assoc (quoted name) (codes ": grants: " ++ (fault_word fault.kind ++ (codes " at " ++ end))) s
    ∙ ap (λ (r : List ℕ). quoted name ++ (codes ": grants: " ++ r)) (append_assoc (fault_word fault.kind) (codes " at " ++ end) s ∙ ap (λ (r : List ℕ). fault_word fault.kind ++ (codes " at " ++ r)) (append_assoc (decimal fault.at) (codes "\n") s))
laid_out (elsewhere name other) s =
    append_assoc (quoted name ++ codes ": ") (bare_text other) s ∙ append_assoc (quoted name) (codes ": ") (bare_text other ++ s)

-- ---- the kinds of lines

abbrev kind : Single → ℕ
kind (answer name w standing) = 0
kind (refusal name fault) = 1
kind (elsewhere name other) = 2

abbrev kind_at : List ℕ → ℕ
kind_at text = if first_byte text == 103 then 1 else (if first_byte text == 116 then 2 else 0)

has_kind : (x : Single) (s : List ℕ) → kind_at (said x s) ≡ kind x
has_kind (answer name w (Allowed grant)) s = refl
has_kind (answer name w (Depends grant)) s = refl
has_kind (answer name w (Denied rules)) s = refl
has_kind (refusal name fault) s = refl
has_kind (elsewhere name other) s = refl

one_kind : (x y : Single) (s t : List ℕ) → said x s ≡ said y t → kind x ≡ kind y
one_kind x y s t same = sym (has_kind x s) ∙ ap kind_at same ∙ has_kind y t

-- ---- one thing for a line

abbrev third : List ℕ → ℕ
third text = first_byte (drop 2 text)

abbrev AnswerAlike : Wanted → Wanted → Standing → Standing → Type 0
AnswerAlike w u x y = (w.access ≡ u.access) × (path_text w.path ≡ path_text u.path) × (x ≡ y)

one_grant : (g h : ℕ) (s t : List ℕ) → g < 2 ^ 32 → h < 2 ^ 32 → codes "grant " ++ (decimal g ++ 10 ∷ s) ≡ codes "grant " ++ (decimal h ++ 10 ∷ t) → (g ≡ h) × (s ≡ t)
one_grant g h s t small also same = number_to 10 g h s t refl (omega arith) (omega arith) (append_cancel_left (codes "grant ") _ _ same)

one_answer : (w u : Wanted) (x y : Standing) (s t : List ℕ) → HasNumber w.access → HasNumber u.access → HasGrantIf x → HasGrantIf y → answered w x s ≡ answered u y t → AnswerAlike w u x y × (s ≡ t)
one_answer w u (Allowed g) (Allowed h) s t fits also small too same =
    let all = parted w.access u.access (path_text w.path) (path_text u.path) (reason_of (Allowed g) s) (reason_of (Allowed h) t) fits also (append_cancel_left (codes "allowed ") _ _ same) in
    let number = one_grant g h s t small too all.2 in
    ((all.0, all.1, ap Allowed number.0), number.1)
one_answer w u (Allowed g) (Depends h) s t fits also small too same = clash 97 100 (omega arith) (ap first_byte same)
one_answer w u (Allowed g) (Denied qs) s t fits also small too same = clash 97 100 (omega arith) (ap first_byte same)
one_answer w u (Depends g) (Allowed h) s t fits also small too same = clash 97 100 (omega arith) (sym (ap first_byte same))
one_answer w u (Depends g) (Depends h) s t fits also small too same =
    let all = parted w.access u.access (path_text w.path) (path_text u.path) (reason_of (Depends g) s) (reason_of (Depends h) t) fits also (append_cancel_left (word_of (Depends g)) _ _ same) in
    let number = one_grant g h s t small too all.2 in
    ((all.0, all.1, ap Depends number.0), number.1)
one_answer w u (Depends g) (Denied qs) s t fits also small too same = clash 110 112 (omega arith) (sym (ap third same))
one_answer w u (Denied rs) (Allowed h) s t fits also small too same = clash 97 100 (omega arith) (sym (ap first_byte same))
one_answer w u (Denied rs) (Depends h) s t fits also small too same = clash 110 112 (omega arith) (ap third same)
one_answer w u (Denied rs) (Denied qs) s t fits also small too same =
    let all = parted w.access u.access (path_text w.path) (path_text u.path) (reason_of (Denied rs) s) (reason_of (Denied qs) t) fits also (append_cancel_left (codes "denied ") _ _ same) in
    let rules = one_list_to rs qs s t all.2 in
    ((all.0, all.1, ap Denied rules.0), rules.1)

one_fault : (f g : SpecFault) (s t : List ℕ) → f.at < 2 ^ 64 → g.at < 2 ^ 64 → faulty f s ≡ faulty g t → (f ≡ g) × (s ≡ t)
one_fault f g s t small also same =
    let words = bare (fault_word f.kind) (fault_word g.kind) (codes "at " ++ (decimal f.at ++ 10 ∷ s)) (codes "at " ++ (decimal g.at ++ 10 ∷ t)) (has_word f.kind).1 (has_word g.kind).1 (append_cancel_left (codes "grants: ") _ _ same) in
    let number = number_to 10 f.at g.at s t refl small also (append_cancel_left (codes "at ") _ _ words.1) in
    let kind : f.kind ≡ g.kind = sym (has_word f.kind).0 ∙ ap kind_of words.0 ∙ (has_word g.kind).0 in
    let place : f.at ≡ g.at = number.0 in
    (λ i. record { kind = kind i; at = place i }, number.1)

one_said : (x y : Single) (s t : List ℕ) → HasLine x → HasLine y → client_of x ≡ client_of y → said x s ≡ said y t → SameSingle x y × (s ≡ t)
one_said (answer c w a) (answer d u b) s t fits also name same = let both = one_answer w u a b s t fits.0 also.0 fits.1 also.1 same in ((name, both.0.0, both.0.1, both.0.2), both.1)
one_said (refusal c f) (refusal d g) s t fits also name same = let both = one_fault f g s t fits also same in ((name, both.0), both.1)
one_said (elsewhere c x) (elsewhere d y) s t fits also name same = let both = one_line x y s t fits also same in ((name, both.0), both.1)
one_said (answer c w a) (refusal d g) s t fits also name same = clash 0 1 (omega arith) (one_kind (answer c w a) (refusal d g) s t same)
one_said (answer c w a) (elsewhere d y) s t fits also name same = clash 0 2 (omega arith) (one_kind (answer c w a) (elsewhere d y) s t same)
one_said (refusal c f) (answer d u b) s t fits also name same = clash 0 1 (omega arith) (sym (one_kind (refusal c f) (answer d u b) s t same))
one_said (refusal c f) (elsewhere d y) s t fits also name same = clash 1 2 (omega arith) (one_kind (refusal c f) (elsewhere d y) s t same)
one_said (elsewhere c x) (answer d u b) s t fits also name same = clash 0 2 (omega arith) (sym (one_kind (elsewhere c x) (answer d u b) s t same))
one_said (elsewhere c x) (refusal d f) s t fits also name same = clash 1 2 (omega arith) (sym (one_kind (elsewhere c x) (refusal d f) s t same))

one_thing : (x y : Single) (s t : List ℕ) → HasLine x → HasLine y → single_line x ++ s ≡ single_line y ++ t → SameSingle x y × (s ≡ t)
one_thing x y s t fits also same =
    let parts = before_word (codes ":") (client_of x) (client_of y) (said x s) (said y t) refl (sym (laid_out x s) ∙ same ∙ laid_out y t) in
    one_said x y s t fits also parts.0 parts.1

no_end : {A : Type 0} (xs : List ℕ) (b : ℕ) (s : List ℕ) → [] ≡ xs ++ b ∷ s → A
no_end [] b s same = absurd (omega (arith, ap (λ (r : List ℕ). length r) same))
no_end (x ∷ xs) b s same = absurd (omega (arith, ap (λ (r : List ℕ). length r) same))

no_line : {A : Type 0} (x : Single) (s : List ℕ) → [] ≡ single_line x ++ s → A
no_line x s same = no_end (quoted (client_of x)) 58 (32 ∷ said x s) (same ∙ laid_out x s)

one_by_one : (xs ys : List Single) → All HasLine xs → All HasLine ys → flat_map single_line xs ≡ flat_map single_line ys → AllZip SameSingle xs ys
one_by_one [] [] fits also same = tt
one_by_one [] (y ∷ ys) fits also same = no_line y (flat_map single_line ys) same
one_by_one (x ∷ xs) [] fits also same = no_line x (flat_map single_line xs) (sym same)
one_by_one (x ∷ xs) (y ∷ ys) fits also same =
    let both = one_thing x y (flat_map single_line xs) (flat_map single_line ys) (All-head HasLine x xs fits) (All-head HasLine y ys also) same in
    (both.0, one_by_one xs ys (All-tail HasLine x xs fits) (All-tail HasLine y ys also) both.1)

-- ---- the lines of a client

abbrev singles : Reported → List Single
singles (judged name w standing others) = answer name w standing ∷ map (elsewhere name) (lines_of others)
singles (unread name fault) = refusal name fault ∷ []

of_lines : (name : List ℕ) (lines : List OfReleases) → flat_map (line_text (quoted name ++ codes ": ")) lines ≡ flat_map single_line (map (elsewhere name) lines)
of_lines name [] = refl
of_lines name (l ∷ lines) = ap (λ (r : List ℕ). line_text (quoted name ++ codes ": ") l ++ r) (of_lines name lines)

of_one : (x : Reported) → reported_lines x ≡ flat_map single_line (singles x)
of_one (judged name w standing others) =
    ap (λ (r : List ℕ). standing_line name w.access w.path standing ++ r) (in_list (quoted name ++ codes ": ") others ∙ of_lines name (lines_of others))
of_one (unread name fault) = sym (append-nil (unread_line name fault))

of_all : (xs : List Reported) → flat_map reported_lines xs ≡ flat_map single_line (flat_map singles xs)
of_all [] = refl
of_all (x ∷ xs) =
    ap (λ (r : List ℕ). r ++ flat_map reported_lines xs) (of_one x) ∙ ap (λ (r : List ℕ). flat_map single_line (singles x) ++ r) (of_all xs) ∙ sym (flat_map-append single_line (singles x) (flat_map singles xs))

lines_fit : (name : List ℕ) (lines : List OfReleases) → AreSmall lines → All HasLine (map (elsewhere name) lines)
lines_fit name [] small = All-nil HasLine
lines_fit name (l ∷ lines) small = All-cons HasLine (elsewhere name l) (map (elsewhere name) lines) small.0 (lines_fit name lines small.1)

one_fits : (x : Reported) → HasNumbers x → All HasLine (singles x)
one_fits (judged name w standing others) fits =
    All-cons HasLine (answer name w standing) (map (elsewhere name) (lines_of others)) (fits.0, fits.1) (lines_fit name (lines_of others) (lines_small others fits.2))
one_fits (unread name fault) fits = All-cons HasLine (refusal name fault) [] fits (All-nil HasLine)

all_fit : (xs : List Reported) → All HasNumbers xs → All HasLine (flat_map singles xs)
all_fit [] fits = All-nil HasLine
all_fit (x ∷ xs) fits = All-append HasLine (singles x) (flat_map singles xs) (one_fits x (All-head HasNumbers x xs fits)) (all_fit xs (All-tail HasNumbers x xs fits))

-- no line of a client is one of the next
next_client : (c d : List ℕ) (ps qs : List OfReleases) (xs ys : List Reported) → AllZip SameSingle (map (elsewhere c) ps ++ flat_map singles xs) (map (elsewhere d) qs ++ flat_map singles ys)
    → (ps ≡ qs) × AllZip SameSingle (flat_map singles xs) (flat_map singles ys)
next_client c d [] [] xs ys same = (refl, same)
next_client c d [] (q ∷ qs) [] ys same = absurd same
next_client c d [] (q ∷ qs) (judged name w standing others ∷ xs) ys same = absurd same.0
next_client c d [] (q ∷ qs) (unread name fault ∷ xs) ys same = absurd same.0
next_client c d (p ∷ ps) [] xs [] same = absurd same
next_client c d (p ∷ ps) [] xs (judged name w standing others ∷ ys) same = absurd same.0
next_client c d (p ∷ ps) [] xs (unread name fault ∷ ys) same = absurd same.0
next_client c d (p ∷ ps) (q ∷ qs) xs ys same =
    let rest = next_client c d ps qs xs ys same.1 in
    let here : p ≡ q = same.0.1 in
    let more : ps ≡ qs = rest.0 in
    (cc, rest.1)

by_clients : (xs ys : List Reported) → All HasNumbers xs → All HasNumbers ys → AllZip SameSingle (flat_map singles xs) (flat_map singles ys) → AllZip SameReported xs ys
by_clients [] [] fits also same = tt
by_clients [] (judged d u t further ∷ ys) fits also same = absurd same
by_clients [] (unread d g ∷ ys) fits also same = absurd same
by_clients (judged c w s others ∷ xs) [] fits also same = absurd same
by_clients (unread c f ∷ xs) [] fits also same = absurd same
by_clients (judged c w s others ∷ xs) (judged d u t further ∷ ys) fits also same =
    let rest = next_client c d (lines_of others) (lines_of further) xs ys same.1 in
    let one = All-head HasNumbers (judged c w s others) xs fits in
    let other = All-head HasNumbers (judged d u t further) ys also in (
      (same.0.0, same.0.1, same.0.2, same.0.3, same_lines others further one.2 other.2 rest.0),
      by_clients xs ys (All-tail HasNumbers (judged c w s others) xs fits) (All-tail HasNumbers (judged d u t further) ys also) rest.1,
    )
by_clients (judged c w s others ∷ xs) (unread d g ∷ ys) fits also same = absurd same.0
by_clients (unread c f ∷ xs) (judged d u t further ∷ ys) fits also same = absurd same.0
by_clients (unread c f ∷ xs) (unread d g ∷ ys) fits also same =
    (same.0, by_clients xs ys (All-tail HasNumbers (unread c f) xs fits) (All-tail HasNumbers (unread d g) ys also) same.1)

pub one_text : (xs ys : List Reported) → All HasNumbers xs → All HasNumbers ys → flat_map reported_lines xs ≡ flat_map reported_lines ys → AllZip SameReported xs ys
one_text xs ys fits also same =
    by_clients xs ys fits also (one_by_one (flat_map singles xs) (flat_map singles ys) (all_fit xs fits) (all_fit ys also) (sym (of_all xs) ∙ same ∙ of_all ys))

-- ---- what is printed is such lines

abbrev AreReported : List ℕ → Type 0
AreReported text = (xs : List Reported) × All HasNumbers xs × (text ≡ flat_map reported_lines xs)

none : AreReported []
none = ([], All-nil HasNumbers, refl)

one : (x : Reported) (text : List ℕ) → HasNumbers x → text ≡ reported_lines x → AreReported text
one x text fits is = (x ∷ [], All-cons HasNumbers x [] fits (All-nil HasNumbers), is ∙ sym (append-nil (reported_lines x)))

both : (s t : List ℕ) → AreReported s → AreReported t → AreReported (s ++ t)
both s t p q = (
  p.0 ++ q.0,
  All-append HasNumbers p.0 q.0 p.1 q.1,
  ap (λ (r : List ℕ). r ++ t) p.2 ∙ ap (λ (r : List ℕ). flat_map reported_lines p.0 ++ r) q.2 ∙ sym (flat_map-append reported_lines p.0 q.0),
)

same_as : (s t : List ℕ) → s ≡ t → AreReported t → AreReported s
same_as s t is reported = (reported.0, reported.1, is ∙ reported.2)

module _ (name : List ℕ) where
  of_standing : (telling : Telling) (w : Wanted) (attr : Option Attr) (standing : Standing) (others : Others) → telling ≢ Object → HasNumber w.access → HasGrantIf standing → AreCounted others
      → AreReported (standing_in telling name w attr standing others)
  of_standing Line w attr standing others lines number grant counted =
      let line : List ℕ = standing_line name w.access w.path standing in
      one (judged name w standing nothing) line (number, grant, (tt, tt, tt)) (sym (append-nil line))
  of_standing More w attr standing others lines number grant counted =
      one (judged name w standing others) (standing_line name w.access w.path standing ++ standing_others name others) (number, grant, counted) refl
  of_standing Object w attr standing others lines number grant counted = absurd (lines refl)

  of_fault : (telling : Telling) (w : Wanted) (attr : Option Attr) (fault : SpecFault) → telling ≢ Object → fault.at < 2 ^ 64 → AreReported (unread_in telling name w attr fault)
  of_fault Line w attr fault lines small = one (unread name fault) (unread_line name fault) small refl
  of_fault More w attr fault lines small = one (unread name fault) (unread_line name fault) small refl
  of_fault Object w attr fault lines small = absurd (lines refl)

-- the text that is judged is no longer
ten : length (codes "allow rwps") ≡ 10
ten = refl

is_short : (text : List ℕ) → length text < 2 ^ 63 → length (meant text) < 2 ^ 64
is_short text short = by_case (bytes_eq text (codes "allow"))
  where
    by_case : (b : Bool) → length (if b then codes "allow rwps" else text) < 2 ^ 64
    by_case true = omega (arith, ten)
    by_case false = omega (arith, short)

first : (Does Not : Grant → Type 0) (grants : List Grant) (number : ℕ) → length grants ≤ 16 → IsFirst Does Not grants number → number < 2 ^ 32
first Does Not grants number few is = omega (arith, few, is.counted, ap (λ (gs : List Grant). length gs) is.order ∙ length-append is.before (is.grant ∷ is.after))

module _ (telling : Telling) (w : Wanted) (attr : Option Attr) (lines : telling ≢ Object) (number : HasNumber w.access) where
  small_standing : (known : Option Attr) (grants : List Grant) (standing : Standing) → length grants ≤ 16 → Answers w known grants standing → HasGrantIf standing
  small_standing (Some a) grants (Allowed grant) few is = first _ _ grants grant few is
  small_standing (Some a) grants (Depends grant) few is = absurd is
  small_standing (Some a) grants (Denied rules) few is = tt
  small_standing None grants (Allowed grant) few is = first _ _ grants grant few is
  small_standing None grants (Depends grant) few is = first _ _ grants grant few is.0
  small_standing None grants (Denied rules) few is = tt

  of_client : (name : List ℕ) (caps : Option (List ℕ)) (is_judged : Bool) (line : List ℕ) → IfSome caps (λ text. length text < 2 ^ 63) → Says telling w attr name caps is_judged line → AreReported line
  of_client name None is_judged line short says = same_as line (standing_in telling name w attr (Denied []) nothing) says.1 (of_standing name telling w attr (Denied []) nothing lines number tt (tt, tt, tt))
  of_client name (Some text) is_judged line short (inl (true_is, is)) =
      let others : Others = others_in telling w attr text is.standing in
      let small : HasGrantIf is.standing = small_standing attr is.grants is.standing is.means.few is.answers in
      same_as line (standing_in telling name w attr is.standing others) is.line_is
      (of_standing name telling w attr is.standing others lines number small (are_counted telling w attr text is.standing short small))
  of_client name (Some text) is_judged line short (inr (false_is, is)) =
      same_as line (unread_in telling name w attr is.fault) is.line_is (of_fault name telling w attr is.fault lines (let small = is_short text short in omega (arith, small, ap (λ (f : SpecFault). f.at) is.first.2)))

  of_clients : (es : List Named) (is_judged : Bool) (text : List ℕ) → All HasLength es → AreLines (Says telling w attr) es is_judged text → AreReported text
  of_clients es is_judged text short no_more = none
  of_clients (e ∷ es) all text short (client is_judged others line rest is says more) =
      both line rest (of_client e.name e.caps is_judged line (All-head HasLength e es short) says) (of_clients es others rest (All-tail HasLength e es short) more)
  of_clients (e ∷ es) is_judged text short (another is more) = of_clients es is_judged text (All-tail HasLength e es short) more

pub each_has_its_lines : (telling : Telling) (w : Wanted) (attr : Option Attr) (es : List Named) (is_judged : Bool) (text : List ℕ) → telling ≢ Object → HasNumber w.access → All HasLength es → AreLines (Says telling w attr) es is_judged text
    → (xs : List Reported) × All HasNumbers xs × (text ≡ flat_map reported_lines xs)
each_has_its_lines telling w attr es is_judged text lines number short are = of_clients telling w attr lines number es is_judged text short are
