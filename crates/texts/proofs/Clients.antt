-- A line of a client is that of one client, and tells one thing.
use Rattle.std.proofs.Common.{◌≡◌, ℕ, ◌<◌, ◌^◌, true, List, ◌∷◌, ◌++◌, refl, sym, ap, ◌∙◌, arith}
use Rattle.std.specs.Prelude.{bytes_eq, codes, if◌then◌else◌}
use Rattle.std.specs.Fmt.{decimal}
use Rattle.std.specs.List.{list_all}
use Rattle.std.proofs.lemmas.Fmt.{decimal_injective}
use Rattle.std.proofs.lemmas.List.{append_cancel_left, append_cancel_right}
use Rattle.capspec.specs.declared.fault.SpecFault.{SpecFault}
use Rattle.capspec.specs.declared.fault.SpecFaultKind.{SpecFaultKind}
use Rattle.capspec.specs.declared.fault.SpecFaultKind.TheVariants.{BadFlags, BadItem, BadNumber, BadPath, Empty, GidsWithoutUid, LeftOut, NoMemory, NotAllow}
use Rattle.capspec.specs.declared.fault.SpecFaultKind.TheVariants.{OpenQuote, TooMany, Twice}
use Rattle.capgrant.specs.declared.access.Access.{Access}
use Rattle.capgrant.specs.Access.{access_word}
use Rattle.policy_analysis.specs.declared.standing.Standing.{Standing}
use Rattle.policy_analysis.specs.declared.standing.Standing.TheVariants.{Allowed, Denied, Depends}
use Rattle.texts.specs.Explaining.{failures_text, path_text}
use Rattle.texts.specs.Lines.{HasGrantIf, HasNumber}
use Rattle.texts.specs.Quoting.{is_plain, quoted}
use Rattle.texts.specs.Standing.{fault_word, standing_line, unread_line}
use Rattle.texts.proofs.Answered.{one_list, parted}
use Rattle.texts.proofs.Quoted.{bare, before_word, clash, first_byte}

-- ---- what stands behind the client

abbrev word_of : Standing → List ℕ
word_of (Allowed grant) = codes "allowed "
word_of (Depends grant) = codes "depends on owner, group and mode: "
word_of (Denied rules) = codes "denied "

abbrev reason_of : Standing → List ℕ
reason_of (Allowed grant) = codes "grant " ++ decimal grant
reason_of (Depends grant) = codes "grant " ++ decimal grant
reason_of (Denied rules) = failures_text rules

abbrev said_of : Access → List ℕ → Standing → List ℕ
said_of a p s = word_of s ++ (access_word a ++ 32 ∷ (quoted p ++ 32 ∷ (reason_of s ++ codes "\n")))

in_front : (c : List ℕ) (a : Access) (p : List (List ℕ)) (s : Standing) → standing_line c a p s ≡ quoted c ++ (codes ":" ++ 32 ∷ said_of a (path_text p) s)
in_front c a p (Allowed grant) = refl
in_front c a p (Depends grant) = refl
in_front c a p (Denied rules) = refl

abbrev fault_of : SpecFault → List ℕ
fault_of f = codes "grants: " ++ (fault_word f.kind ++ 32 ∷ (codes "at " ++ (decimal f.at ++ codes "\n")))

of_fault : (c : List ℕ) (f : SpecFault) → unread_line c f ≡ quoted c ++ (codes ":" ++ 32 ∷ fault_of f)
of_fault c f = refl

-- ---- standings

abbrev third : List ℕ → ℕ
third (x ∷ y ∷ z ∷ more) = z
third bytes = 0

one_number : (m n : ℕ) → m < 2 ^ 32 → n < 2 ^ 32 → (codes "grant " ++ decimal m) ++ codes "\n" ≡ (codes "grant " ++ decimal n) ++ codes "\n" → m ≡ n
one_number m n small also same =
    decimal_injective m n (omega arith) (omega arith) (append_cancel_left (codes "grant ") (decimal m) (decimal n) (append_cancel_right (codes "grant " ++ decimal m) (codes "grant " ++ decimal n) (codes "\n") same))

one_said : (a b : Access) (p q : List ℕ) (s t : Standing) → HasNumber a → HasNumber b → HasGrantIf s → HasGrantIf t → said_of a p s ≡ said_of b q t → (a ≡ b) × (p ≡ q) × (s ≡ t)
one_said a b p q (Allowed g) (Allowed h) fits also small too same =
    let all = parted a b p q (reason_of (Allowed g) ++ codes "\n") (reason_of (Allowed h) ++ codes "\n") fits also (append_cancel_left (codes "allowed ") _ _ same) in
    (all.0, all.1, ap Allowed (one_number g h (omega arith) (omega arith) all.2))
one_said a b p q (Allowed g) (Depends h) fits also small too same = clash 97 100 (omega arith) (ap first_byte same)
one_said a b p q (Allowed g) (Denied qs) fits also small too same = clash 97 100 (omega arith) (ap first_byte same)
one_said a b p q (Depends g) (Allowed h) fits also small too same = clash 97 100 (omega arith) (sym (ap first_byte same))
one_said a b p q (Depends g) (Depends h) fits also small too same =
    let all = parted a b p q (reason_of (Depends g) ++ codes "\n") (reason_of (Depends h) ++ codes "\n") fits also (append_cancel_left (codes "depends on owner, group and mode: ") _ _ same) in
    (all.0, all.1, ap Depends (one_number g h (omega arith) (omega arith) all.2))
one_said a b p q (Depends g) (Denied qs) fits also small too same = clash 110 112 (omega arith) (sym (ap third same))
one_said a b p q (Denied rs) (Allowed h) fits also small too same = clash 97 100 (omega arith) (sym (ap first_byte same))
one_said a b p q (Denied rs) (Depends h) fits also small too same = clash 110 112 (omega arith) (ap third same)
one_said a b p q (Denied rs) (Denied qs) fits also small too same =
    let all = parted a b p q (failures_text rs ++ codes "\n") (failures_text qs ++ codes "\n") fits also (append_cancel_left (codes "denied ") _ _ same) in
    (all.0, all.1, ap Denied (one_list rs qs (append_cancel_right (failures_text rs) (failures_text qs) (codes "\n") all.2)))

pub one_standing : (c d : List ℕ) (a b : Access) (p q : List (List ℕ)) (s t : Standing) → HasNumber a → HasNumber b → HasGrantIf s → HasGrantIf t → standing_line c a p s ≡ standing_line d b q t
    → (c ≡ d) × (a ≡ b) × (path_text p ≡ path_text q) × (s ≡ t)
one_standing c d a b p q s t fits also small too same =
    let parts = before_word (codes ":") c d (said_of a (path_text p) s) (said_of b (path_text q) t) refl (sym (in_front c a p s) ∙ same ∙ in_front d b q t) in
    let said = one_said a b (path_text p) (path_text q) s t fits also small too parts.1 in
    (parts.0, said.0, said.1, said.2)

-- ---- faults

abbrev pub kind_of : List ℕ → SpecFaultKind
kind_of word =
    if bytes_eq word (codes "Empty") then Empty else (if bytes_eq word (codes "NotAllow") then NotAllow else (if bytes_eq word (codes "BadFlags") then BadFlags
    else (if bytes_eq word (codes "BadItem") then BadItem else (if bytes_eq word (codes "Twice") then Twice else (if bytes_eq word (codes "BadNumber") then BadNumber
    else (if bytes_eq word (codes "OpenQuote") then OpenQuote else (if bytes_eq word (codes "GidsWithoutUid") then GidsWithoutUid
    else (if bytes_eq word (codes "LeftOut") then LeftOut else (if bytes_eq word (codes "TooMany") then TooMany else (if bytes_eq word (codes "BadPath") then BadPath else NoMemory))))))))))

pub has_word : (k : SpecFaultKind) → (kind_of (fault_word k) ≡ k) × (list_all is_plain (fault_word k) ≡ true)
has_word Empty = (refl, refl)
has_word NotAllow = (refl, refl)
has_word BadFlags = (refl, refl)
has_word BadItem = (refl, refl)
has_word Twice = (refl, refl)
has_word BadNumber = (refl, refl)
has_word OpenQuote = (refl, refl)
has_word GidsWithoutUid = (refl, refl)
has_word LeftOut = (refl, refl)
has_word TooMany = (refl, refl)
has_word BadPath = (refl, refl)
has_word NoMemory = (refl, refl)

pub one_fault : (c d : List ℕ) (f g : SpecFault) → f.at < 2 ^ 64 → g.at < 2 ^ 64 → unread_line c f ≡ unread_line d g → (c ≡ d) × (f ≡ g)
one_fault c d f g small also same =
    let parts = before_word (codes ":") c d (fault_of f) (fault_of g) refl same in
    let words = bare (fault_word f.kind) (fault_word g.kind) (codes "at " ++ (decimal f.at ++ codes "\n")) (codes "at " ++ (decimal g.at ++ codes "\n")) (has_word f.kind).1 (has_word g.kind).1
    (append_cancel_left (codes "grants: ") _ _ parts.1) in
    let kind : f.kind ≡ g.kind = sym (has_word f.kind).0 ∙ ap kind_of words.0 ∙ (has_word g.kind).0 in
    let place : f.at ≡ g.at = decimal_injective f.at g.at small also (append_cancel_right (decimal f.at) (decimal g.at) (codes "\n") (append_cancel_left (codes "at ") _ _ words.1)) in
    (parts.0, λ i. record { kind = kind i; at = place i })

-- ---- neither is taken for the other

apart : (a : Access) (p : List ℕ) (s : Standing) (f : SpecFault) → said_of a p s ≡ fault_of f → ⊥
apart a p (Allowed g) f same = clash 97 103 (omega arith) (ap first_byte same)
apart a p (Depends g) f same = clash 100 103 (omega arith) (ap first_byte same)
apart a p (Denied rs) f same = clash 100 103 (omega arith) (ap first_byte same)

pub no_fault : (c d : List ℕ) (a : Access) (p : List (List ℕ)) (s : Standing) (f : SpecFault) → standing_line c a p s ≡ unread_line d f → ⊥
no_fault c d a p s f same = apart a (path_text p) s f (before_word (codes ":") c d (said_of a (path_text p) s) (fault_of f) refl (sym (in_front c a p s) ∙ same)).1
