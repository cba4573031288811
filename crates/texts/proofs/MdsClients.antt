-- The lines of a client by a release are those of one client, and tell one thing.
use Rattle.std.proofs.Common.{◌≡◌, ℕ, Bool, true, false, Option, None, Some, List, [], ◌∷◌, ◌++◌, drop, length, length-append, append_assoc, refl, sym, ap, ◌∙◌, arith}
use Rattle.std.specs.Prelude.{codes, ◌==◌, if◌then◌else◌}
use Rattle.std.specs.Fmt.{decimal}
use Rattle.std.proofs.lemmas.List.{append_cancel_left}
use Rattle.capgrant.specs.declared.access.Access.{Access}
use Rattle.capgrant.specs.Access.{access_word}
use Rattle.policy_analysis.specs.declared.mds_standing.MdsStanding.{MdsStanding}
use Rattle.release_rules.specs.declared.verdict.Verdict.{Verdict}
use Rattle.release_rules.specs.declared.verdict.Verdict.TheVariants.{Allowed, CannotMount, Denied, DependsOnAddress}
use Rattle.texts.specs.Explaining.{path_text}
use Rattle.texts.specs.Lines.{HasNumber}
use Rattle.texts.specs.Mds.{mds_failures, mds_reason, refused_line}
use Rattle.texts.specs.MdsStandings.{DecidesIf, IsStanding, mds_client_text, mds_front, refused_client}
use Rattle.texts.specs.MdsTold.{HasMdsGrant, HasRefusal}
use Rattle.texts.specs.Quoting.{quoted}
use Rattle.texts.proofs.Answered.{number_to, parted}
use Rattle.texts.proofs.MdsAnswered.{no_mount, one_list, one_refusal}
use Rattle.texts.proofs.Quoted.{before_word, clash, first_byte}

-- ---- what stands behind the client

abbrev word_of : Verdict → Bool → List ℕ
word_of (Allowed grant) false = codes "allowed "
word_of (Allowed grant) true = codes "depends on owner, group and mode: "
word_of (DependsOnAddress grant) false = codes "depends on the address: "
word_of (DependsOnAddress grant) true = codes "depends on owner, group, mode and the address: "
word_of CannotMount by_inode = codes "denied "
word_of (Denied rules) by_inode = codes "denied "

abbrev reason_of : Verdict → List ℕ
reason_of (Allowed grant) = codes "grant " ++ decimal grant
reason_of (DependsOnAddress grant) = codes "grant " ++ decimal grant
reason_of CannotMount = codes "no grant lets the client mount"
reason_of (Denied rules) = mds_failures rules

has_front : (v : Verdict) (by_inode : Bool) (s : List ℕ) → mds_front v by_inode ++ s ≡ 58 ∷ 32 ∷ (word_of v by_inode ++ s)
has_front (Allowed grant) false s = refl
has_front (Allowed grant) true s = refl
has_front (DependsOnAddress grant) false s = refl
has_front (DependsOnAddress grant) true s = refl
has_front CannotMount by_inode s = refl
has_front (Denied rules) by_inode s = refl

has_reason : (v : Verdict) (s : List ℕ) → mds_reason v ++ s ≡ 32 ∷ (reason_of v ++ s)
has_reason (Allowed grant) s = refl
has_reason (DependsOnAddress grant) s = refl
has_reason CannotMount s = refl
has_reason (Denied rules) s = refl

-- which of the five words it is, by its bytes
abbrev kind_at : List ℕ → ℕ
kind_at text =
    if first_byte text == 97 then 0
    else (if first_byte (drop 2 text) == 110 then 4 else (if first_byte (drop 11 text) == 116 then 2 else (if first_byte (drop 23 text) == 32 then 1 else 3)))

abbrev kind_of : Verdict → Bool → ℕ
kind_of (Allowed grant) false = 0
kind_of (Allowed grant) true = 1
kind_of (DependsOnAddress grant) false = 2
kind_of (DependsOnAddress grant) true = 3
kind_of CannotMount by_inode = 4
kind_of (Denied rules) by_inode = 4

has_kind : (v : Verdict) (by_inode : Bool) (s : List ℕ) → kind_at (word_of v by_inode ++ s) ≡ kind_of v by_inode
has_kind (Allowed grant) false s = refl
has_kind (Allowed grant) true s = refl
has_kind (DependsOnAddress grant) false s = refl
has_kind (DependsOnAddress grant) true s = refl
has_kind CannotMount by_inode s = refl
has_kind (Denied rules) by_inode s = refl

-- words of one kind are the same
abbrev word_at : ℕ → List ℕ
word_at n =
    if n == 0 then codes "allowed "
    else (if n == 1 then codes "depends on owner, group and mode: "
    else (if n == 2 then codes "depends on the address: " else (if n == 3 then codes "depends on owner, group, mode and the address: " else codes "denied ")))

has_word : (v : Verdict) (by_inode : Bool) → word_of v by_inode ≡ word_at (kind_of v by_inode)
has_word (Allowed grant) false = refl
has_word (Allowed grant) true = refl
has_word (DependsOnAddress grant) false = refl
has_word (DependsOnAddress grant) true = refl
has_word CannotMount by_inode = refl
has_word (Denied rules) by_inode = refl

in_parts : (c : List ℕ) (a : Access) (p : List (List ℕ)) (s : MdsStanding) → mds_client_text c a p s
    ≡ quoted c ++ (codes ":" ++ 32 ∷ (word_of s.verdict s.by_inode ++ (access_word a ++ 32 ∷ (quoted (path_text p) ++ 32 ∷ (reason_of s.verdict ++ 10 ∷ refused_client c s.refused)))))
in_parts c a p s =
    let path : List ℕ = quoted (path_text p) in
    let front : List ℕ = mds_front s.verdict s.by_inode in
    let reason : List ℕ = mds_reason s.verdict in
    let end : List ℕ = refused_client c s.refused in
    append_assoc (quoted c) (front ++ (access_word a ++ (codes " " ++ (path ++ (reason ++ codes "\n"))))) end
    ∙ ap (λ (r : List ℕ). quoted c ++ r)
    (append_assoc front (access_word a ++ (codes " " ++ (path ++ (reason ++ codes "\n")))) end
    ∙ ap (λ (r : List ℕ). front ++ r)
    (append_assoc (access_word a) (codes " " ++ (path ++ (reason ++ codes "\n"))) end
    ∙ ap (λ (r : List ℕ). access_word a ++ 32 ∷ r)
    (append_assoc path (reason ++ codes "\n") end
    ∙ ap (λ (r : List ℕ). path ++ r) (append_assoc reason (codes "\n") end ∙ has_reason s.verdict (10 ∷ end))))
    ∙ has_front s.verdict s.by_inode (access_word a ++ 32 ∷ (path ++ 32 ∷ (reason_of s.verdict ++ 10 ∷ end))))

-- ---- the refusal

no_line : {A : Type 0} (c s : List ℕ) → [] ≡ quoted c ++ (58 ∷ s) → A
no_line c s same = absurd (omega (arith, ap length same ∙ length-append (quoted c) (58 ∷ s)))

one_refused : (c : List ℕ) (a b : Option ℕ) → HasRefusal a → HasRefusal b → refused_client c a ≡ refused_client c b → a ≡ b
one_refused c None None small also same = refl
one_refused c None (Some h) small also same = no_line c (codes " " ++ refused_line (Some h)) same
one_refused c (Some g) None small also same = no_line c (codes " " ++ refused_line (Some g)) (sym same)
one_refused c (Some g) (Some h) small also same =
    one_refusal (Some g) (Some h) small also (append_cancel_left (codes ": ") (refused_line (Some g)) (refused_line (Some h)) (append_cancel_left (quoted c) (codes ": " ++ refused_line (Some g)) (codes ": " ++ refused_line (Some h)) same))

-- ---- the verdict

module _ (s t : List ℕ) where
  by_kind : (v : Verdict) (by_inode : Bool) (w : Verdict) (also_inode : Bool) → HasMdsGrant v → HasMdsGrant w → DecidesIf v by_inode → DecidesIf w also_inode → kind_of v by_inode ≡ kind_of w also_inode
      → reason_of v ++ 10 ∷ s ≡ reason_of w ++ 10 ∷ t → (v ≡ w) × (by_inode ≡ also_inode) × (s ≡ t)
  by_kind CannotMount by_inode CannotMount also_inode low high p q kind same = (refl, p ∙ sym q, append_cancel_left (codes "no grant lets the client mount\n") s t same)
  by_kind CannotMount by_inode (Allowed h) false low high p q kind same = clash 0 4 (omega arith) (sym kind)
  by_kind CannotMount by_inode (Allowed h) true low high p q kind same = clash 1 4 (omega arith) (sym kind)
  by_kind CannotMount by_inode (DependsOnAddress h) false low high p q kind same = clash 2 4 (omega arith) (sym kind)
  by_kind CannotMount by_inode (DependsOnAddress h) true low high p q kind same = clash 3 4 (omega arith) (sym kind)
  by_kind CannotMount by_inode (Denied qs) also_inode low high p q kind same = no_mount qs (10 ∷ s) (10 ∷ t) same
  by_kind (Allowed g) false CannotMount also_inode low high p q kind same = clash 0 4 (omega arith) kind
  by_kind (Allowed g) false (Allowed h) false low high p q kind same =
      let number = number_to 10 g h s t refl low high (append_cancel_left (codes "grant ") (decimal g ++ 10 ∷ s) (decimal h ++ 10 ∷ t) same) in
      (ap Allowed number.0, refl, number.1)
  by_kind (Allowed g) false (Allowed h) true low high p q kind same = clash 0 1 (omega arith) kind
  by_kind (Allowed g) false (DependsOnAddress h) false low high p q kind same = clash 0 2 (omega arith) kind
  by_kind (Allowed g) false (DependsOnAddress h) true low high p q kind same = clash 0 3 (omega arith) kind
  by_kind (Allowed g) false (Denied qs) also_inode low high p q kind same = clash 0 4 (omega arith) kind
  by_kind (Allowed g) true CannotMount also_inode low high p q kind same = clash 1 4 (omega arith) kind
  by_kind (Allowed g) true (Allowed h) false low high p q kind same = clash 0 1 (omega arith) (sym kind)
  by_kind (Allowed g) true (Allowed h) true low high p q kind same =
      let number = number_to 10 g h s t refl low high (append_cancel_left (codes "grant ") (decimal g ++ 10 ∷ s) (decimal h ++ 10 ∷ t) same) in
      (ap Allowed number.0, refl, number.1)
  by_kind (Allowed g) true (DependsOnAddress h) false low high p q kind same = clash 1 2 (omega arith) kind
  by_kind (Allowed g) true (DependsOnAddress h) true low high p q kind same = clash 1 3 (omega arith) kind
  by_kind (Allowed g) true (Denied qs) also_inode low high p q kind same = clash 1 4 (omega arith) kind
  by_kind (DependsOnAddress g) false CannotMount also_inode low high p q kind same = clash 2 4 (omega arith) kind
  by_kind (DependsOnAddress g) false (Allowed h) false low high p q kind same = clash 0 2 (omega arith) (sym kind)
  by_kind (DependsOnAddress g) false (Allowed h) true low high p q kind same = clash 1 2 (omega arith) (sym kind)
  by_kind (DependsOnAddress g) false (DependsOnAddress h) false low high p q kind same =
      let number = number_to 10 g h s t refl low high (append_cancel_left (codes "grant ") (decimal g ++ 10 ∷ s) (decimal h ++ 10 ∷ t) same) in
      (ap DependsOnAddress number.0, refl, number.1)
  by_kind (DependsOnAddress g) false (DependsOnAddress h) true low high p q kind same = clash 2 3 (omega arith) kind
  by_kind (DependsOnAddress g) false (Denied qs) also_inode low high p q kind same = clash 2 4 (omega arith) kind
  by_kind (DependsOnAddress g) true CannotMount also_inode low high p q kind same = clash 3 4 (omega arith) kind
  by_kind (DependsOnAddress g) true (Allowed h) false low high p q kind same = clash 0 3 (omega arith) (sym kind)
  by_kind (DependsOnAddress g) true (Allowed h) true low high p q kind same = clash 1 3 (omega arith) (sym kind)
  by_kind (DependsOnAddress g) true (DependsOnAddress h) false low high p q kind same = clash 2 3 (omega arith) (sym kind)
  by_kind (DependsOnAddress g) true (DependsOnAddress h) true low high p q kind same =
      let number = number_to 10 g h s t refl low high (append_cancel_left (codes "grant ") (decimal g ++ 10 ∷ s) (decimal h ++ 10 ∷ t) same) in
      (ap DependsOnAddress number.0, refl, number.1)
  by_kind (DependsOnAddress g) true (Denied qs) also_inode low high p q kind same = clash 3 4 (omega arith) kind
  by_kind (Denied rs) by_inode CannotMount also_inode low high p q kind same = no_mount rs (10 ∷ t) (10 ∷ s) (sym same)
  by_kind (Denied rs) by_inode (Allowed h) false low high p q kind same = clash 0 4 (omega arith) (sym kind)
  by_kind (Denied rs) by_inode (Allowed h) true low high p q kind same = clash 1 4 (omega arith) (sym kind)
  by_kind (Denied rs) by_inode (DependsOnAddress h) false low high p q kind same = clash 2 4 (omega arith) (sym kind)
  by_kind (Denied rs) by_inode (DependsOnAddress h) true low high p q kind same = clash 3 4 (omega arith) (sym kind)
  by_kind (Denied rs) by_inode (Denied qs) also_inode low high p q kind same = let list = one_list rs qs (10 ∷ s) (10 ∷ t) (omega arith) (omega arith) same in (ap Denied list.0, p ∙ sym q, append_cancel_left (codes "\n") s t list.1)

-- ---- all of it

pub one_mds_client : (c d : List ℕ) (a b : Access) (p q : List (List ℕ)) (s t : MdsStanding) → HasNumber a → HasNumber b → IsStanding s → IsStanding t → mds_client_text c a p s ≡ mds_client_text d b q t
    → (c ≡ d) × (a ≡ b) × (path_text p ≡ path_text q) × (s ≡ t)
one_mds_client c d a b p q s t fits also small too same =
    let end : List ℕ = reason_of s.verdict ++ 10 ∷ refused_client c s.refused in
    let end_too : List ℕ = reason_of t.verdict ++ 10 ∷ refused_client d t.refused in
    let rest : List ℕ = access_word a ++ 32 ∷ (quoted (path_text p) ++ 32 ∷ end) in
    let rest_too : List ℕ = access_word b ++ 32 ∷ (quoted (path_text q) ++ 32 ∷ end_too) in
    let parts = before_word (codes ":") c d (word_of s.verdict s.by_inode ++ rest) (word_of t.verdict t.by_inode ++ rest_too) refl (sym (in_parts c a p s) ∙ same ∙ in_parts d b q t) in
    let kind : kind_of s.verdict s.by_inode ≡ kind_of t.verdict t.by_inode = sym (has_kind s.verdict s.by_inode rest) ∙ ap kind_at parts.1 ∙ has_kind t.verdict t.by_inode rest_too in
    let word : word_of s.verdict s.by_inode ≡ word_of t.verdict t.by_inode = has_word s.verdict s.by_inode ∙ ap word_at kind ∙ sym (has_word t.verdict t.by_inode) in
    let behind = append_cancel_left (word_of s.verdict s.by_inode) rest rest_too (parts.1 ∙ ap (λ (w : List ℕ). w ++ rest_too) (sym word)) in
    let all = parted a b (path_text p) (path_text q) end end_too fits also behind in
    let told = by_kind (refused_client c s.refused) (refused_client d t.refused) s.verdict s.by_inode t.verdict t.by_inode small.grant too.grant small.by_inode too.by_inode kind all.2 in
    let refused : s.refused ≡ t.refused = one_refused c s.refused t.refused small.refused too.refused (told.2 ∙ ap (λ (e : List ℕ). refused_client e t.refused) (sym parts.0)) in
    let verdict : s.verdict ≡ t.verdict = told.0 in
    let by_inode : s.by_inode ≡ t.by_inode = told.1 in
    (parts.0, all.0, all.1, λ i. record { verdict = verdict i; by_inode = by_inode i; refused = refused i })
