-- The lines by a release tell one answer.
use Rattle.std.proofs.Common.{◌≡◌, ℕ, ◌+◌, ◌<◌, ◌^◌, Option, Some, None, List, [], ◌∷◌, ◌++◌, drop, refl, sym, ap, ◌∙◌, append_assoc, arith}
use Rattle.std.specs.Prelude.{codes}
use Rattle.std.specs.Fmt.{decimal}
use Rattle.std.specs.List.{enumerate_from, flat_map}
use Rattle.std.proofs.lemmas.Fmt.{decimal_injective}
use Rattle.std.proofs.lemmas.List.{append_cancel_left}
use Rattle.release_rules.specs.declared.rule.Rule.{Rule}
use Rattle.release_rules.specs.declared.rule.Rule.TheVariants as rules
use Rattle.release_rules.specs.declared.verdict.Verdict.{Verdict}
use Rattle.release_rules.specs.declared.verdict.Verdict.TheVariants.{Allowed, CannotMount, Denied, DependsOnAddress}
use Rattle.release_rules.specs.Rules.{rule_number, rule_word}
use Rattle.texts.specs.declared.mds_asked.MdsAccess.{MdsAccess}
use Rattle.texts.specs.Explaining.{path_text}
use Rattle.texts.specs.Mds.{mds_failure, mds_failures, mds_line, mds_outcome, mds_reason, mds_text, refused_line}
use Rattle.texts.specs.MdsTold.{HasSmallNumbers, HasMdsGrant, HasRefusal}
use Rattle.texts.specs.MdsAsked.{mds_access_word}
use Rattle.texts.specs.Quoting.{quoted}
use Rattle.texts.proofs.Answered.{number_and, number_to, plain_number}
use Rattle.texts.proofs.MdsDistinct.{has_number, numbered}
use Rattle.texts.proofs.MdsWords.{parted_there}
use Rattle.texts.proofs.Quoted.{bare, clash, first_byte}

-- ---- rules

small_number : (r : Rule) → rule_number r < 2 ^ 64
small_number rules.FsName = omega arith
small_number rules.Uid = omega arith
small_number rules.Gids = omega arith
small_number rules.Path = omega arith
small_number rules.NoWrite = omega arith
small_number rules.RootSquash = omega arith
small_number rules.NoP = omega arith
small_number rules.NoS = omega arith
small_number rules.NotOwner = omega arith
small_number rules.NotOwnGroup = omega arith
small_number rules.ModeBits = omega arith
small_number rules.NoF = omega arith
small_number rules.Network = omega arith

abbrev before_number : ℕ → List ℕ
before_number k = codes "grant " ++ (decimal k ++ codes " rule ")

in_front : (k : ℕ) (r : Rule) (s : List ℕ) → mds_failure (k, r) ++ s ≡ before_number k ++ (decimal (rule_number r) ++ 32 ∷ (rule_word r ++ s))
in_front k r s = simp append_assoc

one_failure : (k : ℕ) (r q : Rule) (s t : List ℕ) → mds_failure (k, r) ++ s ≡ mds_failure (k, q) ++ t → (r ≡ q) × (s ≡ t)
one_failure k r q s t same =
    let behind = append_cancel_left (before_number k) (decimal (rule_number r) ++ 32 ∷ (rule_word r ++ s)) (decimal (rule_number q) ++ 32 ∷ (rule_word q ++ t)) (sym (in_front k r s) ∙ same ∙ in_front k q t) in
    let small = small_number r in
    let also = small_number q in
    let apart = bare (decimal (rule_number r)) (decimal (rule_number q)) (rule_word r ++ s) (rule_word q ++ t) (plain_number (rule_number r) small) (plain_number (rule_number q) also) behind in
    let rule : r ≡ q = sym (has_number r) ∙ ap numbered (decimal_injective (rule_number r) (rule_number q) small also apart.0) ∙ has_number q in
    (rule, append_cancel_left (rule_word r) s t (apart.1 ∙ ap (λ (x : Rule). rule_word x ++ t) (sym rule)))

abbrev further : ℕ × Rule → List ℕ
further failure = codes ", " ++ mds_failure failure

-- behind the last no comma stands
one_row : (n : ℕ) (rs qs : List Rule) (s t : List ℕ) → first_byte s < 44 → first_byte t < 44 → flat_map further (enumerate_from n rs) ++ s ≡ flat_map further (enumerate_from n qs) ++ t → (rs ≡ qs) × (s ≡ t)
one_row n [] [] s t below too same = (refl, same)
one_row n [] (q ∷ qs) s t below too same = clash (first_byte s) 44 below (ap first_byte same)
one_row n (r ∷ rs) [] s t below too same = clash (first_byte t) 44 too (sym (ap first_byte same))
one_row n (r ∷ rs) (q ∷ qs) s t below too same =
    let more : List ℕ = flat_map further (enumerate_from (n + 1) rs) in
    let others : List ℕ = flat_map further (enumerate_from (n + 1) qs) in
    let behind = append_cancel_left (codes ", ") (mds_failure (n, r) ++ (more ++ s)) (mds_failure (n, q) ++ (others ++ t)) (sym (append_assoc (further (n, r)) more s) ∙ same ∙ append_assoc (further (n, q)) others t) in
    let both = one_failure n r q (more ++ s) (others ++ t) behind in
    let rest = one_row (n + 1) rs qs s t below too both.1 in
    let here : r ≡ q = both.0 in
    let all : rs ≡ qs = rest.0 in
    (cc, rest.1)

pub one_list : (rs qs : List Rule) (s t : List ℕ) → first_byte s < 44 → first_byte t < 44 → mds_failures rs ++ s ≡ mds_failures qs ++ t → (rs ≡ qs) × (s ≡ t)
one_list [] [] s t below too same = (refl, append_cancel_left (codes "no grants") s t same)
one_list [] (q ∷ qs) s t below too same = clash 103 110 (omega arith) (sym (ap first_byte same))
one_list (r ∷ rs) [] s t below too same = clash 103 110 (omega arith) (ap first_byte same)
one_list (r ∷ rs) (q ∷ qs) s t below too same =
    let more : List ℕ = flat_map further (enumerate_from 2 rs) in
    let others : List ℕ = flat_map further (enumerate_from 2 qs) in
    let both = one_failure 1 r q (more ++ s) (others ++ t) (sym (append_assoc (mds_failure (1, r)) more s) ∙ same ∙ append_assoc (mds_failure (1, q)) others t) in
    let rest = one_row 2 rs qs s t below too both.1 in
    let here : r ≡ q = both.0 in
    let all : rs ≡ qs = rest.0 in
    (cc, rest.1)

-- no list of rules is the want of a mount
pub no_mount : {A : Type 0} (rs : List Rule) (s t : List ℕ) → codes "no grant lets the client mount" ++ s ≡ mds_failures rs ++ t → A
no_mount [] s t same = clash 32 115 (omega arith) (ap (λ (text : List ℕ). first_byte (drop 8 text)) same)
no_mount (r ∷ rs) s t same = clash 103 110 (omega arith) (sym (ap first_byte same))

-- ---- the refusal

pub one_refusal : (a b : Option ℕ) → HasRefusal a → HasRefusal b → refused_line a ≡ refused_line b → a ≡ b
one_refusal None None small also same = refl
one_refusal None (Some h) small also same = clash 0 116 (omega arith) (ap first_byte same)
one_refusal (Some g) None small also same = clash 0 116 (omega arith) (sym (ap first_byte same))
one_refusal (Some g) (Some h) small also same =
    ap Some (number_and 41 10 g h [] [] refl refl small also (append_cancel_left (codes "the client itself refuses to change attributes (grant ") (decimal g ++ 41 ∷ 10 ∷ []) (decimal h ++ 41 ∷ 10 ∷ []) same)).0

-- ---- the line, whatever stands behind it

in_parts : (a : MdsAccess) (p : List (List ℕ)) (v : Verdict) (s : List ℕ)
    → mds_line a p v ++ 10 ∷ s ≡ mds_outcome v ++ (mds_access_word a ++ 32 ∷ (quoted (path_text p) ++ (mds_reason v ++ 10 ∷ s)))
in_parts a p v s =
    let path : List ℕ = quoted (path_text p) in
    append_assoc (mds_outcome v) (mds_access_word a ++ (codes " " ++ (path ++ mds_reason v))) (10 ∷ s)
    ∙ ap (λ (r : List ℕ). mds_outcome v ++ r)
    (append_assoc (mds_access_word a) (codes " " ++ (path ++ mds_reason v)) (10 ∷ s) ∙ ap (λ (r : List ℕ). mds_access_word a ++ 32 ∷ r) (append_assoc path (mds_reason v) (10 ∷ s)))

module _ (a b : MdsAccess) (p q : List (List ℕ)) (s t : List ℕ) (fits : HasSmallNumbers a) (too : HasSmallNumbers b) where
  abbrev Told : Verdict → Verdict → Type 0
  Told v w = (a ≡ b) × (path_text p ≡ path_text q) × (v ≡ w) × (s ≡ t)

  -- behind one outcome
  behind : (outcome x y : List ℕ) → outcome ++ (mds_access_word a ++ 32 ∷ (quoted (path_text p) ++ 32 ∷ x)) ≡ outcome ++ (mds_access_word b ++ 32 ∷ (quoted (path_text q) ++ 32 ∷ y))
      → (a ≡ b) × (path_text p ≡ path_text q) × (x ≡ y)
  behind outcome x y same =
      parted_there a b (path_text p) (path_text q) x y fits too (append_cancel_left outcome (mds_access_word a ++ 32 ∷ (quoted (path_text p) ++ 32 ∷ x)) (mds_access_word b ++ 32 ∷ (quoted (path_text q) ++ 32 ∷ y)) same)

  by_number : (g h : ℕ) → g < 2 ^ 64 → h < 2 ^ 64 → (v w : Verdict) (make : ℕ → Verdict) → v ≡ make g → w ≡ make h
      → (a ≡ b) × (path_text p ≡ path_text q) × (codes "grant " ++ (decimal g ++ 10 ∷ s) ≡ codes "grant " ++ (decimal h ++ 10 ∷ t)) → Told v w
  by_number g h low high v w make is too_is all =
      let number = number_to 10 g h s t refl low high (append_cancel_left (codes "grant ") (decimal g ++ 10 ∷ s) (decimal h ++ 10 ∷ t) all.2) in
      (all.0, all.1, is ∙ ap make number.0 ∙ sym too_is, number.1)

  by_verdicts : (v w : Verdict) → HasMdsGrant v → HasMdsGrant w
      → mds_outcome v ++ (mds_access_word a ++ 32 ∷ (quoted (path_text p) ++ (mds_reason v ++ 10 ∷ s))) ≡ mds_outcome w ++ (mds_access_word b ++ 32 ∷ (quoted (path_text q) ++ (mds_reason w ++ 10 ∷ t)))
      → Told v w
  by_verdicts (Allowed g) (Allowed h) low high same = by_number g h low high (Allowed g) (Allowed h) Allowed refl refl (behind (codes "allowed ") (codes "grant " ++ (decimal g ++ 10 ∷ s)) (codes "grant " ++ (decimal h ++ 10 ∷ t)) same)
  by_verdicts (Allowed g) (DependsOnAddress h) low high same = clash 97 100 (omega arith) (ap first_byte same)
  by_verdicts (Allowed g) CannotMount low high same = clash 97 100 (omega arith) (ap first_byte same)
  by_verdicts (Allowed g) (Denied qs) low high same = clash 97 100 (omega arith) (ap first_byte same)
  by_verdicts (DependsOnAddress g) (Allowed h) low high same = clash 97 100 (omega arith) (sym (ap first_byte same))
  by_verdicts (DependsOnAddress g) (DependsOnAddress h) low high same = by_number g h low high (DependsOnAddress g) (DependsOnAddress h) DependsOnAddress refl refl (behind (codes "depends on the address: ") (codes "grant " ++ (decimal g ++ 10 ∷ s)) (codes "grant " ++ (decimal h ++ 10 ∷ t)) same)
  by_verdicts (DependsOnAddress g) CannotMount low high same = clash 110 112 (omega arith) (sym (ap (λ (text : List ℕ). first_byte (drop 2 text)) same))
  by_verdicts (DependsOnAddress g) (Denied qs) low high same = clash 110 112 (omega arith) (sym (ap (λ (text : List ℕ). first_byte (drop 2 text)) same))
  by_verdicts CannotMount (Allowed h) low high same = clash 97 100 (omega arith) (sym (ap first_byte same))
  by_verdicts CannotMount (DependsOnAddress h) low high same = clash 110 112 (omega arith) (ap (λ (text : List ℕ). first_byte (drop 2 text)) same)
  by_verdicts CannotMount CannotMount low high same =
      let all = behind (codes "denied ") (codes "no grant lets the client mount" ++ 10 ∷ s) (codes "no grant lets the client mount" ++ 10 ∷ t) same in
      (all.0, all.1, refl, append_cancel_left (codes "no grant lets the client mount\n") s t all.2)
  by_verdicts CannotMount (Denied qs) low high same =
      no_mount qs (10 ∷ s) (10 ∷ t) (behind (codes "denied ") (codes "no grant lets the client mount" ++ 10 ∷ s) (mds_failures qs ++ 10 ∷ t) same).2
  by_verdicts (Denied rs) (Allowed h) low high same = clash 97 100 (omega arith) (sym (ap first_byte same))
  by_verdicts (Denied rs) (DependsOnAddress h) low high same = clash 110 112 (omega arith) (ap (λ (text : List ℕ). first_byte (drop 2 text)) same)
  by_verdicts (Denied rs) CannotMount low high same =
      no_mount rs (10 ∷ t) (10 ∷ s) (sym (behind (codes "denied ") (mds_failures rs ++ 10 ∷ s) (codes "no grant lets the client mount" ++ 10 ∷ t) same).2)
  by_verdicts (Denied rs) (Denied qs) low high same =
      let all = behind (codes "denied ") (mds_failures rs ++ 10 ∷ s) (mds_failures qs ++ 10 ∷ t) same in
      let list = one_list rs qs (10 ∷ s) (10 ∷ t) (omega arith) (omega arith) all.2 in
      (all.0, all.1, ap Denied list.0, append_cancel_left (codes "\n") s t list.1)

pub one_mds_line_to : (a b : MdsAccess) (p q : List (List ℕ)) (v w : Verdict) (s t : List ℕ) → HasSmallNumbers a → HasSmallNumbers b → HasMdsGrant v → HasMdsGrant w
    → mds_line a p v ++ 10 ∷ s ≡ mds_line b q w ++ 10 ∷ t → (a ≡ b) × (path_text p ≡ path_text q) × (v ≡ w) × (s ≡ t)
one_mds_line_to a b p q v w s t fits too low high same = by_verdicts a b p q s t fits too v w low high (sym (in_parts a p v s) ∙ same ∙ in_parts b q w t)

-- ---- all of it

pub one_mds_text : (a b : MdsAccess) (p q : List (List ℕ)) (v w : Verdict) (refused also : Option ℕ) → HasSmallNumbers a → HasSmallNumbers b → HasMdsGrant v → HasMdsGrant w → HasRefusal refused → HasRefusal also
    → mds_text a p v refused ≡ mds_text b q w also → (a ≡ b) × (path_text p ≡ path_text q) × (v ≡ w) × (refused ≡ also)
one_mds_text a b p q v w refused also fits too low high small likewise same =
    let line = one_mds_line_to a b p q v w (refused_line refused) (refused_line also) fits too low high same in
    (line.0, line.1, line.2, one_refusal refused also small likewise line.3)
