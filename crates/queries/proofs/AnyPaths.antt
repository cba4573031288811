-- What is said of a check without a path has one text, and numbers that fit.
use Rattle.std.proofs.Common.{◌≡◌, ℕ, ◌+◌, ◌<◌, ◌≤◌, ◌^◌, Bool, false, true, Option, Some, None, List, [], ◌∷◌, ◌++◌, drop, get_or, length, refl, sym, ap, ◌∙◌, append_assoc}
use Rattle.std.proofs.Common.{arith}
use Rattle.std.specs.Prelude.{codes, position, ◌==◌, if◌then◌else◌}
use Rattle.std.proofs.lemmas.Bool.{cond-false, cond-true, cond_both}
use Rattle.std.specs.Fmt.{decimal}
use Rattle.std.proofs.lemmas.List.{append_cancel_left, drop_all, drop_more}
use Rattle.capspec.specs.declared.grant.Grant.{Grant}
use Rattle.capgrant.specs.declared.answer.Verdict.{Verdict}
use Rattle.capgrant.specs.declared.answer.Verdict.TheVariants.{Allowed, Denied}
use Rattle.release_grants.specs.declared.grant.Grant.{Grant as MdsGrant}
use Rattle.release_rules.specs.declared.verdict.Verdict.{Verdict as MdsVerdict}
use Rattle.release_rules.specs.declared.verdict.Verdict.TheVariants as mds
use Rattle.texts.specs.declared.mds_asked.MdsAccess.{MdsAccess}
use Rattle.texts.specs.Lines.{HasGrant}
use Rattle.texts.specs.MdsAsked.{mds_access_word}
use Rattle.texts.specs.MdsTold.{HasMdsGrant, HasSmallNumbers}
use Rattle.texts.specs.Remarked.{HasNumbers}
use Rattle.texts.proofs.Answered.{number_to}
use Rattle.texts.proofs.Asked.{has_grant}
use Rattle.texts.proofs.MdsWords.{one_word, plain_asked}
use Rattle.texts.proofs.Quoted.{bare, first_byte}
use Rattle.queries.specs.declared.any_path.AnyPath.{AnyPath}
use Rattle.queries.specs.declared.any_path.AnyPath.TheVariants.{Anywhere, Nowhere, OnAddress, Somewhere}
use Rattle.queries.specs.declared.question.Question.{Question}
use Rattle.queries.specs.Question.{verdict_on}
use Rattle.queries.specs.Remarks.{asked_of}
use Rattle.queries.proofs.FewThere.{below}
use Rattle.queries.specs.AnyPath.{HasSmall, any_path_here, any_path_of, any_path_text, any_path_there, at_place, is_allowed_in, somewhere, with_path}

-- ---- numbers

small_from : (q : Question) (number : ℕ) (grants : List Grant) → number + length grants < 2 ^ 64 → HasSmall (somewhere q number grants)
small_from q number [] few = tt
small_from q number (g ∷ grants) few =
    cond_both (is_allowed_in q g) (Somewhere number) (somewhere q (number + 1) grants) HasSmall (λ here. omega (arith, few)) (λ other. small_from q (number + 1) grants (omega (arith, few)))

small_by : (v : Verdict) (other : AnyPath) → HasGrant v → HasSmall other → HasSmall (any_path_here v other)
small_by (Allowed grant) other small also = omega (arith, small)
small_by (Denied rules) other small also = also

pub has_small : (q : Question) → HasNumbers (asked_of q) q.grants → HasSmall (any_path_of q)
has_small q p =
    let root : Question = with_path q [] in
    let numbers : HasNumbers (asked_of root) q.grants = record { access = p.access; owner = p.owner; group = p.group; mode = p.mode; few = p.few } in
    small_by (verdict_on root) (somewhere q 1 q.grants) (has_grant (asked_of root) q.grants numbers.few) (small_from q 1 q.grants (omega (arith, p.few)))

few_at : (p : MdsGrant → Bool) (grants : List MdsGrant) (most : ℕ) → length grants ≤ most → most < 2 ^ 64 → (place : Option ℕ) → position p grants ≡ place → HasSmall (at_place place)
few_at p grants most few fits None at = tt
few_at p grants most few fits (Some i) at = omega (arith, below p grants i at, few, fits)

-- the same by a release
pub has_small_by : (v : MdsVerdict) (p : MdsGrant → Bool) (grants : List MdsGrant) (most : ℕ) → length grants ≤ most → most < 2 ^ 64 → HasMdsGrant v → HasSmall (any_path_there v (position p grants))
has_small_by (mds.Allowed grant) p grants most few fits small = small
has_small_by (mds.DependsOnAddress grant) p grants most few fits small = small
has_small_by (mds.Denied rules) p grants most few fits small = few_at p grants most few fits (position p grants) refl
has_small_by mds.CannotMount p grants most few fits small = tt

-- ---- step by step

pub passes : (q : Question) (grants : List Grant) (i : ℕ) (g : Grant) → i < length grants → g ≡ get_or grants i g → is_allowed_in q g ≡ false → somewhere q (i + 1 + 1) (drop (i + 1) grants) ≡ somewhere q (i + 1) (drop i grants)
passes q grants i g inside is other =
    let here : drop i grants ≡ g ∷ drop (i + 1) grants = drop_more grants i g inside ∙ ap (λ (x : Grant). x ∷ drop (i + 1) grants) (sym is) in
    sym (ap (somewhere q (i + 1)) here ∙ cond-false (is_allowed_in q g) (Somewhere (i + 1)) (somewhere q (i + 1 + 1) (drop (i + 1) grants)) other)

pub found : (q : Question) (grants : List Grant) (i : ℕ) (g : Grant) → i < length grants → g ≡ get_or grants i g → is_allowed_in q g ≡ true → somewhere q (i + 1) (drop i grants) ≡ Somewhere (i + 1)
found q grants i g inside is there =
    let here : drop i grants ≡ g ∷ drop (i + 1) grants = drop_more grants i g inside ∙ ap (λ (x : Grant). x ∷ drop (i + 1) grants) (sym is) in
    ap (somewhere q (i + 1)) here ∙ cond-true (is_allowed_in q g) (Somewhere (i + 1)) (somewhere q (i + 1 + 1) (drop (i + 1) grants)) there

pub none_left : (q : Question) (grants : List Grant) (i : ℕ) → length grants ≤ i → somewhere q (i + 1) (drop i grants) ≡ Nowhere
none_left q grants i end = ap (somewhere q (i + 1)) (drop_all i grants end)

-- ---- one text

-- behind the word of what is asked for
one_asked : (a b : MdsAccess) (s t : List ℕ) → HasSmallNumbers a → HasSmallNumbers b → mds_access_word a ++ 32 ∷ s ≡ mds_access_word b ++ 32 ∷ t → (a ≡ b) × (s ≡ t)
one_asked a b s t fits also same =
    let both = bare (mds_access_word a) (mds_access_word b) s t (plain_asked a fits) (plain_asked b also) same in
    (one_word a b fits also both.0, both.1)

-- the text in its pieces
laid_out : (front word between number s : List ℕ) → (front ++ (word ++ (32 ∷ between ++ (number ++ codes "\n")))) ++ s ≡ front ++ (word ++ 32 ∷ (between ++ (number ++ 10 ∷ s)))
laid_out front word between number s = simp append_assoc

one_number : (front between : List ℕ) (a b : MdsAccess) (m n : ℕ) (s t : List ℕ) → HasSmallNumbers a → HasSmallNumbers b → m < 2 ^ 64 → n < 2 ^ 64
    → (front ++ (mds_access_word a ++ (32 ∷ between ++ (decimal m ++ codes "\n")))) ++ s ≡ (front ++ (mds_access_word b ++ (32 ∷ between ++ (decimal n ++ codes "\n")))) ++ t → (a ≡ b) × ((m ≡ n) × (s ≡ t))
one_number front between a b m n s t fits also small too same =
    let words = one_asked a b _ _ fits also (append_cancel_left front _ _ (sym (laid_out front (mds_access_word a) between (decimal m) s) ∙ same ∙ laid_out front (mds_access_word b) between (decimal n) t)) in
    (words.0, number_to 10 m n s t refl small too (append_cancel_left between _ _ words.1))

nowhere_out : (word s : List ℕ) → (codes "denied " ++ (word ++ codes " at any path\n")) ++ s ≡ codes "denied " ++ (word ++ 32 ∷ (codes "at any path\n" ++ s))
nowhere_out word s = simp append_assoc

abbrev tag : AnyPath → ℕ
tag (Anywhere grant) = 0
tag (OnAddress grant) = 1
tag (Somewhere grant) = 2
tag Nowhere = 3

-- by the first byte, by the third, and by the twelfth
abbrev tag_at : List ℕ → ℕ
tag_at text = if first_byte text == 97 then 0 else (if first_byte (drop 2 text) == 110 then 3 else (if first_byte (drop 11 text) == 116 then 1 else 2))

has_tag : (a : MdsAccess) (any : AnyPath) (s : List ℕ) → tag_at (any_path_text a any ++ s) ≡ tag any
has_tag a (Anywhere grant) s = refl
has_tag a (OnAddress grant) s = refl
has_tag a (Somewhere grant) s = refl
has_tag a Nowhere s = refl

pub one_any_path : (a b : MdsAccess) (x y : AnyPath) (s t : List ℕ) → HasSmallNumbers a → HasSmallNumbers b → HasSmall x → HasSmall y → any_path_text a x ++ s ≡ any_path_text b y ++ t → ((a ≡ b) × (x ≡ y)) × (s ≡ t)
one_any_path a b (Anywhere m) (Anywhere n) s t fits also small too same =
    let both = one_number (codes "allowed ") (codes "at any path, grant ") a b m n s t fits also small too same in
    ((both.0, ap Anywhere both.1.0), both.1.1)
one_any_path a b (OnAddress m) (OnAddress n) s t fits also small too same =
    let both = one_number (codes "depends on the address: ") (codes "grant ") a b m n s t fits also small too same in
    ((both.0, ap OnAddress both.1.0), both.1.1)
one_any_path a b (Somewhere m) (Somewhere n) s t fits also small too same =
    let both = one_number (codes "depends on it: ") (codes "grant ") a b m n s t fits also small too same in
    ((both.0, ap Somewhere both.1.0), both.1.1)
one_any_path a b Nowhere Nowhere s t fits also small too same =
    let words = one_asked a b _ _ fits also (append_cancel_left (codes "denied ") _ _ (sym (nowhere_out (mds_access_word a) s) ∙ same ∙ nowhere_out (mds_access_word b) t)) in
    ((words.0, refl), append_cancel_left (codes "at any path\n") s t words.1)
one_any_path a b x y s t fits also small too same = absurd (let e : tag x ≡ tag y = sym (has_tag a x s) ∙ ap tag_at same ∙ has_tag b y t in omega (arith, e))
