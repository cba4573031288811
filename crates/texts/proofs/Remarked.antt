-- The lines of an answer with all that is worth a word beside it tell one answer.
use Rattle.std.proofs.Common.{◌≡◌, ℕ, ◌<◌, ◌^◌, Option, Some, None, List, ◌∷◌, ◌++◌, refl, sym, ap, ◌∙◌, append_assoc}
use Rattle.std.proofs.Common.{arith}
use Rattle.std.specs.Prelude.{codes, IfSome}
use Rattle.std.specs.Fmt.{decimal}
use Rattle.std.proofs.lemmas.List.{append_cancel_left}
use Rattle.capgrant.specs.declared.access.Attr.{Attr}
use Rattle.texts.specs.PartTexts.{mode_text}
use Rattle.texts.specs.Remarked.{AreLeftAlike}
use Rattle.texts.specs.Remarks.{inode_text, left_line}
use Rattle.texts.proofs.Answered.{number_and, number_to}
use Rattle.texts.proofs.Compared.{mode}
use Rattle.texts.proofs.Quoted.{first_byte}

-- no such line begins so
abbrev pub IsOther : List ℕ → Type 0
IsOther text = first_byte text < 110

-- ---- what is left to the client

abbrev owner : Attr → List ℕ → List ℕ
owner attr rest = codes "not judged: owner " ++ (decimal attr.uid ++ 44 ∷ 32 ∷ (codes "group " ++ (decimal attr.gid ++ 44 ∷ 32 ∷ (codes "mode " ++ (mode_text attr.mode ++ rest)))))

abbrev grant_of : ℕ → List ℕ → List ℕ
grant_of grant s = codes " (grant " ++ (decimal grant ++ 32 ∷ (codes "has no uid)\n" ++ s))

laid_out : (attr : Attr) (grant : ℕ) (s : List ℕ) → left_line attr (Some grant) ++ s ≡ owner attr (grant_of grant s)
unfolding inode_text
laid_out attr grant s = simp append_assoc

abbrev pub IsSmall : Attr → Type 0
IsSmall attr = (attr.uid < 2 ^ 32) × (attr.gid < 2 ^ 32) × (attr.mode < 2 ^ 12)

one_owner : (a b : Attr) (s t : List ℕ) → IsSmall a → IsSmall b → owner a s ≡ owner b t → (a ≡ b) × (s ≡ t)
one_owner a b s t small also same =
    let uid = number_and 44 32 a.uid b.uid (codes "group " ++ (decimal a.gid ++ 44 ∷ 32 ∷ (codes "mode " ++ (mode_text a.mode ++ s)))) (codes "group " ++ (decimal b.gid ++ 44 ∷ 32 ∷ (codes "mode " ++ (mode_text b.mode ++ t)))) refl refl
    (omega (arith, small.0)) (omega (arith, also.0)) (append_cancel_left (codes "not judged: owner ") _ _ same) in
    let gid = number_and 44 32 a.gid b.gid (codes "mode " ++ (mode_text a.mode ++ s)) (codes "mode " ++ (mode_text b.mode ++ t)) refl refl (omega (arith, small.1)) (omega (arith, also.1)) (append_cancel_left (codes "group ") _ _ uid.1) in
    let bits = mode a.mode b.mode s t small.2 also.2 (append_cancel_left (codes "mode ") (mode_text a.mode ++ s) (mode_text b.mode ++ t) gid.1) in
    let one : a.uid ≡ b.uid = uid.0 in
    let two : a.gid ≡ b.gid = gid.0 in
    let three : a.mode ≡ b.mode = bits.0 in
    (λ i. record { uid = one i; gid = two i; mode = three i }, bits.1)

pub one_left : (a b : Attr) (left also : Option ℕ) (s t : List ℕ) → IsSmall a → IsSmall b → IfSome left (λ grant. grant < 2 ^ 32) → IfSome also (λ grant. grant < 2 ^ 32) → (first_byte s ≡ 110 → ⊥) → (first_byte t ≡ 110 → ⊥)
    → left_line a left ++ s ≡ left_line b also ++ t → AreLeftAlike a left b also × (s ≡ t)
one_left a b None None s t p q small too unlike likewise same = (tt, same)
one_left a b None (Some h) s t p q small too unlike likewise same = absurd (unlike (ap first_byte (same ∙ laid_out b h t)))
one_left a b (Some g) None s t p q small too unlike likewise same = absurd (likewise (ap first_byte (sym same ∙ laid_out a g s)))
one_left a b (Some g) (Some h) s t p q small too unlike likewise same =
    let inode = one_owner a b (grant_of g s) (grant_of h t) p q (sym (laid_out a g s) ∙ same ∙ laid_out b h t) in
    let grant = number_to 32 g h (codes "has no uid)\n" ++ s) (codes "has no uid)\n" ++ t) refl (omega (arith, small)) (omega (arith, too)) (append_cancel_left (codes " (grant ") _ _ inode.1) in
    ((inode.0, grant.0), append_cancel_left (codes "has no uid)\n") s t grant.1)
