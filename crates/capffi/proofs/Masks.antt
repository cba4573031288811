-- What is told of the accesses of a mask.
use Rattle.std.proofs.Common.{◌≡◌, ◌≢◌, ℕ, ◌≤◌, arith, true, false, eqb, List, [], ◌∷◌, ◌++◌, Option, Some, None, Result, Ok, Err, refl, sym, ap, subst, ◌∙◌}
use Rattle.std.proofs.Common.{inl, inr}
use Rattle.std.specs.Prelude.{◌/◌, ◌%◌, IsTrue, fold}
use Rattle.std.proofs.lemmas.Bool.{ne_eqb}
use Rattle.std.proofs.lemmas.List.Sums.{fold-append}
use Rattle.capspec.specs.Paths.{are_few_and_short, names_of}
use Rattle.capspec.proofs.Fronts.{which}
use Rattle.capgrant.specs.declared.access.Access.{Access}
use Rattle.capgrant.specs.declared.access.Access.TheVariants.{Read, Write}
use Rattle.capgrant.specs.declared.answer.Verdict.{Verdict}
use Rattle.capffi.specs.declared.block.Block.{Block}
use Rattle.capffi.specs.declared.by_mask.MaskVerdict.{MaskVerdict}
use Rattle.capffi.specs.declared.passed.Check.{Check}
use Rattle.capffi.specs.declared.trouble.Trouble.{Trouble}
use Rattle.capgrant.specs.Masks.{asked_if, is_known}
use Rattle.capffi.specs.Blocks.{IsBlock, bare_names}
use Rattle.capffi.specs.ByMask.{IsMaskJudged, IsMaskJudgedOf, IsMaskTrouble, accesses_of, is_denied, mask_verdict_next, mask_verdict_of, verdict_on}

-- ---- one access more

pub not_asked : (judge : Access → Verdict) (reported : Option MaskVerdict) (mask bit : ℕ) (access : Access) → mask / bit % 2 ≢ 1 → reported ≡ fold (mask_verdict_next judge) reported (asked_if mask bit access)
not_asked judge reported mask bit access other = rw (ne_eqb (mask / bit % 2) 1 other) refl

pub not_judged : (judge : Access → Verdict) (reported : Option MaskVerdict) (mask bit : ℕ) (access : Access) → mask / bit % 2 ≡ 1 → is_denied reported ≡ true → reported ≡ fold (mask_verdict_next judge) reported (asked_if mask bit access)
not_judged judge reported mask bit access is denied =
    let asked : eqb (mask / bit % 2) 1 ≡ true = rw is refl in
    rw (asked, denied) refl

pub judged : (judge : Access → Verdict) (reported : Option MaskVerdict) (mask bit : ℕ) (access : Access) (verdict : Verdict) → mask / bit % 2 ≡ 1 → is_denied reported ≡ false → verdict ≡ judge access → Some (record { access = access; verdict = verdict }) ≡ fold (mask_verdict_next judge) reported (asked_if mask bit access)
judged judge reported mask bit access verdict is not_denied so =
    let asked : eqb (mask / bit % 2) 1 ≡ true = rw is refl in
    rw (asked, not_denied, so) refl

-- ---- all of them

two : (f : Option MaskVerdict → Access → Option MaskVerdict) (before : Option MaskVerdict) (xs ys : List Access) (between after : Option MaskVerdict) → between ≡ fold f before xs → after ≡ fold f between ys → after ≡ fold f before (xs ++ ys)
two f before xs ys between after first second = second ∙ ap (λ (reported : Option MaskVerdict). fold f reported ys) first ∙ sym (fold-append f before xs ys)

pub six : (f : Option MaskVerdict → Access → Option MaskVerdict) (a b c d e g : Option MaskVerdict) (us vs ws xs ys zs : List Access) → a ≡ fold f None us → b ≡ fold f a vs → c ≡ fold f b ws → d ≡ fold f c xs → e ≡ fold f d ys → g ≡ fold f e zs → g ≡ fold f None (us ++ (vs ++ (ws ++ (xs ++ (ys ++ zs)))))
six f a b c d e g us vs ws xs ys zs first second third fourth fifth sixth =
    two f None us _ a g first (two f a vs _ b g second (two f b ws _ c g third (two f c xs _ d g fourth (two f d ys zs e g fifth sixth))))

stays : (judge : Access → Verdict) (reported : MaskVerdict) (accesses : List Access) → None ≡ fold (mask_verdict_next judge) (Some reported) accesses → ⊥
stays judge reported [] none = cc
stays judge reported (access ∷ accesses) none = elim (which (is_denied (Some reported))) [
  | inl e ↦ let rest : None ≡ fold (mask_verdict_next judge) (Some reported) accesses = rw e at none in stays judge reported accesses rest
  | inr e ↦
      let rest : None ≡ fold (mask_verdict_next judge) (Some (record { access = access; verdict = judge access })) accesses = rw e at none in
      stays judge (record { access = access; verdict = judge access }) accesses rest
]

-- nothing is told where nothing is asked
pub asks_nothing : (judge : Access → Verdict) (accesses : List Access) → None ≡ mask_verdict_of judge accesses → accesses ≡ []
asks_nothing judge [] none = refl
asks_nothing judge (access ∷ accesses) none = absurd (stays judge (record { access = access; verdict = judge access }) accesses none)

-- ---- what is said of a path's names is said of its text

pub said_to_mask : (block : Block) (text path groups bare : List ℕ) (c : Check) (reported : Result MaskVerdict Trouble) → IsBlock block text → IsTrue (are_few_and_short (names_of path)) → bare_names bare ≡ names_of path → IsMaskJudgedOf block text (bare_names bare) groups c reported → IsMaskJudged block text path groups c reported
said_to_mask block text path groups bare c (Ok reported) whole fit same found =
    (whole, fit, found.0, subst (λ (names : List (List ℕ)). Some reported ≡ mask_verdict_of (verdict_on block text names groups c) (accesses_of c)) same found.1)
said_to_mask block text path groups bare c (Err trouble) whole fit same found = subst (IsMaskTrouble block text (names_of path) c) (sym found.0) (whole, fit, found.1)

-- ---- a mask that asks for one access

pub to_read : (c : Check) → c.mask ≡ 1 → IsTrue (is_known c.mask) × (accesses_of c ≡ Read ∷ [])
to_read c is = rw is (refl, refl)

pub to_write : (c : Check) → c.mask ≢ 0 → c.mask ≤ 2 → c.mask ≢ 1 → IsTrue (is_known c.mask) × (accesses_of c ≡ Write ∷ [])
to_write c some few other =
    let is : c.mask ≡ 2 = omega (arith, some, few, other) in
    rw is (refl, refl)

pub one_mask_verdict : (judge : Access → Verdict) (c : Check) (access : Access) (verdict : Verdict) → accesses_of c ≡ access ∷ [] → verdict ≡ judge access → Some (record { access = access; verdict = verdict }) ≡ mask_verdict_of judge (accesses_of c)
one_mask_verdict judge c access verdict asked is = ap (λ (v : Verdict). Some (record { access = access; verdict = v })) is ∙ ap (mask_verdict_of judge) (sym asked)

pub told_one : (block : Block) (text path groups bare : List ℕ) (c : Check) (access : Access) → IsBlock block text → IsTrue (are_few_and_short (names_of path)) → bare_names bare ≡ names_of path → IsTrue (is_known c.mask) → accesses_of c ≡ access ∷ [] → IsMaskJudged block text path groups c (Ok (record { access = access; verdict = verdict_on block text (bare_names bare) groups c access }))
told_one block text path groups bare c access whole fit same known asked =
    let judge : Access → Verdict = verdict_on block text (bare_names bare) groups c in
    let all : Some (record { access = access; verdict = judge access }) ≡ mask_verdict_of judge (accesses_of c) = ap (mask_verdict_of judge) (sym asked) in
    said_to_mask block text path groups bare c (Ok (record { access = access; verdict = judge access })) whole fit same (known, all)
