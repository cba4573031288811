-- Which cap comes of which access.
use Rattle.std.proofs.Common.{◌≡◌, Bool, true, false, ◌&&◌, ◌||◌, ◌⊎◌, inl, inr, List, refl, sym, ap, ◌∙◌}
use Rattle.std.specs.List.{list_any}
use Rattle.std.proofs.lemmas.Bool.{false≢true}
use Rattle.capbits.specs.declared.cap.Cap.{Cap}
use Rattle.capbits.specs.Caps.{has}
use Rattle.capbits.specs.Sets.{has-caps_in, has-none, has-union, same_cap}
use Rattle.capgrant.specs.Permitted.{caps_for, caps_if, for_either, for_readers, for_writers}

if_has : (b : Bool) (cs : List Cap) (c : Cap) → has (caps_if b cs) c ≡ (b && list_any (same_cap c) cs)
if_has true cs c = has-caps_in cs c
if_has false cs c = has-none c

for_has : (r w : Bool) (c : Cap) → has (caps_for r w) c ≡ (((r || w) && list_any (same_cap c) for_either) || ((r && list_any (same_cap c) for_readers) || (w && list_any (same_cap c) for_writers)))
for_has r w c =
    has-union (caps_if (r || w) for_either) _ c
    ∙ ap (λ (b : Bool). has (caps_if (r || w) for_either) c || b) (has-union (caps_if r for_readers) (caps_if w for_writers) c)
    ∙ ap (λ (b : Bool). b || (has (caps_if r for_readers) c || has (caps_if w for_writers) c)) (if_has (r || w) for_either c)
    ∙ ap (λ (b : Bool). ((r || w) && list_any (same_cap c) for_either) || (b || has (caps_if w for_writers) c)) (if_has r for_readers c)
    ∙ ap (λ (b : Bool). ((r || w) && list_any (same_cap c) for_either) || ((r && list_any (same_cap c) for_readers) || b)) (if_has w for_writers c)

-- what is permitted by both is permitted by one
split : (r w e a b : Bool) → (((r || w) && e) || ((r && a) || (w && b))) ≡ true → ((r ≡ true) × (((true && e) || ((true && a) || (false && b))) ≡ true)) ⊎ ((w ≡ true) × (((true && e) || ((false && a) || (true && b))) ≡ true))
split true true true a b is = inl (refl, refl)
split true true false true b is = inl (refl, refl)
split true true false false b is = inr (refl, is)
split true false e a b is = inl (refl, is)
split false true e a b is = inr (refl, is)
split false false e a b is = absurd (false≢true is)

pub by_one : (r w : Bool) (c : Cap) → has (caps_for r w) c ≡ true → ((r ≡ true) × (has (caps_for true false) c ≡ true)) ⊎ ((w ≡ true) × (has (caps_for false true) c ≡ true))
by_one r w c is = back (split r w _ _ _ (sym (for_has r w c) ∙ is))
  where
    back : ((r ≡ true) × ((((true || false) && list_any (same_cap c) for_either) || ((true && list_any (same_cap c) for_readers) || (false && list_any (same_cap c) for_writers))) ≡ true)) ⊎ ((w ≡ true) × ((((false || true) && list_any (same_cap c) for_either) || ((false && list_any (same_cap c) for_readers) || (true && list_any (same_cap c) for_writers))) ≡ true)) → ((r ≡ true) × (has (caps_for true false) c ≡ true)) ⊎ ((w ≡ true) × (has (caps_for false true) c ≡ true))
    back (inl one) = inl (one.0, for_has true false c ∙ one.1)
    back (inr one) = inr (one.0, for_has false true c ∙ one.1)

-- and more leave permits no less
more_read : (w e a b : Bool) → ((true && e) || ((true && a) || (false && b))) ≡ true → (((true || w) && e) || ((true && a) || (w && b))) ≡ true
more_read w true a b is = refl
more_read w false true b is = refl
more_read w false false b is = absurd (false≢true is)

more_write : (r e a b : Bool) → ((true && e) || ((false && a) || (true && b))) ≡ true → (((r || true) && e) || ((r && a) || (true && b))) ≡ true
more_write true true a b is = refl
more_write false true a b is = refl
more_write true false true b is = refl
more_write true false false b is = is
more_write false false a b is = is

pub by_read : (w : Bool) (c : Cap) → has (caps_for true false) c ≡ true → has (caps_for true w) c ≡ true
by_read w c is = for_has true w c ∙ more_read w _ _ _ (sym (for_has true false c) ∙ is)

pub by_write : (r : Bool) (c : Cap) → has (caps_for false true) c ≡ true → has (caps_for r true) c ≡ true
by_write r c is = for_has r true c ∙ more_write r _ _ _ (sym (for_has false true c) ∙ is)
