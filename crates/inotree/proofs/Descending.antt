-- What a walk down the index says step by step.
use Rattle.std.proofs.Common.{◌≡◌, ℕ, ◌-◌, suc, zero, Bool, true, List, [], ◌∷◌, ◌++◌, ◌||◌, refl, sym, ap, ◌∙◌, subst, arith}
use Rattle.std.specs.List.{list_any}
use Rattle.std.proofs.Math.Bool.{or-true}
use Rattle.inotree.specs.Index.{NameIndex, index_descends, names_in}

pub descends-zero : (n : ℕ) (index : NameIndex) (dir : ℕ) → n ≡ 0 → index_descends n index dir ≡ true
unfolding index_descends
descends-zero n index dir e = subst (λ k. index_descends k index dir ≡ true) (sym e) refl

pub descends-step : (n : ℕ) (index : NameIndex) (dir : ℕ) → (n ≡ 0 → ⊥) → index_descends n index dir ≡ list_any (λ e. index_descends (n - 1) index e.1) (names_in dir index)
unfolding index_descends
descends-step zero index dir h = absurd (h refl)
descends-step (suc n) index dir h = let e : suc n - 1 ≡ n = omega arith in ap (λ k. list_any (λ e. index_descends k index e.1) (names_in dir index)) (sym e)

pub any_found : {A : Type 0} (p : A → Bool) (xs ys : List A) (x : A) → p x ≡ true → list_any p (xs ++ x ∷ ys) ≡ true
any_found p [] ys x e = ap (λ b. b || list_any p ys) e
any_found p (y ∷ zs) ys x e = ap (λ b. p y || b) (any_found p zs ys x e) ∙ or-true (p y)
