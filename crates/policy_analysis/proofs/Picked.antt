-- What a function picks of the elements of a list, one after the other.
use Rattle.std.proofs.Common.{◌≡◌, ℕ, ◌+◌, ◌<◌, Option, Some, None, List, [], ◌∷◌, ◌++◌, length, take, get_or, refl, sym, ap, ◌∙◌}
use Rattle.std.specs.Prelude.{filter_map}
use Rattle.std.specs.List.{cons_option}
use Rattle.std.specs.Option.{option_to_list}
use Rattle.std.proofs.lemmas.List.{take_more}
use Rattle.std.proofs.lemmas.List.Elements.{filter_map-append}

pub one_more_picked : {A B : Type 0} (f : A → Option B) (xs : List A) (i : ℕ) (x : A) (picked : Option B) (before after : List B) → i < length xs → x ≡ get_or xs i x → picked ≡ f x
    → before ≡ filter_map f (take i xs) → after ≡ before ++ option_to_list picked → after ≡ filter_map f (take (i + 1) xs)
one_more_picked {A} {B} f xs i x picked before after within is picks so_far more =
    more ∙ ap (λ (ys : List B). ys ++ option_to_list picked) so_far ∙ ap (λ (p : Option B). filter_map f (take i xs) ++ option_to_list p) picks ∙ ap (λ (ys : List B). filter_map f (take i xs) ++ ys) (of_one (f x))
    ∙ sym (filter_map-append f (take i xs) (x ∷ []))
    ∙ sym (ap (filter_map f) (take_more xs i x within ∙ ap (λ (y : A). take i xs ++ y ∷ []) (sym is)))
  where
    of_one : (p : Option B) → option_to_list p ≡ cons_option p []
    of_one None = refl
    of_one (Some y) = refl
