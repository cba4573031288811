-- A list that is turned round, and one that takes the place of another.
use Rattle.std.proofs.Common.{◌≡◌, List, [], ◌∷◌, ◌++◌, length, map, reverse, take, drop, refl, sym, ap, ◌∙◌}
use mathlib.Core.List.{reverse_aux}
use Rattle.std.specs.List.{refill}
use Rattle.std.proofs.Math.Seq.{drop-length, take-length}
use Rattle.std.proofs.lemmas.List.{append-nil}

pub refill_all : {A : Type 0} (xs ws : List A) → length ws ≡ length xs → refill (length xs) xs ws ≡ ws
refill_all xs ws e =
    ap (λ n. take (length xs) (ws ++ drop n xs)) e ∙ ap (λ d. take (length xs) (ws ++ d)) (drop-length xs)
    ∙ ap (take (length xs)) (append-nil ws) ∙ ap (λ n. take n ws) (sym e) ∙ take-length ws

map-turned : {A B : Type 0} (f : A → B) (xs ys : List A) → map f (reverse_aux xs ys) ≡ reverse_aux (map f xs) (map f ys)
map-turned f [] ys = refl
map-turned f (x ∷ xs) ys = map-turned f xs (x ∷ ys)

pub map-reverse : {A B : Type 0} (f : A → B) (xs : List A) → map f (reverse xs) ≡ reverse (map f xs)
map-reverse f xs = map-turned f xs []
