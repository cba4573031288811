-- Things that are written in a row, one more each turn.
use Rattle.std.proofs.Common.{◌≡◌, ℕ, ◌+◌, ◌<◌, zero, suc, List, [], ◌∷◌, ◌++◌, length, take, get_or, sym, ap, ◌∙◌, arith, append_assoc}
use Rattle.std.specs.List.{flat_map, join_by}
use Rattle.std.proofs.lemmas.List.{append-nil, length-take-le, take_more}
use Rattle.std.proofs.lemmas.List.Concat.{flat_map-append}

module _ {X : Type 0} (f : X → List ℕ) (separator : List ℕ) where
  push : (y : X) (ys : List X) (x : X) → join_by f separator (y ∷ ys ++ x ∷ []) ≡ join_by f separator (y ∷ ys) ++ (separator ++ f x)
  push y ys x =
      ap (λ t. f y ++ t) (flat_map-append (λ z. separator ++ f z) ys (x ∷ []) ∙ ap (λ t. flat_map (λ z. separator ++ f z) ys ++ t) (append-nil (separator ++ f x)))
      ∙ sym (append_assoc (f y) (flat_map (λ z. separator ++ f z) ys) (separator ++ f x))

  push_to : (xs : List X) (x : X) → 0 < length xs → join_by f separator (xs ++ x ∷ []) ≡ join_by f separator xs ++ (separator ++ f x)
  push_to [] x some = absurd (omega arith)
  push_to (y ∷ ys) x some = push y ys x

  -- the first has nothing before it
  pub written_first : (start text after : List ℕ) (xs : List X) (k : ℕ) (d : X) → k < length xs → k ≡ 0 → text ≡ start ++ join_by f separator (take k xs) → after ≡ text ++ f (get_or xs k d) → after ≡ start ++ join_by f separator (take (k + 1) xs)
  written_first start text after [] k d inside first before now = absurd (omega arith)
  written_first start text after (x ∷ xs) (suc k) d inside first before now = absurd (omega arith)
  written_first start text after (x ∷ xs) zero d inside first before now = now ∙ ap (λ t. t ++ f x) (before ∙ append-nil start) ∙ ap (λ t. start ++ t) (sym (append-nil (f x)))

  -- each other has the separator before it
  pub written_more : (start text marked after : List ℕ) (xs : List X) (k : ℕ) (d : X) → k < length xs → 0 < k → text ≡ start ++ join_by f separator (take k xs) → marked ≡ text ++ separator → after ≡ marked ++ f (get_or xs k d)
      → after ≡ start ++ join_by f separator (take (k + 1) xs)
  written_more start text marked after xs k d inside some before mark now =
      let x : X = get_or xs k d in
      let count : length (take k xs) ≡ k = length-take-le k xs (omega arith) in
      let all : join_by f separator (take (k + 1) xs) ≡ join_by f separator (take k xs) ++ (separator ++ f x) = ap (join_by f separator) (take_more xs k d inside) ∙ push_to (take k xs) x (omega arith) in
      now ∙ ap (λ t. t ++ f x) (mark ∙ ap (λ t. t ++ separator) before)
      ∙ append_assoc (start ++ join_by f separator (take k xs)) separator (f x)
      ∙ append_assoc start (join_by f separator (take k xs)) (separator ++ f x)
      ∙ ap (λ t. start ++ t) (sym all)
