-- Things that are printed in a row by number, one more each turn.
use Rattle.std.proofs.Common.{◌≡◌, ℕ, ◌+◌, ◌<◌, zero, suc, List, [], ◌∷◌, ◌++◌, length, take, get_or, sym, ap, ◌∙◌, arith, append_assoc}
use Rattle.std.specs.List.{enumerate_from, flat_map, join_by}
use Rattle.std.proofs.lemmas.List.{append-nil, length-take-le, take_more}
use Rattle.std.proofs.lemmas.List.Concat.{flat_map-append}

enumerate_from-push : {X : Type 0} (n : ℕ) (xs : List X) (x : X) → enumerate_from n (xs ++ x ∷ []) ≡ enumerate_from n xs ++ (n + length xs, x) ∷ []
enumerate_from-push n [] x = ap (λ m. (m, x) ∷ []) (omega arith)
enumerate_from-push n (y ∷ ys) x = ap (λ zs. (n, y) ∷ zs) (enumerate_from-push (n + 1) ys x ∙ ap (λ m. enumerate_from (n + 1) ys ++ (m, x) ∷ []) (omega arith))

join_by-push : {X A : Type 0} (f : X → List A) (separator : List A) (y : X) (ys : List X) (x : X) → join_by f separator (y ∷ ys ++ x ∷ []) ≡ join_by f separator (y ∷ ys) ++ (separator ++ f x)
join_by-push f separator y ys x =
    ap (λ t. f y ++ t) (flat_map-append (λ z. separator ++ f z) ys (x ∷ []) ∙ ap (λ t. flat_map (λ z. separator ++ f z) ys ++ t) (append-nil (separator ++ f x)))
    ∙ sym (append_assoc (f y) (flat_map (λ z. separator ++ f z) ys) (separator ++ f x))

-- the first has nothing before it
numbered-first : {X A : Type 0} (f : ℕ × X → List A) (separator : List A) (xs : List X) (d : X) → 0 < length xs → join_by f separator (enumerate_from 1 (take 1 xs)) ≡ f (1, get_or xs 0 d)
numbered-first f separator [] d inside = absurd (omega arith)
numbered-first f separator (y ∷ ys) d inside = append-nil (f (1, y))

numbered-push : {X A : Type 0} (f : ℕ × X → List A) (separator : List A) (xs : List X) (x : X) → 0 < length xs → join_by f separator (enumerate_from 1 (xs ++ x ∷ [])) ≡ join_by f separator (enumerate_from 1 xs) ++ (separator ++ f (length xs + 1, x))
numbered-push f separator [] x some = absurd (omega arith)
numbered-push f separator (y ∷ ys) x some =
    ap (λ es. join_by f separator ((1, y) ∷ es)) (enumerate_from-push 2 ys x) ∙ join_by-push f separator (1, y) (enumerate_from 2 ys) (2 + length ys, x)
    ∙ ap (λ n. join_by f separator ((1, y) ∷ enumerate_from 2 ys) ++ (separator ++ f (n, x))) (omega arith)

-- each other has the separator before it
numbered-more : {X A : Type 0} (f : ℕ × X → List A) (separator : List A) (xs : List X) (k : ℕ) (d : X) → k < length xs → 0 < k
    → join_by f separator (enumerate_from 1 (take (k + 1) xs)) ≡ join_by f separator (enumerate_from 1 (take k xs)) ++ (separator ++ f (k + 1, get_or xs k d))
numbered-more f separator xs k d inside some =
    let count : length (take k xs) ≡ k = length-take-le k xs (omega arith) in
    ap (λ zs. join_by f separator (enumerate_from 1 zs)) (take_more xs k d inside)
    ∙ numbered-push f separator (take k xs) (get_or xs k d) (omega arith)
    ∙ ap (λ n. join_by f separator (enumerate_from 1 (take k xs)) ++ (separator ++ f (n + 1, get_or xs k d))) count

module _ {X : Type 0} (f : ℕ × X → List ℕ) (separator : List ℕ) where
  abbrev pub numbered : List X → List ℕ
  numbered xs = join_by f separator (enumerate_from 1 xs)

  -- the line so far, and the first
  pub printed-first : (start line after : List ℕ) (xs : List X) (k : ℕ) (d : X) → k < length xs → k ≡ 0 → line ≡ start ++ numbered (take k xs) → after ≡ line ++ f (k + 1, get_or xs k d)
      → after ≡ start ++ numbered (take (k + 1) xs)
  printed-first start line after xs zero d inside first before now =
      now ∙ ap (λ t. t ++ f (1, get_or xs 0 d)) (before ∙ append-nil start) ∙ ap (λ t. start ++ t) (sym (numbered-first f separator xs d inside))
  printed-first start line after xs (suc k) d inside first before now = absurd (omega arith)

  -- the line so far, what stands between, and another
  pub printed-more : (start line marked after : List ℕ) (xs : List X) (k : ℕ) (d : X) → k < length xs → 0 < k → line ≡ start ++ numbered (take k xs) → marked ≡ line ++ separator
      → after ≡ marked ++ f (k + 1, get_or xs k d) → after ≡ start ++ numbered (take (k + 1) xs)
  printed-more start line marked after xs k d inside more before separated now =
      let one = f (k + 1, get_or xs k d) in
      now ∙ ap (λ t. t ++ one) (separated ∙ ap (λ t. t ++ separator) before)
      ∙ append_assoc (start ++ numbered (take k xs)) separator one
      ∙ append_assoc start (numbered (take k xs)) (separator ++ one)
      ∙ ap (λ t. start ++ t) (sym (numbered-more f separator xs k d inside more))
