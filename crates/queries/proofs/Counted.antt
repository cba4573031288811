-- Texts that are counted one after the other.
use Rattle.std.proofs.Common.{◌≡◌, inl, inr, ℕ, ◌+◌, Bool, true, false, List, [], ◌∷◌, ◌++◌, refl, sym, ap, ◌∙◌, append_assoc, append-nil, arith}
use Rattle.std.specs.Prelude.{cond, fold, not}
use Rattle.std.specs.List.{count_by, filter}
use Rattle.std.specs.Str.{bytes_eq}
use Rattle.std.proofs.lemmas.List.Sums.{sum_by-append}
use Rattle.std.proofs.lemmas.Bool.{cases_Bool, cond-false, cond-true, false≢true}
use Rattle.std.proofs.lemmas.Slice.Eq.{bytes_eq-Decides}
use Rattle.queries.specs.Counts.{counts, noted}

abbrev Count : Type 0
Count = List ℕ × ℕ

-- of another text
abbrev other : List ℕ → Count → Bool
other t e = not (bytes_eq t e.0)

others : List ℕ → List Count → List Count
others t es = filter (other t) es

is_same : (x t : List ℕ) → bytes_eq x t ≡ true → x ≡ t
is_same x t same = (bytes_eq-Decides x t).0 same

kept : (t : List ℕ) (e : Count) (es : List Count) → bytes_eq t e.0 ≡ false → filter (other t) (e ∷ es) ≡ e ∷ filter (other t) es
kept t e es differs = cond-true (other t e) (e ∷ filter (other t) es) (filter (other t) es) (ap not differs)

dropped : (t : List ℕ) (e : Count) (es : List Count) → bytes_eq t e.0 ≡ true → filter (other t) (e ∷ es) ≡ filter (other t) es
dropped t e es same = cond-false (other t e) (e ∷ filter (other t) es) (filter (other t) es) (ap not same)

once_more : (x : List ℕ) (e : Count) (es : List Count) → bytes_eq x e.0 ≡ true → noted (e ∷ es) x ≡ (e.0, e.1 + 1) ∷ es
once_more x e es same = cond-true (bytes_eq x e.0) ((e.0, e.1 + 1) ∷ es) (e ∷ noted es x) same

further_on : (x : List ℕ) (e : Count) (es : List Count) → bytes_eq x e.0 ≡ false → noted (e ∷ es) x ≡ e ∷ noted es x
further_on x e es differs = cond-false (bytes_eq x e.0) ((e.0, e.1 + 1) ∷ es) (e ∷ noted es x) differs

-- what is counted of a text is nothing to the others
not_itself : (t : List ℕ) (es : List Count) → filter (other t) (noted es t) ≡ filter (other t) es
not_itself t [] = dropped t (t, 1) [] ((bytes_eq-Decides t t).1 refl)
not_itself t (e ∷ es) = elim (cases_Bool (bytes_eq t e.0)) [
  | inl same ↦ ap (filter (other t)) (once_more t e es same) ∙ dropped t (e.0, e.1 + 1) es same ∙ sym (dropped t e es same)
  | inr differs ↦ ap (filter (other t)) (further_on t e es differs) ∙ kept t e (noted es t) differs ∙ ap (λ (cs : List Count). e ∷ cs) (not_itself t es) ∙ sym (kept t e es differs)
]

-- and of another is so whether or not that is left out
not_of_another : (t x : List ℕ) (es : List Count) → bytes_eq t x ≡ false → filter (other t) (noted es x) ≡ noted (filter (other t) es) x
not_of_another t x [] apart = kept t (x, 1) [] apart
not_of_another t x (e ∷ es) apart = elim (cases_Bool (bytes_eq x e.0)) [
  | inl same ↦
      let stays : bytes_eq t e.0 ≡ false = ap (bytes_eq t) (sym (is_same x e.0 same)) ∙ apart in
      ap (filter (other t)) (once_more x e es same) ∙ kept t (e.0, e.1 + 1) es stays ∙ sym (once_more x e (filter (other t) es) same) ∙ ap (λ (cs : List Count). noted cs x) (sym (kept t e es stays))
  | inr differs ↦ ap (filter (other t)) (further_on x e es differs) ∙ elim (cases_Bool (bytes_eq t e.0)) [
    | inl gone ↦ dropped t e (noted es x) gone ∙ not_of_another t x es apart ∙ ap (λ (cs : List Count). noted cs x) (sym (dropped t e es gone))
    | inr stays ↦
        kept t e (noted es x) stays ∙ ap (λ (cs : List Count). e ∷ cs) (not_of_another t x es apart) ∙ sym (further_on x e (filter (other t) es) differs) ∙ ap (λ (cs : List Count). noted cs x) (sym (kept t e es stays))
  ]
]

count_again : (t x : List ℕ) (ts : List (List ℕ)) → bytes_eq t x ≡ true → count_by (bytes_eq t) (ts ++ x ∷ []) ≡ count_by (bytes_eq t) ts + 1
count_again t x ts same = sum_by-append (λ (u : List ℕ). cond (bytes_eq t u) 1 0) ts (x ∷ []) ∙ ap (λ (n : ℕ). count_by (bytes_eq t) ts + (0 + n)) (cond-true (bytes_eq t x) 1 0 same)

count_still : (t x : List ℕ) (ts : List (List ℕ)) → bytes_eq t x ≡ false → count_by (bytes_eq t) (ts ++ x ∷ []) ≡ count_by (bytes_eq t) ts
count_still t x ts apart =
    let none : count_by (bytes_eq t) (ts ++ x ∷ []) ≡ count_by (bytes_eq t) ts + (0 + 0) =
    sum_by-append (λ (u : List ℕ). cond (bytes_eq t u) 1 0) ts (x ∷ []) ∙ ap (λ (n : ℕ). count_by (bytes_eq t) ts + (0 + n)) (cond-false (bytes_eq t x) 1 0 apart) in
    omega (arith, none)

-- one text more
pub one_more : (ts : List (List ℕ)) (x : List ℕ) → counts (ts ++ x ∷ []) ≡ noted (counts ts) x
one_more [] x = refl
one_more (t ∷ ts) x = elim (cases_Bool (bytes_eq x t)) [
  | inl same ↦
      let is : x ≡ t = is_same x t same in
      let both : bytes_eq t x ≡ true = (bytes_eq-Decides t x).1 (sym is) in
      ap (λ (n : ℕ). (t, n + 1) ∷ filter (other t) (counts (ts ++ x ∷ []))) (count_again t x ts both)
      ∙ ap (λ (cs : List Count). (t, count_by (bytes_eq t) ts + 1 + 1) ∷ cs) (ap (filter (other t)) (one_more ts x ∙ ap (noted (counts ts)) is) ∙ not_itself t (counts ts))
      ∙ sym (once_more x (t, count_by (bytes_eq t) ts + 1) (filter (other t) (counts ts)) same)
  | inr differs ↦
      let apart : bytes_eq t x ≡ false = elim (cases_Bool (bytes_eq t x)) [
        | inl same ↦ absurd (false≢true (sym differs ∙ (bytes_eq-Decides x t).1 (sym (is_same t x same))))
        | inr apart ↦ apart
      ] in
      ap (λ (n : ℕ). (t, n + 1) ∷ filter (other t) (counts (ts ++ x ∷ []))) (count_still t x ts apart)
      ∙ ap (λ (cs : List Count). (t, count_by (bytes_eq t) ts + 1) ∷ cs) (ap (filter (other t)) (one_more ts x) ∙ not_of_another t x (counts ts) apart)
      ∙ sym (further_on x (t, count_by (bytes_eq t) ts + 1) (filter (other t) (counts ts)) differs)
]

after : (front ts : List (List ℕ)) → fold noted (counts front) ts ≡ counts (front ++ ts)
after front [] = ap counts (sym (append-nil front))
after front (t ∷ ts) = ap (λ (cs : List Count). fold noted cs ts) (sym (one_more front t)) ∙ after (front ++ t ∷ []) ts ∙ ap counts (append_assoc front (t ∷ []) ts)

-- texts that are counted one after the other
pub all_counted : (ts : List (List ℕ)) → fold noted [] ts ≡ counts ts
all_counted ts = after [] ts
