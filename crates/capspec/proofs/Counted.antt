-- How many names a path has.
use Rattle.std.proofs.Common.{◌≡◌, ℕ, ◌+◌, ◌≤◌, suc, Bool, true, not, List, [], ◌∷◌, ◌++◌, length, take, drop, map, refl, sym, ap, ◌∙◌, arith, inl, inr, Bor}
use Rattle.std.proofs.Common.{IsTrue}
use Rattle.std.specs.Prelude.{count_by, filter}
use Rattle.std.specs.List.{list_all, slice_split, starts_with}
use Rattle.std.specs.Str.{bytes_eq}
use Rattle.std.proofs.lemmas.Bool.{and_parts, lt-ltb, not-true, true≢false}
use Rattle.std.proofs.lemmas.List.{length-append, length-map, length-take-le, take-append-drop, take-map}
use Rattle.std.proofs.lemmas.List.Sums.{count_by-le-length, length-filter}
use Rattle.std.proofs.lemmas.List.Elements.{filter-append}
use Rattle.std.proofs.Math.Seq.{take-append_seam}
use Rattle.std.proofs.lemmas.Slice.Eq.{bytes_eq-Decides, starts_is}
use Rattle.byte_sets.specs.Sets.{is_in}
use Rattle.byte_sets.specs.declared.sets.ByteSet.TheVariants.{AllBut}
use Rattle.capspec.specs.Paths.{names_of, slashed}
use Rattle.capspec.proofs.Fronts.{which}
use Rattle.capspec.proofs.Paths.{has_bytes, is_slash, names_of-name, names_of-slashes}
use Rattle.capspec.proofs.Slashed.{all_filter, all_in, no_slash, slash_next}

abbrev slashes : List ℕ → ℕ
slashes bytes = length (filter is_slash bytes)

count_append : (xs ys : List ℕ) → slashes (xs ++ ys) ≡ slashes xs + slashes ys
count_append xs ys = ap length (filter-append is_slash xs ys) ∙ length-append (filter is_slash xs) (filter is_slash ys)

count_free : (name : List ℕ) → list_all (is_in (AllBut 47)) name ≡ true → slashes name ≡ 0
count_free [] all = refl
count_free (b ∷ bs) all =
    let parts = and_parts (not (is_slash b)) (list_all (is_in (AllBut 47)) bs) all in
    rw (not-true (is_slash b) parts.0) (count_free bs parts.1)

count_slashed : (names : List (List ℕ)) → all_in (is_in (AllBut 47)) names ≡ true → slashes (slashed names) ≡ length names
count_slashed [] all = refl
count_slashed (name ∷ names) all =
    let parts = and_parts (list_all (is_in (AllBut 47)) name) (all_in (is_in (AllBut 47)) names) all in
    let inner : slashes (name ++ slashed names) ≡ length names = omega (arith, count_append name (slashed names), count_free name parts.0, count_slashed names parts.1) in
    ap suc inner

pub count_names : (text : List ℕ) → text ≡ slashed (names_of text) → slashes text ≡ length (names_of text)
count_names text is = ap slashes is ∙ count_slashed (names_of text) (all_filter (is_in (AllBut 47)) (slice_split is_slash text) ∙ no_slash text)

pub counted_names : (text taken : List ℕ) (n : ℕ) → n ≡ count_by is_slash taken → taken ≡ text → text ≡ slashed (names_of text) → n ≡ length (names_of text)
counted_names text taken n e same is = e ∙ ap (count_by is_slash) same ∙ sym (length-filter is_slash text) ∙ count_names text is

-- ---- names with a slash before each are as many as the slashes only where they have none inside

at_least : (names : List (List ℕ)) → length names ≤ slashes (slashed names)
at_least [] = omega arith
at_least (name ∷ names) = omega (arith, ap suc (count_append name (slashed names)), at_least names)

free_if_none : (name : List ℕ) → slashes name ≡ 0 → list_all (is_in (AllBut 47)) name ≡ true
free_if_none [] none = refl
free_if_none (b ∷ bs) none = elim (which (is_slash b)) [ inl e ↦ let n : suc (slashes bs) ≡ 0 = rw e at none in absurd (omega (arith, n)) | inr e ↦ rw e (free_if_none bs (rw e at none)) ]

free_by_count : (names : List (List ℕ)) → slashes (slashed names) ≡ length names → all_in (is_in (AllBut 47)) names ≡ true
free_by_count [] count = refl
free_by_count (name ∷ names) count =
    let all : suc (slashes name + slashes (slashed names)) ≡ suc (length names) = ap suc (sym (count_append name (slashed names))) ∙ count in
    let here : slashes name ≡ 0 = omega (arith, all, at_least names) in
    let more : slashes (slashed names) ≡ length names = omega (arith, all, here) in
    rw (free_if_none name here) (free_by_count names more)

-- names without slashes are found again, but for those without bytes
found_again : (names : List (List ℕ)) → all_in (is_in (AllBut 47)) names ≡ true → names_of (slashed names) ≡ filter has_bytes names
found_again [] free = refl
found_again ([] ∷ names) free = names_of-slashes (47 ∷ []) (slashed names) refl ∙ found_again names free
found_again ((b ∷ bs) ∷ names) free =
    let parts = and_parts (list_all (is_in (AllBut 47)) (b ∷ bs)) (all_in (is_in (AllBut 47)) names) free in
    let some : has_bytes (b ∷ bs) ≡ true = lt-ltb 0 (length (b ∷ bs)) (omega arith) in
    names_of-slashes (47 ∷ []) ((b ∷ bs) ++ slashed names) refl ∙ names_of-name (b ∷ bs) (slashed names) (omega arith) parts.0 (slash_next names)
    ∙ rw some (ap (λ (ns : List (List ℕ)). (b ∷ bs) ∷ ns) (found_again names parts.1))

all_of_them : (names : List (List ℕ)) → length (filter has_bytes names) ≡ length names → filter has_bytes names ≡ names
all_of_them [] full = refl
all_of_them (name ∷ names) full =
    elim (which (has_bytes name)) [
      | inl e ↦ rw e (ap (λ (ns : List (List ℕ)). name ∷ ns) (all_of_them names (let full' : suc (length (filter has_bytes names)) ≡ suc (length names) = rw e at full in omega (arith, full'))))
      | inr e ↦ absurd (let full' : length (filter has_bytes names) ≡ suc (length names) = rw e at full in omega (arith, full', length-filter has_bytes names, count_by-le-length has_bytes names))
    ]

abbrev texts : List (Bor (List ℕ)) → List (List ℕ)
texts names = map (λ name. name.now) names

module _ (text : List ℕ) (is : text ≡ slashed (names_of text)) (count : ℕ) (counted : count ≡ length (names_of text)) (names : List (Bor (List ℕ))) (enough : count ≤ length names) where
  abbrev first : List (List ℕ)
  first = take count (texts names)

  as_many : length first ≡ length (names_of text)
  as_many = length-take-le count (texts names) (omega (arith, enough, length-map names (λ (n : Bor (List ℕ)). n.now))) ∙ counted

  same : text ≡ slashed first → names_of text ≡ first
  same whole =
      let free = free_by_count first (ap slashes (sym whole) ∙ count_names text is ∙ sym as_many) in
      let found : names_of text ≡ filter has_bytes first = ap names_of whole ∙ found_again first free in
      found ∙ all_of_them first (ap length (sym found) ∙ sym as_many)

  pub leads : (r : Bool) → (IsTrue r → text ≡ slashed (texts (take count names))) × (text ≡ slashed (texts (take count names)) → IsTrue r) → r ≡ starts_with bytes_eq (texts names) (names_of text)
  leads r means =
      let both = starts_is bytes_eq-Decides (texts names) (names_of text) (starts_with bytes_eq (texts names) (names_of text)) refl in
      let taken : texts (take count names) ≡ first = sym (take-map (λ (n : Bor (List ℕ)). n.now) count names) in
      elim (which r) [
        | inl holds ↦
            let e : names_of text ≡ first = same (means.0 holds ∙ ap slashed taken) in
            holds ∙ sym (both.1 (drop count (texts names)) (sym (take-append-drop count (texts names)) ∙ ap (λ (ns : List (List ℕ)). ns ++ drop count (texts names)) (sym e)))
        | inr fails ↦
            elim (which (starts_with bytes_eq (texts names) (names_of text))) [
              | inl starts ↦
                  let e : first ≡ names_of text = ap (λ (n : ℕ). take n (texts names)) counted ∙ ap (take (length (names_of text))) (both.0 starts) ∙ take-append_seam (names_of text) (drop (length (names_of text)) (texts names)) in
                  absurd (true≢false (sym (means.1 (is ∙ ap slashed (sym e ∙ sym taken))) ∙ fails))
              | inr apart ↦ fails ∙ sym apart
            ]
      ]
