-- A path is the beginning of names exactly where its text begins with just as many of them as it has, and ends there.
use Rattle.std.proofs.Common.{◌≡◌, ℕ, ◌+◌, ◌≤◌, Bool, true, List, [], ◌∷◌, ◌++◌, length, take, drop, map, refl, sym, ap, ◌∙◌, arith, inl, inr, Bor}
use Rattle.std.specs.List.{starts_with}
use Rattle.std.specs.Str.{bytes_eq}
use Rattle.std.proofs.lemmas.Bool.{cases_lt}
use Rattle.std.proofs.lemmas.List.{length-append, length-drop, length-map, length-take-le, take-append-drop, take-map, take-take, take_all}
use Rattle.std.proofs.lemmas.Slice.Eq.{bytes_eq-Decides, starts_is}
use Rattle.std.proofs.Math.Seq.{take-append_seam}
use Rattle.capspec.specs.Paths.{names_of, slashed}
use Rattle.capspec.proofs.Backwards.{slashed-append}
use Rattle.capspec.specs.declared.shared_prefix.SharedPrefix.{SharedPrefix}
use Rattle.capspec.specs.SharedPrefix.{Begins, BeginsWith, IsSharedPrefix}
use Rattle.capspec.proofs.Counted.{leads}
use Rattle.capspec.proofs.Fronts.{which}
use Rattle.capspec.proofs.Sharing.{fits}

abbrev lent : List (List ℕ) → List (Bor (List ℕ))
lent names = map (λ n. record { ref_ptr = (0, 0); now = n }) names

reported : (names : List (List ℕ)) → map (λ (n : Bor (List ℕ)). n.now) (lent names) ≡ names
reported [] = refl
reported (n ∷ names) = ap (λ (ns : List (List ℕ)). n ∷ ns) (reported names)

-- fewer of the names stand in front of more
split : (names : List (List ℕ)) (k m : ℕ) → k ≤ m → slashed (take m names) ≡ slashed (take k names) ++ slashed (drop k (take m names))
split names k m less =
    ap slashed (sym (take-append-drop k (take m names)) ∙ ap (λ (l : List (List ℕ)). l ++ drop k (take m names)) (take-take k m names less))
    ∙ slashed-append (take k names) (drop k (take m names))

-- a byte at least for each
long : (names : List (List ℕ)) → length names ≤ length (slashed names)
long [] = omega arith
long (n ∷ names) = omega (arith, long names, length-append n (slashed names))

module _ (names : List (List ℕ)) (text : List ℕ) (b : SharedPrefix) (shared_prefix : IsSharedPrefix names text b) (count : ℕ) where
  pub whole : b.count ≡ count → b.size ≡ length text → text ≡ slashed (take count names)
  whole same all =
      sym (take_all (length (slashed (take b.count names))) text (omega (arith, shared_prefix.0.1, all))) ∙ shared_prefix.0.2 ∙ ap (λ n. slashed (take n names)) same

  module _ (enough : count ≤ length names) (is : text ≡ slashed (take count names)) where
    enough_shared : count ≤ b.count
    enough_shared = elim (cases_lt b.count count) [
      | inl fewer ↦
          let more : slashed (take count names) ≡ _ = split names (b.count + 1) count (omega (arith, fewer)) in
          absurd (shared_prefix.1 (omega (arith, fewer, enough)) (ap (take (length (slashed (take (b.count + 1) names)))) (is ∙ more) ∙ take-append_seam (slashed (take (b.count + 1) names)) (slashed (drop (b.count + 1) (take count names)))))
      | inr as_many ↦ omega (arith, as_many)
    ]

    no_more_shared : b.count ≤ count
    no_more_shared = elim (cases_lt count b.count) [
      | inl fewer ↦
          let rest : List (List ℕ) = drop count (take b.count names) in
          let left : length rest + count ≡ b.count = omega (arith, length-drop count (take b.count names), length-take-le b.count names shared_prefix.0.0, fewer) in
          absurd (omega (arith, fewer, left, fits names text b shared_prefix.0, shared_prefix.0.1, ap length is, ap length (split names count b.count (omega (arith, fewer))), length-append (slashed (take count names)) (slashed rest), long rest))
      | inr as_many ↦ omega (arith, as_many)
    ]

    pub same_count : b.count ≡ count
    same_count = omega (arith, enough_shared, no_more_shared)

    pub same_size : b.size ≡ length text
    same_size = shared_prefix.0.1 ∙ ap (λ n. length (slashed (take n names))) same_count ∙ ap length (sym is)

pub led : (text : List ℕ) (is : text ≡ slashed (names_of text)) (count : ℕ) (counted : count ≡ length (names_of text)) (names : List (List ℕ)) (b : SharedPrefix) → IsSharedPrefix names text b → (r : Bool) → (r ≡ true → (b.count ≡ count) × (b.size ≡ length text)) → ((b.count ≡ count) → (b.size ≡ length text) → r ≡ true) → r ≡ starts_with bytes_eq names (names_of text)
led text is count counted names b shared_prefix r holds_if if_holds =
    elim (cases_lt (length names) count) [
      | inl short ↦ elim (which r) [
        | inl holds ↦ absurd (omega (arith, short, (holds_if holds).0, shared_prefix.0.0))
        | inr fails ↦ elim (which (starts_with bytes_eq names (names_of text))) [
          | inl starts ↦
              let both = starts_is bytes_eq-Decides names (names_of text) (starts_with bytes_eq names (names_of text)) refl in
              absurd (omega (arith, short, counted, ap length (both.0 starts), length-append (names_of text) (drop (length (names_of text)) names)))
          | inr apart ↦ fails ∙ sym apart
        ]
      ]
      | inr enough ↦
          let few : count ≤ length names = omega (arith, enough) in
          let taken : map (λ (n : Bor (List ℕ)). n.now) (take count (lent names)) ≡ take count names = sym (take-map (λ (n : Bor (List ℕ)). n.now) count (lent names)) ∙ ap (take count) (reported names) in
          leads text is count counted (lent names) (let same : length (lent names) ≡ length names = length-map names _ in omega (arith, few, same)) r (
            λ holds. whole names text b shared_prefix count (holds_if holds).0 (holds_if holds).1 ∙ ap slashed (sym taken),
            λ e. (let same : text ≡ slashed (take count names) = e ∙ ap slashed taken in if_holds (same_count names text b shared_prefix count few same) (same_size names text b shared_prefix count few same)),
          )
          ∙ ap (λ (ns : List (List ℕ)). starts_with bytes_eq ns (names_of text)) (reported names)
    ]
