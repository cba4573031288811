-- Paths that begin with the names of another, and with each other.
use Rattle.std.proofs.Common.{◌≡◌, ℕ, ◌+◌, ◌-◌, ◌<◌, ◌≤◌, suc, Bool, true, List, [], ◌∷◌, ◌++◌, length, take, drop, map, get_or, refl, sym, ap, ◌∙◌, arith}
use Rattle.std.proofs.Common.{inl, inr, ◌⊎◌, Bor, subst, zero, Some, unwrap_or}
use Rattle.std.proofs.lemmas.List.{append-nil, append_cancel_left, length-append, length-map, take-append-drop, take-take, take_all, take_more}
use Rattle.std.proofs.lemmas.Bool.{cases_lt}
use Rattle.std.proofs.Math.Seq.{take-add, take-append_seam}
use Rattle.std.proofs.Math.ListN.{get_or-map}
use Rattle.std.specs.List.{slice_get}
use Rattle.std.proofs.lemmas.Option.{get_or_from_slice_get, slice_get-get_or}
use Rattle.capspec.specs.Paths.{slashed}
use Rattle.capspec.specs.declared.grant.Grant.{Grant}
use Rattle.capspec.proofs.Backwards.{slashed-append}
use Rattle.capspec.specs.declared.shared_prefix.SharedPrefix.{SharedPrefix}
use Rattle.capspec.specs.SharedPrefix.{AreAlike, AreSharedPrefixes, Begins, IsAlike, IsSharedPrefix, ShareFirst}
use Rattle.capspec.specs.declared.kept.Alike.{Alike}

-- ---- one name

pub has_at : (rest behind name : List ℕ) (b : ℕ) (r : Bool) → rest ≡ b ∷ behind → b ≡ 47 → (r ≡ true → behind ≡ name ++ drop (length name) behind) × ((more : List ℕ) → behind ≡ name ++ more → r ≡ true) → (r ≡ true → take (length name + 1) rest ≡ 47 ∷ name) × (take (length name + 1) rest ≡ 47 ∷ name → r ≡ true)
has_at rest behind name b r is slash means =
    let size : length name + 1 ≡ suc (length name) = omega arith in
    let taken : take (length name + 1) rest ≡ 47 ∷ take (length name) behind = ap (λ n. take n rest) size ∙ ap (take (suc (length name))) is ∙ ap (λ (x : ℕ). x ∷ take (length name) behind) slash in (
      λ t. taken ∙ ap (λ (l : List ℕ). 47 ∷ l) (ap (take (length name)) (means.0 t) ∙ take-append_seam name (drop (length name) behind)),
      λ e. (let front : take (length name) behind ≡ name = ap (drop 1) (sym taken ∙ e) in means.1 (drop (length name) behind) (sym (take-append-drop (length name) behind) ∙ ap (λ (l : List ℕ). l ++ drop (length name) behind) front)),
    )

abbrev texts : List (Bor (List ℕ)) → List (List ℕ)
texts names = map (λ name. name.now) names

-- the first names, and one more
next : (names : List (Bor (List ℕ))) (k : ℕ) (d : Bor (List ℕ)) → k < length names → slashed (take (k + 1) (texts names)) ≡ slashed (take k (texts names)) ++ 47 ∷ (get_or names k d).now
next names k d inside =
    let name : List ℕ = get_or (texts names) k d.now in
    ap slashed (take_more (texts names) k d.now (omega (arith, inside, length-map names (λ (n : Bor (List ℕ)). n.now)))) ∙ slashed-append (take k (texts names)) (name ∷ [])
    ∙ ap (λ (t : List ℕ). slashed (take k (texts names)) ++ 47 ∷ t) (append-nil name ∙ get_or-map (λ (n : Bor (List ℕ)). n.now) names k d)

pub next_size : (names : List (Bor (List ℕ))) (k : ℕ) (d : Bor (List ℕ)) → k < length names → length (slashed (take (k + 1) (texts names))) ≡ length (slashed (take k (texts names))) + 1 + length (get_or names k d).now
next_size names k d inside = ap length (next names k d inside) ∙ length-append (slashed (take k (texts names))) (47 ∷ (get_or names k d).now) ∙ omega arith

module _ (names : List (Bor (List ℕ))) (text : List ℕ) (b : SharedPrefix) (d : Bor (List ℕ)) (begins : Begins (texts names) text b) (inside : b.count < length names) where
  abbrev name : List ℕ
  name = (get_or names b.count d).now

  abbrev before : List ℕ
  before = slashed (take b.count (texts names))

  -- what stands behind those that are counted
  cut : take (b.size + (length name + 1)) text ≡ before ++ take (length name + 1) (drop b.size text)
  cut = take-add b.size (length name + 1) text ∙ ap (λ (t : List ℕ). t ++ take (length name + 1) (drop b.size text)) (ap (λ n. take n text) begins.1 ∙ begins.2)

  long : length (slashed (take (b.count + 1) (texts names))) ≡ b.size + (length name + 1)
  long = omega (arith, next_size names b.count d inside, begins.1)

  pub one_more : take (length name + 1) (drop b.size text) ≡ 47 ∷ name → Begins (texts names) text (record { count = b.count + 1; size = b.size + 1 + length name })
  one_more here = (
    omega (arith, inside, length-map names (λ (n : Bor (List ℕ)). n.now)),
    omega (arith, long),
    ap (λ n. take n text) long ∙ cut ∙ ap (λ (t : List ℕ). before ++ t) here ∙ sym (next names b.count d inside),
  )

  pub no_more : (take (length name + 1) (drop b.size text) ≡ 47 ∷ name → ⊥) → IsSharedPrefix (texts names) text b
  no_more apart = (begins, λ _ more. apart (append_cancel_left before _ _ (sym cut ∙ ap (λ n. take n text) (sym long) ∙ more ∙ next names b.count d inside)))

pub fits : (names : List (List ℕ)) (text : List ℕ) (b : SharedPrefix) → Begins names text b → b.size ≤ length text
fits names text b begins =
    let size : ℕ = length (slashed (take b.count names)) in
    elim (cases_lt (length text) size) [
      | inl short ↦ omega (arith, begins.1, ap length (sym (take_all size text (omega (arith, short))) ∙ begins.2), short)
      | inr long ↦ omega (arith, begins.1, long)
    ]

-- ---- of two texts that share their first bytes

shared_take : (one other : List ℕ) (n m : ℕ) → ShareFirst one other n → m ≤ n → take m one ≡ take m other
shared_take one other n m shared less = sym (take-take m n one less) ∙ ap (take m) shared.2 ∙ take-take m n other less

module _ (names : List (List ℕ)) (one other : List ℕ) (known : SharedPrefix) (n : ℕ) (is : IsSharedPrefix names one known) (shared : ShareFirst one other n) where
  -- those that are counted take no more
  pub carried : known.size ≤ n → Begins names other known
  carried less =
      (is.0.0, is.0.1, (let m : length (slashed (take known.count names)) ≤ n = omega (arith, is.0.1, less) in sym (shared_take one other n _ shared m) ∙ is.0.2))

  -- those of them that take no more
  pub carried_part : (b : SharedPrefix) → b.count ≤ known.count → b.size ≡ length (slashed (take b.count names)) → b.size ≤ n → Begins names other b
  carried_part b fewer size less =
      let few : take known.count names ≡ take b.count names ++ drop b.count (take known.count names) = sym (take-append-drop b.count (take known.count names)) ∙ ap (λ (l : List (List ℕ)). l ++ drop b.count (take known.count names)) (take-take b.count known.count names fewer) in
      let split : slashed (take known.count names) ≡ slashed (take b.count names) ++ slashed (drop b.count (take known.count names)) = ap slashed few ∙ slashed-append (take b.count names) (drop b.count (take known.count names)) in
      let m : length (slashed (take b.count names)) ≤ n = omega (arith, size, less) in
      let longer : length (slashed (take b.count names)) ≤ length (slashed (take known.count names)) = omega (arith, ap length split, length-append (slashed (take b.count names)) (slashed (drop b.count (take known.count names)))) in (
        omega (arith, fewer, is.0.0),
        size,
        sym (shared_take one other n _ shared m) ∙ sym (take-take _ (length (slashed (take known.count names))) one longer) ∙ ap (take (length (slashed (take b.count names)))) (is.0.2 ∙ split)
            ∙ take-append_seam (slashed (take b.count names)) (slashed (drop b.count (take known.count names))),
      )

-- where the next name ends before the texts differ, it is in neither
pub carried_whole : (names : List (Bor (List ℕ))) (one other : List ℕ) (known : SharedPrefix) (n : ℕ) (d : Bor (List ℕ)) → IsSharedPrefix (texts names) one known → ShareFirst one other n → known.count < length names → known.size ≤ n → length (get_or names known.count d).now < n - known.size → IsSharedPrefix (texts names) other known
carried_whole names one other known n d is shared inside less next_fits = (
  carried (texts names) one other known n is shared less,
  λ counted more. is.1 counted (let m : length (slashed (take (known.count + 1) (texts names))) ≤ n = omega (arith, next_size names known.count d inside, is.0.1, less, next_fits) in shared_take one other n _ shared m ∙ more),
)

-- ---- grants

pub alike_at : (grants : List Grant) (place other n : ℕ) (d e : Grant) (first second : List ℕ) → first ≡ slashed (get_or grants other e).path → second ≡ slashed (get_or grants place d).path → ShareFirst first second n → IsAlike grants place (record { other = other; bytes = n })
alike_at grants place other n d e first second first-is second-is shared g h at_place at_other =
    subst (λ (t : List ℕ). ShareFirst t (slashed g.path) n) (first-is ∙ ap (λ (x : Grant). slashed x.path) (get_or_from_slice_get grants other h e at_other))
    (subst (λ (t : List ℕ). ShareFirst first t n) (second-is ∙ ap (λ (x : Grant). slashed x.path) (get_or_from_slice_get grants place g d at_place)) shared)

-- what is read from a list with an element behind it
pushed : {X : Type 0} (xs : List X) (x y : X) (k : ℕ) → slice_get (xs ++ x ∷ []) k ≡ Some y → (slice_get xs k ≡ Some y) ⊎ ((k ≡ length xs) × (x ≡ y))
pushed [] x y zero e = inr (refl, ap (λ o. unwrap_or o x) e)
pushed [] x y (suc k) e = cc
pushed (z ∷ xs) x y zero e = inl e
pushed (z ∷ xs) x y (suc k) e = elim (pushed xs x y k e) [ inl inside ↦ inl inside | inr last ↦ inr (ap suc last.0, last.1) ]

pub alike_more : (grants : List Grant) (alike : List Alike) (a : Alike) → length alike < length grants → AreAlike grants alike → IsAlike grants (length alike) a → AreAlike grants (alike ++ a ∷ [])
alike_more grants alike a room so_far here = (
  omega (arith, room, length-append alike (a ∷ [])),
  λ place b at. elim (pushed alike a b place at) [ inl inside ↦ so_far.1 place b inside | inr last ↦ subst (λ n. IsAlike grants n b) (sym last.0) (subst (IsAlike grants (length alike)) last.1 here) ],
)

pub prefix_more : (names : List (List ℕ)) (grants : List Grant) (shared_prefix : List SharedPrefix) (b : SharedPrefix) (d : Grant) (text : List ℕ) → AreSharedPrefixes names grants shared_prefix → text ≡ slashed (get_or grants (length shared_prefix) d).path → IsSharedPrefix names text b → AreSharedPrefixes names grants (shared_prefix ++ b ∷ [])
prefix_more names grants shared_prefix b d text so_far text-is here place g c at_place at =
    elim (pushed shared_prefix b c place at) [
      | inl inside ↦ so_far place g c at_place inside
      | inr last ↦
          let there : slice_get grants (length shared_prefix) ≡ Some g = ap (slice_get grants) (sym last.0) ∙ at_place in
          subst (IsSharedPrefix names (slashed g.path)) last.1 (subst (λ (t : List ℕ). IsSharedPrefix names t b) (text-is ∙ ap (λ (x : Grant). slashed x.path) (get_or_from_slice_get grants (length shared_prefix) g d there)) here)
    ]

-- what is known of the grant that one is alike to
pub known_of : (names : List (List ℕ)) (grants : List Grant) (shared_prefix slice : List SharedPrefix) (alike al : List Alike) (place : ℕ) (d : Grant) (e : Alike) (known : SharedPrefix) (text : List ℕ) → slice ≡ shared_prefix → al ≡ alike → AreSharedPrefixes names grants shared_prefix → length shared_prefix ≡ place → place < length al → AreAlike grants alike → text ≡ slashed (get_or grants place d).path → (get_or al place e).other < length slice → known ≡ get_or slice (get_or al place e).other known → (x : List ℕ) × IsSharedPrefix names x known × ShareFirst x text (get_or al place e).bytes
known_of names grants shared_prefix slice alike al place d e known text slice-is al-is so_far count inside likes text-is before known-is =
    let a : Alike = get_or al place e in
    let lengths : length slice ≡ length shared_prefix = ap length slice-is in
    let counts : length al ≡ length alike = ap length al-is in
    let here : slice_get grants place ≡ Some (get_or grants place d) = slice_get-get_or grants place d (omega (arith, inside, counts, likes.0)) in
    let there : slice_get grants a.other ≡ Some (get_or grants a.other d) = slice_get-get_or grants a.other d (omega (arith, before, lengths, count, inside, counts, likes.0)) in
    let its : slice_get alike place ≡ Some a = ap (λ (l : List Alike). slice_get l place) (sym al-is) ∙ slice_get-get_or al place e inside in
    let seen : slice_get shared_prefix a.other ≡ Some known = ap (λ (l : List SharedPrefix). slice_get l a.other) (sym slice-is) ∙ slice_get-get_or slice a.other known before ∙ ap Some (sym known-is) in (
      slashed (get_or grants a.other d).path,
      so_far a.other (get_or grants a.other d) known there seen,
      subst (λ (t : List ℕ). ShareFirst (slashed (get_or grants a.other d).path) t a.bytes) (sym text-is) (likes.1 place a its (get_or grants place d) (get_or grants a.other d) here there),
    )
