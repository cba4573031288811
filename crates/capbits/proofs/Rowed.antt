-- What the rows say of the values that stand in them.
use Rattle.std.proofs.Common.{◌≡◌, ℕ, zero, suc, ◌+◌, ◌-◌, ◌<◌, ◌≤◌, Bool, true, false, cond, List, [], ◌∷◌, ◌++◌, length, get_or, set, take, nat_eq, Option}
use Rattle.std.proofs.Common.{Some, None, IfSome, ◌⊎◌, inl, inr, refl, sym, ap, subst, ◌∙◌, arith, is_some, add-one}
use Rattle.std.proofs.Common.{map as each}
use Rattle.std.specs.BTreeMap.{BTreeMap, get, is_at}
use Rattle.std.specs.Cmp.{nat_cmp_total, unsigned_ties}
use Rattle.std.specs.FinMap as map
use Rattle.std.specs.Borrow.{Bor}
use Rattle.std.specs.List.{HoldsAt, slice_get, swap_remove}
use Rattle.std.specs.Map.{lookup}
use Rattle.std.specs.Option.{MatchOption, option_map, unwrap_or}
use Rattle.std.specs.Ordering.{nat_cmp}
use Rattle.std.proofs.lemmas.Map.Entries.{place_from_lookup}
use Rattle.std.proofs.lemmas.Option.{none-some, same_Some, slice_get-get_or, slice_get-map, slice_get_past, slice_get_read, slice_get_within}
use Rattle.capbits.proofs.Entries.{get-entries}
use Rattle.capbits.specs.declared.rows.Row.{Row}
use Rattle.std.specs.FinMap.{FinMap}
use Rattle.capbits.specs.Rows.{HasPlaces, HasRows, entry_of, map_of, number_at}
use Rattle.capbits.proofs.Maps.{apart, insert-here, insert-other, remove-here, remove-other, same_or_other, tied, tied_here}

-- ---- lists

same_options : {X : Type 0} (a b : Option X) → ((x : X) → a ≡ Some x → b ≡ Some x) → ((x : X) → b ≡ Some x → a ≡ Some x) → a ≡ b
same_options None None f g = refl
same_options None (Some y) f g = g y refl
same_options (Some x) b f g = sym (f x refl)

mapped : {A B : Type 0} (f : A → B) (o : Option A) (y : B) → option_map f o ≡ Some y → (x : A) × (o ≡ Some x) × (f x ≡ y)
mapped f None y e = absurd (none-some y e)
mapped f (Some x) y e = (x, refl, same_Some (f x) y e)

module _ {X : Type 0} where
  -- what a read of a slice gives
  pub read : (xs : List X) (k : ℕ) (x : X) → (k < length xs) × ((d : X) → x ≡ get_or xs k d) → slice_get xs k ≡ Some x
  read xs k x h = slice_get-get_or xs k x h.0 ∙ ap Some (sym (h.1 x))

  get-push_left : (xs : List X) (y x : X) (k : ℕ) → slice_get xs k ≡ Some x → slice_get (xs ++ y ∷ []) k ≡ Some x
  get-push_left [] y x k e = absurd (none-some x e)
  get-push_left (z ∷ xs) y x zero e = e
  get-push_left (z ∷ xs) y x (suc k) e = get-push_left xs y x k e

  get-push_end : (xs : List X) (y : X) → slice_get (xs ++ y ∷ []) (length xs) ≡ Some y
  get-push_end [] y = refl
  get-push_end (z ∷ xs) y = get-push_end xs y

  get-push : (xs : List X) (y x : X) (k : ℕ) → slice_get (xs ++ y ∷ []) k ≡ Some x → (slice_get xs k ≡ Some x) ⊎ ((k ≡ length xs) × (y ≡ x))
  get-push [] y x zero e = inr (refl, same_Some y x e)
  get-push [] y x (suc k) e = absurd (none-some x e)
  get-push (z ∷ xs) y x zero e = inl e
  get-push (z ∷ xs) y x (suc k) e = elim (get-push xs y x k e) as (λ _. (slice_get xs k ≡ Some x) ⊎ ((suc k ≡ suc (length xs)) × (y ≡ x))) [
    | inl h ↦ inl h
    | inr h ↦ inr (ap suc h.0, h.1)
  ]

  get-set_here : (xs : List X) (k : ℕ) (y x : X) → slice_get xs k ≡ Some x → slice_get (set xs k y) k ≡ Some y
  get-set_here [] k y x e = absurd (none-some x e)
  get-set_here (z ∷ xs) zero y x e = refl
  get-set_here (z ∷ xs) (suc k) y x e = get-set_here xs k y x e

  get-set_other : (xs : List X) (k j : ℕ) (y : X) → (j ≡ k → ⊥) → slice_get (set xs k y) j ≡ slice_get xs j
  get-set_other [] k j y off = refl
  get-set_other (z ∷ xs) zero zero y off = absurd (off refl)
  get-set_other (z ∷ xs) zero (suc j) y off = refl
  get-set_other (z ∷ xs) (suc k) zero y off = refl
  get-set_other (z ∷ xs) (suc k) (suc j) y off = get-set_other xs k j y (λ e. off (ap suc e))

behind : {X : Type 0} (b : Bool) (x : X) (o : Option X) → cond b (Some x) o ≡ None → o ≡ None
behind true x o e = absurd (none-some x (sym e))
behind false x o e = e

other_number : (q k : ℕ) → (q ≡ k) ⊎ (q ≡ k → ⊥)
other_number q k = same_or_other nat_cmp_total map.nat_cmp-IsAntisymmetric q k

get-take : {X : Type 0} (n : ℕ) (xs : List X) (j : ℕ) → j < n → slice_get (take n xs) j ≡ slice_get xs j
get-take zero xs j h = absurd (omega arith)
get-take (suc n) [] j h = refl
get-take (suc n) (x ∷ xs) zero h = refl
get-take (suc n) (x ∷ xs) (suc j) h = get-take n xs j (omega arith)

get-take_within : {X : Type 0} (n : ℕ) (xs : List X) (j : ℕ) (x : X) → slice_get (take n xs) j ≡ Some x → j < n
get-take_within zero xs j x e = absurd (none-some x e)
get-take_within (suc n) [] j x e = absurd (none-some x e)
get-take_within (suc n) (y ∷ xs) zero x e = omega arith
get-take_within (suc n) (y ∷ xs) (suc j) x e = let less : j < n = get-take_within n xs j x e in omega arith

tied_now : (key q : ℕ) → key ≡ q → is_at (nat_cmp key) q ≡ true
tied_now key q same = ap (λ p. is_at (nat_cmp p) q) same ∙ tied_here nat_cmp_total map.nat_cmp-IsAntisymmetric q

still : (b : Bool) (o : Option ℕ) (place : ℕ) → is_some (cond b (option_map (λ _. place) o) o) ≡ is_some o
still false o place = refl
still true None place = refl
still true (Some x) place = refl

module _ {T : Type 0} where
  -- ---- a value in a row

  -- the value stands in a row under this number
  abbrev Stands : List (Row T) → ℕ → T → Type 0
  Stands rows q x = (k : ℕ) × (row : Row T) × (slice_get rows k ≡ Some row) × (row.number ≡ q) × (row.value ≡ x)

  -- no two rows have the same number
  abbrev pub AreApart : List (Row T) → Type 0
  AreApart rows = (j k q : ℕ) → number_at rows j ≡ Some q → number_at rows k ≡ Some q → j ≡ k

  pub apart_from_placed : (places : BTreeMap ℕ ℕ) (rows : List (Row T)) → HasPlaces places rows → AreApart rows
  apart_from_placed places rows h j k q a b = same_Some j k (sym (h j q a) ∙ h k q b)

  pub number_of : (rows : List (Row T)) (k : ℕ) (row : Row T) → slice_get rows k ≡ Some row → number_at rows k ≡ Some row.number
  number_of rows k row e = ap (option_map (λ (row : Row T). row.number)) e

  get_is : (rows : List (Row T)) (q : ℕ) → map.get (map_of rows) q ≡ lookup (is_at (nat_cmp q)) (each entry_of rows)
  get_is rows q = get-entries nat_cmp_total map.nat_cmp-IsAntisymmetric (each entry_of rows) q

  stands_from_get : (rows : List (Row T)) (q : ℕ) (x : T) → map.get (map_of rows) q ≡ Some x → Stands rows q x
  stands_from_get rows q x e =
      let found = place_from_lookup (is_at (nat_cmp q)) (each entry_of rows) x (sym (get_is rows q) ∙ e) in
      let row = mapped entry_of (slice_get rows found.0) (found.1, x) (sym (slice_get-map entry_of rows found.0) ∙ found.2) in
      (found.0, row.0, row.1, ap (λ (p : ℕ × T). p.0) row.2 ∙ sym (tied nat_cmp_total map.nat_cmp-IsAntisymmetric q found.1 found.3), ap (λ (p : ℕ × T). p.1) row.2)

  no_lookup : (rows : List (Row T)) (k : ℕ) (row : Row T) → slice_get rows k ≡ Some row → lookup (is_at (nat_cmp row.number)) (each entry_of rows) ≡ None → ⊥
  no_lookup [] k row e none = none-some row e
  no_lookup (r ∷ rows) zero row e none =
      let here : is_at (nat_cmp row.number) r.number ≡ true = ap (λ (s : Row T). is_at (nat_cmp row.number) s.number) (same_Some r row e) ∙ tied_here nat_cmp_total map.nat_cmp-IsAntisymmetric row.number in
      none-some r.value (sym none ∙ ap (λ b. cond b (Some r.value) (lookup (is_at (nat_cmp row.number)) (each entry_of rows))) here)
  no_lookup (r ∷ rows) (suc k) row e none = no_lookup rows k row e (behind (is_at (nat_cmp row.number) r.number) r.value _ none)

  pub get_from_row : (rows : List (Row T)) (k : ℕ) (row : Row T) → AreApart rows → slice_get rows k ≡ Some row → map.get (map_of rows) row.number ≡ Some row.value
  get_from_row rows k row apart e = by_answer (map.get (map_of rows) row.number) refl where
    by_answer : (o : Option T) → map.get (map_of rows) row.number ≡ o → map.get (map_of rows) row.number ≡ Some row.value
    by_answer None h = absurd (no_lookup rows k row e (sym (get_is rows row.number) ∙ h))
    by_answer (Some y) h =
        let there = stands_from_get rows row.number y h in
        let same : there.0 ≡ k = apart there.0 k row.number (number_of rows there.0 there.1 there.2 ∙ ap Some there.3) (number_of rows k row e) in
        h ∙ ap Some (sym there.4) ∙ ap (λ (r : Row T). Some r.value) (same_Some there.1 row (sym there.2 ∙ ap (slice_get rows) same ∙ e))

  get_from_stands : (rows : List (Row T)) (q : ℕ) (x : T) → AreApart rows → Stands rows q x → map.get (map_of rows) q ≡ Some x
  get_from_stands rows q x apart s = ap (map.get (map_of rows)) (sym s.3) ∙ get_from_row rows s.0 s.1 apart s.2 ∙ ap Some s.4

  -- a number that no row has is that of no value
  pub none_from_rows : (rows : List (Row T)) (q : ℕ) → ((k : ℕ) → number_at rows k ≡ Some q → ⊥) → map.get (map_of rows) q ≡ None
  none_from_rows rows q off = by_answer (map.get (map_of rows) q) refl where
    by_answer : (o : Option T) → map.get (map_of rows) q ≡ o → o ≡ None
    by_answer None h = refl
    by_answer (Some x) h =
        let s = stands_from_get rows q x h in
        absurd (off s.0 (number_of rows s.0 s.1 s.2 ∙ ap Some s.3))

  -- rows are those of a map whose values stand in them, and no others
  by_rows : (m : FinMap nat_cmp T) (rows : List (Row T)) → AreApart rows → ((q : ℕ) (x : T) → Stands rows q x → map.get m q ≡ Some x) → ((q : ℕ) (x : T) → map.get m q ≡ Some x → Stands rows q x) → map_of rows ≡ m
  by_rows m rows apart to from = map.same_map nat_cmp_total map.nat_cmp-IsAntisymmetric _ _ (λ q.
      same_options (map.get (map_of rows) q) (map.get m q) (λ x e. to q x (stands_from_get rows q x e)) (λ x e. get_from_stands rows q x apart (from q x e)))

  -- what a read of the row that has the number gives
  pub get_from_read : (rows : List (Row T)) (k q : ℕ) (o : Option (Bor (Row T))) → AreApart rows → number_at rows k ≡ Some q → MatchOption o (length rows ≤ k) (λ x. (k < length rows) × HoldsAt (λ y. x.now ≡ y) rows k) → option_map (λ (row : Bor (Row T)). row.now.value) o ≡ map.get (map_of rows) q
  get_from_read rows k q None apart e h = absurd (none-some q (ap (option_map (λ (row : Row T). row.number)) (sym (slice_get_past rows k h)) ∙ e))
  get_from_read rows k q (Some row) apart e h =
      let here : slice_get rows k ≡ Some row.now = read rows k row.now h in
      let number : row.now.number ≡ q = same_Some row.now.number q (sym (number_of rows k row.now here) ∙ e) in
      sym (get_from_row rows k row.now apart here) ∙ ap (map.get (map_of rows)) number

  -- ---- a row at the end

  apart_before : (rows : List (Row T)) (row : Row T) → AreApart (rows ++ row ∷ []) → AreApart rows
  apart_before rows row apart j k q a b = apart j k q (longer j a) (longer k b) where
    longer : (j : ℕ) → number_at rows j ≡ Some q → number_at (rows ++ row ∷ []) j ≡ Some q
    longer j e =
        let r = mapped (λ (row : Row T). row.number) (slice_get rows j) q e in
        number_of (rows ++ row ∷ []) j r.0 (get-push_left rows row r.0 j r.1) ∙ ap Some r.2

  pub map-push : (rows : List (Row T)) (row : Row T) → AreApart (rows ++ row ∷ []) → map.get (map_of rows) row.number ≡ None → map_of (rows ++ row ∷ []) ≡ map.insert (map_of rows) row.number row.value
  map-push rows row apart none = by_rows (map.insert (map_of rows) row.number row.value) (rows ++ row ∷ []) apart to from where
    before : AreApart rows
    before = apart_before rows row apart

    to : (q : ℕ) (x : T) → Stands (rows ++ row ∷ []) q x → map.get (map.insert (map_of rows) row.number row.value) q ≡ Some x
    to q x s = elim (get-push rows row s.1 s.0 s.2) as (λ _. map.get (map.insert (map_of rows) row.number row.value) q ≡ Some x) [
      | inl h ↦
          let here : map.get (map_of rows) q ≡ Some x = get_from_stands rows q x before (s.0, s.1, h, s.3, s.4) in
          insert-other nat_cmp_total map.nat_cmp-IsAntisymmetric (map_of rows) row.number row.value q (λ is. none-some x (sym none ∙ ap (map.get (map_of rows)) (sym is) ∙ here)) ∙ here
      | inr h ↦
          ap (map.get (map.insert (map_of rows) row.number row.value)) (sym s.3 ∙ ap (λ (r : Row T). r.number) (sym h.1))
          ∙ insert-here nat_cmp_total map.nat_cmp-IsAntisymmetric (map_of rows) row.number row.value ∙ ap (λ (r : Row T). Some r.value) h.1 ∙ ap Some s.4
    ]

    from : (q : ℕ) (x : T) → map.get (map.insert (map_of rows) row.number row.value) q ≡ Some x → Stands (rows ++ row ∷ []) q x
    from q x e = elim (same_or_other nat_cmp_total map.nat_cmp-IsAntisymmetric q row.number) as (λ _. Stands (rows ++ row ∷ []) q x) [
      | inl is ↦
          (length rows, row, get-push_end rows row, sym is, same_Some row.value x (sym (insert-here nat_cmp_total map.nat_cmp-IsAntisymmetric (map_of rows) row.number row.value) ∙ ap (map.get (map.insert (map_of rows) row.number row.value)) (sym is) ∙ e))
      | inr off ↦
          let s = stands_from_get rows q x (sym (insert-other nat_cmp_total map.nat_cmp-IsAntisymmetric (map_of rows) row.number row.value q off) ∙ e) in
          (s.0, s.1, get-push_left rows row s.1 s.0 s.2, s.3, s.4)
    ]

  -- a new number has its place behind the others
  pub placed-push : (places after : BTreeMap ℕ ℕ) (rows : List (Row T)) (row : Row T) → HasPlaces places rows → map.get (map_of rows) row.number ≡ None
      → ((q : ℕ) → get nat_cmp after q ≡ cond (is_at (nat_cmp row.number) q) (Some (length rows)) (get nat_cmp places q)) → HasPlaces after (rows ++ row ∷ [])
  placed-push places after rows row h none put k q e =
      let r = mapped (λ (row : Row T). row.number) (slice_get (rows ++ row ∷ []) k) q e in
      elim (get-push rows row r.0 k r.1) as (λ _. get nat_cmp after q ≡ Some k) [
        | inl before ↦
            let there : map.get (map_of rows) q ≡ Some r.0.value = get_from_stands rows q r.0.value (apart_from_placed places rows h) (k, r.0, before, r.2, refl) in
            let off : row.number ≡ q → ⊥ = λ is. none-some r.0.value (sym none ∙ ap (map.get (map_of rows)) is ∙ there) in
            put q ∙ ap (λ b. cond b (Some (length rows)) (get nat_cmp places q)) (apart nat_cmp_total map.nat_cmp-IsAntisymmetric row.number q off) ∙ h k q (number_of rows k r.0 before ∙ ap Some r.2)
        | inr last ↦
            let is : row.number ≡ q = ap (λ (r : Row T). r.number) last.1 ∙ r.2 in
            put q ∙ ap (λ b. cond b (Some (length rows)) (get nat_cmp places q)) (ap (λ p. is_at (nat_cmp p) q) is ∙ tied_here nat_cmp_total map.nat_cmp-IsAntisymmetric q) ∙ ap Some (sym last.0)
      ]

  -- ---- a row is taken out, and the last one moves to its place

  module _ (rows : List (Row T)) (i : ℕ) (d : Row T) (within : i < length rows) where
    abbrev n : ℕ
    n = length rows - 1

    abbrev last : Row T
    last = get_or rows n d

    last_is : slice_get rows n ≡ Some last
    last_is = slice_get-get_or rows n d (omega (arith, within))

    abbrev rest : List (Row T)
    rest = swap_remove rows i d

    -- where a row stood that is left
    before : (j : ℕ) (x : Row T) → slice_get rest j ≡ Some x → ((j ≡ i) × (i < n) × (slice_get rows n ≡ Some x)) ⊎ ((j ≡ i → ⊥) × (j < n) × (slice_get rows j ≡ Some x))
    before j x e =
        let less : j < n = get-take_within n (set rows i last) j x e in
        let at : slice_get (set rows i last) j ≡ Some x = sym (get-take n (set rows i last) j less) ∙ e in
        elim (other_number j i) as (λ _. ((j ≡ i) × (i < n) × (slice_get rows n ≡ Some x)) ⊎ ((j ≡ i → ⊥) × (j < n) × (slice_get rows j ≡ Some x))) [
          | inl is ↦ inl (is, subst (λ k. k < n) is less, last_is ∙ sym (get-set_here rows i last (get_or rows i d) (slice_get-get_or rows i d within)) ∙ ap (slice_get (set rows i last)) (sym is) ∙ at)
          | inr off ↦ inr (off, less, sym (get-set_other rows i j last off) ∙ at)
        ]

    -- where the others stand that are left
    after : (j : ℕ) (x : Row T) → slice_get rows j ≡ Some x → (j ≡ i → ⊥) → (k : ℕ) × (slice_get rest k ≡ Some x)
    after j x e off = elim (other_number j n) as (λ _. (k : ℕ) × (slice_get rest k ≡ Some x)) [
      | inl is ↦
          let less : i < n = omega (arith, within, off, is) in
          (i, get-take n (set rows i last) i less ∙ get-set_here rows i last (get_or rows i d) (slice_get-get_or rows i d within) ∙ sym last_is ∙ ap (slice_get rows) (sym is) ∙ e)
      | inr other ↦
          let inside : j < length rows = slice_get_within rows j x e in
          let less : j < n = omega (arith, inside, other) in
          (j, get-take n (set rows i last) j less ∙ get-set_other rows i j last off ∙ e)
    ]

    module _ (key : ℕ) (here : number_at rows i ≡ Some key) where
      pub map-take_out : AreApart rows → AreApart rest → map_of rest ≡ map.remove (map_of rows) key
      map-take_out apart left = by_rows (map.remove (map_of rows) key) rest left to from where
        to : (q : ℕ) (x : T) → Stands rest q x → map.get (map.remove (map_of rows) key) q ≡ Some x
        to q x s = elim (before s.0 s.1 s.2) as (λ _. map.get (map.remove (map_of rows) key) q ≡ Some x) [
          | inl h ↦ kept n h.2 (λ is. omega (arith, h.1, is))
          | inr h ↦ kept s.0 h.2 h.0
        ] where
          kept : (k : ℕ) → slice_get rows k ≡ Some s.1 → (k ≡ i → ⊥) → map.get (map.remove (map_of rows) key) q ≡ Some x
          kept k at off =
              remove-other nat_cmp_total map.nat_cmp-IsAntisymmetric (map_of rows) key q (λ is. off (apart k i key (number_of rows k s.1 at ∙ ap Some (s.3 ∙ is)) here))
              ∙ get_from_stands rows q x apart (k, s.1, at, s.3, s.4)

        from : (q : ℕ) (x : T) → map.get (map.remove (map_of rows) key) q ≡ Some x → Stands rest q x
        from q x e = elim (other_number q key) as (λ _. Stands rest q x) [
          | inl is ↦ absurd (none-some x (sym (remove-here nat_cmp_total map.nat_cmp-IsAntisymmetric (map_of rows) key) ∙ ap (map.get (map.remove (map_of rows) key)) (sym is) ∙ e))
          | inr off ↦
              let s = stands_from_get rows q x (sym (remove-other nat_cmp_total map.nat_cmp-IsAntisymmetric (map_of rows) key q off) ∙ e) in
              let left = after s.0 s.1 s.2 (λ is. off (sym s.3 ∙ same_Some s.1.number key (sym (number_of rows s.0 s.1 s.2) ∙ ap (number_at rows) is ∙ here))) in
              (left.0, s.1, left.1, s.3, s.4)
        ]

      module _ (places gone : BTreeMap ℕ ℕ) (placed : HasPlaces places rows) (goes : (q : ℕ) → get nat_cmp gone q ≡ cond (is_at (nat_cmp key) q) None (get nat_cmp places q)) where
        -- the other numbers keep their places
        kept : (k q : ℕ) → number_at rows k ≡ Some q → (k ≡ i → ⊥) → get nat_cmp gone q ≡ Some k
        kept k q e off =
            let other : key ≡ q → ⊥ = λ is. off (apart_from_placed places rows placed k i q e (here ∙ ap Some is)) in
            goes q ∙ ap (λ b. cond b None (get nat_cmp places q)) (apart nat_cmp_total map.nat_cmp-IsAntisymmetric key q other) ∙ placed k q e

        -- the last one is taken out
        pub placed-end : slice_get rest i ≡ None → HasPlaces gone rest
        placed-end none k q e =
            let r = mapped (λ (row : Row T). row.number) (slice_get rest k) q e in
            elim (before k r.0 r.1) as (λ _. get nat_cmp gone q ≡ Some k) [
              | inl h ↦ absurd (none-some r.0 (sym none ∙ ap (slice_get rest) (sym h.0) ∙ r.1))
              | inr h ↦ kept k q (number_of rows k r.0 h.2 ∙ ap Some r.2) h.0
            ]

        -- the last one moves, and gets the place
        pub placed-move : (moved : Row T) (now : BTreeMap ℕ ℕ) → slice_get rest i ≡ Some moved
            → ((q : ℕ) → get nat_cmp now q ≡ cond (nat_eq moved.number q) (option_map (λ _. i) (get nat_cmp gone q)) (get nat_cmp gone q)) → HasPlaces now rest
        placed-move moved now there moves k q e =
            let r = mapped (λ (row : Row T). row.number) (slice_get rest k) q e in
            elim (before k r.0 r.1) as (λ _. get nat_cmp now q ≡ Some k) [
              | inl h ↦
                  let is : moved.number ≡ q = ap (λ (row : Row T). row.number) (same_Some moved r.0 (sym there ∙ ap (slice_get rest) (sym h.0) ∙ r.1)) ∙ r.2 in
                  let was : get nat_cmp gone q ≡ Some n = kept n q (number_of rows n r.0 h.2 ∙ ap Some r.2) (λ e. omega (arith, h.1, e)) in
                  moves q ∙ ap (λ b. cond b (option_map (λ _. i) (get nat_cmp gone q)) (get nat_cmp gone q)) (unsigned_ties moved.number q ∙ ap (λ p. is_at (nat_cmp p) q) is ∙ tied_here nat_cmp_total map.nat_cmp-IsAntisymmetric q)
                  ∙ ap (option_map (λ _. i)) was ∙ ap Some (sym h.0)
              | inr h ↦
                  let was : get nat_cmp gone q ≡ Some k = kept k q (number_of rows k r.0 h.2 ∙ ap Some r.2) h.0 in
                  let off : moved.number ≡ q → ⊥ = λ is. elim (before i moved there) as (λ _. ⊥) [
                    | inl m ↦
                        let same : n ≡ k = apart_from_placed places rows placed n k q (number_of rows n moved m.2 ∙ ap Some is) (number_of rows k r.0 h.2 ∙ ap Some r.2) in
                        omega (arith, h.1, same)
                    | inr m ↦ m.0 refl
                  ] in
                  moves q ∙ ap (λ b. cond b (option_map (λ _. i) (get nat_cmp gone q)) (get nat_cmp gone q)) (unsigned_ties moved.number q ∙ apart nat_cmp_total map.nat_cmp-IsAntisymmetric moved.number q off) ∙ was
            ]

  -- ---- which numbers have a place

  module _ (places after : BTreeMap ℕ ℕ) (rows new : List (Row T)) (key : ℕ) (h : HasRows places rows) where
    -- one more has
    pub numbers-insert : (place : ℕ) (x : T) → ((q : ℕ) → get nat_cmp after q ≡ cond (is_at (nat_cmp key) q) (Some place) (get nat_cmp places q)) → map_of new ≡ map.insert (map_of rows) key x → HasRows after new
    numbers-insert place x put is q = elim (other_number key q) as (λ _. is_some (get nat_cmp after q) ≡ map.contains_key (map_of new) q) [
      | inl same ↦
          ap is_some (put q ∙ ap (λ b. cond b (Some place) (get nat_cmp places q)) (tied_now key q same))
          ∙ ap is_some (sym (ap (λ m. map.get m q) is ∙ ap (map.get (map.insert (map_of rows) key x)) (sym same) ∙ insert-here nat_cmp_total map.nat_cmp-IsAntisymmetric (map_of rows) key x))
      | inr off ↦
          ap is_some (put q ∙ ap (λ b. cond b (Some place) (get nat_cmp places q)) (apart nat_cmp_total map.nat_cmp-IsAntisymmetric key q off)) ∙ h q
          ∙ ap is_some (sym (ap (λ m. map.get m q) is ∙ insert-other nat_cmp_total map.nat_cmp-IsAntisymmetric (map_of rows) key x q (λ e. off (sym e))))
    ]

    -- one less has
    pub numbers-remove : ((q : ℕ) → get nat_cmp after q ≡ cond (is_at (nat_cmp key) q) None (get nat_cmp places q)) → map_of new ≡ map.remove (map_of rows) key → HasRows after new
    numbers-remove goes is q = elim (other_number key q) as (λ _. is_some (get nat_cmp after q) ≡ map.contains_key (map_of new) q) [
      | inl same ↦
          ap is_some (goes q ∙ ap (λ b. cond b None (get nat_cmp places q)) (tied_now key q same))
          ∙ ap is_some (sym (ap (λ m. map.get m q) is ∙ ap (map.get (map.remove (map_of rows) key)) (sym same) ∙ remove-here nat_cmp_total map.nat_cmp-IsAntisymmetric (map_of rows) key))
      | inr off ↦
          ap is_some (goes q ∙ ap (λ b. cond b None (get nat_cmp places q)) (apart nat_cmp_total map.nat_cmp-IsAntisymmetric key q off)) ∙ h q
          ∙ ap is_some (sym (ap (λ m. map.get m q) is ∙ remove-other nat_cmp_total map.nat_cmp-IsAntisymmetric (map_of rows) key q (λ e. off (sym e))))
    ]

    -- a place is another one
    pub numbers-move : (place : ℕ) → ((q : ℕ) → get nat_cmp after q ≡ cond (nat_eq key q) (option_map (λ _. place) (get nat_cmp places q)) (get nat_cmp places q)) → map_of new ≡ map_of rows → HasRows after new
    numbers-move place moves is q = ap is_some (moves q) ∙ still (nat_eq key q) (get nat_cmp places q) place ∙ h q ∙ ap (λ m. map.contains_key m q) (sym is)

  -- a value is another one
  pub numbers-set : (places : BTreeMap ℕ ℕ) (rows new : List (Row T)) (key : ℕ) (x y : T) → HasRows places rows → map.get (map_of rows) key ≡ Some y → map_of new ≡ map.insert (map_of rows) key x → HasRows places new
  numbers-set places rows new key x y h there is q = elim (other_number key q) as (λ _. is_some (get nat_cmp places q) ≡ map.contains_key (map_of new) q) [
    | inl same ↦
        h q ∙ ap is_some (ap (map.get (map_of rows)) (sym same) ∙ there)
        ∙ ap is_some (sym (ap (λ m. map.get m q) is ∙ ap (map.get (map.insert (map_of rows) key x)) (sym same) ∙ insert-here nat_cmp_total map.nat_cmp-IsAntisymmetric (map_of rows) key x))
    | inr off ↦ h q ∙ ap is_some (sym (ap (λ m. map.get m q) is ∙ insert-other nat_cmp_total map.nat_cmp-IsAntisymmetric (map_of rows) key x q (λ e. off (sym e))))
  ]

  -- none has
  pub numbers-none : (places : BTreeMap ℕ ℕ) (rows : List (Row T)) → places.entries ≡ [] → rows ≡ [] → HasPlaces places rows × HasRows places rows
  numbers-none places rows bare none = (
    λ k q e. absurd (none-some q (ap (λ (r : List (Row T)). number_at r k) (sym none) ∙ e)),
    λ q. ap (λ es. is_some (lookup (is_at (nat_cmp q)) es)) bare ∙ sym (ap is_some (map.get-empty nat_cmp q)) ∙ ap (λ (r : List (Row T)). map.contains_key (map_of r) q) (sym none),
  )

  -- ---- a row in place of one of its number

  module _ (rows : List (Row T)) (k : ℕ) (was row : Row T) (there : slice_get rows k ≡ Some was) (same : row.number ≡ was.number) where
    number-set : (j : ℕ) → number_at (set rows k row) j ≡ number_at rows j
    number-set j = elim (other_number j k) as (λ _. number_at (set rows k row) j ≡ number_at rows j) [
      | inl is ↦
          ap (number_at (set rows k row)) is ∙ number_of (set rows k row) k row (get-set_here rows k row was there) ∙ ap Some same
          ∙ sym (number_of rows k was there) ∙ ap (number_at rows) (sym is)
      | inr off ↦ ap (option_map (λ (row : Row T). row.number)) (get-set_other rows k j row off)
    ]

    module _ (apart : AreApart rows) where
      apart-set : AreApart (set rows k row)
      apart-set i j q a b = apart i j q (sym (number-set i) ∙ a) (sym (number-set j) ∙ b)

      pub map-set : map_of (set rows k row) ≡ map.insert (map_of rows) row.number row.value
      map-set = by_rows (map.insert (map_of rows) row.number row.value) (set rows k row) apart-set to from where
        to : (q : ℕ) (x : T) → Stands (set rows k row) q x → map.get (map.insert (map_of rows) row.number row.value) q ≡ Some x
        to q x s = elim (other_number s.0 k) as (λ _. map.get (map.insert (map_of rows) row.number row.value) q ≡ Some x) [
          | inl is ↦
              let it : row ≡ s.1 = same_Some row s.1 (sym (get-set_here rows k row was there) ∙ ap (slice_get (set rows k row)) (sym is) ∙ s.2) in
              ap (map.get (map.insert (map_of rows) row.number row.value)) (sym s.3 ∙ ap (λ (r : Row T). r.number) (sym it))
              ∙ insert-here nat_cmp_total map.nat_cmp-IsAntisymmetric (map_of rows) row.number row.value ∙ ap (λ (r : Row T). Some r.value) it ∙ ap Some s.4
          | inr off ↦
              let at : slice_get rows s.0 ≡ Some s.1 = sym (get-set_other rows k s.0 row off) ∙ s.2 in
              insert-other nat_cmp_total map.nat_cmp-IsAntisymmetric (map_of rows) row.number row.value q
              (λ is. off (apart s.0 k was.number (number_of rows s.0 s.1 at ∙ ap Some (s.3 ∙ is ∙ same)) (number_of rows k was there)))
              ∙ get_from_stands rows q x apart (s.0, s.1, at, s.3, s.4)
        ]

        from : (q : ℕ) (x : T) → map.get (map.insert (map_of rows) row.number row.value) q ≡ Some x → Stands (set rows k row) q x
        from q x e = elim (other_number q row.number) as (λ _. Stands (set rows k row) q x) [
          | inl is ↦
              (k, row, get-set_here rows k row was there, sym is, same_Some row.value x (sym (insert-here nat_cmp_total map.nat_cmp-IsAntisymmetric (map_of rows) row.number row.value) ∙ ap (map.get (map.insert (map_of rows) row.number row.value)) (sym is) ∙ e))
          | inr off ↦
              let s = stands_from_get rows q x (sym (insert-other nat_cmp_total map.nat_cmp-IsAntisymmetric (map_of rows) row.number row.value q off) ∙ e) in
              let other : s.0 ≡ k → ⊥ = λ is. off (sym s.3 ∙ ap (λ (r : Row T). r.number) (same_Some s.1 was (sym s.2 ∙ ap (slice_get rows) is ∙ there)) ∙ sym same) in
              (s.0, s.1, get-set_other rows k s.0 row other ∙ s.2, s.3, s.4)
        ]

  -- each number keeps its place
  pub placed-set : (rows : List (Row T)) (k : ℕ) (was row : Row T) → slice_get rows k ≡ Some was → row.number ≡ was.number → (places : BTreeMap ℕ ℕ) → HasPlaces places rows × HasRows places rows → HasPlaces places (set rows k row) × HasRows places (set rows k row)
  placed-set rows k was row there same places h =
      let apart : AreApart rows = apart_from_placed places rows h.0 in (
        λ j q e. h.0 j q (sym (number-set rows k was row there same j) ∙ e),
        numbers-set places rows (set rows k row) row.number row.value was.value h.1 (ap (map.get (map_of rows)) same ∙ get_from_row rows k was apart there) (map-set rows k was row there same apart),
      )

  -- the row at a place that has a number
  pub row_at : (rows : List (Row T)) (k q : ℕ) → number_at rows k ≡ Some q → (row : Row T) × (slice_get rows k ≡ Some row) × (row.number ≡ q)
  row_at rows k q e = mapped (λ (row : Row T). row.number) (slice_get rows k) q e

  -- ---- the value in a row is lent to be written

  -- a place that was found, or else the number of rows, has the number if it is that of a row
  pub found_number : (rows slice : List (Row T)) → slice ≡ rows → (o : Option ℕ) (most key place : ℕ) → place ≡ unwrap_or o most → IfSome o (λ k. number_at slice k ≡ Some key) → most ≡ length rows → place < length rows → number_at rows place ≡ Some key
  found_number rows slice same None most key place is h all within = absurd (omega (arith, is, all, within))
  found_number rows slice same (Some k) most key place is h all within = ap (number_at rows) is ∙ ap (λ (r : List (Row T)). number_at r k) (sym same) ∙ h

  module _ (rows : List (Row T)) (k key : ℕ) (was : Row T) (within : k < length rows) (reads : was ≡ get_or rows k was) (number : number_at rows k ≡ Some key) (places : BTreeMap ℕ ℕ) (h : HasPlaces places rows × HasRows places rows) where
    lent-there : slice_get rows k ≡ Some was
    lent-there = slice_get_read rows (length rows) k was refl within reads

    lent-number : was.number ≡ key
    lent-number = same_Some was.number key (sym (number_of rows k was lent-there) ∙ number)

    pub lent-placed : (w : T) → HasPlaces places (set rows k (record was { value = w })) × HasRows places (set rows k (record was { value = w }))
    lent-placed w = placed-set rows k was (record was { value = w }) lent-there refl places h

    pub lent-map : (w : T) → map_of (set rows k (record was { value = w })) ≡ map.insert (map_of rows) key w
    lent-map w = map-set rows k was (record was { value = w }) lent-there refl (apart_from_placed places rows h.0) ∙ ap (λ q. map.insert (map_of rows) q w) lent-number

    pub lent-value : Some was.value ≡ map.get (map_of rows) key
    lent-value = sym (get_from_row rows k was (apart_from_placed places rows h.0) lent-there) ∙ ap (map.get (map_of rows)) lent-number

  -- ---- the whole

  -- a number without an value leaves nothing to take out
  pub remove_nothing : (m : FinMap nat_cmp T) (key : ℕ) → map.get m key ≡ None → m ≡ map.remove m key
  remove_nothing m key none = map.same_map nat_cmp_total map.nat_cmp-IsAntisymmetric _ _ (λ q. elim (other_number q key) as (λ _. map.get m q ≡ map.get (map.remove m key) q) [
    | inl is ↦ ap (map.get m) is ∙ none ∙ sym (remove-here nat_cmp_total map.nat_cmp-IsAntisymmetric m key) ∙ ap (map.get (map.remove m key)) (sym is)
    | inr off ↦ sym (remove-other nat_cmp_total map.nat_cmp-IsAntisymmetric m key q off)
  ])

  -- there are as many values as rows
  pub len_is : (rows : List (Row T)) → AreApart rows → map.len (map_of rows) ≡ length rows
  len_is [] apart = map.len-empty nat_cmp T
  len_is (row ∷ rows) apart =
      let n : ℕ = map.len (map_of rows) in
      let new : map.get (map_of rows) row.number ≡ None = none_from_rows rows row.number (λ k e. omega (arith, apart zero (suc k) row.number refl e)) in
      map.len-insert nat_cmp_total (map_of rows) row.number row.value ∙ ap (λ o. cond (is_some o) n (n + 1)) new
      ∙ ap (λ n. n + 1) (len_is rows (λ j k q a b. omega (arith, apart (suc j) (suc k) q a b))) ∙ add-one (length rows)
