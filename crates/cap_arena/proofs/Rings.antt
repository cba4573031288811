-- Lists whose links agree both ways, as two walks round a ring: one more key at the end, and one taken out.
use Rattle.std.proofs.Common.{◌≡◌, ℕ, Bool, true, false, not, ◌&&◌, ◌||◌, cond, Option, Some, None, List, [], ◌∷◌, ◌++◌, filter, reverse, refl, sym, ap, ◌∙◌}
use Rattle.std.proofs.Common.{subst, slice_get, nat_eq, append-nil}
use Rattle.std.specs.List.{AllByRecursion, IsDistinct}
use Rattle.std.proofs.Math.Bool.{and-false, or-false, or_comm}
use Rattle.std.proofs.lemmas.Cmp.{nat_eq_equiv}
use Rattle.std.proofs.lemmas.Bool.{eq-eqb, eqb-true, or_left, or_parts, or_right}
use Rattle.std.proofs.lemmas.List.{append_assoc, reverse-append, reverse-reverse}
use Rattle.std.proofs.lemmas.List.Folds.{list_any-append}
use Rattle.std.proofs.lemmas.List.Sorted.{IsPermutation-reverse}
use Rattle.std.proofs.lemmas.Map.Keys.{IsDistinct-IsPermutation, IsDistinct-head, IsDistinct-push, IsDistinct-tail}
use Rattle.cap_arena.specs.Walks.{IsWalk, is_among, same_place}

-- ---- places

pub same_place-is : (x y : Option ℕ) → same_place x y ≡ true → x ≡ y
same_place-is None None e = refl
same_place-is (Some a) (Some b) e = ap Some (eqb-true a b e)
same_place-is None (Some b) e = absurd (cc)
same_place-is (Some a) None e = absurd (cc)

pub same_place-refl : (x : Option ℕ) → same_place x x ≡ true
same_place-refl None = refl
same_place-refl (Some a) = eq-eqb a a refl

-- the place where a walk over these keys comes to
abbrev pub last_place : Option ℕ → List ℕ → Option ℕ
last_place place [] = place
last_place place (key ∷ keys) = last_place (Some key) keys

-- the place is none of these keys
abbrev pub IsApart : Option ℕ → List ℕ → Type 0
IsApart place keys = (key : ℕ) → is_among keys key ≡ true → same_place place (Some key) ≡ false

or_cases : {P : Type 0} (a b : Bool) → (a || b) ≡ true → (a ≡ true → P) → (b ≡ true → P) → P
or_cases true b e f g = f refl
or_cases false b e f g = g e

-- what is among these is none of those that a key differs from
among_all : (P : ℕ → Type 0) (keys : List ℕ) → AllByRecursion P keys → (key : ℕ) → is_among keys key ≡ true → P key
among_all P [] all key there = absurd (cc)
among_all P (k ∷ keys) all key there =
    or_cases (nat_eq key k) (is_among keys key) there (λ e. subst P (sym (eqb-true key k e)) all.0) (λ e. among_all P keys all.1 key e)

apart_from_head : (key : ℕ) (keys : List ℕ) → IsDistinct nat_eq (key ∷ keys) → IsApart (Some key) keys
apart_from_head key keys once = among_all (λ k. nat_eq key k ≡ false) keys (IsDistinct-head nat_eq key keys once)

apart_rest : (place : Option ℕ) (key : ℕ) (keys : List ℕ) → IsApart place (key ∷ keys) → IsApart place keys
apart_rest place key keys apart k there = apart k (or_right (nat_eq k key) (is_among keys k) there)

apart_last : (place : Option ℕ) (key : ℕ) (keys : List ℕ) → IsApart place (key ∷ keys) → same_place place (last_place (Some key) keys) ≡ false
apart_last place key [] apart = apart key (or_left (nat_eq key key) false (eq-eqb key key refl))
apart_last place key (k ∷ keys) apart = apart_last place k keys (apart_rest place key (k ∷ keys) apart)

-- ---- walks

-- steps that lead alike make the same walk
pub IsWalk-alike : (step step' : Option ℕ → Option ℕ) (place place' : Option ℕ) (keys : List ℕ) → step' place' ≡ step place
    → ((key : ℕ) → is_among keys key ≡ true → step' (Some key) ≡ step (Some key)) → IsWalk step place keys → IsWalk step' place' keys
IsWalk-alike step step' place place' [] first alike walk = first ∙ walk
IsWalk-alike step step' place place' (k ∷ keys) first alike walk =
    (first ∙ walk.0, IsWalk-alike step step' (Some k) (Some k) keys (alike k (or_left (nat_eq k k) (is_among keys k) (eq-eqb k k refl))) (λ key there. alike key (or_right (nat_eq key k) (is_among keys key) there)) walk.1)

-- where a walk goes on otherwise from the place that its first keys come to
graft : (step step' : Option ℕ → Option ℕ) (place : Option ℕ) (front back back' : List ℕ) → IsApart place front → IsDistinct nat_eq front
    → ((x : Option ℕ) → same_place x (last_place place front) ≡ false → step' x ≡ step x)
    → IsWalk step place (front ++ back) → IsWalk step' (last_place place front) back' → IsWalk step' place (front ++ back')
graft step step' place [] back back' apart once alike walk after = after
graft step step' place (k ∷ front) back back' apart once alike walk after = (
  alike place (apart_last place k front apart) ∙ walk.0,
  graft step step' (Some k) front back back' (apart_from_head k front once) (IsDistinct-tail nat_eq k front once) alike walk.1 after,
)

-- the walk goes on from each of its keys
walk_from : (step : Option ℕ → Option ℕ) (place : Option ℕ) (front : List ℕ) (key : ℕ) (back : List ℕ) → IsWalk step place (front ++ key ∷ back) → IsWalk step (Some key) back
walk_from step place [] key back walk = walk.1
walk_from step place (k ∷ front) key back walk = walk_from step (Some k) front key back walk.1

-- the first step leads to the first key
pub first_step : (step : Option ℕ → Option ℕ) (place : Option ℕ) (keys : List ℕ) → IsWalk step place keys → step place ≡ slice_get keys 0
first_step step place [] walk = walk
first_step step place (k ∷ keys) walk = walk.0

last-append : (place : Option ℕ) (front : List ℕ) (key : ℕ) → last_place place (front ++ key ∷ []) ≡ Some key
last-append place [] key = refl
last-append place (k ∷ front) key = last-append (Some k) front key

-- the first of the keys from behind is the last one
pub last-reverse : (keys : List ℕ) → last_place None (reverse keys) ≡ slice_get keys 0
last-reverse [] = refl
last-reverse (k ∷ keys) = ap (last_place None) (reverse-append (k ∷ []) keys) ∙ last-append None (reverse keys) k

pub first-reverse : (keys : List ℕ) → slice_get (reverse keys) 0 ≡ last_place None keys
first-reverse keys = sym (last-reverse (reverse keys)) ∙ ap (last_place None) (reverse-reverse keys)

-- ---- rings

-- the walk from the beginning is these keys, and back, and each is there once
pub record IsRing (next previous : Option ℕ → Option ℕ) (keys : List ℕ) : Type 0 where
  pub forth : IsWalk next None keys
  pub back : IsWalk previous None (reverse keys)
  pub once : IsDistinct nat_eq keys

pub among-append : (xs ys : List ℕ) (key : ℕ) → is_among (xs ++ ys) key ≡ (is_among xs key || is_among ys key)
among-append xs ys key = list_any-append (nat_eq key) xs ys

-- whether a key is among these, from behind
pub among-reverse : (keys : List ℕ) (key : ℕ) → is_among (reverse keys) key ≡ is_among keys key
among-reverse [] key = refl
among-reverse (k ∷ keys) key =
    ap (λ ks. is_among ks key) (reverse-append (k ∷ []) keys)
    ∙ among-append (reverse keys) (k ∷ []) key
    ∙ ap (λ b. b || (nat_eq key k || false)) (among-reverse keys key)
    ∙ or_comm (is_among keys key) (nat_eq key k || false)
    ∙ ap (λ b. b || is_among keys key) (or-false (nat_eq key k))

pub IsRing-alike : (next previous next' previous' : Option ℕ → Option ℕ) (keys : List ℕ) → next' None ≡ next None → previous' None ≡ previous None
    → ((key : ℕ) → is_among keys key ≡ true → next' (Some key) ≡ next (Some key)) → ((key : ℕ) → is_among keys key ≡ true → previous' (Some key) ≡ previous (Some key))
    → IsRing next previous keys → IsRing next' previous' keys
IsRing-alike next previous next' previous' keys first last forth back ring =
    record {
      forth = IsWalk-alike next next' None None keys first forth ring.forth;
      back = IsWalk-alike previous previous' None None (reverse keys) last (λ key there. back key (sym (among-reverse keys key) ∙ there)) ring.back;
      once = ring.once;
    }

-- ---- one more key

-- the places where a key is put in: the last one leads to it, and the end leads back to it
pub IsRing-push : (next previous next' previous' : Option ℕ → Option ℕ) (keys : List ℕ) (key : ℕ) → is_among keys key ≡ false
    → next (Some key) ≡ None → previous (Some key) ≡ previous None
    → ((x : Option ℕ) → next' x ≡ cond (same_place x (previous None)) (Some key) (next x))
    → ((x : Option ℕ) → previous' x ≡ cond (same_place x None) (Some key) (previous x))
    → IsRing next previous keys → IsRing next' previous' (keys ++ key ∷ [])
IsRing-push next previous next' previous' keys key new no_next last writes_next writes_previous ring =
    let last_is : last_place None keys ≡ previous None = sym (first_step previous None (reverse keys) ring.back ∙ first-reverse keys) in
    let new_apart : same_place (Some key) (last_place None keys) ≡ false = new_is_apart None keys key refl new in
    let step : (x : Option ℕ) → same_place x (last_place None keys) ≡ false → next' x ≡ next x =
    λ x apart. writes_next x ∙ ap (λ b. cond b (Some key) (next x)) (ap (same_place x) (sym last_is) ∙ apart) in
    record {
      forth = graft next next' None keys [] (key ∷ []) (λ k there. refl) ring.once step
          (subst (IsWalk next None) (sym (append-nil keys)) ring.forth) (
            writes_next (last_place None keys) ∙ ap (λ b. cond b (Some key) (next (last_place None keys))) (ap (same_place (last_place None keys)) (sym last_is) ∙ same_place-refl (last_place None keys)),
            step (Some key) new_apart ∙ no_next,
          );
      back = subst (IsWalk previous' None) (sym (reverse-append keys (key ∷ []))) (
        writes_previous None,
        IsWalk-alike previous previous' None (Some key) (reverse keys) (writes_previous (Some key) ∙ last) (λ k there. writes_previous (Some k)) ring.back,
      );
      once = IsDistinct-push nat_eq_equiv keys key ring.once new;
    }
  where
    new_is_apart : (place : Option ℕ) (keys : List ℕ) (key : ℕ) → same_place (Some key) place ≡ false → is_among keys key ≡ false → same_place (Some key) (last_place place keys) ≡ false
    new_is_apart place [] key apart new = apart
    new_is_apart place (k ∷ keys) key apart new =
        let parts = or_parts (nat_eq key k) (is_among keys key) new in
        new_is_apart (Some k) keys key parts.0 parts.1

-- ---- one key less

-- a key that is among these stands between some before it and some after it
pub record Split (keys : List ℕ) (key : ℕ) : Type 0 where
  pub front : List ℕ
  pub back : List ℕ
  pub is : keys ≡ front ++ key ∷ back

pub split_at : (keys : List ℕ) (key : ℕ) → is_among keys key ≡ true → Split keys key
split_at [] key there = absurd (cc)
split_at (k ∷ keys) key there =
    or_cases (nat_eq key k) (is_among keys key) there
    (λ e. record { front = []; back = keys; is = ap (λ x. x ∷ keys) (sym (eqb-true key k e)) })
    (λ e. let rest = split_at keys key e in record { front = k ∷ rest.front; back = rest.back; is = ap (λ ks. k ∷ ks) rest.is })

apart_of_all : (key : ℕ) (keys : List ℕ) → AllByRecursion (λ y. nat_eq key y ≡ false) keys → is_among keys key ≡ false
apart_of_all key [] all = refl
apart_of_all key (k ∷ keys) all = ap (λ b. b || is_among keys key) all.0 ∙ apart_of_all key keys all.1

all_of_append : (P : ℕ → Type 0) (xs ys : List ℕ) → AllByRecursion P (xs ++ ys) → AllByRecursion P xs × AllByRecursion P ys
all_of_append P [] ys all = (tt, all)
all_of_append P (x ∷ xs) ys all = let rest = all_of_append P xs ys all.1 in ((all.0, rest.0), rest.1)

-- the keys on both sides of one differ from it and from each other
pub record Sides (front : List ℕ) (key : ℕ) (back : List ℕ) : Type 0 where
  pub front_once : IsDistinct nat_eq front
  pub whole_once : IsDistinct nat_eq (front ++ back)
  pub not_before : is_among front key ≡ false
  pub not_behind : is_among back key ≡ false
  pub apart : (k : ℕ) → is_among back k ≡ true → is_among front k ≡ false

sides : (front : List ℕ) (key : ℕ) (back : List ℕ) → IsDistinct nat_eq (front ++ key ∷ back) → Sides front key back
unfolding IsDistinct
sides [] key back once =
    record { front_once = tt; whole_once = once.1; not_before = refl; not_behind = apart_of_all key back once.0; apart = λ k there. refl }
sides (k ∷ front) key back once =
    let rest = sides front key back once.1 in
    let all = all_of_append (λ y. nat_eq k y ≡ false) front (key ∷ back) once.0 in
    record {
      front_once = (all.0, rest.front_once);
      whole_once = (join (λ y. nat_eq k y ≡ false) front back all.0 all.1.1, rest.whole_once);
      not_before = ap (λ b. b || is_among front key) (nat_eq_equiv.symm key k ∙ all.1.0) ∙ rest.not_before;
      not_behind = rest.not_behind;
      apart = λ j there. ap (λ b. b || is_among front j) (nat_eq_equiv.symm j k ∙ among_all (λ y. nat_eq k y ≡ false) back all.1.1 j there) ∙ rest.apart j there;
    }
  where
    join : (P : ℕ → Type 0) (xs ys : List ℕ) → AllByRecursion P xs → AllByRecursion P ys → AllByRecursion P (xs ++ ys)
    join P [] ys a b = b
    join P (x ∷ xs) ys a b = (a.0, join P xs ys a.1 b)

apart_from_last : (place : Option ℕ) (front : List ℕ) (k : ℕ) → same_place (Some k) place ≡ false → is_among front k ≡ false → same_place (Some k) (last_place place front) ≡ false
apart_from_last place [] k apart none = apart
apart_from_last place (x ∷ front) k apart none = let parts = or_parts (nat_eq k x) (is_among front k) none in apart_from_last (Some x) front k parts.0 parts.1

-- a walk without one key: the place before it leads to where it led
walk_without : (next next' : Option ℕ → Option ℕ) (front : List ℕ) (key : ℕ) (back : List ℕ) (before : Option ℕ) → IsDistinct nat_eq (front ++ key ∷ back)
    → before ≡ last_place None front → ((x : Option ℕ) → next' x ≡ cond (same_place x before) (next (Some key)) (next x))
    → IsWalk next None (front ++ key ∷ back) → IsWalk next' None (front ++ back)
walk_without next next' front key back before once is writes walk =
    let s = sides front key back once in
    let step : (x : Option ℕ) → same_place x (last_place None front) ≡ false → next' x ≡ next x =
    λ x apart. writes x ∙ ap (λ b. cond b (next (Some key)) (next x)) (ap (same_place x) is ∙ apart) in
    graft next next' None front (key ∷ back) back (λ k there. refl) s.front_once step walk
    (IsWalk-alike next next' (Some key) (last_place None front) back
    (writes (last_place None front) ∙ ap (λ b. cond b (next (Some key)) (next (last_place None front))) (ap (same_place (last_place None front)) is ∙ same_place-refl (last_place None front)))
    (λ k there. step (Some k) (apart_from_last None front k refl (s.apart k there)))
    (walk_from next None front key back walk))

reverse-split : (front : List ℕ) (key : ℕ) (back : List ℕ) → reverse (front ++ key ∷ back) ≡ reverse back ++ key ∷ reverse front
reverse-split front key back =
    reverse-append front (key ∷ back) ∙ ap (λ ks. ks ++ reverse front) (reverse-append (key ∷ []) back) ∙ append_assoc (reverse back) (key ∷ []) (reverse front)

-- the places on both sides of a key lead to each other: it is in the ring no more
pub IsRing-without : (next previous next' previous' : Option ℕ → Option ℕ) (keys : List ℕ) (key : ℕ) (s : Split keys key)
    → ((x : Option ℕ) → next' x ≡ cond (same_place x (previous (Some key))) (next (Some key)) (next x))
    → ((x : Option ℕ) → previous' x ≡ cond (same_place x (next (Some key))) (previous (Some key)) (previous x))
    → IsRing next previous keys → IsRing next' previous' (s.front ++ s.back)
IsRing-without next previous next' previous' keys key s writes_next writes_previous ring =
    let forth : IsWalk next None (s.front ++ key ∷ s.back) = subst (IsWalk next None) s.is ring.forth in
    let once : IsDistinct nat_eq (s.front ++ key ∷ s.back) = subst (IsDistinct nat_eq) s.is ring.once in
    let back : IsWalk previous None (reverse s.back ++ key ∷ reverse s.front) = subst (IsWalk previous None) (ap reverse s.is ∙ reverse-split s.front key s.back) ring.back in
    let turned : IsDistinct nat_eq (reverse s.back ++ key ∷ reverse s.front) = subst (IsDistinct nat_eq) (reverse-split s.front key s.back)
    (IsDistinct-IsPermutation nat_eq nat_eq_equiv.symm (s.front ++ key ∷ s.back) (reverse (s.front ++ key ∷ s.back)) (IsPermutation-reverse (s.front ++ key ∷ s.back)) once) in
    record {
      forth = walk_without next next' s.front key s.back (previous (Some key)) once
          (first_step previous (Some key) (reverse s.front) (walk_from previous None (reverse s.back) key (reverse s.front) back) ∙ first-reverse s.front)
          writes_next forth;
      back = subst (IsWalk previous' None) (sym (reverse-append s.front s.back))
          (walk_without previous previous' (reverse s.back) key (reverse s.front) (next (Some key)) turned
          (first_step next (Some key) s.back (walk_from next None s.front key s.back forth) ∙ sym (last-reverse s.back))
          writes_previous back);
      once = (sides s.front key s.back once).whole_once;
    }

-- keys without one that isn't among them
pub filter_none : (key : ℕ) (xs : List ℕ) → is_among xs key ≡ false → filter (λ k. not (nat_eq key k)) xs ≡ xs
filter_none key [] none = refl
filter_none key (x ∷ xs) none = let parts = or_parts (nat_eq key x) (is_among xs key) none in
    ap (λ b. cond (not b) (x ∷ filter (λ k. not (nat_eq key k)) xs) (filter (λ k. not (nat_eq key k)) xs)) parts.0 ∙ ap (λ ks. x ∷ ks) (filter_none key xs parts.1)

-- keys that differ, without one of them
pub filter-split : (keys : List ℕ) (key : ℕ) (s : Split keys key) → IsDistinct nat_eq keys → filter (λ k. not (nat_eq key k)) keys ≡ s.front ++ s.back
filter-split keys key s once =
    let sd = sides s.front key s.back (subst (IsDistinct nat_eq) s.is once) in
    ap (filter (λ k. not (nat_eq key k))) s.is ∙ filter_both s.front (key ∷ s.back)
    ∙ ap (λ ks. ks ++ filter (λ k. not (nat_eq key k)) (key ∷ s.back)) (filter_none key s.front sd.not_before)
    ∙ ap (λ ks. s.front ++ ks) (ap (λ b. cond (not b) (key ∷ filter (λ k. not (nat_eq key k)) s.back) (filter (λ k. not (nat_eq key k)) s.back)) (eq-eqb key key refl) ∙ filter_none key s.back sd.not_behind)
  where
    filter_both : (xs ys : List ℕ) → filter (λ k. not (nat_eq key k)) (xs ++ ys) ≡ filter (λ k. not (nat_eq key k)) xs ++ filter (λ k. not (nat_eq key k)) ys
    filter_both [] ys = refl
    filter_both (x ∷ xs) ys = elim (nat_eq key x) as (λ b. cond (not b) (x ∷ filter (λ k. not (nat_eq key k)) (xs ++ ys)) (filter (λ k. not (nat_eq key k)) (xs ++ ys)) ≡ cond (not b) (x ∷ filter (λ k. not (nat_eq key k)) xs) (filter (λ k. not (nat_eq key k)) xs) ++ filter (λ k. not (nat_eq key k)) ys)
        [ true ↦ filter_both xs ys | false ↦ ap (λ ks. x ∷ ks) (filter_both xs ys) ]

-- ---- what is among the keys of a walk

pub head_among : (ks : List ℕ) (j : ℕ) → slice_get ks 0 ≡ Some j → is_among ks j ≡ true
head_among [] j e = absurd (cc)
head_among (k ∷ ks) j e = let same : k ≡ j = cc in or_left (nat_eq j k) (is_among ks j) (eq-eqb j k (sym same))

-- a walk leads from each of its keys to one of its keys
pub walk_stays : (step : Option ℕ → Option ℕ) (place : Option ℕ) (ks : List ℕ) → IsWalk step place ks → (k : ℕ) → is_among ks k ≡ true → (j : ℕ) → step (Some k) ≡ Some j → is_among ks j ≡ true
walk_stays step place [] walk k there j e = absurd (cc)
walk_stays step place (x ∷ ks) walk k there j e =
    or_cases (nat_eq k x) (is_among ks k) there
    (λ same. or_right (nat_eq j x) (is_among ks j) (head_among ks j (sym (first_step step (Some x) ks walk.1) ∙ ap step (ap Some (sym (eqb-true k x same))) ∙ e)))
    (λ later. or_right (nat_eq j x) (is_among ks j) (walk_stays step (Some x) ks walk.1 k later j e))

or_and : (a b c : Bool) → (a ≡ true → c ≡ true) → (a || (b && c)) ≡ ((a || b) && c)
or_and true b c f = sym (f refl)
or_and false b c f = refl

-- what is left of the keys without one
filter_one : (x : ℕ) (ks : List ℕ) (key k : ℕ) → is_among (filter (λ y. not (nat_eq key y)) ks) k ≡ (is_among ks k && not (nat_eq key k))
    → (t : Bool) → nat_eq key x ≡ t → (b : Bool) → nat_eq k x ≡ b
    → is_among (cond (not t) (x ∷ filter (λ y. not (nat_eq key y)) ks) (filter (λ y. not (nat_eq key y)) ks)) k ≡ ((b || is_among ks k) && not (nat_eq key k))
filter_one x ks key k rest true same true here =
    let none : not (nat_eq key k) ≡ false = ap not (ap (nat_eq key) (eqb-true k x here) ∙ same) in
    rest ∙ ap (λ c. is_among ks k && c) none ∙ and-false (is_among ks k) ∙ sym none
filter_one x ks key k rest true same false here = rest
filter_one x ks key k rest false apart b here =
    ap (λ c. c || is_among (filter (λ y. not (nat_eq key y)) ks) k) here
    ∙ ap (λ c. b || c) rest
    ∙ or_and b (is_among ks k) (not (nat_eq key k)) (λ yes. ap not (ap (nat_eq key) (eqb-true k x (here ∙ yes)) ∙ apart))

pub among-filter : (ks : List ℕ) (key k : ℕ) → is_among (filter (λ x. not (nat_eq key x)) ks) k ≡ (is_among ks k && not (nat_eq key k))
among-filter [] key k = refl
among-filter (x ∷ ks) key k = filter_one x ks key k (among-filter ks key k) (nat_eq key x) refl (nat_eq k x) refl
