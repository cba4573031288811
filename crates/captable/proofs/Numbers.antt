-- Nodes by their numbers, after a change of the nodes.
use Rattle.std.proofs.Common.{◌≡◌, ℕ, ◌+◌, ◌<◌, ◌≤◌, Bool, true, false, not, cond, List, [], ◌∷◌, ◌++◌, map, filter, length, refl, sym, ap, ◌∙◌, arith, nat_eq}
use Rattle.std.proofs.Common.{nat_lt, zero, suc, append-nil, length-append}
use Rattle.std.proofs.lemmas.List.Elements.{filter-append}
use Rattle.std.proofs.lemmas.List.{map-append}
use Rattle.std.proofs.lemmas.Bool.{eq-eqb, eqb-false, eqb-true, lt-ltb, ltb-false, ltb-true}
use Rattle.cap_arena.specs.declared.nodes.Node.{Node}
use Rattle.captable.specs.declared.entry.Slot.{Slot}
use Rattle.captable.specs.Nodes.{by_number, has_number}
use Rattle.captable.specs.Linked.{AreBelow}
use Rattle.captable.proofs.Searches.{filter-filter, filter-map}

-- a number that differs
number-apart : (a b : ℕ) → b < a → nat_eq a b ≡ false
number-apart a b less = by_test (nat_eq a b) refl
  where
    by_test : (t : Bool) → nat_eq a b ≡ t → t ≡ false
    by_test false e = refl
    by_test true e = absurd (let same : a ≡ b = eqb-true a b e in omega arith)

number-below : (a b : ℕ) → a < b → nat_eq a b ≡ false
number-below a b less = by_test (nat_eq a b) refl
  where
    by_test : (t : Bool) → nat_eq a b ≡ t → t ≡ false
    by_test false e = refl
    by_test true e = absurd (let same : a ≡ b = eqb-true a b e in omega arith)

-- no number is from the end on
pub none_from : (ns : List (Node Slot)) (end number : ℕ) → AreBelow end ns → end ≤ number → filter (has_number number) ns ≡ []
none_from [] end number below from = refl
none_from (n ∷ ns) end number below from =
    ap (λ b. cond b (n ∷ filter (has_number number) ns) (filter (has_number number) ns)) (number-below n.value.number number (omega (arith, below.0)))
    ∙ none_from ns end number below.1 from

-- ---- what a change makes of the order

-- a node with a number above
pub by_number-append : (m : ℕ) (ns : List (Node Slot)) (x : Node Slot) → m ≤ x.value.number → by_number m (ns ++ x ∷ []) ≡ by_number m ns
by_number-append zero ns x above = refl
by_number-append (suc m) ns x above =
    let bucket : filter (has_number m) (ns ++ x ∷ []) ≡ filter (has_number m) ns =
    filter-append (has_number m) ns (x ∷ []) ∙ ap (λ b. filter (has_number m) ns ++ cond b (x ∷ []) []) (number-apart x.value.number m (omega arith)) ∙ append-nil (filter (has_number m) ns) in
    let rest : by_number m (ns ++ x ∷ []) ≡ by_number m ns = by_number-append m ns x (omega arith) in
    λ i. rest i ++ bucket i

-- one more node, whose number comes next
pub by_number-next : (ns : List (Node Slot)) (x : Node Slot) (end : ℕ) → x.value.number ≡ end → AreBelow end ns → by_number (suc end) (ns ++ x ∷ []) ≡ by_number end ns ++ x ∷ []
by_number-next ns x end is below =
    let own : nat_eq x.value.number end ≡ true = eq-eqb x.value.number end is in
    let bucket : filter (has_number end) (ns ++ x ∷ []) ≡ x ∷ [] =
    filter-append (has_number end) ns (x ∷ []) ∙ (λ i. none_from ns end end below (omega arith) i ++ cond (own i) (x ∷ []) []) in
    let rest : by_number end (ns ++ x ∷ []) ≡ by_number end ns = by_number-append end ns x (omega (arith, is)) in
    λ i. rest i ++ bucket i

pub by_number-filter : (p : Node Slot → Bool) (m : ℕ) (ns : List (Node Slot)) → by_number m (filter p ns) ≡ filter p (by_number m ns)
by_number-filter p zero ns = refl
by_number-filter p (suc m) ns =
    (λ i. by_number-filter p m ns i ++ filter-filter (has_number m) p ns i) ∙ sym (filter-append p (by_number m ns) (filter (has_number m) ns))

pub by_number-map : (f : Node Slot → Node Slot) → ((x : Node Slot) → (f x).value.number ≡ x.value.number) → (m : ℕ) (ns : List (Node Slot)) → by_number m (map f ns) ≡ map f (by_number m ns)
by_number-map f keeps zero ns = refl
by_number-map f keeps (suc m) ns =
    (λ i. by_number-map f keeps m ns i ++ filter-map (has_number m) f (λ x. ap (λ a. nat_eq a m) (keeps x)) ns i) ∙ sym (map-append f (by_number m ns) (filter (has_number m) ns))

pub by_number-same : (m : ℕ) (ns ms : List (Node Slot)) → ((number : ℕ) → filter (has_number number) ns ≡ filter (has_number number) ms) → by_number m ns ≡ by_number m ms
by_number-same zero ns ms same = refl
by_number-same (suc m) ns ms same = λ i. by_number-same m ns ms same i ++ same m i

-- ---- a node that comes last

parted : {X : Type 0} (p : X → Bool) (xs : List X) → length xs ≤ 1 → filter (λ x. not (p x)) xs ++ filter p xs ≡ xs
parted p [] short = refl
parted p (x ∷ []) short = elim (p x) as (λ b. cond (not b) (x ∷ []) [] ++ cond b (x ∷ []) [] ≡ x ∷ []) [ true ↦ refl | false ↦ refl ]
parted p (x ∷ y ∷ xs) short = absurd (omega arith)

-- where numbers differ, nodes of a number are the same ones in another order
pub number-moved : (p : Node Slot → Bool) (ns : List (Node Slot)) (number : ℕ) → length (filter (has_number number) ns) ≤ 1
    → filter (has_number number) (filter (λ x. not (p x)) ns ++ filter p ns) ≡ filter (has_number number) ns
number-moved p ns number one =
    filter-append (has_number number) (filter (λ x. not (p x)) ns) (filter p ns)
    ∙ (λ i. filter-filter (has_number number) (λ x. not (p x)) ns i ++ filter-filter (has_number number) p ns i)
    ∙ parted p (filter (has_number number) ns) one

-- ---- numbers stay below, and differ

pub below-more : (ns : List (Node Slot)) (end : ℕ) → AreBelow end ns → AreBelow (suc end) ns
below-more [] end below = tt
below-more (n ∷ ns) end below = (omega (arith, below.0), below-more ns end below.1)

pub below-append : (ns ms : List (Node Slot)) (end : ℕ) → AreBelow end ns → AreBelow end ms → AreBelow end (ns ++ ms)
below-append [] ms end below more = more
below-append (n ∷ ns) ms end below more = (below.0, below-append ns ms end below.1 more)

pub below-filter : (p : Node Slot → Bool) (ns : List (Node Slot)) (end : ℕ) → AreBelow end ns → AreBelow end (filter p ns)
below-filter p [] end below = tt
below-filter p (n ∷ ns) end below =
    elim (p n) as (λ b. AreBelow end (cond b (n ∷ filter p ns) (filter p ns))) [ true ↦ (below.0, below-filter p ns end below.1) | false ↦ below-filter p ns end below.1 ]

pub below-map : (f : Node Slot → Node Slot) → ((x : Node Slot) → (f x).value.number ≡ x.value.number) → (ns : List (Node Slot)) (end : ℕ) → AreBelow end ns → AreBelow end (map f ns)
below-map f keeps [] end below = tt
below-map f keeps (n ∷ ns) end below = (omega (arith, keeps n, below.0), below-map f keeps ns end below.1)

pub shorter : {X : Type 0} (p : X → Bool) (xs : List X) → length (filter p xs) ≤ length xs
shorter p [] = omega arith
shorter p (x ∷ xs) =
    elim (p x) as (λ b. length (cond b (x ∷ filter p xs) (filter p xs)) ≤ suc (length xs)) [ true ↦ omega (arith, shorter p xs) | false ↦ omega (arith, shorter p xs) ]

pub once-next : (ns : List (Node Slot)) (x : Node Slot) (end : ℕ) → x.value.number ≡ end → AreBelow end ns → ((number : ℕ) → length (filter (has_number number) ns) ≤ 1)
    → (number : ℕ) → length (filter (has_number number) (ns ++ x ∷ [])) ≤ 1
once-next ns x end is below once number = rw (filter-append (has_number number) ns (x ∷ [])) (by_test (nat_eq x.value.number number) refl)
  where
    by_test : (b : Bool) → nat_eq x.value.number number ≡ b → length (filter (has_number number) ns ++ cond b (x ∷ []) []) ≤ 1
    by_test false e = rw (append-nil (filter (has_number number) ns)) (once number)
    by_test true e =
        let own : x.value.number ≡ number = eqb-true x.value.number number e in
        rw (none_from ns end number below (omega (arith, own, is))) (omega arith)

pub once-filter : (p : Node Slot → Bool) (ns : List (Node Slot)) → ((number : ℕ) → length (filter (has_number number) ns) ≤ 1) → (number : ℕ) → length (filter (has_number number) (filter p ns)) ≤ 1
once-filter p ns once number =
    let short : length (filter p (filter (has_number number) ns)) ≤ length (filter (has_number number) ns) = shorter p (filter (has_number number) ns) in
    let one : length (filter (has_number number) ns) ≤ 1 = once number in
    rw (filter-filter (has_number number) p ns) (omega arith)

length-mapped : (f : Node Slot → Node Slot) (ns : List (Node Slot)) → length (map f ns) ≡ length ns
length-mapped f [] = refl
length-mapped f (n ∷ ns) = ap suc (length-mapped f ns)

pub once-map : (f : Node Slot → Node Slot) → ((x : Node Slot) → (f x).value.number ≡ x.value.number) → (ns : List (Node Slot)) → ((number : ℕ) → length (filter (has_number number) ns) ≤ 1)
    → (number : ℕ) → length (filter (has_number number) (map f ns)) ≤ 1
once-map f keeps ns once number =
    rw (filter-map (has_number number) f (λ x. ap (λ a. nat_eq a number) (keeps x)) ns, length-mapped f (filter (has_number number) ns)) (once number)

-- ---- how many there are

abbrev one_if : Bool → ℕ
one_if true = 1
one_if false = 0

counted : ℕ → List (Node Slot) → ℕ
counted m [] = 0
counted m (n ∷ ns) = one_if (nat_lt n.value.number m) + counted m ns

counted-none : (ns : List (Node Slot)) → counted zero ns ≡ 0
unfolding counted
counted-none [] = refl
counted-none (n ∷ ns) = omega (arith, counted-none ns, none (nat_lt n.value.number 0) refl)
  where
    none : (b : Bool) → nat_lt n.value.number 0 ≡ b → one_if (nat_lt n.value.number 0) ≡ 0
    none false e = ap one_if e
    none true e = absurd (let less : n.value.number < 0 = ltb-true n.value.number 0 e in omega arith)

one-counted : (a m : ℕ) → one_if (nat_lt a (suc m)) ≡ one_if (nat_lt a m) + one_if (nat_eq a m)
one-counted a m = by_tests (nat_lt a (suc m)) refl (nat_lt a m) refl (nat_eq a m) refl
  where
    by_tests : (s : Bool) → nat_lt a (suc m) ≡ s → (l : Bool) → nat_lt a m ≡ l → (e : Bool) → nat_eq a m ≡ e → one_if s ≡ one_if l + one_if e
    by_tests true s true l true e = absurd (let less = ltb-true a m l in let same = eqb-true a m e in omega arith)
    by_tests true s true l false e = omega arith
    by_tests true s false l true e = omega arith
    by_tests true s false l false e = absurd (let more = ltb-true a (suc m) s in let not_less = ltb-false a m l in let differ = eqb-false a m e in let is : a ≡ m = omega arith in differ is)
    by_tests false s true l e f = absurd (let less = ltb-true a m l in let not_less = ltb-false a (suc m) s in omega arith)
    by_tests false s false l true e = absurd (let same = eqb-true a m e in let not_less = ltb-false a (suc m) s in omega arith)
    by_tests false s false l false e = omega arith

counted-more : (m : ℕ) (ns : List (Node Slot)) → counted (suc m) ns ≡ counted m ns + length (filter (has_number m) ns)
unfolding counted
counted-more m [] = omega arith
counted-more m (n ∷ ns) =
    let one = one-counted n.value.number m in
    let rest = counted-more m ns in
    let split : length (cond (nat_eq n.value.number m) (n ∷ filter (has_number m) ns) (filter (has_number m) ns)) ≡ one_if (nat_eq n.value.number m) + length (filter (has_number m) ns) = size (nat_eq n.value.number m) in
    omega arith
  where
    size : (b : Bool) → length (cond b (n ∷ filter (has_number m) ns) (filter (has_number m) ns)) ≡ one_if b + length (filter (has_number m) ns)
    size true = omega arith
    size false = omega arith

counted-all : (m : ℕ) (ns : List (Node Slot)) → AreBelow m ns → counted m ns ≡ length ns
unfolding counted
counted-all m [] below = refl
counted-all m (n ∷ ns) below =
    let is : nat_lt n.value.number m ≡ true = lt-ltb n.value.number m below.0 in
    let one : one_if (nat_lt n.value.number m) ≡ 1 = ap one_if is in
    let rest = counted-all m ns below.1 in
    omega arith

length-counted : (m : ℕ) (ns : List (Node Slot)) → length (by_number m ns) ≡ counted m ns
length-counted zero ns = sym (counted-none ns)
length-counted (suc m) ns = length-append (by_number m ns) (filter (has_number m) ns) ∙ ap (λ a. a + length (filter (has_number m) ns)) (length-counted m ns) ∙ sym (counted-more m ns)

pub length-by_number : (m : ℕ) (ns : List (Node Slot)) → AreBelow m ns → length (by_number m ns) ≡ length ns
length-by_number m ns below = length-counted m ns ∙ counted-all m ns below
