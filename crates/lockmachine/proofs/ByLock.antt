-- Who waits, sorted by lock: what a search finds, and what keeps it in step with the queue.
use Rattle.std.proofs.Common.{◌≡◌, ◌≢◌, ℕ, zero, suc, ◌+◌, ◌-◌, ◌*◌, ◌<◌, ◌≤◌, Bool, true, false, not, cond, ◌&&◌, ◌||◌, ◌==◌, ltb, Option, Some, None, List}
use Rattle.std.proofs.Common.{[], ◌∷◌, ◌++◌, map, filter, length, get_or, refl, sym, ap, subst, ◌∙◌, Contains, inl, inr, arith, Bor}
use Rattle.std.specs.Prelude.{nat_le}
use Rattle.std.specs.Bool.{then_some}
use Rattle.std.specs.List.{AllWithin, find, insert, list_any}
use Rattle.std.specs.Option.{option_copied, option_map, option_map_or}
use Rattle.std.specs.Cmp.{nat_eq_equiv}
use Rattle.std.specs.List.Sorted.{IsPartitionPoint, IsPartitionedBy}
use Rattle.std.proofs.lemmas.Bool.{and_from, and_parts, cases_eq, cases_lt, eq-eqb, eqb-false, eqb-true, false_from_ne_true, le-ltb, leb-false, ltb-false}
use Rattle.std.proofs.lemmas.Bool.{ltb-true, ne_eqb, not-false, not-true}
use Rattle.std.proofs.lemmas.List.{append-nil, length-map, map-append}
use Rattle.std.proofs.lemmas.List.Elements.{filter-append}
use Rattle.std.proofs.lemmas.List.Sorted.{IsNonDecreasingBy-insert}
use Rattle.std.proofs.lemmas.List.Folds.{Any-from_list_any, list_any-from_Any, list_any_at, list_any_none}
use Rattle.capbits.specs.declared.cap.Part.{Part}
use Rattle.capbits.specs.declared.cap.Part.TheVariants.{A, F, L, X}
use Rattle.locktable.specs.declared.targets.Head.TheVariants.{Empty}
use Rattle.capbits.specs.Refusal.{first_failing, refused_if}
use Rattle.capbits.specs.declared.refusal.Refusal.TheVariants as refusal
use Rattle.captable.proofs.Keeping.{filter-mapped}
use Rattle.captable.proofs.Searches.{filter-filter}
use Rattle.lockmachine.specs.declared.request.Request.{Request}
use Rattle.lockmachine.specs.declared.waiters.Waiter.{Waiter}
use Rattle.lockmachine.specs.Requests.{first_for, head_of, is_for, is_numbered, part_of_operation, part_place, waits_for}
use Rattle.lockmachine.specs.Locks.{LockMap}
use Rattle.lockmachine.specs.Waiters.{AreLower, AreSorted, StandAlike, is_at, is_at_inode, lock_number, lock_of, waiter_of}
use Rattle.lockmachine.proofs.Alone.{find_same}
use Rattle.lockmachine.proofs.Finding.{contains-filter, filter-contains, find_none}

-- ---- a lock and its number

part-below : (part : Part) → part_place part < 4
part-below A = omega arith
part-below L = omega arith
part-below X = omega arith
part-below F = omega arith

-- a number tells the inode and the part
numbers : (a p b q : ℕ) → p < 4 → q < 4 → ((a == b) && (p == q)) ≡ ((a * 4 + p) == (b * 4 + q))
numbers a p b q low_p low_q = elim (cases_eq (a * 4 + p) (b * 4 + q)) as (λ _. ((a == b) && (p == q)) ≡ ((a * 4 + p) == (b * 4 + q))) [
  | inl same ↦ (
      let one : a ≡ b = omega arith in
      let other : p ≡ q = omega arith in
      and_from (a == b) (p == q) (eq-eqb a b one) (eq-eqb p q other) ∙ sym (eq-eqb (a * 4 + p) (b * 4 + q) same)
      )
  | inr differ ↦ false_from_ne_true ((a == b) && (p == q)) (λ both. (
      let parts = and_parts (a == b) (p == q) both in
      let one : a ≡ b = eqb-true a b parts.0 in
      let other : p ≡ q = eqb-true p q parts.1 in
      differ (omega arith)
      )) ∙ sym (ne_eqb (a * 4 + p) (b * 4 + q) differ)
]

-- a request is for the lock at which its waiter is
for-lock : (ino : ℕ) (part : Part) (q : Request) → is_for ino part q ≡ is_at (lock_number ino part) (waiter_of q)
for-lock ino part q = numbers q.ino.0 (part_place (part_of_operation q.operation)) ino (part_place part) (part-below (part_of_operation q.operation)) (part-below part)

-- what stands at a place, by a read of it
abbrev pub IsRead : List Waiter → ℕ → Waiter → Type 0
IsRead ws i w = (i < length ws) × ((d : Waiter) → w ≡ get_or ws i d)

-- ---- what a search finds

-- the first that passes, where all before it fail
find-first : {T : Type 0} (p : T → Bool) (xs : List T) (i : ℕ) (x : T) → AllWithin (λ y. p y ≡ false) xs 0 i → i < length xs → get_or xs i x ≡ x → p x ≡ true → find p xs ≡ Some x
find-first p [] i x fail room at passes = absurd (omega arith)
find-first p (y ∷ ys) zero x fail room at passes = ap (λ b. cond b (Some y) (find p ys)) (ap p at ∙ passes) ∙ ap Some at
find-first p (y ∷ ys) (suc i) x fail room at passes =
    ap (λ b. cond b (Some y) (find p ys)) (fail 0 y (omega arith) (omega arith))
    ∙ find-first p ys i x (λ k d low high. fail (suc k) d (omega arith) (omega arith)) (omega arith) at passes

found-at : (lock : ℕ) (ws : List Waiter) (i : ℕ) (w : Waiter) → AreLower lock ws i → i < length ws → get_or ws i w ≡ w → lock_of w ≡ lock → find (is_at lock) ws ≡ Some w
found-at lock ws i w lower room at same =
    find-first (is_at lock) ws i w
    (λ k d low high. (let below : lock_of (get_or ws k d) < lock = lower.lower k d low high in ne_eqb (lock_of (get_or ws k d)) lock (λ equal. absurd (omega arith))))
    room at (eq-eqb (lock_of w) lock same)

-- none, where the one that is looked at waits for another lock
none-at : (lock : ℕ) (ws : List Waiter) (i : ℕ) → AreSorted ws → AreLower lock ws i → ((d : Waiter) → i < length ws → lock_of (get_or ws i d) ≢ lock) → find (is_at lock) ws ≡ None
none-at lock ws i sorted lower other = find_none (is_at lock) ws (λ x inside. ne_eqb (lock_of x) lock (elsewhere x inside))
  where
    elsewhere : (x : Waiter) → Contains ws x → lock_of x ≢ lock
    elsewhere x (k, room, at) same = elim (cases_lt k i) as (λ _. ⊥) [
      | inl before ↦ (
          let below : lock_of (get_or ws k x) < lock = lower.lower k x (omega arith) before in
          let is : lock_of (get_or ws k x) ≡ lock_of x = ap lock_of at in
          absurd (omega arith)
          )
      | inr behind ↦ (
          let up : lock_of (get_or ws i x) ≤ lock_of (get_or ws k x) = sorted i k x behind room in
          let high : lock ≤ lock_of (get_or ws i x) = lower.others i x (omega arith) (omega arith) in
          let is : lock_of (get_or ws k x) ≡ lock_of x = ap lock_of at in
          other x (omega arith) (omega arith)
          )
    ]

-- whether one waits at an inode
any-found : (ino : ℕ) (ws : List Waiter) (i : ℕ) (w : Waiter) → i < length ws → get_or ws i w ≡ w → (w.ino.0 == ino) ≡ true → list_any (is_at_inode ino) ws ≡ true
any-found ino ws i w room at here = list_any_at (is_at_inode ino) ws i w room (ap (is_at_inode ino) at ∙ here)

any-none : (ino : ℕ) (ws : List Waiter) (i : ℕ) → AreSorted ws → AreLower (lock_number ino A) ws i → ((d : Waiter) → i < length ws → (get_or ws i d).ino.0 ≢ ino) → list_any (is_at_inode ino) ws ≡ false
any-none ino ws i sorted lower other = list_any_none (is_at_inode ino) ws (λ k d room. ne_eqb (get_or ws k d).ino.0 ino (elsewhere k d room))
  where
    elsewhere : (k : ℕ) (d : Waiter) → k < length ws → (get_or ws k d).ino.0 ≢ ino
    elsewhere k d room same = elim (cases_lt k i) as (λ _. ⊥) [
      | inl before ↦ (let below : lock_of (get_or ws k d) < lock_number ino A = lower.lower k d (omega arith) before in absurd (omega arith))
      | inr behind ↦ (
          let up : lock_of (get_or ws i d) ≤ lock_of (get_or ws k d) = sorted i k d behind room in
          let high : lock_number ino A ≤ lock_of (get_or ws i d) = lower.others i d (omega arith) (omega arith) in
          let small = part-below (get_or ws k d).part in
          let own = part-below (get_or ws i d).part in
          other d (omega arith) (omega arith)
          )
    ]

-- by what a call reads at the place

pub read-if : (lock : ℕ) (ws : List Waiter) (i : ℕ) (first : Bor Waiter) → AreSorted ws → AreLower lock ws i → IsRead ws i first.now
    → option_copied (then_some (is_at lock first.now) first) ≡ find (is_at lock) ws
read-if lock ws i first sorted lower read = by_test (is_at lock first.now) refl
  where
    by_test : (b : Bool) → is_at lock first.now ≡ b → option_copied (then_some b first) ≡ find (is_at lock) ws
    by_test true here = sym (found-at lock ws i first.now lower read.0 (sym (read.1 first.now)) (eqb-true (lock_of first.now) lock here))
    by_test false away = sym (none-at lock ws i sorted lower (λ d room same. eqb-false (lock_of first.now) lock away (ap lock_of (read.1 d) ∙ same)))

pub read-past : (lock : ℕ) (ws : List Waiter) (i : ℕ) → AreSorted ws → AreLower lock ws i → length ws ≤ i → find (is_at lock) ws ≡ None
read-past lock ws i sorted lower past = none-at lock ws i sorted lower (λ d room same. absurd (omega arith))

pub any-read : (ino : ℕ) (ws : List Waiter) (i : ℕ) (w : Waiter) → AreSorted ws → AreLower (lock_number ino A) ws i → IsRead ws i w → (w.ino.0 == ino) ≡ list_any (is_at_inode ino) ws
any-read ino ws i w sorted lower read = by_test (w.ino.0 == ino) refl
  where
    by_test : (b : Bool) → (w.ino.0 == ino) ≡ b → b ≡ list_any (is_at_inode ino) ws
    by_test true here = sym (any-found ino ws i w read.0 (sym (read.1 w)) here)
    by_test false away = sym (any-none ino ws i sorted lower (λ d room same. eqb-false w.ino.0 ino away (ap (λ (v : Waiter). v.ino.0) (read.1 d) ∙ same)))

pub any-past : (ino : ℕ) (ws : List Waiter) (i : ℕ) → AreSorted ws → AreLower (lock_number ino A) ws i → length ws ≤ i → false ≡ list_any (is_at_inode ino) ws
any-past ino ws i sorted lower past = sym (any-none ino ws i sorted lower (λ d room same. absurd (omega arith)))

-- ---- what the searches for a place say

pub lower-at : (lock : ℕ) (ws : List Waiter) (i : ℕ) → i ≤ length ws → IsPartitionPoint (λ w. ltb (lock_of w) lock ≡ true) (λ w. ltb (lock_of w) lock ≡ false) ws i → AreLower lock ws i
lower-at lock ws i within point = record {
  within = within;
  lower = λ k d low high. ltb-true (lock_of (get_or ws k d)) lock (point.0 k d low high);
  others = λ k d low high. ltb-false (lock_of (get_or ws k d)) lock (point.1 k d low high);
}

-- where the first is not lower, none is
pub none-lower : (lock : ℕ) (ws : List Waiter) → AreSorted ws → ((d : Waiter) → lock ≤ lock_of (get_or ws 0 d)) → AreLower lock ws 0
none-lower lock ws sorted least = record {
  within = omega arith;
  lower = λ k d low high. absurd (omega arith);
  others = λ k d low high. (
      let up : lock_of (get_or ws 0 d) ≤ lock_of (get_or ws k d) = sorted 0 k d low high in
      let first : lock ≤ lock_of (get_or ws 0 d) = least d in
      omega arith
      );
}

-- where the last is lower, all are
pub all-lower : (lock : ℕ) (ws : List Waiter) → AreSorted ws → ((d : Waiter) → lock_of (get_or ws (length ws - 1) d) < lock) → AreLower lock ws (length ws)
all-lower lock ws sorted most = record {
  within = omega arith;
  lower = λ k d low high. (
      let up : lock_of (get_or ws k d) ≤ lock_of (get_or ws (length ws - 1) d) = sorted k (length ws - 1) d (omega arith) (omega arith) in
      let last : lock_of (get_or ws (length ws - 1) d) < lock = most d in
      omega arith
      );
  others = λ k d low high. absurd (omega arith);
}

-- ---- for each lock the same wait

-- the first of a list
abbrev first : {T : Type 0} → List T → Option T
first [] = None
first (x ∷ xs) = Some x

find-filtered : {T : Type 0} (p : T → Bool) (xs : List T) → find p xs ≡ first (filter p xs)
find-filtered p [] = refl
find-filtered p (x ∷ xs) = elim (p x) as (λ b. cond b (Some x) (find p xs) ≡ first (cond b (x ∷ filter p xs) (filter p xs))) [ true ↦ refl | false ↦ find-filtered p xs ]

find-mapped : {T U : Type 0} (p : U → Bool) (f : T → U) (xs : List T) → find p (map f xs) ≡ option_map f (find (λ x. p (f x)) xs)
find-mapped p f [] = refl
find-mapped p f (x ∷ xs) = elim (p (f x)) as (λ b. cond b (Some (f x)) (find p (map f xs)) ≡ option_map f (cond b (Some x) (find (λ y. p (f y)) xs))) [ true ↦ refl | false ↦ find-mapped p f xs ]

-- who is first for a lock
first-waiter : (queue : List Request) (ws : List Waiter) → StandAlike ws (map waiter_of queue) → (ino : ℕ) (part : Part)
    → find (is_at (lock_number ino part)) ws ≡ option_map waiter_of (first_for queue ino part)
first-waiter queue ws alike ino part =
    let p : Waiter → Bool = is_at (lock_number ino part) in
    find-filtered p ws ∙ ap first (alike (lock_number ino part)) ∙ sym (find-filtered p (map waiter_of queue)) ∙ find-mapped p waiter_of queue
    ∙ ap (option_map waiter_of) (find_same (λ q. p (waiter_of q)) (is_for ino part) queue (λ q inside. sym (for-lock ino part q)))

-- and in the locks that keep both
pub seen-first : (locks : LockMap) (queue : List Request) (ws : List Waiter) → queue ≡ locks.queue → StandAlike ws (map waiter_of queue) → (ino : ℕ) (part : Part)
    → find (is_at (lock_number ino part)) ws ≡ option_map waiter_of (first_for locks.queue ino part)
seen-first locks queue ws same alike ino part = first-waiter queue ws alike ino part ∙ ap (λ (qs : List Request). option_map waiter_of (first_for qs ino part)) same

contains-alike : (xs ys : List Waiter) → StandAlike xs ys → (w : Waiter) → Contains xs w → Contains ys w
contains-alike xs ys alike w inside =
    let p : Waiter → Bool = is_at (lock_of w) in
    contains-filter p ys w (subst (λ (zs : List Waiter). Contains zs w) (alike (lock_of w)) (filter-contains p xs w inside (nat_eq_equiv.refl (lock_of w))))

any-stays : (p : Waiter → Bool) (xs ys : List Waiter) → StandAlike xs ys → list_any p xs ≡ true → list_any p ys ≡ true
any-stays p xs ys alike any =
    let one = Any-from_list_any p xs any in
    let there = contains-alike xs ys alike one.1 (one.0, one.2, one.3) in
    list_any-from_Any p ys (there.0, one.1, there.1, there.2, one.4)

any-mapped : {T U : Type 0} (p : U → Bool) (f : T → U) (xs : List T) → list_any p (map f xs) ≡ list_any (λ x. p (f x)) xs
any-mapped p f [] = refl
any-mapped p f (x ∷ xs) = ap (λ b. p (f x) || b) (any-mapped p f xs)

same_bool : (a b : Bool) → (a ≡ true → b ≡ true) → (b ≡ true → a ≡ true) → a ≡ b
same_bool true b to from = sym (to refl)
same_bool false true to from = from refl
same_bool false false to from = refl

-- whether one waits at an inode
pub any-waiter : (queue : List Request) (ws : List Waiter) → StandAlike ws (map waiter_of queue) → (ino : ℕ) → list_any (is_at_inode ino) ws ≡ list_any (waits_for ino) queue
any-waiter queue ws alike ino =
    same_bool (list_any (is_at_inode ino) ws) (list_any (is_at_inode ino) (map waiter_of queue))
    (any-stays (is_at_inode ino) ws (map waiter_of queue) alike) (any-stays (is_at_inode ino) (map waiter_of queue) ws (λ lock. sym (alike lock)))
    ∙ any-mapped (is_at_inode ino) waiter_of queue

-- as many wait
record IsWithout (lock : ℕ) (rest ys zs : List Waiter) : Type 0 where
  count : length ys ≡ suc (length zs)
  same : filter (is_at lock) zs ≡ rest
  others : (other : ℕ) → (lock == other) ≡ false → filter (is_at other) zs ≡ filter (is_at other) ys

-- the first of a lock is taken out
without_first : (w : Waiter) (rest ys : List Waiter) → filter (is_at (lock_of w)) ys ≡ w ∷ rest → (zs : List Waiter) × IsWithout (lock_of w) rest ys zs
without_first w rest [] is = absurd (cc)
without_first w rest (y ∷ ys) is = elim (is_at (lock_of w) y) as
    (λ b. is_at (lock_of w) y ≡ b → cond b (y ∷ filter (is_at (lock_of w)) ys) (filter (is_at (lock_of w)) ys) ≡ w ∷ rest → (zs : List Waiter) × IsWithout (lock_of w) rest (y ∷ ys) zs) [
      | true ↦ λ here is. (
        ys,
        record {
          count = refl;
          same = cc;
          others = λ other differ. sym (ap (λ b. cond b (y ∷ filter (is_at other) ys) (filter (is_at other) ys)) (ap (λ n. n == other) (eqb-true (lock_of y) (lock_of w) here) ∙ differ));
        },
      )
      | false ↦ λ away is. (
          let later = without_first w rest ys is in (
            y ∷ later.0,
            record {
              count = ap suc later.1.count;
              same = ap (λ b. cond b (y ∷ filter (is_at (lock_of w)) later.0) (filter (is_at (lock_of w)) later.0)) away ∙ later.1.same;
              others = λ other differ. ap (λ zs. cond (is_at other y) (y ∷ zs) zs) (later.1.others other differ);
            },
          )
          )
    ] refl is

as-many : (xs ys : List Waiter) → StandAlike xs ys → length xs ≡ length ys
as-many [] [] alike = refl
as-many [] (y ∷ ys) alike = absurd (none (alike (lock_of y)))
  where
    none : [] ≡ filter (is_at (lock_of y)) (y ∷ ys) → ⊥
    none is =
        let has : filter (is_at (lock_of y)) (y ∷ ys) ≡ y ∷ filter (is_at (lock_of y)) ys =
        ap (λ b. cond b (y ∷ filter (is_at (lock_of y)) ys) (filter (is_at (lock_of y)) ys)) (nat_eq_equiv.refl (lock_of y)) in
        let count : 0 ≡ suc (length (filter (is_at (lock_of y)) ys)) = ap length (is ∙ has) in
        omega arith
as-many (x ∷ xs) ys alike = ap suc (as-many xs taken.0 rest) ∙ sym taken.1.count
  where
    own : filter (is_at (lock_of x)) ys ≡ x ∷ filter (is_at (lock_of x)) xs
    own = sym (alike (lock_of x)) ∙ ap (λ b. cond b (x ∷ filter (is_at (lock_of x)) xs) (filter (is_at (lock_of x)) xs)) (nat_eq_equiv.refl (lock_of x))

    taken : (zs : List Waiter) × IsWithout (lock_of x) (filter (is_at (lock_of x)) xs) ys zs
    taken = without_first x (filter (is_at (lock_of x)) xs) ys own

    rest : StandAlike xs taken.0
    rest other = elim (lock_of x == other) as (λ b. (lock_of x == other) ≡ b → filter (is_at other) xs ≡ filter (is_at other) taken.0) [
      | true ↦ λ same. subst (λ (n : ℕ). filter (is_at n) xs ≡ filter (is_at n) taken.0) (eqb-true (lock_of x) other same) (sym taken.1.same)
      | false ↦ λ differ.
          sym (ap (λ b. cond b (x ∷ filter (is_at other) xs) (filter (is_at other) xs)) differ) ∙ alike other ∙ sym (taken.1.others other differ)
    ] refl

-- ---- what keeps it so

-- one more, behind all others for its lock
nothing-left : {T : Type 0} (p : T → Bool) (xs : List T) → ((k : ℕ) (d : T) → k < length xs → p (get_or xs k d) ≡ false) → filter p xs ≡ []
nothing-left p [] fail = refl
nothing-left p (x ∷ xs) fail =
    ap (λ b. cond b (x ∷ filter p xs) (filter p xs)) (fail 0 x (omega arith)) ∙ nothing-left p xs (λ k d room. fail (suc k) d (omega arith))

in-front : (ws : List Waiter) (w : Waiter) → ((k : ℕ) (d : Waiter) → k < length ws → lock_of w < lock_of (get_or ws k d)) → (lock : ℕ)
    → filter (is_at lock) (w ∷ ws) ≡ filter (is_at lock) (ws ++ w ∷ [])
in-front ws w above lock = by_test (is_at lock w) refl ∙ sym (filter-append (is_at lock) ws (w ∷ []))
  where
    by_test : (b : Bool) → is_at lock w ≡ b → cond (is_at lock w) (w ∷ (filter (is_at lock) ws)) (filter (is_at lock) ws) ≡ (filter (is_at lock) ws) ++ cond (is_at lock w) (w ∷ []) []
    by_test true here =
        let same : lock_of w ≡ lock = eqb-true (lock_of w) lock here in
        let none : (filter (is_at lock) ws) ≡ [] = nothing-left (is_at lock) ws (λ k d room.
        (let up : lock_of w < lock_of (get_or ws k d) = above k d room in ne_eqb (lock_of (get_or ws k d)) lock (λ equal. absurd (omega arith)))) in
        ap (λ b. cond b (w ∷ (filter (is_at lock) ws)) (filter (is_at lock) ws)) here ∙ ap (λ ys. w ∷ ys) none ∙ sym (ap (λ ys. ys ++ (w ∷ [])) none) ∙ sym (ap (λ b. (filter (is_at lock) ws) ++ cond b (w ∷ []) []) here)
    by_test false away = ap (λ b. cond b (w ∷ (filter (is_at lock) ws)) (filter (is_at lock) ws)) away ∙ sym (append-nil (filter (is_at lock) ws)) ∙ sym (ap (λ b. (filter (is_at lock) ws) ++ cond b (w ∷ []) []) away)

pub inserted : (ws : List Waiter) (i : ℕ) (w : Waiter) → i ≤ length ws → AllWithin (λ x. lock_of w < lock_of x) ws i (length ws) → StandAlike (insert ws i w) (ws ++ w ∷ [])
inserted [] zero w within above lock = refl
inserted [] (suc i) w within above lock = absurd (omega arith)
inserted (x ∷ xs) zero w within above lock = in-front (x ∷ xs) w (λ k d room. above k d (omega arith) room) lock
inserted (x ∷ xs) (suc i) w within above lock =
    ap (λ ys. cond (is_at lock x) (x ∷ ys) ys) (inserted xs i w (omega arith) (λ k d low high. above (suc k) d (omega arith) (omega arith)) lock)

-- where it is put by its lock
pub parted-above : (ws : List Waiter) (w : Waiter) → AreSorted ws → IsPartitionedBy (λ x. not (ltb (lock_of w) (lock_of x))) ws
parted-above ws w sorted i j d low high passes =
    let up : lock_of (get_or ws i d) ≤ lock_of (get_or ws j d) = sorted i j d low high in
    let within : lock_of (get_or ws j d) ≤ lock_of w = ltb-false (lock_of w) (lock_of (get_or ws j d)) (not-true (ltb (lock_of w) (lock_of (get_or ws j d))) passes) in
    ap not (le-ltb (lock_of w) (lock_of (get_or ws i d)) (omega arith))

pub placed : (ws : List Waiter) (i : ℕ) (w : Waiter) → AreSorted ws → i ≤ length ws
    → IsPartitionPoint (λ x. not (ltb (lock_of w) (lock_of x)) ≡ true) (λ x. not (ltb (lock_of w) (lock_of x)) ≡ false) ws i
    → AreSorted (insert ws i w) × StandAlike (insert ws i w) (ws ++ w ∷ [])
placed ws i w sorted within point =
    (IsNonDecreasingBy-insert lock_of ws i w sorted within (λ k d low. below k d low) (λ k d low high. at_least k d low high), inserted ws i w within above)
  where
    below : (k : ℕ) (d : Waiter) → k < i → lock_of (get_or ws k d) ≤ lock_of w
    below k d low = ltb-false (lock_of w) (lock_of (get_or ws k d)) (not-true (ltb (lock_of w) (lock_of (get_or ws k d))) (point.0 k d (omega arith) low))

    above : (k : ℕ) (d : Waiter) → i ≤ k → k < length ws → lock_of w < lock_of (get_or ws k d)
    above k d low high = ltb-true (lock_of w) (lock_of (get_or ws k d)) (not-false (ltb (lock_of w) (lock_of (get_or ws k d))) (point.1 k d low high))

    at_least : (k : ℕ) (d : Waiter) → i ≤ k → k < length ws → lock_of w ≤ lock_of (get_or ws k d)
    at_least k d low high = (let over : lock_of w < lock_of (get_or ws k d) = above k d low high in omega arith)

pub as-many-wait : (queue : List Request) (ws : List Waiter) → StandAlike ws (map waiter_of queue) → length ws ≡ length queue
as-many-wait queue ws alike = as-many ws (map waiter_of queue) alike ∙ length-map queue waiter_of

-- where there is room for one more
pub fills : (count : ℕ) → first_failing (refused_if (nat_le 1024 count) refusal.Limit ∷ []) ≡ None → count < 1024
fills count is = elim (nat_le 1024 count) as (λ b. nat_le 1024 count ≡ b → first_failing (refused_if b refusal.Limit ∷ []) ≡ None → count < 1024) [
  | true ↦ λ full is. absurd (cc)
  | false ↦ λ room is. leb-false 1024 count room
] refl is

pub added : (queue : List Request) (q : Request) (ws new : List Waiter) → StandAlike ws (map waiter_of queue) → StandAlike new (ws ++ waiter_of q ∷ [])
    → StandAlike new (map waiter_of (queue ++ q ∷ []))
added queue q ws new alike more lock =
    let p : Waiter → Bool = is_at lock in
    more lock ∙ filter-append p ws (waiter_of q ∷ []) ∙ ap (λ zs. zs ++ filter p (waiter_of q ∷ [])) (alike lock)
    ∙ sym (filter-append p (map waiter_of queue) (waiter_of q ∷ [])) ∙ ap (filter p) (sym (map-append waiter_of queue (q ∷ [])))

-- those that pass a test of both
pub kept : (queue : List Request) (ws : List Waiter) (c : Waiter → Bool) → StandAlike ws (map waiter_of queue) → StandAlike (filter c ws) (map waiter_of (filter (λ q. c (waiter_of q)) queue))
kept queue ws c alike lock =
    let p : Waiter → Bool = is_at lock in
    filter-filter p c ws ∙ ap (filter c) (alike lock) ∙ filter-filter c p (map waiter_of queue) ∙ ap (filter p) (filter-mapped c waiter_of queue)

-- ---- the first request by its waiter

pub head-is : (o : Option Request) (w : Waiter) → option_map waiter_of o ≡ Some w → w.head ≡ head_of o
head-is None w is = absurd (cc)
head-is (Some q) w is = let same : waiter_of q ≡ w = cc in sym (ap (λ (v : Waiter). v.head) same)

pub no-head : (o : Option Request) → option_map waiter_of o ≡ None → Empty ≡ head_of o
no-head None is = refl
no-head (Some q) is = absurd (cc)

pub number-is : (o : Option Request) (w : Waiter) (ticket : ℕ) → option_map waiter_of o ≡ Some w → (w.ticket.0 == ticket) ≡ option_map_or (is_numbered ticket) o false
number-is None w ticket is = absurd (cc)
number-is (Some q) w ticket is = let same : waiter_of q ≡ w = cc in sym (ap (λ (v : Waiter). v.ticket.0 == ticket) same)

pub no-number : (o : Option Request) (ticket : ℕ) → option_map waiter_of o ≡ None → false ≡ option_map_or (is_numbered ticket) o false
no-number None ticket is = refl
no-number (Some q) ticket is = absurd (cc)
