-- How the locks of several inodes settle between two servings.
use Rattle.std.proofs.Common.{◌≡◌, ◌≢◌, ◌<◌, ◌≤◌, ◌+◌, ℕ, Bool, true, false, cond, ◌||◌, nat_lt, count_by, Option, Some, None, List, [], ◌∷◌, ◌++◌, refl, sym}
use Rattle.std.proofs.Common.{ap, ◌∙◌, true≢false, arith}
use Rattle.std.proofs.lemmas.Bool.{le-ltb, lt-ltb}
use Rattle.std.proofs.lemmas.List.Elements.{filter_map-append}
use Rattle.std.proofs.lemmas.List.Sums.{sum_by-cons}
use Rattle.std.specs.List.{list_any}
use Rattle.std.specs.Option.{option_map}
use Rattle.std.specs.Ordering.{eq_by_cmp, nat_cmp}
use Rattle.std.specs.FinMap as map
use Rattle.std.specs.FinSet as set
use Rattle.lockmachine.proofs.Cursors.{cursor-passes, cursor-rests}
use Rattle.lockmachine.specs.Runs.{MoveLittle}
use Rattle.lockmachine.specs.Cursors.{IsDoneAt}
use Rattle.capcore.proofs.CommonPieces.{A, ChangesLocksOf, F, Ino, InoSet, InodeLocks, IsCursorAt, IsNext, L, LockMap, Part, Scene, Settled, Table, WaitAt, X}
use Rattle.capcore.proofs.CommonPieces.{ended_by, ended_in, first_move, lock_at, lock_in, may_end_by, same_key, waits-stay-at}
use Rattle.capcore.proofs.Moved.{as_made, makes-append}
use Rattle.capcore.specs.Sweep.{AreStill, IsSwept}

-- ---- the locks of an inode

all_parts : (one two : InodeLocks) → ((part : Part) → lock_in part one ≡ lock_in part two) → one ≡ two
all_parts one two same i = record { auth = same A i; link = same L i; xattr = same X i; file = same F i }

some_same : {T : Type 0} (x y : T) → ◌≡◌ {A = Option T} (Some x) (Some y) → x ≡ y
some_same x y is = cc

by_parts : (one two : Option InodeLocks) → ((part : Part) → option_map (lock_in part) one ≡ option_map (lock_in part) two) → one ≡ two
by_parts None None same = refl
by_parts (Some one) (Some two) same = ap Some (all_parts one two (λ part. some_same (lock_in part one) (lock_in part two) (same part)))
by_parts one two same = (let no = same A in absurd (cc))

-- where each lock of an inode is as it was, so are they together
pub locks_by_parts : (old new : LockMap) (ino : ℕ) → ((part : Part) → lock_at new ino part ≡ lock_at old ino part) → map.get new.states ino ≡ map.get old.states ino
locks_by_parts old new ino same = by_parts (map.get new.states ino) (map.get old.states ino) same

-- ---- where nothing moves

-- inodes whose locks are as they were are still, as long as the queue is the same
pub still-stays : (at : ℕ → Bool) (s : Scene) (locks : LockMap) → AreStill at s → locks.queue ≡ s.locks.queue
    → ((other : ℕ) → at other ≡ false → map.get locks.states other ≡ map.get s.locks.states other) → AreStill at (record s { locks = locks })
still-stays at s locks still queue same = grind arith

-- ---- from inode to inode

off_one : (at : ℕ → Bool) (one other : ℕ) → at one ≡ true → at other ≡ false → other ≢ one
off_one at one other is off same = true≢false (sym is ∙ ap at (sym same) ∙ off)

pub swept-begins : (at : ℕ → Bool) (s : Scene) → WaitAt at s → IsSwept at s s
swept-begins at s waits = grind arith

-- what changes one of the inodes leaves the locks of all others
pub same-elsewhere : (at : ℕ → Bool) (old new : LockMap) (here : ℕ) → at here ≡ true → ChangesLocksOf here old new
    → (other : ℕ) → at other ≡ false → map.get new.states other ≡ map.get old.states other
same-elsewhere at old new here affected changes other off =
    locks_by_parts old new other (λ part. changes.others other part (off_one at here other affected off))

-- gathers began and ended at one more of the inodes
pub swept-on : (at : ℕ → Bool) (first now : Scene) → IsSwept at first now → (here : ℕ) → at here ≡ true → (locks : LockMap)
    → MoveLittle now (record now { locks = locks }) → ChangesLocksOf here now.locks locks → IsSwept at first (record now { locks = locks })
swept-on at first now is here affected locks (steps, few, runs) changes =
    let more = as_made now steps (record now { locks = locks }) runs in
    record {
      moves = is.moves ++ more.moves;
      made = makes-append first is.moves now more.moves (record now { locks = locks }) is.made more.made;
      none = filter_map-append ended_by is.moves more.moves ∙ ap (λ ms. ms ++ ended_in more.moves) is.none ∙ more.none;
      is = ap (λ (s : Scene). record s { locks = locks }) is.is;
      states = λ other off. same-elsewhere at now.locks locks here affected changes other off ∙ is.states other off;
      queue = changes.queue ∙ is.queue;
      waits = waits-stay-at at now steps (record now { locks = locks }) runs is.waits;
    }

-- ---- gathers that end before any other move

-- no gather ends at the inodes up to one, nor at those behind it that are none of these
pub ends-passed : (at : ℕ → Bool) (t : Table) (first old new : LockMap) (here : ℕ)
    → ((other : ℕ) (part : Part) → at other ≡ false → may_end_by t first (other, part) ≡ false)
    → ((other : ℕ) → at other ≡ false → map.get new.states other ≡ map.get first.states other)
    → ((other : ℕ) (part : Part) → other < here → may_end_by t old (other, part) ≡ false)
    → ChangesLocksOf here old new → ((part : Part) → may_end_by t new (here, part) ≡ false)
    → (other : ℕ) (part : Part) → (here < other → at other ≡ false) → may_end_by t new (other, part) ≡ false
ends-passed at t first old new here elsewhere same lower changes done other part above = grind arith

-- ---- turns

-- an inode is done, and it is the next one's turn
pub next-cursor : (inos : InoSet) (s : Scene) (here : ℕ) (next : Ino) → AreStill (set.contains inos) s → IsCursorAt s here → IsDoneAt s here → IsNext inos (here + 1) (Some next) → IsCursorAt s next.0
next-cursor inos s here next still cursor done is =
    cursor-passes s here next.0 cursor done (omega (arith, is.not_below)) (λ other part above below. still.begins other part (is.least other (omega (arith, above)) below))

-- the last is done, and no move applies
pub last-cursor : (inos : InoSet) (s : Scene) (here : ℕ) → AreStill (set.contains inos) s → IsCursorAt s here → IsDoneAt s here → IsNext inos (here + 1) None → first_move s ≡ Settled
last-cursor inos s here still cursor done beyond = cursor-rests s here cursor done (λ other part above. still.begins other part (beyond other (omega (arith, above))))

-- ---- how many inodes are left

-- how many of the inodes are behind this one
abbrev pub behind : InoSet → ℕ → ℕ
behind inos here = count_by (nat_lt here) (set.items inos)

one_no_more : (a b x : ℕ) → a < b → cond (nat_lt b x) 1 0 ≤ cond (nat_lt a x) 1 0
one_no_more a b x less = grind arith

counted : (a x : ℕ) (xs : List ℕ) → count_by (nat_lt a) (x ∷ xs) ≡ cond (nat_lt a x) 1 0 + count_by (nat_lt a) xs
counted a x xs = sum_by-cons (λ k. cond (nat_lt a k) 1 0) x xs

no_more : (a b : ℕ) → a < b → (xs : List ℕ) → count_by (nat_lt b) xs ≤ count_by (nat_lt a) xs
no_more a b less [] = omega arith
no_more a b less (x ∷ xs) = omega (arith, one_no_more a b x less, no_more a b less xs, counted b x xs, counted a x xs)

fewer : (a b : ℕ) → a < b → (xs : List ℕ) → list_any (eq_by_cmp nat_cmp b) xs ≡ true → count_by (nat_lt b) xs < count_by (nat_lt a) xs
fewer a b less [] among = absurd (cc)
fewer a b less (x ∷ xs) among = elim (eq_by_cmp nat_cmp b x) as (λ e. eq_by_cmp nat_cmp b x ≡ e → e || list_any (eq_by_cmp nat_cmp b) xs ≡ true → count_by (nat_lt b) (x ∷ xs) < count_by (nat_lt a) (x ∷ xs)) [
  | true ↦ λ is _.
      let same : x ≡ b = same_key b x is in
      let none : ◌≡◌ {A = ℕ} (cond (nat_lt b x) 1 0) 0 = ap (λ p. cond p 1 0) (le-ltb b x (omega (arith, same))) in
      let one : ◌≡◌ {A = ℕ} (cond (nat_lt a x) 1 0) 1 = ap (λ p. cond p 1 0) (lt-ltb a x (omega (arith, same, less))) in
      omega (arith, none, one, no_more a b less xs, counted b x xs, counted a x xs)
  | false ↦ λ is rest. omega (arith, one_no_more a b x less, fewer a b less xs rest, counted b x xs, counted a x xs)
] refl among

-- with each that is done, there are fewer
pub fewer_behind : (inos : InoSet) (here : ℕ) (next : Ino) → IsNext inos (here + 1) (Some next) → behind inos next.0 < behind inos here
fewer_behind inos here next is = fewer here next.0 (omega (arith, is.not_below)) (set.items inos) (sym (set.contains-items inos next.0) ∙ is.has)
