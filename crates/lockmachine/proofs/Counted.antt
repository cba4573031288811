-- Counts that are those of the entries: what they say of gathers, and that moves keep them so.
use Rattle.std.proofs.Common.{◌≡◌, ℕ, ◌+◌, ◌-◌, ◌<◌, Bool, true, false, not, ◌&&◌, Option, Some, None, List, [], ◌∷◌, take, get_or, is_some, nat_eq, refl, sym}
use Rattle.std.proofs.Common.{ap, subst, ◌∙◌, cond}
use Rattle.std.specs.Prelude.{◌==◌}
use Rattle.std.specs.List.{find}
use Rattle.std.specs.Option.{option_map, option_map_or}
use Rattle.std.specs.FinMap as map
use Rattle.std.specs.Cmp.{nat_eq_equiv}
use Rattle.capbits.specs.declared.cap.Part.{Part}
use Rattle.capbits.specs.declared.cap.Part.TheVariants.{A, F, L, X}
use Rattle.capbits.specs.Maps.{change_at}
use Rattle.capbits.proofs.Maps.{change-at}
use Rattle.locktable.specs.declared.states.LockState.{LockState}
use Rattle.locktable.specs.declared.states.LockState.TheVariants.{Gather, Stable}
use Rattle.locktable.specs.declared.states.StableState.{StableState}
use Rattle.captable.specs.Table.{Table}
use Rattle.captable.specs.Calls.{entries_on}
use Rattle.lockmachine.proofs.NoneAny.{none-any}
use Rattle.lockmachine.specs.Held.{has_outside, holders_outside}
use Rattle.lockmachine.specs.Lock.{LockId, ends_by_count, may_end_in}
use Rattle.locktable.specs.declared.counts.Counts.{Counts}
use Rattle.lockmachine.specs.declared.states.InodeLocks.{InodeLocks}
use Rattle.lockmachine.specs.Counts.{AreCounted, AreCountedAt, CountedLocks, IsCounted, count_at, count_of, ends_by, with_count}
use Rattle.locktable.specs.GatherCounts.{count_in, one_less_in, with_count_in}
use Rattle.lockmachine.specs.Inodes.{CountMap, HaveCounts, lock_in}
use Rattle.lockmachine.specs.Requests.{same_part}
use Rattle.lockmachine.specs.Locks.{LockMap, lock_at, with_lock}
use Rattle.lockmachine.specs.Moves.{coming_state, moved, parts}
use Rattle.lockmachine.specs.Cursors.{may_end_by}
use Rattle.lockmachine.specs.Runs.{ChangesLocksOf}
use Rattle.lockmachine.specs.declared.moves.Move.TheVariants.{End}
use Rattle.lockmachine.proofs.EndsFirst.{EndsSoFar, NoneBelow, ended_next, ends_none, passed_next}
use Rattle.lockmachine.proofs.Moving.{is_at, with_lock-each}
use Rattle.lockmachine.proofs.Rest.{same_part_is}
use Rattle.lockmachine.proofs.Settling.{one_changed}

pub locks_are : {a b : CountedLocks} → a ≡ b → a.locks ≡ b.locks
locks_are e = ap (λ (l : CountedLocks). l.locks) e

-- ---- the end of a gather

-- where the count is right, a gather ends by it as by the entries
counted-one : (table : Table) (at : LockId) (n : ℕ) (lock : Option LockState) → IsCounted table at n lock → ends_by_count n lock ≡ may_end_in table at lock
counted-one table at n None is = refl
counted-one table at n (Some (Stable state)) is = refl
counted-one table at n (Some (Gather from to)) is = ap (λ m. m == 0) is ∙ none-any (has_outside at.1 to) (entries_on table (record { 0 = at.0 }))

pub counted-end : (table : Table) (l : CountedLocks) (ino : ℕ) → AreCountedAt table l ino → (part : Part) → ends_by l (ino, part) ≡ may_end_by table l.locks (ino, part)
counted-end table l ino are part = counted-one table (ino, part) (count_of l (ino, part)) (lock_at l.locks ino part) (are part)

-- what is found by tests that say the same
same-find : {X : Type 0} (p q : X → Bool) → ((x : X) → p x ≡ q x) → (xs : List X) → find p xs ≡ find q xs
same-find p q same [] = refl
same-find p q same (x ∷ xs) = λ i. cond (same x i) (Some x) (same-find p q same xs i)

-- the first part whose gather ends
pub counted-first : (table : Table) (l : CountedLocks) (ino : ℕ) → AreCountedAt table l ino → find (λ part. ends_by l (ino, part)) parts ≡ find (λ part. may_end_by table l.locks (ino, part)) parts
counted-first table l ino are = same-find (λ part. ends_by l (ino, part)) (λ part. may_end_by table l.locks (ino, part)) (counted-end table l ino are) parts

-- and the first of all
pub counted-all : (table : Table) (l : CountedLocks) → AreCounted table l → (ids : List LockId) → find (ends_by l) ids ≡ find (may_end_by table l.locks) ids
counted-all table l are ids = same-find (ends_by l) (may_end_by table l.locks) (λ at. counted-end table l at.0 (are at.0) at.1) ids

-- ---- moves

-- a lock that becomes stable has no count to be right
module _ (table : Table) (l : CountedLocks) (ino : ℕ) (part : Part) (state : StableState) where
  no-count : (o : Option LockState) → IsCounted table (ino, part) (count_of l (ino, part)) (option_map (λ _. Stable state) o)
  no-count None = tt
  no-count (Some lock) = tt

  -- at the inode
  pub counted-stable-at : AreCountedAt table l ino → AreCountedAt table (record l { locks = with_lock l.locks ino part (Stable state) }) ino
  counted-stable-at are q =
      with_lock-each l.locks ino part (Stable state) (λ b at lock. at.0 ≡ ino → IsCounted table at (count_of l at) lock) (λ here. no-count (lock_at l.locks ino part))
      (λ at here. subst (λ i. IsCounted table (i, at.1) (count_of l (i, at.1)) (lock_at l.locks i at.1)) (sym here) (are at.1)) (ino, q) refl

  -- and at all
  pub counted-stable : AreCounted table l → AreCounted table (record l { locks = with_lock l.locks ino part (Stable state) })
  counted-stable are i q =
      with_lock-each l.locks ino part (Stable state) (λ b at lock. IsCounted table at (count_of l at) lock) (no-count (lock_at l.locks ino part)) (λ at. are at.0 at.1) (i, q)

-- a gather that begins has the count that was set
with_count-is : (part q : Part) (n : ℕ) (c : Counts) → count_in q (with_count_in part n c) ≡ cond (same_part q part) n (count_in q c)
with_count-is A A n c = refl
with_count-is A L n c = refl
with_count-is A X n c = refl
with_count-is A F n c = refl
with_count-is L A n c = refl
with_count-is L L n c = refl
with_count-is L X n c = refl
with_count-is L F n c = refl
with_count-is X A n c = refl
with_count-is X L n c = refl
with_count-is X X n c = refl
with_count-is X F n c = refl
with_count-is F A n c = refl
with_count-is F L n c = refl
with_count-is F X n c = refl
with_count-is F F n c = refl

count-set : (m : CountMap) (ino i n : ℕ) (part q : Part) → is_some (map.get m i) ≡ true → count_at (change_at (with_count_in part n) m ino) i q ≡ cond (is_at ino part (i, q)) n (count_at m i q)
count-set m ino i n part q there =
    ap (λ o. option_map_or (count_in q) o 0) (change-at m ino i (with_count_in part n)) ∙ by_test (nat_eq ino i) (map.get m i) there
    ∙ ap (λ b. cond (b && same_part q part) n (count_at m i q)) (nat_eq_equiv.symm ino i)
  where
    by_test : (b : Bool) (o : Option Counts) → is_some o ≡ true
        → option_map_or (count_in q) (cond b (option_map (with_count_in part n) o) o) 0 ≡ cond (b && same_part q part) n (option_map_or (count_in q) o 0)
    by_test b None some = absurd (cc)
    by_test true (Some c) some = with_count-is part q n c
    by_test false (Some c) some = refl

-- one less
one_less-is : (part q : Part) (c : Counts) → count_in q (one_less_in part c) ≡ cond (same_part q part) (count_in q c - 1) (count_in q c)
one_less-is part q c = with_count-is part q (count_in part c - 1) c ∙ by_part (same_part q part) refl
  where
    by_part : (b : Bool) → same_part q part ≡ b → cond b (count_in part c - 1) (count_in q c) ≡ cond b (count_in q c - 1) (count_in q c)
    by_part true same = ap (λ p. count_in p c - 1) (sym (same_part_is q part same))
    by_part false other = refl

pub count-less : (m : CountMap) (ino i : ℕ) (part q : Part) → count_at (change_at (one_less_in part) m ino) i q ≡ cond (is_at ino part (i, q)) (count_at m i q - 1) (count_at m i q)
count-less m ino i part q =
    ap (λ o. option_map_or (count_in q) o 0) (change-at m ino i (one_less_in part)) ∙ by_test (nat_eq ino i) (map.get m i)
    ∙ ap (λ b. cond (b && same_part q part) (count_at m i q - 1) (count_at m i q)) (nat_eq_equiv.symm ino i)
  where
    none : (b : Bool) → 0 ≡ cond b (0 - 1) 0
    none true = refl
    none false = refl

    by_test : (b : Bool) (o : Option Counts) → option_map_or (count_in q) (cond b (option_map (one_less_in part) o) o) 0
        ≡ cond (b && same_part q part) (option_map_or (count_in q) o 0 - 1) (option_map_or (count_in q) o 0)
    by_test true None = none (same_part q part)
    by_test true (Some c) = one_less-is part q c
    by_test false None = refl
    by_test false (Some c) = refl

module _ (table : Table) (l : CountedLocks) (ino : ℕ) (part : Part) (from to : StableState) (n : ℕ) (have : HaveCounts (with_lock l.locks ino part (Gather from to)).states l.counts)
    (right : n ≡ holders_outside table (record { 0 = ino }) part to) where
  abbrev begun : LockMap
  begun = with_lock l.locks ino part (Gather from to)

  begun-here : (o : Option LockState) → IsCounted table (ino, part) n (option_map (λ _. Gather from to) o)
  begun-here None = tt
  begun-here (Some lock) = right

  has-counts : (i : ℕ) (q : Part) (o : Option InodeLocks) → map.get begun.states i ≡ o → is_some (option_map (lock_in q) o) ≡ true → is_some (map.get l.counts i) ≡ true
  has-counts i q None is some = absurd (cc)
  has-counts i q (Some four) is some = have i ∙ ap is_some is

  pub counted-begun : AreCounted table l → AreCounted table (with_count (record l { locks = begun }) ino part n)
  counted-begun are i q = by_lock (lock_at begun i q) refl each
    where
      each : IsCounted table (i, q) (cond (is_at ino part (i, q)) n (count_of l (i, q))) (lock_at begun i q)
      each = with_lock-each l.locks ino part (Gather from to) (λ b at lock. IsCounted table at (cond b n (count_of l at)) lock) (begun-here (lock_at l.locks ino part)) (λ at. are at.0 at.1) (i, q)

      by_lock : (o : Option LockState) → lock_at begun i q ≡ o → IsCounted table (i, q) (cond (is_at ino part (i, q)) n (count_of l (i, q))) o
          → IsCounted table (i, q) (count_at (change_at (with_count_in part n) l.counts ino) i q) o
      by_lock None is right = tt
      by_lock (Some lock) is right =
          subst (λ m. IsCounted table (i, q) m (Some lock)) (sym (count-set l.counts ino i n part q (has-counts i q (map.get begun.states i) refl (ap is_some is)))) right

-- ---- the gathers of an inode end, one after another

-- where the counts are those of the entries, so they are still, and gathers of the inode have ended so far
pub record EndsCounted (first now : CountedLocks) (ino : ℕ) (done : List Part) : Type 0 where
  pub counts : now.counts ≡ first.counts
  pub elsewhere : ChangesLocksOf ino first.locks now.locks
  pub counted : (table : Table) → AreCountedAt table first ino → AreCountedAt table now ino
  pub so_far : (table : Table) → AreCountedAt table first ino → NoneBelow table first.locks ino → EndsSoFar table first.locks now.locks ino done

ends-none : (l : CountedLocks) (ino : ℕ) → EndsCounted l l ino []
ends-none l ino = record {
  counts = refl;
  elsewhere = record { others = λ other part off. refl; queue = refl; last = refl };
  counted = λ table are. are;
  so_far = λ table are below. ends_none table l.locks ino;
}

pub ends-first : (l : CountedLocks) (ino : ℕ) → EndsCounted l l ino (take 0 parts)
ends-first l ino = ends-none l ino

-- the count says that no gather ends
pub ends-passed : (first now : CountedLocks) (ino i : ℕ) (d : Part) → i < 4 → EndsCounted first now ino (take i parts) → ends_by now (ino, get_or parts i d) ≡ false → EndsCounted first now ino (take (i + 1) parts)
ends-passed first now ino i d room so idle = record {
  counts = so.counts;
  elsewhere = so.elsewhere;
  counted = so.counted;
  so_far = λ table are below.
      passed_next table first.locks now.locks ino i d room (so.so_far table are below) (sym (counted-end table now ino (so.counted table are) (get_or parts i d)) ∙ idle);
}

-- one that ends by its count
pub ends-ended : (first now new : CountedLocks) (ino i : ℕ) (d : Part) → i < 4 → EndsCounted first now ino (take i parts) → ends_by now (ino, get_or parts i d) ≡ true
    → new ≡ record now { locks = moved now.locks (End (record { 0 = ino }) (get_or parts i d)) } → EndsCounted first new ino (take (i + 1) parts)
ends-ended first now new ino i d room so may is =
    let part = get_or parts i d in
    let state = coming_state (lock_at now.locks ino part) in
    let changed = one_changed now.locks ino part (Stable state) in
    subst (λ n. EndsCounted first n ino (take (i + 1) parts)) (sym is) record {
      counts = so.counts;
      elsewhere = record {
        others = λ other p off. changed.others other p off ∙ so.elsewhere.others other p off;
        queue = so.elsewhere.queue;
        last = so.elsewhere.last;
      };
      counted = λ table are. counted-stable-at table now ino part state (so.counted table are);
      so_far = λ table are below.
          ended_next table first.locks now.locks ino i d room below (so.so_far table are below) (sym (counted-end table now ino (so.counted table are) part) ∙ may);
    }
