-- Ends at one inode, where no gather of a lower one may end: each is the first move that applies.
use Rattle.std.proofs.Common.{◌≡◌, ◌≢◌, ℕ, suc, ◌+◌, ◌<◌, Bool, true, false, cond, ◌&&◌, Option, Some, None, List, [], ◌∷◌, ◌++◌, take, drop, get_or, refl}
use Rattle.std.proofs.Common.{sym, ap, subst, ◌∙◌, arith, true≢false, drop-cons}
use Rattle.std.specs.List.{AllPass, find}
use Rattle.std.specs.Option.{is_some, option_map, option_or}
use Rattle.std.specs.Cmp.{nat_eq_equiv}
use Rattle.std.specs.FinMap as map
use Rattle.std.proofs.lemmas.List.{take-append-drop, take_more}
use Rattle.std.proofs.lemmas.List.Elements.{All-push}
use Rattle.std.proofs.lemmas.List.Folds.{find-append}
use Rattle.capbits.specs.declared.cap.Part.{Part}
use Rattle.inotree.specs.Tree.{Nodes}
use Rattle.locktable.specs.declared.states.LockState.{LockState}
use Rattle.locktable.specs.declared.states.LockState.TheVariants.{Stable}
use Rattle.sessiontab.specs.Table.{SessionTable}
use Rattle.captable.specs.Table.{Table}
use Rattle.lockmachine.specs.declared.states.InodeLocks.{InodeLocks}
use Rattle.lockmachine.specs.declared.moves.Move.{Move}
use Rattle.lockmachine.specs.declared.moves.Move.TheVariants.{End}
use Rattle.lockmachine.specs.Inodes.{lock_in}
use Rattle.lockmachine.specs.Requests.{same_part}
use Rattle.lockmachine.specs.Locks.{LockMap, lock_at}
use Rattle.lockmachine.specs.Scene.{scene}
use Rattle.lockmachine.specs.Moves.{LockId, coming_state, first_move, lock_ids_of, may_end_in, moved, parts}
use Rattle.lockmachine.specs.Cursors.{may_end_by}
use Rattle.lockmachine.specs.Runs.{ChangesLocksOf, EndLittle, Runs, is_end}
use Rattle.lockmachine.proofs.Ending.{few}
use Rattle.lockmachine.proofs.Finding.{no_part}
use Rattle.lockmachine.proofs.Moving.{with_lock-each}
use Rattle.lockmachine.proofs.LockIds.{end_first, find-each, first_found}
use Rattle.lockmachine.proofs.Rest.{not_found}
use Rattle.lockmachine.proofs.Settling.{one_changed, runs_more}

-- ---- what an end leaves

-- a lock that does not gather has none to end
ended_not : (table : Table) (at : LockId) (o : Option LockState) → may_end_in table at (option_map (λ _. Stable (coming_state o)) o) ≡ false
ended_not table at None = refl
ended_not table at (Some lock) = refl

module _ (table : Table) (t : LockMap) (ino : ℕ) (part : Part) where
  abbrev after : LockMap
  after = moved t (End (record { 0 = ino }) part)

  -- where no gather might end, none may
  stays_ended : (at : LockId) → may_end_by table t at ≡ false → may_end_by table after at ≡ false
  stays_ended =
      with_lock-each t ino part (Stable (coming_state (lock_at t ino part))) (λ b at o. may_end_by table t at ≡ false → may_end_in table at o ≡ false)
      (λ was. ended_not table (ino, part) (lock_at t ino part)) (λ at was. was)

  -- and that of the lock itself is over
  is_ended : may_end_by table after (ino, part) ≡ false
  is_ended =
      with_lock-each t ino part (Stable (coming_state (lock_at t ino part))) (λ b at o. b ≡ true → may_end_in table at o ≡ false)
      (λ here. ended_not table (ino, part) (lock_at t ino part)) (λ at here. absurd (true≢false (sym here))) (ino, part)
      (ap (λ b. b && same_part part part) (nat_eq_equiv.refl ino) ∙ nat_eq_equiv.refl _)

-- ---- the parts so far

-- the gathers of these parts are over: each was ended by the first move that applies, whatever the tree and the sessions are
pub record EndsSoFar (table : Table) (first now : LockMap) (ino : ℕ) (done : List Part) : Type 0 where
  pub steps : List Move
  pub ends : AllPass is_end steps
  pub runs : (fs : List ℕ) (tree : Nodes) (sessions : SessionTable) → Runs (scene fs tree sessions table first) steps (scene fs tree sessions table now)
  pub over : find (λ part. may_end_by table now (ino, part)) done ≡ None
  pub elsewhere : ChangesLocksOf ino first now

-- no gather of a lower inode may end
abbrev pub NoneBelow : Table → LockMap → ℕ → Type 0
NoneBelow table locks ino = (other : ℕ) (part : Part) → other < ino → may_end_by table locks (other, part) ≡ false

none_more : (p r : Part → Bool) (done : List Part) (part : Part) → find p done ≡ None → ((q : Part) → p q ≡ false → r q ≡ false) → r part ≡ false → find r (done ++ part ∷ []) ≡ None
none_more p r [] part none kept fails = ap (λ b. cond b (Some part) None) fails
none_more p r (q ∷ qs) part none kept fails =
    let n = not_found p q qs none in
    ap (λ b. cond b (Some q) (find r (qs ++ part ∷ []))) (kept q n.0) ∙ none_more p r qs part n.1 kept fails

pub ends_none : (table : Table) (t : LockMap) (ino : ℕ) → EndsSoFar table t t ino []
ends_none table t ino = record {
  steps = [];
  ends = λ k d room. absurd (omega arith);
  runs = λ fs tree sessions. refl;
  over = refl;
  elsewhere = record { others = λ other part off. refl; queue = refl; last = refl };
}

-- a part whose lock has no gather to end
pub part_passed : (table : Table) (first now : LockMap) (ino : ℕ) (done : List Part) (part : Part) → EndsSoFar table first now ino done → may_end_by table now (ino, part) ≡ false
    → EndsSoFar table first now ino (done ++ part ∷ [])
part_passed table first now ino done part so idle = record {
  steps = so.steps;
  ends = so.ends;
  runs = so.runs;
  over = none_more (λ q. may_end_by table now (ino, q)) (λ q. may_end_by table now (ino, q)) done part so.over (λ q same. same) idle;
  elsewhere = so.elsewhere;
}

module _ (table : Table) (first now : LockMap) (ino : ℕ) (done : List Part) (part : Part) (later : List Part) (all : done ++ part ∷ later ≡ parts)
    (below : NoneBelow table first ino) (so : EndsSoFar table first now ino done) (may : may_end_by table now (ino, part) ≡ true) where
  below_now : NoneBelow table now ino
  below_now other p less =
      let off : other ≢ ino = omega arith in
      ap (may_end_in table (other, p)) (so.elsewhere.others other p off) ∙ below other p less

  -- it is the first there
  first_there : find (may_end_by table now) (lock_ids_of ino) ≡ Some (ino, part)
  first_there =
      find-each (may_end_by table now) (λ (p : Part). (ino, p)) parts
      ∙ ap (option_map (λ p. (ino, p)))
      (ap (find (λ p. may_end_by table now (ino, p))) (sym all)
      ∙ find-append (λ p. may_end_by table now (ino, p)) done (part ∷ later)
      ∙ ap (λ o. option_or o (find (λ p. may_end_by table now (ino, p)) (part ∷ later))) so.over
      ∙ ap (λ b. cond b (Some part) (find (λ p. may_end_by table now (ino, p)) later)) may)

  -- where a gather may end, its inode has locks
  has_locks : (o : Option InodeLocks) → map.get now.states ino ≡ o → is_some o ≡ true
  has_locks None gone = absurd (true≢false (sym may ∙ ap (λ l. may_end_in table (ino, part) (option_map (lock_in part) l)) gone))
  has_locks (Some l) has = refl

  is_first : (fs : List ℕ) (tree : Nodes) (sessions : SessionTable) → first_move (scene fs tree sessions table now) ≡ End (record { 0 = ino }) part
  is_first fs tree sessions =
      end_first (scene fs tree sessions table now) ino part
      (first_found (may_end_by table now) ino below_now (ino, part) first_there now (has_locks (map.get now.states ino) refl))

  pub part_ended : EndsSoFar table first (moved now (End (record { 0 = ino }) part)) ino (done ++ part ∷ [])
  part_ended =
      let changed = one_changed now ino part (Stable (coming_state (lock_at now ino part))) in
      record {
        steps = so.steps ++ End (record { 0 = ino }) part ∷ [];
        ends = All-push (λ step. is_end step ≡ true) so.steps (End (record { 0 = ino }) part) so.ends refl;
        runs = λ fs tree sessions. runs_more (scene fs tree sessions table first) so.steps (scene fs tree sessions table now) (End (record { 0 = ino }) part) (so.runs fs tree sessions) (is_first fs tree sessions) refl;
        over = none_more (λ q. may_end_by table now (ino, q)) (λ q. may_end_by table (moved now (End (record { 0 = ino }) part)) (ino, q)) done part so.over
            (λ q. stays_ended table now ino part (ino, q)) (is_ended table now ino part);
        elsewhere = record {
          others = λ other p off. changed.others other p off ∙ so.elsewhere.others other p off;
          queue = so.elsewhere.queue;
          last = so.elsewhere.last;
        };
      }

-- ---- one part after another

pub passed_next : (table : Table) (first now : LockMap) (ino i : ℕ) (d : Part) → i < 4 → EndsSoFar table first now ino (take i parts) → may_end_by table now (ino, get_or parts i d) ≡ false
    → EndsSoFar table first now ino (take (i + 1) parts)
passed_next table first now ino i d room so idle =
    subst (EndsSoFar table first now ino) (sym (take_more parts i d room)) (part_passed table first now ino (take i parts) (get_or parts i d) so idle)

pub ended_next : (table : Table) (first now : LockMap) (ino i : ℕ) (d : Part) → i < 4 → NoneBelow table first ino → EndsSoFar table first now ino (take i parts)
    → may_end_by table now (ino, get_or parts i d) ≡ true → EndsSoFar table first (moved now (End (record { 0 = ino }) (get_or parts i d))) ino (take (i + 1) parts)
ended_next table first now ino i d room below so may =
    let all = sym (ap (λ ps. take i parts ++ ps) (drop-cons parts i d room)) ∙ take-append-drop i parts in
    subst (EndsSoFar table first (moved now (End (record { 0 = ino }) (get_or parts i d))) ino) (sym (take_more parts i d room))
    (part_ended table first now ino (take i parts) (get_or parts i d) (drop (suc i) parts) all below so may)

-- ---- all parts

pub all_ended : (table : Table) (first now : LockMap) (ino : ℕ) → EndsSoFar table first now ino parts → (part : Part) → may_end_by table now (ino, part) ≡ false
all_ended table first now ino so = no_part (λ part. may_end_by table now (ino, part)) so.over

pub ends_little : (table : Table) (first now : LockMap) (ino : ℕ) (done : List Part) → EndsSoFar table first now ino done → (fs : List ℕ) (tree : Nodes) (sessions : SessionTable)
    → EndLittle (scene fs tree sessions table first) (scene fs tree sessions table now)
ends_little table first now ino done so fs tree sessions =
    let runs = so.runs fs tree sessions in
    (so.steps, so.ends, few (scene fs tree sessions table first) so.steps (scene fs tree sessions table now) runs, runs)
