-- What is the same at one inode: what is wanted of it, which moves apply there, and what is quiet there.
use Rattle.std.proofs.Common.{◌≡◌, ℕ, Bool, true, false, cond, not, Option, Some, None, List, [], ◌∷◌, zero, suc, filter, refl, sym, ap, subst, ◌∙◌, Contains}
use Rattle.std.proofs.Common.{arith}
use Rattle.std.proofs.Common.{map as each}
use Rattle.std.specs.List.{list_any}
use Rattle.std.specs.FinMap as map
use Rattle.std.proofs.lemmas.Bool.{eqb-true}
use Rattle.capbits.specs.declared.cap.Part.{Part}
use Rattle.capbits.specs.Sets.{is_empty}
use Rattle.inotree.specs.Alike.{IsAlike}
use Rattle.locktable.specs.declared.states.StableState.{StableState}
use Rattle.locktable.specs.declared.states.LockState.{LockState}
use Rattle.locktable.specs.declared.states.LockState.TheVariants.{Gather, Stable}
use Rattle.locktable.specs.Targets.{target_of}
use Rattle.sessiontab.specs.Table.{SessionTable}
use Rattle.captable.specs.declared.entry.EntryRow.{EntryRow}
use Rattle.captable.specs.Calls.{entries_on, is_of_inode}
use Rattle.lockmachine.specs.Requests.{first_for, head_of}
use Rattle.lockmachine.specs.Locks.{lock_at}
use Rattle.lockmachine.specs.Wants.{Want, in_all, want_of}
use Rattle.lockmachine.specs.Scene.{Scene, loner, outside, target, target_by, wanted, wanted_in_all, wants}
use Rattle.lockmachine.specs.Moves.{IsLockAtRest, may_begin, may_begin_in, may_end, may_end_in, same_state}
use Rattle.lockmachine.specs.Elsewhere.{IsSameAt, IsSameOutside}
use Rattle.lockmachine.proofs.PolicyElsewhere.{want-stays}

-- of one inode the entries, their clients' sessions, the locks and who waits first for each are as they were, and so are its path,
-- its owner, its group and its mode
pub record IsSameThere (ino : ℕ) (old new : Scene) : Type 0 where
  pub fs : new.fs ≡ old.fs
  pub sessions : (row : EntryRow) → Contains old.table.rows row → row.holder.ino.0 ≡ ino →
      map.get new.sessions.sessions row.holder.client.0 ≡ map.get old.sessions.sessions row.holder.client.0
  pub entries : entries_on new.table (record { 0 = ino }) ≡ entries_on old.table (record { 0 = ino })
  pub locks : (part : Part) → lock_at new.locks ino part ≡ lock_at old.locks ino part
  pub waiting : (part : Part) → first_for new.locks.queue ino part ≡ first_for old.locks.queue ino part
  pub alike : IsAlike old.tree new.tree ino

-- so it is where all sessions are as they were
pub same-there : (ino : ℕ) (old new : Scene) → IsSameAt ino old new → IsSameThere ino old new
same-there ino old new same = record {
  fs = same.fs;
  sessions = λ row inside here. ap (λ (t : SessionTable). map.get t.sessions row.holder.client.0) same.sessions;
  entries = same.entries;
  locks = same.locks;
  waiting = same.waiting;
  alike = same.alike;
}

-- and at an inode that is not among those that change
pub outside-there : (at : ℕ → Bool) (old new : Scene) → IsSameOutside at old new → (other : ℕ) → at other ≡ false → IsSameThere other old new
outside-there at old new same other off = record {
  fs = same.fs;
  sessions = λ row inside here. same.sessions row inside (ap at here ∙ off);
  entries = same.entries (record { 0 = other }) off;
  locks = λ part. same.locks other part off;
  waiting = λ part. same.waiting other part off;
  alike = same.alike other off;
}

-- two functions that agree on what is there and passes a test
each_passing : {A B : Type 0} (f g : A → B) (p : A → Bool) (xs : List A) → ((x : A) → Contains xs x → p x ≡ true → g x ≡ f x) → each g (filter p xs) ≡ each f (filter p xs)
each_passing f g p [] agree = refl
each_passing f g p (x ∷ xs) agree =
    let later = each_passing f g p xs (λ y (inside : Contains xs y). agree y (suc inside.0, omega (arith, inside.1), inside.2)) in
    elim (p x) as (λ b. p x ≡ b → each g (cond b (x ∷ filter p xs) (filter p xs)) ≡ each f (cond b (x ∷ filter p xs) (filter p xs))) [
      | true ↦ λ passes i. agree x (zero, omega arith, refl) passes i ∷ later i
      | false ↦ λ fails. later
    ] refl

module _ (ino : ℕ) (old new : Scene) (same : IsSameThere ino old new) where
  want_same : (row : EntryRow) → Contains old.table.rows row → row.holder.ino.0 ≡ ino → want_of old.fs new.tree new.sessions row ≡ want_of old.fs old.tree old.sessions row
  want_same row inside here =
      let alike = subst (IsAlike old.tree new.tree) (sym here) same.alike in
      let counts = want-stays old.fs old.tree new.tree old.sessions new.sessions row alike (same.sessions row inside here) in
      λ k. (row.holder.client, counts k)

  wants_same : wants new ino ≡ wants old ino
  wants_same =
      ap (each (want_of new.fs new.tree new.sessions)) same.entries
      ∙ ap (λ fs. each (want_of fs new.tree new.sessions) (entries_on old.table (record { 0 = ino }))) same.fs
      ∙ each_passing (want_of old.fs old.tree old.sessions) (want_of old.fs new.tree new.sessions) (is_of_inode (record { 0 = ino })) old.table.rows
      (λ row inside passes. want_same row inside (eqb-true row.holder.ino.0 ino passes))

  target_same : (part : Part) (state : StableState) → target new ino part state ≡ target old ino part state
  target_same part state =
      ap (λ (all : List Want). target_by new.locks.queue (in_all all) ino part state) wants_same
      ∙ ap (λ first. target_of part state (head_of first) (loner old ino) (wanted old ino)) (same.waiting part)

  open_same : (part : Part) (to : StableState)
      → list_any (λ row. not (is_empty (outside part to row))) (entries_on new.table (record { 0 = ino })) ≡ list_any (λ row. not (is_empty (outside part to row))) (entries_on old.table (record { 0 = ino }))
  open_same part to = ap (list_any (λ row. not (is_empty (outside part to row)))) same.entries

  resting_in : (part : Part) (o : Option LockState) → IsLockAtRest old ino part o → IsLockAtRest new ino part o
  resting_in part None resting = same.waiting part ∙ resting
  resting_in part (Some (Stable state)) resting = (target_same part state ∙ resting.0, same.waiting part ∙ resting.1)
  resting_in part (Some (Gather from to)) resting = open_same part to ∙ resting

  begin_in : (part : Part) (o : Option LockState)
      → may_begin_in new.locks.queue (wanted_in_all new ino) (ino, part) o ≡ may_begin_in old.locks.queue (wanted_in_all old ino) (ino, part) o
  begin_in part None = refl
  begin_in part (Some (Gather from to)) = refl
  begin_in part (Some (Stable state)) = ap (λ t. not (same_state t state)) (target_same part state)

  end_in : (part : Part) (o : Option LockState) → may_end_in new.table (ino, part) o ≡ may_end_in old.table (ino, part) o
  end_in part None = refl
  end_in part (Some (Stable state)) = refl
  end_in part (Some (Gather from to)) = ap not (open_same part to)

  -- the same moves apply there, and what is quiet stays so
  pub begin-there : (part : Part) → may_begin new (ino, part) ≡ may_begin old (ino, part)
  begin-there part = ap (may_begin_in new.locks.queue (wanted_in_all new ino) (ino, part)) (same.locks part) ∙ begin_in part (lock_at old.locks ino part)

  pub end-there : (part : Part) → may_end new (ino, part) ≡ may_end old (ino, part)
  end-there part = ap (may_end_in new.table (ino, part)) (same.locks part) ∙ end_in part (lock_at old.locks ino part)

  pub resting-there : (part : Part) → IsLockAtRest old ino part (lock_at old.locks ino part) → IsLockAtRest new ino part (lock_at new.locks ino part)
  resting-there part resting = subst (IsLockAtRest new ino part) (sym (same.locks part)) (resting_in part (lock_at old.locks ino part) resting)
