-- A settling that served nobody: the tree stays, and where the locks of an inode do too, whoever had all there has it still.
use Rattle.std.proofs.Common.{◌≡◌, ◌<◌, ℕ, Bool, Some, List, [], ◌∷◌, refl, sym, ap, subst, ◌∙◌, All, Contains, IsTrue}
use Rattle.std.specs.List.{find}
use Rattle.std.specs.Option.{unwrap_or}
use Rattle.std.specs.FinMap as map
use Rattle.capbits.specs.Sets.{no_caps}
use Rattle.step_acts.specs.Finishing.{pending_under}
use Rattle.capcore.proofs.CommonPieces.{Began, Caps, ClientViews, Ended, EntryRow, Gathered, Holder, Ino, IsSubset, IsTree, LockMap, Made, MakesAll, OthersHaveAll}
use Rattle.capcore.proofs.CommonPieces.{Scene, Served, SessionTable, Table, changed_where, ended_in, has_session, is_row_of, is_sized, issuable_under, known_anew}
use Rattle.capcore.proofs.CommonPieces.{known_in, known_of, owed, permitted, permitted-stays, permitted_of, row_of-entry, sized_in, sizes_owed, was-there}
use Rattle.capcore.proofs.LeftAlone.{found-contains}
use Rattle.capcore.proofs.Moved.{tree-moved}
use Rattle.capcore.proofs.Strays.{alike-retained, goes, in_use-held, stays-in_use}
use Rattle.capcore.specs.Affected.{finished_at, finished_entry, forget_among, pending_then, stays}
use Rattle.capcore.specs.Begun.{ArePermittedIn, MayEnd}
use Rattle.capcore.specs.Serves.{EndsAt, EndsWith, SettlesWith}

-- moves that end no request serve nobody: they change no size, and leave the tree
nobody-served : (first : Scene) (moves : List Made) (settled : Scene) → MakesAll first moves settled → ended_in moves ≡ [] → (sized_in moves ≡ []) × (settled.tree ≡ first.tree)
nobody-served first [] settled made none = (refl, ap (λ (s : Scene). s.tree) made)
nobody-served first (Began ino part to ∷ ms) settled (mid, makes, rest) none =
    let later = nobody-served mid ms settled rest none in (later.0, later.1 ∙ ap (λ (s : Scene). s.tree) makes.1)
nobody-served first (Gathered ino part ∷ ms) settled (mid, makes, rest) none =
    let later = nobody-served mid ms settled rest none in (later.0, later.1 ∙ ap (λ (s : Scene). s.tree) makes.1)
nobody-served first (Served q o ∷ ms) settled made none = absurd (cc)

-- of each client as much is kept that it is to know of
abbrev AreToldAlike : ClientViews → ClientViews → Type 0
AreToldAlike was now = (k : Holder) → known_of now k ≡ known_of was k

-- whoever has all there by some locks, has it by others that are the same at the inode
still-all_there : (was now : ClientViews) (s : Scene) (then : LockMap) (k : Holder) → AreToldAlike was now → map.get then.states k.ino.0 ≡ map.get s.locks.states k.ino.0 → OthersHaveAll was s k
    → OthersHaveAll now (record s { locks = then }) k
still-all_there was now s then k pending same others j e on apart there =
    let row : EntryRow = record { holder = j; entry = e } in
    let all = others j e on apart there in
    let here : map.get s.locks.states j.ino.0 ≡ map.get then.states j.ino.0 = ap (map.get s.locks.states) on ∙ sym same ∙ sym (ap (map.get then.states) on) in (
      subst (λ (caps : Caps). IsSubset caps e.held) (λ i. issuable_under s.fs s.tree s.sessions (here i) row) all.0,
      pending j ∙ all.1 ∙ ap Some (λ i. pending_under (permitted s.fs s.tree s.sessions j) (here i) row),
    )

module _ (at from : ℕ → Bool) (first settled : Scene) (ended : List Ended) (sized : List Ino) (settles : SettlesWith at from first settled ended sized) (nobody : ended ≡ []) where
  -- no size is owed
  pub served_none : (sized ≡ []) × (settled.tree ≡ first.tree)
  served_none = let none = nobody-served first settles.moves settled settles.settles.settles.made (sym settles.ended_is ∙ nobody) in (settles.sized_is ∙ none.0, none.1)

  pub others-still : (was now : ClientViews) (k : Holder) → AreToldAlike was now → map.get settled.locks.states k.ino.0 ≡ map.get first.locks.states k.ino.0 → OthersHaveAll was first k → OthersHaveAll now settled k
  others-still was now k pending here others =
      let there = settles.settles in
      let same = there.same in
      let tree = served_none.1 in
      let whole : record first { locks = settled.locks } ≡ settled =
      λ i. record { fs = sym same.fs i; tree = sym tree i; sessions = sym same.sessions i; table = sym same.table i; locks = settled.locks } in
      subst (λ (s : Scene). OthersHaveAll now s k) whole (still-all_there was now first settled.locks k pending here others)

-- ---- the step

-- the locks settle, and the step may end still, where it is kept what is permitted then
pub settled-may : (at from : ℕ → Bool) (was now : ClientViews) (first settled : Scene) (ended : List Ended) (sized : List Ino) → SettlesWith at from first settled ended sized
    → ArePermittedIn now settled → MayEnd was first → MayEnd now settled
settled-may at from was now first settled ended sized settles permitted may =
    let there = settles.settles in
    let same = there.same in
    record {
      numbers = subst (λ (t : Table). All (λ row. row.entry.seq < 18446744073709551615) t.rows) (sym same.table) may.numbers;
      clients = subst (λ (t : Table). All (λ row. IsTrue (has_session settled.sessions row.holder.client.0)) t.rows) (sym same.table)
          (subst (λ (s : SessionTable). All (λ row. IsTrue (has_session s row.holder.client.0)) first.table.rows) (sym same.sessions) may.clients);
      permitted = permitted;
    }

-- the end of a step makes no entry and forgets nothing that somebody has one on, so what is permitted stays so
finished-permitted : (at : ℕ → Bool) (known : Holder → Caps) (sized : List Ino) (s : Scene) (was now : ClientViews) → IsTree s.tree → ((k : Holder) → permitted_of now k ≡ permitted_of was k)
    → ArePermittedIn was s → ArePermittedIn now (finished_at at known (sizes_owed sized s))
finished-permitted at known sized s was now tree kept all k e here =
    let pending : Scene = sizes_owed sized s in
    let passes : EntryRow → Bool = λ row. at row.holder.ino.0 in
    let left : Scene = record pending { table = changed_where passes (finished_entry known pending) pending.table } in
    let before = was-there passes (finished_entry known pending) pending.table k e here in
    let first = was-there (is_sized sized) owed s.table k before.0 before.1 in
    let inside : Contains left.table.rows (record { holder = k; entry = e }) = found-contains (is_row_of k) left.table.rows (record { holder = k; entry = e }) (row_of-entry left.table k e here) in
    kept k ∙ all k first.0 first.1
    ∙ ap Some (sym (permitted-stays s.fs s.tree (forget_among at left).tree s.sessions s.sessions k
    (alike-retained s.tree (stays at left) tree (λ q gone. (goes at left q gone).1) k.ino.0 (stays-in_use at left k.ino.0 (in_use-held left (record { holder = k; entry = e }) inside))) refl))

-- the locks settle and then the step ends
pub settled-ends : (at from : ℕ → Bool) (was mid now : ClientViews) (first settled last : Scene) (ended : List Ended) (sized : List Ino)
    → SettlesWith at from first settled ended sized → IsTree first.tree → AreToldAlike was mid → ArePermittedIn mid settled → EndsAt at sized mid now settled last → EndsWith from was now first last ended
settled-ends at from was mid now first settled last ended sized settles tree pending permitted ends = record {
  at = at;
  settled = settled;
  sized = sized;
  settles = settles;
  tree = sound;
  finished = ends.finished ∙ (λ i. finished_at at (λ k. unwrap_or (pending k i) no_caps) (sizes_owed sized settled));
  kept = λ k. ends.kept k ∙ ap (known_anew (at k.ino.0) (pending_then (sizes_owed sized settled)) (find (is_row_of k) (sizes_owed sized settled).table.rows)) (pending k);
  permitted = subst (ArePermittedIn now) (sym ends.finished) (finished-permitted at (known_in mid) sized settled mid now sound ends.permitted permitted);
}
  where
    sound : IsTree settled.tree
    sound = let there = settles.settles in let all = there.settles in tree-moved first settles.moves settled all.made tree
