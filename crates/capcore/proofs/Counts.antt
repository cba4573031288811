-- Counts stay right behind the messages of a poll and behind a recall, and no gather is open where the core begins.
use Rattle.std.proofs.Common.{◌≡◌, ℕ, Bool, true, false, cond, Option, Some, None, List, refl, sym, subst, take}
use Rattle.std.specs.Option.{option_map}
use Rattle.std.specs.FinMap as map
use Rattle.capbits.specs.declared.cap.Part.TheVariants.{A, F, L, X}
use Rattle.captable.specs.Calls.{with_asked}
use Rattle.captable.specs.Many.{remade}
use Rattle.lockmachine.proofs.CountsStay.{counted-held, held-map}
use Rattle.lockmachine.specs.Counts.{IsCounted, LockId, count_of}
use Rattle.capcore.proofs.Common.{AreCounted, CountedLocks, Entry, EntryRow, IsOpening, LockMap, Node, Nodes, Part, State, Table, changed_where, in_sync}
use Rattle.capcore.proofs.Common.{is_among, lock_at, lock_in, recalled}

-- ---- entries that hold what they held

module _ (g : EntryRow → Entry) (held : (row : EntryRow) → (g row).held ≡ row.entry.held) where
  of_holder : (b : Bool) (row : EntryRow) → (cond b (remade g row) row).holder ≡ row.holder
  of_holder true row = refl
  of_holder false row = refl

  as_held : (b : Bool) (row : EntryRow) → (cond b (remade g row) row).entry.held ≡ row.entry.held
  as_held true row = held row
  as_held false row = refl

  pub counted-where : (passes : EntryRow → Bool) (t : Table) (l : CountedLocks) → AreCounted t l → AreCounted (changed_where passes g t) l
  counted-where passes t = counted-held t (changed_where passes g t) (held-map (λ row. cond (passes row) (remade g row) row) (λ row. of_holder (passes row) row) (λ row. as_held (passes row) row) t.rows)

pub recalled-counted : (t : Table) (n : ℕ) (l : CountedLocks) → AreCounted t l → AreCounted (recalled t n) l
recalled-counted t n = counted-where (λ row. with_asked true row.entry) (λ row. refl) (λ row. is_among (take n t.recall) row.holder) t

-- ---- the opening

-- the locks of an inode begin in SYNC
fresh : (t : Table) (at : LockId) (n : ℕ) (o : Option Node) (part : Part) → IsCounted t at n (option_map (lock_in part) (option_map (λ node. in_sync) o))
fresh t at n None part = tt
fresh t at n (Some node) A = tt
fresh t at n (Some node) L = tt
fresh t at n (Some node) X = tt
fresh t at n (Some node) F = tt

pub opening-counted : (fs : List ℕ) (tree : Nodes) (s : State) → IsOpening fs tree s → (t : Table) (l : CountedLocks) → l.locks ≡ s.scene.locks → AreCounted t l
opening-counted fs tree s is t l same ino part =
    subst (λ (m : LockMap). IsCounted t (ino, part) (count_of l (ino, part)) (lock_at m ino part)) (sym same)
    (subst (λ o. IsCounted t (ino, part) (count_of l (ino, part)) (option_map (lock_in part) o)) (sym (is.locks_are ino)) (fresh t (ino, part) (count_of l (ino, part)) (map.get tree.nodes ino) part))
