-- Whose turn it is: how it passes from one inode to the next, and what moves leave of it.
use Rattle.std.proofs.Common.{◌≡◌, ◌≢◌, ℕ, ◌<◌, true, false, ◌==◌, Option, Some, None, refl, sym, ap, subst, ◌∙◌, arith}
use Rattle.std.specs.List.{find}
use Rattle.std.specs.Option.{is_some, option_map}
use Rattle.std.specs.FinMap as map
use Rattle.std.proofs.lemmas.Bool.{eqb-false, eqb-true}
use Rattle.capbits.specs.declared.cap.Part.{Part}
use Rattle.capbits.specs.declared.ids.Ticket.{Ticket}
use Rattle.lockmachine.specs.declared.states.InodeLocks.{InodeLocks}
use Rattle.lockmachine.specs.declared.moves.Move.TheVariants.{Serve, Settled}
use Rattle.lockmachine.specs.Inodes.{lock_in}
use Rattle.lockmachine.specs.Locks.{LockMap}
use Rattle.lockmachine.specs.Scene.{Scene}
use Rattle.lockmachine.specs.Moves.{LockId, first_move, lock_ids, may_begin, may_end, may_end_in, may_serve}
use Rattle.lockmachine.specs.Runs.{ChangesLocksOf}
use Rattle.lockmachine.specs.Elsewhere.{IsSameBut}
use Rattle.lockmachine.specs.Cursors.{IsCursorAt, IsDoneAt, NothingEnds, begin_or_rest, end_or_serve, serve_or_begin}
use Rattle.lockmachine.proofs.FirstMove.{first-found}
use Rattle.lockmachine.proofs.Finding.{by_number, find_none}
use Rattle.lockmachine.proofs.Rest.{none_at}
use Rattle.lockmachine.proofs.SameBut.{begin-alike, end-alike, same-at, same-locks}

-- ---- where the sweep has come to

pub ends-cursor : (s : Scene) (a : ℕ) → NothingEnds s → ((other : ℕ) (part : Part) → other < a → may_begin s (other, part) ≡ false) → IsCursorAt s a
ends-cursor s a ends begins = record { ends = λ other part off. ends other part; begins = begins }

-- where it is an inode's turn and the inode is done, no gather may end
pub done-ends : (s : Scene) (a : ℕ) → IsCursorAt s a → IsDoneAt s a → NothingEnds s
done-ends s a cursor done other part = elim (other == a) as (λ b. (other == a) ≡ b → may_end s (other, part) ≡ false) [
  | true ↦ λ e. subst (λ i. may_end s (i, part) ≡ false) (sym (eqb-true other a e)) (done.ends part)
  | false ↦ λ e. cursor.ends other part (eqb-false other a e)
] refl

-- and what begins, is above it
pub done-begins : (s : Scene) (a : ℕ) → IsCursorAt s a → IsDoneAt s a → (other : ℕ) (part : Part) → (a < other → may_begin s (other, part) ≡ false) → may_begin s (other, part) ≡ false
done-begins s a cursor done other part above =
    by_number other a (may_begin s (other, part) ≡ false) (cursor.begins other part)
    (λ same. subst (λ i. may_begin s (i, part) ≡ false) (sym same) (done.begins part)) above

pub cursor-passes : (s : Scene) (a b : ℕ) → IsCursorAt s a → IsDoneAt s a → a < b
    → ((other : ℕ) (part : Part) → a < other → other < b → may_begin s (other, part) ≡ false) → IsCursorAt s b
cursor-passes s a b cursor done less between =
    ends-cursor s b (done-ends s a cursor done) (λ other part below. done-begins s a cursor done other part (λ above. between other part above below))

pub cursor-rests : (s : Scene) (a : ℕ) → IsCursorAt s a → IsDoneAt s a
    → ((other : ℕ) (part : Part) → a < other → may_begin s (other, part) ≡ false) → first_move s ≡ Settled
cursor-rests s a cursor done above =
    first-found s
    ∙ ap (end_or_serve s) (find_none (may_end s) (lock_ids s.locks) (λ at inside. done-ends s a cursor done at.0 at.1))
    ∙ ap (serve_or_begin s) (find_none (may_serve s.locks) s.locks.queue done.serves)
    ∙ ap (begin_or_rest s) (find_none (may_begin s) (lock_ids s.locks) (λ at inside. done-begins s a cursor done at.0 at.1 (above at.0 at.1)))

-- ---- what is served, and what no gather's end comes before

-- a search of all locks that finds no gather to end
no_end_found : (s : Scene) (ticket : Ticket) (o : Option LockId) → end_or_serve s o ≡ Serve ticket → o ≡ None
no_end_found s ticket None is = refl
no_end_found s ticket (Some at) is = absurd (cc)

pub served-ends : (s : Scene) (ticket : Ticket) → first_move s ≡ Serve ticket → NothingEnds s
served-ends s ticket is ino part = by_locks (map.get s.locks.states ino) refl
  where
    by_locks : (o : Option InodeLocks) → map.get s.locks.states ino ≡ o → may_end s (ino, part) ≡ false
    by_locks None gone = ap (λ l. may_end_in s.table (ino, part) (option_map (lock_in part) l)) gone
    by_locks (Some locks) has =
        none_at (may_end s) (map.keys s.locks.states) (no_end_found s ticket (find (may_end s) (lock_ids s.locks)) (sym (first-found s) ∙ is)) ino
        (sym (map.contains_key-keys s.locks.states ino) ∙ ap is_some has) part

-- ---- what is kept elsewhere

pub end-same-but : (ino : ℕ) (old new : Scene) → IsSameBut ino old new → (other : ℕ) (part : Part) → other ≢ ino → may_end new (other, part) ≡ may_end old (other, part)
end-same-but ino old new same other part off = end-alike other old new (same-at ino old new same other off) part

pub begin-same-but : (ino : ℕ) (old new : Scene) → IsSameBut ino old new → (other : ℕ) (part : Part) → other ≢ ino → may_begin new (other, part) ≡ may_begin old (other, part)
begin-same-but ino old new same other part off = begin-alike other old new (same-at ino old new same other off) part

pub end-stays : (ino : ℕ) (s : Scene) (new : LockMap) → ChangesLocksOf ino s.locks new → (other : ℕ) (part : Part) → other ≢ ino
    → may_end (record s { locks = new }) (other, part) ≡ may_end s (other, part)
end-stays ino s new changes = end-same-but ino s (record s { locks = new }) (same-locks ino s new changes)

pub begin-stays : (ino : ℕ) (s : Scene) (new : LockMap) → ChangesLocksOf ino s.locks new → (other : ℕ) (part : Part) → other ≢ ino
    → may_begin (record s { locks = new }) (other, part) ≡ may_begin s (other, part)
begin-stays ino s new changes = begin-same-but ino s (record s { locks = new }) (same-locks ino s new changes)

-- moves at the inode leave it its turn
pub cursor-stays : (ino : ℕ) (s : Scene) (new : LockMap) → ChangesLocksOf ino s.locks new → IsCursorAt s ino → IsCursorAt (record s { locks = new }) ino
cursor-stays ino s new changes cursor = record {
  ends = λ other part off. end-stays ino s new changes other part off ∙ cursor.ends other part off;
  begins = λ other part less. (let off : other ≢ ino = omega arith in begin-stays ino s new changes other part off ∙ cursor.begins other part less);
}
