-- A client that gives up what it holds: each gather that waited for it waits for one client less.
use Rattle.std.proofs.Common.{◌≡◌, ℕ, ◌+◌, ◌-◌, ◌<◌, Bool, true, false, ◌&&◌, ◌||◌, cond, Option, Some, None, List, [], ◌∷◌, take, get_or, refl, sym, ap, ◌∙◌}
use Rattle.std.proofs.Common.{arith, zero, suc}
use Rattle.std.specs.Prelude.{◌==◌}
use Rattle.std.specs.List.{list_any}
use Rattle.std.specs.FinMap as map
use Rattle.std.specs.Option.{option_map}
use Rattle.std.proofs.lemmas.Bool.{eqb-true}
use Rattle.std.proofs.lemmas.List.Folds.{list_any_more}
use Rattle.capbits.specs.declared.cap.Part.{Part}
use Rattle.capbits.specs.declared.cap.Part.TheVariants.{A, F, L, X}
use Rattle.capbits.specs.Caps.{Caps}
use Rattle.locktable.specs.declared.states.LockState.{LockState}
use Rattle.captable.specs.declared.entry.EntryRow.{EntryRow}
use Rattle.lockmachine.specs.Lock.{LockId}
use Rattle.lockmachine.specs.declared.states.InodeLocks.{InodeLocks}
use Rattle.lockmachine.specs.Counts.{CountedLocks, count_of, given_up, waits_no_longer, with_one_less}
use Rattle.lockmachine.specs.Inodes.{lock_in}
use Rattle.lockmachine.specs.Requests.{same_part}
use Rattle.lockmachine.specs.Locks.{lock_at}
use Rattle.lockmachine.specs.Moves.{parts}
use Rattle.lockmachine.proofs.Counted.{count-less}
use Rattle.lockmachine.proofs.Moving.{is_at}
use Rattle.lockmachine.proofs.Rest.{same_part_is}

-- by how many a lock waits for less, once these parts were looked at
abbrev pub taken_off : EntryRow → Caps → List Part → LockId → Option LockState → ℕ
taken_off row left done at o = cond (list_any (same_part at.1) done) (given_up row left at o) 0

pub record GivesUp (row : EntryRow) (left : Caps) (first now : CountedLocks) (done : List Part) : Type 0 where
  pub locks : now.locks ≡ first.locks
  pub counts : (at : LockId) → count_of now at ≡ count_of first at - taken_off row left done at (lock_at first.locks at.0 at.1)

-- each part comes once
once : (i : ℕ) (d q : Part) → i < 4 → same_part q (get_or parts i d) ≡ true → list_any (same_part q) (take i parts) ≡ false
once zero d q room same = refl
once (suc zero) d A room same = absurd (cc)
once (suc zero) d L room same = refl
once (suc zero) d X room same = absurd (cc)
once (suc zero) d F room same = absurd (cc)
once (suc (suc zero)) d A room same = absurd (cc)
once (suc (suc zero)) d L room same = absurd (cc)
once (suc (suc zero)) d X room same = refl
once (suc (suc zero)) d F room same = absurd (cc)
once (suc (suc (suc zero))) d A room same = absurd (cc)
once (suc (suc (suc zero))) d L room same = absurd (cc)
once (suc (suc (suc zero))) d X room same = absurd (cc)
once (suc (suc (suc zero))) d F room same = refl
once (suc (suc (suc (suc i)))) d q room same = absurd (omega arith)

-- one part more: m says whether the lock's part was among those before, b whether it is this one, h whether the inode is the client's,
-- and w whether the gather waits no longer
one-part : (m b h w : Bool) (first now g : ℕ) → now ≡ first - cond m g 0 → (b ≡ true → m ≡ false) → (h ≡ false → g ≡ 0) → (h ≡ true → b ≡ true → g ≡ cond w 1 0)
    → cond w (cond (h && b) (now - 1) now) now ≡ first - cond (m || b) g 0
one-part true true h w first now g is apart off here = absurd (let no : true ≡ false = apart refl in cc)
one-part true false true true first now g is apart off here = is
one-part true false true false first now g is apart off here = is
one-part true false false true first now g is apart off here = is
one-part true false false false first now g is apart off here = is
one-part false false true true first now g is apart off here = is
one-part false false true false first now g is apart off here = is
one-part false false false true first now g is apart off here = is
one-part false false false false first now g is apart off here = is
one-part false true true true first now g is apart off here = (let one : g ≡ 1 = here refl refl in omega (arith, is))
one-part false true true false first now g is apart off here = is ∙ ap (λ n. first - n) (sym (here refl refl))
one-part false true false true first now g is apart off here = is ∙ ap (λ n. first - n) (sym (off refl))
one-part false true false false first now g is apart off here = is ∙ ap (λ n. first - n) (sym (off refl))

module _ (row : EntryRow) (left : Caps) (first : CountedLocks) where
  -- another inode's locks did not wait for it
  given-elsewhere : (at : LockId) (o : Option LockState) → (at.0 == row.holder.ino.0) ≡ false → given_up row left at o ≡ 0
  given-elsewhere at None off = refl
  given-elsewhere at (Some lock) off = ap (λ b. cond (b && waits_no_longer at.1 row left lock) 1 0) off

  pub gives-first : GivesUp row left first first (take 0 parts)
  gives-first = record { locks = refl; counts = λ at. omega arith }

  -- where the inode has no locks, none waited
  pub gives-none : map.get first.locks.states row.holder.ino.0 ≡ None → (at : LockId) → count_of first at ≡ count_of first at - given_up row left at (lock_at first.locks at.0 at.1)
  gives-none none at = by_inode (at.0 == row.holder.ino.0) refl
    where
      by_inode : (h : Bool) → (at.0 == row.holder.ino.0) ≡ h → count_of first at ≡ count_of first at - given_up row left at (lock_at first.locks at.0 at.1)
      by_inode false off = (let none_off = given-elsewhere at (lock_at first.locks at.0 at.1) off in omega arith)
      by_inode true here =
          let gone : lock_at first.locks at.0 at.1 ≡ None = ap (λ n. lock_at first.locks n at.1) (eqb-true at.0 row.holder.ino.0 here) ∙ ap (option_map (lock_in at.1)) none in
          let none_off : given_up row left at (lock_at first.locks at.0 at.1) ≡ 0 = ap (given_up row left at) gone in omega arith

  -- all parts were looked at
  pub gives-all : (now : CountedLocks) → GivesUp row left first now parts → (at : LockId) → count_of now at ≡ count_of first at - given_up row left at (lock_at first.locks at.0 at.1)
  gives-all now gives at =
      gives.counts at ∙ ap (λ b. count_of first at - cond b (given_up row left at (lock_at first.locks at.0 at.1)) 0) (among at.1)
    where
      among : (q : Part) → list_any (same_part q) parts ≡ true
      among A = refl
      among L = refl
      among X = refl
      among F = refl

  module _ (now : CountedLocks) (i : ℕ) (d : Part) (four : InodeLocks) (w : Bool) (room : i < 4) (has : map.get first.locks.states row.holder.ino.0 ≡ Some four)
      (waits : waits_no_longer (get_or parts i d) row left (lock_in (get_or parts i d) four) ≡ w) (gives : GivesUp row left first now (take i parts)) where
    abbrev part : Part
    part = get_or parts i d

    -- this part's lock waits for one less, or for as many as before
    given-here : (at : LockId) → (at.0 == row.holder.ino.0) ≡ true → same_part at.1 part ≡ true → given_up row left at (lock_at first.locks at.0 at.1) ≡ cond w 1 0
    given-here at here same =
        let ino : at.0 ≡ row.holder.ino.0 = eqb-true at.0 row.holder.ino.0 here in
        let own : at.1 ≡ part = same_part_is at.1 part same in
        let lock : lock_at first.locks at.0 at.1 ≡ Some (lock_in part four) = (λ j. lock_at first.locks (ino j) (own j)) ∙ ap (option_map (lock_in part)) has in
        ap (given_up row left at) lock ∙ (λ j. cond (here j && waits_no_longer (own j) row left (lock_in part four)) 1 0) ∙ ap (λ b. cond b 1 0) waits

    one-more : (at : LockId) → cond w (cond (is_at row.holder.ino.0 part at) (count_of now at - 1) (count_of now at)) (count_of now at)
        ≡ count_of first at - taken_off row left (take (i + 1) parts) at (lock_at first.locks at.0 at.1)
    one-more at =
        let g = given_up row left at (lock_at first.locks at.0 at.1) in
        one-part (list_any (same_part at.1) (take i parts)) (same_part at.1 part) (at.0 == row.holder.ino.0) w (count_of first at) (count_of now at) g (gives.counts at) (once i d at.1 room)
        (given-elsewhere at (lock_at first.locks at.0 at.1)) (given-here at)
        ∙ ap (λ b. count_of first at - cond b g 0) (sym (list_any_more (same_part at.1) parts i d room))

  -- the gather of a part goes on as it did
  pub gives-passed : (now : CountedLocks) (i : ℕ) (d : Part) (four : InodeLocks) → i < 4 → map.get first.locks.states row.holder.ino.0 ≡ Some four
      → waits_no_longer (get_or parts i d) row left (lock_in (get_or parts i d) four) ≡ false → GivesUp row left first now (take i parts) → GivesUp row left first now (take (i + 1) parts)
  gives-passed now i d four room has waits gives = record { locks = gives.locks; counts = one-more now i d four false room has waits gives }

  -- or waits for one less
  pub gives-less : (now : CountedLocks) (i : ℕ) (d : Part) (four : InodeLocks) → i < 4 → map.get first.locks.states row.holder.ino.0 ≡ Some four
      → waits_no_longer (get_or parts i d) row left (lock_in (get_or parts i d) four) ≡ true → GivesUp row left first now (take i parts)
      → GivesUp row left first (with_one_less now row.holder.ino.0 (get_or parts i d)) (take (i + 1) parts)
  gives-less now i d four room has waits gives = record {
    locks = gives.locks;
    counts = λ at. count-less now.counts row.holder.ino.0 at.0 (get_or parts i d) at.1 ∙ one-more now i d four true room has waits gives at;
  }
