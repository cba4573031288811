-- How the locks of several inodes settle: in the order of their numbers, and anew once one changed that was passed, or was moved.
use Rattle.std.specs.Prelude.{◌≡◌, ℕ, Bool, true, false, List, [], Option, Some, None}
use Rattle.std.specs.FinMap as map
use Rattle.std.specs.FinSet as set
use Rattle.capbits.specs.declared.cap.Part.{Part}
use Rattle.capbits.specs.declared.ids.Ticket.{Ticket}
use Rattle.inotree.specs.InoSets.{InoSet, IsLeastFrom}
use Rattle.capstep.specs.Settle.{Made, MakesAll, ended_in}
use Rattle.lockmachine.specs.Moves.{first_move, may_begin, may_end}
use Rattle.lockmachine.specs.Scene.{Scene}
use Rattle.lockmachine.specs.Cursors.{IsCursorAt, NobodyElsewhere, WaitAt}
use Rattle.lockmachine.specs.declared.moves.Move.TheVariants.{Serve, Settled}
use Rattle.capcore.specs.declared.settle.SweepPlace.{SweepPlace}

-- it is the turn of the least of them
abbrev pub IsCursorAtTheLeast : InoSet → Scene → Type 0
IsCursorAtTheLeast inos s = (ino : ℕ) → IsLeastFrom inos 0 ino → IsCursorAt s ino

-- where the sweep has come to: it is the turn of this inode, which is one of these; and where that is known, nobody who waits at
-- another may be served
pub record StandsAt (at : ℕ → Bool) (place : SweepPlace) (s : Scene) : Type 0 where
  pub cursor : IsCursorAt s place.at.0
  pub here : at place.at.0 ≡ true
  pub alone : place.alone ≡ true → NobodyElsewhere s.locks place.at.0

-- at the beginning it comes to the least of the affected inodes. It is known that nobody waits elsewhere who may be served, where
-- no other is affected
pub record IsFirstPlace (affected : InoSet) (place : SweepPlace) : Type 0 where
  pub least : IsLeastFrom affected 0 place.at.0
  pub alone : place.alone ≡ true → set.len affected ≡ 1

-- at all others no gather may begin or end
pub record AreStill (at : ℕ → Bool) (s : Scene) : Type 0 where
  pub ends : (other : ℕ) (part : Part) → at other ≡ false → may_end s (other, part) ≡ false
  pub begins : (other : ℕ) (part : Part) → at other ≡ false → may_begin s (other, part) ≡ false

-- gathers began and ended at these inodes, always by the first move that applied; who waits at another is held up
pub record IsSwept (at : ℕ → Bool) (first now : Scene) : Type 0 where
  pub moves : List Made
  pub made : MakesAll first moves now
  pub none : ended_in moves ≡ []
  pub is : now ≡ record first { locks = now.locks }
  pub states : (other : ℕ) → at other ≡ false → map.get now.locks.states other ≡ map.get first.locks.states other
  pub queue : now.locks.queue ≡ first.locks.queue
  pub waits : WaitAt at now

-- the request that is to be served next, or else no move applies
abbrev pub GoesOn : Scene → Option Ticket → Type 0
GoesOn s None = first_move s ≡ Settled
GoesOn s (Some ticket) = first_move s ≡ Serve ticket
