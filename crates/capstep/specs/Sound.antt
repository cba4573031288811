-- What every state of the core keeps between two events: all that it speaks of is there, and nothing is left to do. What its
-- parts keep by themselves is in `IsTree`, `IsTable`, `IsLockMap` and the like.
use Rattle.std.specs.List.{list_any}
use Rattle.std.specs.Prelude.{◌≡◌, ◌≤◌, ◌<◌, ◌^◌, ℕ, IsTrue, All}
use Rattle.std.specs.FinMap as map
use Rattle.capbits.specs.Caps.{has}
use Rattle.capbits.specs.Sets.{IsSubset}
use Rattle.capbits.specs.declared.cap.Cap.TheVariants.{P}
use Rattle.inotree.specs.Tree.{presence}
use Rattle.inotree.specs.declared.node.Presence.TheVariants.{Gone}
use Rattle.captable.specs.Calls.{is_of_inode}
use Rattle.captable.specs.declared.entry.EntryRow.{EntryRow}
use Rattle.sessiontab.specs.Calls.{has_session}
use Rattle.lockmachine.specs.Moves.{IsAtRest}
use Rattle.lockmachine.specs.Scene.{Scene}
use Rattle.capstep.specs.Finish.{issuable}
use Rattle.capstep.specs.Headline.{AreInPlace}
use Rattle.capstep.specs.State.{State}

-- an entry
pub record IsSoundEntry (s : Scene) (row : EntryRow) : Type 0 where
  pub of_session : IsTrue (has_session s.sessions row.holder.client.0)
  pub on_inode : IsTrue (map.contains_key s.tree.nodes row.holder.ino.0)
  -- the pin is held and wanted, and what is due is held
  pub holds_pin : IsTrue (has row.entry.held P)
  pub wants_pin : IsTrue (has row.entry.want P)
  pub has_issuable : IsSubset (issuable s row) row.entry.held
  -- neither the change of which its client was told last nor the one that revoked something last comes after the last of all
  pub told : row.entry.told_seq ≤ row.entry.seq
  pub revoked : row.entry.revoke_seq ≤ row.entry.seq

pub record IsSound (s : State) : Type 0 where
  pub entries : All (IsSoundEntry s.scene) s.scene.table.rows
  -- who waits or is still to be told has a session
  pub waiting : All (λ q. IsTrue (has_session s.scene.sessions q.client.0)) s.scene.locks.queue
  pub messages : All (λ m. IsTrue (has_session s.scene.sessions m.client.0)) s.messages
  -- the inodes that are there have locks, and no others
  pub locked : (ino : ℕ) → map.contains_key s.scene.locks.states ino ≡ map.contains_key s.scene.tree.nodes ino
  -- somebody has an entry on each stray
  pub strays : (ino : ℕ) → presence s.scene.tree.nodes ino ≡ Gone →
      IsTrue (list_any (is_of_inode (record { 0 = ino })) s.scene.table.rows)
  -- what is held is where it may be, and the locks are at rest, so that who waits, waits at a gather that is open
  pub in_place : AreInPlace s.scene
  pub at_rest : IsAtRest s.scene

-- behind a history of so many rows: each row gives at most one number to an entry and one to a request, and makes at most one
-- entry
pub record AreGiven (count : ℕ) (s : State) : Type 0 where
  pub entries : All (λ row. row.entry.seq ≤ count) s.scene.table.rows
  pub last : s.scene.locks.last ≤ count
  pub made : s.scene.table.made ≤ count

-- no number is at its end
abbrev pub NumbersLeft : State → Type 0
NumbersLeft s = (count : ℕ) × AreGiven count s × (count < 2 ^ 32)
