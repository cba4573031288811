-- What there has to be behind an event, before the locks settle and the step ends.
use Rattle.std.specs.Prelude.{◌≡◌, ◌≤◌, ◌<◌, ◌^◌, ◌-◌, ◌+◌, ◌==◌, ℕ, Bool, [], All, IsTrue, length, vec_capacity}
use Rattle.std.specs.FinSet as set
use Rattle.sessiontab.specs.Calls.{has_session}
use Rattle.capstep.specs.NotedChanges.{HavePlaces, Noted}
use Rattle.step_acts.specs.Known.{ClientViews, OthersHaveAll}
use Rattle.lockmachine.specs.Counts.{AreCounted}
use Rattle.lockmachine.specs.Locks.{IsLockMap}
use Rattle.lockmachine.specs.Moves.{IsAtRestOutside}
use Rattle.lockmachine.specs.Policy.{ArePermitted}
use Rattle.lockmachine.specs.Scene.{Scene}
use Rattle.lockmachine.specs.declared.scene.KeptScene.{KeptScene}
use Rattle.capcore.specs.Judged.{IsJudged}
use Rattle.capcore.specs.declared.output.StepOutput.{StepOutput}
use Rattle.capcore.specs.declared.settle.Affected.{Affected}
use Rattle.capcore.specs.declared.settle.Affected.TheVariants.{Entry, Inodes}

-- the inodes whose locks may move
abbrev pub among : Affected → ℕ → Bool
among (Entry k) = λ other. other == k.ino.0
among (Inodes inos) = set.contains inos

-- the event was about these inodes: the locks of all others are quiet, and requests wait in order
pub record MaySettle (from : ℕ → Bool) (s : Scene) : Type 0 where
  pub resting : IsAtRestOutside from s
  pub order : IsLockMap s.locks

-- of each entry it is kept what its client is permitted
abbrev pub ArePermittedIn : ClientViews → Scene → Type 0
ArePermittedIn sets s = ArePermitted sets s.fs s.tree s.sessions s.table

-- beside each lock in a gather stands how many clients it waits for
abbrev pub AreCountedIn : KeptScene → Type 0
AreCountedIn s = AreCounted s.table.entries s.locks

-- so it is, and each entry has a number left, and its client a session
pub record MayEnd (known : ClientViews) (s : Scene) : Type 0 where
  pub numbers : All (λ row. row.entry.seq < 2 ^ 64 - 1) s.table.rows
  pub clients : All (λ row. IsTrue (has_session s.sessions row.holder.client.0)) s.table.rows
  pub permitted : ArePermittedIn known s

-- no request has ended and no size was changed yet, and there is room for so many
pub record HaveRoomFor (waiting : ℕ) (output : StepOutput) : Type 0 where
  pub given : output.given.items ≡ []
  pub recorded : output.recorded.items ≡ []
  pub sized : output.sized.items ≡ []
  pub given_room : waiting ≤ vec_capacity output.given
  pub recorded_room : waiting ≤ vec_capacity output.recorded
  pub sized_room : waiting ≤ vec_capacity output.sized

-- there is a place for the change of each request that waits and of each inode; and where one entry alone was affected, the others
-- on its inode have all
abbrev pub MayEndAt : Affected → ClientViews → Scene → Noted → Type 0
MayEndAt (Entry k) known s noted = (length noted.items + length s.locks.queue + 1 ≤ noted.room) × OthersHaveAll known s k
MayEndAt (Inodes inos) known s noted = HavePlaces noted s.locks inos

-- the locks of these inodes may settle, and the step may end there
pub record IsReady (affected : Affected) (known : ClientViews) (s : Scene) (output : StepOutput) : Type 0 where
  pub settles : MaySettle (among affected) s
  pub judged : IsJudged output.judged s
  pub entries : MayEnd known s
  pub room : HaveRoomFor (length s.locks.queue) output
  pub at : MayEndAt affected known s output.changes
