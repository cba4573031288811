-- One step: the event by itself, the moves, and the end of the step.
use Rattle.std.specs.Prelude.{◌≡◌, ℕ, nat_le, List, ◌++◌, filter}
use Rattle.capstep.specs.declared.event.Event.{Event}
use Rattle.capstep.specs.declared.outcome.Ended.{Ended}
use Rattle.capstep.specs.declared.reply.Reply.{Reply}
use Rattle.lockmachine.specs.Scene.{Scene}
use Rattle.capstep.specs.Direct.{Direct, direct, reply_of, shown}
use Rattle.capstep.specs.Finish.{finished, sizes_owed}
use Rattle.capstep.specs.Settle.{Made, Settles, ended_in, sized_in}
use Rattle.capstep.specs.State.{State}

-- of the requests that the moves ended, those of earlier steps: they have no number above the last that was given before
abbrev pub earlier : ℕ → List Ended → List Ended
earlier last ended = filter (λ m. nat_le m.ticket.0 last) ended

-- the requests of earlier steps that this one ended: those that the event dropped, and those that were served
abbrev pub all_ended : State → Direct → List Made → List Ended
all_ended old d moves = d.dropped ++ earlier old.scene.locks.last (ended_in moves)

-- the state at the end of a step by these moves that leads to this scene, but for what the answer tells, where the state was
-- `affected` right after the event. What the event dropped is told to nobody, as the session of its client has ended
abbrev pub state_at_end : State → State → List Made → Scene → State
state_at_end old affected moves last = record affected { scene = last; messages = affected.messages ++ earlier old.scene.locks.last (ended_in moves) }

-- and where these moves have settled the locks
abbrev pub state_after : State → Direct → List Made → Scene → State
state_after old d moves settled = state_at_end old d.state moves (finished old.scene d.state.scene (sizes_owed (sized_in moves) settled))

-- a step by these moves
pub record StepBy (old : State) (e : Event) (moves : List Made) (reply : Reply) (ended : List Ended) (new : State) : Type 0 where
  pub settled : Scene
  pub settles : Settles (direct old e).state.scene moves settled
  pub reply_is : reply ≡ reply_of (state_after old (direct old e) moves settled) (ended_in moves) (direct old e).reply_due
  pub new_is : new ≡ shown (direct old e).reply_due (state_after old (direct old e) moves settled)
  pub ended_is : ended ≡ all_ended old (direct old e) moves

-- the event leads from the old state to the new, with this answer, and ends these requests of earlier steps
abbrev pub Step : State → Event → Reply → List Ended → State → Type 0
Step old e reply ended new = (moves : List Made) × StepBy old e moves reply ended new
