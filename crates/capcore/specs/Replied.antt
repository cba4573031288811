-- What a step says, and what it leaves.
use Rattle.std.specs.Prelude.{◌≡◌, ℕ, ◌+◌}
use Rattle.capstep.specs.declared.event.Event.{Event}
use Rattle.capstep.specs.Direct.{direct}
use Rattle.capstep.specs.Headline.{IssuesExactly}
use Rattle.capstep.specs.Sound.{AreGiven, IsSound}
use Rattle.capstep.specs.State.{State}
use Rattle.capstep.specs.Step.{Step}
use Rattle.capcore.specs.declared.step_reply.StepReply.{StepReply}

-- it is a step, with this answer and these requests of earlier steps that it ended; the state stays sound, what is issued is
-- what is wanted, permitted and allowed, and no number rises by more than one
pub record IsReplied (old : State) (e : Event) (step_reply : StepReply) (new : State) : Type 0 where
  pub step : Step old e step_reply.reply.given step_reply.ended new
  pub recorded : step_reply.reply.recorded ≡ step_reply.reply.given
  pub sound : IsSound new
  pub issued : IssuesExactly (direct old e).state.scene new.scene
  pub given : (count : ℕ) → AreGiven count old → AreGiven (count + 1) new
