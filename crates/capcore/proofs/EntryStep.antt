-- An event is a whole step, when the locks have settled and the step has ended.
use Rattle.std.proofs.Common.{◌≡◌, List, ◌++◌, refl, sym, ap, ◌∙◌}
use Rattle.capcore.proofs.Common.{Event, Made, Reply, Scene, Settles, State, Step, all_ended, direct, earlier, ended_in, finished, reply_of, shown, sized_in}
use Rattle.capcore.proofs.Common.{sizes_owed, state_after, state_at_end}

module _ (old : State) (e : Event) (moves : List Made) (settled last : Scene) (settles : Settles (direct old e).state.scene moves settled)
    (ends : finished old.scene (direct old e).state.scene (sizes_owed (sized_in moves) settled) ≡ last) where
  -- the state at the end, but for what the answer tells
  ended_at : state_after old (direct old e) moves settled ≡ state_at_end old (direct old e).state moves last
  ended_at = λ i. record { scene = ends i; messages = (direct old e).state.messages ++ earlier old.scene.locks.last (ended_in moves) }

  pub one-step : (reply : Reply) (new : State) → reply ≡ reply_of (state_at_end old (direct old e).state moves last) (ended_in moves) (direct old e).reply_due
      → new ≡ shown (direct old e).reply_due (state_at_end old (direct old e).state moves last) → Step old e reply (all_ended old (direct old e) moves) new
  one-step reply new answers is = (
    moves,
    record {
      settled = settled;
      settles = settles;
      reply_is = answers ∙ sym (ap (λ (s : State). reply_of s (ended_in moves) (direct old e).reply_due) ended_at);
      new_is = is ∙ sym (ap (shown (direct old e).reply_due) ended_at);
      ended_is = refl;
    },
  )
