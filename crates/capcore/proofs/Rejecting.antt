-- In a sound state an event that is rejected has one step alone, which changes nothing.
use Rattle.std.proofs.Common.{◌≡◌, Some, List, [], ◌∷◌, refl, sym, ap, subst, ◌∙◌, append-nil, arith}
use Rattle.capstep.specs.Direct.{says}
use Rattle.capstep.specs.Step.{all_ended}
use Rattle.capcore.proofs.CommonPieces.{Direct, Ended, Event, IsSound, IsTable, Made, Makes, MakesAll, Rejection, Reply, Scene, Settled, Settles, State, Step}
use Rattle.capcore.proofs.CommonPieces.{direct, effect_unless, ended_in, first_move, judged, rejection_reply, reply_of, settled, shown, state_after}
use Rattle.capcore.proofs.SoundEnd.{sound-ends, sound-settles}

pub rejection-step : (old : State) (e : Event) (rejection : Rejection) → IsSound old → IsTable old.scene.table → judged old.scene e ≡ Some rejection → Step old e (rejection_reply rejection) [] old
rejection-step old e rejection sound table is = (
  [],
  record {
    settled = old.scene;
    settles = subst (λ (d : Direct). Settles d.state.scene [] old.scene) (sym by_itself) (sound-settles old sound);
    new_is = sym (ap (λ (d : Direct). shown d.reply_due (state_after old d [] old.scene)) by_itself ∙ (λ i. record old { scene = sound-ends old sound table i; messages = append-nil old.messages i }));
    reply_is = ap (λ (d : Direct). reply_of (state_after old d [] old.scene) [] d.reply_due) (sym by_itself);
    ended_is = ap (λ (d : Direct). all_ended old d []) (sym by_itself);
  },
)
  where
    by_itself : direct old e ≡ says old (rejection_reply rejection)
    by_itself = ap (effect_unless old e) is

-- ---- and no other step

-- no move is made where none applies
no_move : (old mid : Scene) (m : Made) → first_move old ≡ Settled → Makes old m mid → ⊥
no_move old mid m still made = grind arith

pub no_moves : (old : Scene) (moves : List Made) (new : Scene) → first_move old ≡ Settled → MakesAll old moves new → (moves ≡ []) × (new ≡ old)
no_moves old [] new still made = (refl, made)
no_moves old (m ∷ ms) new still made = absurd (no_move old made.0 m still made.1)

pub rejection-only : (old new : State) (e : Event) (rejection : Rejection) (reply : Reply) (ended : List Ended) → IsSound old → IsTable old.scene.table → judged old.scene e ≡ Some rejection
    → Step old e reply ended new → (reply ≡ rejection_reply rejection) × (ended ≡ []) × (new ≡ old)
rejection-only old new e rejection reply ended sound table is (moves, step) = (
  step.reply_is ∙ ap (λ (d : Direct). reply_of (state_after old d moves step.settled) (ended_in moves) d.reply_due) by_itself,
  step.ended_is ∙ ap (λ (d : Direct). all_ended old d moves) by_itself ∙ ap (all_ended old here) none.0,
  step.new_is
      ∙ ap (λ (d : Direct). shown d.reply_due (state_after old d moves step.settled)) by_itself
      ∙ ap (λ (ms : List Made). state_after old here ms step.settled) none.0
      ∙ ap (state_after old here []) none.1
      ∙ (λ i. record old { scene = sound-ends old sound table i; messages = append-nil old.messages i }),
)
  where
    here : Direct
    here = says old (rejection_reply rejection)

    by_itself : direct old e ≡ says old (rejection_reply rejection)
    by_itself = ap (effect_unless old e) is

    settles : Settles old.scene moves step.settled
    settles = subst (λ (d : Direct). Settles d.state.scene moves step.settled) by_itself step.settles

    none : (moves ≡ []) × (step.settled ≡ old.scene)
    none = no_moves old.scene moves step.settled (settled old.scene sound.at_rest) settles.made
