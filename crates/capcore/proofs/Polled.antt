-- A poll is a whole step: no lock moves, and nothing is left to do but to give the messages.
use Rattle.std.proofs.Common.{◌≡◌, ℕ, Option, None, List, [], filter, sym, ap, subst, ◌∙◌, append-nil, arith}
use Rattle.capstep.proofs.Twice.{given-twice, recorded-twice}
use Rattle.capstep.specs.Recorded.{twice}
use Rattle.capcore.proofs.SoundEnd.{sound-ends}
use Rattle.capcore.proofs.Common.{ClientId, Direct, Ended, Event, Gives, IsReplied, IsSound, IsTable, IssuesExactly, Message, Rejection, Reply, Settles, State}
use Rattle.capcore.proofs.Common.{Step, StepReply, Table, after_messages, all_ended, changed_where, direct, effect_unless, first_denied, first_failing}
use Rattle.capcore.proofs.Common.{first_messages, is_left, is_of_client, judged, rejection_by, reply_of, session_tests, shown, shown-given, shown-issued}
use Rattle.capcore.proofs.Common.{shown-sound, sound-settles, state_after, with_given}
use Rattle.capcore.proofs.Promised.{has-issuable}
use Rattle.capcore.proofs.Sounding.{later-given}

module _ (old : State) (sound : IsSound old) (table : IsTable old.scene.table) (client : ClientId) (max : ℕ) where
  abbrev poll : Event
  poll = Event.Poll client max

  -- by itself it changes nothing
  same_state : (o : Option Rejection) → (effect_unless old poll o).state ≡ old
  same_state o = grind arith

  -- ---- where the client has an open session

  -- what is left, once it was given the messages
  abbrev new : State
  new = with_given old client (first_messages old client max)

  polled-step : first_failing (session_tests old.scene.sessions client.0) ≡ None → Step old poll (Reply.Messages (first_messages old client max)) [] new
  polled-step is = (
    [],
    record {
      settled = old.scene;
      settles = subst (λ (d : Direct). Settles d.state.scene [] old.scene) (sym by_itself) (sound-settles old sound);
      reply_is = sym (ap (λ (d : Direct). reply_of (state_after old d [] old.scene) [] d.reply_due) by_itself ∙ ap (λ (s : State). Reply.Messages (first_messages s client max)) nothing_left);
      new_is = sym (ap (λ (d : Direct). shown d.reply_due (state_after old d [] old.scene)) by_itself ∙ ap (shown (Gives client max)) nothing_left);
      ended_is = ap (λ (d : Direct). all_ended old d []) (sym by_itself);
    },
  )
    where
      here : Direct
      here = record { state = old; reply_due = Gives client max; dropped = [] }

      by_itself : direct old poll ≡ here
      by_itself = ap (λ o. effect_unless old poll (rejection_by old.scene o (first_denied old.scene []) (first_failing []))) is

      nothing_left : state_after old here [] old.scene ≡ old
      nothing_left = λ i. record old { scene = sound-ends old sound table i; messages = append-nil old.messages i }

  pub poll-answered : (step_reply : StepReply) → first_failing (session_tests old.scene.sessions client.0) ≡ None
      → step_reply.reply ≡ twice (Reply.Messages (first_messages old client max)) → step_reply.ended ≡ []
      → IsReplied old (Event.Poll client max) step_reply (with_given old client (first_messages old client max))
  poll-answered step_reply is answers none = record {
    step = subst (λ (ended : List Ended). Step old poll step_reply.reply.given ended new) (sym none) (subst (λ (r : Reply). Step old poll r [] new) (sym (given-twice step_reply.reply _ answers)) (polled-step is));
    recorded = recorded-twice step_reply.reply _ answers;
    sound = shown-sound old (Gives client max) sound table;
    issued = subst (λ (s : State). IssuesExactly s.scene new.scene) (sym (same_state (judged old.scene poll))) (shown-issued old.scene old (Gives client max) table (has-issuable old sound));
    given = λ count given. later-given count new (shown-given count old (Gives client max) given);
  }

  -- entries change, and requests of which the client was told are due no more
  pub polled-new : (given : List Message) (left : Table) (due : List Ended) → given ≡ first_messages old client max → left ≡ changed_where (is_of_client client) (after_messages given) old.scene.table
      → due ≡ filter (is_left client given) old.messages
      → with_given old client (first_messages old client max) ≡ record { scene = record old.scene { table = left }; messages = due }
  polled-new given left due is changed kept = grind arith
