-- A session, a lookup, a new inode or a snapshot by itself is a whole step: it leaves alone all that entries and requests depend on.
use Rattle.std.proofs.Common.{◌≡◌, ℕ, ◌+◌, Bool, true, false, List, [], ◌++◌, Option, None, refl, sym, ap, subst, ◌∙◌, append-nil, arith}
use Rattle.capstep.proofs.Twice.{given-twice, recorded-twice}
use Rattle.capstep.specs.Recorded.{twice}
use Rattle.capcore.proofs.SoundEnd.{none-sized}
use Rattle.capcore.specs.Affected.{affected_by, is_listing, session_changed_by}
use Rattle.capcore.proofs.Bounded.{found-keeps}
use Rattle.capcore.proofs.Common.{AreGiven, Awaits, Direct, DirectReply, Directory, Ended, Event, File, Gives, IsDirect, IsReplied, IsSound, IsTable, IsTree}
use Rattle.capcore.proofs.Common.{Rejection, Reply, Says, Settles, Shows, SparesEntries, State, Step, StepReply, child, direct, effect, effect_unless}
use Rattle.capcore.proofs.Common.{finished, first_failing, has_list, judged, new_session_tests, no_test, reply_of, shown, sizes_owed, sound-settles}
use Rattle.capcore.proofs.Common.{state_after, stays-finished, stays-sound, with_parts, with_scene, with_snapshot, without_snapshot}
use Rattle.capcore.proofs.Promised.{issues-exactly}
use Rattle.capcore.proofs.Sounding.{later-given}
use Rattle.capcore.proofs.Unaffected.{birth-spares, changed-spares, nothing-spares, session-spares, unblocked-spares}

-- the event is about no entry, no request and no session that is there, and is answered with no list
abbrev pub IsAlone : Event → Type 0
IsAlone e = (affected_by e ≡ None) × (is_listing e ≡ false) × (session_changed_by e ≡ None)

-- ---- the event by itself

none_dropped : (old : State) (e : Event) → session_changed_by e ≡ None → (o : Option Rejection) → (effect_unless old e o).dropped ≡ []
none_dropped old e is o = grind arith

-- ---- a whole step

-- an event that says its answer, and leads by itself to a sound state in which nothing is left to do, is a whole step
module _ (old new : State) (e : Event) (still : session_changed_by e ≡ None) (reply : Reply) (is : IsDirect old e reply new) (sound : IsSound new) (finishes : finished old.scene new.scene new.scene ≡ new.scene) where
  whole_step : Step old e reply [] new
  whole_step = (
    [],
    record {
      settled = d.state.scene;
      settles = subst (λ (s : State). Settles s.scene [] s.scene) is.state_is (sound-settles new sound);
      -- what it says tells no client of anything
      new_is =
          is.state_is
          ∙ sym (ap (λ (a : DirectReply). shown a (state_after old d [] d.state.scene)) (sym is.reply_is) ∙ (λ i. record d.state { scene = done i; messages = append-nil d.state.messages i }));
      reply_is = ap (reply_of (state_after old d [] d.state.scene) []) is.reply_is;
      ended_is = sym (ap (λ xs. xs ++ []) (none_dropped old e still (judged old.scene e)));
    },
  )
    where
      d : Direct
      d = direct old e

      done : finished old.scene d.state.scene (sizes_owed [] d.state.scene) ≡ d.state.scene
      done =
          ap (finished old.scene d.state.scene) (none-sized d.state.scene)
          ∙ subst (λ (s : State). finished old.scene s.scene s.scene ≡ s.scene) is.state_is finishes

  pub direct-answered : (says : StepReply) → ((count : ℕ) → AreGiven count old → AreGiven (count + 1) new)
      → says.reply ≡ twice reply → says.ended ≡ [] → IsReplied old e says new
  direct-answered says given answers none = record {
    step = subst (λ (ended : List Ended). Step old e says.reply.given ended new) (sym none) (subst (λ (r : Reply). Step old e r [] new) (sym (given-twice says.reply reply answers)) whole_step);
    recorded = recorded-twice says.reply reply answers;
    sound = sound;
    issued = issues-exactly old e reply new is sound;
    given = given;
  }

-- ---- but a poll and a recall no event answers with a list

abbrev lists : DirectReply → Bool
lists (Says reply) = has_list reply
lists (Shows k) = false
lists (Gives client max) = true
lists (Awaits ticket) = false

plain_unless : (s : State) (e : Event) → is_listing e ≡ false → (o : Option Rejection) → lists (effect_unless s e o).reply_due ≡ false
plain_unless s e plain o = grind arith

pub no_list-direct : (old new : State) (e : Event) (reply : Reply) → is_listing e ≡ false → IsDirect old e reply new → has_list reply ≡ false
no_list-direct old new e reply plain is = ap lists is.reply_is ∙ plain_unless old e plain (judged old.scene e)

-- ---- what the event leaves alone

-- a state that differs from an older one in tree, sessions and locks alone, and leaves alone what its entries depend on
record IsLeft (old new : State) : Type 0 where
  spares : SparesEntries old.scene new.scene.tree new.scene.sessions new.scene.locks.states
  is : new ≡ with_scene old (with_parts old.scene new.scene.tree new.scene.sessions new.scene.locks.states)

module _ (old : State) (sound : IsSound old) (tree : IsTree old.scene.tree) where
  same-left : IsLeft old old
  same-left = record { spares = nothing-spares old sound; is = refl }

  effect-left : (e : Event) → IsAlone e → judged old.scene e ≡ None → IsLeft old (effect old e).state
  effect-left (Event.Session client caller grants) alone none =
      let passed : first_failing (new_session_tests old.scene.sessions client.0) ≡ None = no_test old.scene (new_session_tests old.scene.sessions client.0) [] [] none in
      record { spares = session-spares old sound client.0 caller grants passed; is = refl }
  effect-left (Event.Unblock client) alone none = record { spares = unblocked-spares old sound client.0; is = refl }
  effect-left (Event.Lookup client dir name) alone none = found-keeps (IsLeft old) old (child old.scene.tree.nodes dir.0 name) same-left
  effect-left (Event.Create client dir name mode) alone none = record { spares = birth-spares old sound File dir.0 name _ tree; is = refl }
  effect-left (Event.Mkdir client dir name mode) alone none = record { spares = birth-spares old sound Directory dir.0 name _ tree; is = refl }
  effect-left (Event.MakeSnapshot client ino name) alone none = record { spares = changed-spares old sound (with_snapshot name) ino.0 (λ n. refl) (λ n. refl); is = refl }
  effect-left (Event.RemoveSnapshot client ino name) alone none = record { spares = changed-spares old sound (without_snapshot name) ino.0 (λ n. refl) (λ n. refl); is = refl }
  effect-left e (unaffected, unlisted, unturned) none = absurd (cc)

  left_unless : (e : Event) → IsAlone e → (o : Option Rejection) → judged old.scene e ≡ o → IsLeft old (effect_unless old e o).state
  left_unless e alone o is = grind (arith, same-left, effect-left)

  -- ---- and so the state after it is sound, and nothing is left to do

  module _ (e : Event) (alone : IsAlone e) (reply : Reply) (new : State) (is : IsDirect old e reply new) where
    left : IsLeft old new
    left = subst (IsLeft old) (sym is.state_is) (left_unless e alone (judged old.scene e) refl)

    pub alone-answered : (says : StepReply) → IsTable old.scene.table → says.reply ≡ twice reply → says.ended ≡ [] → IsReplied old e says new
    alone-answered says table answers none =
        direct-answered old new e alone.2 reply is
        (subst IsSound (sym left.is) (stays-sound old sound new.scene.tree new.scene.sessions new.scene.locks.states left.spares))
        (subst (λ (s : State). finished old.scene s.scene s.scene ≡ s.scene) (sym left.is) (stays-finished old sound new.scene.tree new.scene.sessions new.scene.locks.states left.spares table)) says
        (λ count given. later-given count new (subst (AreGiven count) (sym left.is) (record { entries = given.entries; last = given.last; made = given.made }))) answers none
