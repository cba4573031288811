-- The main promise, from what a step is.
use Rattle.std.proofs.Common.{◌≡◌, Bool, true, false, ◌||◌, List, Option, Some, None, refl, sym, ap, subst, ◌∙◌, IsTrue, arith}
use Rattle.std.proofs.lemmas.List.Elements.{All-contains}
use Rattle.std.specs.List.{find}
use Rattle.std.specs.Option.{option_map_or}
use Rattle.capstep.specs.Finish.{issuable}
use Rattle.capstep.specs.Headline.{DeniedExactly, denied_in}
use Rattle.capcore.proofs.Common.{Direct, Ended, EntryRow, Event, Holder, IsDirect, IsLockMap, IsSound, IsSoundEntry, IsTable, IssuesExactly, Made, MakesAll}
use Rattle.capcore.proofs.Common.{Operation, Rejection, Reply, Scene, State, Step, after, before, direct, effect, effect_unless, ended_in, found}
use Rattle.capcore.proofs.Common.{found-contains, has, is_rejection, is_row_of, judged, needs, operation_by, rejection-only, rejection_reply, reply_of}
use Rattle.capcore.proofs.Common.{state_after}
use Rattle.capcore.proofs.LockRequests.{enqueuing, enqueuing-again, enqueuing-direct, enqueuing-rejection, order-of_operation}
use Rattle.capcore.proofs.OwnServed.{own-not_rejected}
use Rattle.capcore.proofs.Servings.{denial-judged, denial_in}

-- ---- an event that nothing rejects

-- one that waits for no lock
effect-not_rejected : (old last : State) (ended : List Ended) (e : Event) → operation_by e ≡ None → is_rejection (reply_of last ended (effect old e).reply_due) ≡ false
effect-not_rejected old last ended e none = grind arith

-- one that waits for a lock: if it is served in the step, then on the tree and the sessions on which it came
enqueuing-not_rejected : (old last : State) (e : Event) (k : Holder) (operation : Operation) (moves : List Made) (s : Scene) → IsSound old → IsLockMap old.scene.locks → operation_by e ≡ Some (k, operation) → judged old.scene e ≡ None
    → MakesAll (direct old e).state.scene moves s → is_rejection (reply_of last (ended_in moves) (effect old e).reply_due) ≡ false
enqueuing-not_rejected old last e k operation moves s sound order is free made =
    let a = enqueuing e k operation is in
    let passed = sym (enqueuing-rejection e k operation old.scene is) ∙ free in
    ap (λ (d : Direct). is_rejection (reply_of last (ended_in moves) d.reply_due)) (a.effect_is old)
    ∙ own-not_rejected old.scene k.client k.ino operation sound.at_rest (order-of_operation old.scene k operation order passed) moves s (enqueuing-again old.scene k operation passed)
    (subst (λ (d : Direct). MakesAll d.state.scene moves s) (enqueuing-direct old e k operation is free) made)

-- ---- denials

free-denied : (reply : Reply) → is_rejection reply ≡ false → denied_in reply ≡ None
free-denied reply free = grind arith

-- an answer that is what rejects the event, or no rejection
rejected-denied : (reply : Reply) (rejected : Option Rejection) → ((x : Rejection) → rejected ≡ Some x → reply ≡ rejection_reply x) → (rejected ≡ None → is_rejection reply ≡ false)
    → denied_in reply ≡ denial_in rejected
rejected-denied reply (Some (Rejection.ByPolicy access rules)) rejects free = ap denied_in (rejects (Rejection.ByPolicy access rules) refl)
rejected-denied reply (Some (Rejection.ByTest refusal)) rejects free = ap denied_in (rejects (Rejection.ByTest refusal) refl)
rejected-denied reply None rejects free = free-denied reply (free refl)

module _ (reply : Reply) (rejected : Option Rejection) (rejects : (x : Rejection) → rejected ≡ Some x → reply ≡ rejection_reply x) (free : rejected ≡ None → is_rejection reply ≡ false) where
  rejected-rejects : is_rejection reply ≡ true → (x : Rejection) × (rejected ≡ Some x)
  rejected-rejects is = grind arith

module _ (old : State) (e : Event) (reply : Reply) (done : List Ended) (new : State) (step : Step old e reply done new) (sound : IsSound old) (order : IsLockMap old.scene.locks) where
  -- the state in which the answer is read off
  last : State
  last = let by = step.1 in state_after old (direct old e) step.0 by.settled

  replied : (o : Option Rejection) → judged old.scene e ≡ o → reply ≡ reply_of last (ended_in step.0) (effect_unless old e o).reply_due
  unfolding last
  replied o is = let by = step.1 in by.reply_is ∙ ap (λ (o : Option Rejection). reply_of last (ended_in step.0) (effect_unless old e o).reply_due) is

  rejects : (x : Rejection) → judged old.scene e ≡ Some x → reply ≡ rejection_reply x
  rejects x is = replied (Some x) is

  not_rejected : (a : Option (Holder × Operation)) → operation_by e ≡ a → judged old.scene e ≡ None → is_rejection (reply_of last (ended_in step.0) (effect old e).reply_due) ≡ false
  not_rejected None is none = effect-not_rejected old last (ended_in step.0) e is
  not_rejected (Some (k, operation)) is none = let by = step.1 in enqueuing-not_rejected old last e k operation step.0 by.settled sound order is none by.settles.made

  free : judged old.scene e ≡ None → is_rejection reply ≡ false
  free none = ap is_rejection (replied None none) ∙ not_rejected (operation_by e) refl none

  pub denied-exactly : DeniedExactly old.scene e reply
  denied-exactly =
      rejected-denied reply (judged old.scene e) rejects free
      ∙ denial-judged old.scene (before old.scene e) (needs old.scene e) (after old.scene e)

  pub rejection-unchanged : IsTable old.scene.table → IsTrue (is_rejection reply) → new ≡ old
  rejection-unchanged table h = let s = rejected-rejects reply (judged old.scene e) rejects free h in let only = rejection-only old new e s.0 reply done sound table s.1 step in only.2

-- ---- caps

held_issuable : (held issuable : Bool) → (IsTrue issuable → IsTrue held) → held ≡ (held || issuable)
held_issuable held issuable all = grind arith

-- in a sound state all that is due is held
pub has-issuable : (s : State) → IsSound s → IssuesExactly s.scene s.scene
has-issuable s sound k cap = by_entry (find (is_row_of k) s.scene.table.rows) refl
  where
    by_entry : (o : Option EntryRow) → find (is_row_of k) s.scene.table.rows ≡ o
        → option_map_or (λ row. has row.entry.held cap) o false ≡ (option_map_or (λ row. has row.entry.held cap) o false || option_map_or (λ row. has (issuable s.scene row) cap) o false)
    by_entry None found = refl
    by_entry (Some row) found =
        let entry = All-contains (IsSoundEntry s.scene) s.scene.table.rows row sound.entries (found-contains (is_row_of k) s.scene.table.rows row found) in
        held_issuable (has row.entry.held cap) (has (issuable s.scene row) cap) (entry.has_issuable cap)

-- so an event that leads to one has issued what it must
pub issues-exactly : (old : State) (e : Event) (reply : Reply) (new : State) → IsDirect old e reply new → IsSound new → IssuesExactly (direct old e).state.scene new.scene
issues-exactly old e reply new is sound = subst (λ (s : State). IssuesExactly s.scene new.scene) is.state_is (has-issuable new sound)
