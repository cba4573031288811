use Rattle.std.proofs.Common.{◌≡◌, ℕ, ◌+◌, ◌++◌, ◌∷◌, [], List, length, refl, ap, sym, subst, ◌∙◌}
use Rattle.std.specs.FinMap.{FinMap}
use Rattle.std.specs.Ordering.{nat_cmp}
use Rattle.capstep.proofs.Numbered.{counted-snoc}
use Rattle.capstep.specs.Numbers.{AreCounted}
use Rattle.capcore.proofs.Placed.{all-revoked}
use Rattle.capstep.specs.History.{made_row}
use Rattle.capcore.proofs.Apart.{held-apart}
use Rattle.capcore.proofs.Bounded.{direct-order, moves-bounded}
use Rattle.capcore.proofs.Common.{CoreValue, IsReplied, IsSound, Reply, Row, Scene, ShowsWhatIsPending, State, Step, core_value, direct, rows_of, step-shown}
use Rattle.capcore.proofs.Growing.{more-legal, replays-more}
use Rattle.capcore.proofs.ReplayStays.{IsInOrder, legal_core-in_order}
use Rattle.capcore.proofs.OtherLocks.{other-locks}
use Rattle.capcore.proofs.Promised.{denied-exactly, rejection-unchanged}
use Rattle.capcore.proofs.Servings.{served-denied}
use Rattle.capcore.proofs.ShownWords.{all-takes_unshown, shows-pending, shows-permitted, takes-only_so}
use Rattle.capcore.proofs.step.Core.apply.Goals.{After-count_row}
use Rattle.capcore.specs.Promised.{IsPromised}
use Rattle.capcore.proofs.step.Core.apply.Goals as goal

pub step-requires-clause-table : goal.step-requires-clause-table
step-requires-clause-table c = (legal_core-in_order _ c.self.invariant.0).0

pub step-requires-clause-locks : goal.step-requires-clause-locks
step-requires-clause-locks c = (legal_core-in_order _ c.self.invariant.0).1

-- what the step says and leaves
answered_of : (c : After-count_row) → IsReplied c.self.inside.world c.args.event c.in_ok-step_reply.step_reply c.step.new.self
answered_of c = c.in_ok-step_reply.ensures.replied

-- the step, with what is answered and with what the row keeps of it
step_of : (c : After-count_row) → Step c.self.inside.world c.args.event c.in_ok-step_reply.step_reply.reply.given c.in_ok-step_reply.step_reply.ended c.step.new.self
step_of c = let all = answered_of c in all.step

recorded_step : (c : After-count_row) → Step c.self.inside.world c.args.event c.in_ok-step_reply.step_reply.reply.recorded c.in_ok-step_reply.step_reply.ended c.step.new.self
recorded_step c =
    let all = answered_of c in
    subst (λ (reply : Reply). Step c.self.inside.world c.args.event reply c.in_ok-step_reply.step_reply.ended c.step.new.self) (sym all.recorded) all.step

-- the world has its entries and requests in order before the step
order_of : (c : After-count_row) → IsInOrder c.self.inside.world
order_of c = legal_core-in_order _ c.self.invariant.0

-- and is sound after it
next : (c : After-count_row) → IsSound c.step.new.self
next c = let all = answered_of c in all.sound

-- its row, which comes last
abbrev row_of : After-count_row → Row
row_of c = record { pass = c.args.pass; nth = c.in_ok-nth.nth; event = c.args.event; reply = c.in_ok-step_reply.step_reply.reply.recorded; ended = c.in_ok-step_reply.step_reply.ended }

row_is : (c : After-count_row) → row_of c ≡ made_row c.args.pass (rows_of c.args.pass c.self.inside.rows.items + 1) c.args.event c.in_ok-step_reply.step_reply.reply.given c.in_ok-step_reply.step_reply.ended
row_is c =
    let all = answered_of c in
    λ i. record { pass = c.args.pass; nth = c.in_ok-nth.ensures.number i; event = c.args.event; reply = all.recorded i; ended = c.in_ok-step_reply.step_reply.ended }

added : (c : After-count_row) → c.push.new.self.items ≡ c.self.inside.rows.items ++ row_of c ∷ []
added c = c.in-Ok.ensures.items ∙ ap (λ rows. rows ++ row_of c ∷ []) c.make_room.ensures.items

pub invariant_of-self-2 : goal.invariant_of-self-2
invariant_of-self-2 c =
    let row : Row = row_of c in
    let step : Step c.self.inside.world row.event row.reply row.ended c.step.new.self = recorded_step c in
    let all = answered_of c in (
      rw (c.in-Ok.ensures.items, c.make_room.ensures.items)
          (more-legal (core_value c.self.inside.world c.self.inside.rows.items c.self.inside.max_rows c.self.inside.output.changes.items) row c.step.new.self c.step.new.output.changes.items c.self.invariant.0 step c.in_ok-nth.ensures.number c.in_ok-nth.ensures.room.0
          (order_of c).0 all.sound (all.given (length c.self.inside.rows.items) c.self.invariant.0.given)),
      subst (λ (rows : List Row). AreCounted c.count_row.new.counts rows) (sym (added c))
          (subst (λ (m : FinMap nat_cmp ℕ). AreCounted m (c.self.inside.rows.items ++ row ∷ [])) (sym c.count_row.ensures)
          (counted-snoc c.make_room.new.counts c.self.inside.rows.items row (λ pass. c.make_room.ensures.counts pass ∙ c.self.invariant.1 pass) c.in_ok-nth.ensures.number)),
    )

shows_pending : (c : After-count_row) → ShowsWhatIsPending (c.self.inside.rows.items ++ row_of c ∷ []) c.step.new.self.scene
shows_pending c =
    shows-pending (c.self.inside.rows.items ++ row_of c ∷ []) c.step.new.self (next c)
    (step-shown c.self.inside.world c.step.new.self c.self.inside.rows.items (row_of c) c.self.invariant.0.sound (order_of c).0 c.self.invariant.0.shown (recorded_step c))

-- what the core was, and what it is with these rows
abbrev before : After-count_row → CoreValue
before c = core_value c.self.inside.world c.self.inside.rows.items c.self.inside.max_rows c.self.inside.output.changes.items

abbrev after : After-count_row → List Row → CoreValue
after c rows = core_value c.step.new.self rows c.self.inside.max_rows c.step.new.output.changes.items

promised : (c : After-count_row) → IsPromised (before c) c.args.pass c.args.event c.in_ok-step_reply.step_reply.reply.given (after c (c.self.inside.rows.items ++ row_of c ∷ []))
promised c =
    let old : State = c.self.inside.world in
    let new : State = c.step.new.self in
    let event = c.args.event in
    let reply : Reply = c.in_ok-step_reply.step_reply.reply.given in
    let ended = c.in_ok-step_reply.step_reply.ended in
    let rows : List Row = c.self.inside.rows.items in
    let all = answered_of c in
    let one = step_of c in
    let sound = next c in
    let table = (order_of c).0 in
    let locks = (order_of c).1 in
    let first : Scene = (direct old event).state.scene in
    let by = one.1 in
    let made = by.settles.made in record {
      next = record { moves = one.0; ended = ended; step = by; rows = ap (λ (row : Row). rows ++ row ∷ []) (row_is c); max_rows = refl };
      denied = denied-exactly old event reply ended new one c.self.invariant.0.sound locks;
      served_denied = served-denied first by.settled one.0 made;
      bounded = moves-bounded first one.0 by.settled (direct-order old event locks) made;
      other_locks = other-locks old event one.0 reply ended new by;
      issued = all.issued;
      in_place = sound.in_place;
      lost = all-revoked new.scene;
      apart = held-apart new sound;
      shown = shows_pending c;
      shown_permitted = shows-permitted (rows ++ row_of c ∷ []) new.scene (shows_pending c);
      unshown = all-takes_unshown rows old event c.self.invariant.0.sound c.self.invariant.0.shown;
      only_so = takes-only_so old event new.scene all.issued;
      sound = sound;
      at_rest = sound.at_rest;
      unchanged = rejection-unchanged old event reply ended new one c.self.invariant.0.sound locks table;
      legal = λ first past. replays-more first rows old (row_of c) new past (recorded_step c);
      changes = c.in_ok-step_reply.ensures.changes;
    }

pub returns-clause-promised : goal.returns-clause-promised
returns-clause-promised c =
    subst (λ (t : CoreValue). IsPromised t c.args.pass c.args.event c.in_ok-step_reply.step_reply.reply.given (after c c.push.new.self.items)) c.self.view_is
    (subst (λ (rows : List Row). IsPromised (before c) c.args.pass c.args.event c.in_ok-step_reply.step_reply.reply.given (after c rows)) (sym (added c)) (promised c))
