use Rattle.std.proofs.Common.{◌≡◌, ◌+◌, None, ◌∙◌, sym, ap, subst, refl, slice_get}
use Rattle.std.specs.FinMap as map
use Rattle.capbits.specs.Refusal.{first_failing}
use Rattle.cap_arena.specs.declared.nodes.Node.{Node}
use Rattle.cap_arena.specs.Lists.{Lists, OfClient, keys}
use Rattle.captable.specs.declared.entry.Slot.{Slot}
use Rattle.captable.specs.declared.polls.Poll.{Poll}
use Rattle.captable.specs.Nodes.{table_of}
use Rattle.captable.specs.Table.{Table, entry_at, holder}
use Rattle.captable.specs.Calls.{is_due_entry, new_entry, opened}
use Rattle.captable.specs.Tests.{open_tests}
use Rattle.captable.specs.Linked.{IsLinked}
use Rattle.captable.specs.Places.{ArePlaced, NoneDueBeforeAny}
use Rattle.captable.specs.Polls.{AreCounted, Polls, begun, counts_of, ended, places_of}
use Rattle.captable.proofs.Counting.{counted-more}
use Rattle.captable.proofs.Placed.{begun-there, placed-begun, none_due-begun}
use Rattle.captable.proofs.Polled.{begun-back, begun_at, part-begun, part-there}
use Rattle.captable.proofs.NotDue.{none_due-added}
use Rattle.captable.proofs.Reading.{refused-alike}
use Rattle.captable.proofs.Opening.{IsLinked-more, kept-more, table-more}
use Rattle.captable.proofs.Beside.{entries_are, kept_are, two}
use Rattle.captable.specs.Kept as words
use Rattle.captable.proofs.table.CapTable.open_entry_tested.Goals as goal

pub add_node-added-requires-clause-passed : goal.add_node-added-requires-clause-passed
add_node-added-requires-clause-passed c =
    refused-alike c.self.inside.lists c.self.inside.made c.self.invariant.0 ∙ ap (λ t. first_failing (open_tests t)) (entries_are c.self.view_is) ∙ c.requires.passed

pub invariant_of-self : goal.invariant_of-self
invariant_of-self c =
    let t = c.self.inside.lists in
    let made = c.self.inside.made in
    subst (λ (m : Polls). IsLinked t made × NoneDueBeforeAny t (places_of m) × ArePlaced t (places_of m) × AreCounted (table_of t made).rows (counts_of m)) (sym c.in_err-begin_poll.ensures.err) (
      c.self.invariant.0,
      c.self.invariant.1,
      c.self.invariant.2,
      c.self.invariant.3,
    )

pub invariant_of-self-in_default : goal.invariant_of-self-in_default
invariant_of-self-in_default c =
    let t = c.self.inside.lists in
    let made = c.self.inside.made in
    let m = c.self.inside.polls in
    let client = c.args.client in
    let left = c.end_poll.new.polls in
    let again : left ≡ m =
    c.end_poll.ensures ∙ ap (λ (n : Polls). ended (slice_get (keys c.add_node-added.new.lists (OfClient client)) 0) n client) c.in_ok-begin_poll.ensures.ok
    ∙ ap (λ (u : Lists Slot). ended (slice_get (keys u (OfClient client)) 0) (begun m client) client) c.in_default.ensures.err
    ∙ begun-back m client (slice_get (keys t (OfClient client)) 0) (part-there (λ (poll : Poll). poll.place) (map.get m client.0) ∙ c.self.invariant.2 client) in
    subst (λ (u : Lists Slot). IsLinked u made × NoneDueBeforeAny u (places_of left) × ArePlaced u (places_of left) × AreCounted (table_of u made).rows (counts_of left)) (sym c.in_default.ensures.err)
    (subst (λ (m : Polls). IsLinked t made × NoneDueBeforeAny t (places_of m) × ArePlaced t (places_of m) × AreCounted (table_of t made).rows (counts_of m)) (sym again) (
      c.self.invariant.0,
      c.self.invariant.1,
      c.self.invariant.2,
      c.self.invariant.3,
    ))

pub invariant_of-self-2 : goal.invariant_of-self-2
invariant_of-self-2 c =
    let t = c.self.inside.lists in
    let t' = c.add_node-added.new.lists in
    let made = c.self.inside.made in
    let client = c.args.client in
    let key = c.in-Ok.key in
    let h = holder client c.args.ino in
    let x : Node Slot = record { client = client; ino = c.args.ino; value = record { entry = c.new-entry.result; sets = c.none-sets.result; number = made } } in
    let new = ap (λ t. entry_at t h) (entries_are c.self.view_is) ∙ c.requires.new in
    let m = c.self.inside.polls in
    let n = c.begin_poll.new.polls in
    let places = part-begun (λ (poll : Poll). poll.place) m client n c.in_ok-begin_poll.ensures.ok in
    let counts = part-begun (λ (poll : Poll). poll.due) m client n c.in_ok-begin_poll.ensures.ok in
    let rows = (table_of t made).rows in
    let more : table_of t' (made + 1) ≡ opened (table_of t made) h =
    table-more t t' made key x c.self.invariant.0 c.in-Ok.ensures.ok c.new-entry.ensures refl new in (
      IsLinked-more t t' made key x c.self.invariant.0 c.in-Ok.ensures.ok c.new-entry.ensures refl new c.in-Ok.ensures.sound
          (ap (λ t. first_failing (open_tests t)) (entries_are c.self.view_is) ∙ c.requires.passed),
      none_due-added t t' key x c.in-Ok.ensures.ok (ap is_due_entry c.new-entry.ensures) (places_of n) (none_due-begun t client (places_of m) (places_of n) places c.self.invariant.2 c.self.invariant.1),
      placed-begun t client (begun_at None) (begun-there None) (places_of m) (places_of n) places t' key x c.in-Ok.ensures.ok refl c.self.invariant.2,
      subst (λ (u : Table). AreCounted u.rows (counts_of n)) (sym more)
          (counted-more rows (record { holder = h; entry = new_entry }) client (counts_of m) (counts_of n) refl counts c.self.invariant.3),
    )

pub returns-clause-ok : goal.returns-clause-ok
returns-clause-ok c =
    let h = holder c.args.client c.args.ino in
    let t = c.self.inside.lists in
    let made = c.self.inside.made in
    let x : Node Slot = record { client = c.args.client; ino = c.args.ino; value = record { entry = c.new-entry.result; sets = c.none-sets.result; number = made } } in
    let new = ap (λ t. entry_at t h) (entries_are c.self.view_is) ∙ c.requires.new in
    two
    (table-more t c.add_node-added.new.lists made c.in-Ok.key x c.self.invariant.0 c.in-Ok.ensures.ok c.new-entry.ensures refl new ∙ ap (λ t. opened t h) (entries_are c.self.view_is))
    (kept-more t c.add_node-added.new.lists made c.in-Ok.key x c.self.invariant.0 c.in-Ok.ensures.ok c.new-entry.ensures refl new c.none-sets.ensures
    ∙ ap (λ kept. words.kept_more kept h) (kept_are c.self.view_is))
