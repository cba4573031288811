use Rattle.std.proofs.Common.{◌≡◌, ◌<◌, ◌∙◌, ℕ, Some, false, sym, ap, subst, is_some}
use Rattle.std.specs.Prelude.{IfSome}
use Rattle.std.specs.FinMap as map
use Rattle.std.specs.Option.{option_map_or}
use Rattle.cap_arena.specs.declared.nodes.Node.{Node}
use Rattle.cap_arena.specs.Lists.{Lists, OfClient, node_at}
use Rattle.captable.specs.declared.entry.Entry.{Entry}
use Rattle.captable.specs.declared.entry.Holder.{Holder}
use Rattle.captable.specs.declared.entry.Slot.{Slot}
use Rattle.captable.specs.Table.{Table, entry_at}
use Rattle.captable.specs.Nodes.{IsKeyOf, SetsEntry, both_of, table_of}
use Rattle.captable.specs.Polls.{counts_of, places_of, recounted}
use Rattle.captable.specs.Calls.{changed, is_due_entry}
use Rattle.captable.specs.Edits.{edited}
use Rattle.captable.specs.Kept.{with_changed}
use Rattle.captable.specs.Linked.{IsLinked}
use Rattle.captable.specs.Places.{is_due_at, lowered}
use Rattle.captable.proofs.Changes.{none_found, put_found}
use Rattle.captable.proofs.Counting.{count-fits, counted-same}
use Rattle.captable.proofs.Counted.{counted-put}
use Rattle.captable.proofs.Keeping.{held}
use Rattle.captable.proofs.Placed.{placed-alike, placed-same, placed-set, none_due-same}
use Rattle.captable.proofs.Polled.{counts-changed, counts-placed, counts-stay, if_part, places-changed, places-stay}
use Rattle.captable.proofs.NotDue.{none_due-due, none_due-set}
use Rattle.captable.proofs.Reading.{entry-found, entry-none, node-there}
use Rattle.captable.proofs.Setting.{IsLinked-put, kept-put, table-put}
use Rattle.captable.proofs.Beside.{entries_are, kept_are, two}
use Rattle.captable.proofs.table.CapTable.edit.Goals as goal
use Rattle.captable.proofs.table.CapTable.edit.Goals.{Joined-is, else-is, then-is}

pub returns-in_err-key-clause-was : goal.returns-in_err-key-clause-was
returns-in_err-key-clause-was c =
    let h = c.args.holder in
    c.from_residual.ensures ∙ sym (entry-none c.self.inside.lists c.self.inside.made c.self.invariant.0 h c.in_err-key.ensures.none) ∙ ap (λ t. entry_at t h) (entries_are c.self.view_is)

pub returns-in_err-key-clause-changed : goal.returns-in_err-key-clause-changed
returns-in_err-key-clause-changed c =
    let h = c.args.holder in
    ap (λ (es : Table). record c.args.self.now { entries = es })
    (none_found c.args.self.now.entries h (edited c.args.edit)
    (ap (λ t. entry_at t h) (sym (entries_are c.self.view_is)) ∙ entry-none c.self.inside.lists c.self.inside.made c.self.invariant.0 h c.in_err-key.ensures.none))

-- the node that is found tells the holder's entry
found_there : (t : Lists Slot) (made : ℕ) (linked : IsLinked t made) (now : Table) (h : Holder) (key : ℕ) (n : Node Slot) → table_of t made ≡ now → IsKeyOf t h key → Some n ≡ node_at t key
    → Some n.value.entry ≡ entry_at now h
found_there t made linked now h key n is found there = sym (entry-found t made linked h key n found (sym there)) ∙ ap (λ t. entry_at t h) is

pub edited-entry-requires : goal.edited-entry-requires
edited-entry-requires c = λ numbering.
    subst (λ o. IfSome o (λ (entry : Entry). entry.seq < 18446744073709551615)) (sym (found_there c.self.inside.lists c.self.inside.made c.self.invariant.0 c.args.self.now.entries c.args.holder c.in_ok-key.key c.in-Some.node (entries_are c.self.view_is) c.in_ok-key.ensures.found c.in-Some.ensures.node)) (c.requires numbering)

pub count_again-requires : goal.count_again-requires
count_again-requires c =
    let client = c.args.holder.client in
    let m = c.self.inside.polls in
    record {
      fits = if_part (λ poll. poll.due) (λ n. n < 18446744073709551615) (map.get m client.0)
          (count-fits (table_of c.self.inside.lists c.self.inside.made).rows (counts_of m) c.self.invariant.0.table.room c.self.invariant.3 client);
    }

-- whether the entry was due
due_there : (t : Lists Slot) (key : ℕ) (n : Node Slot) → Some n ≡ node_at t key → is_due_entry n.value.entry ≡ is_due_at t key
due_there t key n is = ap (λ o. option_map_or (λ (node : Node Slot). is_due_entry node.value.entry) o false) is

pub invariant_of-self : goal.invariant_of-self
invariant_of-self c =
    let t = c.self.inside.lists in
    let made = c.self.inside.made in
    let h = c.args.holder in
    let key = c.in_ok-key.key in
    let m = c.self.inside.polls in
    let n = c.count_again.new.polls in
    let l = c.lower_place.new.polls in
    let x = c.edited-entry.result in
    let found : IsKeyOf t h key = c.in_ok-key.ensures.found in
    let sets : SetsEntry t c.set_entry.new.lists key x = c.set_entry.ensures.there (node-there t made c.self.invariant.0 h key found) in
    let linked : IsLinked c.set_entry.new.lists made = IsLinked-put t c.set_entry.new.lists made h key x c.self.invariant.0 found sets c.set_entry.ensures.sound in
    let o = held t made c.self.invariant.0 h key found in
    let same_places = places-stay m h.client n (recounted c.is_due.result c.is_due-is.result) c.count_again.ensures in
    let places = places-changed n h.client l (lowered c.set_entry.new.lists key) c.lower_place.ensures in (
      linked,
      none_due-due t c.set_entry.new.lists key x sets (places_of n) (none_due-same t (places_of m) (places_of n) same_places c.self.invariant.1) c.self.invariant.0.sound linked.ordered
          h.client o.0 o.1.there (ap (λ (q : Holder). q.client) o.2) (places_of l) places,
      placed-set t c.set_entry.new.lists key x sets h.client (lowered c.set_entry.new.lists key) (places_of n) (places_of l) places
          (placed-same t (places_of m) (places_of n) same_places c.self.invariant.2),
      counted-same (table_of c.set_entry.new.lists made).rows (counts_of n) (counts_of l) (counts-stay n h.client l (lowered c.set_entry.new.lists key) c.lower_place.ensures)
          (counted-put t c.set_entry.new.lists made h key c.self.invariant.0 found o.0 o.1.there o.2 (counts_of m) (counts_of n) c.is_due.result c.is_due-is.result
          (c.is_due.ensures ∙ due_there t key c.in-Some.node c.in-Some.ensures.node) (counts-placed t m c.self.invariant.2)
          (counts-changed m h.client n (recounted c.is_due.result c.is_due-is.result) c.count_again.ensures)
          c.self.invariant.3 x c.is_due-is.ensures (table-put t c.set_entry.new.lists made h key x c.self.invariant.0 found sets)),
    )

pub invariant_of-self-else-is : goal.invariant_of-self-else-is
invariant_of-self-else-is c =
    let t = c.self.inside.lists in
    let made = c.self.inside.made in
    let h = c.args.holder in
    let key = c.in_ok-key.key in
    let m = c.self.inside.polls in
    let n = c.count_again.new.polls in
    let x = c.edited-entry.result in
    let found : IsKeyOf t h key = c.in_ok-key.ensures.found in
    let sets : SetsEntry t c.set_entry.new.lists key x = c.set_entry.ensures.there (node-there t made c.self.invariant.0 h key found) in
    let o = held t made c.self.invariant.0 h key found in
    let same_places = places-stay m h.client n (recounted c.is_due.result c.is_due-is.result) c.count_again.ensures in (
      IsLinked-put t c.set_entry.new.lists made h key x c.self.invariant.0 found sets c.set_entry.ensures.sound,
      none_due-set t c.set_entry.new.lists key x sets (places_of n) (none_due-same t (places_of m) (places_of n) same_places c.self.invariant.1) (sym c.is_due-is.ensures ∙ c.if-is.false),
      placed-alike t c.set_entry.new.lists (places_of m) (places_of n) (λ q. sets.lists (OfClient q)) (λ q. ap is_some (same_places q)) c.self.invariant.2,
      counted-put t c.set_entry.new.lists made h key c.self.invariant.0 found o.0 o.1.there o.2 (counts_of m) (counts_of n) c.is_due.result c.is_due-is.result
          (c.is_due.ensures ∙ due_there t key c.in-Some.node c.in-Some.ensures.node) (counts-placed t m c.self.invariant.2)
          (counts-changed m h.client n (recounted c.is_due.result c.is_due-is.result) c.count_again.ensures)
          c.self.invariant.3 x c.is_due-is.ensures (table-put t c.set_entry.new.lists made h key x c.self.invariant.0 found sets),
    )

pub returns-clause-was : goal.returns-clause-was
returns-clause-was c =
    found_there c.self.inside.lists c.self.inside.made c.self.invariant.0 c.args.self.now.entries c.args.holder c.in_ok-key.key c.in-Some.node (entries_are c.self.view_is) c.in_ok-key.ensures.found c.in-Some.ensures.node

-- what the table is once the node has the entry
put_there : (c : Joined-is) → both_of c.set_entry.new.lists c.self.inside.made ≡ with_changed c.args.self.now c.args.holder (edited c.args.edit)
put_there c =
    let t = c.self.inside.lists in
    let made = c.self.inside.made in
    let h = c.args.holder in
    let key = c.in_ok-key.key in
    let x = c.edited-entry.result in
    let found : IsKeyOf t h key = c.in_ok-key.ensures.found in
    let sets : SetsEntry t c.set_entry.new.lists key x = c.set_entry.ensures.there (node-there t made c.self.invariant.0 h key found) in
    let there = found_there t made c.self.invariant.0 c.args.self.now.entries h key c.in-Some.node (entries_are c.self.view_is) found c.in-Some.ensures.node in
    two
    (table-put t c.set_entry.new.lists made h key x c.self.invariant.0 found sets
    ∙ ap (λ t. changed t h (λ _. x)) (entries_are c.self.view_is)
    ∙ put_found c.args.self.now.entries h c.in-Some.node.value.entry x (edited c.args.edit) (sym there) c.edited-entry.ensures)
    (kept-put t c.set_entry.new.lists made h key x c.self.invariant.0 found sets ∙ kept_are c.self.view_is)

pub returns-clause-changed : goal.returns-clause-changed
returns-clause-changed c = elim c.if-is.branch [
  | then-is w ↦ w.self-is ∙ put_there c
  | else-is w ↦ w.self-is ∙ put_there c
]
