use Rattle.std.proofs.Common.{◌≡◌, ◌<◌, true, false, cond, ◌∙◌, sym, ap, subst, refl, slice_get}
use Rattle.std.specs.Prelude.{IfSome}
use Rattle.std.specs.FinMap as map
use Rattle.std.specs.Option.{option_map}
use Rattle.std.proofs.lemmas.Bool.{eq-eqb}
use Rattle.capbits.specs.declared.ids.ClientId.{ClientId}
use Rattle.cap_arena.specs.Walks.{is_among}
use Rattle.cap_arena.specs.Lists.{OfClient, keys}
use Rattle.captable.specs.declared.entry.Holder.{Holder}
use Rattle.captable.specs.Table.{IsTable, entry_at}
use Rattle.captable.specs.Calls.{without}
use Rattle.captable.specs.Kept.{kept_without}
use Rattle.captable.specs.Linked.{IsLinked}
use Rattle.captable.specs.Nodes.{IsKeyOf, table_of}
use Rattle.captable.specs.Places.{NoneDueBeforeAny, moved_on, same_client}
use Rattle.captable.specs.Polls.{counts_of, places_of, recounted}
use Rattle.captable.proofs.Counting.{count-fits}
use Rattle.captable.proofs.Counted.{counted-gone}
use Rattle.captable.proofs.Absent.{without-none}
use Rattle.captable.proofs.Reading.{entry-none, node-there}
use Rattle.captable.proofs.Keeping.{held, is_in}
use Rattle.captable.proofs.Placed.{placed-removed, none_due-ended}
use Rattle.captable.proofs.Polled.{counts-changed, counts-placed, counts-stay, if_part, part-ended, places-changed, places-stay}
use Rattle.captable.proofs.NotDue.{none_due-removed}
use Rattle.captable.proofs.WalkOn.{next-of-client}
use Rattle.captable.proofs.Removing.{IsLinked-left, kept-left, table-left}
use Rattle.captable.proofs.Beside.{entries_are, kept_are, two}
use Rattle.captable.proofs.Kept.{kept-without-none}
use Rattle.captable.proofs.table.CapTable.remove.Goals as goal

pub remove_node-requires-clause-there : goal.remove_node-requires-clause-there
remove_node-requires-clause-there c = node-there c.self.inside.lists c.self.inside.made c.self.invariant.0 c.args.holder c.in-Some.key c.in-Some.ensures.found

pub count_again-requires : goal.count_again-requires
count_again-requires c =
    let client = c.args.holder.client in
    let m = c.self.inside.polls in
    let n = c.move_place.new.polls in
    record {
      fits = if_part (λ poll. poll.due) (λ n. n < 18446744073709551615) (map.get n client.0)
          (subst (λ o. IfSome o (λ n. n < 18446744073709551615)) (sym (counts-stay m client n (moved_on c.in-Some.key c.next_of_client-next.result) c.move_place.ensures client))
          (count-fits (table_of c.self.inside.lists c.self.inside.made).rows (counts_of m) c.self.invariant.0.table.room c.self.invariant.3 client));
    }

pub invariant_of-self : goal.invariant_of-self
invariant_of-self c =
    let t = c.self.inside.lists in
    let found : IsKeyOf t c.args.holder c.in-Some.key = c.in-Some.ensures.found in
    let o = held t c.self.inside.made c.self.invariant.0 c.args.holder c.in-Some.key found in
    let of : o.0.client ≡ c.args.holder.client = ap (λ (h : Holder). h.client) o.2 in
    let listed : is_among (keys t (OfClient c.args.holder.client)) c.in-Some.key ≡ true =
    is_in t c.self.invariant.0.sound (OfClient c.args.holder.client) c.in-Some.key o.0 o.1.there (eq-eqb o.0.client.0 c.args.holder.client.0 (ap (λ (q : ClientId). q.0) of)) in
    let client = c.args.holder.client in
    let left = c.remove_node.new.lists in
    let m = c.self.inside.polls in
    let n = c.move_place.new.polls in
    let again = c.count_again.new.polls in
    let last = c.end_poll.new.polls in
    let next = moved_on c.in-Some.key c.next_of_client-next.result in
    let count = recounted c.is_due_at-was.result false in
    let first = slice_get (keys left (OfClient client)) 0 in
    let same_places = places-stay n client again count c.count_again.ensures in
    let same_counts = counts-stay m client n next c.move_place.ensures in
    let moves = λ (q : ClientId). same_places q ∙ places-changed m client n next c.move_place.ensures q in
    let recounts = λ (q : ClientId). counts-changed n client again count c.count_again.ensures q
    ∙ ap (λ o. cond (same_client client q) (option_map count o) o) (same_counts q) in
    let moved : NoneDueBeforeAny left (places_of again) =
    none_due-removed t left c.in-Some.key c.remove_node.ensures.removed c.self.invariant.0.sound client o.0 o.1.there of
    c.next_of_client-next.result (c.next_of_client-next.ensures.next ∙ next-of-client t c.self.invariant.0.sound client c.in-Some.key o.0 o.1.there listed)
    (places_of m) (places_of again) moves c.self.invariant.1 in
    let linked : IsLinked left c.self.inside.made =
    IsLinked-left t c.remove_node.new.lists c.self.inside.made c.args.holder c.in-Some.key c.self.invariant.0
    found c.remove_node.ensures.removed c.remove_node.ensures.sound in (
      linked,
      none_due-ended left client first (places_of again) (places_of last) (part-ended (λ poll. poll.place) again client first last c.end_poll.ensures) moved,
      placed-removed left client first (places_of again) (places_of last) (part-ended (λ poll. poll.place) again client first last c.end_poll.ensures)
          t c.in-Some.key c.remove_node.ensures.removed c.self.invariant.0.sound o.0 o.1.there of refl next (places_of m) moves c.self.invariant.2,
      counted-gone t left c.self.inside.made c.args.holder c.in-Some.key c.self.invariant.0 found o.0 o.1.there o.2 (counts_of m) (counts_of again)
          c.is_due_at-was.result false c.is_due_at-was.ensures (counts-placed t m c.self.invariant.2) recounts c.self.invariant.3 refl
          (table-left t left c.self.inside.made c.args.holder c.in-Some.key c.self.invariant.0 found c.remove_node.ensures.removed) linked
          (counts_of last) (part-ended (λ poll. poll.due) again client first last c.end_poll.ensures),
    )

pub returns-in-Some : goal.returns-in-Some
returns-in-Some c =
    let h = c.args.holder in
    let t = c.self.inside.lists in
    two
    (table-left t c.remove_node.new.lists c.self.inside.made h c.in-Some.key c.self.invariant.0 c.in-Some.ensures.found c.remove_node.ensures.removed
    ∙ ap (λ t. without t h) (entries_are c.self.view_is))
    (kept-left t c.remove_node.new.lists c.self.inside.made h c.in-Some.key c.self.invariant.0 c.in-Some.ensures.found c.remove_node.ensures.removed
    ∙ ap (λ kept. kept_without kept h) (kept_are c.self.view_is))

pub returns-in_default : goal.returns-in_default
returns-in_default c =
    let h = c.args.holder in
    let none = c.in_default.ensures.none in
    two
    (without-none c.args.self.now.entries h (subst IsTable (entries_are c.self.view_is) c.self.invariant.0.table)
    (ap (λ t. entry_at t h) (sym (entries_are c.self.view_is)) ∙ entry-none c.self.inside.lists c.self.inside.made c.self.invariant.0 h none))
    (sym (ap (λ kept. kept_without kept h) (sym (kept_are c.self.view_is)) ∙ kept-without-none c.self.inside.lists c.self.inside.made c.self.invariant.0 h none ∙ kept_are c.self.view_is))
