use Rattle.std.proofs.Common.{◌≡◌, ◌≤◌, ◌<◌, [], ◌++◌, ◌||◌, append-nil, Contains, zero, suc, take, length, filter, refl, sym, ap, subst, ◌∙◌, arith, List}
use Rattle.std.proofs.lemmas.List.{nil_from_length}
use Rattle.capcore.proofs.CommonPieces.{EntryRow, Message, contains-filter, end_messages, filter-contains, is_due, is_of_client}
use Rattle.capcore.proofs.Polling.{IsListed, due_of, few-more, known-row, left-behind, listed-all, listed-done, listed-first, listed-full, listed-more}
use Rattle.capcore.proofs.Polling.{take-take_append}
use Rattle.capcore.proofs.poll.due_messages.Goals as goal

pub rows-init : goal.rows-init
rows-init c = record {
  left = c.due_count-left.ensures ∙ ap length (sym c.due_of-walk.ensures.due);
  few = few-more c.args.max _ c.in_ok-due.due c.in_ok-due.ensures;
  among = λ row inside due.
      contains-filter (is_of_client c.args.client) c.args.scene.now.table.entries.rows row
      (contains-filter is_due (filter (is_of_client c.args.client) c.args.scene.now.table.entries.rows) row
      (subst (λ (rows : List EntryRow). Contains rows row) c.due_of-walk.ensures.due (filter-contains is_due c.due_of-walk.result row inside due)));
  listed = λ s tree table known. record {
    is =
        ap (λ (xs : List Message). take c.args.max (xs ++ due_of s c.due_of-walk.result)) c.in_ok-due.ensures
        ∙ take-take_append c.args.max (end_messages c.args.client c.args.ended.now) (due_of s c.due_of-walk.result);
  };
}

pub rows-preserved : goal.rows-preserved
rows-preserved c =
    let row : EntryRow = c.in-Some.row in
    let less : length c.add_due.new.list < c.args.max = subst (λ (xs : List Message). length xs < c.args.max) c.as_slice.ensures c.if-as_slice-max.false in
    let here : Contains c.rows.walk row = subst (λ (rows : List EntryRow). Contains rows row) (sym c.in-Some.ensures.some) (zero, omega arith, refl) in
    record {
      left = c.left_behind-left.ensures ∙ left-behind row c.next.new.self c.rows.left (c.rows.invariant.left ∙ ap (λ (rows : List EntryRow). length (filter is_due rows)) c.in-Some.ensures.some);
      few = omega (arith, less);
      among = λ r inside. c.rows.invariant.among r (subst (λ (rows : List EntryRow). Contains rows r) (sym c.in-Some.ensures.some) (suc inside.0, omega (arith, inside.1), inside.2));
      listed = λ s tree table known.
          listed-more c.args.max s (end_messages c.args.client c.args.ended.now) c.due_of-walk.result c.rows.walk c.next.new.self c.rows.due c.add_due.new.list row c.in-Some.ensures.some
          (c.in_ok-add_due.ensures.ok s tree (λ untold. known-row c.args.scene.now.table.kept s c.args.scene.now.table.entries table c.due_of-walk.ensures.sound known row (c.rows.invariant.among row here (ap (λ b. b || (row.entry.size_due || row.entry.asked)) untold))))
          (c.rows.invariant.listed s tree table known);
    }

pub returns-then-left-eq0 : goal.returns-then-left-eq0
returns-then-left-eq0 c = λ s tree table known messages.
    let first = end_messages c.args.client c.args.ended.now in
    let own : List EntryRow = filter (is_of_client c.args.client) c.args.scene.now.table.entries.rows in
    let none : filter is_due own ≡ [] = nil_from_length (filter is_due own) (sym c.due_count-left.ensures ∙ c.if-left-eq0.true) in
    listed-first s c.args.client c.args.max c.args.scene.now.table.entries c.args.ended.now [] c.in_ok-due.due (sym none) table messages
    (c.in_ok-due.ensures ∙ ap (take c.args.max) (sym (append-nil first)))

pub returns-then-left-eq0-2 : goal.returns-then-left-eq0-2
returns-then-left-eq0-2 c = λ s tree table known messages.
    let max = c.args.max in
    let row : EntryRow = c.in-Some.row in
    let first = end_messages c.args.client c.args.ended.now in
    let rows = c.due_of-walk.result in
    let here : Contains c.rows.walk row = subst (λ (rows : List EntryRow). Contains rows row) (sym c.in-Some.ensures.some) (zero, omega arith, refl) in
    let is = c.in_ok-add_due.ensures.ok s.scene tree
    (λ untold. known-row c.args.scene.now.table.kept s.scene c.args.scene.now.table.entries table c.due_of-walk.ensures.sound known row (c.rows.invariant.among row here (ap (λ b. b || (row.entry.size_due || row.entry.asked)) untold))) in
    let so_far : IsListed max s.scene first rows c.add_due.new.list c.next.new.self =
    listed-more max s.scene first rows c.rows.walk c.next.new.self c.rows.due c.add_due.new.list row c.in-Some.ensures.some is (c.rows.invariant.listed s.scene tree table known) in
    let none : filter is_due c.next.new.self ≡ [] =
    nil_from_length (filter is_due c.next.new.self)
    (sym (left-behind row c.next.new.self c.rows.left (c.rows.invariant.left ∙ ap (λ (rows : List EntryRow). length (filter is_due rows)) c.in-Some.ensures.some)) ∙ sym c.left_behind-left.ensures ∙ c.if-left-eq0-2.true) in
    listed-first s c.args.client max c.args.scene.now.table.entries c.args.ended.now rows c.add_due.new.list c.due_of-walk.ensures.due table messages
    (listed-all max s.scene first rows c.add_due.new.list (few-more max _ c.add_due.new.list is) (listed-done max s.scene first rows c.next.new.self c.add_due.new.list none so_far))

pub returns-then-as_slice-max : goal.returns-then-as_slice-max
returns-then-as_slice-max c = λ s tree table known messages.
    let max = c.args.max in
    let row : EntryRow = c.in-Some.row in
    let first = end_messages c.args.client c.args.ended.now in
    let rows = c.due_of-walk.result in
    let here : Contains c.rows.walk row = subst (λ (rows : List EntryRow). Contains rows row) (sym c.in-Some.ensures.some) (zero, omega arith, refl) in
    let is = c.in_ok-add_due.ensures.ok s.scene tree
    (λ untold. known-row c.args.scene.now.table.kept s.scene c.args.scene.now.table.entries table c.due_of-walk.ensures.sound known row (c.rows.invariant.among row here (ap (λ b. b || (row.entry.size_due || row.entry.asked)) untold))) in
    let so_far : IsListed max s.scene first rows c.add_due.new.list c.next.new.self =
    listed-more max s.scene first rows c.rows.walk c.next.new.self c.rows.due c.add_due.new.list row c.in-Some.ensures.some is (c.rows.invariant.listed s.scene tree table known) in
    let full : max ≤ length c.add_due.new.list = subst (λ (xs : List Message). max ≤ length xs) c.as_slice.ensures c.if-as_slice-max.true in
    listed-first s c.args.client max c.args.scene.now.table.entries c.args.ended.now rows c.add_due.new.list c.due_of-walk.ensures.due table messages
    (listed-full max s.scene first rows c.next.new.self c.add_due.new.list (few-more max _ c.add_due.new.list is) full so_far)

pub returns : goal.returns
returns c = λ s tree table known messages.
    let max = c.args.max in
    let first = end_messages c.args.client c.args.ended.now in
    let rows = c.due_of-walk.result in
    let ended = c.in_default.ensures.none in
    listed-first s c.args.client max c.args.scene.now.table.entries c.args.ended.now rows c.rows.due c.due_of-walk.ensures.due table messages
    (listed-all max s.scene first rows c.rows.due c.rows.invariant.few (subst (IsListed max s.scene first rows c.rows.due) ended.0 (c.rows.invariant.listed s.scene tree table known)))
