use Rattle.std.proofs.Common.{◌≡◌, ◌<◌, ◌≤◌, ℕ, ◌+◌, ◌==◌, false, ◌||◌, Option, Some, None, List, [], ◌∷◌, ◌++◌, length, take, get_or, refl, sym, ap, subst}
use Rattle.std.proofs.Common.{◌∙◌, arith, eq-eqb}
use Rattle.std.proofs.lemmas.Bool.{eqb-true}
use Rattle.std.proofs.lemmas.List.{get_or-map, get_or-take, length-map, length-take-le, take_all, take_more}
use Rattle.std.proofs.lemmas.List.Elements.{All-contains}
use Rattle.std.proofs.lemmas.List.Folds.{list_any_more}
use Rattle.std.proofs.lemmas.List.Sums.{fold-append}
use Rattle.std.proofs.lemmas.Map.Keys.{IsDistinct-from_apart, apart_from_distinct}
use Rattle.std.specs.List.{IsDistinct, find, fold}
use Rattle.std.specs.Option.{unwrap_or}
use Rattle.capbits.specs.Sets.{no_caps}
use Rattle.step_acts.proofs.KeptSets.{kept-on, not-yet}
use Rattle.capcore.proofs.AtEnd.{distinct-on, named, named-clients}
use Rattle.capcore.proofs.CommonPieces.{Caps, ClientViews, Entry, EntryRow, Holder, KnownAnew, Table, changed, changed_by, changed_where, entries_on, issuable_under}
use Rattle.capcore.proofs.CommonPieces.{entry_at, entry_of, entry_under, filter-contains, fold-changed_by, fold-on_inode, found-contains, found-stays, holder}
use Rattle.capcore.proofs.CommonPieces.{holders_of_rows, is_among, is_of_inode, is_row_of, kept-nobody, kept-none, kept-not, kept-same, kept-then, known_in}
use Rattle.capcore.proofs.CommonPieces.{none_found, numbered_as, pending_at, permitted_of, row_of-entry, same, same-is}
use Rattle.capcore.proofs.finish.finish_entries.Goals.{After-is_empty, in-Some, in_default}
use Rattle.capcore.proofs.finish.finish_entries.Goals as goal

-- The holders with an entry on the inode, one after another.
module _ (c : After-is_empty) where
  abbrev ks : List Holder
  ks = named c.args.ino c.as_slice-numbers.result.now

  -- what the end of the step makes of an entry of which this is known, and tells its client
  abbrev made : ClientViews → EntryRow → Entry
  made sets = entry_under (known_in sets) c.args.policy.now.fs.now c.args.policy.now.tree.now c.args.policy.now.sessions.now c.args.locks.now

  abbrev says : EntryRow → Caps
  says = pending_at c.args.policy.now.fs.now c.args.policy.now.tree.now c.args.policy.now.sessions.now c.args.locks.now

  all : ks ≡ holders_of_rows (entries_on c.args.table.now.entries c.args.ino)
  all = ap (named c.args.ino) (c.as_slice-numbers.ensures.value ∙ c.clients_on-clients.ensures.clients) ∙ named-clients c.args.ino c.args.table.now.entries.rows

  -- so many were gone through
  module _ (i : ℕ) (u : Table) (mid : ClientViews) (table : u ≡ fold (changed_by (made c.args.table.now.kept)) c.args.table.now.entries (take i ks)) (known : KnownAnew (is_among (take i ks)) says c.args.table.now.entries c.args.table.now.kept mid) where
    abbrev t : Table
    t = c.args.table.now.entries

    abbrev was : ClientViews
    was = c.args.table.now.kept

    abbrev g : EntryRow → Entry
    g = made was

    -- and so was each entry on the inode, where these are all
    ended : length c.as_slice-numbers.result.now ≤ i → (u ≡ changed_where (is_of_inode c.args.ino) g t) × KnownAnew (λ k. k.ino.0 == c.args.ino.0) says t was mid
    ended past =
        let each : take i ks ≡ holders_of_rows (entries_on t c.args.ino) = take_all i ks (omega (arith, past, length-map c.as_slice-numbers.result.now (λ (n : ℕ). holder (record { 0 = n }) c.args.ino))) ∙ all in
        (table ∙ ap (fold (changed_by g) t) each ∙ fold-on_inode g t c.args.ino c.clients_on-clients.ensures.sound, kept-on c.args.ino says t was mid (subst (λ (hs : List Holder). KnownAnew (is_among hs) says t was mid) each known))

    -- and one is next
    module _ (within : i < length c.as_slice-numbers.result.now) where
      abbrev next : Holder
      next = holder (record { 0 = get_or c.as_slice-numbers.result.now i 0 }) c.args.ino

      here : get_or ks i next ≡ next
      here = get_or-map (λ (n : ℕ). holder (record { 0 = n }) c.args.ino) c.as_slice-numbers.result.now i 0 next within

      inside : i < length ks
      inside = omega (arith, within, length-map c.as_slice-numbers.result.now (λ (n : ℕ). holder (record { 0 = n }) c.args.ino))

      apart : IsDistinct same ks
      apart = subst (IsDistinct same) (sym all) (distinct-on t c.args.ino c.clients_on-clients.ensures.sound)

      named_before : is_among (take i ks) next ≡ false
      named_before = ap (is_among (take i ks)) (sym here) ∙ not-yet ks i next apart inside

      once : IsDistinct same (take i ks)
      once = IsDistinct-from_apart same (take i ks) (λ a b d below within.
          let few : b < i = omega (arith, within, length-take-le i ks (omega (arith, inside))) in
          ap (λ h. same h (get_or (take i ks) b d)) (get_or-take i ks a d (omega arith)) ∙ ap (same (get_or ks a d)) (get_or-take i ks b d few) ∙ apart_from_distinct same ks a b d apart below (omega (arith, inside)))

      -- its row is as it was
      still : find (is_row_of next) u.rows ≡ find (is_row_of next) t.rows
      still =
          ap (λ (x : Table). find (is_row_of next) x.rows) (table ∙ fold-changed_by g t (take i ks) c.clients_on-clients.ensures.sound once)
          ∙ found-stays (λ row. is_among (take i ks) row.holder) g t next (λ row mine. ap (is_among (take i ks)) (sym mine) ∙ named_before)

      -- and so is what is known of it
      alike : (e : Entry) → made mid (record { holder = next; entry = e }) ≡ g (record { holder = next; entry = e })
      alike e =
          let row : EntryRow = record { holder = next; entry = e } in
          ap (λ (o : Option Caps). numbered_as (unwrap_or o no_caps) (says row) (issuable_under c.args.policy.now.fs.now c.args.policy.now.tree.now c.args.policy.now.sessions.now c.args.locks.now row) row)
          (kept-not (is_among (take i ks)) says t was mid known next named_before)

      one_more : (v : Table) (now : ClientViews) → v ≡ changed_by (made mid) u next → KnownAnew (λ j. same j next) says u mid now
          → (v ≡ fold (changed_by g) t (take (i + 1) ks)) × KnownAnew (is_among (take (i + 1) ks)) says t was now
      one_more v now step kept =
          let more : take (i + 1) ks ≡ take i ks ++ next ∷ [] = take_more ks i next inside ∙ ap (λ (k : Holder). take i ks ++ k ∷ []) here in (
            step ∙ (λ j. changed u next (λ e. alike e j)) ∙ ap (λ (x : Table). changed_by g x next) table ∙ sym (ap (fold (changed_by g) t) more ∙ fold-append (changed_by g) t (take i ks) (next ∷ [])),
            kept-same (λ j. is_among (take i ks) j || same j next) (is_among (take (i + 1) ks)) says t was now
                (λ j. sym (list_any_more (same j) ks i next inside ∙ ap (λ h. is_among (take i ks) j || same j h) here))
                (kept-then (is_among (take i ks)) (λ j. same j next) says t u was mid now known kept
                (λ j on. let is : j ≡ next = same-is j next on in ap (λ h. find (is_row_of h) u.rows) is ∙ still ∙ ap (λ h. find (is_row_of h) t.rows) (sym is))),
          )

pub returns-then-is_empty : goal.returns-then-is_empty
returns-then-is_empty g =
    let c = (goal.at.returns-then-is_empty g).After-is_empty in
    let empty = eqb-true (length c.as_slice-numbers.result.now) 0 (sym g.is_empty.ensures ∙ g.if-is_empty.true) in
    let done = ended c 0 c.args.table.now.entries c.args.table.now.kept refl (kept-nobody (says c) c.args.table.now.entries c.args.table.now.kept) (omega (arith, empty)) in
    record { table = done.0; known = done.1; permitted = λ k. refl }

pub returns : goal.returns
returns g =
    let done = ended (goal.at.returns g).After-is_empty g.loop-number.number-index g.loop-number.table.entries g.loop-number.table.kept g.loop-number.invariant.table g.loop-number.invariant.known g.loop-number-test.false in
    record { table = done.0; known = done.1; permitted = g.loop-number.invariant.permitted }

pub finish_row-requires : goal.finish_row-requires
finish_row-requires g =
    let c = (goal.at.finish_row-requires g).After-is_empty in
    let rows : List EntryRow = c.args.table.now.entries.rows in
    let k : Holder = holder (record { 0 = get_or c.as_slice-numbers.result.now g.loop-number.number-index 0 }) c.args.ino in
    let row : EntryRow = record { holder = k; entry = g.in-Some.entry } in
    let now : entry_at g.loop-number.table.entries k ≡ Some g.in-Some.entry = cc in
    let same_row = still c g.loop-number.number-index g.loop-number.table.entries g.loop-number.table.kept g.loop-number.invariant.table g.loop-number.invariant.known g.loop-number-test.true in
    let found : entry_at c.args.table.now.entries k ≡ Some g.in-Some.entry = sym (ap entry_of same_row) ∙ now in
    record {
      there = now;
      permitted = g.loop-number.invariant.permitted k ∙ c.requires.permitted k g.in-Some.entry found;
      number = All-contains (λ row. row.entry.seq < 18446744073709551615) (entries_on c.args.table.now.entries c.args.ino) row c.requires.numbers
          (filter-contains (is_of_inode c.args.ino) rows row (found-contains (is_row_of k) rows row (row_of-entry c.args.table.now.entries k g.in-Some.entry found)) (eq-eqb c.args.ino.0 c.args.ino.0 refl));
    }

pub loop-number-preserved : goal.loop-number-preserved
loop-number-preserved g =
    let c = (goal.at.loop-number-preserved g).After-is_empty in
    let u : Table = g.loop-number.table.entries in
    let mid : ClientViews = g.loop-number.table.kept in
    let k : Holder = holder (record { 0 = get_or c.as_slice-numbers.result.now g.loop-number.number-index 0 }) c.args.ino in
    let done : (g.match-find_near.table.entries ≡ changed_by (made c mid) u k) × KnownAnew (λ j. same j k) (says c) u mid g.match-find_near.table.kept × ((j : Holder) → permitted_of g.match-find_near.table.kept j ≡ permitted_of mid j) =
    elim g.match-find_near.branch [
      | in-Some w ↦ rw w.table-is (w.finish_row.ensures.table, w.finish_row.ensures.known, w.finish_row.ensures.permitted)
      | in_default w ↦ (let none : entry_at u k ≡ None = cc in
          rw w.table-is (none_found u k (λ e. made c mid (record { holder = k; entry = e })) none, kept-none (says c) u mid k none, λ j. refl))
    ] in
    let more = one_more c g.loop-number.number-index u mid g.loop-number.invariant.table g.loop-number.invariant.known g.loop-number-test.true g.match-find_near.table.entries g.match-find_near.table.kept done.0 done.1 in
    record { table = more.0; known = more.1; permitted = λ j. done.2 j ∙ g.loop-number.invariant.permitted j }
