use Rattle.std.proofs.Common.{◌≡◌, ◌≢◌, ◌==◌, ◌<◌, ◌-◌, ◌^◌, Option, Some, true, sym, ap, subst, ◌∙◌, unwrap_or, IfSome}
use Rattle.std.proofs.lemmas.Bool.{not-false}
use Rattle.std.specs.Option.{option_map}
use Rattle.capbits.specs.Caps.{bits_of}
use Rattle.capbits.specs.SetNumbers.{bits_of-injective}
use Rattle.capbits.specs.Sets.{meet, true_eq, union}
use Rattle.captable.proofs.ByHolder.{same-apart}
use Rattle.captable.proofs.Changes.{left_found, same_found}
use Rattle.captable.specs.Calls.{changed, issued}
use Rattle.captable.specs.Kept.{KeptTable, telling}
use Rattle.step_acts.proofs.Beside.{keeping-other, keeping-own}
use Rattle.step_acts.proofs.Common.{Caps, ClientView, Entry, EntryRow, Holder, Table, entry_at, no_caps, permitted, renumbered, same}
use Rattle.step_acts.proofs.Held.{same-renumbered}
use Rattle.step_acts.proofs.KeptSets.{kept-one}
use Rattle.step_acts.proofs.Renewed.{kept-is}
use Rattle.step_acts.proofs.finishing.finish_row.Goals.{After-meet-before, else-ne, then-ne}
use Rattle.step_acts.specs.Known.{ClientViews, KnownAnew, known_in, permitted_of, sets_of}
use Rattle.step_acts.specs.Finishing as words
use Rattle.step_acts.proofs.finishing.finish_row.Goals as goal

same_set : (a b : Caps) → (bits_of a == bits_of b) ≡ true → a ≡ b
same_set a b is = bits_of-injective a b (true_eq _ _ is)

-- by what is permitted, and by the locks
abbrev issuable_of : After-meet-before → EntryRow → Caps
issuable_of c = words.issuable_under c.args.policy.now.fs.now c.args.policy.now.tree.now c.args.policy.now.sessions.now c.args.locks.now

abbrev pending_now : After-meet-before → EntryRow → Caps
pending_now c = words.pending_at c.args.policy.now.fs.now c.args.policy.now.tree.now c.args.policy.now.sessions.now c.args.locks.now

abbrev made_of : After-meet-before → EntryRow → Entry
made_of c = words.entry_under (known_in c.args.table.now.kept) c.args.policy.now.fs.now c.args.policy.now.tree.now c.args.policy.now.sessions.now c.args.locks.now

-- what was kept beside the entry
was : (c : After-meet-before) → (sets_of c.args.table.now.kept c.args.row.holder ≡ Some c.kept_near-kept.result)
    × (c.kept_near-kept.result.permitted ≡ permitted c.args.policy.now.fs.now c.args.policy.now.tree.now c.args.policy.now.sessions.now c.args.row.holder)
was c =
    let is = kept-is (sets_of c.args.table.now.kept c.args.row.holder) (permitted c.args.policy.now.fs.now c.args.policy.now.tree.now c.args.policy.now.sessions.now c.args.row.holder) c.requires.permitted in
    (is.0 ∙ ap Some (sym c.kept_near-kept.ensures), ap (λ (s : ClientView). s.permitted) c.kept_near-kept.ensures ∙ is.1)

issuable : (c : After-meet-before) → c.meet-issuable.result ≡ issuable_of c c.args.row
issuable c = let may = (was c).1 in cc

pending : (c : After-meet-before) → c.pending_under-pending.result ≡ pending_now c c.args.row
pending c =
    let held = c.union-held.ensures ∙ ap (union c.args.row.entry.held) (issuable c) in
    c.pending_under-pending.ensures ∙ (λ i. words.pending_under ((was c).1 i) c.args.locks.now (record c.args.row { entry = record c.args.row.entry { held = held i } }))

-- the entry with all that is due, numbered
made : (c : After-meet-before) → renumbered c.meet-before.result c.pending_under-pending.result (issued c.meet-issuable.result c.args.row.entry) ≡ made_of c c.args.row
made c =
    let before = c.meet-before.ensures ∙ ap (λ (o : Option ClientView). meet (unwrap_or (option_map (λ (s : ClientView). s.pending) o) no_caps) c.args.row.entry.held) (sym (was c).0) in
    λ i. renumbered (before i) (pending c i) (issued (issuable c i) c.args.row.entry)

-- what is kept at the end, beside the same entries
same_entries : (c : After-meet-before) → c.if-ne.table.entries ≡ c.args.table.now.entries
same_entries c = elim c.if-ne.branch [
  | then-ne w ↦ ap (λ (t : KeptTable). t.entries) (w.table-is ∙ w.keep_pending.ensures)
  | else-ne w ↦ ap (λ (t : KeptTable). t.entries) w.table-is
]

kept : (c : After-meet-before) → (sets_of c.if-ne.table.kept c.args.row.holder ≡ Some (record c.kept_near-kept.result { pending = c.pending_under-pending.result }))
    × ((k : Holder) → k ≢ c.args.row.holder → sets_of c.if-ne.table.kept k ≡ sets_of c.args.table.now.kept k)
kept c = elim c.if-ne.branch [
  | then-ne w ↦ (
      let h : Holder = c.args.row.holder in
      let is = w.table-is ∙ w.keep_pending.ensures in (
        ap (λ (t : KeptTable). sets_of t.kept h) is ∙ keeping-own c.args.table.now.kept h (telling c.pending_under-pending.result) ∙ ap (option_map (telling c.pending_under-pending.result)) (was c).0,
        λ k apart. ap (λ (t : KeptTable). sets_of t.kept k) is ∙ keeping-other c.args.table.now.kept h (telling c.pending_under-pending.result) k (same-apart h k (λ same_holder. apart (sym same_holder))),
      )
      )
  | else-ne w ↦ (
    ap (λ (t : KeptTable). sets_of t.kept c.args.row.holder) w.table-is ∙ (was c).0
        ∙ (λ i. Some (record c.kept_near-kept.result { pending = sym (same_set c.pending_under-pending.result c.kept_near-kept.result.pending (not-false _ (sym c.ne.ensures ∙ w.if-ne.false))) i })),
    λ k apart. ap (λ (t : KeptTable). sets_of t.kept k) w.table-is,
  )
]

abbrev KeptAnew : After-meet-before → ClientViews → Type 0
KeptAnew c sets = KnownAnew (λ k. same k c.args.row.holder) (pending_now c) c.args.table.now.entries c.args.table.now.kept sets × ((k : Holder) → permitted_of sets k ≡ permitted_of c.args.table.now.kept k)

known : (c : After-meet-before) → KeptAnew c c.if-ne.table.kept
known c =
    kept-one (pending_now c) c.args.table.now.entries c.args.table.now.kept c.args.row.holder c.if-ne.table.kept c.args.row.entry c.kept_near-kept.result c.requires.there (was c).0
    ((kept c).0 ∙ (λ i. Some (record c.kept_near-kept.result { pending = pending c i }))) (kept c).1

pub issue_numbered-requires : goal.issue_numbered-requires
issue_numbered-requires g =
    let c = (goal.at.issue_numbered-requires g).After-meet-before in
    subst (λ (o : Option Entry). IfSome o (λ entry. entry.seq < 2 ^ 64 - 1)) (sym (ap (λ (t : Table). entry_at t c.args.row.holder) (same_entries c) ∙ c.requires.there)) c.requires.number

pub returns-then-eq-2 : goal.returns-then-eq-2
returns-then-eq-2 g =
    let c = (goal.at.returns-then-eq-2 g).After-meet-before in
    let e : Entry = c.args.row.entry in
    let held : union e.held c.meet-issuable.result ≡ e.held = sym c.union-held.ensures ∙ same_set c.union-held.result e.held (sym g.eq.ensures ∙ g.if-eq.true) in
    let pending_same : c.pending_under-pending.result ≡ c.meet-before.result = same_set c.pending_under-pending.result c.meet-before.result (sym g.eq-then-eq.ensures ∙ g.if-eq-2.true) in
    record {
      table = same_entries c ∙ left_found c.args.table.now.entries c.args.row.holder e (λ e. made_of c (record { holder = c.args.row.holder; entry = e })) c.requires.there
          (sym (made c) ∙ same-renumbered c.meet-before.result c.pending_under-pending.result (issued c.meet-issuable.result e) (sym pending_same) ∙ (λ i. record e { held = held i }));
      known = (known c).0;
      permitted = (known c).1;
    }

pub returns : goal.returns
returns g =
    let c = (goal.at.returns g).After-meet-before in
    let h : Holder = c.args.row.holder in
    let numbered = λ (e : Entry). renumbered c.meet-before.result c.pending_under-pending.result (issued c.meet-issuable.result e) in
    let anew = subst (KeptAnew c) (sym (ap (λ (t : KeptTable). t.kept) g.issue_numbered.ensures)) (known c) in
    record {
      table = ap (λ (t : KeptTable). t.entries) g.issue_numbered.ensures ∙ ap (λ (t : Table). changed t h numbered) (same_entries c)
          ∙ same_found c.args.table.now.entries h c.args.row.entry numbered (λ e. made_of c (record { holder = h; entry = e })) c.requires.there (made c);
      known = anew.0;
      permitted = anew.1;
    }
