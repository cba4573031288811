use Rattle.std.proofs.Common.{◌≡◌, ℕ, ◌<◌, ◌^◌, ◌==◌, sym, ap, subst, ◌∙◌}
use Rattle.std.specs.List.{AllByRecursion, filter}
use Rattle.std.specs.FinMap as map
use Rattle.inotree.specs.declared.index.Slot.{Slot}
use Rattle.capbits.proofs.Entries.{entries-entries}
use Rattle.inotree.proofs.Slots.{slot_same, slot_total, up_to_end, up_to_next}
use Rattle.inotree.proofs.index.Index.names_in.Goals as goal
use Rattle.inotree.proofs.index.Index.names_in.Goals.{in-None, in-Some}

pub returns : goal.returns
returns c =
    let same : map.entries c.args.self.now ≡ c.self.inside.inodes.entries =
    ap map.entries (sym c.self.view_is) ∙ entries-entries slot_total slot_same c.self.inside.inodes.entries c.range.ensures.ordered in
    let fits = subst (AllByRecursion (λ (e : Slot × ℕ). e.0.dir < 2 ^ 64)) same c.requires in
    elim c.match-checked_add.branch [
      | in-Some w ↦ rw (w.end-is, w.empty-in-Some.ensures, c.empty.ensures) at (c.range.ensures.between tt) ∙ up_to_next c.args.dir w.in-Some.next c.self.inside.inodes.entries w.in-Some.ensures.1 ∙ ap (filter (λ (e : Slot × ℕ). e.0.dir == c.args.dir)) (sym same)
      | in-None w ↦ rw (w.end-is, c.empty.ensures) at (c.range.ensures.between tt) ∙ up_to_end c.args.dir c.self.inside.inodes.entries w.in-None.ensures fits ∙ ap (filter (λ (e : Slot × ℕ). e.0.dir == c.args.dir)) (sym same)
    ]
