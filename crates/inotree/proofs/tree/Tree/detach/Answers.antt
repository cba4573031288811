use Rattle.std.proofs.Common.{◌≡◌, ℕ, None, sym, subst}
use Rattle.inotree.specs.Inodes.{InodeMap}
use Rattle.inotree.specs.Tree.{IsUnder, Nodes, site_of}
use Rattle.capbits.specs.Refusal.{first_failing}
use Rattle.inotree.specs.Tests.{detach_tests}
use Rattle.inotree.proofs.Changes.{consistent-unlinked, consistent_at}
use Rattle.inotree.proofs.Passing.{childless_empty, passed-detach, slot_site}
use Rattle.inotree.proofs.tree.Tree.detach.Goals as goal

pub invariant_of-self : goal.invariant_of-self
invariant_of-self c =
    let m : InodeMap = c.self.inside.inodes in
    let k : ℕ = c.args.ino.0 in
    let before : Nodes = record { nodes = m; last = c.self.inside.last } in
    let passed : first_failing (detach_tests before k) ≡ None = subst (λ (t : Nodes). first_failing (detach_tests t k) ≡ None) (sym c.self.view_is) c.requires.passed in
    let under : IsUnder m k c.in-Some.slot.dir c.in-Some.slot.name = slot_site (site_of m k) c.in-Some.slot (sym c.in-Some.ensures) in
    consistent_at c.self.inside.heights _ _ c.self.inside.last _ _ c.set_site.ensures c.remove.ensures
    (consistent-unlinked c.self.inside.heights m c.self.inside.last k c.in-Some.slot.dir c.in-Some.slot.name c.self.inside.names c.self.invariant.0 c.self.invariant.1 under
    (childless_empty m k (passed-detach before k passed).1))
