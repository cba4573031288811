use Rattle.std.proofs.Common.{◌≡◌, ℕ, List, None, sym, ap, subst, ◌∙◌, arith}
use Rattle.std.specs.FinMap as map
use Rattle.inotree.specs.declared.node.Site.TheVariants.{Under}
use Rattle.capbits.specs.Maps.{change_at}
use Rattle.inotree.specs.Inodes.{InodeMap, with_site}
use Rattle.inotree.specs.Index.{NameIndex}
use Rattle.inotree.specs.Tree.{IsIndexed, IsUnder, Nodes, site_of}
use Rattle.capbits.specs.Refusal.{first_failing}
use Rattle.inotree.specs.Tests.{rename_tests}
use Rattle.inotree.proofs.Changes.{consistent-moved, raisable_at}
use Rattle.inotree.proofs.Named.{child-index, index_inodes}
use Rattle.inotree.proofs.Passing.{passed-rename, slot_site}
use Rattle.inotree.proofs.Results.{at_err, at_ok}
use Rattle.inotree.proofs.tree.Tree.rename_tested.Goals as goal

pub lower_to_fit-requires : goal.lower_to_fit-requires
lower_to_fit-requires c = record {
  inodes = index_inodes c.self.inside.inodes c.self.inside.names c.self.invariant.1.0 c.self.inside.last c.self.invariant.0 (omega arith);
  indexed = c.self.invariant.1.0;
  rise = c.self.invariant.1.1;
}

pub invariant_of-self : goal.invariant_of-self
invariant_of-self c = (
  c.self.invariant.0,
  (
    subst (λ (i : NameIndex). IsIndexed c.self.inside.inodes i) (sym (at_err c.insert.result c.if-is_err.ensures.value c.insert.ensures.err)) c.self.invariant.1.0,
    c.lower_to_fit.ensures.rise,
  ),
)

pub raise_above-requires : goal.raise_above-requires
raise_above-requires c =
    let m : InodeMap = c.self.inside.inodes in
    let index : NameIndex = c.self.inside.names in
    let k : ℕ = c.args.ino.0 in
    let d : ℕ = c.args.dir.0 in
    let a : List ℕ = c.args.name.now in
    let before : Nodes = record { nodes = m; last = c.self.inside.last } in
    let passing : first_failing (rename_tests before k d a) ≡ None = subst (λ (t : Nodes). first_failing (rename_tests t k d a) ≡ None) (sym c.self.view_is) c.requires.passed in
    let passed = passed-rename before k d a passing in
    let under : IsUnder m k c.in-Some.old.dir c.in-Some.old.name = slot_site (site_of m k) c.in-Some.old (sym c.in-Some.ensures) in
    let free : map.get index (record { dir = d; name = a }) ≡ None = sym (child-index m index c.self.invariant.1.0 d a) ∙ passed.1.free in
    let added : c.insert.new.self ≡ map.insert index (record { dir = d; name = a }) k =
    at_ok c.insert.result c.if-is_err.ensures.value c.insert.ensures.ok ∙ ap (λ b. map.insert index (record { dir = d; name = b }) k) c.of.ensures in
    let now = raisable_at _ _ c.self.inside.last k _ _ _
    (c.set_site.ensures ∙ ap (λ b. change_at (with_site (Under c.args.dir b)) m k) c.of-2.ensures)
    (c.remove.ensures ∙ ap (λ (x : NameIndex). map.remove x c.in-Some.old) added)
    (consistent-moved m c.self.inside.last k d c.in-Some.old.dir a c.in-Some.old.name index c.lower_to_fit.new.self c.self.invariant.0 (c.self.invariant.1.0, c.lower_to_fit.ensures.rise) under
    passed.1.kind passed.1.here passed.1.good free passed.2 passed.3) in
    record { tree = (c.self.inside.last, now.0); here = now.2; rise = now.3 }

pub invariant_of-self-2 : goal.invariant_of-self-2
invariant_of-self-2 c =
    let m : InodeMap = c.self.inside.inodes in
    let index : NameIndex = c.self.inside.names in
    let k : ℕ = c.args.ino.0 in
    let d : ℕ = c.args.dir.0 in
    let a : List ℕ = c.args.name.now in
    let before : Nodes = record { nodes = m; last = c.self.inside.last } in
    let passing : first_failing (rename_tests before k d a) ≡ None = subst (λ (t : Nodes). first_failing (rename_tests t k d a) ≡ None) (sym c.self.view_is) c.requires.passed in
    let passed = passed-rename before k d a passing in
    let under : IsUnder m k c.in-Some.old.dir c.in-Some.old.name = slot_site (site_of m k) c.in-Some.old (sym c.in-Some.ensures) in
    let free : map.get index (record { dir = d; name = a }) ≡ None = sym (child-index m index c.self.invariant.1.0 d a) ∙ passed.1.free in
    let added : c.insert.new.self ≡ map.insert index (record { dir = d; name = a }) k =
    at_ok c.insert.result c.if-is_err.ensures.value c.insert.ensures.ok ∙ ap (λ b. map.insert index (record { dir = d; name = b }) k) c.of.ensures in
    let now = raisable_at _ _ c.self.inside.last k _ _ _
    (c.set_site.ensures ∙ ap (λ b. change_at (with_site (Under c.args.dir b)) m k) c.of-2.ensures)
    (c.remove.ensures ∙ ap (λ (x : NameIndex). map.remove x c.in-Some.old) added)
    (consistent-moved m c.self.inside.last k d c.in-Some.old.dir a c.in-Some.old.name index c.lower_to_fit.new.self c.self.invariant.0 (c.self.invariant.1.0, c.lower_to_fit.ensures.rise) under
    passed.1.kind passed.1.here passed.1.good free passed.2 passed.3) in
    (now.0, (now.1, c.raise_above.ensures))
