use Rattle.std.proofs.Common.{◌≡◌, ℕ, ◌+◌, List, None, refl, sym, ap, subst, ◌∙◌, arith}
use Rattle.std.specs.FinMap as map
use Rattle.std.specs.Cmp.{nat_cmp_total}
use Rattle.inotree.specs.declared.node.Node.{Node}
use Rattle.inotree.specs.declared.node.Site.TheVariants.{Under}
use Rattle.inotree.specs.Inodes.{InodeMap}
use Rattle.inotree.specs.Index.{NameIndex}
use Rattle.inotree.specs.Tree.{Nodes}
use Rattle.capbits.specs.Refusal.{first_failing}
use Rattle.inotree.specs.Calls.{new_node}
use Rattle.inotree.specs.Tests.{create_tests}
use Rattle.inotree.proofs.Changes.{consistent-added, consistent_at, raisable_at}
use Rattle.capbits.proofs.Maps.{put_back}
use Rattle.inotree.proofs.Named.{child-index}
use Rattle.inotree.proofs.Passing.{passed-create}
use Rattle.inotree.proofs.Results.{at_err, at_ok}
use Rattle.inotree.proofs.tree.Tree.add.Goals as goal

pub overflow_add-ino : goal.overflow_add-ino
overflow_add-ino c =
    let before : Nodes = record { nodes = c.self.inside.inodes; last = c.self.inside.last } in
    let passing : first_failing (create_tests before c.args.dir.0 c.args.name.now) ≡ None =
    subst (λ (t : Nodes). first_failing (create_tests t c.args.dir.0 c.args.name.now) ≡ None) (sym c.self.view_is) c.requires.passed in
    let more = (passed-create before c.args.dir.0 c.args.name.now passing).2 in
    omega (arith, more)

pub invariant_of-self : goal.invariant_of-self
invariant_of-self c =
    consistent_at c.self.inside.heights c.self.inside.inodes _ c.self.inside.last c.self.inside.names _ (at_err c.insert.result c.if-is_err.ensures.value c.insert.ensures.err) refl
    (c.self.invariant.0, c.self.invariant.1)

-- without the inode there are those that there were
back : (c : goal.After-remove) → c.remove.new.self ≡ c.self.inside.inodes
back c =
    let m : InodeMap = c.self.inside.inodes in
    let k : ℕ = c.self.inside.last + 1 in
    let node : Node = record { kind = c.args.kind; site = Under c.args.dir c.of.result; attr = c.args.attr; size = 0; time = 0; attributes = c.new.result; snapshots = c.new-2.result } in
    let fresh : map.get m k ≡ None = c.self.invariant.0.given k (omega arith) in
    let added : c.insert.new.self ≡ map.insert m k node = at_ok c.insert.result c.if-is_err.ensures.value c.insert.ensures.ok in
    c.remove.ensures ∙ ap (λ (n : InodeMap). map.remove n k) added ∙ put_back nat_cmp_total map.nat_cmp-IsAntisymmetric m k node fresh

pub invariant_of-self-then-is_err-2 : goal.invariant_of-self-then-is_err-2
invariant_of-self-then-is_err-2 c =
    consistent_at c.self.inside.heights c.self.inside.inodes _ c.self.inside.last c.self.inside.names _ (back c) (at_err c.insert-2.result c.if-is_err-2.ensures.value c.insert-2.ensures.err)
    (c.self.invariant.0, c.self.invariant.1)

pub returns-then-is_err-2-clause-err : goal.returns-then-is_err-2-clause-err
returns-then-is_err-2-clause-err c = ap (λ (n : InodeMap). record { nodes = n; last = c.self.inside.last }) (back c) ∙ c.self.view_is

pub raise_above-requires : goal.raise_above-requires
raise_above-requires c =
    let m : InodeMap = c.self.inside.inodes in
    let index : NameIndex = c.self.inside.names in
    let k : ℕ = c.self.inside.last + 1 in
    let d : ℕ = c.args.dir.0 in
    let a : List ℕ = c.args.name.now in
    let before : Nodes = record { nodes = m; last = c.self.inside.last } in
    let passing : first_failing (create_tests before d a) ≡ None = subst (λ (t : Nodes). first_failing (create_tests t d a) ≡ None) (sym c.self.view_is) c.requires.passed in
    let passed = passed-create before d a passing in
    let free : map.get index (record { dir = d; name = a }) ≡ None = sym (child-index m index c.self.invariant.1.0 d a) ∙ passed.0.free in
    let node : Node = record { kind = c.args.kind; site = Under c.args.dir c.of.result; attr = c.args.attr; size = 0; time = 0; attributes = c.new.result; snapshots = c.new-2.result } in
    let same : node ≡ new_node c.args.kind d a c.args.attr = λ i. record { kind = c.args.kind; site = Under c.args.dir (c.of.ensures i); attr = c.args.attr; size = 0; time = 0; attributes = c.new.ensures i; snapshots = c.new-2.ensures i } in
    let added : c.insert.new.self ≡ map.insert m k (new_node c.args.kind d a c.args.attr) = at_ok c.insert.result c.if-is_err.ensures.value c.insert.ensures.ok ∙ ap (map.insert m k) same in
    let named : c.insert-2.new.self ≡ map.insert index (record { dir = d; name = a }) k = at_ok c.insert-2.result c.if-is_err-2.ensures.value c.insert-2.ensures.ok ∙ ap (λ b. map.insert index (record { dir = d; name = b }) k) c.of-2.ensures in
    let now = raisable_at _ _ k k _ _ _ added named
    (consistent-added m c.self.inside.last d a c.args.kind c.args.attr index c.self.inside.heights c.begin.new.self c.self.invariant.0 c.self.invariant.1 passed.0.kind passed.0.here passed.0.good free passed.1 c.begin.ensures) in
    record { tree = (k, now.0); here = now.2; rise = now.3 }

pub invariant_of-self-2 : goal.invariant_of-self-2
invariant_of-self-2 c =
    let m : InodeMap = c.self.inside.inodes in
    let index : NameIndex = c.self.inside.names in
    let k : ℕ = c.self.inside.last + 1 in
    let d : ℕ = c.args.dir.0 in
    let a : List ℕ = c.args.name.now in
    let before : Nodes = record { nodes = m; last = c.self.inside.last } in
    let passing : first_failing (create_tests before d a) ≡ None = subst (λ (t : Nodes). first_failing (create_tests t d a) ≡ None) (sym c.self.view_is) c.requires.passed in
    let passed = passed-create before d a passing in
    let free : map.get index (record { dir = d; name = a }) ≡ None = sym (child-index m index c.self.invariant.1.0 d a) ∙ passed.0.free in
    let node : Node = record { kind = c.args.kind; site = Under c.args.dir c.of.result; attr = c.args.attr; size = 0; time = 0; attributes = c.new.result; snapshots = c.new-2.result } in
    let same : node ≡ new_node c.args.kind d a c.args.attr = λ i. record { kind = c.args.kind; site = Under c.args.dir (c.of.ensures i); attr = c.args.attr; size = 0; time = 0; attributes = c.new.ensures i; snapshots = c.new-2.ensures i } in
    let added : c.insert.new.self ≡ map.insert m k (new_node c.args.kind d a c.args.attr) = at_ok c.insert.result c.if-is_err.ensures.value c.insert.ensures.ok ∙ ap (map.insert m k) same in
    let named : c.insert-2.new.self ≡ map.insert index (record { dir = d; name = a }) k = at_ok c.insert-2.result c.if-is_err-2.ensures.value c.insert-2.ensures.ok ∙ ap (λ b. map.insert index (record { dir = d; name = b }) k) c.of-2.ensures in
    let now = raisable_at _ _ k k _ _ _ added named
    (consistent-added m c.self.inside.last d a c.args.kind c.args.attr index c.self.inside.heights c.begin.new.self c.self.invariant.0 c.self.invariant.1 passed.0.kind passed.0.here passed.0.good free passed.1 c.begin.ensures) in
    (now.0, (now.1, c.raise_above.ensures))
