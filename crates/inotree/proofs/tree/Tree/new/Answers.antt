use Rattle.std.proofs.Common.{◌≡◌, ◌∙◌}
use Rattle.std.specs.FinMap as map
use Rattle.inotree.specs.declared.node.Kind.TheVariants.{Directory}
use Rattle.inotree.specs.declared.node.Site.TheVariants.{Root}
use Rattle.inotree.specs.Calls.{first_tree}
use Rattle.inotree.proofs.Changes.{consistent-first, consistent_at}
use Rattle.inotree.proofs.tree.Tree.new.Goals as goal

pub invariant_of-result : goal.invariant_of-result
invariant_of-result c =
    let same : c.insert.new.self ≡ (first_tree c.args.attr).nodes =
    c.in_ok-insert.ensures.ok ∙ (λ i. map.insert (c.new-inodes.ensures i) 1 (record { kind = Directory; site = Root; attr = c.args.attr; size = 0; time = 0; attributes = c.new.ensures i; snapshots = c.new-2.ensures i })) in
    consistent_at c.new-4.result _ _ 1 _ _ same c.new-3.ensures (consistent-first c.args.attr c.new-4.result)
