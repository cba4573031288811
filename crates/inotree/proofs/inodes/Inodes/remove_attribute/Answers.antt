use Rattle.std.proofs.Common.{ℕ, sym, ap, ◌∙◌}
use Rattle.std.specs.Cmp.{nat_cmp_total}
use Rattle.std.specs.FinMap as map
use Rattle.capbits.specs.Maps.{change_at}
use Rattle.capbits.proofs.Maps.{change-is, change-none}
use Rattle.inotree.specs.declared.node.Node.{Node}
use Rattle.inotree.specs.Inodes.{InodeMap, without_attribute}
use Rattle.inotree.proofs.inodes.Inodes.remove_attribute.Goals as goal
use Rattle.inotree.proofs.inodes.Inodes.remove_attribute.Goals.{in-Some, in_default}

pub returns : goal.returns
returns c =
    let m : InodeMap = c.self.inside.nodes in
    let ino : ℕ = c.args.ino in
    let f : Node → Node = without_attribute c.args.name.now in
    elim c.match-get_mut.branch [
      | in-Some w ↦
          ap (λ i. i.nodes) w.self-inside-is ∙ ap (λ kept. map.insert m ino (record w.in-Some.node.now { attributes = kept })) w.remove.ensures
          ∙ sym (change-is nat_cmp_total map.nat_cmp-IsAntisymmetric m ino f w.in-Some.node.now (sym w.in-Some.ensures.value))
          ∙ ap (λ (m : InodeMap). change_at f m ino) c.self.view_is
      | in_default w ↦
          ap (λ i. i.nodes) w.self-inside-is ∙ sym (change-none nat_cmp_total map.nat_cmp-IsAntisymmetric m ino f (sym w.in_default.ensures.value))
          ∙ ap (λ (m : InodeMap). change_at f m ino) c.self.view_is
    ]
