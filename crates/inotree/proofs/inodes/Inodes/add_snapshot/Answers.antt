use Rattle.std.proofs.Common.{ℕ, OnOk, OnErr, sym, ap, subst, ◌∙◌}
use Rattle.std.specs.Cmp.{nat_cmp_total}
use Rattle.std.specs.FinMap as map
use Rattle.capbits.specs.Maps.{change_at}
use Rattle.capbits.proofs.Maps.{change-is, change-none, insert-same}
use Rattle.inotree.specs.declared.node.Node.{Node}
use Rattle.inotree.specs.Inodes.{InodeMap, with_snapshot}
use Rattle.inotree.proofs.Results.{err_of, ok_of, on_err, on_ok}
use Rattle.inotree.proofs.inodes.Inodes.add_snapshot.Goals as goal
use Rattle.inotree.proofs.inodes.Inodes.add_snapshot.Goals.{in-None, in-Some}

pub returns-clause-ok : goal.returns-clause-ok
returns-clause-ok c =
    let m : InodeMap = c.self.inside.nodes in
    let ino : ℕ = c.args.ino in
    let f : Node → Node = with_snapshot c.args.name in
    elim c.match-get_mut.branch [
      | in-Some w ↦
          subst (λ r. OnOk r _) (sym w.result-is) (on_ok _ w.insert.ensures.ok (λ done.
          ap (λ i. i.nodes) w.self-inside-is ∙ ap (λ kept. map.insert m ino (record w.in-Some.node.now { snapshots = kept })) done
          ∙ sym (change-is nat_cmp_total map.nat_cmp-IsAntisymmetric m ino f w.in-Some.node.now (sym w.in-Some.ensures.value))
          ∙ ap (λ (m : InodeMap). change_at f m ino) c.self.view_is))
      | in-None w ↦
          ok_of _ (
          ap (λ i. i.nodes) w.self-inside-is ∙ sym (change-none nat_cmp_total map.nat_cmp-IsAntisymmetric m ino f (sym w.in-None.ensures.value))
          ∙ ap (λ (m : InodeMap). change_at f m ino) c.self.view_is)
    ]

pub returns-clause-err : goal.returns-clause-err
returns-clause-err c =
    let m : InodeMap = c.self.inside.nodes in
    let ino : ℕ = c.args.ino in
    elim c.match-get_mut.branch [
      | in-Some w ↦
          subst (λ r. OnErr r _) (sym w.result-is) (on_err _ w.insert.ensures.err (λ same.
          ap (λ i. i.nodes) w.self-inside-is ∙ ap (λ kept. map.insert m ino (record w.in-Some.node.now { snapshots = kept })) same
          ∙ insert-same nat_cmp_total map.nat_cmp-IsAntisymmetric m ino w.in-Some.node.now (sym w.in-Some.ensures.value) ∙ c.self.view_is))
      | in-None w ↦ err_of _ (ap (λ i. i.nodes) w.self-inside-is ∙ c.self.view_is)
    ]
