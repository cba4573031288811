use Rattle.std.proofs.Common.{ℕ, sym, ap, ◌∙◌}
use Rattle.std.specs.Cmp.{nat_cmp_total}
use Rattle.std.specs.FinMap as map
use Rattle.capbits.specs.Maps.{change_at}
use Rattle.capbits.proofs.Maps.{change-is, change-none}
use Rattle.inotree.specs.Heights.{HeightMap}
use Rattle.inotree.proofs.heights.Heights.set.Goals as goal
use Rattle.inotree.proofs.heights.Heights.set.Goals.{in-Some, in_default}

pub returns : goal.returns
returns c =
    let m : HeightMap = c.self.inside.heights in
    let dir : ℕ = c.args.dir in
    let f : ℕ → ℕ = λ _. c.args.height in
    elim c.match-get_mut.branch [
      | in-Some w ↦
          ap (λ h. h.heights) w.self-inside-is ∙ sym (change-is nat_cmp_total map.nat_cmp-IsAntisymmetric m dir f w.in-Some.kept.now (sym w.in-Some.ensures.value))
          ∙ ap (λ (m : HeightMap). change_at f m dir) c.self.view_is
      | in_default w ↦
          ap (λ h. h.heights) w.self-inside-is ∙ sym (change-none nat_cmp_total map.nat_cmp-IsAntisymmetric m dir f (sym w.in_default.ensures.value))
          ∙ ap (λ (m : HeightMap). change_at f m dir) c.self.view_is
    ]
