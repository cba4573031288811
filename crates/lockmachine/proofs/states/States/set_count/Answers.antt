use Rattle.std.proofs.Common.{ℕ, sym, ap, subst, ◌∙◌}
use Rattle.std.specs.Cmp.{nat_cmp_total}
use Rattle.std.specs.FinMap as map
use Rattle.std.specs.FinMap.{FinMap}
use Rattle.std.specs.Ordering.{nat_cmp}
use Rattle.capbits.specs.Maps.{change_at}
use Rattle.capbits.proofs.Maps.{change-is, change-none}
use Rattle.locktable.specs.declared.counts.Counts.{Counts}
use Rattle.locktable.specs.GatherCounts.{with_count_in}
use Rattle.lockmachine.specs.declared.states.LocksAt.{LocksAt}
use Rattle.lockmachine.specs.Inodes.{CountedStates, HaveCounts}
use Rattle.lockmachine.proofs.EachValue.{both-counts, both_of, have-counts}
use Rattle.lockmachine.proofs.states.States.set_count.Goals as goal
use Rattle.lockmachine.proofs.states.States.set_count.Goals.{in-Some, in_default}

pub returns-clause-set : goal.returns-clause-set
returns-clause-set c =
    let rows : FinMap nat_cmp LocksAt = c.self.inside.rows in
    let ino : ℕ = c.args.ino.0 in
    let h : Counts → Counts = with_count_in c.args.part c.args.count in
    let g : LocksAt → LocksAt = λ at. record at { counts = h at.counts } in
    let all = both-counts rows ino h ∙ ap (λ (s : CountedStates). record s { counts = change_at h s.counts ino }) c.self.view_is in
    elim c.match-get_mut.branch [
      | in-Some w ↦
          ap both_of
          (ap (λ i. i.rows) w.self-inside-is ∙ ap (λ v. map.insert rows ino (record w.in-Some.at.now { counts = v })) w.set.ensures
          ∙ sym (change-is nat_cmp_total map.nat_cmp-IsAntisymmetric rows ino g w.in-Some.at.now (sym w.in-Some.ensures.value))) ∙ all
      | in_default w ↦
          ap both_of (ap (λ i. i.rows) w.self-inside-is ∙ sym (change-none nat_cmp_total map.nat_cmp-IsAntisymmetric rows ino g (sym w.in_default.ensures.value))) ∙ all
    ]

pub returns-clause-had : goal.returns-clause-had
returns-clause-had c = subst (λ (s : CountedStates). HaveCounts s.states s.counts) c.self.view_is (have-counts c.self.inside.rows)
