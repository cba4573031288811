use Rattle.std.proofs.Common.{Result, Ok, Err, OnOk, OnErr, sym, ap, ◌∙◌}
use Rattle.std.specs.FinMap as map
use Rattle.locktable.specs.GatherCounts.{no_counts}
use Rattle.lockmachine.specs.declared.states.LocksAt.{LocksAt}
use Rattle.lockmachine.specs.Inodes.{CountedStates}
use Rattle.lockmachine.proofs.EachValue.{both-insert, both_of}
use Rattle.lockmachine.proofs.states.States.insert.Goals as goal

where-ok : {A E : Type 0} (r : Result A E) (P Q : Type 0) → (P → Q) → OnOk r P → OnOk r Q
where-ok (Ok a) P Q f is = f is
where-ok (Err e) P Q f is = tt

where-err : {A E : Type 0} (r : Result A E) (P Q : Type 0) → (P → Q) → OnErr r P → OnErr r Q
where-err (Ok a) P Q f is = tt
where-err (Err e) P Q f is = f is

pub returns-clause-ok : goal.returns-clause-ok
returns-clause-ok c =
    let ino = c.args.ino.0 in
    where-ok c.insert.result _ _
    (λ is. ap both_of is ∙ both-insert c.self.inside.rows ino _ ∙ ap (λ n. record { states = map.insert (both_of c.self.inside.rows).states ino c.args.locks; counts = map.insert (both_of c.self.inside.rows).counts ino n }) c.none-counts.ensures
    ∙ ap (λ (s : CountedStates). record { states = map.insert s.states ino c.args.locks; counts = map.insert s.counts ino no_counts }) c.self.view_is)
    c.insert.ensures.ok

pub returns-clause-err : goal.returns-clause-err
returns-clause-err c = where-err c.insert.result _ _ (λ is. ap both_of is ∙ c.self.view_is) c.insert.ensures.err
