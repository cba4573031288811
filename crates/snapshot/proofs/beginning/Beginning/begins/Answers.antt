use Rattle.std.proofs.Common.{◌≤◌, ap, subst, arith, length, List}
use Rattle.std.proofs.lemmas.Bool.Decides.{nat_tests}
use mathlib.Core.List.{IsPrefix}
use Rattle.capstep.specs.declared.row.Row.{Row}
use Rattle.snapshot.proofs.Beginnings.{prefix_shorter}
use Rattle.snapshot.proofs.beginning.Beginning.begins.Goals as goal

pub returns-clause-begins : goal.returns-clause-begins
returns-clause-begins g c t =
    let both = c.learn.new.self.log in
    let this : IsPrefix c.self.inside.seen.log both = subst (λ (l : List Row). IsPrefix l both) (ap {B = List Row} (λ s. s.log) c.again-both.ensures) c.learn.ensures.2 in
    let le : c.self.inside.count ≤ c.other.inside.count = grind (arith, nat_tests) in
    let less : length c.self.inside.seen.log ≤ length c.other.inside.seen.log = omega (arith, c.self.invariant.0, c.other.invariant.0) in
    rw (← c.self.view_is, ← c.other.view_is) (prefix_shorter c.self.inside.seen.log c.other.inside.seen.log both this c.learn.ensures.3 less)
