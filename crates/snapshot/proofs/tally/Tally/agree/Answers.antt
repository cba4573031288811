use Rattle.std.proofs.Common.{List, ℕ, ap, sym, subst, ◌∙◌}
use mathlib.Core.List.{IsPrefix}
use Rattle.snapshot.proofs.Tallying.{one_first}
use Rattle.snapshot.proofs.tally.Tally.agree.Goals as goal

pub returns : goal.returns
returns g c =
    let both = c.learn.new.self.log in
    let mine : IsPrefix c.self.inside.seen.log both = subst (λ (l : List ℕ). IsPrefix l both) (ap {B = List ℕ} (λ s. s.log) c.again-both.ensures) c.learn.ensures.2 in
    let one = subst (λ (l : List ℕ). IsPrefix l both) c.self.invariant.1 mine in
    let other = subst (λ (l : List ℕ). IsPrefix l both) c.other.invariant.1 c.learn.ensures.3 in
    rw (← c.self.view_is, ← c.other.view_is) (one_first c.self.inside.number c.other.inside.number both one other)
