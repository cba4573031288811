use Rattle.std.proofs.Common.{◌≡◌, ◌∷◌, [], ◌++◌, List, sym, subst, ◌∙◌, arith, rules}
use mathlib.Core.List.{IsPrefix}
use Rattle.capstep.specs.declared.row.Row.{Row}
use Rattle.capstep.specs.State.{State}
use Rattle.snapshot.specs.Rows.{Legal}
use Rattle.snapshot.proofs.Gathering.{legal_more, take_begins}
use Rattle.snapshot.proofs.recorder.gather.Goals as goal

pub add-requires-clause-legal : goal.add-requires-clause-legal
add-requires-clause-legal g c =
    let o : State = g.L.Server.opening in
    let row : Row = c.index-history-at.result in
    subst (λ (rows : List Row). Legal o (rows ++ row ∷ [])) (sym c.loop-at.invariant.same) (legal_more o c.args.history.now c.loop-at.at row c.requires.legal (omega arith) c.index-history-at.is)

pub returns-then-not-add-clause-begins : goal.returns-then-not-add-clause-begins
returns-then-not-add-clause-begins g c =
    let same : c.add.new.self ≡ c.loop-at.recorder = search rules in
    subst (λ (rows : List Row). IsPrefix rows c.args.history.now) (sym (same ∙ c.loop-at.invariant.same)) (take_begins c.loop-at.at c.args.history.now)
