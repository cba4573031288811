use Rattle.std.proofs.Common.{ap, ◌∙◌}
use Rattle.std.specs.FinMap as map
use Rattle.lockmachine.specs.Inodes.{CountedStates}
use Rattle.lockmachine.proofs.EachValue.{both-remove, both_of}
use Rattle.lockmachine.proofs.states.States.remove.Goals as goal

pub returns : goal.returns
returns c =
    ap both_of c.remove.ensures ∙ both-remove c.self.inside.rows c.args.ino.0
    ∙ ap (λ (s : CountedStates). record { states = map.remove s.states c.args.ino.0; counts = map.remove s.counts c.args.ino.0 }) c.self.view_is
