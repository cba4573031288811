use Rattle.std.proofs.Common.{ap, ◌∙◌}
use Rattle.lockmachine.proofs.EachValue.{both-empty, both_of}
use Rattle.lockmachine.proofs.states.States.new.Goals as goal

pub returns : goal.returns
returns c = ap both_of c.new.ensures ∙ both-empty
