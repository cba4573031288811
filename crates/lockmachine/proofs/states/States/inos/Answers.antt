use Rattle.std.proofs.Common.{sym, ap, ◌∙◌}
use Rattle.std.specs.FinMap as map
use Rattle.lockmachine.specs.declared.states.LocksAt.{LocksAt}
use Rattle.lockmachine.specs.Inodes.{CountedStates}
use Rattle.lockmachine.proofs.EachValue.{keys-each}
use Rattle.lockmachine.proofs.states.States.inos.Goals as goal

pub returns : goal.returns
returns c = c.keys.ensures ∙ sym (keys-each (λ (at : LocksAt). at.locks) c.self.inside.rows) ∙ ap (λ (s : CountedStates). map.keys s.states) c.self.view_is
