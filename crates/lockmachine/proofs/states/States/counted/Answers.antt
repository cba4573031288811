use Rattle.std.proofs.Common.{sym, ap, ◌∙◌}
use Rattle.std.specs.FinMap as map
use Rattle.std.specs.Option.{option_map}
use Rattle.lockmachine.specs.declared.states.LocksAt.{LocksAt}
use Rattle.lockmachine.specs.Inodes.{CountedStates}
use Rattle.lockmachine.proofs.EachValue.{get-each}
use Rattle.lockmachine.proofs.states.States.counted.Goals as goal

pub returns-clause-locks : goal.returns-clause-locks
returns-clause-locks c =
    let locks = λ (at : LocksAt). at.locks in
    ap (option_map locks) (c.copied.ensures ∙ c.get.ensures) ∙ sym (get-each locks c.self.inside.rows c.args.ino.0) ∙ ap (λ (s : CountedStates). map.get s.states c.args.ino.0) c.self.view_is

pub returns-clause-counts : goal.returns-clause-counts
returns-clause-counts c =
    let counts = λ (at : LocksAt). at.counts in
    ap (option_map counts) (c.copied.ensures ∙ c.get.ensures) ∙ sym (get-each counts c.self.inside.rows c.args.ino.0) ∙ ap (λ (s : CountedStates). map.get s.counts c.args.ino.0) c.self.view_is
