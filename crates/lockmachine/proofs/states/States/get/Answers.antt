use Rattle.std.proofs.Common.{sym, ap, ◌∙◌}
use Rattle.std.specs.FinMap as map
use Rattle.std.specs.Option.{option_copied, option_map}
use Rattle.lockmachine.specs.declared.states.LocksAt.{LocksAt}
use Rattle.lockmachine.specs.Inodes.{CountedStates}
use Rattle.lockmachine.proofs.EachValue.{get-each}
use Rattle.lockmachine.proofs.states.States.get.Goals as goal

pub returns-in_err-get : goal.returns-in_err-get
returns-in_err-get c =
    let locks = λ (at : LocksAt). at.locks in
    ap option_copied c.from_residual.ensures ∙ sym (get-each locks c.self.inside.rows c.args.ino.0 ∙ ap (option_map locks) (sym c.get.ensures ∙ ap option_copied c.in_err-get.was))
    ∙ ap (λ (s : CountedStates). map.get s.states c.args.ino.0) c.self.view_is

pub returns : goal.returns
returns c =
    let locks = λ (at : LocksAt). at.locks in
    sym (get-each locks c.self.inside.rows c.args.ino.0 ∙ ap (option_map locks) (sym c.get.ensures ∙ ap option_copied c.in_ok-get.was))
    ∙ ap (λ (s : CountedStates). map.get s.states c.args.ino.0) c.self.view_is
