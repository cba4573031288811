use Rattle.std.proofs.Common.{ap, sym, subst, ◌∙◌}
use Rattle.std.specs.Option.{option_map}
use Rattle.lockmachine.specs.declared.moves.QueueScope.{QueueScope}
use Rattle.lockmachine.specs.declared.moves.QueueScope.TheVariants.{Here, Nobody}
use Rattle.lockmachine.specs.Cursors.{Suffices}
use Rattle.lockmachine.proofs.Alone.{none-here, served-here}
use Rattle.lockmachine.proofs.locks.Locks.first_among.Goals as goal

pub returns-in-Here : goal.returns-in-Here
returns-in-Here c =
    let here : Suffices Here c.args.self.now.locks c.args.ino.0 = subst (λ (s : QueueScope). Suffices s c.args.self.now.locks c.args.ino.0) c.in-Here.is c.requires in
    c.first_served_at.ensures ∙ ap (option_map (λ q. q.ticket)) (served-here c.args.self.now.locks c.args.ino.0 here)

pub returns-in-Nobody : goal.returns-in-Nobody
returns-in-Nobody c =
    let here : Suffices Nobody c.args.self.now.locks c.args.ino.0 = subst (λ (s : QueueScope). Suffices s c.args.self.now.locks c.args.ino.0) c.in-Nobody.is c.requires in
    sym (ap (option_map (λ q. q.ticket)) (sym (served-here c.args.self.now.locks c.args.ino.0 here.0) ∙ none-here c.args.self.now.locks c.args.ino.0 here.1))
