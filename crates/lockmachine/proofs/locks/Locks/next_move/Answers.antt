use Rattle.std.proofs.Common.{ap, sym, ◌∙◌}
use Rattle.std.specs.Option.{option_map}
use Rattle.lockmachine.specs.Scene.{Scene, scene}
use Rattle.lockmachine.specs.Moves.{lock_ids}
use Rattle.lockmachine.proofs.Counted.{counted-all}
use Rattle.lockmachine.proofs.LockIds.{begin_first, end_first, serve_first}
use Rattle.lockmachine.proofs.locks.Locks.next_move.Goals as goal

pub returns-in-Some : goal.returns-in-Some
returns-in-Some c = λ counted permitted.
    let s : Scene = scene c.args.fs.now c.args.tree.now c.args.sessions.now c.args.table.now.entries c.args.self.now.locks in
    sym (end_first s c.in-Some.ino.0 c.in-Some.part (sym (c.first_end_of_all.ensures ∙ counted-all c.args.table.now.entries c.args.self.now counted (lock_ids c.args.self.now.locks)) ∙ ap (option_map (λ at. (at.0.0, at.1))) c.in-Some.is))

pub returns-in-Some-first_served : goal.returns-in-Some-first_served
returns-in-Some-first_served c = λ counted permitted.
    let s : Scene = scene c.args.fs.now c.args.tree.now c.args.sessions.now c.args.table.now.entries c.args.self.now.locks in
    sym (serve_first s c.in-Some-first_served.ticket (sym (c.first_end_of_all.ensures ∙ counted-all c.args.table.now.entries c.args.self.now counted (lock_ids c.args.self.now.locks)) ∙ ap (option_map (λ at. (at.0.0, at.1))) c.in_default.is)
    (sym c.in-Some-first_served.is ∙ c.first_served.ensures))

pub returns : goal.returns
returns c = λ counted permitted.
    let s : Scene = scene c.args.fs.now c.args.tree.now c.args.sessions.now c.args.table.now.entries c.args.self.now.locks in
    c.first_begin_of_all.ensures permitted
    ∙ sym (begin_first s (sym (c.first_end_of_all.ensures ∙ counted-all c.args.table.now.entries c.args.self.now counted (lock_ids c.args.self.now.locks)) ∙ ap (option_map (λ at. (at.0.0, at.1))) c.in_default.is)
    (sym c.in_default-first_served.is ∙ c.first_served.ensures))
