use Rattle.std.proofs.Common.{ap, sym, subst, ◌∙◌, unwrap_or, refl}
use Rattle.std.specs.List.{find}
use Rattle.std.specs.Option.{option_map}
use Rattle.lockmachine.specs.declared.moves.Move.TheVariants.{Settled}
use Rattle.lockmachine.specs.Scene.{Scene, scene_by}
use Rattle.lockmachine.specs.Moves.{may_begin, parts}
use Rattle.lockmachine.specs.Cursors.{IsNextAt, beginning, may_begin_by}
use Rattle.lockmachine.proofs.Alone.{scope-beginning}
use Rattle.lockmachine.proofs.Counted.{counted-first}
use Rattle.lockmachine.proofs.LockIds.{end_first, ends_at, next_begin, serve_first}
use Rattle.lockmachine.proofs.locks.Locks.next_move_by.Goals as goal

pub returns-in-Some-clause-next : goal.returns-in-Some-clause-next
returns-in-Some-clause-next c =
    let s : Scene = scene_by c.args.policy.now c.args.table.now.entries c.args.self.now.locks in
    (end_first s c.args.cursor.ino.0 c.in-Some.part (ends_at s c.args.cursor.ino.0 c.requires.cursor ∙ ap (option_map (λ part. (c.args.cursor.ino.0, part))) (sym (c.first_end.ensures ∙ counted-first c.args.table.now.entries c.args.self.now c.args.cursor.ino.0 c.requires.counted) ∙ c.in-Some.is)), refl)

pub returns-in-Some-first_among-clause-next : goal.returns-in-Some-first_among-clause-next
returns-in-Some-first_among-clause-next c =
    let s : Scene = scene_by c.args.policy.now c.args.table.now.entries c.args.self.now.locks in
    serve_first s c.in-Some-first_among.served (ends_at s c.args.cursor.ino.0 c.requires.cursor ∙ ap (option_map (λ part. (c.args.cursor.ino.0, part))) (sym (c.first_end.ensures ∙ counted-first c.args.table.now.entries c.args.self.now c.args.cursor.ino.0 c.requires.counted) ∙ c.in_default.is))
    (sym c.in-Some-first_among.is ∙ c.first_among.ensures)

pub returns-clause-next : goal.returns-clause-next
returns-clause-next c =
    let s : Scene = scene_by c.args.policy.now c.args.table.now.entries c.args.self.now.locks in
    subst (IsNextAt s c.args.cursor.ino.0)
    (sym (c.unwrap_or.ensures ∙ ap (λ o. unwrap_or o Settled) (c.first_begin.ensures ∙ scope-beginning s.locks c.given_or_found-wants.result c.args.cursor.ino.0 c.args.cursor.scope c.may_wait.result c.may_wait.ensures c.requires.scope)
    ∙ ap (λ wants. unwrap_or (option_map (λ part. beginning s.locks wants (c.args.cursor.ino.0, part)) (find (λ part. may_begin_by s.locks wants (c.args.cursor.ino.0, part)) parts)) Settled) c.given_or_found-wants.ensures))
    (next_begin s c.args.cursor.ino.0 c.requires.cursor (sym (c.first_end.ensures ∙ counted-first c.args.table.now.entries c.args.self.now c.args.cursor.ino.0 c.requires.counted) ∙ c.in_default.is) (sym c.in_default-first_among.is ∙ c.first_among.ensures)
    (find (λ part. may_begin s (c.args.cursor.ino.0, part)) parts) refl)
