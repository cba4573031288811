use Rattle.std.proofs.Common.{sym, subst, List, Contains, ◌∙◌}
use Rattle.capcore.proofs.CommonPieces.{Ino}
use Rattle.step_acts.proofs.Walked.{IsAdded, covers-listed, walked-tried, walked-wider}
use Rattle.step_acts.specs.AffectedInodes.{CoversBelow}
use Rattle.capcore.proofs.held_below.add_held_below.Goals as goal

pub returns-then-contains-clause-covers : goal.returns-then-contains-clause-covers
returns-then-contains-clause-covers c = λ moves. c.requires.walked c.args.request.now.ino.0 (sym c.contains.ensures ∙ c.if-contains.true)

pub returns-in_err-add_held-clause-walked : goal.returns-in_err-add_held-clause-walked
returns-in_err-add_held-clause-walked c =
    walked-wider c.args.walked.now c.args.scene.now.tree c.args.scene.now.table.entries c.args.affected.now c.add_held.new.affected c.add_held.ensures.widens c.requires.walked

pub returns-clause-walked : goal.returns-clause-walked
returns-clause-walked c =
    let added = subst (λ (inos : List Ino). (ino : Ino) → Contains inos ino → IsAdded c.args.scene.now.table.entries.rows c.add_held.new.affected ino) c.as_slice.ensures.value c.in_ok-add_held.ensures.covers in
    let covers : CoversBelow c.args.request.now.ino.0 c.args.scene.now.tree c.args.scene.now.table.entries c.add_held.new.affected =
    covers-listed c.args.request.now.ino.0 c.args.scene.now.tree c.args.scene.now.table.entries c.in_ok-inos.inos.items c.add_held.new.affected c.in_ok-inos.ensures.all added in
    let still = walked-wider c.args.walked.now c.args.scene.now.tree c.args.scene.now.table.entries c.args.affected.now c.add_held.new.affected c.add_held.ensures.widens c.requires.walked in
    walked-tried c.args.request.now.ino.0 c.args.walked.now c.insert-walked.new.self c.insert-walked.result c.args.scene.now.tree c.args.scene.now.table.entries c.add_held.new.affected
    c.insert-walked.ensures.ok c.insert-walked.ensures.err covers still
