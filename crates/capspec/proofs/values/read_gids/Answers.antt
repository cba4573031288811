use Rattle.std.proofs.Common.{sym, ◌∙◌}
use Rattle.capspec.proofs.Separating.{all_gids, gids_shrink, more_gids, no_number, not_ended, too_many_gids}
use Rattle.capspec.proofs.values.read_gids.Goals as goal

pub returns-in_default-clause-err : goal.returns-in_default-clause-err
returns-in_default-clause-err c = no_number c.args.text.now c.loop-gid.rest.now c.loop-gid.all_fit c.loop-gid.gids c.loop-gid.invariant c.in_default.ensures.none

pub returns-then-not-ends_word-clause-err : goal.returns-then-not-ends_word-clause-err
returns-then-not-ends_word-clause-err c =
    not_ended c.args.text.now c.loop-gid.rest.now c.in-Some.after.now c.loop-gid.all_fit c.loop-gid.gids c.loop-gid.invariant c.in-Some.ensures.rest (sym c.ends_word.ensures ∙ c.if-not-ends_word.true)

pub returns-then-not-all_fit-clause-err : goal.returns-then-not-all_fit-clause-err
returns-then-not-all_fit-clause-err c =
    let push = c.try_push-all_fit in
    too_many_gids c.args.text.now c.loop-gid.rest.now c.in-Some.after.now c.loop-gid.all_fit push.result c.in-Some.gid c.loop-gid.gids c.loop-gid.invariant c.in-Some.ensures.number c.in-Some.ensures.rest
    (sym c.ends_word.ensures ∙ c.if-not-ends_word.false) c.in_default-behind_comma.ensures.none push.ensures.room c.if-not-all_fit.true

pub returns-in_default-behind_comma-clause-ok : goal.returns-in_default-behind_comma-clause-ok
returns-in_default-behind_comma-clause-ok c =
    let push = c.try_push-all_fit in
    all_gids c.args.text.now c.loop-gid.rest.now c.in-Some.after.now c.loop-gid.all_fit push.result c.in-Some.gid c.loop-gid.gids push.new.self c.loop-gid.invariant c.in-Some.ensures.number c.in-Some.ensures.rest
    (sym c.ends_word.ensures ∙ c.if-not-ends_word.false) push.ensures.room push.ensures.added push.ensures.full c.if-not-all_fit.false

pub loop-gid-preserved : goal.loop-gid-preserved
loop-gid-preserved c =
    let push = c.try_push-all_fit in
    more_gids c.args.text.now c.loop-gid.rest.now c.in-Some.after.now c.in-Some-behind_comma.more.now c.loop-gid.all_fit push.result c.in-Some.gid c.loop-gid.gids push.new.self c.loop-gid.invariant c.in-Some.ensures.number c.in-Some.ensures.rest
    c.in-Some-behind_comma.ensures.comma c.in-Some-behind_comma.ensures.digit push.ensures.room push.ensures.added push.ensures.full

pub loop-gid-smaller : goal.loop-gid-smaller
loop-gid-smaller c = gids_shrink c.loop-gid.rest.now c.in-Some.after.now c.in-Some-behind_comma.more.now c.in-Some.ensures.rest c.in-Some-behind_comma.ensures.comma
