use Rattle.std.proofs.Common.{ℕ, ◌+◌, Option, drop, ap, ◌∙◌}
use Rattle.release_rules.specs.Clients.{refused_behind}
use Rattle.release_rules.proofs.Lists.{one_more_decides}
use Rattle.release_rules.proofs.judging.client_refuses.Goals as goal

pub loop-place-preserved : goal.loop-place-preserved
loop-place-preserved c =
    let q = c.args.question.now in
    let grants = c.args.grants.now in
    let i = c.loop-place.place in
    ap (λ (r : Option ℕ). refused_behind c.args.switches q (i + 1) r (drop (i + 1) grants)) c.decided-refused.ensures
    ∙ one_more_decides c.args.switches q grants i c.index-grants-place.result c.loop-place.refused c.loop-place-test.true c.index-grants-place.is ∙ c.loop-place.invariant
