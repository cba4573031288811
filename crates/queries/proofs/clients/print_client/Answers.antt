use Rattle.std.proofs.Common.{◌++◌, subst, ◌∙◌}
use Rattle.policy_analysis.specs.Callers.{Wanted}
use Rattle.policy_analysis.specs.Standing.{Answers}
use Rattle.queries.specs.Attempts.{wanted_by}
use Rattle.queries.specs.Clients.{others_in, standing_in}
use Rattle.queries.proofs.ClientLines.{judged_line}
use Rattle.queries.proofs.clients.print_client.Goals as goal

pub returns-in-Ok-Some : goal.returns-in-Ok-Some
returns-in-Ok-Some c =
    let telling = c.args.telling in
    let w = wanted_by c.args.attempt.now c.args.fs.now in
    let attr = c.args.attempt.now.attr in
    let name = c.args.client.now.name in
    let text = c.in-Some.text.now in
    let standing = c.standing-standing.result in (
      standing_in telling name w attr standing (others_in telling w attr text standing),
      c.in_ok-print_answer-in-Ok-Some.ensures
          ∙ (λ i. c.args.lines.now.items ++ standing_in telling (c.name-name.ensures i) (c.wanted-wanted.ensures i) attr standing (c.in_ok-others-in-Ok-Some.ensures i)),
      judged_line telling w attr name c.args.client.now.caps text _ standing c.in-Some.ensures (rw (c.in-Ok-Some.field-0-is, c.meant.ensures) at c.in-Ok-Some.ensures.found)
          (subst (λ (v : Wanted). Answers v attr c.in-Ok-Some.grants standing) c.wanted-wanted.ensures c.standing-standing.ensures),
    )
