use Rattle.std.proofs.Common.{rules, sym, ◌∙◌}
use Rattle.queries.proofs.Looked.{one_each}
use Rattle.queries.proofs.TextFault.{refused_text}
use Rattle.queries.proofs.linting.lint_text.Goals as goal

pub lines_of-requires : goal.lines_of-requires
lines_of-requires c =
    let reported = c.in_ok-unread.ensures.reported c.in_ok-grants.grants c.in_ok-grants.ensures.ok in
    rw (c.as_slice-2.ensures.value, c.as_slice.ensures.value) (one_each c.args.text.now c.in_ok-grants.grants c.in_ok-unread.unread.items reported ∙ sym c.in_ok-findings.ensures.one_each)

pub returns-in_err-grants-clause-err : goal.returns-in_err-grants-clause-err
returns-in_err-grants-clause-err c = refused_text c.args.text.now c.in_err-grants.field-0.0 c.from_residual.result (search rules) c.from_residual.ensures.1
