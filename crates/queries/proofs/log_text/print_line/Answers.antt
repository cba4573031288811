use Rattle.std.proofs.Common.{Bool, Option, [], ap, sym, subst, append-nil, ◌∙◌}
use Rattle.queries.specs.Before.{BeforeTexts, said_before}
use Rattle.queries.specs.Checks.{head_in}
use Rattle.queries.specs.Reported.{IsReported, SaysBehind, State, behind_check, of_line, scope_of, state_of}
use Rattle.queries.specs.Reported.IsReported.{checked, kept, passed_over}
use Rattle.queries.proofs.log_text.print_line.Goals as goal

pub returns-then-is_before : goal.returns-then-is_before
returns-then-is_before c = (
  [],
  sym (append-nil c.args.reported.now.items),
  subst (λ (next : State). IsReported (scope_of c.args.scope) (state_of c.args.state.now) c.args.line.now [] next) (sym c.in_ok-keep.ensures) (kept (sym c.is_before.ensures ∙ c.if-is_before.true)),
)

pub returns-in_default : goal.returns-in_default
returns-in_default c = (
  [],
  sym (append-nil c.args.reported.now.items),
  subst (λ (next : State). IsReported (scope_of c.args.scope) (state_of c.args.state.now) c.args.line.now [] next) (sym c.pass_over.ensures) (passed_over (sym c.is_before.ensures ∙ c.if-is_before.false) c.in_default.ensures),
)

pub returns : goal.returns
returns c =
    let says = c.in_ok-is_judged.ensures in
    let old = state_of c.args.state.now in
    let items = of_line c.args.state.now.number says.0 in (
      items,
      says.1,
      subst (λ (next : State). IsReported (scope_of c.args.scope) old c.args.line.now items next) (sym (c.pass_check.ensures ∙ ap (λ (judged : Bool). behind_check old judged) says.3))
          (checked (c.in-Some.front.now, c.in-Some.text.now) says.0 (sym c.is_before.ensures ∙ c.if-is_before.false) c.in-Some.ensures
          (subst (λ (b : Option BeforeTexts). SaysBehind (scope_of c.args.scope) b (head_in (c.in-Some.front.now, c.in-Some.text.now)) says.0) (c.said_before-before.ensures ∙ ap said_before c.as_slice.ensures.value) says.2)),
    )
