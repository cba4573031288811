use Rattle.std.proofs.Common.{◌≡◌, List, ℕ, ◌++◌, ap, refl, subst, ◌∙◌}
use Rattle.queries.specs.Counts.{counts_of}
use Rattle.queries.specs.LogPieces.{end_text}
use Rattle.queries.specs.Reported.{IsReported, State, scope_of, state_of, text_of}
use Rattle.queries.proofs.CountedLog.{at_end}
use Rattle.queries.proofs.log_text.LogTeller.finish.Goals as goal

pub returns : goal.returns
returns c =
    let says = c.in_ok-print_line.ensures in
    let next = state_of c.print_line.new.state in
    let scope = scope_of c.args.scope in
    let counted = counts_of c.args.self.now.counts in
    let told : c.as_slice.result.now ≡ text_of scope says.0 = c.as_slice.ensures.value ∙ says.1 ∙ ap (λ (t : List ℕ). t ++ text_of scope says.0) c.new-told.ensures.items in
    let same : state_of c.hand_on.new.self.state ≡ next = c.hand_on.ensures.state in (
      end_text scope counted says.0 next.passed,
      at_end scope c.args.reported.now.items c.hand_on.new.reported.items c.print.new.text.items c.print_passed.new.reported.items c.as_slice.result.now counted (counts_of c.hand_on.new.self.counts) says.0 next.passed c.hand_on.new.self.state.passed
          told c.in_ok-hand_on.ensures.told c.in_ok-hand_on.ensures.counted c.in_ok-print.ensures (ap (λ (s : State). s.passed) same) c.in_ok-print_passed.ensures,
      record {
        last = says.0;
        end = next;
        reported = subst (λ (line : List ℕ). IsReported scope (state_of c.args.self.now.state) line says.0 next) c.as_slice-last.ensures.value says.2;
        more_is = refl;
        judged_is = ap (λ (s : State). s.judged) same;
      },
    )
