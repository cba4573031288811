use Rattle.std.proofs.Common.{◌≡◌, ℕ, List, ◌++◌, subst, ◌∙◌}
use Rattle.std.specs.Prelude.{OnOk}
use Rattle.texts.specs.Mds.{said, said_lines}
use Rattle.texts.proofs.mds_text.print_others.Goals as goal

pub returns : goal.returns
returns c =
    let others = c.args.others.now in
    let pacific : c.as_slice.result.now ≡ said others.pacific = c.as_slice.ensures.value ∙ c.in_ok-pacific.ensures in
    let reef : c.as_slice-2.result.now ≡ said others.reef = c.as_slice-2.ensures.value ∙ c.in_ok-reef.ensures in
    let tentacle : c.as_slice-3.result.now ≡ said others.tentacle = c.as_slice-3.ensures.value ∙ c.in_ok-tentacle.ensures in
    subst (λ (lines : List ℕ). OnOk c.print_all_said.result (c.print_all_said.new.text.items ≡ c.args.text.now.items ++ lines))
    (λ i. said_lines c.args.front.now (pacific i) (reef i) (tentacle i)) c.print_all_said.ensures
