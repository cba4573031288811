use Rattle.std.proofs.Common.{◌≡◌, ℕ, List, subst}
use Rattle.texts.specs.Comparing.{comparison}
use Rattle.queries.specs.ComparingMore.{AddsSections, own_answer}
use Rattle.queries.specs.declared.comparing_more.OwnAnswer.{OwnAnswer}
use Rattle.queries.proofs.Sections.{told_of_each}
use Rattle.queries.proofs.comparing_more.lines_beside.Goals as goal

pub returns : goal.returns
returns c =
    let old : List ℕ = c.args.old.now in
    let new : List ℕ = c.args.new.now in
    let text : List ℕ = c.print_section-3.new.lines.items in
    let own : OwnAnswer = record { gains = c.is_some.result; loses = c.is_some-2.result } in
    let own_is : own ≡ own_answer c.args.gain.now c.args.loss.now = λ i. record { gains = c.is_some.ensures i; loses = c.is_some-2.ensures i } in
    let told : AddsSections own old new c.in_ok-lines.lines.items text =
    told_of_each own old new c.in_ok-lines.lines.items c.print_section.new.lines.items c.print_section-2.new.lines.items text c.in_ok-print_section.ensures c.in_ok-print_section-2.ensures c.in_ok-print_section-3.ensures in
    let behind = subst (λ (front : List ℕ). AddsSections own old new front text) c.in_ok-lines.ensures told in
    subst (λ (o : OwnAnswer). AddsSections o old new (comparison c.args.gain.now c.args.loss.now) text) own_is behind
