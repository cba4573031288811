use Rattle.std.proofs.Common.{◌≡◌, ℕ, List, ◌++◌, ap, subst, ◌∙◌}
use Rattle.std.specs.Prelude.{OnOk, codes, is_some, not}
use Rattle.texts.specs.Comparing.{found_line}
use Rattle.texts.specs.Linting.{covered_text, nothing_text, reported_if, stands_line, unread_text}
use Rattle.texts.proofs.Texts.{texts-behind}
use Rattle.texts.proofs.lint_text.print_finding.Goals as goal

pub returns : goal.returns
returns c =
    let f = c.args.finding.now in
    let start = c.args.text.now.items in
    let covered = reported_if f.is_redundant f.grant covered_text in
    let nothing = reported_if f.allows_nothing f.grant nothing_text in
    let undone = reported_if (is_some f.undoing) f.grant (codes ": ") in
    let question = found_line (codes "root_squash undone, ") f.undoing in
    let unread = reported_if (not f.has_ceph_text) f.grant unread_text in
    let stands = stands_line f.grant c.args.unread in
    subst (λ (text : List ℕ). OnOk c.print_as_it_stands.result (c.print_as_it_stands.new.text.items ≡ text))
    (texts-behind c.print_found.new.text.items unread stands c.print_if-4.new.text.items c.in_ok-print_if-4.ensures
    ∙ texts-behind c.print_if-3.new.text.items question (unread ++ stands) c.print_found.new.text.items c.in_ok-print_found.ensures
    ∙ texts-behind c.print_if-2.new.text.items undone (question ++ (unread ++ stands)) c.print_if-3.new.text.items (c.in_ok-print_if-3.ensures ∙ ap (λ is. c.print_if-2.new.text.items ++ reported_if is f.grant (codes ": ")) c.is_some.ensures)
    ∙ texts-behind c.print_if.new.text.items nothing (undone ++ (question ++ (unread ++ stands))) c.print_if-2.new.text.items c.in_ok-print_if-2.ensures
    ∙ texts-behind start covered (nothing ++ (undone ++ (question ++ (unread ++ stands)))) c.print_if.new.text.items c.in_ok-print_if.ensures)
    c.print_as_it_stands.ensures
