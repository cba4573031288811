use Rattle.std.proofs.Common.{◌≡◌, ℕ, List, ◌++◌, subst, ◌∙◌}
use Rattle.std.specs.Prelude.{IfSome, OnOk, codes, not}
use Rattle.std.proofs.lemmas.Result.{on_ok_weaker}
use Rattle.texts.proofs.Texts.{texts-behind}
use Rattle.texts.specs.Found.Found.{stands}
use Rattle.texts.specs.Findings.{IsRead, finding_if, stands_object, undone_line}
use Rattle.texts.proofs.JsonLinted.{each_is_read}
use Rattle.texts.proofs.lint_object.print_finding_object.Goals as goal

pub returns-clause-line : goal.returns-clause-line
returns-clause-line c =
    let f = c.args.finding.now in
    let start = c.args.lines.now.items in
    let covered = finding_if f.is_redundant (codes "covered") f.grant in
    let nothing = finding_if f.allows_nothing (codes "allows-nothing") f.grant in
    let undone = undone_line f.grant f.undoing in
    let unread = finding_if (not f.has_ceph_text) (codes "unread-by-ceph-16") f.grant in
    let standing = stands_object f.grant c.args.unread in
    subst (λ (text : List ℕ). OnOk c.print_as_it_stands.result (c.print_as_it_stands.new.lines.items ≡ text))
    (texts-behind c.print_undone.new.lines.items unread standing c.print_if-3.new.lines.items c.in_ok-print_if-3.ensures.line
    ∙ texts-behind c.print_if-2.new.lines.items undone (unread ++ standing) c.print_undone.new.lines.items c.in_ok-print_undone.ensures.line
    ∙ texts-behind c.print_if.new.lines.items nothing (undone ++ (unread ++ standing)) c.print_if-2.new.lines.items c.in_ok-print_if-2.ensures.line
    ∙ texts-behind start covered (nothing ++ (undone ++ (unread ++ standing))) c.print_if.new.lines.items c.in_ok-print_if.ensures.line)
    c.print_as_it_stands.ensures.line

pub returns-clause-reads : goal.returns-clause-reads
returns-clause-reads c =
    let f = c.args.finding.now in
    on_ok_weaker c.print_as_it_stands.result
    (λ (last : IfSome c.args.unread (λ why. IsRead (f.grant, stands why))). each_is_read f c.args.unread c.in_ok-print_if.ensures.reads c.in_ok-print_if-2.ensures.reads c.in_ok-print_undone.ensures.reads c.in_ok-print_if-3.ensures.reads last)
    c.print_as_it_stands.ensures.reads
