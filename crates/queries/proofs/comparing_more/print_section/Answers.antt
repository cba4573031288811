use Rattle.std.proofs.Common.{Result, Ok, Err}
use Rattle.std.specs.Prelude.{OnOk}
use Rattle.std.proofs.lemmas.Result.{on_ok_weaker}
use Rattle.queries.proofs.Sections.{told_changes, told_fault}
use Rattle.queries.proofs.comparing_more.print_section.Goals as goal

by_both : {T E P Q R : Type 0} (r : Result T E) → (P → Q → R) → OnOk r P → OnOk r Q → OnOk r R
by_both (Ok x) from p q = from p q
by_both (Err e) from p q = tt

pub returns-in_ok-changes-in-Ok : goal.returns-in_ok-changes-in-Ok
returns-in_ok-changes-in-Ok c =
    on_ok_weaker c.print_changes.result
    (told_changes c.args.own c.args.release c.args.old.now c.args.new.now c.args.lines.now.items c.print_changes.new.lines.items c.in-Ok.both.before c.in-Ok.both.after c.in_ok-changes-in-Ok.changes c.in-Ok.ensures.ok c.in_ok-changes-in-Ok.ensures)
    c.print_changes.ensures

pub returns-in-Err : goal.returns-in-Err
returns-in-Err c =
    by_both c.print_fault.result
    (λ some is. told_fault c.args.own c.args.release c.args.old.now c.args.new.now c.args.lines.now.items c.print_fault.new.lines.items c.in-Err.fault some c.in-Err.ensures.err is)
    c.print_fault.ensures.some c.print_fault.ensures.text
