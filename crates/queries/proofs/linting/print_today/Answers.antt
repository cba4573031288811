use Rattle.std.proofs.Common.{rules, refl}
use Rattle.std.proofs.lemmas.Result.{on_ok_weaker}
use Rattle.queries.proofs.Looked.{today_read, today_unread}
use Rattle.queries.proofs.linting.print_today.Goals as goal

pub returns-in-Ok : goal.returns-in-Ok
returns-in-Ok c =
    on_ok_weaker c.print_by_releases.result
    (λ added. today_read c.args.text.now c.args.shape c.args.lines.now.items c.print_by_releases.new.lines.items c.in-Ok.grants (search rules) (search rules))
    c.print_by_releases.ensures

pub returns-in-Err : goal.returns-in-Err
returns-in-Err c = today_unread c.args.text.now c.args.shape c.args.lines.now.items c.args.lines.now.items c.in-Err.field-0 (search rules) refl
