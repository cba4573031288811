use Rattle.std.proofs.Common.{◌≡◌, ◌∙◌}
use Rattle.std.proofs.lemmas.Result.{IfOk-weaker}
use Rattle.cli_queries.specs.FileSystems.{given_in, named_by, note_of, unnamed_line}
use Rattle.cli_queries.proofs.FileSystems.{named_note, no_note, unnamed_note}
use Rattle.cli_queries.proofs.file_systems.note_of.Goals as goal

pub returns-in_default : goal.returns-in_default
returns-in_default c = c.new.ensures.items ∙ no_note (named_by c.args.invocation.now) (given_in c.args.invocation.now) (rw c.in_default.is at c.given_in.ensures)

pub returns-then-is_unnamed : goal.returns-then-is_unnamed
returns-then-is_unnamed c =
    let names = named_by c.args.invocation.now in
    let given = given_in c.args.invocation.now in
    let named = c.named_by-named.result.now in
    IfOk-weaker c.names_line.result (λ line. line.items ≡ unnamed_line named) (λ line. line.items ≡ note_of names given)
    (λ line is. unnamed_note names named c.in-Some.fs.now c.is_unnamed.result c.named_by-named.ensures c.is_unnamed.ensures given line.items c.in-Some.ensures c.if-is_unnamed.true is) c.names_line.ensures

pub returns : goal.returns
returns c =
    c.new-2.ensures.items ∙ named_note (named_by c.args.invocation.now) c.named_by-named.result.now c.in-Some.fs.now c.is_unnamed.result c.named_by-named.ensures c.is_unnamed.ensures (given_in c.args.invocation.now) c.in-Some.ensures c.if-is_unnamed.false
