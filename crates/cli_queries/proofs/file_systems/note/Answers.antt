use Rattle.std.proofs.Common.{ℕ, List, [], refl, subst, ◌∙◌}
use Rattle.std.specs.Prelude.{OnOk}
use Rattle.std.specs.Io.KnownBytes.{Appends}
use Rattle.texts.proofs.KnownBytes.{none_appended}
use Rattle.cli_queries.specs.FileSystems.{AppendsFront, given_in, named_by, note_of}
use Rattle.cli_queries.proofs.file_systems.note.Goals as goal

pub returns-in_err-line-clause-front : goal.returns-in_err-line-clause-front
returns-in_err-line-clause-front g c = ([], note_of (named_by c.args.invocation.now) (given_in c.args.invocation.now), refl, none_appended (g.F.Write.contents c.args.faults.now))

pub returns-clause-ok : goal.returns-clause-ok
returns-clause-ok g c =
    subst (λ (text : List ℕ). OnOk c.write_front.result (Appends (g.F.Write.contents c.args.faults.now) (g.F.Write.contents c.write_front.new.faults) text)) (c.as_slice.ensures.value ∙ c.in_ok-line.ensures) c.write_front.ensures.ok

pub returns-clause-front : goal.returns-clause-front
returns-clause-front g c =
    subst (AppendsFront (g.F.Write.contents c.args.faults.now) (g.F.Write.contents c.write_front.new.faults)) (c.as_slice.ensures.value ∙ c.in_ok-line.ensures) c.write_front.ensures.front
