use Rattle.std.proofs.Common.{inl}
use Rattle.texts.specs.Watched.{inner_of}
use Rattle.cli.proofs.Done.{noted}
use Rattle.cli.proofs.commands.carry_out.Goals as goal

pub returns-in-Ok : goal.returns-in-Ok
returns-in-Ok g c =
    let does = c.in-Ok.ensures in inl (
      does.status,
      does.ok.0,
      does.ok.1,
      noted c.args.invocation.now c.answer.new.invocation (g.R.Read.remaining (inner_of c.args.reader.now)) (g.F.Write.contents c.args.faults.now) (g.F.Write.contents c.note.new.faults) does.names c.note.ensures.front,
      does.ok.2,
    )
