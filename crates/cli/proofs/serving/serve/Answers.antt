use Rattle.std.proofs.Common.{◌≡◌, ℕ, refl, inl, inr}
use Rattle.std.specs.Prelude.{◌⊎◌, Err}
use Rattle.texts.specs.Watched.{inner_of}
use Rattle.texts.specs.declared.fault.ScriptFault.TheVariants as stops
use Rattle.cli.proofs.Writing.{unread_written, whole_written}
use Rattle.cli.proofs.serving.serve.Goals as goal

pub returns-in-Ok-clause-written : goal.returns-in-Ok-clause-written
returns-in-Ok-clause-written g c =
    whole_written _ (g.R.Read.remaining (inner_of c.args.reader.now)) (g.R.Read.remaining (inner_of c.read_script.new.reader)) (g.W.Write.contents (inner_of c.args.writer.now)) (g.W.Write.contents (inner_of c.serve_whole.new.writer))
    c.in-Ok.script.items c.serve_whole.result c.in-Ok.ensures.ok c.in-Ok.ensures.end c.serve_whole.ensures.written

pub returns-in-Err-clause-written : goal.returns-in-Err-clause-written
returns-in-Err-clause-written g c =
    let why : (c.in-Err.fault ≡ stops.ReadFault) ⊎ (c.in-Err.fault ≡ stops.NoMemory) = elim c.in-Err.ensures.err [ inl is ↦ inl cc | inr is ↦ inr cc ] in
    unread_written ℕ (g.R.Read.remaining (inner_of c.args.reader.now)) (g.W.Write.contents (inner_of c.args.writer.now)) c.in-Err.fault why
