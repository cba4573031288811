use Rattle.std.proofs.Common.{inl, refl, sym, ◌∙◌}
use Rattle.cli_queries.proofs.file_systems.fs_asked.Goals as goal

pub returns-in-Some-clause-ok : goal.returns-in-Some-clause-ok
returns-in-Some-clause-ok c = sym c.in_ok-fs.ensures ∙ c.in-Some.is

pub returns-in-None-clause-err : goal.returns-in-None-clause-err
returns-in-None-clause-err c = inl (refl, sym c.in_ok-fs.ensures ∙ c.in-None.is)
