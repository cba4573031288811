use Rattle.cli_queries.proofs.file_systems.given_in.Goals as goal

pub returns-in-Who : goal.returns-in-Who
returns-in-Who c = rw c.in-Who.is c.given_value.ensures

pub returns-in-Audit : goal.returns-in-Audit
returns-in-Audit c = rw c.in-Audit.is c.given_value-in-Audit.ensures
