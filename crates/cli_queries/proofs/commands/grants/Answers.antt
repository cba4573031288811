use Rattle.cli_queries.proofs.commands.grants.Goals as goal

pub returns-in-Some-clause-form : goal.returns-in-Some-clause-form
returns-in-Some-clause-form g c = rw c.in-Some.is c.write_mds_form.ensures.form

pub returns-in-Some-clause-fault : goal.returns-in-Some-clause-fault
returns-in-Some-clause-fault g c = rw c.in-Some.is c.write_mds_form.ensures.fault

pub returns-in-None-clause-form : goal.returns-in-None-clause-form
returns-in-None-clause-form g c = rw c.in-None.is c.write_form.ensures.form

pub returns-in-None-clause-fault : goal.returns-in-None-clause-fault
returns-in-None-clause-fault g c = rw c.in-None.is c.write_form.ensures.fault
