use Rattle.capspec.proofs.Granting.{HasGrants}
use Rattle.capspec.proofs.reading.read_grants.Given as goal

abbrev pub invariant-loop : goal.invariant-loop
invariant-loop l = HasGrants l.text l.rest l.counter l.grants
