use Rattle.queries.specs.Attempts.{wanted_by}
use Rattle.queries.specs.Clients.{SaysFor}
use Rattle.queries.proofs.ClientLines.{IsBegun}
use Rattle.queries.proofs.clients.who_lines.Given as goal

abbrev pub invariant-loop-entity : goal.invariant-loop-entity
invariant-loop-entity l = IsBegun (SaysFor l.telling (wanted_by l.attempt l.fs) l.attempt.attr l.mds) l.entities l.entity-index l.judges_all l.lines.items
