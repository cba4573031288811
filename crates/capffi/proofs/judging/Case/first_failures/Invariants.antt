use Rattle.std.proofs.Common.{◌≡◌, ◌≤◌, length, take}
use Rattle.capgrant.specs.Verdict.{first_failures}
use Rattle.capffi.specs.Blocks.{grants_in}
use Rattle.capffi.proofs.Entries.{rest_of}
use Rattle.capffi.proofs.judging.Case.first_failures.Given as goal

abbrev pub invariant-loop-entry : goal.invariant-loop-entry
invariant-loop-entry l =
    (l.rest ≡ rest_of (take l.entry-index l.entries) l.text) × (l.rules.items ≡ first_failures l.self (grants_in (take l.entry-index l.entries) l.text)) × (length l.rules.items ≤ l.entry-index)
