use Rattle.std.proofs.Common.{◌≡◌, ℕ, List, ◌++◌, length}
use Rattle.std.specs.Io.KnownBytes.{Appends}
use Rattle.cli_queries.proofs.file_systems.write_front.Given as goal

-- the writer took what stands before the rest
abbrev pub invariant-loop-rest : goal.invariant-loop-rest
invariant-loop-rest g l = (taken : List ℕ) × (l.text ≡ taken ++ l.rest) × Appends (g.F.Write.contents l.fn.faults) (g.F.Write.contents l.faults) taken

abbrev pub decreases-loop-rest : goal.decreases-loop-rest
decreases-loop-rest g l = length l.rest
