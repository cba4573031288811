use Rattle.std.proofs.Common.{◌≡◌, false, take}
use Rattle.std.specs.List.{list_any}
use Rattle.capgrant.specs.Verdict.{allows}
use Rattle.capffi.specs.Blocks.{grants_in}
use Rattle.capffi.proofs.Entries.{rest_of}
use Rattle.capffi.proofs.judging.Case.first_allowing.Given as goal

abbrev pub invariant-loop-place : goal.invariant-loop-place
invariant-loop-place l = (l.rest ≡ rest_of (take l.place l.entries) l.text) × (list_any (allows l.self) (grants_in (take l.place l.entries) l.text) ≡ false)
