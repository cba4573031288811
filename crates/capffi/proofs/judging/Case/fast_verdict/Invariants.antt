use Rattle.std.proofs.Common.{◌≡◌, ℕ, List, false, take}
use Rattle.std.specs.List.{list_any}
use Rattle.capgrant.specs.Verdict.{allows, first_failures}
use Rattle.capffi.specs.Answering.{rule_numbers}
use Rattle.capffi.specs.Blocks.{grants_in}
use Rattle.capffi.specs.ByBlock.{with_groups}
use Rattle.capffi.proofs.Entries.{rest_of}
use Rattle.capffi.proofs.judging.Case.fast_verdict.Given as goal

abbrev pub invariant-loop-place : goal.invariant-loop-place
invariant-loop-place l =
    (l.rest ≡ rest_of (take l.place l.entries) l.text)
    × ((groups : List ℕ) → list_any (allows (with_groups l.self groups)) (grants_in (take l.place l.entries) l.text) ≡ false)
    × ((groups : List ℕ) → l.rules ≡ rule_numbers (first_failures (with_groups l.self groups) (grants_in (take l.place l.entries) l.text)))
