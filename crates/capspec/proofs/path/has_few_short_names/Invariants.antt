use Rattle.std.proofs.Common.{◌≡◌, ◌-◌}
use Rattle.capspec.specs.Paths.{names_of}
use Rattle.capspec.proofs.Paths.{fits}
use Rattle.capspec.proofs.path.has_few_short_names.Given as goal

abbrev pub invariant-loop : goal.invariant-loop
invariant-loop l = fits (32 - l.counter) (names_of l.rest) ≡ fits 32 (names_of l.text)
