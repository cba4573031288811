use Rattle.std.proofs.Common.{◌≡◌, ◌==◌, ◌+◌, ◌*◌, ◌≤◌, drop}
use Rattle.std.specs.Prelude.{count_by}
use Rattle.capspec.specs.Paths.{has_double_slash}
use Rattle.capffi.proofs.plain.count_lone_slashes.Given as goal

abbrev pub invariant-loop-piece : goal.invariant-loop-piece
invariant-loop-piece l =
    (has_double_slash (drop (63 * l.piece) l.path) ≡ has_double_slash l.path)
    × (count_by (λ b. b == 47) l.path ≤ l.count + count_by (λ b. b == 47) (drop (63 * l.piece) l.path))
    × (l.count ≤ 64 * l.piece)
