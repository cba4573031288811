use Rattle.std.proofs.Common.{◌≡◌, ◌+◌, ◌-◌, ◌*◌, ◌≤◌, ℕ, List, length, drop, false, sym, ap, ◌∙◌, arith}
use Rattle.std.proofs.lemmas.Bool.{or_from}
use Rattle.capspec.specs.Paths.{has_double_slash}
use Rattle.capspec.proofs.OneText.{no_pair}
use Rattle.capffi.proofs.Slashes.{before, counted_twice}
use Rattle.capffi.proofs.plain.count_lone_slashes.Goals as goal

pub returns : goal.returns
returns c =
    let path : List ℕ = c.args.path.now in
    let last : ℕ = length path - 64 in
    let end : last + 63 ≡ length path - 1 = omega (arith, c.requires) in
    let none : has_double_slash (drop (last + 63) path) ≡ false = ap (λ (m : ℕ). has_double_slash (drop m path)) end ∙ no_pair path (length path) (omega arith) in
    let passed_by : last ≤ 63 * c.loop-piece.piece = omega (arith, c.loop-piece-test.false, c.requires) in
    let ends : length path ≤ last + 64 = omega arith in
    let lone : has_double_slash (drop last path) ≡ false = sym c.look_from-is_found-2.ensures.lone ∙ or_from c.look_from-is_found-2.result.0 (has_double_slash (drop (last + 63) path)) c.if-is_found-2.false none in (
      sym (before last (63 * c.loop-piece.piece) path passed_by c.loop-piece.invariant.0) ∙ lone,
      counted_twice path (63 * c.loop-piece.piece) last c.loop-piece.count c.look_from-is_found-2.result.1 passed_by ends c.loop-piece.invariant.1 c.look_from-is_found-2.ensures.count,
    )
