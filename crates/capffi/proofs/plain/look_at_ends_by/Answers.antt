use Rattle.std.proofs.Common.{◌+◌, ◌-◌, ◌≤◌, ◌∷◌, ℕ, suc, length, arith}
use Rattle.capffi.proofs.Slashes.{at_ends}
use Rattle.capffi.proofs.plain.look_at_ends_by.Goals as goal

pub returns : goal.returns
returns g c =
    let size : ℕ = g.row.PIECE in
    let place : ℕ = length c.args.path.now - size in
    let span : suc place ≤ suc (0 + (size - 1)) = omega (arith, c.requires.few) in
    let end : length (47 ∷ c.args.path.now) ≤ suc (place + (size - 1)) + 1 = omega (arith, c.requires.more, c.requires.few) in
    at_ends (47 ∷ c.args.path.now) c.look_by-in_front.result c.look_by.result (suc place) (suc (0 + (size - 1))) (suc (place + (size - 1))) span end c.look_by-in_front.ensures c.look_by.ensures
