use Rattle.std.proofs.Common.{◌+◌, ◌-◌, ◌≤◌, ◌∷◌, ℕ, suc, length, arith}
use Rattle.capffi.proofs.Slashes.{at_ends, counted_twice}
use Rattle.capffi.proofs.plain.look_at_ends.Goals as goal

pub returns : goal.returns
returns c =
    let place : ℕ = length c.args.path.now - 64 in
    let before : place ≤ 0 + 63 = omega (arith, c.requires.few) in
    let ends : length c.args.path.now ≤ place + 64 = omega arith in
    let span : suc place ≤ suc (0 + 63) = omega (arith, before) in
    let end : length (47 ∷ c.args.path.now) ≤ suc (place + 63) + 1 = omega (arith, ends) in record {
      lone = at_ends (47 ∷ c.args.path.now) c.look_from-in_front.result.0 c.look_from-at_back.result.0 (suc place) (suc (0 + 63)) (suc (place + 63)) span end c.look_from-in_front.ensures.lone c.look_from-at_back.ensures.lone;
      count = counted_twice c.args.path.now (0 + 63) place c.look_from-in_front.result.1 c.look_from-at_back.result.1 before ends c.look_from-in_front.ensures.count c.look_from-at_back.ensures.count;
    }
