use Rattle.std.proofs.Common.{◌≡◌, ap, subst, sym, ◌∙◌, IsSome, unwrap_or, ℕ}
use Rattle.std.specs.FinMap as map
use Rattle.std.specs.FinMap.{FinMap}
use Rattle.std.specs.Ordering.{nat_cmp}
use Rattle.capbits.specs.Rows.{with_new}
use Rattle.capstep.specs.Numbers.{count_of}
use Rattle.capstep.proofs.Numbered.{room-counts, room_there}
use Rattle.step_acts.proofs.history.count_with_room.Goals.{After-unwrap_or}
use Rattle.step_acts.proofs.history.count_with_room.Goals as goal

added : (c : After-unwrap_or) → c.add.new.self ≡ with_new c.args.counts.now c.args.pass.0 0
added c = c.in_ok-add.ensures.ok ∙ ap (λ n. with_new c.args.counts.now n 0) c.from-number.ensures

pub returns-clause-counts : goal.returns-clause-counts
returns-clause-counts c = λ of. ap (λ (m : FinMap nat_cmp ℕ). count_of m of) (added c) ∙ room-counts c.args.counts.now c.args.pass.0 of

pub returns-clause-room : goal.returns-clause-room
returns-clause-room c = subst (λ (m : FinMap nat_cmp ℕ). IsSome (map.get m c.args.pass.0)) (sym (added c)) (room_there c.args.counts.now c.args.pass.0)

pub returns-clause-count : goal.returns-clause-count
returns-clause-count c =
    c.unwrap_or.ensures ∙ ap (λ o. unwrap_or o 0) (c.copied.ensures ∙ c.get.ensures ∙ ap (map.get c.add.new.self) c.from-number.ensures)
    ∙ ap (λ (m : FinMap nat_cmp ℕ). count_of m c.args.pass) (added c) ∙ room-counts c.args.counts.now c.args.pass.0 c.args.pass
