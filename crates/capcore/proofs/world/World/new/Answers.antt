use Rattle.std.proofs.Common.{◌≡◌, None, ap, refl, rules}
use Rattle.capcore.proofs.Common.{HasRoom, Holder, IsOpening, State, Table, entry_at}
use Rattle.capcore.proofs.Counts.{opening-counted}
use Rattle.capcore.proofs.Sounding.{opening-sound}
use Rattle.capcore.proofs.world.World.new.Goals as goal

pub invariant_of-result : goal.invariant_of-result
invariant_of-result c =
    let s : State = record {
      scene = record { fs = c.args.fs; tree = c.args.tree; sessions = c.in-Ok-Ok.sessions; table = c.in-Ok-Ok.table.entries; locks = c.in_ok-locks.locks.locks };
      messages = c.new-3.result.items;
    } in
    let opening : IsOpening c.args.fs c.args.tree s = search rules in
    let room : HasRoom c.new-3.result c.in_ok-locks.locks.locks = search rules in
    let none : (k : Holder) → entry_at c.in-Ok-Ok.table.entries k ≡ None = λ k. ap (λ (t : Table). entry_at t k) opening.table_is in
    (opening-sound c.args.fs c.args.tree s c.requires.strays opening, room, (λ k e there. let gone = none k in absurd (cc), λ k e there. let gone = none k in absurd (cc)), opening-counted c.args.fs c.args.tree s opening c.in-Ok-Ok.table.entries c.in_ok-locks.locks refl)
