use Rattle.std.proofs.Common.{◌-◌, List, refl, sym, ap, subst, ◌∙◌}
use Rattle.lockmachine.specs.Counts.{IsCounted, count_of, given_up}
use Rattle.lockmachine.specs.Locks.{LockMap, lock_at}
use Rattle.captable.specs.Calls.{without_client}
use Rattle.step_acts.proofs.Common.{Caps, EntryRow, no_caps}
use Rattle.step_acts.proofs.GivenUp.{IsLeft, left-all, left-less, left-none}
use Rattle.step_acts.proofs.session_end.give_up_all.Goals as goal

pub rows-init : goal.rows-init
rows-init c = record {
  locks = refl;
  left = λ counted at.
      subst (λ (rows : List EntryRow). IsLeft c.args.table.now.entries c.args.client rows at (count_of c.args.locks.now at) (lock_at c.args.locks.now.locks at.0 at.1)) (sym c.entries_of-walk.ensures.rows)
      (left-all c.args.table.now.entries c.args.client at (count_of c.args.locks.now at) (lock_at c.args.locks.now.locks at.0 at.1) (counted at.0 at.1));
}

pub rows-preserved : goal.rows-preserved
rows-preserved c = record {
  locks = c.gives_up.ensures.locks ∙ c.rows.invariant.locks;
  left = λ counted at.
      let was = count_of c.rows.locks at in
      left-less c.args.table.now.entries c.args.client c.in-Some.row c.next.new.self at was (count_of c.gives_up.new.self at) (lock_at c.args.locks.now.locks at.0 at.1)
      (c.gives_up.ensures.counts at ∙ ap (λ (caps : Caps). was - given_up c.in-Some.row caps at (lock_at c.rows.locks.locks at.0 at.1)) c.empty.ensures
      ∙ ap (λ (l : LockMap). was - given_up c.in-Some.row no_caps at (lock_at l at.0 at.1)) c.rows.invariant.locks)
      (subst (λ (rows : List EntryRow). IsLeft c.args.table.now.entries c.args.client rows at was (lock_at c.args.locks.now.locks at.0 at.1)) c.in-Some.ensures.some (c.rows.invariant.left counted at));
}

pub returns : goal.returns
returns c = record {
  counted = λ counted ino part.
      subst (λ (l : LockMap). IsCounted (without_client c.args.table.now.entries c.args.client) (ino, part) (count_of c.rows.locks (ino, part)) (lock_at l ino part)) (sym c.rows.invariant.locks)
      (left-none c.args.table.now.entries c.args.client c.rows.walk (ino, part) (count_of c.rows.locks (ino, part)) (lock_at c.args.locks.now.locks ino part) c.in_default.ensures.none.0 (c.rows.invariant.left counted (ino, part)));
  locks = c.rows.invariant.locks;
}
