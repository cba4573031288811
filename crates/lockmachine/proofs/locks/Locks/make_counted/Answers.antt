use Rattle.std.proofs.Common.{◌≡◌, ◌∙◌, refl, sym, ap, subst}
use Rattle.captable.specs.Table.{Table}
use Rattle.lockmachine.specs.declared.moves.Move.{Move}
use Rattle.lockmachine.specs.declared.moves.Move.TheVariants.{Begin, End, Serve, Settled}
use Rattle.lockmachine.specs.Counts.{AreCounted, CountedLocks, with_count}
use Rattle.lockmachine.specs.Inodes.{HaveCounts}
use Rattle.lockmachine.specs.Locks.{lock_at}
use Rattle.lockmachine.specs.Moves.{begun_locks, coming_state, moved, present_state}
use Rattle.lockmachine.proofs.Counted.{counted-begun, counted-stable}
use Rattle.lockmachine.proofs.locks.Locks.make_counted.Goals as goal

-- a move that begins no gather
others : (table : Table) (l : CountedLocks) (step : Move) → ((ino : _) (part : _) (to : _) → step ≡ Begin ino part to → ⊥) → AreCounted table l → AreCounted table (record l { locks = moved l.locks step })
others table l (Begin ino part to) off are = absurd (off ino part to refl)
others table l (End ino part) off are = counted-stable table l ino.0 part (coming_state (lock_at l.locks ino.0 part)) are
others table l (Serve ticket) off are = are
others table l Settled off are = are

pub returns-in-Begin-clause-counted : goal.returns-in-Begin-clause-counted
returns-in-Begin-clause-counted c = λ are.
    let now = c.args.self.now in
    let ino = c.in-Begin.ino in
    let made : c.make.new.self ≡ record now { locks = begun_locks now.locks ino.0 c.in-Begin.part c.in-Begin.to } =
    c.make.ensures ∙ ap (λ (step : Move). record now { locks = moved now.locks step }) c.in-Begin.is in
    subst (AreCounted c.args.table.now.entries) (sym (c.await_acks.ensures.set ∙ ap (λ (l : CountedLocks). with_count l ino.0 c.in-Begin.part c.holders_outside.result) made))
    (counted-begun c.args.table.now.entries now ino.0 c.in-Begin.part (present_state (lock_at now.locks ino.0 c.in-Begin.part)) c.in-Begin.to c.holders_outside.result
    (subst (λ (l : CountedLocks). HaveCounts l.locks.states l.counts) made c.await_acks.ensures.had) c.holders_outside.ensures are)

pub returns-in_default-clause-counted : goal.returns-in_default-clause-counted
returns-in_default-clause-counted c = λ are.
    subst (AreCounted c.args.table.now.entries) (sym c.make.ensures) (others c.args.table.now.entries c.args.self.now c.args.step c.in_default.not-Begin are)

pub returns-in-Begin-clause-locks : goal.returns-in-Begin-clause-locks
returns-in-Begin-clause-locks c = ap (λ (l : CountedLocks). l.locks) (c.await_acks.ensures.set) ∙ ap (λ (l : CountedLocks). l.locks) c.make.ensures

pub returns-in_default-clause-locks : goal.returns-in_default-clause-locks
returns-in_default-clause-locks c = ap (λ (l : CountedLocks). l.locks) c.make.ensures
