use Rattle.std.proofs.Common.{◌≡◌, ◌<◌, ◌+◌, ℕ, Bool, List, Some, false, refl, sym, subst, ◌∙◌, arith}
use Rattle.std.proofs.lemmas.Bool.{eqb-true}
use Rattle.std.specs.FinMap as map
use Rattle.std.specs.FinSet as set
use Rattle.lockmachine.proofs.Ending.{ends-little}
use Rattle.capcore.proofs.CommonPieces.{AreCounted, IsNext, Nodes, Part, SessionTable, WaitAt, may_end_by, scene}
use Rattle.capcore.proofs.CountsStay.{counted-at}
use Rattle.capcore.proofs.Sweeping.{ends-passed, fewer_behind, same-elsewhere, swept-begins, swept-on}
use Rattle.capcore.proofs.settle.end_gathers.Goals.{After-end_gathers_at}
use Rattle.capcore.specs.Sweep.{IsSwept}
use Rattle.capcore.proofs.settle.end_gathers.Goals as goal

pub returns-then-is_single-clause-ends : goal.returns-then-is_single-clause-ends
returns-then-is_single-clause-ends c many = absurd (many (eqb-true (set.len c.args.affected.now) 1 (sym c.is_single.ensures ∙ c.if-is_single.true)))

pub returns-then-is_single-clause-swept : goal.returns-then-is_single-clause-swept
returns-then-is_single-clause-swept c = λ fs tree sessions waits. swept-begins (set.contains c.args.affected.now) (scene fs tree sessions c.args.table.now.entries c.args.locks.now.locks) waits

pub inodes-init : goal.inodes-init
inodes-init c = let least = c.first-at.ensures in record {
  swept = λ fs tree sessions waits. swept-begins (set.contains c.args.affected.now) (scene fs tree sessions c.args.table.now.entries c.args.locks.now.locks) waits;
  same = λ other off. refl;
  counted = c.requires.counted;
  lower = λ other part below. c.requires.elsewhere other part (least.least other (omega arith) below);
  here = least.has;
}

module _ (c : After-end_gathers_at) where
  abbrev at : ℕ → Bool
  at = set.contains c.args.affected.now

  swept : (fs : List ℕ) (tree : Nodes) (sessions : SessionTable) → WaitAt at (scene fs tree sessions c.args.table.now.entries c.args.locks.now.locks)
      → IsSwept at (scene fs tree sessions c.args.table.now.entries c.args.locks.now.locks) (scene fs tree sessions c.args.table.now.entries c.end_gathers_at.new.self.locks)
  swept fs tree sessions waits =
      let now = scene fs tree sessions c.args.table.now.entries c.inodes.locks.locks in
      swept-on at (scene fs tree sessions c.args.table.now.entries c.args.locks.now.locks) now (c.inodes.invariant.swept fs tree sessions waits) c.inodes.at.0 c.inodes.invariant.here
      c.end_gathers_at.new.self.locks (ends-little now (scene fs tree sessions c.args.table.now.entries c.end_gathers_at.new.self.locks) (c.end_gathers_at.ensures.ends fs tree sessions c.args.table.now.entries (c.inodes.invariant.counted c.inodes.at.0) c.inodes.invariant.lower)) c.end_gathers_at.ensures.elsewhere

  same : (other : ℕ) → at other ≡ false → map.get c.end_gathers_at.new.self.locks.states other ≡ map.get c.args.locks.now.locks.states other
  same other off =
      same-elsewhere at c.inodes.locks.locks c.end_gathers_at.new.self.locks c.inodes.at.0 c.inodes.invariant.here c.end_gathers_at.ensures.elsewhere other off
      ∙ c.inodes.invariant.same other off

  passed : (other : ℕ) (part : Part) → (c.inodes.at.0 < other → at other ≡ false) → may_end_by c.args.table.now.entries c.end_gathers_at.new.self.locks (other, part) ≡ false
  passed =
      ends-passed at c.args.table.now.entries c.args.locks.now.locks c.inodes.locks.locks c.end_gathers_at.new.self.locks c.inodes.at.0 c.requires.elsewhere same c.inodes.invariant.lower
      c.end_gathers_at.ensures.elsewhere (c.end_gathers_at.ensures.done c.args.table.now.entries (c.inodes.invariant.counted c.inodes.at.0) c.inodes.invariant.lower)

  counted : AreCounted c.args.table.now.entries c.end_gathers_at.new.self
  counted = counted-at c.args.table.now.entries c.inodes.locks c.end_gathers_at.new.self c.inodes.at.0 c.end_gathers_at.ensures.counts c.end_gathers_at.ensures.elsewhere
      (c.end_gathers_at.ensures.counted c.args.table.now.entries (c.inodes.invariant.counted c.inodes.at.0)) c.inodes.invariant.counted

pub inodes-smaller : goal.inodes-smaller
inodes-smaller c =
    fewer_behind c.args.affected.now c.inodes.at.0 c.in-Some.next (subst (IsNext c.args.affected.now (c.inodes.at.0 + 1)) c.in-Some.is c.after.ensures)

pub inodes-preserved : goal.inodes-preserved
inodes-preserved c =
    let here = (goal.at.inodes-preserved c).After-end_gathers_at in
    let next : IsNext c.args.affected.now (c.inodes.at.0 + 1) (Some c.in-Some.next) = subst (IsNext c.args.affected.now (c.inodes.at.0 + 1)) c.in-Some.is c.after.ensures in
    record {
      swept = swept here;
      counted = counted here;
      same = same here;
      lower = λ other part below. passed here other part (λ above. next.least other (omega (arith, above)) below);
      here = next.has;
    }

pub returns-in_default-clause-ends : goal.returns-in_default-clause-ends
returns-in_default-clause-ends c =
    let here = (goal.at.returns-in_default-clause-ends c).After-end_gathers_at in
    let beyond = subst (IsNext c.args.affected.now (c.inodes.at.0 + 1)) c.in_default.is c.after.ensures in
    λ many other part. passed here other part (λ above. beyond other (omega (arith, above)))

pub returns-in_default-clause-counted : goal.returns-in_default-clause-counted
returns-in_default-clause-counted c = counted (goal.at.returns-in_default-clause-counted c).After-end_gathers_at

pub returns-in_default-clause-swept : goal.returns-in_default-clause-swept
returns-in_default-clause-swept c = swept (goal.at.returns-in_default-clause-swept c).After-end_gathers_at
