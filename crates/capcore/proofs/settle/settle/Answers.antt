use Rattle.std.proofs.Common.{◌≡◌, ◌<◌, ◌≤◌, ◌+◌, ◌++◌, ◌∷◌, [], ℕ, Bool, true, false, cond, ◌&&◌, length, List, Option, Some, None, Contains, refl, sym, ap}
use Rattle.std.proofs.Common.{subst, ◌∙◌, arith, inl, inr}
use Rattle.std.proofs.lemmas.List.{length-append}
use Rattle.std.specs.List.{filter_map}
use Rattle.std.specs.FinSet as set
use Rattle.step_acts.proofs.Walked.{none-walked}
use Rattle.capstep.specs.Settle.{is_done, sets_size}
use Rattle.capcore.proofs.CommonPieces.{AreWalked, Covers, Ended, Ino, InoSet, IsLockMap, IsTree, IsWidenedBy, KeptScene, LeadOn, Nodes, Outcome, Request}
use Rattle.capcore.proofs.CommonPieces.{Scene, Serve, Served, Table, ends_not, first_move, known_of, leads-none, leads-then, lock_at, plain, request_at}
use Rattle.capcore.proofs.CommonPieces.{served-at, sized_in, tree_after}
use Rattle.capcore.proofs.Judged.{none-judged, still-judged}
use Rattle.capcore.proofs.Moved.{moved-all, tree-moved}
use Rattle.capcore.proofs.OneChange.{within-after}
use Rattle.capcore.proofs.SoFar.{GoesOnBehind, IsSoFar, cursor-at_first, so-far-begins, so-far-served, so-far-settled, so-far-swept, stands-behind}
use Rattle.capcore.proofs.SoFar.{stands-first}
use Rattle.capcore.proofs.settle.settle.Goals.{After-serve_next-changed, In-Some}
use Rattle.capcore.proofs.settle.settle.Invariants.{invariant-servings}
use Rattle.capcore.specs.Begun.{ArePermittedIn}
use Rattle.capcore.specs.Judged.{IsJudged}
use Rattle.capcore.specs.Serves.{Serves}
use Rattle.capcore.specs.Sweep.{GoesOn, IsSwept}
use Rattle.capcore.specs.declared.settle.SweepPlace.{SweepPlace}
use Rattle.capcore.proofs.settle.settle.Goals as goal

-- What a rename walked over in a step is affected until its end.

-- when a request was served, what was walked over is affected still: the serving left the tree, or moved nothing but what is affected
walked-served : (tree after : Nodes) (q : Request) (o : Outcome) (table : Table) (walked was affected : InoSet) → after ≡ tree_after tree q o
    → IsWidenedBy q tree after table was affected → AreWalked walked tree table affected → AreWalked walked after table affected
walked-served tree after q o table walked was affected is widened all = elim widened.covers [
  | inl same ↦ subst (λ (t : Nodes). AreWalked walked t table affected) (sym same) all
  | inr covers ↦ subst (λ (t : Nodes). AreWalked walked t table affected) (sym is) (by_move covers)
]
  where
    by_move : Covers q tree table affected → AreWalked walked (tree_after tree q o) table affected
    by_move covers above there row among below = elim (within-after tree q o row.holder.ino.0 above below) [
      | inl lay ↦ all above there row among lay
      | inr moved ↦ covers moved.0 row among moved.1
    ]

pub end_gathers-requires : goal.end_gathers-requires
end_gathers-requires c =
    let first : Scene = plain c.args.scene.now in
    record { counted = c.requires.counted; elsewhere = λ other part off. ends_not first (other, part) (lock_at first.locks other part) (c.requires.settles.resting.each_other other part off) }

pub servings-init : goal.servings-init
servings-init c =
    let first : Scene = plain c.args.scene.now in
    let now : Scene = record (plain c.args.scene.now) { locks = c.end_gathers.new.locks.locks } in
    let at : ℕ → Bool = set.contains c.args.affected.now in
    let begun = so-far-begins c.args.affected.now first c.requires.settles.resting in
    let swept : IsSwept at first now = c.end_gathers.ensures.swept first.fs first.tree first.sessions begun.waits in
    let so : IsSoFar at c.args.affected.now first now [] [] = so-far-swept at c.args.affected.now first first [] [] begun now swept in
    let queue : length c.end_gathers.new.locks.locks.queue ≡ length c.args.scene.now.locks.locks.queue = ap length swept.queue in
    let room = c.requires.room in
    record {
      so_far =
          subst (λ (ended_now : List Ended). IsSoFar at c.args.affected.now first now ended_now c.args.output.now.sized.items) (sym c.requires.room.given)
          (subst (IsSoFar at c.args.affected.now first now []) (sym c.requires.room.sized) so);
      stands = stands-first c.args.affected.now now c.first-place.result (cursor-at_first c.args.affected.now now so.still c.end_gathers.ensures.ends) so.waits c.first-place.ensures;
      walked = none-walked c.new-walked.result c.args.scene.now.tree c.args.scene.now.table.entries c.args.affected.now c.new-walked.ensures;
      judged = still-judged c.args.output.now.judged first now.locks swept.queue c.requires.judged;
      same = c.requires.room.recorded ∙ sym c.requires.room.given;
      lead = leads-none c.args.output.now.changes.items c.args.scene.now.tree;
      places = omega (arith, queue, c.requires.places);
      known = λ k. refl;
      permitted = c.requires.permitted;
      counted = c.end_gathers.ensures.counted;
      given = omega (arith, queue, ap length room.given, room.given_room);
      recorded = omega (arith, queue, ap length room.recorded, room.recorded_room);
      sized = omega (arith, queue, ap length room.sized, room.sized_room);
    }

-- a serving changes at most one size
few-sized : (sized more : List Ino) (q : Request) (o : Outcome) → more ≡ sized ++ sized_in (Served q o ∷ []) → length more ≤ length sized + 1
few-sized sized more q o is = elim (sets_size q.operation && is_done o) as (λ b. more ≡ sized ++ filter_map (λ (ino : Option Ino). ino) (cond b (Some q.ino) None ∷ []) → length more ≤ length sized + 1) [
  | true ↦ λ is. let long = ap length is in omega (arith, long, length-append sized (q.ino ∷ []))
  | false ↦ λ is. let none : List Ino = [] in let long = ap length is in omega (arith, long, length-append sized none)
] is

-- the inodes of the event
abbrev from : In-Some → ℕ → Bool
from c = set.contains c.args.affected.now

module _ (c : In-Some) where
  abbrev first : Scene
  first = plain c.args.scene.now

  abbrev now : Scene
  now = plain c.servings.scene

  abbrev mid : Scene
  mid = plain c.sweep.new.scene

  -- gathers began and ended
  swept : IsSoFar (from c) c.servings.affected first mid c.servings.output.given.items c.servings.output.sized.items
  swept = so-far-swept (set.contains c.args.affected.now) c.servings.affected first now c.servings.output.given.items c.servings.output.sized.items c.servings.invariant.so_far mid c.sweep.ensures.swept

  -- the moves so far leave the requests in their order, and a tree
  order : IsLockMap mid.locks
  order = let so = swept in let moved = moved-all first so.moves mid so.made in moved.order c.requires.settles.order

  tree : IsTree mid.tree
  tree = let so = swept in tree-moved first so.moves mid so.made c.alloc.ensures.sound

  stays : mid ≡ record now { locks = mid.locks }
  stays = let is = c.sweep.ensures.swept in is.is

  move : first_move mid ≡ Serve c.in-Some.ticket
  move = subst (GoesOn mid) c.in-Some.is c.sweep.ensures.next

  here : (r : Request) × (request_at c.sweep.new.scene.locks.locks c.in-Some.ticket.0 ≡ Some r) × Contains c.sweep.new.scene.locks.locks.queue r × (set.contains c.servings.affected r.ino.0 ≡ true)
      × (r.ticket ≡ c.in-Some.ticket)
  here = (let so = swept in served-at (set.contains c.servings.affected) mid c.in-Some.ticket order so.waits move)

  -- somebody waits
  some_wait : 0 < length c.servings.scene.locks.locks.queue
  some_wait =
      let found = here in
      let inside = found.2 in
      let is = c.sweep.ensures.swept in
      let same : length c.sweep.new.scene.locks.locks.queue ≡ length c.servings.scene.locks.locks.queue = ap length is.queue in
      omega (arith, same, inside.1)

pub serve_next-changed-requires-clause-waits : goal.serve_next-changed-requires-clause-waits
serve_next-changed-requires-clause-waits c = (let found = here (goal.at.serve_next-changed-requires-clause-waits c).In-Some in (found.0, found.1))

pub serve_next-changed-requires-clause-walked : goal.serve_next-changed-requires-clause-walked
serve_next-changed-requires-clause-walked c =
    subst (λ (s : Scene). AreWalked c.servings.walked s.tree s.table c.servings.affected) (sym (stays (goal.at.serve_next-changed-requires-clause-walked c).In-Some)) c.servings.invariant.walked

pub serve_next-changed-requires-clause-tree : goal.serve_next-changed-requires-clause-tree
serve_next-changed-requires-clause-tree c = tree (goal.at.serve_next-changed-requires-clause-tree c).In-Some

pub serve_next-changed-requires-clause-permitted : goal.serve_next-changed-requires-clause-permitted
serve_next-changed-requires-clause-permitted c =
    subst (λ (s : KeptScene). ArePermittedIn s.table.kept (plain s)) (sym c.sweep.ensures.rest) c.servings.invariant.permitted

pub serve_next-changed-requires-clause-judged : goal.serve_next-changed-requires-clause-judged
serve_next-changed-requires-clause-judged c =
    let is = c.sweep.ensures.swept in
    let judged = c.servings.output.judged in
    subst (IsJudged judged) (sym is.is) (still-judged judged (plain c.servings.scene) c.sweep.new.scene.locks.locks is.queue c.servings.invariant.judged)

pub serve_next-changed-requires-clause-given : goal.serve_next-changed-requires-clause-given
serve_next-changed-requires-clause-given c = let some = some_wait (goal.at.serve_next-changed-requires-clause-given c).In-Some in omega (arith, some, c.servings.invariant.given)

pub serve_next-changed-requires-clause-recorded : goal.serve_next-changed-requires-clause-recorded
serve_next-changed-requires-clause-recorded c = let some = some_wait (goal.at.serve_next-changed-requires-clause-recorded c).In-Some in omega (arith, some, c.servings.invariant.recorded)

pub serve_next-changed-requires-clause-sized : goal.serve_next-changed-requires-clause-sized
serve_next-changed-requires-clause-sized c = let some = some_wait (goal.at.serve_next-changed-requires-clause-sized c).In-Some in omega (arith, some, c.servings.invariant.sized)

pub serve_next-changed-requires-clause-place : goal.serve_next-changed-requires-clause-place
serve_next-changed-requires-clause-place c = let some = some_wait (goal.at.serve_next-changed-requires-clause-place c).In-Some in omega (arith, some, c.servings.invariant.places)

abbrev before_serving : After-serve_next-changed → In-Some
before_serving c = (goal.at.After-serve_next-changed c).In-Some

module _ (c : After-serve_next-changed) where
  abbrev ended : Ended
  ended = c.serve_next-changed.ensures.served.0

  abbrev new : Scene
  new = plain c.serve_next-changed.new.scene

  abbrev serves : Serves (mid (before_serving c)) c.in-Some.ticket ended new
  serves = c.serve_next-changed.ensures.served.1

  abbrev widened : IsWidenedBy serves.request c.sweep.new.scene.tree c.serve_next-changed.new.scene.tree c.sweep.new.scene.table.entries c.servings.affected c.serve_next-changed.new.affected
  widened = c.serve_next-changed.ensures.included serves.request serves.waits

  served : IsSoFar (from (before_serving c)) c.serve_next-changed.new.affected (first (before_serving c)) new (c.servings.output.given.items ++ ended ∷ []) (c.servings.output.sized.items ++ sized_in (Served serves.request ended.outcome ∷ []))
  served =
      so-far-served (from (before_serving c)) c.servings.affected (first (before_serving c)) (mid (before_serving c)) c.servings.output.given.items c.servings.output.sized.items (swept (before_serving c))
      c.in-Some.ticket ended new c.serve_next-changed.new.affected (order (before_serving c)) (tree (before_serving c)) (move (before_serving c)) serves widened

  one_more : length (c.servings.output.given.items ++ ended ∷ []) ≡ length c.servings.output.given.items + 1
  one_more = length-append c.servings.output.given.items (ended ∷ [])

  one_less : length c.serve_next-changed.new.scene.locks.locks.queue + 1 ≡ length c.servings.scene.locks.locks.queue
  one_less =
      let now = served in
      let was = c.servings.invariant.so_far in
      omega (arith, now.count, was.count, one_more)

-- the invariant, where the sweep goes on here
abbrev Holds : After-serve_next-changed → SweepPlace → Type 0
Holds c next = invariant-servings (record {
  fn = record { scene = c.args.scene.now; affected = c.args.affected.now; output = c.args.output.now };
  initial = record { scene = record c.args.scene.now { locks = c.end_gathers.new.locks }; affected = c.args.affected.now; output = c.args.output.now; walked = c.new-walked.result; place = c.first-place.result };
  scene = c.serve_next-changed.new.scene;
  affected = c.serve_next-changed.new.affected;
  output = c.serve_next-changed.new.output;
  walked = c.serve_next-changed.new.walked;
  place = next;
})

holds : (c : After-serve_next-changed) (next : SweepPlace) → GoesOnBehind c.sweep.new.place c.serve_next-changed.result c.serve_next-changed.new.affected next → Holds c next
holds c next goes =
    let all = c.serve_next-changed.ensures.served in
    let same : c.serve_next-changed.new.output.recorded.items ≡ c.serve_next-changed.new.output.given.items = all.3 ∙ ap (λ ms. ms ++ ended c ∷ []) c.servings.invariant.same ∙ sym all.2 in
    let request = (serves c).request in
    let sizes : c.serve_next-changed.new.output.sized.items ≡ c.servings.output.sized.items ++ sized_in (Served request (ended c).outcome ∷ []) = all.4 request (serves c).waits in
    let few_sizes : length c.serve_next-changed.new.output.sized.items ≤ length c.servings.output.sized.items + 1 = few-sized c.servings.output.sized.items c.serve_next-changed.new.output.sized.items request (ended c).outcome sizes in
    let more : length c.serve_next-changed.new.output.given.items ≡ length c.servings.output.given.items + 1 = ap length all.2 ∙ one_more c in
    let less = one_less c in
    let history_more : length c.serve_next-changed.new.output.recorded.items ≡ length c.servings.output.recorded.items + 1 = ap length same ∙ more ∙ ap (λ (ms : List Ended). length ms + 1) (sym c.servings.invariant.same) in
    let room = c.serve_next-changed.ensures.room in
    let is = stays (before_serving c) in
    record {
      so_far =
          subst (λ (ended_now : List Ended). IsSoFar (from (before_serving c)) c.serve_next-changed.new.affected (first (before_serving c)) (new c) ended_now c.serve_next-changed.new.output.sized.items) (sym all.2)
          (subst (IsSoFar (from (before_serving c)) c.serve_next-changed.new.affected (first (before_serving c)) (new c) (c.servings.output.given.items ++ ended c ∷ [])) (sym sizes) (served c));
      stands =
          stands-behind (from (before_serving c)) c.servings.affected (first (before_serving c)) (mid (before_serving c)) c.servings.output.given.items c.servings.output.sized.items (swept (before_serving c))
          c.in-Some.ticket (ended c) (new c) c.serve_next-changed.new.affected (order (before_serving c)) (tree (before_serving c)) (move (before_serving c)) (serves c) (widened c)
          c.sweep.new.place next c.serve_next-changed.result c.sweep.ensures.place (c.serve_next-changed.ensures.changed (serves c).request (serves c).waits) goes;
      walked =
          subst (λ (t : Table). AreWalked c.serve_next-changed.new.walked (new c).tree t c.serve_next-changed.new.affected) (sym (ap (λ (s : Scene). s.table) (serves c).is))
          (walked-served c.sweep.new.scene.tree (new c).tree request (ended c).outcome c.sweep.new.scene.table.entries c.serve_next-changed.new.walked c.servings.affected c.serve_next-changed.new.affected
          (ap (λ (s : Scene). s.tree) (serves c).is) (widened c) c.serve_next-changed.ensures.walked);
      judged = none-judged c.serve_next-changed.new.output.judged (new c) c.serve_next-changed.ensures.judged;
      same = same;
      lead = leads-then c.args.output.now.changes.items c.servings.output.changes.items c.serve_next-changed.new.output.changes.items c.args.scene.now.tree c.sweep.new.scene.tree (new c).tree
          (subst (λ (s : Scene). LeadOn c.args.output.now.changes.items c.servings.output.changes.items c.args.scene.now.tree s.tree) (sym is) c.servings.invariant.lead) c.serve_next-changed.ensures.lead;
      places = omega (arith, less, c.serve_next-changed.ensures.noted, c.serve_next-changed.ensures.places, c.servings.invariant.places);
      known = λ k. c.serve_next-changed.ensures.pending k ∙ ap (λ (s : KeptScene). known_of s.table.kept k) c.sweep.ensures.rest ∙ c.servings.invariant.known k;
      permitted = c.serve_next-changed.ensures.permitted;
      counted = c.serve_next-changed.ensures.counted c.sweep.ensures.counted;
      given = omega (arith, more, less, room.0, c.servings.invariant.given);
      recorded = omega (arith, history_more, less, room.1, c.servings.invariant.recorded);
      sized = omega (arith, few_sizes, less, room.2, c.servings.invariant.sized);
    }

pub servings-smaller-in-Some-changed : goal.servings-smaller-in-Some-changed
servings-smaller-in-Some-changed c = let less = one_less (goal.at.servings-smaller-in-Some-changed c).After-serve_next-changed in omega (arith, less)

pub servings-smaller : goal.servings-smaller
servings-smaller c = let less = one_less (goal.at.servings-smaller c).After-serve_next-changed in omega (arith, less)

pub servings-preserved-in-Some-changed : goal.servings-preserved-in-Some-changed
servings-preserved-in-Some-changed c =
    holds (goal.at.servings-preserved-in-Some-changed c).After-serve_next-changed c.sweep.new.place (inl (refl, (c.in-Some-changed.inode, c.in-Some-changed.is, c.if-place-inode.true)))

pub servings-preserved : goal.servings-preserved
servings-preserved c = holds (goal.at.servings-preserved c).After-serve_next-changed c.first-place-in-Some-2.result (inr c.first-place-in-Some-2.ensures)

pub returns-clause-settles : goal.returns-clause-settles
returns-clause-settles c =
    let first : Scene = plain c.args.scene.now in
    let now : Scene = plain c.servings.scene in
    let last : Scene = plain c.sweep.new.scene in
    so-far-settled (set.contains c.args.affected.now) c.servings.affected first last c.servings.output.given.items c.servings.output.sized.items
    (so-far-swept (set.contains c.args.affected.now) c.servings.affected first now c.servings.output.given.items c.servings.output.sized.items c.servings.invariant.so_far last c.sweep.ensures.swept)
    (subst (GoesOn last) c.in_default.is c.sweep.ensures.next)

pub returns-clause-lead : goal.returns-clause-lead
returns-clause-lead c =
    let swept = c.sweep.ensures.swept in
    subst (λ (s : Scene). LeadOn c.args.output.now.changes.items c.servings.output.changes.items c.args.scene.now.tree s.tree) (sym swept.is) c.servings.invariant.lead

pub returns-clause-permitted : goal.returns-clause-permitted
returns-clause-permitted c = subst (λ (s : KeptScene). ArePermittedIn s.table.kept (plain s)) (sym c.sweep.ensures.rest) c.servings.invariant.permitted

pub returns-clause-pending : goal.returns-clause-pending
returns-clause-pending c = λ k. ap (λ (s : KeptScene). known_of s.table.kept k) c.sweep.ensures.rest ∙ c.servings.invariant.known k

pub returns-clause-places : goal.returns-clause-places
returns-clause-places c =
    let swept = c.sweep.ensures.swept in
    let queue : length c.sweep.new.scene.locks.locks.queue ≡ length c.servings.scene.locks.locks.queue = ap length swept.queue in
    omega (arith, queue, c.servings.invariant.places)
