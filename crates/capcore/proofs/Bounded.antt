-- How many requests a step serves, and how often its locks move between two servings.
use Rattle.std.proofs.Common.{◌≡◌, ◌++◌, ℕ, List, [], ◌∷◌, Option, Some, None, map, refl, subst, arith}
use Rattle.lockmachine.proofs.Ending.{few}
use Rattle.capcore.proofs.Moved.{served-count}
use Rattle.lockmachine.specs.Runs.{Runs}
use Rattle.capcore.proofs.Common.{Alter, AreBounded, Event, Get, IsLockMap, Made, MakesAll, Rejection, Rename, Rmdir, Scene, Served, State, Unlink, child}
use Rattle.capcore.proofs.Common.{direct, effect, effect_unless, ended_in, found, holder, judged, move_of, without_requests_of-stays}
use Rattle.capcore.proofs.LockRequests.{order-of_operation}

-- ---- the queue stays in order, whatever the event

-- what was found changes nothing
pub found-keeps : (Fact : State → Type 0) (s : State) (o : Option ℕ) → Fact s → Fact (found s o).state
found-keeps Fact s None fact = fact
found-keeps Fact s (Some ino) fact = fact

-- who comes to wait, comes last
effect-order : (old : State) (e : Event) → judged old.scene e ≡ None → IsLockMap old.scene.locks → IsLockMap (effect old e).state.scene.locks
effect-order old (Event.CloseSession client) free order = without_requests_of-stays old.scene.locks client order
effect-order old (Event.Evict client) free order = without_requests_of-stays old.scene.locks client order
effect-order old (Event.Lookup client dir name) free order = found-keeps (λ (s : State). IsLockMap s.scene.locks) old (child old.scene.tree.nodes dir.0 name) order
effect-order old (Event.Create client dir name mode) free order = record { rising = order.rising; given = order.given; room = order.room }
effect-order old (Event.Mkdir client dir name mode) free order = record { rising = order.rising; given = order.given; room = order.room }
effect-order old (Event.Get client ino part) free order = order-of_operation old.scene (holder client ino) (Get part) order free
effect-order old (Event.Alter client ino change) free order = order-of_operation old.scene (holder client ino) (Alter change) order free
effect-order old (Event.Unlink client ino) free order = order-of_operation old.scene (holder client ino) Unlink order free
effect-order old (Event.Rmdir client ino) free order = order-of_operation old.scene (holder client ino) Rmdir order free
effect-order old (Event.Rename client ino dir name) free order = order-of_operation old.scene (holder client ino) (Rename dir name) order free
effect-order old e free order = order

-- what an event keeps that nothing rejects, each keeps: one that is rejected changes nothing
pub direct-keeps : (Fact : State → Type 0) (old : State) (e : Event) → Fact old → (judged old.scene e ≡ None → Fact (effect old e).state) → Fact (direct old e).state
direct-keeps Fact old e was free = by_rejection (judged old.scene e) refl
  where
    by_rejection : (o : Option Rejection) → judged old.scene e ≡ o → Fact (effect_unless old e o).state
    by_rejection (Some rejection) is = was
    by_rejection None is = free is

pub direct-order : (old : State) (e : Event) → IsLockMap old.scene.locks → IsLockMap (direct old e).state.scene.locks
direct-order old e order = direct-keeps (λ (s : State). IsLockMap s.scene.locks) old e order (λ free. effect-order old e free order)

-- ---- between two servings

-- moves in two parts
makes-split : (s : Scene) (ms more : List Made) (t : Scene) → MakesAll s (ms ++ more) t → (mid : Scene) × MakesAll s ms mid × MakesAll mid more t
makes-split s [] more t made = (s, refl, made)
makes-split s (m ∷ ms) more t (next, one, made) = (let rest = makes-split next ms more t made in (rest.0, (next, one, rest.1), rest.2))

-- moves that serve nobody are a run of moves of locks
made-runs : (s : Scene) (ms : List Made) (t : Scene) → MakesAll s ms t → ended_in ms ≡ [] → Runs s (map move_of ms) t
made-runs s [] t is none = is
made-runs s (Served q o ∷ ms) t made none = absurd (cc)
made-runs s (m ∷ ms) t (next, one, made) none = (one.0, refl, subst (λ (u : Scene). Runs u (map move_of ms) t) one.1 (made-runs next ms t made none))

pub moves-bounded : (s : Scene) (ms : List Made) (t : Scene) → IsLockMap s.locks → MakesAll s ms t → AreBounded s ms
moves-bounded s ms t order made = record {
  served = (let count = served-count s ms t order made in omega (arith, count));
  between = λ before_it some behind_it is none.
      let first = makes-split s before_it (some ++ behind_it) t (subst (λ (list : List Made). MakesAll s list t) is made) in
      let then = makes-split first.0 some behind_it t first.2 in
      few first.0 (map move_of some) then.0 (made-runs first.0 some then.0 then.1 none);
}
