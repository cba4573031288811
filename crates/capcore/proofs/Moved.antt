-- What moves leave as it is: the entries, which inodes are there and which have locks, the last number, and the rows in which what
-- is held lies. Who waits then, waited before.
use Rattle.std.proofs.Common.{◌≡◌, ℕ, Bool, not, Option, None, is_some, List, [], ◌∷◌, ◌++◌, refl, sym, subst, ◌∙◌, Contains, true≢false, ◌+◌, length, ap}
use Rattle.std.proofs.Common.{arith, false, All}
use Rattle.std.proofs.lemmas.List.{length-append}
use Rattle.std.proofs.lemmas.List.Elements.{All-cons, All-contains, All-contains_itself, All-nil, All-weaker}
use Rattle.std.specs.Option.{option_map}
use Rattle.std.specs.FinMap as map
use Rattle.capbits.specs.Caps.{has}
use Rattle.lockmachine.proofs.Finding.{fails_at, find_none}
use Rattle.lockmachine.proofs.InRows.{one_keeps}
use Rattle.lockmachine.proofs.Moving.{with_lock-each}
use Rattle.lockmachine.proofs.Queue.{moved-stays, taken_alone}
use Rattle.capstep.specs.Headline.{move_of}
use Rattle.capstep.specs.Serving.{served}
use Rattle.lockmachine.specs.Locks.{with_lock}
use Rattle.lockmachine.specs.Moves.{coming_state, moved, present_state, with_moved}
use Rattle.lockmachine.specs.Requests.{is_for}
use Rattle.lockmachine.specs.Runs.{Runs}
use Rattle.lockmachine.specs.declared.moves.Move.{Move}
use Rattle.lockmachine.specs.declared.moves.Move.TheVariants.{Begin, End}
use Rattle.capcore.proofs.CommonPieces.{A, Began, Ended, EntryRow, Gather, Gathered, IsInRow, IsLockMap, IsSound, IsSoundEntry, IsTree, LockId, LockMap}
use Rattle.capcore.proofs.CommonPieces.{LockState, Made, Makes, MakesAll, Nodes, Operation, Outcome, P, Part, Request, Scene, Serve, Served, Stable, State}
use Rattle.capcore.proofs.CommonPieces.{Table, WaitAt, contains-filter, ended_in, exist-changed, first_for, first_move, is_numbered, lock_at, lock_in}
use Rattle.capcore.proofs.CommonPieces.{resting-waits-at, served-at, tree_with, waits-stay-at, without_request}
use Rattle.capcore.proofs.LeftAlone.{found-contains}
use Rattle.capcore.proofs.OneChange.{by_operation, sound-after}

pub record IsMoved (first now : Scene) : Type 0 where
  pub table : now.table ≡ first.table
  pub sessions : now.sessions ≡ first.sessions
  pub nodes : (q : ℕ) → map.contains_key now.tree.nodes q ≡ map.contains_key first.tree.nodes q
  pub states : (q : ℕ) → map.contains_key now.locks.states q ≡ map.contains_key first.locks.states q
  pub queue : (q : Request) → Contains now.locks.queue q → Contains first.locks.queue q
  pub last : now.locks.last ≡ first.locks.last
  pub order : IsLockMap first.locks → IsLockMap now.locks
  pub in_rows : (row : EntryRow) (part : Part) → Contains first.table.rows row → IsInRow first row part → IsInRow now row part

-- ---- one after another

pub not-moved : (s : Scene) → IsMoved s s
not-moved s = grind arith

pub moved-twice : (a b c : Scene) → IsMoved a b → IsMoved b c → IsMoved a c
moved-twice a b c one two = record {
  table = two.table ∙ one.table;
  sessions = two.sessions ∙ one.sessions;
  nodes = λ q. two.nodes q ∙ one.nodes q;
  states = λ q. two.states q ∙ one.states q;
  queue = λ q inside. one.queue q (two.queue q inside);
  last = two.last ∙ one.last;
  order = λ is. two.order (one.order is);
  in_rows = λ row part inside was. two.in_rows row part (subst (λ (t : Table). Contains t.rows row) (sym one.table) inside) (one.in_rows row part inside was);
}

-- ---- which inodes have locks

some-mapped : {X Y : Type 0} (f : X → Y) (o : Option X) → is_some (option_map f o) ≡ is_some o
some-mapped f o = grind arith

abbrev HasLock : LockMap → ℕ → Bool
HasLock locks q = is_some (lock_at locks q A)

lock-stays : (locks : LockMap) (ino : ℕ) (part : Part) (lock : LockState) (q : ℕ) → HasLock (with_lock locks ino part lock) q ≡ HasLock locks q
lock-stays locks ino part lock q =
    with_lock-each locks ino part lock (λ b (at : LockId) o. is_some o ≡ is_some (lock_at locks at.0 at.1)) (some-mapped (λ _. lock) (lock_at locks ino part)) (λ at. refl) (q, A)

lock-moved : (locks : LockMap) (step : Move) (q : ℕ) → HasLock (moved locks step) q ≡ HasLock locks q
lock-moved locks (Begin ino part to) q = lock-stays locks ino.0 part (Gather (present_state (lock_at locks ino.0 part)) to) q
lock-moved locks (End ino part) q = lock-stays locks ino.0 part (Stable (coming_state (lock_at locks ino.0 part))) q
lock-moved locks step q = refl

keys-moved : (locks : LockMap) (step : Move) (q : ℕ) → map.contains_key (moved locks step).states q ≡ map.contains_key locks.states q
keys-moved locks step q =
    sym (some-mapped (lock_in A) (map.get (moved locks step).states q)) ∙ lock-moved locks step q ∙ some-mapped (lock_in A) (map.get locks.states q)

-- ---- who waits

-- where nobody waited for a lock, nobody waits for it
pub nobody-moved : (first now : Scene) → IsMoved first now → (ino : ℕ) (part : Part) → first_for first.locks.queue ino part ≡ None → first_for now.locks.queue ino part ≡ None
nobody-moved first now is ino part none =
    find_none (is_for ino part) now.locks.queue (λ q inside. fails_at (is_for ino part) first.locks.queue none q (is.queue q inside))

queue-moved : (locks : LockMap) (step : Move) (q : Request) → Contains (moved locks step).queue q → Contains locks.queue q
queue-moved locks (Serve ticket) q inside = contains-filter (λ r. not (is_numbered ticket.0 r)) locks.queue q inside
queue-moved locks step q inside = inside

-- what all who waited have, all who wait have
pub all-waiting : (Fact : Request → Type 0) (first now : Scene) → IsMoved first now → All Fact first.locks.queue → All Fact now.locks.queue
all-waiting Fact first now is all =
    All-weaker (Contains now.locks.queue) Fact (λ q inside. All-contains Fact first.locks.queue q all (is.queue q inside)) now.locks.queue (All-contains_itself now.locks.queue)

-- ---- which inodes are there

nodes-with : (tree : Nodes) (ino : ℕ) (operation : Operation) (q : ℕ) → map.contains_key (tree_with tree ino operation).nodes q ≡ map.contains_key tree.nodes q
nodes-with tree ino operation q = by_operation tree ino (λ t. map.contains_key t.nodes q ≡ map.contains_key tree.nodes q) refl (λ f. exist-changed tree f ino q) operation

-- ---- the moves

moved-step : (s : Scene) (step : Move) → first_move s ≡ step → IsMoved s (with_moved s step)
moved-step s step first = record {
  table = refl;
  sessions = refl;
  nodes = λ q. refl;
  states = keys-moved s.locks step;
  queue = queue-moved s.locks step;
  last = grind arith;
  order = moved-stays s.locks step;
  in_rows = λ row part inside was. subst (λ (m : Move). IsInRow (with_moved s m) row part) first (one_keeps s row part inside was);
}

moved-served : (s : Scene) (q : Request) (o : Outcome) → first_move s ≡ Serve q.ticket → IsMoved s (served s q o)
moved-served s q o first =
    let m = moved-step s (Serve q.ticket) first in
    record { table = refl; sessions = refl; nodes = λ r. grind (arith, nodes-with); states = m.states; queue = m.queue; last = refl; order = m.order; in_rows = m.in_rows }

pub moved-made : (s : Scene) (m : Made) (t : Scene) → Makes s m t → IsMoved s t
moved-made s (Served q o) t (first, found, may, is) = subst (IsMoved s) (sym is) (moved-served s q o first)
moved-made s m t one = subst (IsMoved s) (sym one.1) (moved-step s (move_of m) one.0)

pub moved-all : (s : Scene) (ms : List Made) (t : Scene) → MakesAll s ms t → IsMoved s t
moved-all s [] t is = subst (IsMoved s) (sym is) (not-moved s)
moved-all s (m ∷ ms) t (mid, one, rest) = moved-twice s mid t (moved-made s m mid one) (moved-all mid ms t rest)

-- and a tree stays one
pub tree-moved : (s : Scene) (ms : List Made) (t : Scene) → MakesAll s ms t → IsTree s.tree → IsTree t.tree
tree-moved s [] t is tree = subst (λ (u : Scene). IsTree u.tree) (sym is) tree
tree-moved s (Served q o ∷ ms) t (mid, makes, rest) tree =
    tree-moved mid ms t rest (subst (λ (u : Scene). IsTree u.tree) (sym makes.3) (sound-after s q o tree makes.2))
tree-moved s (m ∷ ms) t (mid, makes, rest) tree = tree-moved mid ms t rest (subst (λ (u : Scene). IsTree u.tree) (sym makes.1) tree)

-- moves, and then others
pub makes-append : (s : Scene) (ms : List Made) (mid : Scene) (more : List Made) (t : Scene) → MakesAll s ms mid → MakesAll mid more t → MakesAll s (ms ++ more) t
makes-append s [] mid more t is rest = subst (λ (u : Scene). MakesAll u more t) is rest
makes-append s (m ∷ ms) mid more t (next, one, made) rest = (next, one, makes-append next ms mid more t made rest)

-- ---- the requests that ended

-- the request waited
pub record Waited (queue : List Request) (m : Ended) : Type 0 where
  pub request : Request
  pub inside : Contains queue request
  pub client : m.client ≡ request.client
  pub ticket : m.ticket ≡ request.ticket

waited-moved : (first now : Scene) → IsMoved first now → (m : Ended) → Waited now.locks.queue m → Waited first.locks.queue m
waited-moved first now is m w = record { request = w.request; inside = is.queue w.request w.inside; client = w.client; ticket = w.ticket }

-- so did each that the moves ended
pub ended-waited : (s : Scene) (ms : List Made) (t : Scene) → MakesAll s ms t → All (Waited s.locks.queue) (ended_in ms)
ended-waited s [] t is = All-nil (Waited s.locks.queue)
ended-waited s (m ∷ ms) t (mid, one, rest) =
    by_move m one (All-weaker (Waited mid.locks.queue) (Waited s.locks.queue) (waited-moved s mid (moved-made s m mid one)) (ended_in ms) (ended-waited mid ms t rest))
  where
    by_move : (m : Made) → Makes s m mid → All (Waited s.locks.queue) (ended_in ms) → All (Waited s.locks.queue) (ended_in (m ∷ ms))
    by_move (Served q o) (first, found, may, is) all =
        All-cons (Waited s.locks.queue) (record { client = q.client; ticket = q.ticket; outcome = o }) (ended_in ms)
        (record { request = q; inside = found-contains (is_numbered q.ticket.0) s.locks.queue q found; client = refl; ticket = refl }) all
    by_move m one all = all

-- ---- moves of locks, as the step names them

-- some moves of locks alone lead from one scene to the other
pub record OfLocks (old new : Scene) : Type 0 where
  pub moves : List Made
  pub made : MakesAll old moves new
  pub none : ended_in moves ≡ []

pub as_made : (old : Scene) (steps : List Move) (new : Scene) → Runs old steps new → OfLocks old new
as_made old [] new runs = record { moves = []; made = runs; none = refl }
as_made old (Begin ino part to ∷ steps) new (first, lock, runs) =
    let rest = as_made (with_moved old (Begin ino part to)) steps new runs in
    record { moves = Began ino part to ∷ rest.moves; made = (with_moved old (Begin ino part to), (first, refl), rest.made); none = rest.none }
as_made old (End ino part ∷ steps) new (first, lock, runs) =
    let rest = as_made (with_moved old (End ino part)) steps new runs in
    record { moves = Gathered ino part ∷ rest.moves; made = (with_moved old (End ino part), (first, refl), rest.made); none = rest.none }
as_made old (step ∷ steps) new (first, lock, runs) = absurd (true≢false (sym lock))

-- ---- how many requests a settling serves

-- who is taken out of the queue leaves one less
pub one-less : (locks : LockMap) (q : Request) → IsLockMap locks → Contains locks.queue q → length (without_request locks q.ticket.0).queue + 1 ≡ length locks.queue
one-less locks q order inside =
    let takes = taken_alone locks q order inside in
    omega (arith, simp length-append at (ap length takes.queue_was), simp length-append at (ap length takes.queue_is))

-- as many have ended as fewer wait
pub served-count : (s : Scene) (ms : List Made) (t : Scene) → IsLockMap s.locks → MakesAll s ms t → length (ended_in ms) + length t.locks.queue ≡ length s.locks.queue
served-count s [] t order is = (let same : length t.locks.queue ≡ length s.locks.queue = ap (λ (u : Scene). length u.locks.queue) is in omega (arith, same))
served-count s (m ∷ ms) t order (mid, one, rest) = by_move m one (let moved = moved-made s m mid one in served-count mid ms t (moved.order order) rest)
  where
    by_move : (m : Made) → Makes s m mid → length (ended_in ms) + length t.locks.queue ≡ length mid.locks.queue → length (ended_in (m ∷ ms)) + length t.locks.queue ≡ length s.locks.queue
    by_move (Served q o) (first, found, may, is) more =
        let left : length mid.locks.queue ≡ length (without_request s.locks q.ticket.0).queue = ap (λ (u : Scene). length u.locks.queue) is in
        let less = one-less s.locks q order (found-contains (is_numbered q.ticket.0) s.locks.queue q found) in
        omega (arith, more, left, less)
    by_move m one more = more ∙ ap (λ (u : Scene). length u.locks.queue) one.1

-- ---- where all who wait are held up, no move serves anybody, and the tree stays

abbrev none : ℕ → Bool
none ino = false

pub nothing-served : (first : Scene) (moves : List Made) (settled : Scene) → IsLockMap first.locks → WaitAt none first → MakesAll first moves settled
    → (ended_in moves ≡ []) × (settled.tree ≡ first.tree)
nothing-served first [] settled order wait made = (refl, ap (λ (s : Scene). s.tree) made)
nothing-served first (Served q o ∷ ms) settled order wait (mid, makes, rest) =
    let found = served-at none first q.ticket order wait makes.0 in absurd (true≢false (sym found.3))
nothing-served first (m ∷ ms) settled order wait (mid, makes, rest) =
    let later = nothing-served mid ms settled ((moved-made first m mid makes).order order) (waits-stay-at none first (move_of m ∷ []) mid (makes.0, refl, makes.1) wait) rest in
    (later.0, later.1 ∙ ap (λ (s : Scene). s.tree) makes.1)

-- so it is of every sound state
pub sound-waits : (s : State) → IsSound s → WaitAt none s.scene
sound-waits s sound = resting-waits-at none s.scene (record { each_other = λ other part off. sound.at_rest.each other part })

-- and each entry of it holds its pin
pub sound-pinned : (s : State) → IsSound s → (row : EntryRow) → Contains s.scene.table.rows row → has row.entry.held P ≡ false → ⊥
sound-pinned s sound row inside none =
    let was = All-contains (IsSoundEntry s.scene) s.scene.table.rows row sound.entries inside in true≢false (sym was.holds_pin ∙ none)
