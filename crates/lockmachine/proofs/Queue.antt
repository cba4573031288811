-- The queue: requests stand in it by their numbers.
use Rattle.std.proofs.Common.{◌≡◌, ℕ, zero, suc, ◌+◌, ◌<◌, ◌≤◌, Bool, true, false, not, cond, Option, Some, None, List, [], ◌∷◌, ◌++◌, length, take, drop}
use Rattle.std.proofs.Common.{get_or, refl, sym, ap, subst, ◌∙◌, All, Contains, arith, drop-cons}
use Rattle.std.specs.Prelude.{filter}
use Rattle.std.specs.List.{find, position, remove, slice_get}
use Rattle.std.specs.Option.{option_map}
use Rattle.std.specs.Cmp.{nat_eq_equiv}
use Rattle.std.proofs.lemmas.Bool.{both_ways, eqb-true, ne_eqb}
use Rattle.std.proofs.lemmas.List.{length-append, take-append-drop}
use Rattle.std.proofs.lemmas.List.Folds.{find_at}
use Rattle.std.proofs.lemmas.Option.{slice_get-get_or}
use Rattle.std.proofs.lemmas.List.Elements.{All-contains, All-filter, All-head, All-push, All-tail, All-weaker}
use Rattle.std.proofs.lemmas.List.Kept.{AllPairs-filter}
use Rattle.std.proofs.lemmas.List.Quantifiers.{all_pairs_push}
use Rattle.std.proofs.lemmas.List.Sums.{count_by-le-length, length-filter}
use Rattle.lockmachine.proofs.Positions.{at_position}
use Rattle.capbits.specs.declared.ids.ClientId.{ClientId}
use Rattle.capbits.specs.declared.ids.Ino.{Ino}
use Rattle.capbits.specs.declared.ids.Ticket.{Ticket}
use Rattle.captable.proofs.Searches.{find_passes}
use Rattle.lockmachine.specs.declared.request.Operation.{Operation}
use Rattle.lockmachine.specs.declared.request.Request.{Request}
use Rattle.lockmachine.specs.declared.moves.Move.{Move}
use Rattle.lockmachine.specs.declared.moves.Move.TheVariants.{Begin, End, Serve, Settled}
use Rattle.lockmachine.specs.Requests.{AreTicketsRising, is_numbered, is_of_client}
use Rattle.lockmachine.specs.Locks.{IsLockMap, LockMap, TakesOnly, next_request, oldest_of, request_at, requests_of, with_request, without_request}
use Rattle.lockmachine.specs.Locks.{without_requests_of}
use Rattle.lockmachine.specs.Scene.{Scene}
use Rattle.lockmachine.specs.Moves.{IsFirstServed, LockId, first_move, lock_ids, may_end, may_serve, moved}
use Rattle.lockmachine.specs.Cursors.{begin_or_rest, end_or_serve, serve_or_begin}
use Rattle.lockmachine.proofs.FirstMove.{first-found}
use Rattle.lockmachine.proofs.Rest.{not_found}

-- ---- a queue whose numbers rise

-- the first has the least number
rising-head : (q : Request) (qs : List Request) → AreTicketsRising (q ∷ qs) → All (λ r. q.ticket.0 < r.ticket.0) qs
rising-head q qs rising = λ k d room. rising 0 (suc k) d (omega arith) (omega arith)

rising-tail : (q : Request) (qs : List Request) → AreTicketsRising (q ∷ qs) → AreTicketsRising qs
rising-tail q qs rising = λ i j d less room. rising (suc i) (suc j) d (omega arith) (omega arith)

not_numbered' : (q r : Request) → q.ticket.0 < r.ticket.0 → is_numbered r.ticket.0 q ≡ false
not_numbered' q r less = ne_eqb q.ticket.0 r.ticket.0 (λ same. absurd (omega arith))

-- what a number finds
found : (qs : List Request) (q : Request) → AreTicketsRising qs → Contains qs q → find (is_numbered q.ticket.0) qs ≡ Some q
found [] q rising (k, room, at) = absurd (omega arith)
found (x ∷ xs) q rising (zero, room, at) =
    let e : x ≡ q = at in
    rw e (ap (λ b. cond b (Some q) (find (is_numbered q.ticket.0) xs)) (nat_eq_equiv.refl q.ticket.0))
found (x ∷ xs) q rising (suc k, room, at) =
    let inside : Contains xs q = (k, omega arith, at) in
    let less : x.ticket.0 < q.ticket.0 = All-contains (λ r. x.ticket.0 < r.ticket.0) xs q (rising-head x xs rising) inside in
    ap (λ b. cond b (Some x) (find (is_numbered q.ticket.0) xs)) (not_numbered' x q less) ∙ found xs q (rising-tail x xs rising) inside

pub found_by_number : (locks : LockMap) (q : Request) → IsLockMap locks → Contains locks.queue q → request_at locks q.ticket.0 ≡ Some q
found_by_number locks q is inside = found locks.queue q is.rising inside

-- what a number takes out
others : ℕ → List Request → List Request
others ticket qs = filter (λ r. not (is_numbered ticket r)) qs

all_others : (ticket : ℕ) (qs : List Request) → All (λ r. ticket < r.ticket.0) qs → others ticket qs ≡ qs
unfolding others
all_others ticket [] above = refl
all_others ticket (x ∷ xs) above =
    let less : ticket < x.ticket.0 = All-head (λ r. ticket < r.ticket.0) x xs above in
    ap (λ b. cond (not b) (x ∷ others ticket xs) (others ticket xs)) (ne_eqb x.ticket.0 ticket (λ same. absurd (omega arith)))
    ∙ ap (λ ys. x ∷ ys) (all_others ticket xs (All-tail (λ r. ticket < r.ticket.0) x xs above))

-- a request that is removed from its place is taken out alone
removed : (qs : List Request) (q : Request) → AreTicketsRising qs → (inside : Contains qs q) → remove qs inside.0 ≡ others q.ticket.0 qs
unfolding others
removed [] q rising (k, room, at) = absurd (omega arith)
removed (x ∷ xs) q rising (zero, room, at) =
    let e : x ≡ q = at in
    sym (ap (λ y. others q.ticket.0 (y ∷ xs)) e ∙ ap (λ b. cond (not b) (q ∷ others q.ticket.0 xs) (others q.ticket.0 xs)) (nat_eq_equiv.refl q.ticket.0)
    ∙ all_others q.ticket.0 xs (rw (← e) (rising-head x xs rising)))
removed (x ∷ xs) q rising (suc k, room, at) =
    let inside : Contains xs q = (k, omega arith, at) in
    let less : x.ticket.0 < q.ticket.0 = All-contains (λ r. x.ticket.0 < r.ticket.0) xs q (rising-head x xs rising) inside in
    ap (λ ys. x ∷ ys) (removed xs q (rising-tail x xs rising) inside)
    ∙ sym (ap (λ b. cond (not b) (x ∷ others q.ticket.0 xs) (others q.ticket.0 xs)) (not_numbered' x q less))

pub taken_alone : (locks : LockMap) (q : Request) → IsLockMap locks → Contains locks.queue q → TakesOnly q locks (without_request locks q.ticket.0)
unfolding others
taken_alone locks q is (k, room, at) = record {
  earlier = take k locks.queue;
  later = drop (suc k) locks.queue;
  queue_was = sym (take-append-drop k locks.queue) ∙ ap (λ qs. take k locks.queue ++ qs) (drop-cons locks.queue k q room ∙ ap (λ r. r ∷ drop (suc k) locks.queue) at);
  queue_is = sym (removed locks.queue q is.rising (k, room, at));
  states_are = refl;
  last_is = refl;
}

-- what stands at the place of a number is the request that it finds, and without it the others are left
pub taken : (qs : List Request) (ticket i : ℕ) (q : Request) → AreTicketsRising qs → position (is_numbered ticket) qs ≡ Some i → q ≡ get_or qs i q
    → (find (is_numbered ticket) qs ≡ Some q) × (remove qs i ≡ filter (λ r. not (is_numbered ticket r)) qs)
unfolding others
taken qs ticket i q rising at is =
    let place = at_position (is_numbered ticket) qs i at in
    let room : i < length qs = rw place.0 place.1 in
    let found : find (is_numbered ticket) qs ≡ Some q = find_at (is_numbered ticket) qs ∙ ap (slice_get qs) (sym place.0) ∙ slice_get-get_or qs i q room ∙ ap Some (sym is) in
    let number : q.ticket.0 ≡ ticket = eqb-true q.ticket.0 ticket (find_passes (is_numbered ticket) qs q found) in
    (found, removed qs q rising (i, room, sym is) ∙ ap (λ n. filter (λ r. not (is_numbered n r)) qs) number)

-- where it finds none, all are left
pub none_taken : (p : Request → Bool) (qs : List Request) → find p qs ≡ None → filter (λ r. not (p r)) qs ≡ qs
none_taken p [] none = refl
none_taken p (x ∷ xs) none =
    let n = not_found p x xs none in
    ap (λ b. cond (not b) (x ∷ filter (λ r. not (p r)) xs) (filter (λ r. not (p r)) xs)) n.0 ∙ ap (λ ys. x ∷ ys) (none_taken p xs n.1)

-- ---- the request that is served

-- the first that passes a test has the least number of all that do
pub record IsLeast (p : Request → Bool) (qs : List Request) (q : Request) : Type 0 where
  pub waits : Contains qs q
  pub passes : p q ≡ true
  pub least : (r : Request) → Contains qs r → p r ≡ true → q.ticket.0 ≤ r.ticket.0

pub least : (p : Request → Bool) (qs : List Request) (q : Request) → AreTicketsRising qs → find p qs ≡ Some q → IsLeast p qs q
least p [] q rising found = absurd (cc)
least p (x ∷ xs) q rising found = elim (p x) as (λ b. p x ≡ b → cond b (Some x) (find p xs) ≡ Some q → IsLeast p (x ∷ xs) q) [
  | true ↦ λ passes found. (
      let e : x ≡ q = cc in
      rw (← e) (record { waits = (0, omega arith, refl); passes = passes; least = from_first passes })
      )
  | false ↦ λ fails found. behind fails (least p xs q (rising-tail x xs rising) found)
] refl found
  where
    from_first : p x ≡ true → (r : Request) → Contains (x ∷ xs) r → p r ≡ true → x.ticket.0 ≤ r.ticket.0
    from_first passes r (zero, room, at) pr = let e : x ≡ r = at in let same : x.ticket.0 ≡ r.ticket.0 = ap (λ (s : Request). s.ticket.0) e in omega arith
    from_first passes r (suc k, room, at) pr =
        let inside : Contains xs r = (k, omega arith, at) in
        let less : x.ticket.0 < r.ticket.0 = All-contains (λ s. x.ticket.0 < s.ticket.0) xs r (rising-head x xs rising) inside in
        omega arith

    of_both : p x ≡ false → IsLeast p xs q → (r : Request) → Contains (x ∷ xs) r → p r ≡ true → q.ticket.0 ≤ r.ticket.0
    of_both fails is r (zero, room, at) pr = let e : x ≡ r = at in absurd (both_ways _ fails (ap p e ∙ pr))
    of_both fails is r (suc k, room, at) pr = is.least r (k, omega arith, at) pr

    behind : p x ≡ false → IsLeast p xs q → IsLeast p (x ∷ xs) q
    behind fails is = record {
      waits = (suc is.waits.0, omega (arith, is.waits.1), is.waits.2);
      passes = is.passes;
      least = of_both fails is;
    }

begins_not : (s : Scene) (ticket : Ticket) (o : Option LockId) → begin_or_rest s o ≡ Serve ticket → ⊥
begins_not s ticket None is = absurd (cc)
begins_not s ticket (Some at) is = absurd (cc)

serving : (s : Scene) (ticket : Ticket) (o : Option Request) → serve_or_begin s o ≡ Serve ticket → (q : Request) × (o ≡ Some q) × (q.ticket ≡ ticket)
serving s ticket None is = absurd (begins_not s ticket _ is)
serving s ticket (Some q) is = (q, refl, cc)

ending : (s : Scene) (ticket : Ticket) (o : Option LockId) → end_or_serve s o ≡ Serve ticket → serve_or_begin s (find (may_serve s.locks) s.locks.queue) ≡ Serve ticket
ending s ticket None is = is
ending s ticket (Some at) is = absurd (cc)

pub least_served : (s : Scene) (ticket : Ticket) → IsLockMap s.locks → first_move s ≡ Serve ticket → (q : Request) × (q.ticket ≡ ticket) × IsFirstServed s.locks q
least_served s ticket is move =
    let v = serving s ticket (find (may_serve s.locks) s.locks.queue) (ending s ticket (find (may_end s) (lock_ids s.locks)) (sym (first-found s) ∙ move)) in
    let l = least (may_serve s.locks) s.locks.queue v.0 is.rising v.1 in
    (v.0, v.2, record { waits = l.waits; may = l.passes; least = l.least })

-- ---- the requests of a client

-- where a client has none, none is of it, and all are of others
pub none_left : (locks : LockMap) (client : ClientId) → option_map (λ (q : Request). q.ticket) (find (is_of_client client) locks.queue) ≡ None
    → (requests_of locks client ≡ []) × (without_requests_of locks client ≡ locks)
none_left locks client none =
    let nobody = not_there (find (is_of_client client) locks.queue) none in
    (nothing_passes (is_of_client client) locks.queue nobody, ap (λ (qs : List Request). record locks { queue = qs }) (none_taken (is_of_client client) locks.queue nobody))
  where
    not_there : (o : Option Request) → option_map (λ (q : Request). q.ticket) o ≡ None → o ≡ None
    not_there None is = refl
    not_there (Some q) is = absurd (cc)

    nothing_passes : (p : Request → Bool) (qs : List Request) → find p qs ≡ None → filter p qs ≡ []
    nothing_passes p [] none = refl
    nothing_passes p (x ∷ xs) none =
        let n = not_found p x xs none in
        ap (λ b. cond b (x ∷ filter p xs) (filter p xs)) n.0 ∙ nothing_passes p xs n.1

-- a client's oldest request has the least number of its own
pub oldest-least : (locks : LockMap) (client : ClientId) (ticket : Ticket) → IsLockMap locks → oldest_of locks client ≡ Some ticket
    → (q : Request) → Contains locks.queue q → is_of_client client q ≡ true → ticket.0 ≤ q.ticket.0
oldest-least locks client ticket order oldest q inside own = by_found (find (is_of_client client) locks.queue) refl oldest
  where
    by_found : (o : Option Request) → find (is_of_client client) locks.queue ≡ o → option_map (λ (r : Request). r.ticket) o ≡ Some ticket → ticket.0 ≤ q.ticket.0
    by_found None found is = absurd (cc)
    by_found (Some r) found is =
        let number : r.ticket ≡ ticket = cc in
        subst (λ (t : Ticket). t.0 ≤ q.ticket.0) number ((least (is_of_client client) locks.queue r order.rising found).least q inside own)

-- ---- what keeps the order

-- some of the requests are left
fewer-stays : (locks : LockMap) (p : Request → Bool) → IsLockMap locks → IsLockMap (record locks { queue = filter p locks.queue })
fewer-stays locks p is = record {
  rising = AllPairs-filter (λ earlier later. earlier.ticket.0 < later.ticket.0) p locks.queue is.rising;
  given = All-filter p (λ q. (1 ≤ q.ticket.0) × (q.ticket.0 ≤ locks.last)) locks.queue is.given;
  room =
      let kept = length-filter p locks.queue in
      let fewer = count_by-le-length p locks.queue in
      let room = is.room in
      omega arith;
}

pub without_request-stays : (locks : LockMap) (ticket : ℕ) → IsLockMap locks → IsLockMap (without_request locks ticket)
without_request-stays locks ticket = fewer-stays locks (λ q. not (is_numbered ticket q))

pub without_requests_of-stays : (locks : LockMap) (client : ClientId) → IsLockMap locks → IsLockMap (without_requests_of locks client)
without_requests_of-stays locks client = fewer-stays locks (λ q. not (is_of_client client q))

pub moved-stays : (locks : LockMap) (step : Move) → IsLockMap locks → IsLockMap (moved locks step)
moved-stays locks (Begin ino part to) is = record { rising = is.rising; given = is.given; room = is.room }
moved-stays locks (End ino part) is = record { rising = is.rising; given = is.given; room = is.room }
moved-stays locks (Serve ticket) is = without_request-stays locks ticket.0 is
moved-stays locks Settled is = is

pub with_request-stays : (locks : LockMap) (client : ClientId) (ino : Ino) (operation : Operation) → IsLockMap locks → length locks.queue < 1024 → IsLockMap (with_request locks client ino operation)
with_request-stays locks client ino operation is room = record {
  rising = all_pairs_push (λ earlier later. earlier.ticket.0 < later.ticket.0) locks.queue (next_request locks client ino operation) is.rising (λ k d inside. (let g = is.given k d inside in omega (arith, g.1)));
  given = All-push (λ q. (1 ≤ q.ticket.0) × (q.ticket.0 ≤ locks.last + 1)) locks.queue (next_request locks client ino operation)
      (All-weaker (λ q. (1 ≤ q.ticket.0) × (q.ticket.0 ≤ locks.last)) (λ q. (1 ≤ q.ticket.0) × (q.ticket.0 ≤ locks.last + 1)) (λ q g. (g.0, omega (arith, g.1))) locks.queue is.given)
      (omega arith, omega arith);
  room = let one_more = length-append locks.queue (next_request locks client ino operation ∷ []) in omega arith;
}
