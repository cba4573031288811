-- Two steps from one state with the same event are the same where the same requests find no memory: so where all find it, and so
-- where their rows say the same.
use Rattle.std.proofs.Common.{◌≡◌, ◌≢◌, ◌⊎◌, ◌↔◌, ◌≤◌, ℕ, zero, suc, not, cond, List, [], ◌∷◌, Option, Some, refl, sym, ap, subst, ◌∙◌, inl, inr, All}
use Rattle.std.proofs.Common.{Contains, arith, nat_le, unwrap_or, filter, ◌+◌, ◌++◌, append_assoc}
use Rattle.std.proofs.lemmas.Bool.{le-leb, ne_eqb}
use Rattle.std.proofs.lemmas.List.{append_cancel_left}
use Rattle.std.proofs.lemmas.List.Elements.{All-contains, All-filter, All-head, All-push, All-tail, All-weaker, Contains-append_right}
use Rattle.std.proofs.lemmas.Option.{same_Some}
use Rattle.std.specs.Cmp.{nat_eq_equiv}
use Rattle.std.specs.List.{find}
use Rattle.capbits.specs.declared.ids.PassId.{PassId}
use Rattle.capstep.proofs.Taking.{own-head, own-tail}
use Rattle.capstep.specs.Numbers.{AreNumbered}
use Rattle.capstep.specs.Serving.{served}
use Rattle.capstep.specs.Step.{StepBy}
use Rattle.lockmachine.specs.Moves.{with_moved}
use Rattle.lockmachine.specs.Requests.{is_of_client}
use Rattle.lockmachine.specs.declared.moves.Move.TheVariants.{Settled}
use Rattle.capcore.proofs.Bounded.{direct-order}
use Rattle.capcore.proofs.Common.{Alter, As_judged, Awaits, Began, Begin, ClientId, Direct, DirectReply, End, Ended, Event, Gathered, Get, HaveOwnNumbers, Ino}
use Rattle.capcore.proofs.Common.{IsLockMap, IsOpening, Made, Makes, MakesAll, MayEndAs, Nodes, Operation, Outcome, Rename, Replays, Reply, Request, Rmdir}
use Rattle.capcore.proofs.Common.{Row, Scene, Serve, Served, State, Step, Ticket, Unlink, Waited, Without_memory, all_ended, awaited_as, child}
use Rattle.capcore.proofs.Common.{contains-filter, direct, earlier, effect, ended-waited, ended_in, enqueues, filter-contains, finished, first_move, found}
use Rattle.capcore.proofs.Common.{is_of_ticket, move_of, moved-all, next_request, no_moves, outcome_reply, reply_of, request_at, rows_of, shown, sized_in}
use Rattle.capcore.proofs.Common.{sizes_owed, state_after}
use Rattle.capcore.proofs.EndedIn.{own-numbers}
use Rattle.capcore.specs.SameEvents.{AllFoundMemory, FoundMemory, ends_of, events_of, passes_of}

-- ---- moves

-- a request that ended in both found no memory in both, or in neither
abbrev Agree : List Ended → List Ended → Type 0
Agree ms ns = (m n : Ended) → Contains ms m → Contains ns n → m.ticket ≡ n.ticket → (m.outcome ≡ Outcome.OutOfMemory) ↔ (n.outcome ≡ Outcome.OutOfMemory)

abbrev end_of : Request → Outcome → Ended
end_of q o = record { client = q.client; ticket = q.ticket; outcome = o }

-- who finds memory ends as it is judged, and who finds none in one way
ends-once : (s : Scene) (q : Request) (o x : Outcome) → MayEndAs s q o → MayEndAs s q x → (o ≡ Outcome.OutOfMemory) ↔ (x ≡ Outcome.OutOfMemory) → o ≡ x
ends-once s q o x (As_judged) (As_judged) alike = refl
ends-once s q o x (As_judged) (Without_memory nothing takes) alike = alike.1 refl
ends-once s q o x (Without_memory nothing takes) (As_judged) alike = sym (alike.0 refl)
ends-once s q o x (Without_memory nothing takes) (Without_memory nothing' takes') alike = refl

made-first : (s : Scene) (m : Made) (t : Scene) → Makes s m t → first_move s ≡ move_of m
made-first s m t made = grind arith

-- there is one move that may be made
made-once : (s : Scene) (m n : Made) (ms ns : List Made) (t u : Scene) → Makes s m t → Makes s n u → Agree (ended_in (m ∷ ms)) (ended_in (n ∷ ns)) → (m ≡ n) × (t ≡ u)
made-once s (Began i p to) (Began j r so) ms ns t u (first, is) (other, at) agree =
    let same : Begin i p to ≡ Begin j r so = sym first ∙ other in ((cc), is ∙ ap (with_moved s) same ∙ sym at)
made-once s (Gathered i p) (Gathered j r) ms ns t u (first, is) (other, at) agree =
    let same : End i p ≡ End j r = sym first ∙ other in ((cc), is ∙ ap (with_moved s) same ∙ sym at)
made-once s (Served q o) (Served r x) ms ns t u (first, waits, may, is) (other, wait, might, at) agree =
    let move : Serve q.ticket ≡ Serve r.ticket = sym first ∙ other in
    let ticket : q.ticket ≡ r.ticket = cc in
    let itself : q ≡ r = same_Some q r (sym waits ∙ ap (λ (t : Ticket). request_at s.locks t.0) ticket ∙ wait) in
    let alike = agree (end_of q o) (end_of r x) (0, omega arith, refl) (0, omega arith, refl) ticket in
    let end : o ≡ x = ends-once s r o x (subst (λ (y : Request). MayEndAs s y o) itself may) might alike in
    ((λ i. Served (itself i) (end i)), is ∙ (λ i. served s (itself i) (end i)) ∙ sym at)
made-once s m n ms ns t u one other agree = (let same : move_of m ≡ move_of n = sym (made-first s m t one) ∙ made-first s n u other in absurd (cc))

among-behind : (m : Made) (ms : List Made) (e : Ended) → Contains (ended_in ms) e → Contains (ended_in (m ∷ ms)) e
among-behind (Served q o) ms e inside = Contains-append_right (end_of q o ∷ []) (ended_in ms) e inside
among-behind m ms e inside = inside

-- so one list of moves settles
settled-once : (s : Scene) (ms ns : List Made) (t u : Scene) → MakesAll s ms t → first_move t ≡ Settled → MakesAll s ns u → first_move u ≡ Settled → Agree (ended_in ms) (ended_in ns) → (ms ≡ ns) × (t ≡ u)
settled-once s [] ns t u is rests made rest agree = (let none = no_moves s ns u (ap first_move (sym is) ∙ rests) made in (sym none.0, is ∙ sym none.1))
settled-once s (m ∷ ms) [] t u made rests at rest agree = (let none = no_moves s (m ∷ ms) t (ap first_move (sym at) ∙ rest) made in (none.0, none.1 ∙ sym at))
settled-once s (m ∷ ms) (n ∷ ns) t u (mid, one, more) rests (mid', other, more') rest agree =
    let head = made-once s m n ms ns mid mid' one other agree in
    let tail =
    settled-once mid' ms ns t u (subst (λ (x : Scene). MakesAll x ms t) head.1 more) rests more' rest
    (λ x y inside inside'. agree x y (among-behind m ms x inside) (among-behind n ns y inside')) in
    ((λ i. head.0 i ∷ tail.0 i), tail.1)

-- ---- the request of the event itself

-- it was numbered before, or the step answers it
abbrev Fits : State → Direct → Request → Type 0
Fits old d q = (q.ticket.0 ≤ old.scene.locks.last) ⊎ (d.reply_due ≡ Awaits q.ticket)

module _ (old : State) (order : IsLockMap old.scene.locks) where
  all-fit : (d : Direct) → All (Fits old d) old.scene.locks.queue
  all-fit d = All-weaker (λ (q : Request). (1 ≤ q.ticket.0) × (q.ticket.0 ≤ old.scene.locks.last)) (Fits old d) (λ q given. inl given.1) old.scene.locks.queue order.given

  found-fits : (o : Option ℕ) → All (Fits old (found old o)) (found old o).state.scene.locks.queue
  found-fits o = grind arith

  left-fits : (d : Direct) (client : ClientId) → All (Fits old d) (filter (λ q. not (is_of_client client q)) old.scene.locks.queue)
  left-fits d client = All-filter (λ q. not (is_of_client client q)) (Fits old d) old.scene.locks.queue (all-fit d)

  operation-fits : (client : ClientId) (ino : Ino) (operation : Operation) → All (Fits old (enqueues old client ino operation)) (enqueues old client ino operation).state.scene.locks.queue
  operation-fits client ino operation =
      All-push (Fits old (enqueues old client ino operation)) old.scene.locks.queue (next_request old.scene.locks client ino operation) (all-fit (enqueues old client ino operation)) (inr refl)

  effect-fits : (e : Event) → All (Fits old (effect old e)) (effect old e).state.scene.locks.queue
  effect-fits (Event.CloseSession client) = left-fits (effect old (Event.CloseSession client)) client
  effect-fits (Event.Evict client) = left-fits (effect old (Event.Evict client)) client
  effect-fits (Event.Lookup client dir name) = found-fits (child old.scene.tree.nodes dir.0 name)
  effect-fits (Event.Get client ino part) = operation-fits client ino (Get part)
  effect-fits (Event.Alter client ino change) = operation-fits client ino (Alter change)
  effect-fits (Event.Unlink client ino) = operation-fits client ino Unlink
  effect-fits (Event.Rmdir client ino) = operation-fits client ino Rmdir
  effect-fits (Event.Rename client ino dir name) = operation-fits client ino (Rename dir name)
  effect-fits e = all-fit (effect old e)

  direct-fits : (e : Event) → All (Fits old (direct old e)) (direct old e).state.scene.locks.queue
  direct-fits e = grind (arith, all-fit, effect-fits)

-- a request that ended is found by its number
found-own : (m : Ended) (ms : List Ended) → HaveOwnNumbers ms → Contains ms m → find (is_of_ticket m.ticket) ms ≡ Some m
found-own m [] differ (k, room, at) = absurd (omega arith)
found-own m (x ∷ xs) differ (zero, room, at) =
    let e : x ≡ m = at in rw e (ap (λ b. cond b (Some m) (find (is_of_ticket m.ticket) xs)) (nat_eq_equiv.refl m.ticket.0))
found-own m (x ∷ xs) differ (suc k, room, at) =
    let inside : Contains xs m = (k, omega arith, at) in
    let other = All-contains (λ (y : Ended). y.ticket.0 ≢ x.ticket.0) xs m (own-head x xs differ) inside in
    ap (λ b. cond b (Some x) (find (is_of_ticket m.ticket) xs)) (ne_eqb x.ticket.0 m.ticket.0 (λ same. other (sym same))) ∙ found-own m xs (own-tail x xs differ) inside

-- so two with the same number are one
own-one : (m n : Ended) (ms : List Ended) → HaveOwnNumbers ms → Contains ms m → Contains ms n → m.ticket ≡ n.ticket → m ≡ n
own-one m n ms differ inside inside' same =
    same_Some m n (sym (found-own m ms differ inside) ∙ ap (λ (t : Ticket). find (is_of_ticket t) ms) same ∙ found-own n ms differ inside')

-- one that is answered as out of memory ended so
short-answer : (t : Ticket) (o : Outcome) → unwrap_or (outcome_reply o) (Reply.Waiting t) ≡ Reply.OutOfMemory → o ≡ Outcome.OutOfMemory
short-answer t o is = grind arith

-- ---- the step

module _ (old : State) (e : Event) (order : IsLockMap old.scene.locks) where
  abbrev d : Direct
  d = direct old e

  -- those that the moves ended and that the row names
  abbrev named : List Made → List Ended
  named moves = earlier old.scene.locks.last (ended_in moves)

  module _ (moves : List Made) (reply : Reply) (dead : List Ended) (new : State) (by : StepBy old e moves reply dead new) where
    -- the row names each request that the moves ended, or it is the event's own
    ended-where : (m : Ended) → Contains (ended_in moves) m → Contains (named moves) m ⊎ (d.reply_due ≡ Awaits m.ticket)
    ended-where m inside =
        let queue = d.state.scene.locks.queue in
        let waits = All-contains (Waited queue) (ended_in moves) m (ended-waited d.state.scene moves by.settled by.settles.made) inside in
        elim (All-contains (Fits old d) queue waits.request (direct-fits old order e) waits.inside) as (λ _. Contains (named moves) m ⊎ (d.reply_due ≡ Awaits m.ticket)) [
          | inl less ↦ inl
              (filter-contains (λ (x : Ended). nat_le x.ticket.0 old.scene.locks.last) (ended_in moves) m inside
              (le-leb m.ticket.0 old.scene.locks.last (subst (λ (t : Ticket). t.0 ≤ old.scene.locks.last) (sym waits.ticket) less)))
          | inr awaits ↦ inr (awaits ∙ ap Awaits (sym waits.ticket))
        ]

    have-own : HaveOwnNumbers (ended_in moves)
    have-own = own-numbers d.state.scene moves by.settled by.settles.made

    -- and then the answer is how it ended
    ended-as : (m : Ended) → Contains (ended_in moves) m → d.reply_due ≡ Awaits m.ticket → reply ≡ awaited_as m.ticket (Some m)
    ended-as m inside awaits =
        by.reply_is ∙ ap (reply_of (state_after old d moves by.settled) (ended_in moves)) awaits ∙ ap (awaited_as m.ticket) (found-own m (ended_in moves) have-own inside)

    -- where the answer and the row say that memory was found, each that was served found it
    all-found : FoundMemory reply dead → (m : Ended) → Contains (ended_in moves) m → m.outcome ≢ Outcome.OutOfMemory
    all-found finds m inside =
        elim (ended-where m inside) as (λ _. m.outcome ≢ Outcome.OutOfMemory) [
          | inl kept ↦ All-contains (λ (x : Ended). x.outcome ≢ Outcome.OutOfMemory) dead m finds.each
              (subst (λ (xs : List Ended). Contains xs m) (sym by.ended_is) (Contains-append_right d.dropped (named moves) m kept))
          | inr awaits ↦ λ bad. finds.replied (ended-as m inside awaits ∙ ap (λ (o : Outcome). unwrap_or (outcome_reply o) (Reply.Waiting m.ticket)) bad)
        ]

  -- what found no memory in a step found none in one with the same row
  short-too : (moves others : List Made) (reply : Reply) (dead : List Ended) (new other : State) → StepBy old e moves reply dead new → StepBy old e others reply dead other
      → (m n : Ended) → Contains (ended_in moves) m → Contains (ended_in others) n → m.ticket ≡ n.ticket → m.outcome ≡ Outcome.OutOfMemory → n.outcome ≡ Outcome.OutOfMemory
  short-too moves others reply dead new other by by' m n inside inside' same bad =
      elim (ended-where moves reply dead new by m inside) as (λ _. n.outcome ≡ Outcome.OutOfMemory) [
        | inl kept ↦ (let alike : named moves ≡ named others = append_cancel_left d.dropped (named moves) (named others) (sym by.ended_is ∙ by'.ended_is) in
            let there : Contains (ended_in others) m =
            contains-filter (λ (x : Ended). nat_le x.ticket.0 old.scene.locks.last) (ended_in others) m (subst (λ (xs : List Ended). Contains xs m) alike kept) in
            ap (λ (x : Ended). x.outcome) (sym (own-one m n (ended_in others) (have-own others reply dead other by') there inside' same)) ∙ bad)
        | inr awaits ↦ short-answer n.ticket n.outcome
            (sym (ended-as others reply dead other by' n inside' (awaits ∙ ap Awaits same))
            ∙ ended-as moves reply dead new by m inside awaits
            ∙ ap (λ (o : Outcome). unwrap_or (outcome_reply o) (Reply.Waiting m.ticket)) bad)
      ]

  -- so a step has the same moves and the same end
  same-step : (moves others : List Made) (a b : Reply) (xs ys : List Ended) (new other : State) → StepBy old e moves a xs new → StepBy old e others b ys other → Agree (ended_in moves) (ended_in others)
      → (moves ≡ others) × (a ≡ b) × (xs ≡ ys) × (new ≡ other)
  same-step moves others a b xs ys new other by by' agree =
      let once =
      settled-once d.state.scene moves others by.settled by'.settled by.settles.made by.settles.settled by'.settles.made by'.settles.settled agree in
      let ms : moves ≡ others = once.0 in
      let ends : by.settled ≡ by'.settled = once.1 in (
        ms,
        by.reply_is ∙ (λ i. reply_of (state_after old d (ms i) (ends i)) (ended_in (ms i)) d.reply_due) ∙ sym by'.reply_is,
        by.ended_is ∙ ap (all_ended old d) ms ∙ sym by'.ended_is,
        by.new_is ∙ (λ i. shown d.reply_due (state_after old d (ms i) (ends i))) ∙ sym by'.new_is,
      )

  -- where all find memory, it has one answer, ends the same requests and leads to the same state
  pub step-once : (a b : Reply) (xs ys : List Ended) (new other : State) → Step old e a xs new → Step old e b ys other → FoundMemory a xs → FoundMemory b ys → (a ≡ b) × (xs ≡ ys) × (new ≡ other)
  step-once a b xs ys new other (moves, by) (others, by') finds again =
      let same =
      same-step moves others a b xs ys new other by by'
      (λ m n inside inside' number. (λ bad. absurd (all-found moves a xs new by finds m inside bad), λ bad. absurd (all-found others b ys other by' again n inside' bad))) in
      (same.1, same.2, same.3)

  -- and where its row says the same, it has the same moves
  pub row-once : (moves others : List Made) (reply : Reply) (dead : List Ended) (new other : State) → StepBy old e moves reply dead new → StepBy old e others reply dead other → (moves ≡ others) × (new ≡ other)
  row-once moves others reply dead new other by by' =
      let same =
      same-step moves others reply reply dead dead new other by by'
      (λ m n inside inside' number. (
        short-too moves others reply dead new other by by' m n inside inside' number,
        short-too others moves reply dead other new by' by n m inside' inside (sym number),
      )) in
      (same.0, same.3)

  shown-order : (a : DirectReply) (last : State) → IsLockMap last.scene.locks → IsLockMap (shown a last).scene.locks
  shown-order a last kept = grind arith

  -- and leaves the requests in order
  pub step-order : (a : Reply) (xs : List Ended) (new : State) → Step old e a xs new → IsLockMap new.scene.locks
  step-order a xs new (moves, by) =
      let moved = (moved-all d.state.scene moves by.settled by.settles.made).order (direct-order old e order) in
      let kept : IsLockMap (finished old.scene d.state.scene (sizes_owed (sized_in moves) by.settled)).locks = record { rising = moved.rising; given = moved.given; room = moved.room } in
      subst (λ (s : State). IsLockMap s.scene.locks) (sym by.new_is) (shown-order d.reply_due (state_after old d moves by.settled) kept)

-- ---- so the rows of a history lead to one state; and where no request finds no memory, its events say all that is in it

-- rows lead to one state
pub rows-once : (first last end : State) (rows : List Row) → IsLockMap first.scene.locks → Replays first rows last → Replays first rows end → last ≡ end
rows-once first last end [] order is at = is ∙ sym at
rows-once first last end (r ∷ rs) order (mid, (moves, by), rest) (mid', (others, by'), rest') =
    let same = (row-once first r.event order moves others r.reply r.ended mid mid' by by').1 in
    rows-once mid' last end rs (step-order first r.event order r.reply r.ended mid' (others, by')) (subst (λ (s : State). Replays s rs last) same rest) rest'

-- where all find memory, rows with the same events have the same ends, and lead to the same state
pub same-ends : (first last end : State) (rows others : List Row) → IsLockMap first.scene.locks → Replays first rows last → Replays first others end → events_of rows ≡ events_of others
    → AllFoundMemory rows → AllFoundMemory others → (ends_of rows ≡ ends_of others) × (last ≡ end)
same-ends first last end [] [] order is at same finds again = (refl, is ∙ sym at)
same-ends first last end (r ∷ rs) (q ∷ qs) order (mid, step, rest) (mid', step', rest') same finds again =
    let event : r.event ≡ q.event = cc in
    let behind : events_of rs ≡ events_of qs = cc in
    let found = λ (row : Row). FoundMemory row.reply row.ended in
    let once = step-once first q.event order r.reply q.reply r.ended q.ended mid mid' (subst (λ (e : Event). Step first e r.reply r.ended mid) event step) step' (All-head found r rs finds) (All-head found q qs again) in
    let more =
    same-ends mid' last end rs qs (step-order first q.event order q.reply q.ended mid' step') (subst (λ (s : State). Replays s rs last) once.2 rest) rest' behind
    (All-tail found r rs finds) (All-tail found q qs again) in
    ((λ i. (once.0 i, once.1 i) ∷ more.0 i), more.1)
same-ends first last end rows others order is at same finds again = absurd (cc)

-- rows that are numbered behind the same rows are the same where what they say and who called is
pub same-rows : (before rows others : List Row) → AreNumbered (before ++ rows) → AreNumbered (before ++ others) → passes_of rows ≡ passes_of others → events_of rows ≡ events_of others
    → ends_of rows ≡ ends_of others → rows ≡ others
same-rows before [] [] numbered again passes events ends = refl
same-rows before (r ∷ rs) (q ∷ qs) numbered again passes events ends =
    let pass : r.pass ≡ q.pass = cc in
    let event : r.event ≡ q.event = cc in
    let end : ◌≡◌ {A = Reply × List Ended} (r.reply, r.ended) (q.reply, q.ended) = cc in
    let nth : r.nth ≡ q.nth = numbered before rs r refl ∙ ap (λ (p : PassId). rows_of p before + 1) pass ∙ sym (again before qs q refl) in
    let row : r ≡ q = λ i. record { pass = pass i; nth = nth i; event = event i; reply = (end i).0; ended = (end i).1 } in
    let more : rs ≡ qs =
    same-rows (before ++ q ∷ []) rs qs (subst AreNumbered (ap (λ (x : Row). before ++ x ∷ rs) row ∙ sym (append_assoc before (q ∷ []) rs)) numbered)
    (subst AreNumbered (sym (append_assoc before (q ∷ []) qs)) again) (cc) (cc) (cc) in
    λ i. row i ∷ more i
same-rows before rows others numbered again passes events ends = absurd (cc)

-- nobody waits at an opening
pub opening-order : (fs : List ℕ) (tree : Nodes) (s : State) → IsOpening fs tree s → IsLockMap s.scene.locks
opening-order fs tree s is = grind arith
