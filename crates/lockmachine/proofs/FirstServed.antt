-- Of the requests for the locks of an inode only the first for each may be served: so the first of those that may is one of four.
use Rattle.std.proofs.Common.{◌≡◌, ℕ, ◌≤◌, Bool, true, false, cond, ◌&&◌, ◌==◌, Option, Some, None, refl, sym, ap, ◌∙◌, Contains, true≢false, arith}
use Rattle.std.specs.Prelude.{IfSome, nat_le}
use Rattle.std.specs.Bool.{then_some}
use Rattle.std.specs.List.{find}
use Rattle.std.specs.Option.{option_map, option_map_or}
use Rattle.std.specs.Cmp.{nat_eq_equiv}
use Rattle.std.proofs.lemmas.Bool.{and_from, and_parts, eqb-true, le-leb, leb-true}
use Rattle.capbits.specs.declared.cap.Part.{Part}
use Rattle.capbits.specs.declared.cap.Part.TheVariants.{A, F, L, X}
use Rattle.capbits.specs.declared.ids.Ticket.{Ticket}
use Rattle.captable.proofs.Searches.{find_passes}
use Rattle.lockmachine.specs.declared.request.Request.{Request}
use Rattle.lockmachine.specs.declared.waiters.Waiter.{Waiter}
use Rattle.lockmachine.specs.Requests.{first_for, is_for, is_numbered, part_of_operation, same_part, waits_for}
use Rattle.lockmachine.specs.Locks.{IsLockMap, LockMap, request_at}
use Rattle.lockmachine.specs.Moves.{is_first, is_servable, may_serve}
use Rattle.lockmachine.specs.Cursors.{served_of}
use Rattle.lockmachine.specs.Waiters.{earlier, waiter_of}
use Rattle.lockmachine.proofs.Finding.{fails_at}
use Rattle.lockmachine.proofs.Queue.{IsLeast, found_by_number, least}
use Rattle.lockmachine.proofs.Rest.{same_part_is}

-- ---- the least of four numbers

-- the number is at least this one, where there is one
abbrev IsFrom : ℕ → Option Ticket → Type 0
IsFrom n o = IfSome o (λ t. n ≤ t.0)

earlier-from : (n : ℕ) (a b : Option Ticket) → IsFrom n a → IsFrom n b → IsFrom n (earlier a b)
earlier-from n None b of_a of_b = of_b
earlier-from n (Some a) None of_a of_b = of_a
earlier-from n (Some a) (Some b) of_a of_b = elim (nat_le a.0 b.0) as (λ c. n ≤ (cond c a b).0) [ true ↦ of_a | false ↦ of_b ]

earlier-left : (t : Ticket) (b : Option Ticket) → IsFrom t.0 b → earlier (Some t) b ≡ Some t
earlier-left t None of_b = refl
earlier-left t (Some b) of_b = ap (λ c. Some (cond c t b)) (le-leb t.0 b.0 of_b)

earlier-right : (a : Option Ticket) (t : Ticket) → IsFrom t.0 a → earlier a (Some t) ≡ Some t
earlier-right None t of_a = refl
earlier-right (Some a) t of_a = elim (nat_le a.0 t.0) as (λ c. nat_le a.0 t.0 ≡ c → Some (cond c a t) ≡ Some t) [
  | true ↦ λ is. (
      let below : a.0 ≤ t.0 = leb-true a.0 t.0 is in
      let above : t.0 ≤ a.0 = of_a in
      let same : a.0 ≡ t.0 = omega arith in
      ap (λ (n : ℕ). Some (record { 0 = n })) same
      )
  | false ↦ λ is. refl
] refl

least_of_four : (number : Part → Option Ticket) (t : Ticket) → ((part : Part) → IsFrom t.0 (number part)) → (part : Part) → number part ≡ Some t
    → earlier (earlier (number A) (number L)) (earlier (number X) (number F)) ≡ Some t
least_of_four number t from A is =
    ap (λ o. earlier (earlier o (number L)) (earlier (number X) (number F))) is ∙ ap (λ o. earlier o (earlier (number X) (number F))) (earlier-left t (number L) (from L))
    ∙ earlier-left t (earlier (number X) (number F)) (earlier-from t.0 (number X) (number F) (from X) (from F))
least_of_four number t from L is =
    ap (λ o. earlier (earlier (number A) o) (earlier (number X) (number F))) is ∙ ap (λ o. earlier o (earlier (number X) (number F))) (earlier-right (number A) t (from A))
    ∙ earlier-left t (earlier (number X) (number F)) (earlier-from t.0 (number X) (number F) (from X) (from F))
least_of_four number t from X is =
    ap (λ o. earlier (earlier (number A) (number L)) (earlier o (number F))) is ∙ ap (earlier (earlier (number A) (number L))) (earlier-left t (number F) (from F))
    ∙ earlier-right (earlier (number A) (number L)) t (earlier-from t.0 (number A) (number L) (from A) (from L))
least_of_four number t from F is =
    ap (λ o. earlier (earlier (number A) (number L)) (earlier (number X) o)) is ∙ ap (earlier (earlier (number A) (number L))) (earlier-right (number X) t (from X))
    ∙ earlier-right (earlier (number A) (number L)) t (earlier-from t.0 (number A) (number L) (from A) (from L))

pub of_each : {a b c a' b' : Option Ticket} → c ≡ earlier a b → a ≡ a' → b ≡ b' → c ≡ earlier a' b'
of_each is one other = is ∙ (λ i. earlier (one i) (other i))

-- ---- who may be served

-- the number of the first for a lock, by its waiter
pub served-is : (locks : LockMap) (o : Option Request) (w : Waiter) → option_map waiter_of o ≡ Some w → (b : Bool)
    → ((q : Request) → waiter_of q ≡ w → b ≡ is_servable locks q) → then_some b w.ticket ≡ served_of locks o
served-is locks None w is b says = absurd (cc)
served-is locks (Some q) w is b says =
    let same : waiter_of q ≡ w = cc in
    ap (λ c. then_some c w.ticket) (says q same) ∙ sym (ap (λ (v : Waiter). then_some (is_servable locks q) v.ticket) same)
    ∙ elim (is_servable locks q) as (λ c. then_some c q.ticket ≡ cond c (Some q.ticket) None) [ true ↦ refl | false ↦ refl ]

pub none-served : (locks : LockMap) (o : Option Request) → option_map waiter_of o ≡ None → None ≡ served_of locks o
none-served locks None is = refl
none-served locks (Some q) is = absurd (cc)

module _ (locks : LockMap) (sound : IsLockMap locks) (ino : ℕ) where
  abbrev may : Request → Bool
  may q = waits_for ino q && may_serve locks q

  abbrev number : Part → Option Ticket
  number part = served_of locks (first_for locks.queue ino part)

  -- the first for a lock that serves it may be served
  first-may : (part : Part) (q : Request) → first_for locks.queue ino part ≡ Some q → is_servable locks q ≡ true → may q ≡ true
  first-may part q is serves =
      let for = and_parts (q.ino.0 == ino) (same_part (part_of_operation q.operation) part) (find_passes (is_for ino part) locks.queue q is) in
      let here : q.ino.0 ≡ ino = eqb-true q.ino.0 ino for.0 in
      let own : part_of_operation q.operation ≡ part = same_part_is (part_of_operation q.operation) part for.1 in
      let front : first_for locks.queue q.ino.0 (part_of_operation q.operation) ≡ Some q = ap (λ n. first_for locks.queue n (part_of_operation q.operation)) here ∙ ap (first_for locks.queue ino) own ∙ is in
      let leads : is_first locks.queue q ≡ true = ap (λ o. option_map_or (is_numbered q.ticket.0) o false) front ∙ nat_eq_equiv.refl q.ticket.0 in
      and_from (waits_for ino q) (may_serve locks q) for.0 (and_from (is_first locks.queue q) (is_servable locks q) leads serves)

  -- and who may is the first for its lock
  is-first : (q : Request) → Contains locks.queue q → is_first locks.queue q ≡ true → first_for locks.queue q.ino.0 (part_of_operation q.operation) ≡ Some q
  is-first q inside leads = by_first (first_for locks.queue q.ino.0 (part_of_operation q.operation)) refl leads
    where
      by_first : (o : Option Request) → first_for locks.queue q.ino.0 (part_of_operation q.operation) ≡ o → option_map_or (is_numbered q.ticket.0) o false ≡ true → o ≡ Some q
      by_first None is numbered = absurd (cc)
      by_first (Some r) is numbered =
          let there = least (is_for q.ino.0 (part_of_operation q.operation)) locks.queue r sound.rising is in
          let same : r.ticket.0 ≡ q.ticket.0 = eqb-true r.ticket.0 q.ticket.0 numbered in
          let both : Some r ≡ Some q = sym (found_by_number locks r sound there.waits) ∙ ap (request_at locks) same ∙ found_by_number locks q sound inside in
          both

  none-of-four : find may locks.queue ≡ None → (part : Part) → number part ≡ None
  none-of-four none part = by_first (first_for locks.queue ino part) refl
    where
      by_first : (o : Option Request) → first_for locks.queue ino part ≡ o → served_of locks o ≡ None
      by_first None is = refl
      by_first (Some q) is = elim (is_servable locks q) as (λ b. is_servable locks q ≡ b → cond b (Some q.ticket) None ≡ None) [
        | true ↦ λ serves. (
            let there = least (is_for ino part) locks.queue q sound.rising is in
            absurd (true≢false (sym (first-may part q is serves) ∙ fails_at may locks.queue none q there.waits))
            )
        | false ↦ λ _. refl
      ] refl

  from-least : (q : Request) → IsLeast may locks.queue q → (part : Part) → IsFrom q.ticket.0 (number part)
  from-least q lowest part = by_first (first_for locks.queue ino part) refl
    where
      by_first : (o : Option Request) → first_for locks.queue ino part ≡ o → IsFrom q.ticket.0 (served_of locks o)
      by_first None is = tt
      by_first (Some r) is = elim (is_servable locks r) as (λ b. is_servable locks r ≡ b → IsFrom q.ticket.0 (cond b (Some r.ticket) None)) [
        | true ↦ λ serves. (
            let there = least (is_for ino part) locks.queue r sound.rising is in
            lowest.least r there.waits (first-may part r is serves)
            )
        | false ↦ λ _. tt
      ] refl

  own-number : (q : Request) → IsLeast may locks.queue q → number (part_of_operation q.operation) ≡ Some q.ticket
  own-number q lowest =
      let here = and_parts (waits_for ino q) (may_serve locks q) lowest.passes in
      let both = and_parts (is_first locks.queue q) (is_servable locks q) here.1 in
      let front : first_for locks.queue q.ino.0 (part_of_operation q.operation) ≡ Some q = is-first q lowest.waits both.0 in
      ap (λ n. served_of locks (first_for locks.queue n (part_of_operation q.operation))) (sym (eqb-true q.ino.0 ino here.0)) ∙ ap (served_of locks) front
      ∙ ap (λ b. cond b (Some q.ticket) None) both.1

  pub first_of_four : earlier (earlier (served_of locks (first_for locks.queue ino A)) (served_of locks (first_for locks.queue ino L)))
      (earlier (served_of locks (first_for locks.queue ino X)) (served_of locks (first_for locks.queue ino F)))
      ≡ option_map (λ (q : Request). q.ticket) (find (λ q. waits_for ino q && may_serve locks q) locks.queue)
  first_of_four = by_found (find may locks.queue) refl
    where
      by_found : (o : Option Request) → find may locks.queue ≡ o → earlier (earlier (number A) (number L)) (earlier (number X) (number F)) ≡ option_map (λ (q : Request). q.ticket) o
      by_found None none =
          ap (λ o. earlier (earlier o (number L)) (earlier (number X) (number F))) (none-of-four none A)
          ∙ ap (λ o. earlier o (earlier (number X) (number F))) (none-of-four none L)
          ∙ ap (λ o. earlier o (number F)) (none-of-four none X) ∙ none-of-four none F
      by_found (Some q) found =
          let lowest = least may locks.queue q sound.rising found in
          least_of_four number q.ticket (from-least q lowest) (part_of_operation q.operation) (own-number q lowest)
