-- What a number takes out of the requests that ended.
use Rattle.std.proofs.Common.{◌≡◌, ◌≢◌, ℕ, zero, suc, ◌==◌, ◌<◌, not, cond, Some, None, List, [], ◌∷◌, length, get_or, refl, sym, ap, ◌∙◌, All, arith, filter}
use Rattle.std.proofs.lemmas.Bool.{eqb-true, ne_eqb}
use Rattle.std.proofs.lemmas.List.Elements.{All-head, All-tail}
use Rattle.std.proofs.lemmas.List.Folds.{find_at}
use Rattle.std.proofs.lemmas.Option.{slice_get-get_or}
use Rattle.std.specs.Cmp.{nat_eq_equiv}
use Rattle.std.specs.List.{find, position, remove, slice_get}
use Rattle.capbits.specs.declared.ids.Ticket.{Ticket}
use Rattle.captable.proofs.Searches.{find_passes}
use Rattle.lockmachine.proofs.Positions.{at_position}
use Rattle.lockmachine.proofs.Rest.{not_found}
use Rattle.capstep.specs.declared.outcome.Ended.{Ended}
use Rattle.capstep.specs.DueEndings.{HaveOwnNumbers, but_for, is_of_ticket}

-- none of the others has the number of the first
pub own-head : (m : Ended) (ms : List Ended) → HaveOwnNumbers (m ∷ ms) → All (λ other. other.ticket.0 ≢ m.ticket.0) ms
own-head m ms differ = λ k d room. differ 0 (suc k) d (omega arith) (omega arith)

pub own-tail : (m : Ended) (ms : List Ended) → HaveOwnNumbers (m ∷ ms) → HaveOwnNumbers ms
own-tail m ms differ = λ i j d less room. differ (suc i) (suc j) d (omega arith) (omega arith)

-- where none has the number, all are left
all_others : (t : Ticket) (ms : List Ended) → All (λ m. m.ticket.0 ≢ t.0) ms → but_for t ms ≡ ms
all_others t [] all = refl
all_others t (m ∷ ms) all =
    ap (λ b. cond (not b) (m ∷ but_for t ms) (but_for t ms)) (ne_eqb m.ticket.0 t.0 (All-head (λ m. m.ticket.0 ≢ t.0) m ms all))
    ∙ ap (λ rest. m ∷ rest) (all_others t ms (All-tail (λ m. m.ticket.0 ≢ t.0) m ms all))

pub none_taken : (t : Ticket) (ms : List Ended) → find (is_of_ticket t) ms ≡ None → ms ≡ but_for t ms
none_taken t [] none = refl
none_taken t (m ∷ ms) none =
    let n = not_found (is_of_ticket t) m ms none in
    sym (ap (λ b. cond (not b) (m ∷ but_for t ms) (but_for t ms)) n.0 ∙ ap (λ rest. m ∷ rest) (sym (none_taken t ms n.1)))

-- one that is removed from its place is taken out alone
removed : (ms : List Ended) → HaveOwnNumbers ms → (i : ℕ) (own : Ended) → i < length ms → get_or ms i own ≡ own → remove ms i ≡ but_for own.ticket ms
removed [] differ i own room at = absurd (omega arith)
removed (m ∷ ms) differ zero own room at =
    let e : m ≡ own = at in
    sym
    (ap (λ (x : Ended). but_for own.ticket (x ∷ ms)) e
    ∙ ap (λ b. cond (not b) (own ∷ but_for own.ticket ms) (but_for own.ticket ms)) (nat_eq_equiv.refl own.ticket.0)
    ∙ all_others own.ticket ms (rw (← e) (own-head m ms differ)))
removed (m ∷ ms) differ (suc k) own room at =
    let other : own.ticket.0 ≢ m.ticket.0 = (let h = own-head m ms differ k own (omega arith) in rw (← at) h) in
    ap (λ rest. m ∷ rest) (removed ms (own-tail m ms differ) k own (omega arith) at)
    ∙ sym (ap (λ b. cond (not b) (m ∷ but_for own.ticket ms) (but_for own.ticket ms)) (ne_eqb m.ticket.0 own.ticket.0 (λ same. other (sym same))))

pub taken : (ms : List Ended) (t : Ticket) (i : ℕ) (own : Ended) → HaveOwnNumbers ms → position (is_of_ticket t) ms ≡ Some i → own ≡ get_or ms i own
    → (find (is_of_ticket t) ms ≡ Some own) × (remove ms i ≡ but_for t ms)
taken ms t i own differ at is =
    let place = at_position (is_of_ticket t) ms i at in
    let room : i < length ms = rw place.0 place.1 in
    let found : find (is_of_ticket t) ms ≡ Some own = find_at (is_of_ticket t) ms ∙ ap (slice_get ms) (sym place.0) ∙ slice_get-get_or ms i own room ∙ ap Some (sym is) in
    let number : own.ticket.0 ≡ t.0 = eqb-true own.ticket.0 t.0 (find_passes (is_of_ticket t) ms own found) in
    (found, removed ms differ i own room (sym is) ∙ ap (λ n. filter (λ (m : Ended). not (m.ticket.0 == n)) ms) number)
