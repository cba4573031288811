-- The numbers of the requests of whose ends messages tell.
use Rattle.std.proofs.Common.{◌≡◌, ℕ, ◌+◌, ◌==◌, ◌||◌, ◌&&◌, ◌<◌, Bool, true, false, not, if◌then◌else◌, inl, inr, List, [], ◌∷◌, filter, length, take, get_or}
use Rattle.std.proofs.Common.{Result, Ok, Err, is_ok, refl, sym, ap, ◌∙◌, arith}
use Rattle.std.proofs.lemmas.Bool.{cases_lt, eq-eqb, ne_eqb}
use Rattle.std.proofs.lemmas.List.{get_or_default}
use Rattle.std.proofs.lemmas.List.Folds.{list_any_at, list_any_more, list_any_none}
use Rattle.std.proofs.lemmas.List.Sorted.{searched}
use Rattle.std.specs.List.{list_any}
use Rattle.std.specs.List.Sorted.{IsBinarySearchResult, IsNonDecreasing}
use Rattle.std.specs.Ordering.{nat_cmp}
use Rattle.capbits.specs.declared.ids.ClientId.{ClientId}
use Rattle.capbits.specs.declared.ids.Ticket.{Ticket}
use Rattle.capstep.specs.declared.outcome.Ended.{Ended}
use Rattle.capstep.specs.declared.outcome.Message.{Message}
use Rattle.capstep.specs.DueEndings.{AreEndsOf, is_end_of, is_left, is_to}

-- the numbers of some messages, and of one more
pub told-more : (messages : List Message) (i : ℕ) (d : Message) (numbers more : List ℕ) → i < length messages → AreEndsOf (take i messages) numbers
    → ((ticket : Ticket) → list_any (λ number. number == ticket.0) more ≡ (list_any (λ number. number == ticket.0) numbers || is_end_of ticket (get_or messages i d)))
    → AreEndsOf (take (i + 1) messages) more
told-more messages i d numbers more inside before now = λ ticket.
    now ticket ∙ ap (λ told. told || is_end_of ticket (get_or messages i d)) (before ticket) ∙ sym (list_any_more (is_end_of ticket) messages i d inside)

-- among numbers that rise, a search finds just those that are there
pub found : (numbers : List ℕ) (x : ℕ) (r : Result ℕ ℕ) → IsNonDecreasing numbers → IsBinarySearchResult (λ number. nat_cmp number x) numbers r
    → is_ok r ≡ list_any (λ number. number == x) numbers
found numbers x (Ok i) rise ends =
    let at = searched numbers x (Ok i) ends (λ i j below inside. rise i j 0 below inside) in
    sym (list_any_at (λ number. number == x) numbers i 0 at.0 (eq-eqb (get_or numbers i 0) x at.1))
found numbers x (Err i) rise ends =
    let gap = searched numbers x (Err i) ends (λ i j below inside. rise i j 0 below inside) in
    sym (list_any_none (λ number. number == x) numbers (λ k d inside. ne_eqb (get_or numbers k d) x (elim (cases_lt k i) [
      | inl below ↦ λ same. absurd (omega (arith, same, gap.1 k below, get_or_default numbers k d 0 inside))
      | inr above ↦ λ same. absurd (omega (arith, same, gap.2 k (omega arith) inside, get_or_default numbers k d 0 inside))
    ])))

-- what is of some client, and not told, is left
not_told : (b : Bool) → not (b && false) ≡ true
not_told b = grind arith

-- where no number is told, all are left
pub all_left : (client : ClientId) (given : List Message) (numbers : List ℕ) (items : List Ended) → length numbers < 1 → AreEndsOf given numbers
    → items ≡ filter (is_left client given) items
all_left client given numbers [] none ends = refl
all_left client given (number ∷ numbers) (m ∷ items) none ends = absurd (omega (arith, none))
all_left client given [] (m ∷ items) none ends =
    let left : is_left client given m ≡ true = ap (λ told. not (is_to client m && told)) (sym (ends m.ticket)) ∙ not_told (is_to client m) in
    ap (λ rest. m ∷ rest) (all_left client given [] items none ends)
    ∙ sym (ap (λ b. if b then m ∷ filter (is_left client given) items else filter (is_left client given) items) left)
