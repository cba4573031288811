-- The numbers of the requests that a settling ends.
use Rattle.std.proofs.Common.{◌≡◌, ◌≢◌, ◌≤◌, ℕ, suc, ◌+◌, ◌==◌, Bool, true, false, not, cond, List, [], ◌∷◌, refl, sym, ap, subst, ◌∙◌, All, Contains, arith}
use Rattle.std.proofs.Common.{true≢false, nat_le, filter}
use Rattle.std.proofs.lemmas.Bool.{eqb-false, eqb-true, le-leb, lt-leb}
use Rattle.std.proofs.lemmas.List.Elements.{All-contains, All-head, All-tail, All-weaker, filter_passes}
use Rattle.std.proofs.lemmas.List.Kept.{AllPairs-cons}
use Rattle.std.specs.Cmp.{nat_eq_equiv}
use Rattle.capcore.proofs.Common.{Ended, HaveOwnNumbers, IsLockMap, Made, Makes, MakesAll, Request, Scene, Served, Ticket, Waited, but_for, earlier}
use Rattle.capcore.proofs.Common.{ended-waited, ended_in, is_numbered}

-- ---- lists that are filtered alike

same-filter : (p q : Ended → Bool) (ms : List Ended) → All (λ m. p m ≡ q m) ms → filter p ms ≡ filter q ms
same-filter p q [] all = refl
same-filter p q (m ∷ ms) all =
    ap (λ b. cond b (m ∷ filter p ms) (filter p ms)) (All-head (λ m. p m ≡ q m) m ms all)
    ∙ ap (λ rest. cond (q m) (m ∷ rest) rest) (same-filter p q ms (All-tail (λ m. p m ≡ q m) m ms all))

pub all_pass : {X : Type 0} (p : X → Bool) (xs : List X) → ((x : X) → Contains xs x → p x ≡ true) → filter p xs ≡ xs
all_pass p [] passes = refl
all_pass p (x ∷ xs) passes =
    ap (λ b. cond b (x ∷ filter p xs) (filter p xs)) (passes x (0, omega arith, refl))
    ∙ ap (λ rest. x ∷ rest) (all_pass p xs (λ y (inside : Contains xs y). passes y (suc inside.0, omega (arith, inside.1), inside.2)))

-- ---- all were given

module _ (first settled : Scene) (moves : List Made) (made : MakesAll first moves settled) (order : IsLockMap first.locks) where
  -- no number is above the last
  below : All (λ m. m.ticket.0 ≤ first.locks.last) (ended_in moves)
  below =
      All-weaker (Waited first.locks.queue) (λ m. m.ticket.0 ≤ first.locks.last)
      (λ m waited. let given = All-contains (λ (q : Request). (1 ≤ q.ticket.0) × (q.ticket.0 ≤ first.locks.last)) first.locks.queue waited.request order.given waited.inside in
      omega (arith, given.1, ap (λ (t : Ticket). t.0) waited.ticket)) (ended_in moves) (ended-waited first moves settled made)

  -- so where the step gave none, all are of earlier steps
  pub earlier-all : earlier first.locks.last (ended_in moves) ≡ ended_in moves
  earlier-all =
      all_pass (λ m. nat_le m.ticket.0 first.locks.last) (ended_in moves)
      (λ m inside. le-leb m.ticket.0 first.locks.last (All-contains (λ m. m.ticket.0 ≤ first.locks.last) (ended_in moves) m below inside))

  -- and where it gave one, all but that
  pub earlier-but_own : (last : ℕ) (own : Ticket) → own.0 ≡ last + 1 → first.locks.last ≡ last + 1 → earlier last (ended_in moves) ≡ but_for own (ended_in moves)
  earlier-but_own last own next given = grind (arith, same-filter, All-weaker, below, lt-leb, eqb-true, le-leb, eqb-false)

-- ---- no two have the same number

pub own-numbers : (s : Scene) (ms : List Made) (t : Scene) → MakesAll s ms t → HaveOwnNumbers (ended_in ms)
own-numbers s [] t is = λ i j d less room. absurd (omega arith)
own-numbers s (m ∷ ms) t (mid, one, rest) = by_move m one (own-numbers mid ms t rest)
  where
    by_move : (m : Made) → Makes s m mid → HaveOwnNumbers (ended_in ms) → HaveOwnNumbers (ended_in (m ∷ ms))
    by_move (Served q o) (first, found, may, is) others =
        AllPairs-cons (λ (earlier later : Ended). later.ticket.0 ≢ earlier.ticket.0) (record { client = q.client; ticket = q.ticket; outcome = o }) (ended_in ms)
        (All-weaker (Waited mid.locks.queue) (λ other. other.ticket.0 ≢ q.ticket.0) other_number (ended_in ms) (ended-waited mid ms t rest)) others
      where
        number_not : (r : Request) → not (is_numbered q.ticket.0 r) ≡ true → r.ticket.0 ≢ q.ticket.0
        number_not r passes same = absurd (true≢false (sym passes ∙ ap not (ap (λ n. n == q.ticket.0) same ∙ nat_eq_equiv.refl q.ticket.0)))

        other_number : (other : Ended) → Waited mid.locks.queue other → other.ticket.0 ≢ q.ticket.0
        other_number other waited =
            let left : List Request → List Request = filter (λ r. not (is_numbered q.ticket.0 r)) in
            let queue : mid.locks.queue ≡ left s.locks.queue = ap (λ (x : Scene). x.locks.queue) is in
            let passes = All-contains (λ (r : Request). not (is_numbered q.ticket.0 r) ≡ true) (left s.locks.queue) waited.request
            (filter_passes (λ r. not (is_numbered q.ticket.0 r)) s.locks.queue) (subst (λ (rs : List Request). Contains rs waited.request) queue waited.inside) in
            let number : other.ticket.0 ≡ waited.request.ticket.0 = ap (λ (t : Ticket). t.0) waited.ticket in
            λ same. number_not waited.request passes (sym number ∙ same)
    by_move m one others = others
