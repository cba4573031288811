-- The requests of a client are dropped.
use Rattle.std.proofs.Common.{◌≡◌, ℕ, ◌+◌, ◌≤◌, true, false, not, cond, List, [], ◌∷◌, length, take, refl, arith, filter}
use Rattle.std.proofs.lemmas.List.{length-take-le}
use Rattle.std.specs.Prelude.{map as each}
use Rattle.capstep.specs.declared.outcome.Ended.{Ended}
use Rattle.capstep.specs.Serving.{dropped_of}
use Rattle.step_acts.proofs.Common.{ClientId, Request, is_of_client}

-- those of a client among these requests, dropped
abbrev pub dropped_among : ClientId → List Request → List Ended
dropped_among client qs = each dropped_of (filter (is_of_client client) qs)

-- each request is the client's or another's
pub dropped-count : (client : ClientId) (qs : List Request) → length (dropped_among client qs) + length (filter (λ q. not (is_of_client client q)) qs) ≡ length qs
dropped-count client [] = refl
dropped-count client (q ∷ qs) =
    let rest = dropped-count client qs in
    elim (is_of_client client q) as (λ b. length (each dropped_of (cond b (q ∷ filter (is_of_client client) qs) (filter (is_of_client client) qs)))
    + length (cond (not b) (q ∷ filter (λ q. not (is_of_client client q)) qs) (filter (λ q. not (is_of_client client q)) qs)) ≡ length (q ∷ qs)) [
      | true ↦ omega (arith, rest)
      | false ↦ omega (arith, rest)
    ]

-- so at most as many are the client's as were looked at
pub dropped-few : (client : ClientId) (qs : List Request) (k : ℕ) → k ≤ length qs → length (dropped_among client (take k qs)) ≤ k
dropped-few client qs k fits = let all = dropped-count client (take k qs) in omega (arith, all, length-take-le k qs fits)
