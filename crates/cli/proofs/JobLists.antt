-- Lists of jobs, of which one gets an event more, and how many events they have.
use Rattle.std.proofs.Common.{◌≡◌, ◌==◌, ℕ, suc, ◌+◌, ◌<◌, ◌≤◌, Bool, true, false, not, cond, Some, None, List, [], ◌∷◌, ◌++◌, length, get_or, set, refl, sym}
use Rattle.std.proofs.Common.{ap, subst, ◌∙◌, nat_lt, ◌||◌, arith}
use Rattle.std.specs.Prelude.{if◌then◌else◌, map}
use Rattle.std.specs.List.{position, position_or_len}
use Rattle.std.proofs.lemmas.Bool.{ltb-false}
use Rattle.lockmachine.proofs.Positions.{at_position}
use Rattle.capbits.specs.declared.ids.ClientId.{ClientId}
use Rattle.capstep.specs.declared.event.Event.{Event}
use Rattle.cli.specs.declared.plan.Job.{Job}
use Rattle.cli.specs.Jobs.{Calls, calls_by, calls_of, is_known, with_event}

abbrev pub of : ClientId → Job → Bool
of client job = job.client.0 == client.0

-- the job with one event more
abbrev pub more : Event → Job → Calls
more event job = calls_by job.client (job.events.items ++ event ∷ [])

-- its place, or how many there are
abbrev place : ClientId → List Job → ℕ
place client jobs = position_or_len (of client) jobs

-- ---- a client that has a job

set_at : (client : ClientId) (event : Event) (old new : Job) (xs : List Job) → place client xs < length xs → old ≡ get_or xs (place client xs) old → calls_of new ≡ more event old
    → map calls_of (set xs (place client xs) new) ≡ with_event client event (map calls_of xs)
set_at client event old new [] inside is same = absurd (omega arith)
set_at client event old new (x ∷ xs) inside is same =
    elim (of client x) as (λ b. cond (not b) (1 + place client xs) 0 < length (x ∷ xs)
    → old ≡ get_or (x ∷ xs) (cond (not b) (1 + place client xs) 0) old
    → map calls_of (set (x ∷ xs) (cond (not b) (1 + place client xs) 0) new) ≡ (if b then more event x ∷ map calls_of xs else calls_of x ∷ with_event client event (map calls_of xs))) [
      | true ↦ λ inside is. ap (λ (job : Calls). job ∷ map calls_of xs) (same ∙ ap (more event) is)
      | false ↦ λ inside is.
          let one : 1 + place client xs ≡ suc (place client xs) = omega arith in
          let here : old ≡ get_or xs (place client xs) old = subst (λ (n : ℕ). old ≡ get_or (x ∷ xs) n old) one is in
          subst (λ (n : ℕ). map calls_of (set (x ∷ xs) n new) ≡ calls_of x ∷ with_event client event (map calls_of xs)) (sym one)
          (ap (λ (jobs : List Calls). calls_of x ∷ jobs) (set_at client event old new xs (omega arith) here same))
    ] inside is

pub known_gets_event : (client : ClientId) (event : Event) (old new : Job) (xs : List Job) (at : ℕ) → position (of client) xs ≡ Some at → old ≡ get_or xs at old → calls_of new ≡ more event old
    → map calls_of (set xs at new) ≡ with_event client event (map calls_of xs)
known_gets_event client event old new xs at found is same =
    let where_it_is = at_position (of client) xs at found in
    rw where_it_is.0 (set_at client event old new xs where_it_is.1 (rw (sym where_it_is.0) is) same)

-- ---- a client that has none

pub no_place : (client : ClientId) (xs : List Job) → position (of client) xs ≡ None → length xs ≤ place client xs
no_place client xs is =
    elim (nat_lt (place client xs) (length xs)) as (λ b. nat_lt (place client xs) (length xs) ≡ b → cond b (Some (place client xs)) None ≡ None → length xs ≤ place client xs)
    [ true ↦ λ e is. absurd (cc) | false ↦ λ e is. ltb-false _ _ e ] refl is

pushed : (client : ClientId) (event : Event) (new : Job) (xs : List Job) → length xs ≤ place client xs → calls_of new ≡ calls_by client (event ∷ [])
    → map calls_of (xs ++ new ∷ []) ≡ with_event client event (map calls_of xs)
pushed client event new [] none same = ap (λ (job : Calls). job ∷ []) same
pushed client event new (x ∷ xs) none same =
    elim (of client x) as (λ b. length (x ∷ xs) ≤ cond (not b) (1 + place client xs) 0
    → calls_of x ∷ map calls_of (xs ++ new ∷ []) ≡ (if b then more event x ∷ map calls_of xs else calls_of x ∷ with_event client event (map calls_of xs))) [
      | true ↦ λ none. absurd (omega arith)
      | false ↦ λ none. ap (λ (jobs : List Calls). calls_of x ∷ jobs) (pushed client event new xs (omega arith) same)
    ] none

pub new_gets_job : (client : ClientId) (event : Event) (new : Job) (xs : List Job) → position (of client) xs ≡ None → calls_of new ≡ calls_by client (event ∷ [])
    → map calls_of (xs ++ new ∷ []) ≡ with_event client event (map calls_of xs)
new_gets_job client event new xs is same = pushed client event new xs (no_place client xs is) same

unknown : (client : ClientId) (xs : List Job) → length xs ≤ place client xs → is_known client (map calls_of xs) ≡ false
unknown client [] none = refl
unknown client (x ∷ xs) none =
    elim (of client x) as (λ b. length (x ∷ xs) ≤ cond (not b) (1 + place client xs) 0 → b || is_known client (map calls_of xs) ≡ false)
    [ true ↦ λ none. absurd (omega arith) | false ↦ λ none. unknown client xs (omega arith) ] none

pub is_unknown : (client : ClientId) (xs : List Job) → position (of client) xs ≡ None → is_known client (map calls_of xs) ≡ false
is_unknown client xs is = unknown client xs (no_place client xs is)
