-- The first move, by what a search of the gathers, one of the requests and one of the locks find.
use Rattle.std.proofs.Common.{◌≡◌, Bool, true, false, cond, Option, Some, None, List, [], ◌∷◌, ◌++◌, refl, ap, append_assoc, ◌∙◌, get_or, unwrap_or}
use Rattle.std.proofs.Common.{map as each}
use Rattle.std.specs.List.{filter, find}
use Rattle.std.specs.Option.{option_map}
use Rattle.lockmachine.specs.declared.request.Request.{Request}
use Rattle.lockmachine.specs.declared.moves.Move.{Move}
use Rattle.lockmachine.specs.declared.moves.Move.TheVariants.{Settled}
use Rattle.lockmachine.specs.Scene.{Scene}
use Rattle.lockmachine.specs.Moves.{LockId, begin_of, end_of, first_move, lock_ids, may_begin, may_end, may_serve, serve_of}
use Rattle.lockmachine.specs.Cursors.{begin_or_rest, end_or_serve, serve_or_begin}

-- the first of what passes a test, else the first of what stands behind
first-passes : {A : Type 0} (p : A → Bool) (f : A → Move) (xs : List A) (behind : List Move)
    → get_or (each f (filter p xs) ++ behind) 0 Settled ≡ unwrap_or (option_map f (find p xs)) (get_or behind 0 Settled)
first-passes p f [] behind = refl
first-passes p f (x ∷ xs) behind =
    elim (p x) as (λ b. get_or (each f (cond b (x ∷ filter p xs) (filter p xs)) ++ behind) 0 Settled ≡ unwrap_or (option_map f (cond b (Some x) (find p xs))) (get_or behind 0 Settled)) [
      | true ↦ refl
      | false ↦ first-passes p f xs behind
    ]

module _ (s : Scene) where
  abbrev ends : List Move
  ends = each end_of (filter (may_end s) (lock_ids s.locks))

  abbrev serves : List Move
  serves = each serve_of (filter (may_serve s.locks) s.locks.queue)

  abbrev begins : List Move
  begins = each (begin_of s) (filter (may_begin s) (lock_ids s.locks))

  first_begin : (ats : List LockId) → get_or (each (begin_of s) (filter (may_begin s) ats)) 0 Settled ≡ begin_or_rest s (find (may_begin s) ats)
  first_begin [] = refl
  first_begin (at ∷ ats) =
      elim (may_begin s at) as (λ b. get_or (each (begin_of s) (cond b (at ∷ filter (may_begin s) ats) (filter (may_begin s) ats))) 0 Settled ≡ begin_or_rest s (cond b (Some at) (find (may_begin s) ats))) [
        | true ↦ refl
        | false ↦ first_begin ats
      ]

  by_serve : (o : Option Request) → unwrap_or (option_map serve_of o) (get_or begins 0 Settled) ≡ serve_or_begin s o
  by_serve None = first_begin (lock_ids s.locks)
  by_serve (Some q) = refl

  by_end : (o : Option LockId) (rest : Move) → rest ≡ serve_or_begin s (find (may_serve s.locks) s.locks.queue) → unwrap_or (option_map end_of o) rest ≡ end_or_serve s o
  by_end None rest is = is
  by_end (Some at) rest is = refl

  pub first-found : first_move s ≡ end_or_serve s (find (may_end s) (lock_ids s.locks))
  unfolding first_move
  first-found =
      ap (λ (moves : List Move). get_or moves 0 Settled) (append_assoc ends serves begins)
      ∙ first-passes (may_end s) end_of (lock_ids s.locks) (serves ++ begins)
      ∙ by_end (find (may_end s) (lock_ids s.locks)) _
      (first-passes (may_serve s.locks) serve_of s.locks.queue begins ∙ by_serve (find (may_serve s.locks) s.locks.queue))
