use Rattle.std.proofs.Common.{◌≡◌, ℕ, Bool, Option, List, ◌∷◌, ap, sym, ◌∙◌}
use Rattle.std.specs.List.{find}
use Rattle.std.specs.Option.{option_map, option_or}
use Rattle.std.specs.Map.Iter.{deref}
use Rattle.std.proofs.lemmas.Map.Iter.{rest_more}
use Rattle.capbits.specs.declared.cap.Part.{Part}
use Rattle.lockmachine.specs.Counts.{ends_by}
use Rattle.lockmachine.specs.Moves.{LockId, parts}
use Rattle.lockmachine.proofs.LockIds.{find-lock_ids_in, lock_ids_in}
use Rattle.lockmachine.proofs.locks.Locks.first_end_of_all.Goals as goal

-- what is found at this inode, or else at those behind it
ends : (p : LockId → Bool) (number : ℕ) (rest : List ℕ) (found : Option Part) → found ≡ find (λ part. p (number, part)) parts
    → option_or (option_map (λ (part : Part). (number, part)) found) (find p (lock_ids_in rest)) ≡ find p (lock_ids_in (number ∷ rest))
ends p number rest found is =
    ap (λ (o : Option Part). option_or (option_map (λ (part : Part). (number, part)) o) (find p (lock_ids_in rest))) is ∙ sym (find-lock_ids_in p number rest)

pub returns-in-Some-first_end : goal.returns-in-Some-first_end
returns-in-Some-first_end c =
    let p : LockId → Bool = ends_by c.args.self.now in
    let number : ℕ = c.in-Some.number.now in
    let first : List ℕ → Option LockId = λ inos. find p (lock_ids_in inos) in
    ap (λ (o : Option Part). option_or (option_map (λ (part : Part). (number, part)) o) (first c.next.new.self)) (sym c.in-Some-first_end.is)
    ∙ ends p number c.next.new.self c.first_end.result c.first_end.ensures
    ∙ ap first (sym (rest_more deref _ _ _ _ c.in-Some.is c.next.ensures.steps)) ∙ c.loop-number.invariant

pub loop-number-preserved : goal.loop-number-preserved
loop-number-preserved c =
    let p : LockId → Bool = ends_by c.args.self.now in
    let number : ℕ = c.in-Some.number.now in
    let first : List ℕ → Option LockId = λ inos. find p (lock_ids_in inos) in
    ap (λ (o : Option Part). option_or (option_map (λ (part : Part). (number, part)) o) (first c.next.new.self)) (sym c.in_default.is)
    ∙ ends p number c.next.new.self c.first_end.result c.first_end.ensures
    ∙ ap first (sym (rest_more deref _ _ _ _ c.in-Some.is c.next.ensures.steps)) ∙ c.loop-number.invariant
