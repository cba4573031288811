use Rattle.std.proofs.Common.{◌≡◌, ℕ, Option, List, ◌∷◌, ap, sym, ◌∙◌, unwrap_or}
use Rattle.std.specs.List.{find}
use Rattle.std.specs.Option.{option_map}
use Rattle.std.specs.Map.Iter.{deref}
use Rattle.std.proofs.lemmas.Map.Iter.{rest_more}
use Rattle.lockmachine.specs.declared.moves.Move.{Move}
use Rattle.lockmachine.specs.declared.wants.Wants.{Wants}
use Rattle.lockmachine.specs.Scene.{Scene, scene_by, wanted_in_all}
use Rattle.lockmachine.specs.Moves.{may_begin, parts}
use Rattle.lockmachine.specs.Cursors.{begin_or_rest, beginning, may_begin_by}
use Rattle.lockmachine.proofs.KeptWants.{permitted-on}
use Rattle.lockmachine.proofs.LockIds.{begin-lock_ids_in, lock_ids_in}
use Rattle.lockmachine.proofs.locks.Locks.first_begin_of_all.Goals as goal

-- what begins at this inode, or else at those behind it
begins : (s : Scene) (number : ℕ) (rest : List ℕ) (wants : Wants) (found : Option Move) → wants ≡ wanted_in_all s number
    → found ≡ option_map (λ part. beginning s.locks wants (number, part)) (find (λ part. may_begin_by s.locks wants (number, part)) parts)
    → unwrap_or found (begin_or_rest s (find (may_begin s) (lock_ids_in rest))) ≡ begin_or_rest s (find (may_begin s) (lock_ids_in (number ∷ rest)))
begins s number rest wants found are is =
    ap (λ o. unwrap_or o (begin_or_rest s (find (may_begin s) (lock_ids_in rest))))
    (is ∙ ap (λ wants. option_map (λ part. beginning s.locks wants (number, part)) (find (λ part. may_begin_by s.locks wants (number, part)) parts)) are)
    ∙ sym (begin-lock_ids_in s number rest)

pub returns-in-Some-first_begin : goal.returns-in-Some-first_begin
returns-in-Some-first_begin c = λ permitted.
    let policy = c.args.policy.now in
    let s : Scene = scene_by policy c.args.table.now.entries c.args.self.now.locks in
    let first : List ℕ → Move = λ inos. begin_or_rest s (find (may_begin s) (lock_ids_in inos)) in
    let wants = c.wants_by_kept-wants.ensures (permitted-on c.args.table.now.kept policy.fs.now policy.tree.now policy.sessions.now c.args.table.now.entries c.in-Some.number.now permitted) in
    ap (λ o. unwrap_or o (first c.next.new.self)) (sym c.in-Some-first_begin.is)
    ∙ begins s c.in-Some.number.now c.next.new.self c.wants_by_kept-wants.result c.first_begin.result wants c.first_begin.ensures
    ∙ ap first (sym (rest_more deref _ _ _ _ c.in-Some.is c.next.ensures.steps)) ∙ c.loop-number.invariant permitted

pub loop-number-preserved : goal.loop-number-preserved
loop-number-preserved c = λ permitted.
    let policy = c.args.policy.now in
    let s : Scene = scene_by policy c.args.table.now.entries c.args.self.now.locks in
    let first : List ℕ → Move = λ inos. begin_or_rest s (find (may_begin s) (lock_ids_in inos)) in
    let wants = c.wants_by_kept-wants.ensures (permitted-on c.args.table.now.kept policy.fs.now policy.tree.now policy.sessions.now c.args.table.now.entries c.in-Some.number.now permitted) in
    ap (λ o. unwrap_or o (first c.next.new.self)) (sym c.in_default.is)
    ∙ begins s c.in-Some.number.now c.next.new.self c.wants_by_kept-wants.result c.first_begin.result wants c.first_begin.ensures
    ∙ ap first (sym (rest_more deref _ _ _ _ c.in-Some.is c.next.ensures.steps)) ∙ c.loop-number.invariant permitted
