use Rattle.std.proofs.Common.{◌≡◌, ℕ, List, [], ◌++◌, refl, sym, ap, arith, ◌∙◌, take, drop, length, append_assoc, length-drop}
use Rattle.std.proofs.lemmas.List.{append-nil, take-append-drop, take_rest}
use Rattle.std.proofs.lemmas.Bool.{eqb-true}
use Rattle.texts.proofs.KnownBytes.{appends_more, appends_same, appends_stay, empty_list, none_appended}
use Rattle.cli_queries.proofs.file_systems.write_front.Goals as goal

pub loop-rest-init : goal.loop-rest-init
loop-rest-init g c = ([], refl, none_appended (g.F.Write.contents c.args.faults.now))

pub loop-rest-smaller : goal.loop-rest-smaller
loop-rest-smaller g c = rw (take_rest c.loop-rest.rest.now c.in-Ok.taken) (omega (arith, length-drop c.in-Ok.taken c.loop-rest.rest.now, c.in-Ok.ensures.bound))

pub loop-rest-preserved : goal.loop-rest-preserved
loop-rest-preserved g c =
    let known = g.F.Write.contents in
    let rest = c.loop-rest.rest.now in
    let chunk = take c.in-Ok.taken rest in
    let before = c.loop-rest.invariant in (
      before.0 ++ chunk,
      before.1 ∙ ap (λ (t : List ℕ). before.0 ++ t) (sym (take-append-drop c.in-Ok.taken rest)) ∙ sym (append_assoc before.0 chunk (drop c.in-Ok.taken rest)) ∙ ap (λ (t : List ℕ). before.0 ++ chunk ++ t) (sym (take_rest rest c.in-Ok.taken)),
      appends_more (known c.args.faults.now) (known c.loop-rest.faults) (known c.write.new.self) before.0 chunk before.2 c.in-Ok.ensures.bytes,
    )

pub returns-in-Err-clause-front : goal.returns-in-Err-clause-front
returns-in-Err-clause-front g c =
    let known = g.F.Write.contents in
    let before = c.loop-rest.invariant in
    (before.0, c.loop-rest.rest.now, before.1, appends_stay (known c.args.faults.now) (known c.loop-rest.faults) (known c.write.new.self) before.0 before.2 c.in-Err.ensures.bytes)

pub returns-then-taken-eq0-clause-front : goal.returns-then-taken-eq0-clause-front
returns-then-taken-eq0-clause-front g c =
    let known = g.F.Write.contents in
    let rest = c.loop-rest.rest.now in
    let chunk = take c.in-Ok.taken rest in
    let before = c.loop-rest.invariant in (
      before.0 ++ chunk,
      drop c.in-Ok.taken rest,
      before.1 ∙ ap (λ (t : List ℕ). before.0 ++ t) (sym (take-append-drop c.in-Ok.taken rest)) ∙ sym (append_assoc before.0 chunk (drop c.in-Ok.taken rest)),
      appends_more (known c.args.faults.now) (known c.loop-rest.faults) (known c.write.new.self) before.0 chunk before.2 c.in-Ok.ensures.bytes,
    )

pub returns-clause-ok : goal.returns-clause-ok
returns-clause-ok g c =
    let known = g.F.Write.contents in
    let before = c.loop-rest.invariant in
    let none : c.loop-rest.rest.now ≡ [] = empty_list c.loop-rest.rest.now (eqb-true (length c.loop-rest.rest.now) 0 (sym c.is_empty.ensures ∙ c.loop-rest-test.false)) in
    appends_same (known c.args.faults.now) (known c.loop-rest.faults) before.0 c.args.text.now (sym (append-nil before.0) ∙ ap (λ (t : List ℕ). before.0 ++ t) (sym none) ∙ sym before.1) before.2

pub returns-clause-front : goal.returns-clause-front
returns-clause-front g c =
    let before = c.loop-rest.invariant in
    (before.0, c.loop-rest.rest.now, before.1, before.2)
