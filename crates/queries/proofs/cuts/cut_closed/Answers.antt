use Rattle.std.proofs.Common.{◌≡◌, ◌-◌, ℕ, None, Some, List, sym, ap, ◌∙◌, arith, drop, length}
use Rattle.queries.specs.Cuts.{closed_behind, is_closed}
use Rattle.queries.proofs.Marks.{hits, is_not_there, is_there, misses, stands_at}
use Rattle.queries.proofs.cuts.cut_closed.Goals as goal

pub loop-place-preserved : goal.loop-place-preserved
loop-place-preserved c =
    let mark = c.args.mark.now in
    let text = c.args.text.now in
    let at : ℕ = c.loop-place.place - 1 in
    let none : closed_behind mark (drop at text) ≡ None = ap (closed_behind mark) (sym c.split_at.ensures.back) ∙ sym c.in_default.ensures in
    record {
      within = omega arith;
      same = sym (misses is_closed mark text c.loop-place.place at (omega arith) (is_not_there (stands_at is_closed mark text at) (drop (length mark) (drop at text)) none)) ∙ c.loop-place.invariant.same;
    }

pub returns-in-Some : goal.returns-in-Some
returns-in-Some c =
    let mark = c.args.mark.now in
    let text = c.args.text.now in
    let at : ℕ = c.loop-place.place - 1 in
    let there : closed_behind mark (drop at text) ≡ Some c.in-Some.end.now = ap (closed_behind mark) (sym c.split_at.ensures.back) ∙ sym c.in-Some.ensures in
    let both = is_there (stands_at is_closed mark text at) (drop (length mark) (drop at text)) c.in-Some.end.now there in
    sym c.loop-place.invariant.same
    ∙ hits is_closed mark text c.loop-place.place at (omega arith) both.0
    ∙ ap (λ (t : List ℕ). Some (t, drop (length mark) (drop at text))) (sym c.split_at.ensures.front)
    ∙ ap (λ (t : List ℕ). Some (c.split_at.result.0.now, t)) both.1
