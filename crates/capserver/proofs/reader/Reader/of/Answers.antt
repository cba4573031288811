use Rattle.std.proofs.Common.{◌≡◌, List, [], sym, ap, subst, ◌∙◌}
use Rattle.capstep.specs.declared.row.Row.{Row}
use Rattle.snapshot.specs.Publishing.{Publishing}
use Rattle.snapshot.specs.Rows.{Legal}
use Rattle.snapshot.proofs.Gathering.{legal_none}
use Rattle.capserver.proofs.reader.Reader.of.Goals as goal

-- no row is published yet, and none is a legal history
pub invariant_of-result : goal.invariant_of-result
invariant_of-result g c =
    let o = g.L.Server.opening in
    let none : c.again-known.result ≡ [] = c.again-known.ensures ∙ c.rows.ensures ∙ ap (λ (p : Publishing). p.rows) c.in_ok-place.ensures.same ∙ c.requires in
    ((c.in_ok-place.ensures.none ∙ sym none, c.in_ok-place.ensures.origin_known), subst (Legal o) (sym none) (record { last = o; is_legal = legal_none o }))
