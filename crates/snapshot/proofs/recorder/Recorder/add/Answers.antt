use Rattle.std.proofs.Common.{◌≡◌, ◌+◌, ◌*◌, ◌++◌, ◌∷◌, [], sym, ◌∙◌, ap, subst, arith}
use Rattle.snapshot.specs.Rows.{Legal}
use Rattle.snapshot.proofs.Adding.{adds_done, adds_moves}
use Rattle.snapshot.proofs.recorder.Recorder.add.Goals as goal

pub compare_exchange-found-requires : goal.compare_exchange-found-requires
compare_exchange-found-requires g c =
    let h = c.self.invariant.0 in
    let at_head = sym (ap (λ w. w.book) h) in
    let offer = c.plain-offer.ensures in
    let log = c.counted-rows.ensures.log in (
      ap (λ w. w.tracked) h,
      c.counted-rows.ensures.book ∙ at_head,
      c.self.invariant.1 ∙ at_head,
      offer.0,
      rw (ap (λ w. w.key) h, c.self.invariant.2, offer.1, offer.3, sym log) (adds_moves c.counted-rows.result.seen.log _ _ (omega (arith, c.counted-rows.result.counted))),
    )

pub of-requires-clause-legal : goal.of-requires-clause-legal
of-requires-clause-legal g c =
    let made = c.compare_exchange-found in
    let added = adds_done _ c.counted-rows.result.seen.log made.new.seen.log c.plain-offer.result.ask made.result (2 * c.counted-rows.result.count + 2) c.if-found-old.false made.ensures.7 in
    let log : made.new.seen.log ≡ c.args.self.now ++ c.args.row.now ∷ [] = added ∙ (λ i. (c.counted-rows.ensures.log ∙ c.self.view_is) i ++ c.plain-offer.ensures.1 i ∷ []) in
    subst (Legal g.L.Server.opening) (sym log) c.requires.legal
