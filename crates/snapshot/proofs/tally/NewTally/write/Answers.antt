use Rattle.std.proofs.Common.{◌≡◌, ◌∷◌, [], sym, ◌∙◌, ap}
use Rattle.snapshot.proofs.Tallying.{writes_moves, written}
use Rattle.snapshot.proofs.tally.NewTally.write.Goals as goal

pub compare_exchange-found-requires : goal.compare_exchange-found-requires
compare_exchange-found-requires g c =
    let h = c.args.self.head_is in
    let offer = c.plain-offer.ensures in
    let pen = c.no_pen-pen.ensures in
    let at_head = sym (ap (λ w. w.book) h) in (
      ap (λ w. w.tracked) h,
      at_head,
      pen.0 ∙ at_head,
      offer.0,
      rw (ap (λ w. w.key) h, pen.1, offer.3, c.args.self.empty) (writes_moves c.plain-offer.result.ask),
    )
