use Rattle.std.proofs.Common.{length, sym, ◌∙◌, ap, arith}
use Rattle.snapshot.proofs.Adding.{makes_moves}
use Rattle.snapshot.proofs.recorder.make.Goals as goal

pub compare_exchange-found-requires : goal.compare_exchange-found-requires
compare_exchange-found-requires c =
    let h = c.requires.head in
    let again = c.again-seen.ensures in
    let offer = c.plain-offer.ensures in
    let pen = c.no_pen-pen.ensures in
    let here = ap (λ s. s.book) again ∙ sym (ap (λ w. w.book) h) in (
      ap (λ w. w.tracked) h,
      here,
      pen.0 ∙ here,
      offer.0,
      rw (ap (λ w. w.key) h, pen.1, offer.3) (makes_moves c.again-seen.result.log c.plain-offer.result.ask _ c.args.away (omega (arith, ap (λ s. length s.log) again, c.args.rows.now.counted)) c.requires.away),
    )
