use Rattle.std.proofs.Common.{sym, ◌∙◌, ap}
use Rattle.snapshot.proofs.Adding.{looks_moves}
use Rattle.snapshot.proofs.recorder.Recorder.check_against.Goals as goal

pub compare_exchange-found-requires : goal.compare_exchange-found-requires
compare_exchange-found-requires g c =
    let h = c.self.invariant.0 in
    let at_head = sym (ap (λ w. w.book) h) in
    let offer = c.plain-offer.ensures in (
      ap (λ w. w.tracked) h,
      c.learn.ensures.0 ∙ (c.counted-seen.ensures.book ∙ at_head),
      c.self.invariant.1 ∙ at_head,
      offer.0,
      rw (ap (λ w. w.key) h, c.self.invariant.2, offer.3) (looks_moves c.learn.new.self.log c.self.inside.rows c.plain-offer.result.ask),
    )
