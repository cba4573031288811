use Rattle.std.proofs.Common.{◌≡◌, None, is_some, refl, ap, sym, ◌∙◌}
use Rattle.captable.specs.Places.{same_client}
use Rattle.captable.specs.Polls.{counts_of, due_count, places_of}
use Rattle.captable.specs.Nodes.{table_of}
use Rattle.captable.proofs.Counting.{counted-same, none_due-uncounted}
use Rattle.captable.proofs.Placed.{placed-alike, still}
use Rattle.captable.proofs.Polled.{counts-stay, places-changed}
use Rattle.captable.proofs.NotDue.{none_due-put}
use Rattle.captable.proofs.table.CapTable.skip_not_due.Goals as goal

pub invariant_of-self : goal.invariant_of-self
invariant_of-self c =
    let t = c.self.inside.lists in
    let m = c.self.inside.polls in
    let n = c.set_place.new.polls in
    let client = c.args.client in
    let rows = (table_of t c.self.inside.made).rows in
    let none : due_count client rows ≡ 0 = sym (c.self.invariant.3 client) ∙ sym c.count_of.ensures ∙ c.if-count_of-eq0.true in
    let places = places-changed m client n (λ _. None) c.set_place.ensures in (
      c.self.invariant.0,
      none_due-put (places_of m) (places_of n) t client None places (none_due-uncounted t client rows (c.self.invariant.0.clients client) none) c.self.invariant.1,
      placed-alike t t (places_of m) (places_of n) (λ q. refl) (λ q. ap is_some (places q) ∙ still (λ _. None) (same_client client q) (places_of m q)) c.self.invariant.2,
      counted-same rows (counts_of m) (counts_of n) (counts-stay m client n (λ _. None) c.set_place.ensures) c.self.invariant.3,
    )

pub invariant_of-self-else-count_of-eq0 : goal.invariant_of-self-else-count_of-eq0
invariant_of-self-else-count_of-eq0 c =
    let t = c.self.inside.lists in
    let m = c.self.inside.polls in
    let n = c.skip_place.new.polls in (
      c.self.invariant.0,
      c.skip_place.ensures.none_due,
      placed-alike t t (places_of m) (places_of n) (λ q. refl) c.skip_place.ensures.others c.self.invariant.2,
      counted-same (table_of t c.self.inside.made).rows (counts_of m) (counts_of n) c.skip_place.ensures.counts c.self.invariant.3,
    )
