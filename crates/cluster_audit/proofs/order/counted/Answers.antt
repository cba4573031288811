use Rattle.std.proofs.Common.{rules, ◌≡◌}
use Rattle.std.proofs.lemmas.Result.{IfOk-weaker}
use Rattle.std.specs.List.{flat_map}
use Rattle.cluster_audit.specs.Order.{AreCounted, counted_line}
use Rattle.cluster_audit.proofs.order.counted.Goals as goal

pub returns : goal.returns
returns c =
    IfOk-weaker c.counts.result (λ text. text.items ≡ flat_map (counted_line c.args.shape c.as_slice-2.result.now) c.as_slice-3.result.now) (λ text. AreCounted c.args.shape c.args.text.now text.items)
    (λ text is. record {
      all = c.as_slice-2.result.now;
      rest = c.in_ok-lines._rest.now;
      cut = search rules;
      ordered = c.in_ok-ordered.ordered.items;
      in_order = search rules;
      kinds = c.as_slice-3.result.now;
      left = c.in_ok-kinds._left.now;
      cut_again = search rules;
      reported = is;
    })
    c.counts.ensures
