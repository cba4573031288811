use Rattle.std.proofs.Common.{length, refl, ap, ◌∙◌}
use Rattle.policy_analysis.proofs.Ascending.{refill_all, sorted_has_same, sorted_is_found}
use Rattle.policy_analysis.proofs.compare_by.in_order.Goals as goal

pub returns-clause-same : goal.returns-clause-same
returns-clause-same c = record {
  uid = refl;
  gid = refl;
  groups = sorted_has_same _ c.sort_unstable.new.self c.sort_unstable.ensures.permutation c.args.caller.now.groups c.from.result (c.as_mut_slice.ensures.value ∙ c.in-Ok.ensures.0 ∙ c.as_slice.ensures.value)
      (c.from.ensures ∙ refill_all c.in-Ok.groups.items c.sort_unstable.new.self (c.sort_unstable.ensures.len ∙ ap length c.as_mut_slice.ensures.value));
}

pub returns-clause-order : goal.returns-clause-order
returns-clause-order c = sorted_is_found c.sort_unstable.new.self c.from.result c.sort_unstable.ensures.sorted (c.from.ensures ∙ refill_all c.in-Ok.groups.items c.sort_unstable.new.self (c.sort_unstable.ensures.len ∙ ap length c.as_mut_slice.ensures.value))
