use Rattle.std.proofs.Common.{sym, ap, subst, ◌∙◌}
use Rattle.std.specs.List.{list_any}
use Rattle.std.specs.List.Sorted.{IsStrictlySortedBy}
use Rattle.std.specs.Ordering.{eq_by_cmp}
use Rattle.inotree.specs.Names.{name_cmp}
use Rattle.std.specs.FinSet as set
use Rattle.inotree.proofs.Order.{name_total}
use Rattle.inotree.proofs.snapshots.Snapshots.iter.Goals as goal

pub returns-clause-names : goal.returns-clause-names
returns-clause-names c = λ name.
    ap (list_any (eq_by_cmp name_cmp name)) c.iter.ensures.rest ∙ sym (set.contains-from_list name_total c.self.inside.names.keys name)
    ∙ ap (λ s. set.contains s name) c.self.view_is

pub returns-clause-ordered : goal.returns-clause-ordered
returns-clause-ordered c = subst (IsStrictlySortedBy name_cmp) (sym c.iter.ensures.rest) c.iter.ensures.ordered
