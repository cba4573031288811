use Rattle.std.proofs.Common.{sym, ap, ◌∙◌}
use Rattle.std.specs.Cmp.{nat_cmp_total}
use Rattle.std.specs.FinSet as set
use Rattle.inotree.proofs.ino_set.InoSet.contains.Goals as goal

pub returns : goal.returns
returns c =
    c.contains.ensures ∙ sym (set.contains-from_list nat_cmp_total c.self.inside.numbers.keys c.args.ino.0)
    ∙ ap (λ s. set.contains s c.args.ino.0) c.self.view_is
