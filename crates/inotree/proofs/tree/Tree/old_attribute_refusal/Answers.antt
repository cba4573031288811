use Rattle.std.proofs.Common.{◌<◌, length, Some, None, inl, inr, not, sym, ap, ◌∙◌}
use Rattle.std.specs.Prelude.{if◌then◌else◌}
use Rattle.std.proofs.lemmas.Bool.{cases_lt}
use Rattle.capbits.specs.declared.refusal.Refusal.TheVariants.{NoXattr}
use Rattle.std.specs.Option.{option_copied}
use Rattle.std.specs.FinMap as map
use Rattle.inotree.specs.Tree.{Nodes}
use Rattle.inotree.specs.Tests.{test_at}
use Rattle.inotree.proofs.Inner.{no_long_attribute}
use Rattle.inotree.proofs.tree.Tree.old_attribute_refusal.Goals as goal

pub returns-in_default : goal.returns-in_default
returns-in_default c =
    let long : 255 < length c.args.name.now = elim (cases_lt 255 (length c.args.name.now)) [
      | inl long ↦ long
      | inr short ↦ let read = c.in_default.ensures.valid.1 short in cc
    ] in
    let before : Nodes = record { nodes = c.self.inside.inodes; last = c.self.inside.last } in
    let absent = no_long_attribute before c.self.invariant.0 c.args.ino.0 c.in_ok-node.node.now c.args.name.now (sym c.get.ensures ∙ ap option_copied c.in_ok-node.was) long in
    ap (λ b. if b then Some NoXattr else None) (sym (ap (λ (t : Nodes). test_at (λ n. not (map.contains_key n.attributes c.args.name.now)) t c.args.ino.0) (sym c.self.view_is) ∙ absent))
