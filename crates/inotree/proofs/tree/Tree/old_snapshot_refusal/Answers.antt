use Rattle.std.proofs.Common.{◌<◌, length, Some, None, inl, inr, not, is_some, sym, ap, ◌∙◌}
use Rattle.std.specs.Prelude.{if◌then◌else◌}
use Rattle.std.proofs.lemmas.Bool.{cases_lt}
use Rattle.capbits.specs.declared.refusal.Refusal.TheVariants.{NoEnt, NotDir}
use Rattle.inotree.proofs.Inner.{no_long_snapshot}
use Rattle.inotree.proofs.tree.Tree.old_snapshot_refusal.Goals as goal

pub returns-in_default-read : goal.returns-in_default-read
returns-in_default-read c =
    let long : 255 < length c.args.name.now = elim (cases_lt 255 (length c.args.name.now)) [
      | inl long ↦ long
      | inr short ↦ let read = c.in_default-read.ensures.valid.1 short in cc
    ] in
    let absent = no_long_snapshot c.args.self.now c.directory.ensures.sound c.args.ino.0 c.in-Some.node.now c.args.name.now c.in-Some.ensures.node long in
    let is_dir = sym c.directory.ensures.is ∙ ap is_some c.in-Some.is in
    sym (λ i. if not (is_dir i) then Some NotDir else if absent i then Some NoEnt else None)
