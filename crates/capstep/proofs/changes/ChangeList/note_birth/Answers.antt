use Rattle.std.proofs.Common.{◌≡◌, None, Some, sym, ap, ◌∙◌}
use Rattle.inotree.specs.Calls.{new_node}
use Rattle.inotree.specs.declared.node.Node.{Node}
use Rattle.inotree.specs.declared.node.Site.TheVariants.{Under}
use Rattle.capstep.proofs.Noting.{born_there, leads-birth}
use Rattle.capstep.proofs.changes.ChangeList.note_birth.Goals as goal

pub returns-in_default : goal.returns-in_default
returns-in_default c = record {
  lead = λ before kind dir name attr is next.
      let none : None ≡ Some (new_node kind dir name attr) = c.in_default.ensures.node ∙ born_there c.args.self.now.items before c.args.tree.now c.args.ino kind dir name attr is next in
      absurd (cc);
}

-- it stands in a directory
pub returns-in_default-site : goal.returns-in_default-site
returns-in_default-site c = record {
  lead = λ before kind dir name attr is next.
      let same : Some c.in-Some.node.now ≡ Some (new_node kind dir name attr) =
      c.in-Some.ensures.node ∙ born_there c.args.self.now.items before c.args.tree.now c.args.ino kind dir name attr is next in
      let born : c.in-Some.node.now ≡ new_node kind dir name attr = cc in
      absurd (c.in_default-site.not-Under (record { 0 = dir }) name (ap (λ (m : Node). m.site) born));
}

pub returns : goal.returns
returns c = record {
  lead = λ before kind dir name attr is next.
      rw c.push.ensures.items
      (leads-birth c.args.self.now.items before c.args.tree.now c.args.ino kind dir name attr is next c.in-Some.node.now (sym c.in-Some.ensures.node) c.in-Under.dir c.copy-name.result
      (c.in-Under.is ∙ ap (Under c.in-Under.dir) (sym c.copy-name.ensures)) c.is_directory-is_dir.result c.is_directory-is_dir.ensures);
}
