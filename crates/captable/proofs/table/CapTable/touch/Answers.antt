use Rattle.std.proofs.Common.{◌≡◌, ◌∙◌, sym, ap, subst}
use Rattle.captable.specs.Polls.{AreCounted, counts_of, places_of}
use Rattle.captable.specs.Nodes.{table_of}
use Rattle.captable.specs.Table.{IsTable, Table, entry_at, holder}
use Rattle.captable.specs.Calls.{touched}
use Rattle.captable.proofs.Absent.{touched-none}
use Rattle.captable.proofs.Reading.{entry-none, node-there}
use Rattle.captable.proofs.Placed.{placed-touched}
use Rattle.captable.proofs.NotDue.{none_due-touched}
use Rattle.captable.proofs.Touching.{IsLinked-touched, kept-moved, table-moved}
use Rattle.captable.proofs.Beside.{entries_are, kept_are, two}
use Rattle.captable.proofs.table.CapTable.touch.Goals as goal

pub touch_node-requires-clause-there : goal.touch_node-requires-clause-there
touch_node-requires-clause-there c =
    node-there c.self.inside.lists c.self.inside.made c.self.invariant.0 (holder c.args.client c.args.ino) c.in-Some.key c.in-Some.ensures.found

pub invariant_of-self : goal.invariant_of-self
invariant_of-self c =
    let h = holder c.args.client c.args.ino in
    let moved : table_of c.touch_node.new.lists c.self.inside.made ≡ touched (table_of c.self.inside.lists c.self.inside.made) h =
    table-moved c.self.inside.lists c.touch_node.new.lists c.self.inside.made h c.in-Some.key c.self.invariant.0
    c.in-Some.ensures.found c.touch_node.ensures.touched in (
      IsLinked-touched c.self.inside.lists c.touch_node.new.lists c.self.inside.made (holder c.args.client c.args.ino) c.in-Some.key c.self.invariant.0
          c.in-Some.ensures.found c.touch_node.ensures.touched c.touch_node.ensures.sound,
      none_due-touched c.self.inside.lists c.touch_node.new.lists c.in-Some.key c.touch_node.ensures.touched (places_of c.self.inside.polls) c.self.invariant.1,
      placed-touched c.self.inside.lists c.touch_node.new.lists c.in-Some.key c.touch_node.ensures.touched (places_of c.self.inside.polls) c.self.invariant.2,
      subst (λ (u : Table). AreCounted u.rows (counts_of c.self.inside.polls)) (sym moved) c.self.invariant.3,
    )

pub returns-in-Some : goal.returns-in-Some
returns-in-Some c =
    let h = holder c.args.client c.args.ino in
    let t = c.self.inside.lists in
    two
    (table-moved t c.touch_node.new.lists c.self.inside.made h c.in-Some.key c.self.invariant.0 c.in-Some.ensures.found c.touch_node.ensures.touched
    ∙ ap (λ t. touched t h) (entries_are c.self.view_is))
    (kept-moved t c.touch_node.new.lists c.self.inside.made h c.in-Some.key c.self.invariant.0 c.in-Some.ensures.found c.touch_node.ensures.touched
    ∙ kept_are c.self.view_is)

pub returns-in_default : goal.returns-in_default
returns-in_default c =
    let h = holder c.args.client c.args.ino in
    let none = c.in_default.ensures.none in
    ap (λ (es : Table). record c.args.self.now { entries = es })
    (touched-none c.args.self.now.entries h (subst IsTable (entries_are c.self.view_is) c.self.invariant.0.table)
    (ap (λ t. entry_at t h) (sym (entries_are c.self.view_is)) ∙ entry-none c.self.inside.lists c.self.inside.made c.self.invariant.0 h none))
