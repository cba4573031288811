use Rattle.std.proofs.Common.{◌∙◌, List, refl, sym, ap, subst}
use Rattle.cap_arena.specs.Lists.{OfClient}
use Rattle.captable.specs.Edits.{kept_as}
use Rattle.captable.specs.Kept.{KeptRow, keeping}
use Rattle.captable.specs.Nodes.{IsKeyOf, KeepsSets, both_of, kept_of}
use Rattle.captable.specs.Polls.{AreCounted, counts_of, places_of}
use Rattle.captable.specs.Table.{Table}
use Rattle.captable.proofs.Beside.{entries_are, kept_are, two}
use Rattle.captable.proofs.Kept.{IsLinked-stays, are_beside, found-kept, keeping-nobody, kept-once, sets-found, sets-put, table-kept}
use Rattle.captable.proofs.Placed.{placed-alike}
use Rattle.captable.proofs.NotDue.{none_due-stays}
use Rattle.captable.proofs.Reading.{node-there}
use Rattle.captable.proofs.table.CapTable.keep_as.Goals as goal

-- the node has the sets
keeps : (c : goal.After-self-1) → KeepsSets c.self.inside.lists c.keep_sets.new.lists c.in-Some.key c.kept-sets.result
keeps c = c.keep_sets.ensures.there (node-there c.self.inside.lists c.self.inside.made c.self.invariant.0 c.args.holder c.in-Some.key c.in-Some.ensures.found)

pub invariant_of-self : goal.invariant_of-self
invariant_of-self c =
    let t = c.self.inside.lists in
    let t' = c.keep_sets.new.lists in
    let made = c.self.inside.made in
    let key = c.in-Some.key in
    let s = c.kept-sets.result in
    let m = c.self.inside.polls in
    let found : IsKeyOf t c.args.holder key = c.in-Some.ensures.found in (
      IsLinked-stays t t' made c.args.holder key s c.self.invariant.0 found (keeps c) c.keep_sets.ensures.sound,
      none_due-stays t t' key s (keeps c) (places_of m) c.self.invariant.1,
      placed-alike t t' (places_of m) (places_of m) (λ q. (keeps c).lists (OfClient q)) (λ q. refl) c.self.invariant.2,
      subst (λ (u : Table). AreCounted u.rows (counts_of m)) (sym (table-kept t t' made c.args.holder key s c.self.invariant.0 found (keeps c))) c.self.invariant.3,
    )

pub returns-in-Some-get : goal.returns-in-Some-get
returns-in-Some-get c =
    let t = c.self.inside.lists in
    let t' = c.keep_sets.new.lists in
    let made = c.self.inside.made in
    let is = c.self.invariant.0 in
    let h = c.args.holder in
    let key = c.in-Some.key in
    let f = kept_as c.args.keeping in
    let was = c.in-Some-get.node.value.sets in
    let found : IsKeyOf t h key = c.in-Some.ensures.found in
    two
    (table-kept t t' made h key c.kept-sets.result is found (keeps c) ∙ entries_are c.self.view_is)
    (sets-put t t' made h key c.kept-sets.result is found (keeps c) ∙ ap (λ s. keeping (kept_of t made) h (λ _. s)) c.kept-sets.ensures
    ∙ found-kept (kept_of t made) h was f (kept-once (both_of t made) is.table (are_beside t made is)) (sets-found t made is h key c.in-Some-get.node found (sym c.in-Some-get.ensures.node))
    ∙ ap (λ (kept : List KeptRow). keeping kept h f) (kept_are c.self.view_is))

pub returns-in_default : goal.returns-in_default
returns-in_default c =
    let h = c.args.holder in
    let f = kept_as c.args.keeping in
    two refl
    (sym (kept_are c.self.view_is) ∙ keeping-nobody c.self.inside.lists c.self.inside.made c.self.invariant.0 h f c.in_default.ensures.none
    ∙ ap (λ (kept : List KeptRow). keeping kept h f) (kept_are c.self.view_is))
