use Rattle.std.proofs.Common.{◌≡◌, ℕ, ◌-◌, [], ◌∷◌, ◌++◌, List, sym, ap, ◌∙◌}
use Rattle.std.specs.List.{flat_map}
use Rattle.std.specs.Map.Iter.{deref_pair}
use Rattle.std.proofs.lemmas.List.Folds.{flat_map-map}
use Rattle.std.proofs.lemmas.Map.Iter.{iter_end}
use Rattle.capbits.specs.declared.ids.Ino.{Ino}
use Rattle.inotree.specs.declared.index.Slot.{Slot}
use Rattle.inotree.specs.Index.{gathered, names_in}
use Rattle.inotree.proofs.Gathering.{gathered-none, gathered-step}
use Rattle.inotree.proofs.index.Index.+gather.Goals as goal

pub returns-then-steps-eq0 : goal.returns-then-steps-eq0
returns-then-steps-eq0 t c = c.in_ok-push.ensures.items ∙ ap (λ (inos : List Ino). c.args.found.now.items ++ inos) (sym (gathered-none c.args.steps c.args.self.now c.args.ino c.if-steps-eq0.true))

pub returns-then-not-is_directory : goal.returns-then-not-is_directory
returns-then-not-is_directory t c =
    let none : names_in c.args.ino c.args.self.now ≡ [] = c.requires.inside c.args.ino (sym c.is_directory.ensures ∙ c.if-not-is_directory.true) in
    let alone : gathered c.args.steps c.args.self.now c.args.ino ≡ record { 0 = c.args.ino } ∷ [] =
    gathered-step c.args.steps c.args.self.now c.args.ino c.if-steps-eq0.false
    ∙ ap (λ (names : List (Slot × ℕ)). record { 0 = c.args.ino } ∷ flat_map (λ e. gathered (c.args.steps - 1) c.args.self.now e.1) names) none in
    c.in_ok-push.ensures.items ∙ ap (λ (inos : List Ino). c.args.found.now.items ++ inos) (sym alone)

pub returns : goal.returns
returns t c =
    let start = c.into_iter-child-iterator.ensures.into_iter_gives ∙ c.names_in-child-items.ensures in
    let whole = (iter_end deref_pair _ c.loop-child.yielded _ _ _ _ start c.loop-child.yielded_by c.in-None.is c.next.ensures.steps).0 in
    let below : Slot × ℕ → List Ino = λ e. gathered (c.args.steps - 1) c.args.self.now e.1 in
    c.loop-child.invariant ∙ ap (λ (inos : List Ino). c.args.found.now.items ++ record { 0 = c.args.ino } ∷ inos) (sym (flat_map-map below deref_pair c.loop-child.yielded) ∙ ap (flat_map below) whole)
    ∙ ap (λ (inos : List Ino). c.args.found.now.items ++ inos) (sym (gathered-step c.args.steps c.args.self.now c.args.ino c.if-steps-eq0.false))
