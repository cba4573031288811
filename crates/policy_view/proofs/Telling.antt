-- Changes that are told one after another.
use Rattle.std.proofs.Common.{List, [], ◌∷◌, ◌++◌, sym, subst}
use Rattle.std.specs.Prelude.{fold}
use Rattle.std.proofs.lemmas.List.Sums.{fold-append}
use Rattle.policy_view.specs.declared.change.ViewChange.{ViewChange}
use Rattle.policy_view.specs.declared.view.View.{View}
use Rattle.policy_view.specs.Changes.{AreChanges, view_by}
use Rattle.policy_view.specs.Visible.{Shows}
use Rattle.policy_view.proofs.Likeness.{shows-trans, shows_by}

pub changes-none : (view : View) → AreChanges [] view view
changes-none view = record { lead = λ copied shows. shows }

-- one more change
pub changes-more : (changes : List ViewChange) (old new : View) (c : ViewChange) → AreChanges changes old new → AreChanges (changes ++ c ∷ []) old (view_by new c)
changes-more changes old new c told = record {
  lead = λ copied shows.
      subst (λ (v : View). Shows v (view_by new c)) (sym (fold-append view_by copied changes (c ∷ [])))
      (shows_by (fold view_by copied changes) new c (told.lead copied shows));
}

-- a change of which nothing is seen
pub changes-alike : (changes : List ViewChange) (old new other : View) → AreChanges changes old new → Shows new other → AreChanges changes old other
changes-alike changes old new other told alike = record {
  lead = λ copied shows. shows-trans (fold view_by copied changes) new other (told.lead copied shows) alike;
}
