-- What is published, and what the places of readers know of it.
use Rattle.std.specs.Prelude.{◌≡◌, ℕ, List, [], ◌∷◌, Some, IfSome}
use mathlib.Core.Option.{some}
use mathlib.Core.List.{IsPrefix}
use lib.ListN.{get_elem?}
use Rattle.logbook.specs.Pages.{Book}
use Rattle.inotree.specs.Tree.{Nodes}
use Rattle.capstep.specs.History.{IsOpening}
use Rattle.capstep.specs.Noted.{view_of}
use Rattle.capstep.specs.State.{State}
use Rattle.capstep.specs.declared.row.Row.{Row}
use Rattle.policy_view.specs.Visible.{Shows}
use Rattle.snapshot.specs.declared.value.Published.{Published}
use Rattle.snapshot.specs.declared.place.Origin.{Origin}
use Rattle.snapshot.specs.declared.place.Place.{Place}
use Rattle.snapshot.specs.Rows.{Legal}

-- it is of the server that opened in this state and has this book
pub record IsOf (opening : State) (book : Book) (origin : Origin) : Type 0 where
  pub fs : List ℕ
  pub tree : Nodes
  pub fs_is : origin.fs.log ≡ fs ∷ []
  pub tree_is : origin.tree.log ≡ tree ∷ []
  pub opens : IsOpening fs tree opening
  pub book_is : origin.rows.book ≡ book

-- the rows are those of the server's book, legal from its opening state, and the view shows the state to which they lead
pub record IsPublished (opening : State) (book : Book) (value : Published) : Type 0 where
  pub is_of : IsOf opening book value.origin
  pub book_is : value.rows.seen.book ≡ book
  pub legal : Legal opening value.rows.seen.log
  pub shows : Shows value.view (view_of legal.last)

-- what a place knows begins the rows, and who was told of a server was told of this one
pub record Knows (value : Published) (place : Place) : Type 0 where
  pub begins : IsPrefix place.known value.rows.seen.log
  pub origin_known : IfSome place.origin (λ origin. origin ≡ value.origin)

-- it is published rightly, and each place knows it so
pub record Keeps (value : Published) (places : List Place) : Type 0 where
  pub opening : State
  pub value_is : IsPublished opening value.origin.rows.book value
  pub known : (seat : ℕ) (place : Place) → get_elem? places seat ≡ some place → Knows value place

-- the place was told that it is of this server
pub record IsOriginKnown (opening : State) (book : Book) (place : Place) : Type 0 where
  pub origin : Origin
  pub origin_known : place.origin ≡ Some origin
  pub is_of : IsOf opening book origin

-- who entered sees what is published, of which all is known then, and which begins with what was known before
pub record Saw (opening : State) (book : Book) (before : Place) (value : Published) (after : Place) : Type 0 where
  pub value_is : IsPublished opening book value
  pub begins : IsPrefix before.known value.rows.seen.log
  pub after_is : after ≡ record before { known = value.rows.seen.log }

-- who knew some rows sees what is published; the place knows all of that, and was told of this server
pub record HasSeen (opening : State) (book : Book) (known : List Row) (value : Published) (place : Place) : Type 0 where
  pub value_is : IsPublished opening book value
  pub begins : IsPrefix known value.rows.seen.log
  pub known_is : place.known ≡ value.rows.seen.log
  pub origin_known : IsOriginKnown opening book place
