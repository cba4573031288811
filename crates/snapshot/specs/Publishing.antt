-- What a publisher has staged for readers to see next.
use Rattle.std.specs.Prelude.{◌≡◌, Bool, false, List, [], refl}
use Rattle.std.specs.Coded.{Coded, code_by, coded_bool, coded×}
use mathlib.Core.List.{IsPrefix}
use Rattle.logbook.specs.Pages.{Book}
use Rattle.capstep.specs.declared.row.Row.{Row}
use Rattle.capstep.specs.State.{State}
use Rattle.policy_view.specs.declared.view.View.{View}
use Rattle.policy_view.specs.Codes.{view_code}
use Rattle.policy_view.specs.Visible.{Shows}
use Rattle.snapshot.specs.declared.value.Published.{Published}
use Rattle.snapshot.specs.declared.value.Stage.{Stage}
use Rattle.capstep.specs.Noted.{view_of}
use Rattle.snapshot.specs.Rows.{Legal, rows_code}
use Rattle.snapshot.specs.Value.{staged_all}

-- the rows that readers see, those in the book, whether a stage was lost, and the view once the stages are there
pub record Publishing : Type 0 where
  pub shown : List Row
  pub rows : List Row
  pub lost : Bool
  pub view : View

abbrev pub publishing : Published → List Stage → List Row → Bool → Publishing
publishing value stages rows lost = record { shown = value.rows.seen.log; rows = rows; lost = lost; view = (staged_all value stages).view }

abbrev pub publishing_code : Coded Publishing
publishing_code =
    code_by (List Row × (List Row × (Bool × View))) (coded× rows_code (coded× rows_code (coded× coded_bool view_code)))
    (λ p. (p.shown, (p.rows, (p.lost, p.view)))) (λ p. record { shown = p.0; rows = p.1.0; lost = p.1.1.0; view = p.1.1.1 }) (λ _. refl)

-- no row is in the book or shown, nothing is lost, and the view is that of the opening
abbrev pub first_of : State → Publishing
first_of opening = record { shown = []; rows = []; lost = false; view = view_of opening }

-- what readers see begins the rows in the book; and where no stage was lost, the stages lead to just these
pub record IsStaging (book : Book) (value : Published) (stages : List Stage) (rows : List Row) (lost : Bool) : Type 0 where
  pub begins : IsPrefix value.rows.seen.log rows
  pub book_is : lost ≡ false → (staged_all value stages).rows.seen.book ≡ book
  pub rows_are : lost ≡ false → (staged_all value stages).rows.seen.log ≡ rows

-- the rows in the book lead from the opening to a state that the view shows
pub record IsReady (opening : State) (p : Publishing) : Type 0 where
  pub legal : Legal opening p.rows
  pub shows : Shows p.view (view_of legal.last)
