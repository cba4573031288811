-- What is published next is published rightly.
use Rattle.std.proofs.Common.{◌≡◌, ℕ, Bool, true, false, not, IsTrue, Result, Ok, Err, MatchResult, Option, MatchOption, Some, List, [], ◌∷◌, refl, ap, sym}
use Rattle.std.proofs.Common.{◌∙◌, subst}
use mathlib.Core.List.{IsPrefix}
use Rattle.std.specs.FinMap as map
use Rattle.inotree.specs.Tree.{Nodes}
use Rattle.logbook.specs.Pages.{Book}
use Rattle.crossbeam_utils.specs.Register.{TurnsAt}
use Rattle.capstep.specs.declared.row.Row.{Row}
use Rattle.capstep.specs.History.{IsLegal, IsOpening}
use Rattle.capstep.specs.State.{State}
use Rattle.policy_view.specs.declared.view.View.{View}
use Rattle.policy_view.specs.Visible.{Shows}
use Rattle.snapshot.specs.declared.place.Origin.{Origin}
use Rattle.snapshot.specs.declared.place.Place.{Place}
use Rattle.snapshot.specs.declared.value.Published.{Published}
use Rattle.snapshot.specs.declared.value.Stage.{Stage}
use Rattle.snapshot.specs.declared.value.Stage.TheVariants as stage
use Rattle.capstep.specs.Noted.{view_of}
use Rattle.snapshot.specs.Places.{HasSeen, IsOf, IsOriginKnown, IsPublished, Keeps, Saw}
use Rattle.snapshot.specs.Publishing.{IsReady, IsStaging, publishing}
use Rattle.snapshot.specs.Value.{staged, staged_all}
use Rattle.policy_view.proofs.Likeness.{shows-refl}
use Rattle.snapshot.proofs.Beginnings.{prefix_self, prefix_trans}
use Rattle.snapshot.proofs.Gathering.{legal_none}
use Rattle.snapshot.proofs.Seeing.{is_of_value, turns}

-- no stage makes it another server's
staged_origin : (value : Published) (next : Stage) → (staged value next).origin ≡ value.origin
staged_origin value (stage.Rows rows) = refl
staged_origin value (stage.Change change) = refl
staged_origin value (stage.Whole view) = refl

same_origin : (value : Published) (stages : List Stage) → (staged_all value stages).origin ≡ value.origin
same_origin value [] = refl
same_origin value (next ∷ stages) = same_origin (staged value next) stages ∙ staged_origin value next

pub publishes : (opening : State) (book : Book) (seat : ℕ) (place : Place) (value next : Published) (stages : List Stage) (rows : List Row) (lost : Bool) → IsOriginKnown opening book place
    → IsPrefix value.rows.seen.log rows → (staged_all value stages).rows.seen.book ≡ book → (staged_all value stages).rows.seen.log ≡ rows → IsReady opening (publishing value stages rows lost) → next ≡ staged_all value stages
    → TurnsAt Keeps seat place value next (λ v x y w. Saw opening book v y w)
publishes opening book seat place value next stages rows lost origin_known begins book_is rows_are ready is places keeps at =
    let log : next.rows.seen.log ≡ rows = ap (λ (v : Published). v.rows.seen.log) is ∙ rows_are in
    let same : next.origin ≡ value.origin = ap (λ (v : Published). v.origin) is ∙ same_origin value stages in
    let mine : IsOf opening book value.origin = is_of_value opening book value place origin_known (keeps.known seat place at) in
    turns opening book seat place value next
    (record {
      is_of = subst (IsOf opening book) (sym same) mine;
      book_is = ap (λ (v : Published). v.rows.seen.book) is ∙ book_is;
      legal = record { last = ready.legal.last; is_legal = subst (λ (r : List Row). IsLegal opening r ready.legal.last) (sym log) ready.legal.is_legal };
      shows = subst (λ (v : View). Shows v (view_of ready.legal.last)) (sym (ap (λ (v : Published). v.view) is)) ready.shows;
    })
    same (subst (λ (r : List Row). IsPrefix value.rows.seen.log r) (sym log) begins) places keeps at

-- what is noted of an opening makes it that server's
pub noted_of : (opening : State) (origin : Origin) (fs : List ℕ) (tree : Nodes) → origin.fs.log ≡ fs ∷ [] → origin.tree.log ≡ tree ∷ [] → IsOpening fs tree opening → IsOf opening origin.rows.book origin
noted_of opening origin fs tree fs_is tree_is opens = record { fs = fs; tree = tree; fs_is = fs_is; tree_is = tree_is; opens = opens; book_is = refl }

-- at the opening there is the tree, and no session
pub view_first : (opening : State) (book : Book) (value : Published) → IsOf opening book value.origin → value.origin.tree.log ≡ value.view.tree ∷ [] → value.view.sessions ≡ map.empty → value.view ≡ view_of opening
view_first opening book value is tree none =
    let same : value.view.tree ≡ is.tree = cc (tree, is.tree_is) in
    (λ i. record { tree = (same ∙ sym is.opens.tree_is) i; sessions = (none ∙ sym (λ j. (is.opens.sessions_are j).sessions)) i })

-- what is published first: no row, and the view of the opening
pub opens_with : (opening : State) (value : Published) → IsOf opening value.origin.rows.book value.origin → value.rows.seen.book ≡ value.origin.rows.book → value.rows.seen.log ≡ [] → value.view ≡ view_of opening
    → IsPublished opening value.origin.rows.book value
opens_with opening value is named none seen = record {
  is_of = is;
  book_is = named;
  legal = record { last = opening; is_legal = subst (λ (rows : List Row). IsLegal opening rows opening) (sym none) (legal_none opening) };
  shows = subst (λ (v : View). Shows v (view_of opening)) (sym seen) (shows-refl (view_of opening));
}

-- where nothing is staged, what is shown next is what was
pub unstaged : (value next : Published) (stages : List Stage) → next ≡ staged_all value stages → stages ≡ [] → next ≡ value
unstaged value next stages is none = is ∙ ap (λ (s : List Stage). staged_all value s) none

-- and that is what is staged to be shown next
pub staging_first : (book : Book) (value : Published) (stages : List Stage) (rows : List Row) → value.rows.seen.book ≡ book → value.rows.seen.log ≡ [] → stages ≡ [] → rows ≡ [] → IsStaging book value stages rows false
staging_first book value stages rows named none unstaged empty =
    let log : value.rows.seen.log ≡ rows = none ∙ sym empty in
    subst (λ (s : List Stage). IsStaging book value s rows false) (sym unstaged) (record {
      begins = subst (λ (r : List Row). IsPrefix value.rows.seen.log r) log (prefix_self value.rows.seen.log);
      book_is = λ there. named;
      rows_are = λ there. log;
    })

done_of : (done : Bool) → not done ≡ false → IsTrue done
done_of true is = refl
done_of false is = cc

-- more rows are in the book, and all is staged, or a stage was lost
pub staging_more : (book : Book) (value next : Published) (before after : List Stage) (rows more history : List Row) (lost done : Bool) → IsStaging book value before rows lost → next ≡ value
    → IsPrefix rows more → (IsTrue done → more ≡ history) → (IsTrue done → (staged_all next after).rows.seen.log ≡ history) → (IsTrue done → (staged_all next after).rows.seen.book ≡ book)
    → IsStaging book next after more (not done)
staging_more book value next before after rows more history lost done held same up whole log named = record {
  begins = subst (λ (v : Published). IsPrefix v.rows.seen.log more) (sym same) (prefix_trans value.rows.seen.log rows more held.begins up);
  book_is = λ there. named (done_of done there);
  rows_are = λ there. log (done_of done there) ∙ sym (whole (done_of done there));
}

staging_done : (book : Book) (value next : Published) (stages none : List Stage) (rows : List Row) → IsStaging book value stages rows false → next ≡ staged_all value stages → none ≡ [] → IsStaging book next none rows false
staging_done book value next stages none rows held is empty =
    let log : next.rows.seen.log ≡ rows = ap (λ (v : Published). v.rows.seen.log) is ∙ held.rows_are refl in
    subst (λ (left : List Stage). IsStaging book next left rows false) (sym empty) (record {
      begins = subst (λ (log : List Row). IsPrefix log rows) (sym log) (prefix_self rows);
      book_is = λ there. ap (λ (v : Published). v.rows.seen.book) is ∙ held.book_is refl;
      rows_are = λ there. log;
    })

-- what was staged is shown, and nothing is staged; or memory was refused, and all is as before
pub staging_after : {A B : Type 0} (book : Book) (value next : Published) (stages left : List Stage) (rows : List Row) (lost : Bool) (done : Result A B) → IsStaging book value stages rows lost → lost ≡ false
    → MatchResult done (λ _. (next ≡ staged_all value stages) × (left ≡ [])) (λ _. (next ≡ value) × (left ≡ stages)) → IsStaging book next left rows lost
staging_after book value next stages left rows lost (Ok none) held whole is =
    subst (IsStaging book next left rows) (sym whole) (staging_done book value next stages left rows (subst (IsStaging book value stages rows) whole held) is.0 is.1)
staging_after book value next stages left rows lost (Err refused) held whole is =
    subst (λ (v : Published). IsStaging book v left rows lost) (sym is.0) (subst (λ (s : List Stage). IsStaging book value s rows lost) (sym is.1) held)

-- ---- of which server the publisher's place knows to be

pub origin_same : (opening : State) (book : Book) (place after : Place) → IsOriginKnown opening book place → after.origin ≡ place.origin → IsOriginKnown opening book after
origin_same opening book place after origin_known same = record { origin = origin_known.origin; origin_known = same ∙ origin_known.origin_known; is_of = origin_known.is_of }

pub first_origin : (opening : State) (book : Book) (place after : Place) (origin : Origin) → IsOf opening book origin → after ≡ record place { origin = Some origin } → IsOriginKnown opening book after
first_origin opening book place after origin is origin_known = record { origin = origin; origin_known = ap (λ (p : Place). p.origin) origin_known; is_of = is }

-- and goes on to know, whatever comes of publishing
pub origin_after : {A B : Type 0} (opening : State) (book : Book) (place after : Place) (value : Published) (done : Result A B) → IsOriginKnown opening book place
    → MatchResult done (λ _. Saw opening book place value after) (λ _. after ≡ place) → IsOriginKnown opening book after
origin_after opening book place after value (Ok none) origin_known saw = origin_same opening book place after origin_known (ap (λ (p : Place). p.origin) saw.after_is)
origin_after opening book place after value (Err refused) origin_known same = origin_same opening book place after origin_known (ap (λ (p : Place). p.origin) same)

-- who entered a place that was told has seen what is published
pub has_seen : (opening : State) (book : Book) (known : List Row) (before after : Place) (value : Published) → IsOriginKnown opening book before → before.known ≡ known → Saw opening book before value after → HasSeen opening book known value after
has_seen opening book known before after value origin_known is saw = record {
  value_is = saw.value_is;
  begins = subst (λ (rows : List Row). IsPrefix rows value.rows.seen.log) is saw.begins;
  known_is = ap (λ (p : Place). p.known) saw.after_is;
  origin_known = origin_same opening book before after origin_known (ap (λ (p : Place). p.origin) saw.after_is);
}

-- what is so of the value in a place, of what was taken out of it
pub held_of : {P : Type 0} (place taken : Option P) (p : P) (Held : P → Type 0) → MatchOption place ⊥ Held → taken ≡ place → taken ≡ Some p → Held p
held_of {P = P} place taken p Held held same is = subst (λ (q : Option P). MatchOption q ⊥ Held) (sym same ∙ is) held
