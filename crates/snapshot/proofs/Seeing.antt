-- The steps on the places keep their rule.
use Rattle.std.proofs.Common.{◌≡◌, ℕ, ◌≢◌, List, [], ◌∷◌, ◌++◌, ◌⊎◌, Option, Some, None, IfSome, set, refl, ap, sym, subst, ⊎_elim}
use mathlib.Core.Option.{some}
use mathlib.Core.List.{IsPrefix}
use lib.ListN.{get_elem?}
use Rattle.logbook.specs.Pages.{Book}
use Rattle.crossbeam_utils.specs.Register.{Admits, Forks, Merges, Turns, TurnsAt}
use Rattle.atomic_table.proofs.Lists.{at_set, at_snoc, set_again}
use Rattle.capstep.specs.State.{State}
use Rattle.snapshot.specs.declared.value.Published.{Published}
use Rattle.snapshot.specs.declared.place.Origin.{Origin}
use Rattle.snapshot.specs.declared.place.Place.{Place}
use Rattle.snapshot.specs.Places.{IsOf, IsOriginKnown, IsPublished, Keeps, Knows, Saw}
use Rattle.snapshot.proofs.Beginnings.{prefix_self, prefix_trans}
use Rattle.snapshot.proofs.Openings.{same_state}

-- who knows nothing knows it of each value
abbrev pub unaware : Place
unaware = record { known = []; origin = None }

unaware_knows : (value : Published) → Knows value unaware
unaware_knows value = record { begins = (value.rows.seen.log, refl); origin_known = tt }

-- the same places, but for one of them
others : (value next : Published) (places : List Place) (seat : ℕ) (now : Place)
    → ((j : ℕ) (u : Place) → get_elem? places j ≡ some u → Knows next u) → Knows next now → (j : ℕ) (u : Place) → get_elem? (set places seat now) j ≡ some u → Knows next u
others value next places seat now all here j u e =
    ⊎_elim (λ (t : (j ≡ seat) × (now ≡ u)). subst (Knows next) t.1 here) (λ (t : (j ≢ seat) × (get_elem? places j ≡ some u)). all j u t.1) (at_set places seat j now u e)

-- what is known of a value is known of one of the same server with more rows
knows_more : (value next : Published) (place : Place) → next.origin ≡ value.origin → IsPrefix value.rows.seen.log next.rows.seen.log → Knows value place → Knows next place
knows_more value next place same up held = record {
  begins = prefix_trans place.known value.rows.seen.log next.rows.seen.log held.begins up;
  origin_known = subst (λ (o : Origin). IfSome place.origin (λ origin. origin ≡ o)) (sym same) held.origin_known;
}

-- one place comes to know what is published next, if that is published rightly, and goes on from what is published now
pub turns : (opening : State) (book : Book) (seat : ℕ) (place : Place) (value next : Published) → IsPublished opening book next → next.origin ≡ value.origin → IsPrefix value.rows.seen.log next.rows.seen.log
    → TurnsAt Keeps seat place value next (λ v x y w. Saw opening book v y w)
turns opening book seat place value next is same up places keeps at =
    let now : Place = record place { known = next.rows.seen.log } in
    let before = knows_more value next place same up (keeps.known seat place at) in (
      now,
      record {
        opening = opening;
        value_is = subst (λ (b : Book). IsPublished opening b next) (sym is.is_of.book_is) is;
        known = others value next places seat now (λ j u e. knows_more value next u same up (keeps.known j u e)) (record { begins = prefix_self next.rows.seen.log; origin_known = before.origin_known });
      },
      record { value_is = is; begins = before.begins; after_is = refl },
    )

-- who was told of a server, of which it keeps the rule, was told of the one that publishes
origin_named : (origin : Option Origin) (one other : Origin) → origin ≡ Some one → IfSome origin (λ o. o ≡ other) → one ≡ other
origin_named origin one other is origin_known = subst (λ (o : Option Origin). IfSome o (λ x. x ≡ other)) is origin_known

pub is_of_value : (opening : State) (book : Book) (value : Published) (place : Place) → IsOriginKnown opening book place → Knows value place → IsOf opening book value.origin
is_of_value opening book value place origin_known knows = subst (IsOf opening book) (origin_named place.origin origin_known.origin value.origin origin_known.origin_known knows.origin_known) origin_known.is_of

-- and what is published is right by that server's opening
pub published_of : (opening : State) (book : Book) (value : Published) (places : List Place) → Keeps value places → IsOf opening book value.origin → IsPublished opening book value
published_of opening book value places keeps is =
    let one : keeps.opening ≡ opening = same_state keeps.opening opening value.origin.rows.book book value.origin keeps.value_is.is_of is in
    subst (λ (b : Book). IsPublished opening b value) is.book_is (subst (λ (o : State). IsPublished o value.origin.rows.book value) one keeps.value_is)

pub looks : (opening : State) (book : Book) (seat : ℕ) (place : Place) → IsOriginKnown opening book place → Turns Keeps seat place (λ x. x) (λ v x y w. Saw opening book v y w)
looks opening book seat place origin_known value places keeps at =
    let is = published_of opening book value places keeps (is_of_value opening book value place origin_known (keeps.known seat place at)) in
    turns opening book seat place value value is refl (prefix_self value.rows.seen.log) places keeps at

-- who makes the pair comes to know of which server it is
pub begins : (seat : ℕ) (place : Place) (value next : Published) → next ≡ value → TurnsAt Keeps seat place value next (λ v x y w. w ≡ record v { origin = Some y.origin })
begins seat place value next same places keeps at =
    let now : Place = record place { origin = Some next.origin } in
    let all : Keeps next places = subst (λ (v : Published). Keeps v places) (sym same) keeps in (
      now,
      record { opening = all.opening; value_is = all.value_is; known = others value next places seat now all.known (record { begins = (all.known seat place at).begins; origin_known = refl }) },
      refl,
    )

-- a place more, which knows nothing
pub admits : Admits Keeps unaware
admits value places keeps = record {
  opening = keeps.opening;
  value_is = keeps.value_is;
  known = λ seat place at. ⊎_elim (λ (t : get_elem? places seat ≡ some place). keeps.known seat place t)
      (λ (e : unaware ≡ place). subst (Knows value) e (unaware_knows value)) (at_snoc places unaware place seat at);
}

-- before anything is published, the one place is the writer's
pub opens : (opening : State) (value : Published) → IsPublished opening value.origin.rows.book value → Keeps value (unaware ∷ [])
opens opening value is = admits value [] (record { opening = opening; value_is = is; known = λ seat place at. absurd (cc at) })

-- a part is cut off that knows of which server it is, and no row
pub forks : (seat : ℕ) (place : Place) → Forks Keeps seat place place (record place { known = [] })
forks seat place value places keeps at =
    let origin_known : Place = record place { known = [] } in
    let here = keeps.known seat place at in record {
      opening = keeps.opening;
      value_is = keeps.value_is;
      known = λ j u e. ⊎_elim (others value value places seat place keeps.known here j u) (λ (same : origin_known ≡ u). subst (Knows value) same (record { begins = (value.rows.seen.log, refl); origin_known = here.origin_known }))
          (at_snoc (set places seat place) origin_known u j e);
    }

-- and a reader takes it in
pub merges : (seat : ℕ) (place : Place) (other : ℕ) (origin_known : Place) → Merges Keeps seat place other origin_known (record place { origin = origin_known.origin }) unaware
merges seat place other origin_known value places keeps at apart there =
    let now : Place = record place { origin = origin_known.origin } in
    let of_other : Knows value origin_known = ⊎_elim (λ (t : (other ≡ seat) × (now ≡ origin_known)). absurd (apart t.0)) (λ (t : (other ≢ seat) × (get_elem? places other ≡ some origin_known)). keeps.known other origin_known t.1) (at_set places seat other now origin_known there) in
    let mine : Knows value now = record { begins = (keeps.known seat place at).begins; origin_known = of_other.origin_known } in record {
      opening = keeps.opening;
      value_is = keeps.value_is;
      known = others value value (set places seat now) other unaware (others value value places seat now keeps.known mine) (unaware_knows value);
    }
