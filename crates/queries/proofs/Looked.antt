-- The lines of findings, one after the other.
use Rattle.std.proofs.Common.{◌≡◌, ℕ, suc, ◌+◌, ◌<◌, ◌≤◌, Option, Some, None, Result, Ok, Err, List, [], ◌∷◌, ◌++◌, length, take, drop, get_or, map, refl, sym, ap, subst, ◌∙◌}
use Rattle.std.proofs.Common.{append_assoc, arith}
use Rattle.std.proofs.lemmas.List.{append-nil, drop_all, drop_more, map-append, take_more}
use Rattle.std.proofs.lemmas.List.Concat.{flat_map-append}
use Rattle.capspec.specs.declared.grant.Grant.{Grant}
use Rattle.policy_analysis.specs.declared.unread.Unread.{Unread}
use Rattle.policy_analysis.specs.Ceph16Syntax.{AreReported, GrantText, why_each}
use Rattle.policy_analysis.specs.declared.finding.Finding.{Finding}
use Rattle.policy_analysis.specs.declared.oddity.OddGrant.{OddGrant}
use Rattle.policy_analysis.specs.declared.refusal.Refusal.{Refusal}
use Rattle.policy_analysis.specs.declared.releases.Releases.{Releases}
use Rattle.texts.specs.Found.{Found}
use Rattle.texts.specs.declared.shape.Shape.{Shape}
use Rattle.release_grants.specs.declared.grant.Grant.{Grant as Given}
use Rattle.release_grants.specs.declared.reading.Unread.{Unread as NotRead}
use Rattle.release_grants.specs.Reading.{read_of}
use Rattle.policy_analysis.specs.Oddities.{oddities}
use Rattle.policy_analysis.specs.Refusals.{AreRefusals}
use Rattle.policy_analysis.specs.Releases.{switches_for}
use Rattle.policy_analysis.specs.declared.releases.Releases.TheVariants.{Today}
use Rattle.queries.specs.Linting.{AddsThings, AreByReleases, AreOfRead, AreToday, found_of, lint_in, odd_thing, odd_things, refused_from, refused_thing, thing_in, things_in}

-- with the lines of what is left behind it the text is that of all
abbrev pub IsSoFar : Shape → List Finding → List (Option Unread) → ℕ → List ℕ → Type 0
IsSoFar shape findings unread i text = text ++ lint_in shape (drop i findings) (drop i unread) ≡ lint_in shape findings unread

pub one_more : (shape : Shape) (findings : List Finding) (unread : List (Option Unread)) (i : ℕ) (f : Finding) (default : Option Unread) (text after : List ℕ)
    → i < length findings → length unread ≡ length findings → f ≡ get_or findings i f → IsSoFar shape findings unread i text → after ≡ text ++ found_of shape f (get_or unread i default) → IsSoFar shape findings unread (i + 1) after
one_more shape findings unread i f default text after inside same is before now =
    let why : Option Unread = get_or unread i default in
    let here : drop i findings ≡ f ∷ drop (i + 1) findings = drop_more findings i f inside ∙ ap (λ (x : Finding). x ∷ drop (i + 1) findings) (sym is) in
    let there : drop i unread ≡ why ∷ drop (i + 1) unread = drop_more unread i default (omega (arith, inside, same)) in
    ap (λ (t : List ℕ). t ++ lint_in shape (drop (i + 1) findings) (drop (i + 1) unread)) now
    ∙ append_assoc text (found_of shape f why) (lint_in shape (drop (i + 1) findings) (drop (i + 1) unread))
    ∙ ap (λ (t : List ℕ). text ++ t) (sym (ap (λ (fs : List Finding). lint_in shape fs (drop i unread)) here ∙ ap (lint_in shape (f ∷ drop (i + 1) findings)) there))
    ∙ before

pub all_reported : (shape : Shape) (findings : List Finding) (unread : List (Option Unread)) (i : ℕ) (text : List ℕ) → length findings ≤ i → IsSoFar shape findings unread i text → text ≡ lint_in shape findings unread
all_reported shape findings unread i text end before =
    sym (append-nil text) ∙ ap (λ (fs : List Finding). text ++ lint_in shape fs (drop i unread)) (sym (drop_all i findings end)) ∙ before

-- ---- by the rules of releases

pub one_odd_more : (shape : Shape) (releases : Releases) (odds : List OddGrant) (i : ℕ) (o : OddGrant) (old before after : List ℕ) → i < length odds → o ≡ get_or odds i o → before ≡ old ++ things_in shape (odd_things releases (take i odds))
    → after ≡ before ++ thing_in shape (odd_thing releases o) → after ≡ old ++ things_in shape (odd_things releases (take (i + 1) odds))
one_odd_more shape releases odds i o old before after inside is so_far now =
    let first : List (ℕ × Found) = odd_things releases (take i odds) in
    let one : List (ℕ × Found) = odd_thing releases o ∷ [] in
    let here : odd_things releases (take (i + 1) odds) ≡ first ++ one =
    ap (odd_things releases) (take_more odds i o inside ∙ ap (λ (x : OddGrant). take i odds ++ x ∷ []) (sym is)) ∙ map-append (odd_thing releases) (take i odds) (o ∷ []) in
    now ∙ ap (λ (t : List ℕ). t ++ thing_in shape (odd_thing releases o)) so_far ∙ append_assoc old (things_in shape first) (thing_in shape (odd_thing releases o))
    ∙ ap (λ (t : List ℕ). old ++ (things_in shape first ++ t)) (sym (append-nil (thing_in shape (odd_thing releases o))))
    ∙ ap (λ (t : List ℕ). old ++ t) (sym (ap (things_in shape) here ∙ flat_map-append (thing_in shape) first one))

-- with what is left behind it the text is that of all
abbrev pub IsRefusedSoFar : Shape → List ℕ → List (Option Refusal) → ℕ → List ℕ → Type 0
IsRefusedSoFar shape old found i text = text ++ things_in shape (refused_from (i + 1) (drop i found)) ≡ old ++ things_in shape (refused_from 1 found)

pub one_refusal_more : (shape : Shape) (old : List ℕ) (found : List (Option Refusal)) (i : ℕ) (one : Refusal) (item : Option Refusal) (text after : List ℕ) → i < length found → item ≡ Some one → item ≡ get_or found i item → IsRefusedSoFar shape old found i text
    → after ≡ text ++ thing_in shape (refused_thing (i + 1) one) → IsRefusedSoFar shape old found (i + 1) after
one_refusal_more shape old found i one item text after inside some is before now =
    let rest : List ℕ = things_in shape (refused_from (i + 1 + 1) (drop (i + 1) found)) in
    let here : drop i found ≡ Some one ∷ drop (i + 1) found = drop_more found i item inside ∙ ap (λ (x : Option Refusal). x ∷ drop (i + 1) found) (sym is ∙ some) in
    ap (λ (t : List ℕ). t ++ rest) now ∙ append_assoc text (thing_in shape (refused_thing (i + 1) one)) rest
    ∙ ap (λ (rs : List (Option Refusal)). text ++ things_in shape (refused_from (i + 1) rs)) (sym here) ∙ before

pub no_refusal_more : (shape : Shape) (old : List ℕ) (found : List (Option Refusal)) (i : ℕ) (item : Option Refusal) (text after : List ℕ) → i < length found → item ≡ None → item ≡ get_or found i item → IsRefusedSoFar shape old found i text → after ≡ text → IsRefusedSoFar shape old found (i + 1) after
no_refusal_more shape old found i item text after inside none is before same =
    let here : drop i found ≡ None ∷ drop (i + 1) found = drop_more found i item inside ∙ ap (λ (x : Option Refusal). x ∷ drop (i + 1) found) (sym is ∙ none) in
    ap (λ (t : List ℕ). t ++ things_in shape (refused_from (i + 1 + 1) (drop (i + 1) found))) same ∙ ap (λ (rs : List (Option Refusal)). text ++ things_in shape (refused_from (i + 1) rs)) (sym here) ∙ before

pub all_refused : (shape : Shape) (old : List ℕ) (found : List (Option Refusal)) (i : ℕ) (text : List ℕ) → length found ≤ i → IsRefusedSoFar shape old found i text → text ≡ old ++ things_in shape (refused_from 1 found)
all_refused shape old found i text end before =
    sym (append-nil text) ∙ ap (λ (rs : List (Option Refusal)). text ++ things_in shape (refused_from (i + 1) rs)) (sym (drop_all i found end)) ∙ before

-- what is odd, and behind it what is refused
pub by_releases : (shape : Shape) (releases : Releases) (grants : List Given) (odds : List OddGrant) (found : List (Option Refusal)) (old middle new : List ℕ) → odds ≡ oddities (switches_for releases) grants → AreRefusals releases grants found
    → middle ≡ old ++ things_in shape (odd_things releases odds) → new ≡ middle ++ things_in shape (refused_from 1 found) → AddsThings (AreByReleases releases grants) shape old new
by_releases shape releases grants odds found old middle new odds_are are first then =
    let odd_ones : List (ℕ × Found) = odd_things releases odds in
    let refused_ones : List (ℕ × Found) = refused_from 1 found in (
      odd_ones ++ refused_ones,
      record { found = found; refusals = are; things_are = ap (λ (os : List OddGrant). odd_things releases os ++ refused_ones) odds_are },
      then ∙ ap (λ (t : List ℕ). t ++ things_in shape refused_ones) first ∙ append_assoc old (things_in shape odd_ones) (things_in shape refused_ones)
          ∙ ap (λ (t : List ℕ). old ++ t) (sym (flat_map-append (thing_in shape) odd_ones refused_ones)),
    )

-- the same of what is read in a text, or not
pub today_read : (text : List ℕ) (shape : Shape) (old new : List ℕ) (grants : List Given) → read_of (switches_for Today) text ≡ Ok grants → AddsThings (AreByReleases Today grants) shape old new → AddsThings (AreToday text) shape old new
today_read text shape old new grants reads adds = (adds.0, subst (λ (r : Result (List Given) NotRead). AreOfRead r adds.0) (sym reads) adds.1, adds.2)

pub today_unread : (text : List ℕ) (shape : Shape) (old new : List ℕ) (unread : NotRead) → read_of (switches_for Today) text ≡ Err unread → new ≡ old → AddsThings (AreToday text) shape old new
today_unread text shape old new unread fails same = ([], subst (λ (r : Result (List Given) NotRead). AreOfRead r []) (sym fails) refl, same ∙ sym (append-nil old))

-- ---- as many as there are grants

each_one : (around : List ℕ) (texts_of_grants : List GrantText) → length (why_each around texts_of_grants) ≡ length (map (λ s. s.grant) texts_of_grants)
each_one around [] = refl
each_one around (s ∷ []) = refl
each_one around (s ∷ t ∷ more) = ap (λ (n : ℕ). suc n) (each_one (s.after ++ t.before) (t ∷ more))

pub one_each : (text : List ℕ) (grants : List Grant) (unread : List (Option Unread)) → AreReported text grants unread → length unread ≡ length grants
one_each text grants unread reported = ap length reported.reported_are ∙ each_one [] reported.texts_of_grants ∙ ap length reported.of_grants
