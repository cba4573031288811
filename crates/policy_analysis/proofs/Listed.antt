-- What is odd in grants, and what clients refuse, as loops go over the grants.
use Rattle.std.proofs.Common.{◌≡◌, ℕ, ◌+◌, ◌<◌, true, false, Option, List, [], ◌∷◌, ◌++◌, length, take, drop, get_or, map, refl, sym, ap, subst, ◌∙◌, append_assoc}
use Rattle.std.specs.Prelude.{filter}
use Rattle.std.proofs.lemmas.List.{append-nil, drop_more, get_or-map, get_or_default, map-append, take_more}
use Rattle.std.proofs.lemmas.List.Elements.{filter-append}
use Rattle.capbits.specs.declared.caller.Caller.{Caller}
use Rattle.capgrant.specs.declared.access.Attr.{Attr}
use Rattle.release_grants.specs.declared.grant.Grant.{Grant}
use Rattle.release_grants.specs.declared.switches.Switches.{Switches}
use Rattle.policy_analysis.specs.declared.oddity.OddGrant.{OddGrant}
use Rattle.policy_analysis.specs.declared.oddity.Oddity.{Oddity}
use Rattle.policy_analysis.specs.Oddities.{all_oddities, is_odd, odd, oddities, oddities_from, oddities_of}
use Rattle.policy_analysis.specs.declared.releases.Releases.{Releases}
use Rattle.policy_analysis.specs.declared.refusal.Refusal.{Refusal}
use Rattle.policy_analysis.specs.Refusals.{IsFoundOf, caller_of_two, changing, fs_of_two, names_in, question_of_two, refused_by}
use Rattle.policy_analysis.specs.Releases.{switches_for}
use Rattle.policy_analysis.specs.Squashing.{longer, owned_by}

-- ---- what is odd

-- of the first so many oddities those that are in the grant
abbrev pub first_odd : Switches → ℕ → Grant → ℕ → List OddGrant
first_odd s number g i = map (odd number) (filter (is_odd s g) (take i all_oddities))

one_of_them : (s : Switches) (number : ℕ) (g : Grant) (i : ℕ) (o : Oddity) → i < 6
    → first_odd s number g (i + 1) ≡ first_odd s number g i ++ map (odd number) (filter (is_odd s g) (get_or all_oddities i o ∷ []))
one_of_them s number g i o within =
    let now : Oddity = get_or all_oddities i o in
    ap (λ (os : List Oddity). map (odd number) (filter (is_odd s g) os)) (take_more all_oddities i o within)
    ∙ ap (map (odd number)) (filter-append (is_odd s g) (take i all_oddities) (now ∷ []))
    ∙ map-append (odd number) (filter (is_odd s g) (take i all_oddities)) (filter (is_odd s g) (now ∷ []))

pub one_odd_more : (s : Switches) (number : ℕ) (g : Grant) (i : ℕ) (o : Oddity) (old before after : List OddGrant) → i < 6 → is_odd s g (get_or all_oddities i o) ≡ true → before ≡ old ++ first_odd s number g i
    → after ≡ before ++ odd number (get_or all_oddities i o) ∷ [] → after ≡ old ++ first_odd s number g (i + 1)
one_odd_more s number g i o old before after within is so_far more =
    more ∙ ap (λ (xs : List OddGrant). xs ++ odd number (get_or all_oddities i o) ∷ []) so_far ∙ append_assoc old (first_odd s number g i) (odd number (get_or all_oddities i o) ∷ [])
    ∙ ap (λ (xs : List OddGrant). old ++ xs) (sym (one_of_them s number g i o within ∙ ap (λ (xs : List OddGrant). first_odd s number g i ++ xs) (rw is refl)))

pub none_odd_more : (s : Switches) (number : ℕ) (g : Grant) (i : ℕ) (o : Oddity) (old before after : List OddGrant) → i < 6 → is_odd s g (get_or all_oddities i o) ≡ false → before ≡ old ++ first_odd s number g i
    → after ≡ before → after ≡ old ++ first_odd s number g (i + 1)
none_odd_more s number g i o old before after within is so_far same =
    same ∙ so_far ∙ ap (λ (xs : List OddGrant). old ++ xs) (sym (one_of_them s number g i o within ∙ ap (λ (xs : List OddGrant). first_odd s number g i ++ xs) (rw is refl) ∙ append-nil (first_odd s number g i)))

pub one_grant_more : (s : Switches) (grants : List Grant) (i : ℕ) (g : Grant) (before after : List OddGrant) → i < length grants → g ≡ get_or grants i g → after ≡ before ++ oddities_of s (i + 1) g
    → before ++ oddities_from s (i + 1) (drop i grants) ≡ oddities s grants → after ++ oddities_from s (i + 1 + 1) (drop (i + 1) grants) ≡ oddities s grants
one_grant_more s grants i g before after within is more so_far =
    let rest : List OddGrant = oddities_from s (i + 1 + 1) (drop (i + 1) grants) in
    let here : drop i grants ≡ g ∷ drop (i + 1) grants = drop_more grants i g within ∙ ap (λ (x : Grant). x ∷ drop (i + 1) grants) (sym is) in
    ap (λ (xs : List OddGrant). xs ++ rest) more ∙ append_assoc before (oddities_of s (i + 1) g) rest
    ∙ ap (λ (gs : List Grant). before ++ oddities_from s (i + 1) gs) (sym here) ∙ so_far

-- ---- what clients refuse

-- a grant at its place, whatever the default
pub at_place : (grants : List Grant) (i : ℕ) (one g : Grant) → i < length grants → one ≡ get_or grants i one → get_or grants i g ≡ one
at_place grants i one g within is = sym (is ∙ get_or_default grants i one g within)

pub path_at : (grants : List Grant) (paths : List (List (List ℕ))) (i : ℕ) (g : Grant) (path : List (List ℕ)) → paths ≡ map names_in grants → i < length grants → g ≡ get_or grants i g → path ≡ get_or paths i path → path ≡ names_in g
path_at grants paths i g path same within is at =
    at ∙ ap (λ (ps : List (List (List ℕ))). get_or ps i path) same ∙ get_or-map names_in grants i g path within ∙ ap names_in (sym is)

asks_same : (s : Switches) (g h : Grant) (fs : List ℕ) (caller : Caller) (p r path : List (List ℕ)) (attr : Attr) → fs ≡ fs_of_two g h → caller ≡ caller_of_two s g h → p ≡ names_in g → r ≡ names_in h → path ≡ longer p r
    → attr ≡ owned_by caller.uid → changing fs caller path attr ≡ question_of_two s g h
asks_same s g h fs caller p r path attr fs_is caller_is p_is r_is path_is attr_is =
    let whole : path ≡ longer (names_in g) (names_in h) = path_is ∙ λ i. longer (p_is i) (r_is i) in
    let owned : attr ≡ owned_by (caller_of_two s g h).uid = attr_is ∙ ap (λ (c : Caller). owned_by c.uid) caller_is in
    λ i. changing (fs_is i) (caller_is i) (whole i) (owned i)

-- the question of the two was asked
pub asked_of_two : (asked : Releases) (grants : List Grant) (g h : Grant) (fs : List ℕ) (caller : Caller) (p r path : List (List ℕ)) (attr : Attr) (found : Option (Releases × ℕ)) → fs ≡ fs_of_two g h → caller ≡ caller_of_two (switches_for asked) g h
    → p ≡ names_in g → r ≡ names_in h → path ≡ longer p r → attr ≡ owned_by caller.uid → found ≡ refused_by asked grants g (changing fs caller path attr) → refused_by asked grants g (question_of_two (switches_for asked) g h) ≡ found
asked_of_two asked grants g h fs caller p r path attr found fs_is caller_is p_is r_is path_is attr_is is =
    ap (refused_by asked grants g) (sym (asks_same (switches_for asked) g h fs caller p r path attr fs_is caller_is p_is r_is path_is attr_is)) ∙ sym is

-- what is found of the grant at its place, whatever the default
pub found_at : (asked : Releases) (grants : List Grant) (i : ℕ) (one : Grant) (found : Option Refusal) → i < length grants → one ≡ get_or grants i one → IsFoundOf asked grants one found → (g : Grant) → IsFoundOf asked grants (get_or grants i g) found
found_at asked grants i one found within is of g = subst (λ (x : Grant). IsFoundOf asked grants x found) (sym (at_place grants i one g within is)) of
