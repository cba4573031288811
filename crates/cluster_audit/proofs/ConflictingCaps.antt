-- What conflicts with what a client holds.
use Rattle.std.proofs.Common.{◌≡◌, ℕ, ◌+◌, ◌<◌, Bool, true, false, ◌&&◌, List, [], ◌∷◌, ◌++◌, length, get_or, take, ◌≤◌, refl, sym, ap, ◌∙◌, append_assoc}
use Rattle.std.proofs.Common.{Option}
use Rattle.std.specs.Prelude.{filter_map}
use Rattle.std.specs.List.{cons_option, list_all, list_any}
use Rattle.std.proofs.lemmas.Bool.{and_left}
use Rattle.std.proofs.lemmas.List.{take_more}
use Rattle.std.proofs.lemmas.List.Elements.{filter_map-append}
use Rattle.capbits.specs.declared.cap.Cap.{Cap}
use Rattle.capbits.specs.Caps.{Caps, all_caps, has}
use Rattle.capbits.specs.Sets.{all_in, caps_in, has-caps_in, has-where, same_cap, same_caps, union}
use Rattle.capbits.proofs.Emptiness.{in_all}
use Rattle.locktable.specs.Conflicts.{conflict}
use Rattle.cluster_audit.specs.declared.conflict.Holding.{Holding}
use Rattle.cluster_audit.specs.declared.conflict.Conflict.{Conflict}
use Rattle.cluster_audit.specs.Conflicts.{conflict_of, conflicting, conflicting_caps}
use Rattle.cluster_audit.proofs.Gathering.{IsGathered, all_of, no_more, one_more}

same : Bool → Bool → Bool
same true b = b
same false true = false
same false false = true

are_same : (a b : Bool) → same a b ≡ true → a ≡ b
unfolding same
are_same true b e = sym e
are_same false true e = e
are_same false false e = refl

-- the table of the code is the rule of the locks
pub conflicting_is : (c d : Cap) → list_any (same_cap c) (conflicting d) ≡ conflict c d
unfolding same
conflicting_is c d = are_same _ _ (all_in (λ e. same (list_any (same_cap c) (conflicting e)) (conflict c e)) all_caps (all_in (λ f. list_all (λ e. same (list_any (same_cap f) (conflicting e)) (conflict f e)) all_caps) all_caps every c (in_all c)) d (in_all d))
  where
    every : list_all (λ f. list_all (λ e. same (list_any (same_cap f) (conflicting e)) (conflict f e)) all_caps) all_caps ≡ true
    every = refl

-- ---- the loop over all caps

-- the first cap conflicts with the second, which is one of these
abbrev pub test : Caps → Cap → Cap → Bool
test caps c d = has caps d && conflict c d

pub one_rival_more : (caps found added after : Caps) (i : ℕ) (d : Cap) → i < length all_caps → IsGathered (test caps) (take i all_caps) found → has caps (get_or all_caps i d) ≡ true → added ≡ caps_in (conflicting (get_or all_caps i d)) → after ≡ union found added → IsGathered (test caps) (take (i + 1) all_caps) after
one_rival_more caps found added after i d within gathered own is_added is_after = one_more (test caps) all_caps found added after i (get_or all_caps i d) d within refl gathered here is_after
  where
    here : (c : Cap) → has added c ≡ test caps c (get_or all_caps i d)
    here c =
        ap (λ (s : Caps). has s c) is_added
        ∙ has-caps_in (conflicting (get_or all_caps i d)) c
        ∙ conflicting_is c (get_or all_caps i d)
        ∙ ap (λ (b : Bool). b && conflict c (get_or all_caps i d)) (sym own)

pub no_rival_more : (caps found after : Caps) (i : ℕ) (d : Cap) → i < length all_caps → IsGathered (test caps) (take i all_caps) found → has caps (get_or all_caps i d) ≡ false → after ≡ found → IsGathered (test caps) (take (i + 1) all_caps) after
no_rival_more caps found after i d within gathered out is_after = no_more (test caps) all_caps found after i d within gathered (λ c. and_left (has caps (get_or all_caps i d)) (conflict c (get_or all_caps i d)) out) is_after

pub are_conflicting : (caps found : Caps) (i : ℕ) → length all_caps ≤ i → IsGathered (test caps) (take i all_caps) found → found ≡ conflicting_caps caps
unfolding conflicting_caps
are_conflicting caps found i end gathered = same_caps found (conflicting_caps caps) (λ c. all_of (test caps) all_caps found i end gathered c ∙ sym (has-where (λ e. list_any (test caps e) all_caps) c))

-- ---- the loop over the others

-- what one holding more adds, if anything
pub conflicts_more : (start : List Conflict) (one : Holding) (others : List Holding) (i : ℕ) (other : Holding) (found : Option Conflict) → i < length others → other ≡ get_or others i other → conflict_of one other ≡ found → start ++ filter_map (conflict_of one) (take i others) ++ cons_option found [] ≡ start ++ filter_map (conflict_of one) (take (i + 1) others)
conflicts_more start one others i other found within at is =
    append_assoc start (filter_map (conflict_of one) (take i others)) (cons_option found [])
    ∙ ap (λ (o : Option Conflict). start ++ (filter_map (conflict_of one) (take i others) ++ cons_option o [])) (sym is)
    ∙ ap (λ (xs : List Conflict). start ++ xs) (sym (ap (filter_map (conflict_of one)) (take_more others i other within ∙ ap (λ (x : Holding). take i others ++ x ∷ []) (sym at)) ∙ filter_map-append (conflict_of one) (take i others) (other ∷ [])))
