-- What becomes of each rule where the question changes.
use Rattle.std.proofs.Common.{◌≡◌, ℕ, Bool, true, false, not, ◌&&◌, ◌⊎◌, inl, inr, Option, Some, None, List, [], ◌++◌, length, refl, sym, ap, ◌∙◌}
use Rattle.std.proofs.Common.{append_assoc}
use Rattle.std.specs.Prelude.{◌==◌, ◌≢◌, All, MatchOption}
use Rattle.std.specs.List.{list_any, starts_with}
use Rattle.std.specs.Str.{bytes_eq}
use Rattle.std.proofs.lemmas.Bool.{and_cases, and_left, and_right, not-false, not_from_true}
use Rattle.std.proofs.lemmas.List.{append-nil}
use Rattle.std.proofs.lemmas.Slice.Eq.{bytes_eq-Decides, starts_is}
use Rattle.capbits.specs.declared.caller.Caller.{Caller}
use Rattle.capbits.specs.Caller.{gids_of}
use Rattle.capspec.specs.declared.grant.Grant.{Grant}
use Rattle.capspec.specs.Flags.{has_p, has_s, has_w}
use Rattle.capgrant.specs.Access.{is_read, is_set_vxattr, is_snapshot}
use Rattle.capgrant.specs.Question.{Question, contains, listed_gids}
use Rattle.capgrant.specs.Failing.{fails_gids, fails_no_p, fails_no_s, fails_no_write, fails_root_squash, is_some_and}
use Rattle.capgrant.proofs.Listed.{length_listed}
use Rattle.policy_analysis.specs.Comparing.{is_root}
use Rattle.policy_analysis.proofs.Lists.{among_passes, passes_among}

-- ---- the file system

pub fs_stays : (name : Option (List ℕ)) (fs' fs : List ℕ) → (name ≢ Some fs') ⊎ (fs' ≡ fs) → is_some_and (λ n. not (bytes_eq n fs')) name ≡ false → is_some_and (λ n. not (bytes_eq n fs)) name ≡ false
fs_stays None fs' fs either passes = refl
fs_stays (Some n) fs' fs (inl other) passes = absurd (other (ap Some ((bytes_eq-Decides n fs').0 (not-false (bytes_eq n fs') passes))))
fs_stays (Some n) fs' fs (inr same) passes = ap (λ (f : List ℕ). not (bytes_eq n f)) (sym same) ∙ passes

pub fs_named : (X : Type 0) (name : Option (List ℕ)) (fs : List ℕ) → MatchOption name X (λ n. fs ≡ n) → is_some_and (λ n. not (bytes_eq n fs)) name ≡ false
fs_named X None fs named = refl
fs_named X (Some n) fs named = not_from_true (bytes_eq n fs) ((bytes_eq-Decides n fs).1 (sym named))

pub fs_for_each : (name : Option (List ℕ)) (fs' fs : List ℕ) (grants : List Grant) → MatchOption name (All (λ h. h.fsname ≢ Some fs') grants) (λ n. fs' ≡ n) → is_some_and (λ n. not (bytes_eq n fs)) name ≡ false → All (λ h. (h.fsname ≢ Some fs') ⊎ (fs' ≡ fs)) grants
fs_for_each None fs' fs grants named passes = λ k d in'. inl (named k d in')
fs_for_each (Some n) fs' fs grants named passes = λ k d in'. inr (named ∙ (bytes_eq-Decides n fs).0 (not-false (bytes_eq n fs) passes))

-- ---- the gids

pub listed_gid : (c : Caller) (h : Grant) → (length (listed_gids c h) == 0) ≡ false → (n : ℕ) × (contains (gids_of c) n ≡ true) × (contains h.gids n ≡ true)
listed_gid c h some = passes_among (contains h.gids) (gids_of c) (not-false (list_any (contains h.gids) (gids_of c)) (sym (length_listed c h) ∙ some))

pub is_listed : (c : Caller) (h : Grant) (n : ℕ) → contains (gids_of c) n ≡ true → contains h.gids n ≡ true → (length (listed_gids c h) == 0) ≡ false
is_listed c h n of listed = length_listed c h ∙ not_from_true (list_any (contains h.gids) (gids_of c)) (among_passes (contains h.gids) (gids_of c) n of listed)

pub gids_stay : (q' q : Question) (h : Grant) → ((n : ℕ) → contains (gids_of q'.caller) n ≡ true → contains h.gids n ≡ true → contains (gids_of q.caller) n ≡ true) → fails_gids q' h ≡ false → fails_gids q h ≡ false
unfolding fails_gids
gids_stay q' q h fewer passes = by_case (and_cases (not (length h.gids == 0)) (length (listed_gids q'.caller h) == 0) passes)
  where
    by_case : (not (length h.gids == 0) ≡ false) ⊎ ((length (listed_gids q'.caller h) == 0) ≡ false) → (not (length h.gids == 0) && (length (listed_gids q.caller h) == 0)) ≡ false
    by_case (inl none) = and_left (not (length h.gids == 0)) (length (listed_gids q.caller h) == 0) none
    by_case (inr some) =
        let one = listed_gid q'.caller h some in
        and_right (not (length h.gids == 0)) (length (listed_gids q.caller h) == 0) (is_listed q.caller h one.0 (fewer one.0 one.1 one.2) one.2)

pub gids_pass : (q : Question) (g : Grant) → ((length g.gids == 0) ≡ true) ⊎ ((length (listed_gids q.caller g) == 0) ≡ false) → fails_gids q g ≡ false
unfolding fails_gids
gids_pass q g (inl none) = and_left (not (length g.gids == 0)) (length (listed_gids q.caller g) == 0) (not_from_true (length g.gids == 0) none)
gids_pass q g (inr some) = and_right (not (length g.gids == 0)) (length (listed_gids q.caller g) == 0) some

pub gids_passed : (q : Question) (g : Grant) → fails_gids q g ≡ false → ((length g.gids == 0) ≡ true) ⊎ ((n : ℕ) × (contains (gids_of q.caller) n ≡ true) × (contains g.gids n ≡ true))
unfolding fails_gids
gids_passed q g passes = by_case (and_cases (not (length g.gids == 0)) (length (listed_gids q.caller g) == 0) passes)
  where
    by_case : (not (length g.gids == 0) ≡ false) ⊎ ((length (listed_gids q.caller g) == 0) ≡ false) → ((length g.gids == 0) ≡ true) ⊎ ((n : ℕ) × (contains (gids_of q.caller) n ≡ true) × (contains g.gids n ≡ true))
    by_case (inl none) = inl (not-false (length g.gids == 0) none)
    by_case (inr some) = inr (listed_gid q.caller g some)

-- ---- the path

pub below : (path dir : List (List ℕ)) → starts_with bytes_eq path dir ≡ true → (rest : List (List ℕ)) × (path ≡ dir ++ rest)
below path dir is = (_, (starts_is bytes_eq-Decides path dir (starts_with bytes_eq path dir) refl).0 is)

pub above : (path dir rest : List (List ℕ)) → path ≡ dir ++ rest → starts_with bytes_eq path dir ≡ true
above path dir rest is = (starts_is bytes_eq-Decides path dir (starts_with bytes_eq path dir) refl).1 rest is

pub path_stays : (path dir other : List (List ℕ)) → starts_with bytes_eq path dir ≡ true → starts_with bytes_eq dir other ≡ true → starts_with bytes_eq path other ≡ true
path_stays path dir other one two =
    let a = below path dir one in
    let b = below dir other two in
    above path other (b.0 ++ a.0) (a.1 ∙ ap (λ (d : List (List ℕ)). d ++ a.0) b.1 ∙ append_assoc other b.0 a.0)

pub path_itself : (path dir : List (List ℕ)) → path ≡ dir → starts_with bytes_eq path dir ≡ true
path_itself path dir same = above path dir [] (same ∙ sym (append-nil dir))

-- ---- the flags and root

pub same_no_write : (q' q : Question) (h : Grant) → is_read q'.access ≡ is_read q.access → fails_no_write q' h ≡ fails_no_write q h
unfolding fails_no_write
same_no_write q' q h same = ap (λ (b : Bool). not b && not (has_w h.flags)) same

pub same_root_squash : (q' q : Question) (h : Grant) → is_read q'.access ≡ is_read q.access → is_root q'.caller ≡ is_root q.caller → fails_root_squash q' h ≡ fails_root_squash q h
unfolding fails_root_squash
same_root_squash q' q h same root =
    ap (λ (b : Bool). not b && h.root_squash && is_root q'.caller) same
    ∙ ap (λ (b : Bool). not (is_read q.access) && h.root_squash && b) root

pub same_no_p : (q' q : Question) (h : Grant) → is_set_vxattr q'.access ≡ is_set_vxattr q.access → fails_no_p q' h ≡ fails_no_p q h
unfolding fails_no_p
same_no_p q' q h same = ap (λ (b : Bool). b && not (has_p h.flags)) same

pub same_no_s : (q' q : Question) (h : Grant) → is_snapshot q'.access ≡ is_snapshot q.access → fails_no_s q' h ≡ fails_no_s q h
unfolding fails_no_s
same_no_s q' q h same = ap (λ (b : Bool). b && not (has_s h.flags)) same
