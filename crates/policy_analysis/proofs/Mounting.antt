-- The grants that stand in for those of an MDS, for each file system that a client may mount.
use Rattle.std.proofs.Common.{◌≡◌, ℕ, ◌+◌, ◌<◌, Bool, true, false, not, ◌&&◌, ◌||◌, Option, Some, None, List, [], length, take, get_or, refl, sym, ap, ◌∙◌}
use Rattle.std.specs.Prelude.{IfSome, bytes_eq, if◌then◌else◌}
use Rattle.std.specs.List.{list_any}
use Rattle.std.proofs.Math.Seq.{take-length}
use Rattle.std.proofs.lemmas.Slice.Eq.{bytes_eq-Decides}
use Rattle.capspec.specs.declared.grant.Grant.{Grant as OwnGrant}
use Rattle.capgrant.specs.Access.{is_set_vxattr}
use Rattle.capgrant.specs.Failing.{is_some_and}
use Rattle.capgrant.specs.Question.{Question}
use Rattle.release_grants.specs.declared.grant.Grant.{Grant}
use Rattle.release_grants.specs.declared.switches.Switches.{Switches}
use Rattle.policy_analysis.specs.ComparingBy.{CanBeAsked, Terms}
use Rattle.policy_analysis.specs.StandIns.{Adds, StandInFor, is_on, mounts_each, names, one_allows, say}
use Rattle.policy_analysis.proofs.Adding.{any_more, each_mounts, named_mounts}

one_and : (n m a : Bool) → ((n && a) || (m && a)) ≡ ((n || (m || false)) && a)
one_and true m true = refl
one_and true true false = refl
one_and true false false = refl
one_and false true a = refl
one_and false false a = refl

no_say : (vxattr : Bool) (q : Question) → say vxattr [] q ≡ false
no_say true q = refl
no_say false q = refl

on_each : (s : Switches) (q : Question) → is_on s None q ≡ true
on_each s q = by_switch s.judges_fsname
  where
    by_switch : (judges : Bool) → (if judges then true else true) ≡ true
    by_switch true = refl
    by_switch false = refl

-- the same name
is_named : (name fs : List ℕ) → bytes_eq name fs ≡ true → name ≡ fs
is_named name fs is = (bytes_eq-Decides name fs).0 is

module _ (vxattr : Bool) (t : Terms) (maybe : Bool) (grants : List Grant) where
  -- ---- those that stand in on each file system

  pub stand_in_each : (owns : List OwnGrant) → (t.switches.judges_fsname || list_any (mounts_each t.switches) grants) ≡ true → Adds vxattr t maybe None grants [] owns → StandInFor vxattr t maybe grants owns
  stand_in_each owns either adds q asked of =
      adds q asked of ∙ (λ i. no_say vxattr q i || (on_each t.switches q i && list_any (one_allows t maybe q) grants)) ∙ each_mounts t maybe grants q either

  -- ---- those that stand in on each that is named

  -- so far, on those that the first grants name
  abbrev pub StandOnNamed : ℕ → List OwnGrant → Type 0
  StandOnNamed i owns = (q : Question) → CanBeAsked q → is_set_vxattr q.access ≡ vxattr → say vxattr owns q ≡ (list_any (names q.fs) (take i grants) && list_any (one_allows t maybe q) grants)

  pub none_yet : StandOnNamed 0 []
  none_yet q asked of = no_say vxattr q

  module _ (i : ℕ) (g : Grant) (before : List OwnGrant) (within : i < length grants) (is : g ≡ get_or grants i g) (so_far : StandOnNamed i before) where
    -- one more
    pub one_named : (name : List ℕ) (after : List OwnGrant) → t.switches.judges_fsname ≡ false → g.fsname ≡ Some name → Adds vxattr t maybe (Some name) grants before after → StandOnNamed (i + 1) after
    one_named name after judges named adds q asked of =
        adds q asked of
        ∙ (λ j. so_far q asked of j || (on_named j && list_any (one_allows t maybe q) grants))
        ∙ one_and (list_any (names q.fs) (take i grants)) (names q.fs g) (list_any (one_allows t maybe q) grants)
        ∙ ap (λ (b : Bool). b && list_any (one_allows t maybe q) grants) (sym (any_more (names q.fs) grants i g within is))
      where
        not_twice : (b : Bool) → not (not b) ≡ b
        not_twice true = refl
        not_twice false = refl

        on_named : is_on t.switches (Some name) q ≡ names q.fs g
        on_named =
            ap (λ (b : Bool). if b then true else not (not (bytes_eq name q.fs))) judges ∙ not_twice (bytes_eq name q.fs)
            ∙ ap (λ (n : Option (List ℕ)). is_some_and (λ m. bytes_eq m q.fs) n) (sym named)

    -- no other
    pub none_named : (after : List OwnGrant) → IfSome g.fsname (λ name. list_any (names name) (take i grants) ≡ true) → after ≡ before → StandOnNamed (i + 1) after
    none_named after known same q asked of =
        ap (λ (owns : List OwnGrant). say vxattr owns q) same ∙ so_far q asked of
        ∙ ap (λ (b : Bool). b && list_any (one_allows t maybe q) grants) (sym (any_more (names q.fs) grants i g within is ∙ by_name g.fsname known))
      where
        nothing : (b : Bool) → (b || (false || false)) ≡ b
        nothing true = refl
        nothing false = refl

        by_test : (name : List ℕ) (b : Bool) → bytes_eq name q.fs ≡ b → list_any (names name) (take i grants) ≡ true → (list_any (names q.fs) (take i grants) || (b || false)) ≡ list_any (names q.fs) (take i grants)
        by_test name true is known =
            let all : list_any (names q.fs) (take i grants) ≡ true = ap (λ (n : List ℕ). list_any (names n) (take i grants)) (sym (is_named name q.fs is)) ∙ known in
            ap (λ (b : Bool). b || true) all ∙ sym all
        by_test name false is known = nothing (list_any (names q.fs) (take i grants))

        by_name : (name : Option (List ℕ)) → IfSome name (λ n. list_any (names n) (take i grants) ≡ true)
            → (list_any (names q.fs) (take i grants) || (is_some_and (λ n. bytes_eq n q.fs) name || false)) ≡ list_any (names q.fs) (take i grants)
        by_name None known = nothing (list_any (names q.fs) (take i grants))
        by_name (Some name) known = by_test name (bytes_eq name q.fs) refl known

  -- and on all of them
  pub all_named : (owns : List OwnGrant) → list_any (mounts_each t.switches) grants ≡ false → StandOnNamed (length grants) owns → StandInFor vxattr t maybe grants owns
  all_named owns none so_far q asked of =
      so_far q asked of
      ∙ ap (λ (gs : List Grant). list_any (names q.fs) gs && list_any (one_allows t maybe q) grants) (take-length grants)
      ∙ ap (λ (b : Bool). b && list_any (one_allows t maybe q) grants) (sym (named_mounts t.switches q.fs grants none))
