-- One grant more that stands in for one of a list.
use Rattle.std.proofs.Common.{◌≡◌, ℕ, ◌+◌, ◌<◌, Bool, true, false, not, ◌&&◌, ◌||◌, ◌⊎◌, inl, inr, Option, Some, None, List, [], ◌∷◌, ◌++◌, length, take, get_or, refl, sym, ap, ◌∙◌, arith}
use Rattle.std.specs.Prelude.{All, bytes_eq, is_none, if◌then◌else◌}
use Rattle.std.specs.List.{list_any}
use Rattle.std.proofs.lemmas.Bool.{and_cases, and_left, and_parts, and_right, both_ways, false≢true, not-false, not-true, or_cases, or_left, or_parts, or_right, true≢false}
use Rattle.std.proofs.lemmas.List.{take_more}
use Rattle.std.proofs.lemmas.List.Elements.{All-head, All-tail}
use Rattle.std.proofs.lemmas.List.Folds.{list_any-append}
use Rattle.capspec.specs.declared.grant.Grant.{Grant as OwnGrant}
use Rattle.capgrant.specs.declared.access.Access.{Access}
use Rattle.capgrant.specs.declared.access.Access.TheVariants.{Chgrp, Chmod, Chown, Read, SetVxattr, Snapshot, Write}
use Rattle.capgrant.specs.Access.{is_set_vxattr}
use Rattle.capgrant.specs.Failing.{is_some_and}
use Rattle.capgrant.specs.Question.{Question}
use Rattle.capgrant.specs.Verdict.{allows}
use Rattle.release_grants.specs.declared.grant.Grant.{Grant}
use Rattle.release_grants.specs.declared.network.InNetwork.{InNetwork}
use Rattle.release_grants.specs.declared.network.InNetwork.TheVariants.{No, Unknown, Yes}
use Rattle.release_grants.specs.declared.switches.Switches.{Switches}
use Rattle.release_rules.specs.Failing.{fails_fsname, fails_no_p, is_for_other_fs}
use Rattle.release_grants.specs.Flags.{has_p}
use Rattle.release_grants.specs.Networks.{in_network, is_no}
use Rattle.release_rules.specs.Verdicts.{is_for_everything, lets_mount, may_allow, may_mount}
use Rattle.policy_analysis.specs.ComparingBy.{CanBeAsked, Terms, put_to}
use Rattle.policy_analysis.specs.Oddities.{has_large_uid, has_two_slashes}
use Rattle.policy_analysis.specs.StandIns.{Adds, IsStandIn, allows_something, allows_together, is_allowed_there, is_on, mounts_each, names, one_allows, plays, say, with_access}
use Rattle.policy_analysis.specs.Vxattrs.{as_owner}
use Rattle.policy_analysis.proofs.Lists.{none_passes, passes_other}
use Rattle.policy_analysis.proofs.Odd.{failing, large_uid, two_slashes}
use Rattle.policy_analysis.proofs.Says.{says, says_vxattr}

-- what one that stands in says
abbrev pub says_one : Bool → OwnGrant → Question → Bool
says_one vxattr own q = if vxattr then allows (as_owner q) own else allows_together q own

say_more : (vxattr : Bool) (owns : List OwnGrant) (own : OwnGrant) (q : Question) → say vxattr (owns ++ own ∷ []) q ≡ (say vxattr owns q || (says_one vxattr own q || false))
say_more true owns own q = list_any-append (allows (as_owner q)) owns (own ∷ [])
say_more false owns own q = list_any-append (allows_together q) owns (own ∷ [])

pub any_more : (p : Grant → Bool) (grants : List Grant) (i : ℕ) (g : Grant) → i < length grants → g ≡ get_or grants i g → list_any p (take (i + 1) grants) ≡ (list_any p (take i grants) || (p g || false))
any_more p grants i g within is =
    ap (list_any p) (take_more grants i g within ∙ ap (λ (x : Grant). take i grants ++ x ∷ []) (sym is)) ∙ list_any-append p (take i grants) (g ∷ [])

one_more : (a on b c : Bool) → ((a || (on && b)) || ((on && c) || false)) ≡ (a || (on && (b || (c || false))))
one_more true on b c = refl
one_more false false b c = refl
one_more false true true c = refl
one_more false true false c = refl

none_more : (a on b : Bool) → (a || (on && b)) ≡ (a || (on && (b || (false || false))))
none_more true on b = refl
none_more false false b = refl
none_more false true true = refl
none_more false true false = refl

module _ (vxattr : Bool) (t : Terms) (maybe : Bool) (fs : Option (List ℕ)) (grants : List Grant) (old before after : List OwnGrant) (i : ℕ) (g : Grant) (within : i < length grants) (is : g ≡ get_or grants i g) (so_far : Adds vxattr t maybe fs (take i grants) old before) where
  -- a grant that allows something, and one that stands in for it
  pub adds_one : (own : OwnGrant) → ((q : Question) → CanBeAsked q → is_set_vxattr q.access ≡ vxattr → says_one vxattr own q ≡ (is_on t.switches fs q && one_allows t maybe q g)) → after ≡ before ++ own ∷ [] → Adds vxattr t maybe fs (take (i + 1) grants) old after
  adds_one own says more q asked of =
      ap (λ (owns : List OwnGrant). say vxattr owns q) more ∙ say_more vxattr before own q
      ∙ (λ j. so_far q asked of j || (says q asked of j || false))
      ∙ one_more (say vxattr old q) (is_on t.switches fs q) (list_any (one_allows t maybe q) (take i grants)) (one_allows t maybe q g)
      ∙ ap (λ (b : Bool). say vxattr old q || (is_on t.switches fs q && b)) (sym (any_more (one_allows t maybe q) grants i g within is))

  -- one that allows nothing
  pub adds_none : ((q : Question) → CanBeAsked q → is_set_vxattr q.access ≡ vxattr → one_allows t maybe q g ≡ false) → after ≡ before → Adds vxattr t maybe fs (take (i + 1) grants) old after
  adds_none none same q asked of =
      ap (λ (owns : List OwnGrant). say vxattr owns q) same ∙ so_far q asked of
      ∙ none_more (say vxattr old q) (is_on t.switches fs q) (list_any (one_allows t maybe q) (take i grants))
      ∙ ap (λ (b : Bool). say vxattr old q || (is_on t.switches fs q && (list_any (one_allows t maybe q) (take i grants) || (b || false)))) (sym (none q asked of))
      ∙ ap (λ (b : Bool). say vxattr old q || (is_on t.switches fs q && b)) (sym (any_more (one_allows t maybe q) grants i g within is))

-- ---- which grants allow something

-- where a grant plays a part, the client is not known to be outside its network
not_outside : (maybe : Bool) (n : InNetwork) → plays maybe n ≡ true → is_no n ≡ false
not_outside maybe Yes is = refl
not_outside maybe No is = absurd (false≢true is)
not_outside maybe Unknown is = refl

where_denied : (t : Terms) (maybe : Bool) (q : Question) (g : Grant) → may_allow t.switches (put_to t q) g ≡ false → one_allows t maybe q g ≡ false
where_denied t maybe q g none = and_right (plays maybe (in_network g.network t.address)) (may_allow t.switches (put_to t q) g) none

-- an attribute that is asked of a grant without p
without_p : (t : Terms) (q : Question) (g : Grant) (access : Access) → is_set_vxattr access ≡ true → has_p g.flags ≡ false → may_allow t.switches (put_to t (with_access q access)) g ≡ false
unfolding fails_no_p
without_p t q g Read is none = absurd (false≢true is)
without_p t q g Write is none = absurd (false≢true is)
without_p t q g Snapshot is none = absurd (false≢true is)
without_p t q g SetVxattr is none = failing t.switches (put_to t (with_access q SetVxattr)) g 6 (omega arith) (ap not none)
without_p t q g Chmod is none = absurd (false≢true is)
without_p t q g (Chown uid) is none = absurd (false≢true is)
without_p t q g (Chgrp gid) is none = absurd (false≢true is)

module _ (vxattr : Bool) (t : Terms) (maybe : Bool) (g : Grant) where
  -- one that is said to allow nothing
  pub nothing_allowed : allows_something t maybe vxattr g ≡ false → (q : Question) → CanBeAsked q → is_set_vxattr q.access ≡ vxattr → one_allows t maybe q g ≡ false
  nothing_allowed none q asked of = by_part (and_cases (plays maybe (in_network g.network t.address)) (not (has_large_uid g) && (not (has_two_slashes t.switches g) && (not vxattr || has_p g.flags))) none)
    where
      by_kind : (v : Bool) → is_set_vxattr q.access ≡ v → (not v || has_p g.flags) ≡ false → one_allows t maybe q g ≡ false
      by_kind true of none = where_denied t maybe q g (without_p t q g q.access of none)
      by_kind false of none = absurd (true≢false none)

      by_path : (not (has_two_slashes t.switches g) ≡ false) ⊎ ((not vxattr || has_p g.flags) ≡ false) → one_allows t maybe q g ≡ false
      by_path (inl two) = where_denied t maybe q g (two_slashes t.switches (put_to t q) g (not-false (has_two_slashes t.switches g) two) asked.path)
      by_path (inr none) = by_kind vxattr of none

      by_uid : (not (has_large_uid g) ≡ false) ⊎ ((not (has_two_slashes t.switches g) && (not vxattr || has_p g.flags)) ≡ false) → one_allows t maybe q g ≡ false
      by_uid (inl large) = where_denied t maybe q g (large_uid t.switches (put_to t q) g (not-false (has_large_uid g) large))
      by_uid (inr none) = by_path (and_cases (not (has_two_slashes t.switches g)) (not vxattr || has_p g.flags) none)

      by_part : (plays maybe (in_network g.network t.address) ≡ false) ⊎ ((not (has_large_uid g) && (not (has_two_slashes t.switches g) && (not vxattr || has_p g.flags))) ≡ false) → one_allows t maybe q g ≡ false
      by_part (inl outside) = and_left (plays maybe (in_network g.network t.address)) (may_allow t.switches (put_to t q) g) outside
      by_part (inr none) = by_uid (and_cases (not (has_large_uid g)) (not (has_two_slashes t.switches g) && (not vxattr || has_p g.flags)) none)

  -- and the one that stands in for one that does
  pub stand_in_says : (fs : Option (List ℕ)) (own : OwnGrant) → IsStandIn t.switches fs g own → allows_something t maybe vxattr g ≡ true
      → (q : Question) → CanBeAsked q → is_set_vxattr q.access ≡ vxattr → says_one vxattr own q ≡ (is_on t.switches fs q && one_allows t maybe q g)
  stand_in_says fs own stand some q asked of =
      let part = and_parts (plays maybe (in_network g.network t.address)) (not (has_large_uid g) && (not (has_two_slashes t.switches g) && (not vxattr || has_p g.flags))) some in
      let uid = and_parts (not (has_large_uid g)) (not (has_two_slashes t.switches g) && (not vxattr || has_p g.flags)) part.1 in
      let path = and_parts (not (has_two_slashes t.switches g)) (not vxattr || has_p g.flags) uid.1 in
      by_kind (not-true (has_large_uid g) uid.0) (not-true (has_two_slashes t.switches g) path.0) (not_outside maybe (in_network g.network t.address) part.0) vxattr of path.1
      ∙ ap (λ (b : Bool). is_on t.switches fs q && (b && may_allow t.switches (put_to t q) g)) (sym part.0)
    where
      by_kind : has_large_uid g ≡ false → has_two_slashes t.switches g ≡ false → is_no (in_network g.network t.address) ≡ false
          → (v : Bool) → is_set_vxattr q.access ≡ v → (not v || has_p g.flags) ≡ true → says_one v own q ≡ (is_on t.switches fs q && may_allow t.switches (put_to t q) g)
      by_kind small lone within true of attributes = says_vxattr t fs g own stand small lone within q asked of attributes
      by_kind small lone within false of attributes = says t fs g own stand small lone within q asked q.access of

-- ---- which grants let a client mount

-- a grant without a name, or for everything, lets it mount each file system
lets_each : (s : Switches) (fs : List ℕ) (g : Grant) → mounts_each s g ≡ true → lets_mount s fs g ≡ true
unfolding lets_mount
lets_each s fs g each = by_case (or_cases (is_none g.fsname) (is_for_everything s g) each)
  where
    by_name : (name : Option (List ℕ)) → is_none name ≡ true → not (is_some_and (λ n. not (bytes_eq n fs)) name) ≡ true
    by_name None none = refl
    by_name (Some n) none = absurd (true≢false (sym none))

    by_case : (is_none g.fsname ≡ true) ⊎ (is_for_everything s g ≡ true) → (is_for_everything s g || not (is_for_other_fs fs g)) ≡ true
    by_case (inl none) = or_right (is_for_everything s g) (not (is_for_other_fs fs g)) (by_name g.fsname none)
    by_case (inr everything) = or_left (is_for_everything s g) (not (is_for_other_fs fs g)) everything

-- another one lets it mount the one that it names
lets_named : (s : Switches) (fs : List ℕ) (g : Grant) → mounts_each s g ≡ false → lets_mount s fs g ≡ names fs g
unfolding lets_mount
lets_named s fs g none =
    let parts = or_parts (is_none g.fsname) (is_for_everything s g) none in
    ap (λ (b : Bool). b || not (is_for_other_fs fs g)) parts.1 ∙ by_name g.fsname parts.0
  where
    not_twice : (b : Bool) → not (not b) ≡ b
    not_twice true = refl
    not_twice false = refl

    by_name : (name : Option (List ℕ)) → is_none name ≡ false → not (is_some_and (λ n. not (bytes_eq n fs)) name) ≡ is_some_and (λ n. bytes_eq n fs) name
    by_name None none = absurd (true≢false none)
    by_name (Some n) none = not_twice (bytes_eq n fs)

-- one that allows something lets it mount too, where the file system counts with each access
lets_allowed : (t : Terms) (maybe : Bool) (q : Question) (g : Grant) → t.switches.judges_fsname ≡ true → one_allows t maybe q g ≡ true → lets_mount t.switches q.fs g ≡ true
unfolding lets_mount fails_fsname
lets_allowed t maybe q g judges allowed = or_right (is_for_everything t.switches g) (not (is_for_other_fs q.fs g)) (by_case (is_for_other_fs q.fs g) refl)
  where
    by_case : (b : Bool) → is_for_other_fs q.fs g ≡ b → not (is_for_other_fs q.fs g) ≡ true
    by_case true other =
        let fails : (t.switches.judges_fsname && is_for_other_fs q.fs g) ≡ true = (λ i. judges i && other i) in
        absurd (both_ways (one_allows t maybe q g) (and_right (plays maybe (in_network g.network t.address)) (may_allow t.switches (put_to t q) g) (failing t.switches (put_to t q) g 0 (omega arith) fails)) allowed)
    by_case false own = ap not own

-- ---- of lists and tests

and_needed : (m a : Bool) → (a ≡ true → m ≡ true) → a ≡ (m && a)
and_needed m true needed = sym (ap (λ (b : Bool). b && true) (needed refl))
and_needed m false needed = sym (and_right m false refl)

-- two tests that say the same of each element say the same of a list
same_for_all : {X : Type 0} (p r : X → Bool) (xs : List X) → All (λ x. p x ≡ r x) xs → list_any p xs ≡ list_any r xs
same_for_all p r [] all = refl
same_for_all p r (x ∷ xs) all = λ i. All-head (λ y. p y ≡ r y) x xs all i || same_for_all p r xs (All-tail (λ y. p y ≡ r y) x xs all) i

-- who is allowed may mount, where the file system counts with each access or each may be mounted
pub each_mounts : (t : Terms) (maybe : Bool) (grants : List Grant) (q : Question) → (t.switches.judges_fsname || list_any (mounts_each t.switches) grants) ≡ true
    → list_any (one_allows t maybe q) grants ≡ is_allowed_there t maybe grants q
each_mounts t maybe grants q either =
    and_needed (may_mount t.switches q.fs grants) (list_any (one_allows t maybe q) grants) (by_case (or_cases t.switches.judges_fsname (list_any (mounts_each t.switches) grants) either))
  where
    by_case : (t.switches.judges_fsname ≡ true) ⊎ (list_any (mounts_each t.switches) grants ≡ true) → list_any (one_allows t maybe q) grants ≡ true → may_mount t.switches q.fs grants ≡ true
    by_case (inl judges) some = passes_other (one_allows t maybe q) (lets_mount t.switches q.fs) grants (λ k d less. lets_allowed t maybe q (get_or grants k d) judges) some
    by_case (inr each) some = passes_other (mounts_each t.switches) (lets_mount t.switches q.fs) grants (λ k d less. lets_each t.switches q.fs (get_or grants k d)) each

-- else those may be mounted that are named
pub named_mounts : (s : Switches) (fs : List ℕ) (grants : List Grant) → list_any (mounts_each s) grants ≡ false → may_mount s fs grants ≡ list_any (names fs) grants
named_mounts s fs grants none = same_for_all (lets_mount s fs) (names fs) grants (λ k d less. lets_named s fs (get_or grants k d) (none_passes (mounts_each s) grants none k d less))
