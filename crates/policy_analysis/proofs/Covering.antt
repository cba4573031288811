-- Where nothing that is asked for a grant is gained, the old grants allow all that the grant allows.
use Rattle.std.proofs.Common.{◌≡◌, ℕ, ◌<◌, Bool, true, false, not, ◌||◌, ◌&&◌, ◌⊎◌, inl, inr, Option, Some, None, length, refl, sym, ap, ◌∙◌, get_or, arith}
use Rattle.std.specs.Prelude.{◌==◌, unwrap_or, All, if◌then◌else◌}
use Rattle.std.specs.List.{list_any}
use Rattle.std.proofs.lemmas.Bool.{and_cases, and_parts, both_ways, eq-eqb, eqb-true, false≢true, ne_eqb, not-true, or_cases, or_left, or_right}
use Rattle.std.proofs.lemmas.Option.{MatchOption-at_none, MatchOption-at_some}
use Rattle.capbits.specs.declared.caller.Caller.{Caller}
use Rattle.capbits.specs.Caller.{gids_of}
use Rattle.capspec.specs.declared.grant.Grant.{Grant}
use Rattle.capgrant.specs.Access.{new_group}
use Rattle.capgrant.specs.Question.{Question, contains, is_owner, listed_gids}
use Rattle.capgrant.specs.Failing.{fails_uid}
use Rattle.capgrant.specs.Verdict.{granted}
use Rattle.policy_analysis.specs.Comparing.{is_root}
use Rattle.policy_analysis.specs.Asking.{CoversGrant, IsSettingFor, NoneAsNonOwner, NoneAsOther, NoneAsOthers, NoneAsOthersOf, NoneBy, NoneFor, Setting}
use Rattle.policy_analysis.specs.Asking.{caller_of, gid_for, is_wanted, uid_for, with_group}
use Rattle.policy_analysis.proofs.Lists.{found, holds_of, none_passes}
use Rattle.policy_analysis.proofs.Passing.{Passes, passes_all}
use Rattle.policy_analysis.proofs.Rules.{gids_passed, is_listed, listed_gid}
use Rattle.policy_analysis.proofs.Narrowing.{StandsFor}
use Rattle.policy_analysis.proofs.Attr.{else_changes, gids_with, is_by_mode, listed_from, listed_parts, uid_of}
use Rattle.policy_analysis.proofs.Cases.{as_group, as_non_owner, as_other, as_owner, given_group, owner_needed, some_uid}

-- ---- who asks

asker_is_root : (uid nobody : ℕ) (root : Bool) → 0 < nobody → (root ≡ false → (uid == 0) ≡ false) → is_root (caller_of uid (gid_for uid root nobody)) ≡ root
asker_is_root uid nobody true above plain = by_case (uid == 0) refl
  where
    by_case : (b : Bool) → (uid == 0) ≡ b → ((uid == 0) || ((if not (uid == 0) then 0 else nobody) == 0)) ≡ true
    by_case true is = rw is
    by_case false is = rw is
asker_is_root uid nobody false above plain = rw (plain refl) (ne_eqb nobody 0 (λ zero. absurd (omega arith)))

root_gid : (c : Caller) → is_root c ≡ true → (c.uid == 0) ≡ false → contains (gids_of c) 0 ≡ true
root_gid c root not_uid = by_case (or_cases (c.uid == 0) (c.gid == 0) root)
  where
    by_case : ((c.uid == 0) ≡ true) ⊎ ((c.gid == 0) ≡ true) → ((c.gid == 0) || contains c.groups 0) ≡ true
    by_case (inl is) = absurd (both_ways (c.uid == 0) not_uid is)
    by_case (inr is) = or_left (c.gid == 0) (contains c.groups 0) is

asker_gids : (q : Question) (uid nobody : ℕ) (root : Bool) → is_root q.caller ≡ root → (root ≡ true → (uid == 0) ≡ false → uid ≡ q.caller.uid) → (n : ℕ) → contains (gids_of (caller_of uid (gid_for uid root nobody))) n ≡ true → (contains (gids_of q.caller) n ≡ true) ⊎ (n ≡ nobody)
asker_gids q uid nobody root rooted named n of = by_case (root && not (uid == 0)) refl of
  where
    only : (gid : ℕ) → ((gid == n) || false) ≡ true → gid ≡ n
    only gid of = by_or (or_cases (gid == n) false of)
      where
        by_or : ((gid == n) ≡ true) ⊎ (false ≡ true) → gid ≡ n
        by_or (inl is) = eqb-true gid n is
        by_or (inr never) = absurd (false≢true never)

    by_case : (b : Bool) → (root && not (uid == 0)) ≡ b → contains (gids_of (caller_of uid (if root && not (uid == 0) then 0 else nobody))) n ≡ true → (contains (gids_of q.caller) n ≡ true) ⊎ (n ≡ nobody)
    by_case true is of =
        let parts = and_parts root (not (uid == 0)) is in
        let not_zero = not-true (uid == 0) parts.1 in
        let zero : 0 ≡ n = only 0 (rw is at of) in
        inl (ap (contains (gids_of q.caller)) (sym zero) ∙ root_gid q.caller (rooted ∙ parts.0) (rw (named parts.0 not_zero) at not_zero))
    by_case false is of = inr (sym (only nobody (rw is at of)))

uid_named : (g : Grant) (q : Question) (root : Bool) (nobody : ℕ) → fails_uid q g ≡ false → root ≡ true → (uid_for g root nobody == 0) ≡ false → uid_for g root nobody ≡ q.caller.uid
uid_named g q root nobody passes root_is not_zero = by_uid g.uid refl
  where
    by_uid : (o : Option ℕ) → g.uid ≡ o → unwrap_or g.uid (if root then 0 else nobody) ≡ q.caller.uid
    by_uid None none =
        let zero : uid_for g root nobody ≡ 0 = rw (none, root_is) in
        absurd (both_ways (uid_for g root nobody == 0) not_zero (eq-eqb (uid_for g root nobody) 0 zero))
    by_uid (Some u) some = rw some (uid_of q g u some passes)

-- ---- the choices of a group

-- a caller in one group more stands for the question's where that group is one of its own, or one that nobody lists
more_stands : (s : Setting) (g : Grant) (q : Question) (c : Caller) (m : ℕ) → StandsFor s g q c → (contains (gids_of q.caller) m ≡ true) ⊎ (m ≡ s.nobody) → StandsFor s g q (with_group c m)
more_stands s g q c m like either = record {
  root = like.root;
  gids = λ n of. by_gid n (or_cases (contains (gids_of c) n) (m == n) (sym (gids_with c m n) ∙ of));
  listed = by_listed like.listed;
}
  where
    as_m : (n : ℕ) → m ≡ n → (contains (gids_of q.caller) m ≡ true) ⊎ (m ≡ s.nobody) → (contains (gids_of q.caller) n ≡ true) ⊎ (n ≡ s.nobody)
    as_m n is (inl of) = inl (ap (contains (gids_of q.caller)) (sym is) ∙ of)
    as_m n is (inr none) = inr (sym is ∙ none)

    by_gid : (n : ℕ) → (contains (gids_of c) n ≡ true) ⊎ ((m == n) ≡ true) → (contains (gids_of q.caller) n ≡ true) ⊎ (n ≡ s.nobody)
    by_gid n (inl of) = like.gids n of
    by_gid n (inr is) = as_m n (eqb-true m n is) either

    by_listed : ((length g.gids == 0) ≡ true) ⊎ ((length (listed_gids c g) == 0) ≡ false) → ((length g.gids == 0) ≡ true) ⊎ ((length (listed_gids (with_group c m) g) == 0) ≡ false)
    by_listed (inl none) = inl none
    by_listed (inr some) =
        let one = listed_gid c g some in
        inr (is_listed (with_group c m) g one.0 (gids_with c m one.0 ∙ or_left (contains (gids_of c) one.0) (m == one.0) one.1) one.2)

in_with : (c : Caller) (m : ℕ) → contains (gids_of (with_group c m)) m ≡ true
in_with c m = gids_with c m m ∙ or_right (contains (gids_of c) m) (m == m) (eq-eqb m m refl)

module _ (s : Setting) (g : Grant) (root : Bool) (base : Caller) (fits : IsSettingFor s g) (none : (length g.gids == 0) ≡ true → NoneFor s g base s.nobody) (each : All (λ own. NoneFor s g (with_group base own) own) g.gids) where
  module _ (q : Question) (wanted : is_wanted s.accesses q.access ≡ true) (passes : Passes q g) (base_root : is_root base ≡ is_root q.caller) (base_gids : (n : ℕ) → contains (gids_of base) n ≡ true → (contains (gids_of q.caller) n ≡ true) ⊎ (n ≡ s.nobody)) where
    -- one of the question's gids that the grant lists
    stands_with : (own : ℕ) → contains g.gids own ≡ true → contains (gids_of q.caller) own ≡ true → StandsFor s g q (with_group base own)
    stands_with own listed of = record {
      root = base_root;
      gids = λ n in'. by_gid n (or_cases (contains (gids_of base) n) (own == n) (sym (gids_with base own n) ∙ in'));
      listed = inr (is_listed (with_group base own) g own (in_with base own) listed);
    }
      where
        by_gid : (n : ℕ) → (contains (gids_of base) n ≡ true) ⊎ ((own == n) ≡ true) → (contains (gids_of q.caller) n ≡ true) ⊎ (n ≡ s.nobody)
        by_gid n (inl in') = base_gids n in'
        by_gid n (inr is) = inl (ap (contains (gids_of q.caller)) (sym (eqb-true own n is)) ∙ of)

    nothing_with : (own : ℕ) → contains g.gids own ≡ true → NoneFor s g (with_group base own) own
    nothing_with own listed = holds_of (λ n. NoneFor s g (with_group base n) n) g.gids own each listed

    -- some choice fits the question
    a_choice : (c : Caller) × (own : ℕ) × StandsFor s g q c × NoneFor s g c own × (c.uid ≡ base.uid)
    a_choice = by_gids (gids_passed q g passes.base.gids)
      where
        by_gids : ((length g.gids == 0) ≡ true) ⊎ ((n : ℕ) × (contains (gids_of q.caller) n ≡ true) × (contains g.gids n ≡ true)) → (c : Caller) × (own : ℕ) × StandsFor s g q c × NoneFor s g c own × (c.uid ≡ base.uid)
        by_gids (inl empty) = (base, s.nobody, record { root = base_root; gids = base_gids; listed = inl empty }, none empty, refl)
        by_gids (inr one) = (with_group base one.0, one.0, stands_with one.0 one.2 one.1, nothing_with one.0 one.2, refl)

    -- a grant without a uid
    without_uid : g.uid ≡ None → granted q s.old ≡ true
    unfolding NoneFor
    without_uid unnamed = as_non_owner s g q a_choice.0 a_choice.1 wanted fits passes a_choice.2 unnamed (MatchOption-at_none (NoneAsNonOwner s a_choice.0 a_choice.1) (λ uid. NoneBy s a_choice.0 a_choice.1) unnamed a_choice.3)

    module _ (u : ℕ) (some : g.uid ≡ Some u) (same : base.uid ≡ q.caller.uid) where
      nothing_by : (c : Caller) (own : ℕ) → NoneFor s g c own → NoneBy s c own
      unfolding NoneFor
      nothing_by c own nothing = MatchOption-at_some (NoneAsNonOwner s c own) (λ uid. NoneBy s c own) u some nothing

      -- a class of the group, or a change of it, that goes by one of the question's gids that the grant lists
      by_owner : is_owner q ≡ true → granted q s.old ≡ true
      by_owner is = by_group (new_group q.access) refl
        where
          by_group : (o : Option ℕ) → new_group q.access ≡ o → granted q s.old ≡ true
          by_group None no_group = as_owner s g q a_choice.0 u wanted fits passes some a_choice.2 (a_choice.4 ∙ same) a_choice.1 is (λ n given. absurd (no_some n (sym no_group ∙ given))) (nothing_by a_choice.0 a_choice.1 a_choice.3).owner
            where
              no_some : (n : ℕ) → None ≡ Some n → ⊥
              no_some n e = cc
          by_group (Some n) given =
              let listed = given_group s g q a_choice.0 u wanted fits passes some a_choice.2 (a_choice.4 ∙ same) n given in
              let parts = listed_parts q.caller g n listed in
              as_owner s g q (with_group base n) u wanted fits passes some (stands_with n parts.0 parts.1) same n is (λ m also. (same_group m (sym given ∙ also), ap (contains (gids_of (with_group base n))) (sym (same_group m (sym given ∙ also))) ∙ in_with base n)) (nothing_by (with_group base n) n (nothing_with n parts.0)).owner
            where
              same_group : (m : ℕ) → Some n ≡ Some m → n ≡ m
              same_group m e = cc

      by_other : is_by_mode q.access ≡ true → is_owner q ≡ false → contains (listed_gids q.caller g) q.attr.gid ≡ false → granted q s.old ≡ true
      unfolding NoneAsOthersOf
      by_other by other unlisted = by_old (list_any (λ h. contains h.gids q.attr.gid) s.old && contains (gids_of q.caller) q.attr.gid) refl
        where
          others : NoneAsOthers s a_choice.0
          others = (nothing_by a_choice.0 a_choice.1 a_choice.3).other

          own_out : contains (gids_of q.caller) q.attr.gid ≡ true → contains g.gids q.attr.gid ≡ false
          own_out of = by_bool (contains g.gids q.attr.gid) refl
            where
              by_bool : (b : Bool) → contains g.gids q.attr.gid ≡ b → contains g.gids q.attr.gid ≡ false
              by_bool true in' = absurd (both_ways (contains (listed_gids q.caller g) q.attr.gid) unlisted (listed_from q.caller g q.attr.gid in' of))
              by_bool false is = is

          by_old : (b : Bool) → (list_any (λ h. contains h.gids q.attr.gid) s.old && contains (gids_of q.caller) q.attr.gid) ≡ b → granted q s.old ≡ true
          by_old true is =
              let parts = and_parts (list_any (λ h. contains h.gids q.attr.gid) s.old) (contains (gids_of q.caller) q.attr.gid) is in
              let one = found (λ h. NoneAsOthersOf s a_choice.0 h.gids) (λ h. contains h.gids q.attr.gid) s.old others.listed parts.0 in
              as_other s g q a_choice.0 u q.attr.gid wanted fits passes some (more_stands s g q a_choice.0 q.attr.gid a_choice.2 (inl parts.1)) (a_choice.4 ∙ same) by other unlisted (own_out parts.1) (λ k d less in'. refl) (holds_of (NoneAsOther s a_choice.0) one.0.gids q.attr.gid one.1 one.2)
          by_old false is =
              as_other s g q a_choice.0 u s.nobody wanted fits passes some (more_stands s g q a_choice.0 s.nobody a_choice.2 (inr refl)) (a_choice.4 ∙ same) by other unlisted fits.own (λ k d less in'. absurd (nowhere (and_cases (list_any (λ h. contains h.gids q.attr.gid) s.old) (contains (gids_of q.caller) q.attr.gid) is) k d less (listed_parts q.caller (get_or s.old k d) q.attr.gid in'))) others.nobody
            where
              nowhere : (list_any (λ h. contains h.gids q.attr.gid) s.old ≡ false) ⊎ (contains (gids_of q.caller) q.attr.gid ≡ false) → (k : ℕ) (d : Grant) → k < length s.old → (contains (get_or s.old k d).gids q.attr.gid ≡ true) × (contains (gids_of q.caller) q.attr.gid ≡ true) → ⊥
              nowhere (inl no_old) k d less parts = both_ways (contains (get_or s.old k d).gids q.attr.gid) (none_passes (λ h. contains h.gids q.attr.gid) s.old no_old k d less) parts.0
              nowhere (inr not_of) k d less parts = both_ways (contains (gids_of q.caller) q.attr.gid) not_of parts.1

      -- a grant with a uid
      with_uid : granted q s.old ≡ true
      with_uid = by_mode (is_by_mode q.access) refl
        where
          by_class : is_by_mode q.access ≡ true → is_owner q ≡ false → (b : Bool) → contains (listed_gids q.caller g) q.attr.gid ≡ b → granted q s.old ≡ true
          by_class by other true listed =
              let parts = listed_parts q.caller g q.attr.gid listed in
              as_group s g q (with_group base q.attr.gid) u wanted fits passes some (stands_with q.attr.gid parts.0 parts.1) same by other listed (in_with base q.attr.gid) (nothing_by (with_group base q.attr.gid) q.attr.gid (nothing_with q.attr.gid parts.0)).group
          by_class by other false unlisted = by_other by other unlisted

          by_owning : is_by_mode q.access ≡ true → (b : Bool) → is_owner q ≡ b → granted q s.old ≡ true
          by_owning by true is = by_owner is
          by_owning by false other = by_class by other (contains (listed_gids q.caller g) q.attr.gid) refl

          by_mode : (b : Bool) → is_by_mode q.access ≡ b → granted q s.old ≡ true
          by_mode true by = by_owning by (is_owner q) refl
          by_mode false not_by = by_owner (owner_needed q g (some_uid g u some) (else_changes q.access not_by) passes.attr.not_owner).0

-- Where nothing is gained by the one who asks, in any group that the grant lists, the grant is covered.
pub covers_grant : (s : Setting) (g : Grant) (root : Bool) → IsSettingFor s g → (root ≡ false → (uid_for g root s.nobody == 0) ≡ false) → ((length g.gids == 0) ≡ true → NoneFor s g (caller_of (uid_for g root s.nobody) (gid_for (uid_for g root s.nobody) root s.nobody)) s.nobody) → All (λ own. NoneFor s g (with_group (caller_of (uid_for g root s.nobody) (gid_for (uid_for g root s.nobody) root s.nobody)) own) own) g.gids → CoversGrant s.accesses s.old root g
covers_grant s g root fits plain none each q wanted allowing rooted = by_uid g.uid refl
  where
    base : Caller
    base = caller_of (uid_for g root s.nobody) (gid_for (uid_for g root s.nobody) root s.nobody)

    passes : Passes q g
    passes = passes_all q g allowing

    base_root : is_root base ≡ is_root q.caller
    base_root = asker_is_root (uid_for g root s.nobody) s.nobody root fits.above plain ∙ sym rooted

    base_gids : (n : ℕ) → contains (gids_of base) n ≡ true → (contains (gids_of q.caller) n ≡ true) ⊎ (n ≡ s.nobody)
    base_gids = asker_gids q (uid_for g root s.nobody) s.nobody root rooted (uid_named g q root s.nobody passes.base.uid)

    by_uid : (o : Option ℕ) → g.uid ≡ o → granted q s.old ≡ true
    by_uid None unnamed = without_uid s g root base fits none each q wanted passes base_root base_gids unnamed
    by_uid (Some u) some = with_uid s g root base fits none each q wanted passes base_root base_gids u some (ap (λ (uid : Option ℕ). unwrap_or uid (if root then 0 else s.nobody)) some ∙ uid_of q g u some passes.base.uid)

-- A grant to root alone allows nothing to others.
pub covers_no_root : (s : Setting) (g : Grant) (root : Bool) → IsSettingFor s g → root ≡ false → uid_for g root s.nobody ≡ 0 → CoversGrant s.accesses s.old root g
covers_no_root s g root fits plain zero q wanted allowing rooted = by_uid g.uid refl
  where
    passes : Passes q g
    passes = passes_all q g allowing

    by_uid : (o : Option ℕ) → g.uid ≡ o → granted q s.old ≡ true
    by_uid None unnamed =
        let nobody : s.nobody ≡ 0 = rw (unnamed, plain) at zero in
        let above = fits.above in
        absurd (omega arith)
    by_uid (Some u) some =
        let is : u ≡ 0 = rw some at zero in
        let uid : q.caller.uid ≡ 0 = sym (uid_of q g u some passes.base.uid) ∙ is in
        absurd (both_ways (is_root q.caller) (rooted ∙ plain) (or_left (q.caller.uid == 0) (q.caller.gid == 0) (eq-eqb q.caller.uid 0 uid)))
