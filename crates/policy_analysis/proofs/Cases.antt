-- The questions that are asked for a grant stand for all that it allows.
use Rattle.std.proofs.Common.{◌≡◌, ℕ, Bool, true, false, not, ◌||◌, ◌&&◌, ◌⊎◌, inl, inr, Option, Some, None, refl, sym, ap, ◌∙◌, get_or, lit<}
use Rattle.std.specs.Prelude.{◌==◌, is_some, All}
use Rattle.std.proofs.lemmas.Bool.{and_cases, and_from, and_right, both_ways, eq-eqb, false_from_ne_true, false≢true, not-false, not_from_true, or_from}
use Rattle.std.proofs.lemmas.Bool.{or_parts, or_right, true≢false}
use Rattle.capbits.specs.declared.caller.Caller.{Caller}
use Rattle.capbits.specs.Caller.{gids_of}
use Rattle.capspec.specs.declared.grant.Grant.{Grant}
use Rattle.capgrant.specs.declared.access.Access.{Access}
use Rattle.capgrant.specs.declared.access.Access.TheVariants.{Chgrp, Chmod, Chown, Read, SetVxattr, Snapshot, Write}
use Rattle.capgrant.specs.declared.access.Attr.{Attr}
use Rattle.capgrant.specs.declared.class.Class.{Class}
use Rattle.capgrant.specs.declared.class.Class.TheVariants.{Group, Other, Owner}
use Rattle.capgrant.specs.Access.{changes_attr, is_read, new_group, new_owner}
use Rattle.capgrant.specs.Class.{has_bit, needed_bit}
use Rattle.capgrant.specs.Question.{Question, class_of, contains, is_owner, listed_gids}
use Rattle.capgrant.specs.Failing.{fails_mode_bits, fails_not_own_group, fails_not_owner, fails_uid, is_some_and}
use Rattle.capgrant.specs.Verdict.{granted}
use Rattle.policy_analysis.specs.Asking.{GainsNone, GainsNoneOfAll, IsSettingFor, NoneAsGroup, NoneAsNonOwner, NoneAsOther, NoneAsOwner, Setting, another}
use Rattle.policy_analysis.specs.declared.asking.Accesses.{Accesses}
use Rattle.policy_analysis.specs.declared.asking.Accesses.TheVariants.{All as each_access, OfMds}
use Rattle.policy_analysis.specs.Asking.{asked, attr_of, by_mode, is_gained, is_wanted, with_group}
use Rattle.policy_analysis.proofs.Passing.{Passes, PassesAttr}
use Rattle.policy_analysis.proofs.Narrowing.{IsAlike, StandsFor, covered}
use Rattle.policy_analysis.proofs.Attr.{bit_for, class_group, class_has, class_other, class_owner, else_changes, gids_with, group_has, group_lacks, has_mode}
use Rattle.policy_analysis.proofs.Attr.{is_another, is_by_mode, listed_from, listed_parts, no_uid, no_uid_passes, none_of_is_some, not_listed, other_has}
use Rattle.policy_analysis.proofs.Attr.{other_lacks, owner_has, passes_by_mode, same_uid, uid_of, uid_passes}

-- ---- the access that is asked for

-- the same access, of the changes of owner and group those to this owner and this group
abbrev kin : Access → ℕ → ℕ → Access
kin Read uid own = Read
kin Write uid own = Write
kin SetVxattr uid own = SetVxattr
kin Snapshot uid own = Snapshot
kin Chmod uid own = Chmod
kin (Chown n) uid own = Chown uid
kin (Chgrp n) uid own = Chgrp own

kin_alike : (a : Access) (uid own : ℕ) → IsAlike (kin a uid own) a
kin_alike Read uid own = record { read = refl; vxattr = refl; snapshot = refl }
kin_alike Write uid own = record { read = refl; vxattr = refl; snapshot = refl }
kin_alike SetVxattr uid own = record { read = refl; vxattr = refl; snapshot = refl }
kin_alike Snapshot uid own = record { read = refl; vxattr = refl; snapshot = refl }
kin_alike Chmod uid own = record { read = refl; vxattr = refl; snapshot = refl }
kin_alike (Chown n) uid own = record { read = refl; vxattr = refl; snapshot = refl }
kin_alike (Chgrp n) uid own = record { read = refl; vxattr = refl; snapshot = refl }

-- it is wanted as the access is
kin_wanted : (accesses : Accesses) (a : Access) (uid own : ℕ) → is_wanted accesses a ≡ true → is_wanted accesses (kin a uid own) ≡ true
kin_wanted each_access a uid own wanted = refl
kin_wanted OfMds Read uid own wanted = refl
kin_wanted OfMds Write uid own wanted = refl
kin_wanted OfMds SetVxattr uid own wanted = absurd (false≢true wanted)
kin_wanted OfMds Snapshot uid own wanted = refl
kin_wanted OfMds Chmod uid own wanted = absurd (false≢true wanted)
kin_wanted OfMds (Chown n) uid own wanted = absurd (false≢true wanted)
kin_wanted OfMds (Chgrp n) uid own wanted = refl

alike_itself : (a : Access) → IsAlike a a
alike_itself a = record { read = refl; vxattr = refl; snapshot = refl }

kin_group : (a : Access) (uid own n : ℕ) → new_group a ≡ Some n → new_group (kin a uid own) ≡ Some own
kin_group Read uid own n is = absurd (cc)
kin_group Write uid own n is = absurd (cc)
kin_group SetVxattr uid own n is = absurd (cc)
kin_group Snapshot uid own n is = absurd (cc)
kin_group Chmod uid own n is = absurd (cc)
kin_group (Chown m) uid own n is = absurd (cc)
kin_group (Chgrp m) uid own n is = refl

none_of_all : (s : Setting) (c : Caller) (attr : Attr) (own : ℕ) (a : Access) → GainsNoneOfAll s c attr own → is_gained s (asked s c attr (kin a c.uid own)) ≡ false
unfolding GainsNone
none_of_all s c attr own Read none = none.mode 0 Read (lit< tt)
none_of_all s c attr own Write none = none.mode 1 Read (lit< tt)
none_of_all s c attr own SetVxattr none = none.mode 2 Read (lit< tt)
none_of_all s c attr own Snapshot none = none.mode 3 Read (lit< tt)
none_of_all s c attr own Chmod none = none.owner 0 Read (lit< tt)
none_of_all s c attr own (Chown n) none = none.owner 1 Read (lit< tt)
none_of_all s c attr own (Chgrp n) none = none.owner 2 Read (lit< tt)

none_by_mode : (s : Setting) (c : Caller) (attr : Attr) (a : Access) → is_by_mode a ≡ true → GainsNone s c attr by_mode → is_gained s (asked s c attr a) ≡ false
unfolding GainsNone
none_by_mode s c attr Read by none = none 0 Read (lit< tt)
none_by_mode s c attr Write by none = none 1 Read (lit< tt)
none_by_mode s c attr SetVxattr by none = none 2 Read (lit< tt)
none_by_mode s c attr Snapshot by none = none 3 Read (lit< tt)
none_by_mode s c attr Chmod by none = absurd (false≢true by)
none_by_mode s c attr (Chown n) by none = absurd (false≢true by)
none_by_mode s c attr (Chgrp n) by none = absurd (false≢true by)

-- ---- the rules on the owner and the group

pub owner_needed : (q : Question) (h : Grant) → is_some h.uid ≡ true → changes_attr q.access ≡ true → fails_not_owner q h ≡ false → (is_owner q ≡ true) × (is_some_and (λ uid. not (uid == q.caller.uid)) (new_owner q.access) ≡ false)
unfolding fails_not_owner
owner_needed q h some changes passes = by_case (and_cases (is_some h.uid && changes_attr q.access) (not (is_owner q) || is_some_and (λ uid. not (uid == q.caller.uid)) (new_owner q.access)) passes)
  where
    by_case : ((is_some h.uid && changes_attr q.access) ≡ false) ⊎ ((not (is_owner q) || is_some_and (λ uid. not (uid == q.caller.uid)) (new_owner q.access)) ≡ false) → (is_owner q ≡ true) × (is_some_and (λ uid. not (uid == q.caller.uid)) (new_owner q.access) ≡ false)
    by_case (inl out) = absurd (both_ways (is_some h.uid && changes_attr q.access) out (and_from (is_some h.uid) (changes_attr q.access) some changes))
    by_case (inr both) =
        let parts = or_parts (not (is_owner q)) (is_some_and (λ uid. not (uid == q.caller.uid)) (new_owner q.access)) both in
        (not-false (is_owner q) parts.0, parts.1)

pub owner_passes : (q : Question) (h : Grant) → is_owner q ≡ true → is_some_and (λ uid. not (uid == q.caller.uid)) (new_owner q.access) ≡ false → fails_not_owner q h ≡ false
unfolding fails_not_owner
owner_passes q h is new = and_right (is_some h.uid && changes_attr q.access) (not (is_owner q) || is_some_and (λ uid. not (uid == q.caller.uid)) (new_owner q.access)) (or_from (not (is_owner q)) (is_some_and (λ uid. not (uid == q.caller.uid)) (new_owner q.access)) (not_from_true (is_owner q) is) new)

pub no_group_passes : (q : Question) (h : Grant) → new_group q.access ≡ None → fails_not_own_group q h ≡ false
unfolding fails_not_own_group
no_group_passes q h none = and_right (is_some h.uid) (is_some_and (λ gid. not (contains (listed_gids q.caller h) gid)) (new_group q.access)) (ap (is_some_and (λ gid. not (contains (listed_gids q.caller h) gid))) none)

group_passes : (q : Question) (h : Grant) (n : ℕ) → new_group q.access ≡ Some n → contains (listed_gids q.caller h) n ≡ true → fails_not_own_group q h ≡ false
unfolding fails_not_own_group
group_passes q h n is listed = and_right (is_some h.uid) (is_some_and (λ gid. not (contains (listed_gids q.caller h) gid)) (new_group q.access)) (ap (is_some_and (λ gid. not (contains (listed_gids q.caller h) gid))) is ∙ not_from_true (contains (listed_gids q.caller h) n) listed)

group_passed : (q : Question) (h : Grant) (n : ℕ) → new_group q.access ≡ Some n → fails_not_own_group q h ≡ false → (is_some h.uid ≡ false) ⊎ (contains (listed_gids q.caller h) n ≡ true)
unfolding fails_not_own_group
group_passed q h n is passes = by_case (and_cases (is_some h.uid) (is_some_and (λ gid. not (contains (listed_gids q.caller h) gid)) (new_group q.access)) passes)
  where
    by_case : (is_some h.uid ≡ false) ⊎ (is_some_and (λ gid. not (contains (listed_gids q.caller h) gid)) (new_group q.access) ≡ false) → (is_some h.uid ≡ false) ⊎ (contains (listed_gids q.caller h) n ≡ true)
    by_case (inl none) = inl none
    by_case (inr some) = inr (not-false (contains (listed_gids q.caller h) n) (ap (is_some_and (λ gid. not (contains (listed_gids q.caller h) gid))) (sym is) ∙ some))

pub mode_not_needed : (q : Question) (h : Grant) → is_by_mode q.access ≡ false → fails_mode_bits q h ≡ false
unfolding fails_mode_bits
mode_not_needed q h by = and_right (is_some h.uid) (is_some_and (λ bit. not (has_bit q.attr.mode bit)) (needed_bit q.access (class_of q h))) (ap (is_some_and (λ bit. not (has_bit q.attr.mode bit))) (none q.access (class_of q h) by))
  where
    none : (a : Access) (class : Class) → is_by_mode a ≡ false → needed_bit a class ≡ None
    none Read class by = absurd (true≢false by)
    none Write class by = absurd (true≢false by)
    none SetVxattr class by = absurd (true≢false by)
    none Snapshot class by = absurd (true≢false by)
    none Chmod class by = refl
    none (Chown n) class by = refl
    none (Chgrp n) class by = refl

-- ---- a grant without a uid

-- a question with no mode bit about the inode of another is allowed by no grant with a uid
pub non_owner_refused : (q : Question) (h : Grant) → is_owner q ≡ false → q.attr.mode ≡ 0 → PassesAttr q h → h.uid ≡ None
non_owner_refused q h other none passes = none_of_is_some h.uid (false_from_ne_true (is_some h.uid) (λ some. by_case some (is_by_mode q.access) refl))
  where
    lacks : is_some h.uid ≡ true → (is_some h.uid ≡ false) ⊎ (has_bit q.attr.mode (bit_for (is_read q.access) (class_of q h)) ≡ true) → ⊥
    lacks some (inl out) = both_ways (is_some h.uid) out some
    lacks some (inr has) = false≢true (ap (λ (mode : ℕ). has_bit mode (bit_for (is_read q.access) (class_of q h))) (sym none) ∙ has)

    by_case : is_some h.uid ≡ true → (b : Bool) → is_by_mode q.access ≡ b → ⊥
    by_case some true by = lacks some (class_has q h by passes.mode_bits)
    by_case some false by = both_ways (is_owner q) other (owner_needed q h some (else_changes q.access by) passes.not_owner).0

pub as_non_owner : (s : Setting) (g : Grant) (q : Question) (c : Caller) (own : ℕ) → is_wanted s.accesses q.access ≡ true → IsSettingFor s g → Passes q g → StandsFor s g q c → g.uid ≡ None → NoneAsNonOwner s c own → granted q s.old ≡ true
unfolding NoneAsNonOwner
as_non_owner s g q c own wanted fits passes like none nothing =
    covered s g q c (attr_of (another c.uid) s.nobody 0) (kin q.access c.uid own) fits passes like (kin_alike q.access c.uid own) (kin_wanted s.accesses q.access c.uid own wanted)
    (no_uid_passes (asked s c (attr_of (another c.uid) s.nobody 0) (kin q.access c.uid own)) g none)
    (no_uid (asked s c (attr_of (another c.uid) s.nobody 0) (kin q.access c.uid own)) g none)
    (λ k d less. each (get_or s.old k d))
    (none_of_all s c (attr_of (another c.uid) s.nobody 0) own q.access nothing)
  where
    each : (h : Grant) → PassesAttr (asked s c (attr_of (another c.uid) s.nobody 0) (kin q.access c.uid own)) h → (fails_uid (asked s c (attr_of (another c.uid) s.nobody 0) (kin q.access c.uid own)) h ≡ false → fails_uid q h ≡ false) × PassesAttr q h
    each h attr =
        let unnamed : h.uid ≡ None = non_owner_refused (asked s c (attr_of (another c.uid) s.nobody 0) (kin q.access c.uid own)) h (is_another c.uid) refl attr in
        ((λ passed. no_uid_passes q h unnamed), no_uid q h unnamed)

-- ---- a grant with a uid, by the class of the caller

pub some_uid : (g : Grant) (u : ℕ) → g.uid ≡ Some u → is_some g.uid ≡ true
some_uid g u is = ap is_some is

module _ (s : Setting) (g : Grant) (q : Question) (c : Caller) (u : ℕ) (wanted : is_wanted s.accesses q.access ≡ true) (fits : IsSettingFor s g) (passes : Passes q g) (some : g.uid ≡ Some u) (like : StandsFor s g q c) (same : c.uid ≡ q.caller.uid) where
  own_uid : (attr : Attr) (a : Access) → fails_uid (asked s c attr a) g ≡ false
  own_uid attr a = uid_passes (asked s c attr a) g u some (uid_of q g u some passes.base.uid ∙ sym same)

  -- the owner: of a change of the group it is to one of the caller's that the grant lists
  owner_attr : (a : Access) (own : ℕ) → ((n : ℕ) → new_group a ≡ Some n → (own ≡ n) × (contains (gids_of c) n ≡ true) × (contains g.gids n ≡ true)) → PassesAttr (asked s c (attr_of c.uid s.nobody 0o600) (kin a c.uid own)) g
  owner_attr Read own listed = passes_by_mode (asked s c (attr_of c.uid s.nobody 0o600) Read) g Owner refl (class_owner (asked s c (attr_of c.uid s.nobody 0o600) Read) g (eq-eqb c.uid c.uid refl)) (owner_has true)
  owner_attr Write own listed = passes_by_mode (asked s c (attr_of c.uid s.nobody 0o600) Write) g Owner refl (class_owner (asked s c (attr_of c.uid s.nobody 0o600) Write) g (eq-eqb c.uid c.uid refl)) (owner_has false)
  owner_attr SetVxattr own listed = passes_by_mode (asked s c (attr_of c.uid s.nobody 0o600) SetVxattr) g Owner refl (class_owner (asked s c (attr_of c.uid s.nobody 0o600) SetVxattr) g (eq-eqb c.uid c.uid refl)) (owner_has false)
  owner_attr Snapshot own listed = passes_by_mode (asked s c (attr_of c.uid s.nobody 0o600) Snapshot) g Owner refl (class_owner (asked s c (attr_of c.uid s.nobody 0o600) Snapshot) g (eq-eqb c.uid c.uid refl)) (owner_has false)
  owner_attr Chmod own listed = record {
    not_owner = owner_passes (asked s c (attr_of c.uid s.nobody 0o600) Chmod) g (eq-eqb c.uid c.uid refl) refl;
    not_own_group = no_group_passes (asked s c (attr_of c.uid s.nobody 0o600) Chmod) g refl;
    mode_bits = mode_not_needed (asked s c (attr_of c.uid s.nobody 0o600) Chmod) g refl;
  }
  owner_attr (Chown n) own listed = record {
    not_owner = owner_passes (asked s c (attr_of c.uid s.nobody 0o600) (Chown c.uid)) g (eq-eqb c.uid c.uid refl) (not_from_true (c.uid == c.uid) (eq-eqb c.uid c.uid refl));
    not_own_group = no_group_passes (asked s c (attr_of c.uid s.nobody 0o600) (Chown c.uid)) g refl;
    mode_bits = mode_not_needed (asked s c (attr_of c.uid s.nobody 0o600) (Chown c.uid)) g refl;
  }
  owner_attr (Chgrp n) own listed =
      let is = listed n refl in
      record {
        not_owner = owner_passes (asked s c (attr_of c.uid s.nobody 0o600) (Chgrp own)) g (eq-eqb c.uid c.uid refl) refl;
        not_own_group = group_passes (asked s c (attr_of c.uid s.nobody 0o600) (Chgrp own)) g own refl (listed_from c g own (ap (contains g.gids) is.0 ∙ is.2) (ap (contains (gids_of c)) is.0 ∙ is.1));
        mode_bits = mode_not_needed (asked s c (attr_of c.uid s.nobody 0o600) (Chgrp own)) g refl;
      }

  -- what g says of the group that is given
  pub given_group : (n : ℕ) → new_group q.access ≡ Some n → contains (listed_gids q.caller g) n ≡ true
  given_group n is = by_case (group_passed q g n is passes.attr.not_own_group)
    where
      by_case : (is_some g.uid ≡ false) ⊎ (contains (listed_gids q.caller g) n ≡ true) → contains (listed_gids q.caller g) n ≡ true
      by_case (inl none) = absurd (both_ways (is_some g.uid) none (some_uid g u some))
      by_case (inr listed) = listed

  -- an old grant that allows the owner that much allows the question
  owner_stays : (own : ℕ) → is_owner q ≡ true → ((n : ℕ) → new_group q.access ≡ Some n → own ≡ n) → (h : Grant) → PassesAttr (asked s c (attr_of c.uid s.nobody 0o600) (kin q.access c.uid own)) h → PassesAttr q h
  owner_stays own is same_group h attr = by_case (is_by_mode q.access) refl
    where
      by_group : (o : Option ℕ) → new_group q.access ≡ o → fails_not_own_group q h ≡ false
      by_group None none = no_group_passes q h none
      by_group (Some n) given = by_uid (group_passed (asked s c (attr_of c.uid s.nobody 0o600) (kin q.access c.uid own)) h own (kin_group q.access c.uid own n given) attr.not_own_group)
        where
          by_uid : (is_some h.uid ≡ false) ⊎ (contains (listed_gids c h) own ≡ true) → fails_not_own_group q h ≡ false
          by_uid (inl none) = (no_uid q h (none_of_is_some h.uid none)).not_own_group
          by_uid (inr listed) = group_passes q h n given (listed_from q.caller h n (ap (contains h.gids) (sym (same_group n given)) ∙ (listed_parts c h own listed).0) (listed_parts q.caller g n (given_group n given)).1)

      by_case : (b : Bool) → is_by_mode q.access ≡ b → PassesAttr q h
      by_case true by = passes_by_mode q h Owner by (class_owner q h is) (ap (λ (class : Class). has_bit q.attr.mode (bit_for (is_read q.access) class)) (sym (class_owner q g is)) ∙ has_mode q g u some by passes.attr.mode_bits)
      by_case false by = record {
        not_owner = owner_passes q h is (owner_needed q g (some_uid g u some) (else_changes q.access by) passes.attr.not_owner).1;
        not_own_group = by_group (new_group q.access) refl;
        mode_bits = mode_not_needed q h by;
      }

  pub as_owner : (own : ℕ) → is_owner q ≡ true → ((n : ℕ) → new_group q.access ≡ Some n → (own ≡ n) × (contains (gids_of c) n ≡ true)) → NoneAsOwner s c own → granted q s.old ≡ true
  unfolding NoneAsOwner
  as_owner own is group nothing =
      covered s g q c (attr_of c.uid s.nobody 0o600) (kin q.access c.uid own) fits passes like (kin_alike q.access c.uid own) (kin_wanted s.accesses q.access c.uid own wanted)
      (own_uid (attr_of c.uid s.nobody 0o600) (kin q.access c.uid own))
      (owner_attr q.access own (λ n given. ((group n given).0, (group n given).1, (listed_parts q.caller g n (given_group n given)).0)))
      (λ k d less attr. (same_uid (asked s c (attr_of c.uid s.nobody 0o600) (kin q.access c.uid own)) q (get_or s.old k d) same, owner_stays own is (λ n given. (group n given).0) (get_or s.old k d) attr))
      (none_of_all s c (attr_of c.uid s.nobody 0o600) own q.access nothing)

  -- one of the group: an old grant that lists it finds the caller in that class, and one that does not finds no bit
  pub as_group : is_by_mode q.access ≡ true → is_owner q ≡ false → contains (listed_gids q.caller g) q.attr.gid ≡ true → contains (gids_of c) q.attr.gid ≡ true → NoneAsGroup s c q.attr.gid → granted q s.old ≡ true
  unfolding NoneAsGroup
  as_group by other listed of nothing =
      covered s g q c (attr_of (another c.uid) q.attr.gid 0o060) q.access fits passes like (alike_itself q.access) wanted
      (own_uid (attr_of (another c.uid) q.attr.gid 0o060) q.access)
      (passes_by_mode asks g Group by (class_group asks g (is_another c.uid) (listed_from c g q.attr.gid (listed_parts q.caller g q.attr.gid listed).0 of)) (group_has (is_read q.access)))
      (λ k d less attr. (same_uid asks q (get_or s.old k d) same, kept (get_or s.old k d) (class_has asks (get_or s.old k d) by attr.mode_bits)))
      (none_by_mode s c (attr_of (another c.uid) q.attr.gid 0o060) q.access by nothing)
    where
      asks : Question
      asks = asked s c (attr_of (another c.uid) q.attr.gid 0o060) q.access

      has : has_bit q.attr.mode (bit_for (is_read q.access) Group) ≡ true
      has = ap (λ (class : Class). has_bit q.attr.mode (bit_for (is_read q.access) class)) (sym (class_group q g other listed)) ∙ has_mode q g u some by passes.attr.mode_bits

      by_class : (h : Grant) → has_bit 0o060 (bit_for (is_read q.access) (class_of asks h)) ≡ true → (b : Bool) → contains (listed_gids c h) q.attr.gid ≡ b → PassesAttr q h
      by_class h bit true in' =
          let parts = listed_parts c h q.attr.gid in' in
          passes_by_mode q h Group by (class_group q h other (listed_from q.caller h q.attr.gid parts.0 (listed_parts q.caller g q.attr.gid listed).1)) has
      by_class h bit false out = absurd (both_ways (has_bit 0o060 (bit_for (is_read q.access) Other)) (group_lacks (is_read q.access)) (ap (λ (class : Class). has_bit 0o060 (bit_for (is_read q.access) class)) (sym (class_other asks h (is_another c.uid) out)) ∙ bit))

      kept : (h : Grant) → (is_some h.uid ≡ false) ⊎ (has_bit 0o060 (bit_for (is_read q.access) (class_of asks h)) ≡ true) → PassesAttr q h
      kept h (inl none) = no_uid q h (none_of_is_some h.uid none)
      kept h (inr bit) = by_class h bit (contains (listed_gids c h) q.attr.gid) refl

-- neither: an old grant that lists the inode's group finds the caller in its class, whose bit is missing
pub as_other : (s : Setting) (g : Grant) (q : Question) (c : Caller) (u m : ℕ) → is_wanted s.accesses q.access ≡ true → IsSettingFor s g → Passes q g → g.uid ≡ Some u → StandsFor s g q (with_group c m) → c.uid ≡ q.caller.uid → is_by_mode q.access ≡ true → is_owner q ≡ false → contains (listed_gids q.caller g) q.attr.gid ≡ false → contains g.gids m ≡ false → All (λ h. contains (listed_gids q.caller h) q.attr.gid ≡ true → m ≡ q.attr.gid) s.old → NoneAsOther s c m → granted q s.old ≡ true
unfolding NoneAsOther
as_other s g q c u m wanted fits passes some like same by other unlisted out each nothing =
    covered s g q (with_group c m) (attr_of (another c.uid) m 0o006) q.access fits passes like (alike_itself q.access) wanted
    (uid_passes asks g u some (uid_of q g u some passes.base.uid ∙ sym same))
    (passes_by_mode asks g Other by (class_other asks g (is_another c.uid) (not_listed (with_group c m) g m out)) (other_has (is_read q.access)))
    (λ k d less attr. (same_uid asks q (get_or s.old k d) same, kept (get_or s.old k d) (each k d less) (class_has asks (get_or s.old k d) by attr.mode_bits)))
    (none_by_mode s (with_group c m) (attr_of (another c.uid) m 0o006) q.access by nothing)
  where
    asks : Question
    asks = asked s (with_group c m) (attr_of (another c.uid) m 0o006) q.access

    has : has_bit q.attr.mode (bit_for (is_read q.access) Other) ≡ true
    has = ap (λ (class : Class). has_bit q.attr.mode (bit_for (is_read q.access) class)) (sym (class_other q g other unlisted)) ∙ has_mode q g u some by passes.attr.mode_bits

    by_class : (h : Grant) → (contains (listed_gids q.caller h) q.attr.gid ≡ true → m ≡ q.attr.gid) → has_bit 0o006 (bit_for (is_read q.access) (class_of asks h)) ≡ true → (b : Bool) → contains (listed_gids q.caller h) q.attr.gid ≡ b → PassesAttr q h
    by_class h only bit true in' =
        let is = only in' in
        let listed : contains h.gids m ≡ true = ap (contains h.gids) is ∙ (listed_parts q.caller h q.attr.gid in').0 in
        let of : contains (gids_of (with_group c m)) m ≡ true = gids_with c m m ∙ or_right (contains (gids_of c) m) (m == m) (eq-eqb m m refl) in
        absurd (both_ways (has_bit 0o006 (bit_for (is_read q.access) Group)) (other_lacks (is_read q.access)) (ap (λ (class : Class). has_bit 0o006 (bit_for (is_read q.access) class)) (sym (class_group asks h (is_another c.uid) (listed_from (with_group c m) h m listed of))) ∙ bit))
    by_class h only bit false not_in = passes_by_mode q h Other by (class_other q h other not_in) has

    kept : (h : Grant) → (contains (listed_gids q.caller h) q.attr.gid ≡ true → m ≡ q.attr.gid) → (is_some h.uid ≡ false) ⊎ (has_bit 0o006 (bit_for (is_read q.access) (class_of asks h)) ≡ true) → PassesAttr q h
    kept h only (inl none) = no_uid q h (none_of_is_some h.uid none)
    kept h only (inr bit) = by_class h only bit (contains (listed_gids q.caller h) q.attr.gid) refl
