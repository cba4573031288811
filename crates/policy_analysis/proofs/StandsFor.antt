-- A grant of an MDS and one of this server that fail by the same rules.
use Rattle.std.proofs.Common.{◌≡◌, ℕ, Bool, true, false, not, ◌||◌, ◌&&◌, ◌*◌, cond, Option, Some, None, List, [], ◌∷◌, length, refl, sym, ap, ◌∙◌}
use Rattle.std.specs.Prelude.{All, IsTrue, bytes_eq, find, is_none, is_some, nat_lt, ◌==◌}
use Rattle.std.specs.List.{AllZip, list_any}
use Rattle.std.proofs.lemmas.Bool.{eq-eqb, eqb-false, eqb-true, ne_eqb, not-false}
use Rattle.capbits.specs.declared.caller.Caller.{Caller}
use Rattle.capbits.specs.Caller.{gids_of}
use Rattle.capspec.specs.declared.grant.Grant.{Grant as OwnGrant}
use Rattle.capspec.specs.Paths.{is_name}
use Rattle.capgrant.specs.declared.access.Access.{Access}
use Rattle.capgrant.specs.declared.access.Access.TheVariants as accesses
use Rattle.capgrant.specs.declared.access.Attr.{Attr}
use Rattle.capgrant.specs.declared.class.Class.{Class}
use Rattle.capgrant.specs.declared.class.Class.TheVariants.{Group, Other, Owner}
use Rattle.capgrant.specs.Class.{has_bit, read_bit, write_bit}
use Rattle.capgrant.specs.Failing.{fails as own_fails, fails_fsname as own_fsname, fails_gids as own_gids, fails_mode_bits as own_mode_bits, fails_no_p as own_no_p}
use Rattle.capgrant.specs.Failing.{fails_no_s as own_no_s, fails_no_write as own_no_write, fails_not_own_group as own_not_own_group, fails_not_owner as own_not_owner}
use Rattle.capgrant.specs.Failing.{fails_path as own_path, fails_root_squash as own_root_squash, fails_uid as own_uid, first_failing as own_first, is_some_and}
use Rattle.capgrant.specs.Question.{Question as OwnQuestion, contains, listed_gids, question}
use Rattle.capgrant.specs.Rule.{all_rules as own_rules}
use Rattle.capgrant.specs.Verdict.{allows, granted}
use Rattle.capgrant.proofs.Listed.{contains_listed, length_listed}
use Rattle.release_grants.specs.declared.grant.Grant.{Grant}
use Rattle.release_grants.specs.declared.switches.Switches.{Switches}
use Rattle.release_rules.specs.Failing.{fails, fails_fsname, fails_gids, fails_mode_bits, fails_network, fails_no_f, fails_no_p, fails_no_s, fails_no_write}
use Rattle.release_rules.specs.Failing.{fails_not_own_group, fails_not_owner, fails_path, fails_root_squash, fails_uid, first_failing, is_root, is_user, user_of}
use Rattle.release_grants.specs.Flags.{has_p as has_p_there, has_w as has_w_there}
use Rattle.release_grants.specs.Networks.{in_network, is_no, is_unknown}
use Rattle.release_rules.specs.Question.{Question, is_in_groups, is_own_group}
use Rattle.release_rules.specs.Rules.{all_rules}
use Rattle.release_rules.specs.Verdicts.{allows as allows_there, may_allow}
use Rattle.policy_analysis.specs.StandsFor.{AsksAlike, CountsWhole, StandsFor, asked_there}
use Rattle.policy_analysis.specs.StandsFor.AsksAlike.{to_read, to_snapshot, to_write}
use Rattle.policy_analysis.proofs.Owners.{owner_passes_attr}
use Rattle.policy_analysis.proofs.Passing.{PassesAttr}

-- ---- of any rules

pub none_found : {A : Type 0} (p : A → Bool) (xs : List A) → is_none (find p xs) ≡ not (list_any p xs)
none_found p [] = refl
none_found p (x ∷ xs) = by_case (p x) refl (none_found p xs)
  where
    by_case : (b : Bool) → p x ≡ b → is_none (find p xs) ≡ not (list_any p xs) → is_none (cond (p x) (Some x) (find p xs)) ≡ not (p x || list_any p xs)
    by_case true is more = rw is refl
    by_case false is more = rw is more

both_ways : (a b : ℕ) → (a == b) ≡ (b == a)
both_ways a b = by_case (b == a) refl
  where
    by_case : (t : Bool) → (b == a) ≡ t → (a == b) ≡ (b == a)
    by_case true is = eq-eqb a b (sym (eqb-true b a is)) ∙ sym is
    by_case false is = ne_eqb a b (λ e. eqb-false b a is (sym e)) ∙ sym is

and_nothing : (b : Bool) → (b && false) ≡ false
and_nothing true = refl
and_nothing false = refl

and_nothing_more : (b more : Bool) → (b && false && more) ≡ false
and_nothing_more true more = refl
and_nothing_more false more = refl

pub and_all : (b : Bool) → (b && true) ≡ b
and_all true = refl
and_all false = refl

-- what follows a rule counts only where it passes
where_it_passes : (x y a b : Bool) → x ≡ y → (x ≡ false → a ≡ b) → (x || a) ≡ (y || b)
where_it_passes true y a b same rest = ap (λ (t : Bool). t || b) same
where_it_passes false y a b same rest = rest refl ∙ ap (λ (t : Bool). t || b) same

-- ---- the bits of the mode

reads_by : (owns has : Bool) → (4 * cond owns 64 (cond has 8 1)) ≡ read_bit (cond owns Owner (cond has Group Other))
reads_by true has = refl
reads_by false true = refl
reads_by false false = refl

writes_by : (owns has : Bool) → (2 * cond owns 64 (cond has 8 1)) ≡ write_bit (cond owns Owner (cond has Group Other))
writes_by true has = refl
writes_by false true = refl
writes_by false false = refl

-- ---- who asks

-- a caller whose uid an MDS takes for the grant's exactly where it is
abbrev pub AgreeOnUid : Switches → Grant → Caller → Type 0
AgreeOnUid s g caller = is_some_and (λ uid. not (is_user caller.uid uid)) (user_of s g) ≡ is_some_and (λ uid. not (uid == caller.uid)) (user_of s g)

-- and each of whose further groups it finds
abbrev pub AreFound : Caller → Type 0
AreFound caller = (gid : ℕ) → is_in_groups gid caller.groups ≡ contains caller.groups gid

-- it does where the caller's uid is below 2 ^ 31
pub small_caller : (s : Switches) (g : Grant) (caller : Caller) → nat_lt caller.uid 2147483648 ≡ true → AgreeOnUid s g caller
small_caller s g caller small = by_user (user_of s g)
  where
    by_user : (user : Option ℕ) → is_some_and (λ uid. not (is_user caller.uid uid)) user ≡ is_some_and (λ uid. not (uid == caller.uid)) user
    by_user None = refl
    by_user (Some uid) = ap not (ap (λ (b : Bool). (caller.uid == uid) && b) small ∙ and_all (caller.uid == uid) ∙ both_ways caller.uid uid)

-- and where the grant's is
pub small_user : (s : Switches) (g : Grant) (caller : Caller) → is_some_and (λ uid. not (nat_lt uid 2147483648)) (user_of s g) ≡ false → AgreeOnUid s g caller
small_user s g caller small = by_user (user_of s g) small
  where
    by_uid : (uid : ℕ) → nat_lt uid 2147483648 ≡ true → (t : Bool) → (caller.uid == uid) ≡ t → ((caller.uid == uid) && nat_lt caller.uid 2147483648) ≡ (uid == caller.uid)
    by_uid uid low true is = ap (λ (b : Bool). b && nat_lt caller.uid 2147483648) is ∙ ap (λ (n : ℕ). nat_lt n 2147483648) (eqb-true caller.uid uid is) ∙ low ∙ sym is ∙ both_ways caller.uid uid
    by_uid uid low false is = ap (λ (b : Bool). b && nat_lt caller.uid 2147483648) is ∙ sym is ∙ both_ways caller.uid uid

    by_user : (user : Option ℕ) → is_some_and (λ uid. not (nat_lt uid 2147483648)) user ≡ false → is_some_and (λ uid. not (is_user caller.uid uid)) user ≡ is_some_and (λ uid. not (uid == caller.uid)) user
    by_user None low = refl
    by_user (Some uid) low = ap not (by_uid uid (not-false (nat_lt uid 2147483648) low) (caller.uid == uid) refl)

module _ (s : Switches) (g : Grant) (own : OwnGrant) (fs : List ℕ) (caller : Caller) (path : List (List ℕ)) (attr : Attr) (stands : StandsFor s g own) (agree : AgreeOnUid s g caller) (groups : AreFound caller) (names : All (λ name. IsTrue (is_name name)) path) where
  abbrev there : Access → Question
  there access = asked_there fs caller path attr access

  abbrev here : Access → OwnQuestion
  here access = question fs caller path attr access

  -- ---- for whom the grant is

  no_gids : user_of s g ≡ None → own.gids ≡ []
  no_gids none = stands.gids ∙ ap (λ (user : Option ℕ). cond (is_some user) g.gids []) none

  same_gids : (uid : ℕ) → user_of s g ≡ Some uid → own.gids ≡ g.gids
  same_gids uid some = stands.gids ∙ ap (λ (user : Option ℕ). cond (is_some user) g.gids []) some

  acts_by : (gid uid : ℕ) → user_of s g ≡ Some uid → is_own_group caller g gid ≡ contains (listed_gids caller own) gid
  unfolding is_own_group
  acts_by gid uid some =
      ap (λ (b : Bool). contains g.gids gid && ((caller.gid == gid) || b)) (groups gid)
      ∙ ap (λ (gids : List ℕ). contains gids gid && contains (gids_of caller) gid) (sym (same_gids uid some))
      ∙ sym (contains_listed caller own gid)

  -- ---- rule by rule

  by_fsname : (access : Access) → fails_fsname s (there access) g ≡ own_fsname (here access) own
  unfolding fails_fsname own_fsname
  by_fsname access = by_switch s.judges_fsname ∙ ap (λ (name : Option (List ℕ)). is_some_and (λ n. not (bytes_eq n fs)) name) (sym stands.fsname)
    where
      by_switch : (looks : Bool) → (looks && is_some_and (λ n. not (bytes_eq n fs)) g.fsname) ≡ is_some_and (λ n. not (bytes_eq n fs)) (cond looks g.fsname None)
      by_switch true = refl
      by_switch false = refl

  by_uid : (access : Access) → fails_uid s (there access) g ≡ own_uid (here access) own
  unfolding fails_uid own_uid
  by_uid access = agree ∙ ap (λ (user : Option ℕ). is_some_and (λ uid. not (uid == caller.uid)) user) (sym stands.user)

  by_gids : (access : Access) → fails_gids s (there access) g ≡ own_gids (here access) own
  unfolding fails_gids own_gids
  by_gids access = by_user (user_of s g) refl ∙ ap (λ (b : Bool). not (length own.gids == 0) && b) (sym (length_listed caller own))
    where
      by_user : (user : Option ℕ) → user_of s g ≡ user
          → (is_some (user_of s g) && (not (length g.gids == 0) && not (list_any (contains g.gids) (gids_of caller)))) ≡ (not (length own.gids == 0) && not (list_any (contains own.gids) (gids_of caller)))
      by_user None is =
          ap (λ (user : Option ℕ). is_some user && (not (length g.gids == 0) && not (list_any (contains g.gids) (gids_of caller)))) is
          ∙ ap (λ (gids : List ℕ). not (length gids == 0) && not (list_any (contains gids) (gids_of caller))) (sym (no_gids is))
      by_user (Some uid) is =
          ap (λ (user : Option ℕ). is_some user && (not (length g.gids == 0) && not (list_any (contains g.gids) (gids_of caller)))) is
          ∙ ap (λ (gids : List ℕ). not (length gids == 0) && not (list_any (contains gids) (gids_of caller))) (sym (same_gids uid is))

  by_path : (access : Access) → fails_path s (there access) g ≡ own_path (here access) own
  unfolding fails_path own_path
  by_path access = stands.path path names

  by_write : (access : Access) → AsksAlike access → fails_no_write (there access) g ≡ own_no_write (here access) own
  unfolding fails_no_write own_no_write
  by_write accesses.Read to_read = refl
  by_write accesses.Write to_write = ap not (sym stands.writes)
  by_write accesses.Snapshot to_snapshot = ap not (sym stands.writes)
  by_write accesses.SetVxattr none = elim none [ ]
  by_write accesses.Chmod none = elim none [ ]
  by_write (accesses.Chown uid) none = elim none [ ]
  by_write (accesses.Chgrp gid) none = elim none [ ]

  by_squash : (access : Access) → AsksAlike access → fails_root_squash (there access) g ≡ own_root_squash (here access) own
  unfolding fails_root_squash own_root_squash
  by_squash accesses.Read to_read = refl
  by_squash accesses.Write to_write = ap (λ (b : Bool). b && is_root caller) (sym stands.squashes)
  by_squash accesses.Snapshot to_snapshot = ap (λ (b : Bool). b && is_root caller) (sym stands.squashes)
  by_squash accesses.SetVxattr none = elim none [ ]
  by_squash accesses.Chmod none = elim none [ ]
  by_squash (accesses.Chown uid) none = elim none [ ]
  by_squash (accesses.Chgrp gid) none = elim none [ ]

  by_p : (access : Access) → AsksAlike access → fails_no_p (there access) g ≡ own_no_p (here access) own
  unfolding fails_no_p own_no_p
  by_p accesses.Read to_read = refl
  by_p accesses.Write to_write = refl
  by_p accesses.Snapshot to_snapshot = refl
  by_p accesses.SetVxattr none = elim none [ ]
  by_p accesses.Chmod none = elim none [ ]
  by_p (accesses.Chown uid) none = elim none [ ]
  by_p (accesses.Chgrp gid) none = elim none [ ]

  by_s : (access : Access) → AsksAlike access → fails_no_write (there access) g ≡ false → fails_no_s (there access) g ≡ own_no_s (here access) own
  unfolding fails_no_write fails_no_s own_no_s
  by_s accesses.Read to_read passes = refl
  by_s accesses.Write to_write passes = refl
  by_s accesses.Snapshot to_snapshot passes = ap not (sym (stands.snapshots (not-false (has_w_there g.flags) passes)))
  by_s accesses.SetVxattr none passes = elim none [ ]
  by_s accesses.Chmod none passes = elim none [ ]
  by_s (accesses.Chown uid) none passes = elim none [ ]
  by_s (accesses.Chgrp gid) none passes = elim none [ ]

  by_owner : (access : Access) → AsksAlike access → fails_not_owner s (there access) g ≡ own_not_owner (here access) own
  unfolding fails_not_owner own_not_owner
  by_owner accesses.Read to_read = and_nothing (is_some (user_of s g)) ∙ sym (and_nothing_more (is_some own.uid) _)
  by_owner accesses.Write to_write = and_nothing (is_some (user_of s g)) ∙ sym (and_nothing_more (is_some own.uid) _)
  by_owner accesses.Snapshot to_snapshot = and_nothing (is_some (user_of s g)) ∙ sym (and_nothing_more (is_some own.uid) _)
  by_owner accesses.SetVxattr none = elim none [ ]
  by_owner accesses.Chmod none = elim none [ ]
  by_owner (accesses.Chown uid) none = elim none [ ]
  by_owner (accesses.Chgrp gid) none = elim none [ ]

  by_own_group : (access : Access) → AsksAlike access → fails_not_own_group s (there access) g ≡ own_not_own_group (here access) own
  unfolding fails_not_own_group own_not_own_group
  by_own_group accesses.Read to_read = and_nothing (is_some (user_of s g)) ∙ sym (and_nothing (is_some own.uid))
  by_own_group accesses.Write to_write = and_nothing (is_some (user_of s g)) ∙ sym (and_nothing (is_some own.uid))
  by_own_group accesses.Snapshot to_snapshot = and_nothing (is_some (user_of s g)) ∙ sym (and_nothing (is_some own.uid))
  by_own_group accesses.SetVxattr none = elim none [ ]
  by_own_group accesses.Chmod none = elim none [ ]
  by_own_group (accesses.Chown uid) none = elim none [ ]
  by_own_group (accesses.Chgrp gid) none = elim none [ ]

  -- the bit that is asked for is the same, where the grant is for one user
  same_bit : (bit : ℕ) (own_bit : Class → ℕ) → ((owns has : Bool) → (bit * cond owns 64 (cond has 8 1)) ≡ own_bit (cond owns Owner (cond has Group Other))) → (uid : ℕ) → user_of s g ≡ Some uid
      → (bit * cond (caller.uid == attr.uid) 64 (cond (is_own_group caller g attr.gid) 8 1)) ≡ own_bit (cond (caller.uid == attr.uid) Owner (cond (contains (listed_gids caller own) attr.gid) Group Other))
  same_bit bit own_bit each uid some =
      ap (λ (has : Bool). bit * cond (caller.uid == attr.uid) 64 (cond has 8 1)) (acts_by attr.gid uid some)
      ∙ each (caller.uid == attr.uid) (contains (listed_gids caller own) attr.gid)

  lacks_bit : (bit : ℕ) (own_bit : Class → ℕ) → ((owns has : Bool) → (bit * cond owns 64 (cond has 8 1)) ≡ own_bit (cond owns Owner (cond has Group Other)))
      → (is_some (user_of s g) && not (has_bit attr.mode (bit * cond (caller.uid == attr.uid) 64 (cond (is_own_group caller g attr.gid) 8 1))))
      ≡ (is_some own.uid && not (has_bit attr.mode (own_bit (cond (caller.uid == attr.uid) Owner (cond (contains (listed_gids caller own) attr.gid) Group Other)))))
  lacks_bit bit own_bit each = by_user (user_of s g) refl
    where
      by_user : (user : Option ℕ) → user_of s g ≡ user
          → (is_some (user_of s g) && not (has_bit attr.mode (bit * cond (caller.uid == attr.uid) 64 (cond (is_own_group caller g attr.gid) 8 1))))
          ≡ (is_some own.uid && not (has_bit attr.mode (own_bit (cond (caller.uid == attr.uid) Owner (cond (contains (listed_gids caller own) attr.gid) Group Other)))))
      by_user None is =
          ap (λ (user : Option ℕ). is_some user && not (has_bit attr.mode (bit * cond (caller.uid == attr.uid) 64 (cond (is_own_group caller g attr.gid) 8 1)))) is
          ∙ sym (ap (λ (user : Option ℕ). is_some user && not (has_bit attr.mode (own_bit (cond (caller.uid == attr.uid) Owner (cond (contains (listed_gids caller own) attr.gid) Group Other))))) (stands.user ∙ is))
      by_user (Some uid) is =
          ap (λ (user : Option ℕ). is_some user && not (has_bit attr.mode (bit * cond (caller.uid == attr.uid) 64 (cond (is_own_group caller g attr.gid) 8 1)))) is
          ∙ ap (λ (n : ℕ). not (has_bit attr.mode n)) (same_bit bit own_bit each uid is)
          ∙ sym (ap (λ (user : Option ℕ). is_some user && not (has_bit attr.mode (own_bit (cond (caller.uid == attr.uid) Owner (cond (contains (listed_gids caller own) attr.gid) Group Other))))) (stands.user ∙ is))

  or_nothing : (b : Bool) → (b || (false || false)) ≡ b
  or_nothing true = refl
  or_nothing false = refl

  or_left_nothing : (b : Bool) → (false || (b || false)) ≡ b
  or_left_nothing true = refl
  or_left_nothing false = refl

  by_mode : (access : Access) → AsksAlike access → fails_mode_bits s (there access) g ≡ own_mode_bits (here access) own
  unfolding fails_mode_bits own_mode_bits
  by_mode accesses.Read to_read = ap (λ (b : Bool). is_some (user_of s g) && b) (or_nothing _) ∙ lacks_bit 4 read_bit reads_by
  by_mode accesses.Write to_write = ap (λ (b : Bool). is_some (user_of s g) && b) (or_left_nothing _) ∙ lacks_bit 2 write_bit writes_by
  by_mode accesses.Snapshot to_snapshot = ap (λ (b : Bool). is_some (user_of s g) && b) (or_left_nothing _) ∙ lacks_bit 2 write_bit writes_by
  by_mode accesses.SetVxattr none = elim none [ ]
  by_mode accesses.Chmod none = elim none [ ]
  by_mode (accesses.Chown uid) none = elim none [ ]
  by_mode (accesses.Chgrp gid) none = elim none [ ]

  -- ---- all of them

  by_rest : (access : Access) → AsksAlike access → (fails_no_f (there access) g || (fails_network (there access) g || false)) ≡ false
  unfolding fails_no_f fails_network
  by_rest accesses.Read to_read = ap (λ (network : Option (List ℕ)). is_no (in_network network None) || false) stands.network
  by_rest accesses.Write to_write = ap (λ (network : Option (List ℕ)). is_no (in_network network None) || false) stands.network
  by_rest accesses.Snapshot to_snapshot = ap (λ (network : Option (List ℕ)). is_no (in_network network None) || false) stands.network
  by_rest accesses.SetVxattr none = elim none [ ]
  by_rest accesses.Chmod none = elim none [ ]
  by_rest (accesses.Chown uid) none = elim none [ ]
  by_rest (accesses.Chgrp gid) none = elim none [ ]

  by_any : (access : Access) → AsksAlike access → list_any (λ r. fails r s (there access) g) all_rules ≡ list_any (λ r. own_fails r (here access) own) own_rules
  by_any access alike =
      λ i. by_fsname access i || (by_uid access i || (by_gids access i || (by_path access i || where_it_passes (fails_no_write (there access) g) (own_no_write (here access) own) _ _ (by_write access alike) (λ passes.
      λ j. by_squash access alike j || (by_p access alike j || (by_s access alike passes j || (by_owner access alike j || (by_own_group access alike j || (by_mode access alike j || by_rest access alike j)))))) i)))

  pub judged_alike : (access : Access) → AsksAlike access → may_allow s (there access) g ≡ allows (here access) own
  unfolding first_failing own_first
  judged_alike access alike = none_found (λ r. fails r s (there access) g) all_rules ∙ ap not (by_any access alike) ∙ sym (none_found (λ r. own_fails r (here access) own) own_rules)

  pub allowed_alike : (access : Access) → AsksAlike access → allows_there s (there access) g ≡ allows (here access) own
  allowed_alike access alike =
      ap (λ (network : Option (List ℕ)). may_allow s (there access) g && not (is_unknown (in_network network None))) stands.network ∙ and_all (may_allow s (there access) g) ∙ judged_alike access alike

-- ---- two accesses here for one there

-- of two lists of rules that begin alike none fails exactly if none fails of one with both ends
none_of_both : (x a b c : Bool) → not c ≡ (not a && not b) → not (x || c) ≡ (not (x || a) && not (x || b))
none_of_both true a b c ends = refl
none_of_both false a b c ends = ends

ends_both : (o m : Bool) → not (o || m) ≡ (not m && not o)
ends_both true true = refl
ends_both true false = refl
ends_both false true = refl
ends_both false false = refl

none_of_two : (x1 x2 x3 x4 x5 x6 o m : Bool)
    → not (x1 || (x2 || (x3 || (x4 || (x5 || (x6 || (o || m))))))) ≡ (not (x1 || (x2 || (x3 || (x4 || (x5 || (x6 || m)))))) && not (x1 || (x2 || (x3 || (x4 || (x5 || (x6 || o)))))))
none_of_two x1 x2 x3 x4 x5 x6 o m =
    none_of_both x1 _ _ _ (none_of_both x2 _ _ _ (none_of_both x3 _ _ _ (none_of_both x4 _ _ _ (none_of_both x5 _ _ _ (none_of_both x6 _ _ _ (ends_both o m))))))

one_true : (b more : Bool) → (b && more) ≡ (b && true && more)
one_true true more = refl
one_true false more = refl

pub or_false : (b : Bool) → (b || false) ≡ b
or_false true = refl
or_false false = refl

module _ (s : Switches) (g : Grant) (own : OwnGrant) (fs : List ℕ) (caller : Caller) (path : List (List ℕ)) (attr : Attr) (stands : StandsFor s g own) (agree : AgreeOnUid s g caller) (groups : AreFound caller) (names : All (λ name. IsTrue (is_name name)) path) where
  abbrev asks_there : Access → Question
  asks_there access = asked_there fs caller path attr access

  abbrev asks_here : Access → OwnQuestion
  asks_here access = question fs caller path attr access

  -- the rules on the flags and root, of what writes
  no_write : fails_no_write (asks_there accesses.Write) g ≡ own_no_write (asks_here accesses.Write) own
  no_write = by_write s g own fs caller path attr stands agree groups names accesses.Write to_write

  squash : fails_root_squash (asks_there accesses.Write) g ≡ own_root_squash (asks_here accesses.Write) own
  squash = by_squash s g own fs caller path attr stands agree groups names accesses.Write to_write

  mode : fails_mode_bits s (asks_there accesses.Write) g ≡ own_mode_bits (asks_here accesses.Write) own
  mode = by_mode s g own fs caller path attr stands agree groups names accesses.Write to_write

  no_network : fails_network (asks_there accesses.Write) g ≡ false
  unfolding fails_network
  no_network = ap (λ (network : Option (List ℕ)). is_no (in_network network None)) stands.network

  -- what a grant here fails by to write
  write_any : list_any (λ r. own_fails r (asks_here accesses.Write) own) own_rules
      ≡ (own_fsname (asks_here accesses.Write) own || (own_uid (asks_here accesses.Write) own || (own_gids (asks_here accesses.Write) own || (own_path (asks_here accesses.Write) own || (own_no_write (asks_here accesses.Write) own || (own_root_squash (asks_here accesses.Write) own || own_mode_bits (asks_here accesses.Write) own))))))
  unfolding own_no_p own_no_s own_not_owner own_not_own_group
  write_any = λ i. own_fsname (asks_here accesses.Write) own || (own_uid (asks_here accesses.Write) own || (own_gids (asks_here accesses.Write) own || (own_path (asks_here accesses.Write) own || (own_no_write (asks_here accesses.Write) own || (own_root_squash (asks_here accesses.Write) own
      || (and_nothing_more (is_some own.uid) (not (caller.uid == attr.uid) || false) i || (and_nothing (is_some own.uid) i || or_false (own_mode_bits (asks_here accesses.Write) own) i)))))))

  -- ---- to change the owner

  chown_any : (uid : ℕ) → list_any (λ r. own_fails r (asks_here (accesses.Chown uid)) own) own_rules
      ≡ (own_fsname (asks_here accesses.Write) own || (own_uid (asks_here accesses.Write) own || (own_gids (asks_here accesses.Write) own || (own_path (asks_here accesses.Write) own || (own_no_write (asks_here accesses.Write) own || (own_root_squash (asks_here accesses.Write) own || own_not_owner (asks_here (accesses.Chown uid)) own))))))
  unfolding own_fsname own_uid own_gids own_path own_no_write own_root_squash own_no_p own_no_s own_not_own_group own_mode_bits
  chown_any uid = λ i. own_fsname (asks_here accesses.Write) own || (own_uid (asks_here accesses.Write) own || (own_gids (asks_here accesses.Write) own || (own_path (asks_here accesses.Write) own || (own_no_write (asks_here accesses.Write) own || (own_root_squash (asks_here accesses.Write) own
      || nothing_behind (own_not_owner (asks_here (accesses.Chown uid)) own) (is_some own.uid) i)))))
    where
      nothing_behind : (o some : Bool) → (o || ((some && false) || ((some && false) || false))) ≡ o
      nothing_behind true some = refl
      nothing_behind false true = refl
      nothing_behind false false = refl

  not_owner : (uid : ℕ) → fails_not_owner s (asks_there (accesses.Chown uid)) g ≡ own_not_owner (asks_here (accesses.Chown uid)) own
  unfolding fails_not_owner own_not_owner
  not_owner uid = ap (λ (user : Option ℕ). is_some user && (not (caller.uid == attr.uid) || not (uid == caller.uid))) (sym stands.user) ∙ one_true (is_some own.uid) _

  chown_there : (uid : ℕ) → list_any (λ r. fails r s (asks_there (accesses.Chown uid)) g) all_rules
      ≡ (own_fsname (asks_here accesses.Write) own || (own_uid (asks_here accesses.Write) own || (own_gids (asks_here accesses.Write) own || (own_path (asks_here accesses.Write) own || (own_no_write (asks_here accesses.Write) own || (own_root_squash (asks_here accesses.Write) own
      || (own_not_owner (asks_here (accesses.Chown uid)) own || own_mode_bits (asks_here accesses.Write) own)))))))
  unfolding fails_fsname fails_uid fails_gids fails_path fails_no_write fails_root_squash fails_no_p fails_no_s fails_not_own_group fails_mode_bits fails_no_f fails_network
  chown_there uid =
      λ i. by_fsname s g own fs caller path attr stands agree groups names accesses.Write i || (by_uid s g own fs caller path attr stands agree groups names accesses.Write i || (by_gids s g own fs caller path attr stands agree groups names accesses.Write i
      || (by_path s g own fs caller path attr stands agree groups names accesses.Write i || (no_write i || (squash i || (not_owner uid i || (and_nothing (is_some (user_of s g)) i || behind i)))))))
    where
      behind : (fails_mode_bits s (asks_there accesses.Write) g || (false || (fails_network (asks_there accesses.Write) g || false))) ≡ own_mode_bits (asks_here accesses.Write) own
      behind = (λ i. mode i || (no_network i || false)) ∙ or_false (own_mode_bits (asks_here accesses.Write) own)

  pub chown_alike : (uid : ℕ) → may_allow s (asks_there (accesses.Chown uid)) g ≡ (allows (asks_here accesses.Write) own && allows (asks_here (accesses.Chown uid)) own)
  unfolding first_failing own_first
  chown_alike uid =
      none_found (λ r. fails r s (asks_there (accesses.Chown uid)) g) all_rules ∙ ap not (chown_there uid)
      ∙ none_of_two (own_fsname (asks_here accesses.Write) own) (own_uid (asks_here accesses.Write) own) (own_gids (asks_here accesses.Write) own) (own_path (asks_here accesses.Write) own) (own_no_write (asks_here accesses.Write) own) (own_root_squash (asks_here accesses.Write) own)
      (own_not_owner (asks_here (accesses.Chown uid)) own) (own_mode_bits (asks_here accesses.Write) own)
      ∙ (λ i. not (sym write_any i) && not (sym (chown_any uid) i))
      ∙ (λ i. sym (none_found (λ r. own_fails r (asks_here accesses.Write) own) own_rules) i && sym (none_found (λ r. own_fails r (asks_here (accesses.Chown uid)) own) own_rules) i)

  -- ---- to change the group

  chgrp_any : (gid : ℕ) → list_any (λ r. own_fails r (asks_here (accesses.Chgrp gid)) own) own_rules
      ≡ (own_fsname (asks_here accesses.Write) own || (own_uid (asks_here accesses.Write) own || (own_gids (asks_here accesses.Write) own || (own_path (asks_here accesses.Write) own || (own_no_write (asks_here accesses.Write) own || (own_root_squash (asks_here accesses.Write) own
      || (own_not_owner (asks_here (accesses.Chgrp gid)) own || own_not_own_group (asks_here (accesses.Chgrp gid)) own)))))))
  unfolding own_fsname own_uid own_gids own_path own_no_write own_root_squash own_no_p own_no_s own_mode_bits
  chgrp_any gid = λ i. own_fsname (asks_here accesses.Write) own || (own_uid (asks_here accesses.Write) own || (own_gids (asks_here accesses.Write) own || (own_path (asks_here accesses.Write) own || (own_no_write (asks_here accesses.Write) own || (own_root_squash (asks_here accesses.Write) own
      || (own_not_owner (asks_here (accesses.Chgrp gid)) own || nothing_behind (own_not_own_group (asks_here (accesses.Chgrp gid)) own) (is_some own.uid) i))))))
    where
      nothing_behind : (o some : Bool) → (o || ((some && false) || false)) ≡ o
      nothing_behind true some = refl
      nothing_behind false true = refl
      nothing_behind false false = refl

  chgrp_owner : (gid : ℕ) → fails_not_owner s (asks_there (accesses.Chgrp gid)) g ≡ own_not_owner (asks_here (accesses.Chgrp gid)) own
  unfolding fails_not_owner own_not_owner
  chgrp_owner gid = ap (λ (user : Option ℕ). is_some user && (not (caller.uid == attr.uid) || false)) (sym stands.user) ∙ one_true (is_some own.uid) _

  chgrp_group : (gid : ℕ) → fails_not_own_group s (asks_there (accesses.Chgrp gid)) g ≡ own_not_own_group (asks_here (accesses.Chgrp gid)) own
  unfolding fails_not_own_group own_not_own_group
  chgrp_group gid = by_user (user_of s g) refl
    where
      by_user : (user : Option ℕ) → user_of s g ≡ user → (is_some (user_of s g) && not (is_own_group caller g gid)) ≡ (is_some own.uid && not (contains (listed_gids caller own) gid))
      by_user None is = ap (λ (user : Option ℕ). is_some user && not (is_own_group caller g gid)) is ∙ sym (ap (λ (user : Option ℕ). is_some user && not (contains (listed_gids caller own) gid)) (stands.user ∙ is))
      by_user (Some uid) is =
          ap (λ (user : Option ℕ). is_some user && not (is_own_group caller g gid)) is ∙ ap not (acts_by s g own fs caller path attr stands agree groups names gid uid is)
          ∙ sym (ap (λ (user : Option ℕ). is_some user && not (contains (listed_gids caller own) gid)) (stands.user ∙ is))

  chgrp_there : (gid : ℕ) → list_any (λ r. fails r s (asks_there (accesses.Chgrp gid)) g) all_rules
      ≡ (own_fsname (asks_here accesses.Write) own || (own_uid (asks_here accesses.Write) own || (own_gids (asks_here accesses.Write) own || (own_path (asks_here accesses.Write) own || (own_no_write (asks_here accesses.Write) own || (own_root_squash (asks_here accesses.Write) own
      || ((own_not_owner (asks_here (accesses.Chgrp gid)) own || own_not_own_group (asks_here (accesses.Chgrp gid)) own) || own_mode_bits (asks_here accesses.Write) own)))))))
  unfolding fails_fsname fails_uid fails_gids fails_path fails_no_write fails_root_squash fails_no_p fails_no_s fails_mode_bits fails_no_f fails_network
  chgrp_there gid =
      λ i. by_fsname s g own fs caller path attr stands agree groups names accesses.Write i || (by_uid s g own fs caller path attr stands agree groups names accesses.Write i || (by_gids s g own fs caller path attr stands agree groups names accesses.Write i
      || (by_path s g own fs caller path attr stands agree groups names accesses.Write i || (no_write i || (squash i || behind i)))))
    where
      together_or : (a b c : Bool) → (a || (b || c)) ≡ ((a || b) || c)
      together_or true b c = refl
      together_or false b c = refl

      behind : (fails_not_owner s (asks_there (accesses.Chgrp gid)) g || (fails_not_own_group s (asks_there (accesses.Chgrp gid)) g || (fails_mode_bits s (asks_there accesses.Write) g || (false || (fails_network (asks_there accesses.Write) g || false)))))
          ≡ ((own_not_owner (asks_here (accesses.Chgrp gid)) own || own_not_own_group (asks_here (accesses.Chgrp gid)) own) || own_mode_bits (asks_here accesses.Write) own)
      behind =
          (λ i. chgrp_owner gid i || (chgrp_group gid i || (mode i || (no_network i || false))))
          ∙ (λ i. own_not_owner (asks_here (accesses.Chgrp gid)) own || (own_not_own_group (asks_here (accesses.Chgrp gid)) own || or_false (own_mode_bits (asks_here accesses.Write) own) i))
          ∙ together_or (own_not_owner (asks_here (accesses.Chgrp gid)) own) (own_not_own_group (asks_here (accesses.Chgrp gid)) own) (own_mode_bits (asks_here accesses.Write) own)

  pub chgrp_alike : (gid : ℕ) → may_allow s (asks_there (accesses.Chgrp gid)) g ≡ (allows (asks_here accesses.Write) own && allows (asks_here (accesses.Chgrp gid)) own)
  unfolding first_failing own_first
  chgrp_alike gid =
      none_found (λ r. fails r s (asks_there (accesses.Chgrp gid)) g) all_rules ∙ ap not (chgrp_there gid)
      ∙ none_of_two (own_fsname (asks_here accesses.Write) own) (own_uid (asks_here accesses.Write) own) (own_gids (asks_here accesses.Write) own) (own_path (asks_here accesses.Write) own) (own_no_write (asks_here accesses.Write) own) (own_root_squash (asks_here accesses.Write) own)
      (own_not_owner (asks_here (accesses.Chgrp gid)) own || own_not_own_group (asks_here (accesses.Chgrp gid)) own) (own_mode_bits (asks_here accesses.Write) own)
      ∙ (λ i. not (sym write_any i) && not (sym (chgrp_any gid) i))
      ∙ (λ i. sym (none_found (λ r. own_fails r (asks_here accesses.Write) own) own_rules) i && sym (none_found (λ r. own_fails r (asks_here (accesses.Chgrp gid)) own) own_rules) i)

-- ---- an attribute there, and an owner who reads here

module _ (s : Switches) (g : Grant) (own : OwnGrant) (fs : List ℕ) (caller : Caller) (path : List (List ℕ)) (attr : Attr) (stands : StandsFor s g own) (agree : AgreeOnUid s g caller) (groups : AreFound caller) (names : All (λ name. IsTrue (is_name name)) path) (attributes : has_p_there g.flags ≡ true) where
  abbrev owned : Attr
  owned = record attr { uid = caller.uid; mode = 0o600 }

  abbrev sets : Question
  sets = asked_there fs caller path attr accesses.SetVxattr

  abbrev reads : OwnQuestion
  reads = question fs caller path owned accesses.Read

  ends : (a b c d e f : Bool) → a ≡ false → b ≡ false → c ≡ false → d ≡ false → e ≡ false → f ≡ false → (a || (b || (c || (d || (e || (f || false)))))) ≡ false
  ends a b c d e f ia ib ic id ie if' = λ i. ia i || (ib i || (ic i || (id i || (ie i || (if' i || false)))))

  sets_any : list_any (λ r. fails r s sets g) all_rules ≡ (own_fsname reads own || (own_uid reads own || (own_gids reads own || (own_path reads own || false))))
  unfolding fails_fsname fails_uid fails_gids fails_path fails_no_write fails_root_squash fails_no_p fails_no_s fails_not_owner fails_not_own_group fails_mode_bits fails_no_f fails_network
  sets_any =
      λ i. by_fsname s g own fs caller path owned stands agree groups names accesses.Read i || (by_uid s g own fs caller path owned stands agree groups names accesses.Read i || (by_gids s g own fs caller path owned stands agree groups names accesses.Read i
      || (by_path s g own fs caller path owned stands agree groups names accesses.Read i || ends (not (has_p_there g.flags)) (is_some (user_of s g) && false) (is_some (user_of s g) && false) (is_some (user_of s g) && false) false (is_no (in_network g.network None))
      (ap not attributes) (and_nothing (is_some (user_of s g))) (and_nothing (is_some (user_of s g))) (and_nothing (is_some (user_of s g))) refl (ap (λ (network : Option (List ℕ)). is_no (in_network network None)) stands.network) i)))

  -- where the owner may read, the owner passes the rules on the inode
  passes : PassesAttr reads own
  passes = owner_passes_attr (question fs caller path attr accesses.Read) own

  reads_any : list_any (λ r. own_fails r reads own) own_rules ≡ (own_fsname reads own || (own_uid reads own || (own_gids reads own || (own_path reads own || false))))
  unfolding own_no_write own_root_squash own_no_p own_no_s
  reads_any = λ i. own_fsname reads own || (own_uid reads own || (own_gids reads own || (own_path reads own || (passes.not_owner i || (passes.not_own_group i || (passes.mode_bits i || false))))))

  pub vxattr_alike : may_allow s sets g ≡ allows reads own
  unfolding first_failing own_first
  vxattr_alike = none_found (λ r. fails r s sets g) all_rules ∙ ap not (sets_any ∙ sym reads_any) ∙ sym (none_found (λ r. own_fails r reads own) own_rules)

-- ---- whole lists

pub lists_alike : (s : Switches) (grants : List Grant) (owns : List OwnGrant) (fs : List ℕ) (caller : Caller) (path : List (List ℕ)) (attr : Attr) (access : Access) → AllZip (StandsFor s) grants owns → CountsWhole caller
    → All (λ name. IsTrue (is_name name)) path → AsksAlike access → list_any (allows_there s (asked_there fs caller path attr access)) grants ≡ granted (question fs caller path attr access) owns
lists_alike s [] [] fs caller path attr access all counts names alike = refl
lists_alike s [] (own ∷ owns) fs caller path attr access all counts names alike = absurd all
lists_alike s (g ∷ grants) [] fs caller path attr access all counts names alike = absurd all
lists_alike s (g ∷ grants) (own ∷ owns) fs caller path attr access all counts names alike =
    let first = allowed_alike s g own fs caller path attr all.0 (small_caller s g caller counts.uid) counts.groups names access alike in
    let rest = lists_alike s grants owns fs caller path attr access all.1 counts names alike in
    λ i. first i || rest i
