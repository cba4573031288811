-- A grant of an MDS, and the one that stands in for it, say the same to a question.
use Rattle.std.proofs.Common.{◌≡◌, ℕ, Bool, true, false, not, ◌&&◌, cond, Option, Some, None, List, refl, sym, ap, ◌∙◌}
use Rattle.std.specs.Prelude.{All, IsTrue, bytes_eq, is_none, nat_le, nat_lt, if◌then◌else◌}
use Rattle.std.specs.List.{list_all, starts_with}
use Rattle.std.proofs.lemmas.Bool.{false≢true, leb-false, lt-ltb, not_from_true, true≢false}
use Rattle.std.proofs.Common.{arith}
use Rattle.capspec.specs.declared.flags.Flags4.TheVariants.{R, Rw, Rws}
use Rattle.capspec.specs.declared.grant.Grant.{Grant as OwnGrant}
use Rattle.capspec.specs.Flags.{has_s, has_w}
use Rattle.capspec.specs.Paths.{has_double_slash, is_name}
use Rattle.capgrant.specs.declared.access.Access.{Access}
use Rattle.capgrant.specs.declared.access.Access.TheVariants.{Chgrp, Chmod, Chown, Read, SetVxattr, Snapshot, Write}
use Rattle.capgrant.specs.declared.rule.Rule.{Rule as OwnRule}
use Rattle.capgrant.specs.declared.rule.Rule.TheVariants as own_rule
use Rattle.capgrant.specs.Access.{is_set_vxattr}
use Rattle.capgrant.specs.Failing.{fails_fsname as own_fsname, fails_gids as own_gids, fails_mode_bits as own_mode_bits, fails_no_p as own_no_p}
use Rattle.capgrant.specs.Failing.{fails_no_s as own_no_s, fails_no_write as own_no_write, fails_not_own_group as own_not_own_group, fails_not_owner as own_not_owner}
use Rattle.capgrant.specs.Failing.{fails_path as own_path, fails_root_squash as own_root_squash, fails_uid as own_uid, first_failing as own_first, is_some_and}
use Rattle.capgrant.specs.Question.{Question, listed_gids}
use Rattle.capgrant.specs.Verdict.{allows}
use Rattle.release_grants.specs.declared.flags.Flags.{Flags}
use Rattle.release_grants.specs.declared.grant.Grant.{Grant}
use Rattle.release_grants.specs.declared.switches.Switches.{Switches}
use Rattle.release_rules.specs.declared.rule.Rule.{Rule}
use Rattle.release_rules.specs.declared.rule.Rule.TheVariants as rule
use Rattle.release_rules.specs.Failing.{fails, fails_fsname, fails_gids, fails_mode_bits, fails_network, fails_no_f, fails_no_p, fails_no_s, fails_no_write}
use Rattle.release_rules.specs.Failing.{fails_not_own_group, fails_not_owner, fails_path, fails_root_squash, fails_uid, is_zero, user_of}
use Rattle.release_grants.specs.Flags.{has_p as has_p_there, has_s as has_s_there, has_w as has_w_there}
use Rattle.release_grants.specs.Networks.{in_network, is_no}
use Rattle.release_grants.specs.Paths.{directory_of, ends_in_slash, lies_in, path_text}
use Rattle.release_rules.specs.Question.{is_own_group}
use Rattle.release_rules.specs.Verdicts.{may_allow}
use Rattle.policy_analysis.specs.ComparingBy.{CanBeAsked, Terms, put_to}
use Rattle.policy_analysis.specs.Oddities.{has_large_uid, has_two_slashes}
use Rattle.policy_analysis.specs.StandIns.{IsStandIn, flags_for, is_on, names_for, together, with_access}
use Rattle.policy_analysis.specs.StandsFor.{AsksAlike, StandsFor, asked_there}
use Rattle.policy_analysis.specs.StandsFor.AsksAlike.{to_read, to_snapshot, to_write}
use Rattle.policy_analysis.specs.Vxattrs.{as_owner}
use Rattle.policy_analysis.proofs.Directories.{directory_as_names}
use Rattle.policy_analysis.proofs.Odd.{same_first}
use Rattle.policy_analysis.proofs.StandsFor.{AgreeOnUid, and_all, chgrp_alike, chown_alike, judged_alike, small_user, vxattr_alike}

-- ---- the flags

writes_alike : (flags : Flags) → has_w (flags_for flags) ≡ has_w_there flags
writes_alike flags = by_tests (has_w_there flags) (has_s_there flags)
  where
    by_tests : (w s : Bool) → has_w (if w then (if s then Rws else Rw) else R) ≡ w
    by_tests true true = refl
    by_tests true false = refl
    by_tests false s = refl

snapshots_alike : (flags : Flags) → has_w_there flags ≡ true → has_s (flags_for flags) ≡ has_s_there flags
snapshots_alike flags writes = by_tests (has_w_there flags) (has_s_there flags) writes
  where
    by_tests : (w s : Bool) → w ≡ true → has_s (if w then (if s then Rws else Rw) else R) ≡ s
    by_tests true true writes = refl
    by_tests true false writes = refl
    by_tests false s writes = absurd (false≢true writes)

-- ---- the user

-- a uid that is not large, where it is one
small_uid : (s : Switches) (g : Grant) → has_large_uid g ≡ false → is_some_and (λ uid. not (nat_lt uid 2147483648)) (user_of s g) ≡ false
unfolding user_of
small_uid s g small = by_uid s.zero_is_no_uid g.uid small
  where
    below : (uid : ℕ) → nat_le 2147483648 uid ≡ false → not (nat_lt uid 2147483648) ≡ false
    below uid low = not_from_true (nat_lt uid 2147483648) (lt-ltb uid 2147483648 (let above = leb-false 2147483648 uid low in omega (arith, above)))

    by_uid : (zero : Bool) (uid : Option ℕ) → is_some_and (λ n. nat_le 2147483648 n) uid ≡ false → is_some_and (λ uid. not (nat_lt uid 2147483648)) (cond (zero && is_some_and is_zero uid) None uid) ≡ false
    by_uid true None low = refl
    by_uid false None low = refl
    by_uid false (Some n) low = below n low
    by_uid true (Some n) low = by_zero (is_zero n)
      where
        by_zero : (b : Bool) → is_some_and (λ uid. not (nat_lt uid 2147483648)) (cond b None (Some n)) ≡ false
        by_zero true = refl
        by_zero false = below n low

-- ---- a grant without its network

abbrev bare : Grant → Grant
bare g = record g { network = None }

-- is judged wherever the client is as the other is where the client is in its network
module _ (t : Terms) (g : Grant) (plays_part : is_no (in_network g.network t.address) ≡ false) where
  as_bare : (q : Question) → may_allow t.switches (put_to t q) g ≡ may_allow t.switches (asked_there q.fs q.caller q.path q.attr q.access) (bare g)
  unfolding fails_fsname fails_uid fails_gids fails_path fails_no_write fails_root_squash fails_no_p fails_no_s fails_not_owner fails_not_own_group fails_mode_bits fails_no_f fails_network user_of is_own_group
  as_bare q = ap is_none (same_first t.switches (put_to t q) (asked_there q.fs q.caller q.path q.attr q.access) g (bare g) each)
    where
      each : (r : Rule) → fails r t.switches (put_to t q) g ≡ fails r t.switches (asked_there q.fs q.caller q.path q.attr q.access) (bare g)
      each rule.FsName = refl
      each rule.Uid = refl
      each rule.Gids = refl
      each rule.Path = refl
      each rule.NoWrite = refl
      each rule.RootSquash = refl
      each rule.NoP = refl
      each rule.NoS = refl
      each rule.NotOwner = refl
      each rule.NotOwnGroup = refl
      each rule.ModeBits = refl
      each rule.NoF = refl
      each rule.Network = plays_part

-- ---- a grant that stands in

module _ (t : Terms) (fs : Option (List ℕ)) (g : Grant) (own : OwnGrant) (stand : IsStandIn t.switches fs g own) (small : has_large_uid g ≡ false) (lone : has_two_slashes t.switches g ≡ false) (plays_part : is_no (in_network g.network t.address) ≡ false) where
  abbrev everywhere : OwnGrant
  everywhere = record own { fsname = if t.switches.judges_fsname then g.fsname else None }

  -- on each file system where it is not for one it says what the other says without its network
  stands : StandsFor t.switches (bare g) everywhere
  unfolding user_of
  stands = record {
    fsname = refl;
    user = stand.user;
    gids = stand.gids;
    path = by_path g.path refl lone stand.end stand.path;
    writes = ap has_w stand.flags ∙ writes_alike g.flags;
    snapshots = λ writes. ap has_s stand.flags ∙ snapshots_alike g.flags writes;
    squashes = stand.squashes;
    network = refl;
  }
    where
      by_path : (path : Option (List ℕ)) → g.path ≡ path → is_some_and (λ p. has_double_slash (directory_of t.switches p)) path ≡ false → is_some_and (λ p. ends_in_slash (directory_of t.switches p)) path ≡ false → own.path ≡ names_for t.switches path
          → (names : List (List ℕ)) → All (λ name. IsTrue (is_name name)) names → is_some_and (λ p. not (lies_in (directory_of t.switches p) (path_text names))) path ≡ not (starts_with bytes_eq names own.path)
      by_path None is lone end same names valid = ap (λ (dir : List (List ℕ)). not (starts_with bytes_eq names dir)) (sym same)
      by_path (Some p) is lone end same names valid = ap not (directory_as_names t.switches p names lone end valid ∙ ap (starts_with bytes_eq names) (sym same))

  first_rule : (x : Bool) (r : OwnRule) (rest : Option OwnRule) → is_none (cond x (Some r) rest) ≡ (not x && is_none rest)
  first_rule true r rest = refl
  first_rule false r rest = refl

  by_name : (q : Question) (h : OwnGrant) (name : Option (List ℕ)) → allows q (record h { fsname = name }) ≡ (not (is_some_and (λ n. not (bytes_eq n q.fs)) name) && allows q (record h { fsname = None }))
  unfolding own_first own_fsname own_uid own_gids own_path own_no_write own_root_squash own_no_p own_no_s own_not_owner own_not_own_group own_mode_bits listed_gids
  by_name q h name = first_rule (is_some_and (λ n. not (bytes_eq n q.fs)) name) own_rule.FsName _

  -- it counts for the file systems for which it is
  on_its_own : (q : Question) → allows q own ≡ (is_on t.switches fs q && allows q everywhere)
  on_its_own q = by_switch t.switches.judges_fsname stand.fsname
    where
      by_switch : (judges : Bool) → own.fsname ≡ (if judges then g.fsname else fs)
          → allows q own ≡ ((if judges then true else not (is_some_and (λ name. not (bytes_eq name q.fs)) fs)) && allows q (record own { fsname = if judges then g.fsname else None }))
      by_switch true is = ap (λ (name : Option (List ℕ)). allows q (record own { fsname = name })) is
      by_switch false is = ap (λ (name : Option (List ℕ)). allows q (record own { fsname = name })) is ∙ by_name q own fs

  on_both : (o a b : Bool) → ((o && a) && ((o && b) && true)) ≡ (o && (a && b))
  on_both true a b = ap (λ (c : Bool). a && c) (and_all b)
  on_both false a b = refl

  module _ (q : Question) (asked : CanBeAsked q) where
    agree : AgreeOnUid t.switches (bare g) q.caller
    agree = small_user t.switches (bare g) q.caller (small_uid t.switches (bare g) small)

    -- what is asked of the other, and what is asked of the one without its network
    there : (access : Access) (b : Bool) → may_allow t.switches (asked_there q.fs q.caller q.path q.attr access) (bare g) ≡ b → b ≡ may_allow t.switches (put_to t (with_access q access)) g
    there access b alike = sym (as_bare t g plays_part (with_access q access) ∙ alike)

    one : (access own_access : Access) → may_allow t.switches (asked_there q.fs q.caller q.path q.attr access) (bare g) ≡ allows (with_access q own_access) everywhere
        → (allows (with_access q own_access) own && true) ≡ (is_on t.switches fs q && may_allow t.switches (put_to t (with_access q access)) g)
    one access own_access alike =
        and_all (allows (with_access q own_access) own) ∙ on_its_own (with_access q own_access)
        ∙ ap (λ (b : Bool). is_on t.switches fs q && b) (there access (allows (with_access q own_access) everywhere) alike)

    two : (access : Access) → may_allow t.switches (asked_there q.fs q.caller q.path q.attr access) (bare g) ≡ (allows (with_access q Write) everywhere && allows (with_access q access) everywhere)
        → (allows (with_access q Write) own && (allows (with_access q access) own && true)) ≡ (is_on t.switches fs q && may_allow t.switches (put_to t (with_access q access)) g)
    two access alike =
        (λ i. on_its_own (with_access q Write) i && (on_its_own (with_access q access) i && true))
        ∙ on_both (is_on t.switches fs q) (allows (with_access q Write) everywhere) (allows (with_access q access) everywhere)
        ∙ ap (λ (b : Bool). is_on t.switches fs q && b) (there access (allows (with_access q Write) everywhere && allows (with_access q access) everywhere) alike)

    judged : (access : Access) → AsksAlike access → may_allow t.switches (asked_there q.fs q.caller q.path q.attr access) (bare g) ≡ allows (with_access q access) everywhere
    judged access alike = judged_alike t.switches (bare g) everywhere q.fs q.caller q.path q.attr stands agree asked.groups asked.path access alike

    pub says : (access : Access) → is_set_vxattr access ≡ false → list_all (λ a. allows (with_access q a) own) (together access) ≡ (is_on t.switches fs q && may_allow t.switches (put_to t (with_access q access)) g)
    says Read others = one Read Read (judged Read to_read)
    says Write others = one Write Write (judged Write to_write)
    says Snapshot others = one Snapshot Snapshot (judged Snapshot to_snapshot)
    says SetVxattr others = absurd (true≢false others)
    says Chmod others = one Chmod Write (judged Write to_write)
    says (Chown uid) others = two (Chown uid) (chown_alike t.switches (bare g) everywhere q.fs q.caller q.path q.attr stands agree asked.groups asked.path uid)
    says (Chgrp gid) others = two (Chgrp gid) (chgrp_alike t.switches (bare g) everywhere q.fs q.caller q.path q.attr stands agree asked.groups asked.path gid)

    attribute : (access : Access) → is_set_vxattr access ≡ true → access ≡ SetVxattr
    attribute Read is = absurd (false≢true is)
    attribute Write is = absurd (false≢true is)
    attribute Snapshot is = absurd (false≢true is)
    attribute SetVxattr is = refl
    attribute Chmod is = absurd (false≢true is)
    attribute (Chown uid) is = absurd (false≢true is)
    attribute (Chgrp gid) is = absurd (false≢true is)

    -- and of an attribute to an owner who reads, where the other is about attributes
    pub says_vxattr : is_set_vxattr q.access ≡ true → has_p_there g.flags ≡ true → allows (as_owner q) own ≡ (is_on t.switches fs q && may_allow t.switches (put_to t q) g)
    says_vxattr vxattr attributes =
        let alike = vxattr_alike t.switches (bare g) everywhere q.fs q.caller q.path q.attr stands agree asked.groups asked.path attributes in
        on_its_own (as_owner q)
        ∙ ap (λ (b : Bool). is_on t.switches fs q && b)
        (there SetVxattr (allows (as_owner q) everywhere) alike ∙ ap (λ (access : Access). may_allow t.switches (put_to t (with_access q access)) g) (sym (attribute q.access vxattr)))
