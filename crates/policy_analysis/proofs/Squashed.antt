-- Where a grant denies something for root_squash alone and another allows it, the other lets root write to what root owns, at the
-- longer path of the two.
use Rattle.std.proofs.Common.{◌≡◌, ℕ, Bool, true, false, not, ◌&&◌, ◌⊎◌, inl, inr, Option, Some, None, List, [], ◌∷◌, ◌++◌, length, refl, sym, ap, ◌∙◌}
use Rattle.std.specs.Prelude.{◌==◌, unwrap_or}
use Rattle.std.specs.List.{starts_with}
use Rattle.std.specs.Str.{bytes_eq}
use Rattle.std.proofs.lemmas.Bool.{and_parts, both_ways, eq-eqb, eqb-true, not-false, not_from_true, or_left, or_parts, or_right}
use Rattle.std.proofs.lemmas.List.Folds.{list_any-append}
use Rattle.std.proofs.lemmas.Slice.Eq.{bytes_eq-Decides}
use Rattle.capbits.specs.declared.caller.Caller.{Caller}
use Rattle.capbits.specs.Caller.{gids_of}
use Rattle.capspec.specs.declared.grant.Grant.{Grant}
use Rattle.capgrant.specs.declared.access.Access.TheVariants.{Read}
use Rattle.capgrant.specs.declared.class.Class.TheVariants.{Owner}
use Rattle.capgrant.specs.Access.{is_read}
use Rattle.capgrant.specs.Question.{Question, contains, listed_gids, question}
use Rattle.capgrant.specs.Failing.{fails_fsname, fails_gids, fails_mode_bits, fails_no_p, fails_no_s, fails_no_write, fails_not_own_group, fails_not_owner}
use Rattle.capgrant.specs.Failing.{fails_path, fails_root_squash, fails_uid, is_some_and}
use Rattle.capgrant.specs.Verdict.{allows}
use Rattle.policy_analysis.specs.Asking.{caller_of}
use Rattle.policy_analysis.specs.Comparing.{is_root}
use Rattle.policy_analysis.specs.Linting.{AllowsNothing, AllowsReading, IsSquashed, has_dots, is_dots, unsquashed}
use Rattle.policy_analysis.specs.Squashing.{fs_of, longer, owned_by, root_of, root_writes, with_first, with_first_of}
use Rattle.policy_analysis.proofs.Passing.{Passes, PassesAttr, PassesBase, allowed, passes_all}
use Rattle.policy_analysis.proofs.Rules.{above, below, gids_pass, is_listed, path_itself, same_no_write, same_root_squash}
use Rattle.policy_analysis.proofs.Attr.{class_owner, gids_with, is_by_mode, owner_has, passes_by_mode}

-- ---- the file system

abbrev is_another : Option (List ℕ) → List ℕ → Bool
is_another name fs = is_some_and (λ n. not (bytes_eq n fs)) name

fs_first : (name other : Option (List ℕ)) (any : List ℕ) → is_another name (unwrap_or name (unwrap_or other any)) ≡ false
fs_first None other any = refl
fs_first (Some n) other any = not_from_true (bytes_eq n n) ((bytes_eq-Decides n n).1 refl)

fs_second : (name other : Option (List ℕ)) (any fs : List ℕ) → is_another name fs ≡ false → is_another other fs ≡ false → is_another other (unwrap_or name (unwrap_or other any)) ≡ false
fs_second name None any fs one two = refl
fs_second None (Some m) any fs one two = not_from_true (bytes_eq m m) ((bytes_eq-Decides m m).1 refl)
fs_second (Some n) (Some m) any fs one two =
    let n_is = (bytes_eq-Decides n fs).0 (not-false (bytes_eq n fs) one) in
    let m_is = (bytes_eq-Decides m fs).0 (not-false (bytes_eq m fs) two) in
    not_from_true (bytes_eq m n) ((bytes_eq-Decides m n).1 (m_is ∙ sym n_is))

-- ---- the user

abbrev is_another_user : Option ℕ → ℕ → Bool
is_another_user uid user = is_some_and (λ u. not (u == user)) uid

uid_first : (uid other : Option ℕ) → is_another_user uid (unwrap_or uid (unwrap_or other 0)) ≡ false
uid_first None other = refl
uid_first (Some u) other = not_from_true (u == u) (eq-eqb u u refl)

uid_second : (uid other : Option ℕ) (user : ℕ) → is_another_user uid user ≡ false → is_another_user other user ≡ false → is_another_user other (unwrap_or uid (unwrap_or other 0)) ≡ false
uid_second uid None user one two = refl
uid_second None (Some v) user one two = not_from_true (v == v) (eq-eqb v v refl)
uid_second (Some u) (Some v) user one two =
    let u_is = eqb-true u user (not-false (u == user) one) in
    let v_is = eqb-true v user (not-false (v == user) two) in
    not_from_true (v == u) (eq-eqb v u (v_is ∙ sym u_is))

-- ---- the groups

first_uid : (c : Caller) (gids : List ℕ) → (with_first_of c gids).uid ≡ c.uid
first_uid c [] = refl
first_uid c (gid ∷ gids) = refl

first_gid : (c : Caller) (gids : List ℕ) → (with_first_of c gids).gid ≡ c.gid
first_gid c [] = refl
first_gid c (gid ∷ gids) = refl

still_in : (c : Caller) (gids : List ℕ) (n : ℕ) → contains (gids_of c) n ≡ true → contains (gids_of (with_first_of c gids)) n ≡ true
still_in c [] n is = is
still_in c (gid ∷ gids) n is = gids_with c gid n ∙ or_left (contains (gids_of c) n) (gid == n) is

-- it lists none, or the caller is in one of them
abbrev IsInOne : Caller → List ℕ → Type 0
IsInOne c gids = ((length gids == 0) ≡ true) ⊎ ((n : ℕ) × (contains (gids_of c) n ≡ true) × (contains gids n ≡ true))

in_first : (c : Caller) (gids : List ℕ) → IsInOne (with_first_of c gids) gids
in_first c [] = inl refl
in_first c (gid ∷ gids) = inr (gid, gids_with c gid gid ∙ or_right (contains (gids_of c) gid) (gid == gid) (eq-eqb gid gid refl), or_left (gid == gid) (contains gids gid) (eq-eqb gid gid refl))

still_in_one : (c : Caller) (gids more : List ℕ) → IsInOne c gids → IsInOne (with_first_of c more) gids
still_in_one c gids more (inl none) = inl none
still_in_one c gids more (inr one) = inr (one.0, still_in c more one.0 one.1, one.2)

in_one_passes : (q : Question) (g : Grant) → IsInOne q.caller g.gids → fails_gids q g ≡ false
in_one_passes q g (inl none) = gids_pass q g (inl none)
in_one_passes q g (inr one) = gids_pass q g (inr (is_listed q.caller g one.0 one.1 one.2))

-- ---- the path

-- of two paths that both begin a third, one begins the other
one_begins : (a b r s : List (List ℕ)) → a ++ r ≡ b ++ s → ((t : List (List ℕ)) × (b ≡ a ++ t)) ⊎ ((t : List (List ℕ)) × (a ≡ b ++ t))
one_begins [] b r s same = inl (b, refl)
one_begins (x ∷ a) [] r s same = inr (x ∷ a, refl)
one_begins (x ∷ a) (y ∷ b) r s same = by_case (one_begins a b r s (tails same))
  where
    heads : x ∷ (a ++ r) ≡ y ∷ (b ++ s) → x ≡ y
    heads e = cc

    tails : x ∷ (a ++ r) ≡ y ∷ (b ++ s) → a ++ r ≡ b ++ s
    tails e = cc

    by_case : ((t : List (List ℕ)) × (b ≡ a ++ t)) ⊎ ((t : List (List ℕ)) × (a ≡ b ++ t)) → ((t : List (List ℕ)) × (y ∷ b ≡ x ∷ (a ++ t))) ⊎ ((t : List (List ℕ)) × (x ∷ a ≡ y ∷ (b ++ t)))
    by_case (inl one) = let head = heads same in inl (one.0, ap (λ (n : List ℕ). n ∷ b) (sym head) ∙ ap (λ (ns : List (List ℕ)). x ∷ ns) one.1)
    by_case (inr one) = let head = heads same in inr (one.0, ap (λ (n : List ℕ). n ∷ a) head ∙ ap (λ (ns : List (List ℕ)). y ∷ ns) one.1)

longer_first : (a b : List (List ℕ)) → starts_with bytes_eq (longer a b) a ≡ true
longer_first a b = by_case (starts_with bytes_eq b a) refl
  where
    by_case : (x : Bool) → starts_with bytes_eq b a ≡ x → starts_with bytes_eq (longer a b) a ≡ true
    by_case true is = rw is is
    by_case false is = rw is (path_itself a a refl)

longer_second : (p a b : List (List ℕ)) → starts_with bytes_eq p a ≡ true → starts_with bytes_eq p b ≡ true → starts_with bytes_eq (longer a b) b ≡ true
longer_second p a b one two = by_case (starts_with bytes_eq b a) refl
  where
    by_begin : starts_with bytes_eq b a ≡ false → ((t : List (List ℕ)) × (b ≡ a ++ t)) ⊎ ((t : List (List ℕ)) × (a ≡ b ++ t)) → starts_with bytes_eq a b ≡ true
    by_begin not (inl t) = absurd (both_ways (starts_with bytes_eq b a) not (above b a t.0 t.1))
    by_begin not (inr t) = above a b t.0 t.1

    by_case : (x : Bool) → starts_with bytes_eq b a ≡ x → starts_with bytes_eq (longer a b) b ≡ true
    by_case true is = rw is (path_itself b b refl)
    by_case false is =
        let r = below p a one in
        let s = below p b two in
        rw is (by_begin is (one_begins a b r.0 s.0 (sym r.1 ∙ s.1)))

begin_lies : (p a : List (List ℕ)) → starts_with bytes_eq p a ≡ true → has_dots p ≡ false → has_dots a ≡ false
begin_lies p a begins lies =
    let r = below p a begins in
    (or_parts (has_dots a) (has_dots r.0) (sym (list_any-append is_dots a r.0) ∙ ap has_dots (sym r.1) ∙ lies)).0

longer_lies : (p a b : List (List ℕ)) → starts_with bytes_eq p a ≡ true → starts_with bytes_eq p b ≡ true → has_dots p ≡ false → has_dots (longer a b) ≡ false
longer_lies p a b one two lies = by_case (starts_with bytes_eq b a) refl
  where
    by_case : (x : Bool) → starts_with bytes_eq b a ≡ x → has_dots (longer a b) ≡ false
    by_case true is = rw is (begin_lies p b two lies)
    by_case false is = rw is (begin_lies p a one lies)

pub begins_path : (q : Question) (g : Grant) → fails_path q g ≡ false → starts_with bytes_eq q.path g.path ≡ true
unfolding fails_path
begins_path q g passes = not-false (starts_with bytes_eq q.path g.path) passes

-- ---- the grant without root_squash fails by the same rules but that one

as_squashing : (q : Question) (g : Grant) → Passes q (unsquashed g) → fails_root_squash q g ≡ false → Passes q g
unfolding fails_fsname fails_uid fails_gids fails_path fails_no_write fails_no_p fails_no_s fails_not_owner fails_not_own_group fails_mode_bits listed_gids
as_squashing q g passes plain = record {
  base = record {
    fsname = passes.base.fsname;
    uid = passes.base.uid;
    gids = passes.base.gids;
    path = passes.base.path;
    no_write = passes.base.no_write;
    root_squash = plain;
    no_p = passes.base.no_p;
    no_s = passes.base.no_s;
  };
  attr = record {
    not_owner = passes.attr.not_owner;
    not_own_group = passes.attr.not_own_group;
    mode_bits = passes.attr.mode_bits;
  };
}

pub is_squashed : (q : Question) (g : Grant) → IsSquashed g q → fails_root_squash q g ≡ true
is_squashed q g is = by_case (fails_root_squash q g) refl
  where
    by_case : (b : Bool) → fails_root_squash q g ≡ b → fails_root_squash q g ≡ true
    by_case true e = e
    by_case false e =
        let passes = as_squashing q g (passes_all q (unsquashed g) is.but_for_it) e in
        absurd (both_ways (allows q g) is.denied (allowed q g passes.base passes.attr))

squash_parts : (q : Question) (g : Grant) → fails_root_squash q g ≡ true → (is_read q.access ≡ false) × (g.root_squash ≡ true) × (is_root q.caller ≡ true)
unfolding fails_root_squash
squash_parts q g fails =
    let one = and_parts (not (is_read q.access) && g.root_squash) (is_root q.caller) fails in
    let two = and_parts (not (is_read q.access)) g.root_squash one.0 in
    (not_true (is_read q.access) two.0, two.1, one.1)
  where
    not_true : (b : Bool) → not b ≡ true → b ≡ false
    not_true true e = absurd (cc)
    not_true false e = refl

-- ---- the question of the two grants

root_uid : (g h : Grant) → (root_of g h).uid ≡ unwrap_or g.uid (unwrap_or h.uid 0)
root_uid g h = first_uid (with_first (caller_of (unwrap_or g.uid (unwrap_or h.uid 0)) 0) g) h.gids ∙ first_uid (caller_of (unwrap_or g.uid (unwrap_or h.uid 0)) 0) g.gids

root_is_root : (g h : Grant) → is_root (root_of g h) ≡ true
root_is_root g h =
    let zero : (root_of g h).gid ≡ 0 = first_gid (with_first (caller_of (unwrap_or g.uid (unwrap_or h.uid 0)) 0) g) h.gids ∙ first_gid (caller_of (unwrap_or g.uid (unwrap_or h.uid 0)) 0) g.gids in
    or_right ((root_of g h).uid == 0) ((root_of g h).gid == 0) (eq-eqb (root_of g h).gid 0 zero)

in_first_grant : (g h : Grant) → IsInOne (root_of g h) g.gids
in_first_grant g h = still_in_one (with_first (caller_of (unwrap_or g.uid (unwrap_or h.uid 0)) 0) g) g.gids h.gids (in_first (caller_of (unwrap_or g.uid (unwrap_or h.uid 0)) 0) g.gids)

in_second_grant : (g h : Grant) → IsInOne (root_of g h) h.gids
in_second_grant g h = in_first (with_first (caller_of (unwrap_or g.uid (unwrap_or h.uid 0)) 0) g) h.gids

-- who owns the inode passes by its mode
owner_passes : (q : Question) (g : Grant) → is_by_mode q.access ≡ true → q.caller.uid ≡ q.attr.uid → q.attr.mode ≡ 0o600 → PassesAttr q g
owner_passes q g by owns mode = passes_by_mode q g Owner by (class_owner q g (eq-eqb q.caller.uid q.attr.uid owns)) (rw mode (owner_has (is_read q.access)))

module _ (g h : Grant) (any : List ℕ) (q : Question) (squash : IsSquashed g q) (others : allows q h ≡ true) where
  own : Passes q (unsquashed g)
  own = passes_all q (unsquashed g) squash.but_for_it

  other : Passes q h
  other = passes_all q h others

  fails : fails_root_squash q g ≡ true
  fails = is_squashed q g squash

  own_names : fails_fsname (root_writes g h any) (unsquashed g) ≡ false
  unfolding fails_fsname
  own_names = fs_first g.fsname h.fsname any

  other_names : fails_fsname (root_writes g h any) h ≡ false
  unfolding fails_fsname
  other_names = fs_second g.fsname h.fsname any q.fs own.base.fsname other.base.fsname

  own_user : fails_uid (root_writes g h any) (unsquashed g) ≡ false
  unfolding fails_uid
  own_user = ap (is_another_user g.uid) (root_uid g h) ∙ uid_first g.uid h.uid

  other_user : fails_uid (root_writes g h any) h ≡ false
  unfolding fails_uid
  other_user = ap (is_another_user h.uid) (root_uid g h) ∙ uid_second g.uid h.uid q.caller.uid own.base.uid other.base.uid

  own_path : fails_path (root_writes g h any) (unsquashed g) ≡ false
  unfolding fails_path
  own_path = not_from_true (starts_with bytes_eq (longer g.path h.path) g.path) (longer_first g.path h.path)

  other_path : fails_path (root_writes g h any) h ≡ false
  unfolding fails_path
  other_path = not_from_true (starts_with bytes_eq (longer g.path h.path) h.path) (longer_second q.path g.path h.path (begins_path q (unsquashed g) own.base.path) (begins_path q h other.base.path))

  reads : is_read (root_writes g h any).access ≡ is_read q.access
  reads = sym (squash_parts q g fails).0

  is_as_root : is_root (root_of g h) ≡ is_root q.caller
  is_as_root = root_is_root g h ∙ sym (squash_parts q g fails).2

  no_flags : (k : Grant) → (fails_no_p (root_writes g h any) k ≡ false) × (fails_no_s (root_writes g h any) k ≡ false)
  unfolding fails_no_p fails_no_s
  no_flags k = (refl, refl)

  not_squashed : fails_root_squash (root_writes g h any) (unsquashed g) ≡ false
  unfolding fails_root_squash
  not_squashed = refl

  own_allows : allows (root_writes g h any) (unsquashed g) ≡ true
  own_allows = allowed (root_writes g h any) (unsquashed g) (record {
    fsname = own_names;
    uid = own_user;
    gids = in_one_passes (root_writes g h any) (unsquashed g) (in_first_grant g h);
    path = own_path;
    no_write = same_no_write (root_writes g h any) q (unsquashed g) reads ∙ own.base.no_write;
    root_squash = not_squashed;
    no_p = (no_flags (unsquashed g)).0;
    no_s = (no_flags (unsquashed g)).1;
  }) (owner_passes (root_writes g h any) (unsquashed g) refl refl refl)

  pub asks_allowed : allows (root_writes g h any) h ≡ true
  asks_allowed = allowed (root_writes g h any) h (record {
    fsname = other_names;
    uid = other_user;
    gids = in_one_passes (root_writes g h any) h (in_second_grant g h);
    path = other_path;
    no_write = same_no_write (root_writes g h any) q h reads ∙ other.base.no_write;
    root_squash = same_root_squash (root_writes g h any) q h reads is_as_root ∙ other.base.root_squash;
    no_p = (no_flags h).0;
    no_s = (no_flags h).1;
  }) (owner_passes (root_writes g h any) h refl refl refl)

  asks_denied : allows (root_writes g h any) g ≡ false
  asks_denied = by_case (allows (root_writes g h any) g) refl
    where
      by_case : (b : Bool) → allows (root_writes g h any) g ≡ b → allows (root_writes g h any) g ≡ false
      by_case false is = is
      by_case true is = absurd (both_ways (fails_root_squash (root_writes g h any) g) (passes_all (root_writes g h any) g is).base.root_squash (same_root_squash (root_writes g h any) q g reads is_as_root ∙ fails))

  pub asks_squashed : IsSquashed g (root_writes g h any)
  asks_squashed = record {
    lies = longer_lies q.path g.path h.path (begins_path q (unsquashed g) own.base.path) (begins_path q h other.base.path) squash.lies;
    denied = asks_denied;
    but_for_it = own_allows;
  }

-- ---- a grant whose path no inode has, and any other

pub nothing_there : (g : Grant) → has_dots g.path ≡ true → AllowsNothing g
nothing_there g dots q lies = by_case (allows q g) refl
  where
    by_case : (b : Bool) → allows q g ≡ b → allows q g ≡ false
    by_case false is = is
    by_case true is = absurd (both_ways (has_dots g.path) (begin_lies q.path g.path (begins_path q g (passes_all q g is).base.path) lies) dots)

reader : Grant → Question
reader g = question (fs_of g g []) (root_of g g) g.path (owned_by (root_of g g).uid) Read

reader_base : (g : Grant) → PassesBase (reader g) g
unfolding reader fails_fsname fails_uid fails_path fails_no_write fails_root_squash fails_no_p fails_no_s
reader_base g = record {
  fsname = fs_first g.fsname g.fsname [];
  uid = ap (is_another_user g.uid) (root_uid g g) ∙ uid_first g.uid g.uid;
  gids = in_one_passes (question (fs_of g g []) (root_of g g) g.path (owned_by (root_of g g).uid) Read) g (in_first_grant g g);
  path = not_from_true (starts_with bytes_eq g.path g.path) (path_itself g.path g.path refl);
  no_write = refl;
  root_squash = refl;
  no_p = refl;
  no_s = refl;
}

pub somebody_reads : (g : Grant) → has_dots g.path ≡ false → AllowsReading g
unfolding reader
somebody_reads g lies = (reader g, lies, refl, allowed (reader g) g (reader_base g) (owner_passes (reader g) g refl refl refl))
