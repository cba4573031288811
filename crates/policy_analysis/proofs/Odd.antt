-- What grants that are odd allow, and to whom.
use Rattle.std.proofs.Common.{◌≡◌, ℕ, ◌<◌, ◌≤◌, Bool, true, false, not, ◌||◌, ◌&&◌, cond, Option, Some, None, List, [], ◌∷◌, ◌++◌, length, take, drop, get_or, refl, sym, ap, ◌∙◌, arith}
use Rattle.std.specs.Prelude.{All, IsTrue, bytes_eq, find, is_none, is_some, nat_le, nat_lt, ◌==◌}
use Rattle.std.specs.List.{list_any}
use Rattle.std.proofs.lemmas.Bool.{and_parts, and_right, eqb-true, false≢true, leb-true, le-ltb, ne_eqb, not-true, or_left, or_parts}
use Rattle.std.proofs.lemmas.List.{take-append-drop}
use Rattle.std.proofs.lemmas.List.Elements.{All-head, All-tail}
use Rattle.std.proofs.lemmas.List.Folds.{list_any_at}
use Rattle.std.proofs.lemmas.Slice.Eq.{bytes_eq-Decides}
use Rattle.capbits.specs.declared.caller.Caller.{Caller}
use Rattle.capspec.specs.Paths.{has_double_slash, is_name, slashed}
use Rattle.capspec.specs.Words.{rest_while}
use Rattle.capgrant.specs.Failing.{is_some_and}
use Rattle.release_grants.specs.declared.grant.Grant.{Grant}
use Rattle.release_grants.specs.declared.switches.Switches.{Switches}
use Rattle.release_rules.specs.declared.rule.Rule.{Rule}
use Rattle.release_rules.specs.declared.rule.Rule.TheVariants as rule
use Rattle.release_rules.specs.Failing.{fails, fails_fsname, fails_gids, fails_mode_bits, fails_network, fails_no_f, fails_no_p, fails_no_s, fails_no_write}
use Rattle.release_rules.specs.Failing.{fails_not_own_group, fails_not_owner, fails_path, fails_root_squash, fails_uid, first_failing, is_user, is_zero, user_of}
use Rattle.release_grants.specs.Networks.{Address, Network, by_network, in_network, is_no, network_in}
use Rattle.release_grants.specs.Paths.{directory_of, is_slash, lies_in, path_text}
use Rattle.release_rules.specs.Question.{Question}
use Rattle.release_rules.specs.Rules.{all_rules}
use Rattle.release_rules.specs.Verdicts.{is_for_everything, lets_mount, may_allow}
use Rattle.policy_analysis.specs.Oddities.{commands_mds, for_all, has_gids_alone, has_large_uid, has_no_network, has_two_slashes, has_zero_uid}

-- ---- for every user

-- two grants that fail by the same rules fail by the same first
pub same_first : (s : Switches) (q t : Question) (g h : Grant) → ((r : Rule) → fails r s q g ≡ fails r s t h) → first_failing s q g ≡ first_failing s t h
unfolding first_failing
same_first s q t g h same = in_rules all_rules
  where
    in_rules : (rs : List Rule) → find (λ r. fails r s q g) rs ≡ find (λ r. fails r s t h) rs
    in_rules [] = refl
    in_rules (r ∷ rs) = λ i. cond (same r i) (Some r) (in_rules rs i)

for_nobody : (zero : Bool) (uid : Option ℕ) → uid ≡ None → cond (zero && false) None uid ≡ None
for_nobody true uid none = none
for_nobody false uid none = none

no_user : (s : Switches) (g : Grant) → user_of s (for_all g) ≡ None
unfolding user_of
no_user s g = for_nobody s.zero_is_no_uid None refl

as_for_all : (s : Switches) (q : Question) (g : Grant) → user_of s g ≡ None → (r : Rule) → fails r s q g ≡ fails r s q (for_all g)
unfolding fails_fsname fails_uid fails_gids fails_path fails_no_write fails_root_squash fails_no_p fails_no_s fails_not_owner fails_not_own_group fails_mode_bits fails_no_f fails_network
as_for_all s q g none rule.FsName = refl
as_for_all s q g none rule.Uid = rw (none, no_user s g) refl
as_for_all s q g none rule.Gids = rw (none, no_user s g) refl
as_for_all s q g none rule.Path = refl
as_for_all s q g none rule.NoWrite = refl
as_for_all s q g none rule.RootSquash = refl
as_for_all s q g none rule.NoP = refl
as_for_all s q g none rule.NoS = refl
as_for_all s q g none rule.NotOwner = rw (none, no_user s g) refl
as_for_all s q g none rule.NotOwnGroup = rw (none, no_user s g) refl
as_for_all s q g none rule.ModeBits = rw (none, no_user s g) refl
as_for_all s q g none rule.NoF = refl
as_for_all s q g none rule.Network = refl

no_user_by_zero : (s : Switches) (g : Grant) → has_zero_uid s g ≡ true → user_of s g ≡ None
unfolding user_of
no_user_by_zero s g is = rw is refl

pub zero_uid : (s : Switches) (q : Question) (g : Grant) → has_zero_uid s g ≡ true → first_failing s q g ≡ first_failing s q (for_all g)
zero_uid s q g is = same_first s q q g (for_all g) (as_for_all s q g (no_user_by_zero s g is))

no_uid : (zero : Bool) (uid : Option ℕ) (more : Bool) → (is_none uid && more) ≡ true → cond (zero && is_some_and is_zero uid) None uid ≡ None
no_uid zero None more is = for_nobody zero None refl
no_uid zero (Some uid) more is = absurd (false≢true is)

no_user_alone : (s : Switches) (g : Grant) → has_gids_alone g ≡ true → user_of s g ≡ None
unfolding user_of
no_user_alone s g is = no_uid s.zero_is_no_uid g.uid (not (length g.gids == 0)) is

pub gids_alone : (s : Switches) (q : Question) (g : Grant) → has_gids_alone g ≡ true → first_failing s q g ≡ first_failing s q (for_all g)
gids_alone s q g is = same_first s q q g (for_all g) (as_for_all s q g (no_user_alone s g is))

as_anybody : (s : Switches) (q : Question) (g : Grant) (other : Caller) → g.root_squash ≡ false → (r : Rule) → fails r s q (for_all g) ≡ fails r s (record q { caller = other }) (for_all g)
unfolding fails_fsname fails_uid fails_gids fails_path fails_no_write fails_root_squash fails_no_p fails_no_s fails_not_owner fails_not_own_group fails_mode_bits fails_no_f fails_network
as_anybody s q g other none rule.FsName = refl
as_anybody s q g other none rule.Uid = rw (no_user s g) refl
as_anybody s q g other none rule.Gids = rw (no_user s g) refl
as_anybody s q g other none rule.Path = refl
as_anybody s q g other none rule.NoWrite = refl
as_anybody s q g other none rule.RootSquash = rw none refl
as_anybody s q g other none rule.NoP = refl
as_anybody s q g other none rule.NoS = refl
as_anybody s q g other none rule.NotOwner = rw (no_user s g) refl
as_anybody s q g other none rule.NotOwnGroup = rw (no_user s g) refl
as_anybody s q g other none rule.ModeBits = rw (no_user s g) refl
as_anybody s q g other none rule.NoF = refl
as_anybody s q g other none rule.Network = refl

pub anybody : (s : Switches) (q : Question) (g : Grant) (other : Caller) → g.root_squash ≡ false → first_failing s q (for_all g) ≡ first_failing s (record q { caller = other }) (for_all g)
anybody s q g other none = same_first s q (record q { caller = other }) (for_all g) (for_all g) (as_anybody s q g other none)

-- ---- for nobody, and for nothing

one_is_found : (p : Rule → Bool) (rs : List Rule) → list_any p rs ≡ true → is_none (find p rs) ≡ false
one_is_found p [] any = absurd (false≢true any)
one_is_found p (r ∷ rs) any = by_case (p r) refl (one_is_found p rs)
  where
    by_case : (b : Bool) → p r ≡ b → (list_any p rs ≡ true → is_none (find p rs) ≡ false) → is_none (cond (p r) (Some r) (find p rs)) ≡ false
    by_case true is later = rw is refl
    by_case false is later = rw is (later (rw is at any))

-- one rule is enough
pub failing : (s : Switches) (q : Question) (g : Grant) (i : ℕ) → i < 13 → fails (get_or all_rules i rule.FsName) s q g ≡ true → may_allow s q g ≡ false
unfolding first_failing
failing s q g i within is = one_is_found (λ r. fails r s q g) all_rules (list_any_at (λ r. fails r s q g) all_rules i rule.FsName within is)

in_none : (network : Option (List ℕ)) (address : Option Address) → is_some_and (λ text. is_none (network_in text)) network ≡ true → is_no (in_network network address) ≡ true
in_none None address is = absurd (false≢true is)
in_none (Some text) address is = by_network_in (network_in text) is
  where
    by_network_in : (network : Option Network) → is_none network ≡ true → is_no (by_network network address) ≡ true
    by_network_in None none = refl
    by_network_in (Some network) none = absurd (false≢true none)

fails_by_network : (q : Question) (g : Grant) → has_no_network g ≡ true → fails_network q g ≡ true
unfolding fails_network
fails_by_network q g is = in_none g.network q.address is

-- a client that is not in its network
pub fails_in_network : (s : Switches) (q : Question) (g : Grant) → is_no (in_network g.network q.address) ≡ true → may_allow s q g ≡ false
unfolding fails_network
fails_in_network s q g is = failing s q g 12 (omega arith) is

pub no_network : (s : Switches) (q : Question) (g : Grant) → has_no_network g ≡ true → may_allow s q g ≡ false
no_network s q g is = failing s q g 12 (omega arith) (fails_by_network q g is)

-- a caller with such a uid is none that a grant names
no_user_at : (caller uid : ℕ) → 2147483648 ≤ uid → not (is_user caller uid) ≡ true
no_user_at caller uid large = by_case (caller == uid) refl
  where
    by_case : (b : Bool) → (caller == uid) ≡ b → not (is_user caller uid) ≡ true
    by_case true is =
        let same = eqb-true caller uid is in
        rw (is, le-ltb caller 2147483648 (omega (arith, large, same))) refl
    by_case false is = rw is refl

by_large : (zero : Bool) (uid : Option ℕ) (caller : ℕ) → is_some_and (λ n. nat_le 2147483648 n) uid ≡ true → is_some_and (λ n. not (is_user caller n)) (cond (zero && is_some_and is_zero uid) None uid) ≡ true
by_large zero None caller is = absurd (false≢true is)
by_large zero (Some uid) caller is =
    let large = leb-true 2147483648 uid is in
    rw (and_right zero (uid == 0) (ne_eqb uid 0 (λ e. omega (arith, large, e)))) (no_user_at caller uid large)

fails_by_uid : (s : Switches) (q : Question) (g : Grant) → has_large_uid g ≡ true → fails_uid s q g ≡ true
unfolding fails_uid user_of
fails_by_uid s q g is = by_large s.zero_is_no_uid g.uid q.caller.uid is

pub large_uid : (s : Switches) (q : Question) (g : Grant) → has_large_uid g ≡ true → may_allow s q g ≡ false
large_uid s q g is = failing s q g 1 (omega arith) (fails_by_uid s q g is)

-- ---- slashes side by side

behind_one : (b : ℕ) (bs : List ℕ) → has_double_slash (b ∷ bs) ≡ false → has_double_slash bs ≡ false
behind_one b [] none = refl
behind_one b (c ∷ bs) none = (or_parts (is_slash b && is_slash c) (has_double_slash (c ∷ bs)) none).1

in_rest : (bs : List ℕ) → has_double_slash bs ≡ false → has_double_slash (rest_while is_slash bs) ≡ false
in_rest [] none = refl
in_rest (b ∷ bs) none = by_case (is_slash b) refl (in_rest bs (behind_one b bs none))
  where
    by_case : (t : Bool) → is_slash b ≡ t → has_double_slash (rest_while is_slash bs) ≡ false → has_double_slash (cond (is_slash b) (rest_while is_slash bs) (b ∷ bs)) ≡ false
    by_case true is later = rw is later
    by_case false is later = rw is none

in_front : (d r : List ℕ) → has_double_slash d ≡ true → has_double_slash (d ++ r) ≡ true
in_front [] r is = absurd (false≢true is)
in_front (b ∷ []) r is = absurd (false≢true is)
in_front (b ∷ c ∷ d) r is = by_case (is_slash b && is_slash c) refl (in_front (c ∷ d) r)
  where
    by_case : (t : Bool) → (is_slash b && is_slash c) ≡ t → (has_double_slash (c ∷ d) ≡ true → has_double_slash ((c ∷ d) ++ r) ≡ true) → ((is_slash b && is_slash c) || has_double_slash ((c ∷ d) ++ r)) ≡ true
    by_case true first later = rw first refl
    by_case false first later = rw first (later (rw first at is))

-- behind a byte that is no slash nothing begins
behind_other : (b : ℕ) (bs s : List ℕ) → is_slash b ≡ false → list_any is_slash bs ≡ false → has_double_slash s ≡ false → has_double_slash (b ∷ (bs ++ s)) ≡ false
behind_other b [] [] other none rest = refl
behind_other b [] (c ∷ s) other none rest = rw other rest
behind_other b (c ∷ bs) s other none rest = let parts = or_parts (is_slash c) (list_any is_slash bs) none in rw other (behind_other c bs s parts.0 parts.1 rest)

one_name : (name s : List ℕ) → IsTrue (is_name name) → has_double_slash s ≡ false → has_double_slash (47 ∷ (name ++ s)) ≡ false
one_name [] s is rest = absurd (false≢true is)
one_name (b ∷ bs) s is rest =
    let none = not-true (list_any is_slash (b ∷ bs)) (and_parts (nat_lt 0 (length (b ∷ bs))) (not (list_any is_slash (b ∷ bs))) is).1 in
    let parts = or_parts (is_slash b) (list_any is_slash bs) none in
    rw parts.0 (behind_other b bs s parts.0 parts.1 rest)

in_names : (names : List (List ℕ)) → All (λ name. IsTrue (is_name name)) names → has_double_slash (slashed names) ≡ false
in_names [] all = refl
in_names (name ∷ names) all =
    one_name name (slashed names) (All-head (λ n. IsTrue (is_name n)) name names all) (in_names names (All-tail (λ n. IsTrue (is_name n)) name names all))

nothing_lies_in : (d t : List ℕ) → has_double_slash d ≡ true → has_double_slash t ≡ false → lies_in d t ≡ false
nothing_lies_in [] t two none = absurd (false≢true two)
nothing_lies_in (b ∷ d) t two none = by_case (bytes_eq (take (length (b ∷ d)) t) (b ∷ d)) refl
  where
    by_case : (e : Bool) → bytes_eq (take (length (b ∷ d)) t) (b ∷ d) ≡ e → lies_in (b ∷ d) t ≡ false
    by_case true is =
        let front = (bytes_eq-Decides (take (length (b ∷ d)) t) (b ∷ d)).0 is in
        let whole : t ≡ (b ∷ d) ++ drop (length (b ∷ d)) t = sym (take-append-drop (length (b ∷ d)) t) ∙ ap (λ (f : List ℕ). f ++ drop (length (b ∷ d)) t) front in
        absurd (false≢true (sym none ∙ ap has_double_slash whole ∙ in_front (b ∷ d) (drop (length (b ∷ d)) t) two))
    by_case false is = rw (ne_eqb (length (b ∷ d)) 0 (λ e. omega (arith, e)), is) refl

by_path : (s : Switches) (path : Option (List ℕ)) (names : List (List ℕ)) → is_some_and (λ p. has_double_slash (directory_of s p)) path ≡ true → All (λ name. IsTrue (is_name name)) names
    → is_some_and (λ p. not (lies_in (directory_of s p) (path_text names))) path ≡ true
by_path s None names is all = absurd (false≢true is)
by_path s (Some p) names is all = ap not (nothing_lies_in (directory_of s p) (path_text names) is (in_rest (slashed names) (in_names names all)))

fails_by_path : (s : Switches) (q : Question) (g : Grant) → has_two_slashes s g ≡ true → All (λ name. IsTrue (is_name name)) q.path → fails_path s q g ≡ true
unfolding fails_path
fails_by_path s q g is all = by_path s g.path q.path is all

pub two_slashes : (s : Switches) (q : Question) (g : Grant) → has_two_slashes s g ≡ true → All (λ name. IsTrue (is_name name)) q.path → may_allow s q g ≡ false
two_slashes s q g is all = failing s q g 3 (omega arith) (fails_by_path s q g is all)

-- ---- everything

pub mounts_each : (s : Switches) (g : Grant) (fs : List ℕ) → commands_mds s g ≡ true → lets_mount s fs g ≡ true
unfolding lets_mount
mounts_each s g fs is = or_left (is_for_everything s g) _ (and_parts (is_some g.fsname) (is_for_everything s g) is).1
