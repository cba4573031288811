-- The rules on the inode's owner, group and mode.
use Rattle.std.proofs.Common.{◌≡◌, ℕ, Bool, true, false, not, ◌||◌, ◌&&◌, ◌⊎◌, inl, inr, Option, Some, None, [], ◌∷◌, refl, sym, ap, ◌∙◌}
use Rattle.std.specs.Prelude.{◌==◌, is_some}
use Rattle.std.proofs.lemmas.Bool.{and_cases, and_from, and_left, and_parts, and_right, eq-eqb, eqb-true, false≢true, not-false, not_from_true, true≢false}
use Rattle.std.proofs.lemmas.List.Folds.{list_any-append}
use Rattle.capbits.specs.declared.caller.Caller.{Caller}
use Rattle.capbits.specs.Caller.{gids_of}
use Rattle.capspec.specs.declared.grant.Grant.{Grant}
use Rattle.capgrant.specs.declared.access.Access.{Access}
use Rattle.capgrant.specs.declared.access.Access.TheVariants.{Chgrp, Chmod, Chown, Read, SetVxattr, Snapshot, Write}
use Rattle.capgrant.specs.declared.class.Class.{Class}
use Rattle.capgrant.specs.declared.class.Class.TheVariants.{Group, Other, Owner}
use Rattle.capgrant.specs.Access.{changes_attr, is_read, new_group, new_owner}
use Rattle.capgrant.specs.Class.{has_bit, needed_bit, read_bit, write_bit}
use Rattle.capgrant.specs.Question.{Question, class_of, contains, is_owner, listed_gids}
use Rattle.capgrant.specs.Failing.{fails_mode_bits, fails_not_own_group, fails_not_owner, fails_uid, is_some_and}
use Rattle.capgrant.proofs.Listed.{contains_listed}
use Rattle.policy_analysis.specs.Asking.{another, with_group}
use Rattle.policy_analysis.proofs.Passing.{PassesAttr}

-- ---- a grant without a uid

pub no_uid : (q : Question) (h : Grant) → h.uid ≡ None → PassesAttr q h
unfolding fails_not_owner fails_not_own_group fails_mode_bits
no_uid q h none = record { not_owner = rw none; not_own_group = rw none; mode_bits = rw none }

pub no_uid_passes : (q : Question) (h : Grant) → h.uid ≡ None → fails_uid q h ≡ false
unfolding fails_uid
no_uid_passes q h none = rw none

pub uid_of : (q : Question) (g : Grant) (u : ℕ) → g.uid ≡ Some u → fails_uid q g ≡ false → u ≡ q.caller.uid
unfolding fails_uid
uid_of q g u some passes = eqb-true u q.caller.uid (not-false (u == q.caller.uid) (rw some at passes))

pub uid_passes : (q : Question) (g : Grant) (u : ℕ) → g.uid ≡ Some u → u ≡ q.caller.uid → fails_uid q g ≡ false
unfolding fails_uid
uid_passes q g u some same = rw some (not_from_true (u == q.caller.uid) (eq-eqb u q.caller.uid same))

pub same_uid : (q' q : Question) (h : Grant) → q'.caller.uid ≡ q.caller.uid → fails_uid q' h ≡ false → fails_uid q h ≡ false
unfolding fails_uid
same_uid q' q h same passes = ap (λ (n : ℕ). is_some_and (λ u. not (u == n)) h.uid) (sym same) ∙ passes

-- ---- the accesses on which the mode decides

abbrev pub is_by_mode : Access → Bool
is_by_mode Read = true
is_by_mode Write = true
is_by_mode SetVxattr = true
is_by_mode Snapshot = true
is_by_mode access = false

-- the bit that the class needs to read, or to write
abbrev pub bit_for : Bool → Class → ℕ
bit_for true class = read_bit class
bit_for false class = write_bit class

needed : (a : Access) (class : Class) → is_by_mode a ≡ true → needed_bit a class ≡ Some (bit_for (is_read a) class)
needed Read class by = refl
needed Write class by = refl
needed SetVxattr class by = refl
needed Snapshot class by = refl
needed Chmod class by = absurd (false≢true by)
needed (Chown uid) class by = absurd (false≢true by)
needed (Chgrp gid) class by = absurd (false≢true by)

by_mode_changes_none : (a : Access) → is_by_mode a ≡ true → changes_attr a ≡ false
by_mode_changes_none Read by = refl
by_mode_changes_none Write by = refl
by_mode_changes_none SetVxattr by = refl
by_mode_changes_none Snapshot by = refl
by_mode_changes_none Chmod by = absurd (false≢true by)
by_mode_changes_none (Chown uid) by = absurd (false≢true by)
by_mode_changes_none (Chgrp gid) by = absurd (false≢true by)

by_mode_no_group : (a : Access) → is_by_mode a ≡ true → new_group a ≡ None
by_mode_no_group Read by = refl
by_mode_no_group Write by = refl
by_mode_no_group SetVxattr by = refl
by_mode_no_group Snapshot by = refl
by_mode_no_group Chmod by = refl
by_mode_no_group (Chown uid) by = refl
by_mode_no_group (Chgrp gid) by = absurd (false≢true by)

pub else_changes : (a : Access) → is_by_mode a ≡ false → changes_attr a ≡ true
else_changes Read by = absurd (true≢false by)
else_changes Write by = absurd (true≢false by)
else_changes SetVxattr by = absurd (true≢false by)
else_changes Snapshot by = absurd (true≢false by)
else_changes Chmod by = refl
else_changes (Chown uid) by = refl
else_changes (Chgrp gid) by = refl

-- by mode, the rule on the mode is all
mode_alone : (q : Question) (h : Grant) → is_by_mode q.access ≡ true → fails_mode_bits q h ≡ false → PassesAttr q h
unfolding fails_not_owner fails_not_own_group
mode_alone q h by passes = record {
  not_owner = rw (by_mode_changes_none q.access by) (and_left (is_some h.uid && false) (not (is_owner q) || is_some_and (λ uid. not (uid == q.caller.uid)) (new_owner q.access)) (and_right (is_some h.uid) false refl));
  not_own_group = rw (by_mode_no_group q.access by) (and_right (is_some h.uid) false refl);
  mode_bits = passes;
}

-- what the rule says of a grant with a uid
pub mode_says : (q : Question) (h : Grant) → is_by_mode q.access ≡ true → fails_mode_bits q h ≡ (is_some h.uid && not (has_bit q.attr.mode (bit_for (is_read q.access) (class_of q h))))
unfolding fails_mode_bits
mode_says q h by = ap (λ (bit : Option ℕ). is_some h.uid && is_some_and (λ b. not (has_bit q.attr.mode b)) bit) (needed q.access (class_of q h) by)

pub has_mode : (q : Question) (g : Grant) (u : ℕ) → g.uid ≡ Some u → is_by_mode q.access ≡ true → fails_mode_bits q g ≡ false → has_bit q.attr.mode (bit_for (is_read q.access) (class_of q g)) ≡ true
has_mode q g u some by passes = not-false (has_bit q.attr.mode (bit_for (is_read q.access) (class_of q g))) (by_uid (is_some g.uid) (ap is_some some) (sym (mode_says q g by) ∙ passes))
  where
    by_uid : (b : Bool) → b ≡ true → (b && not (has_bit q.attr.mode (bit_for (is_read q.access) (class_of q g)))) ≡ false → not (has_bit q.attr.mode (bit_for (is_read q.access) (class_of q g))) ≡ false
    by_uid true is e = e
    by_uid false is e = absurd (false≢true is)

-- a grant that finds the caller in a class whose bit the mode has passes by mode
pub passes_by_mode : (q : Question) (h : Grant) (class : Class) → is_by_mode q.access ≡ true → class_of q h ≡ class → has_bit q.attr.mode (bit_for (is_read q.access) class) ≡ true → PassesAttr q h
passes_by_mode q h class by is has = mode_alone q h by
    (mode_says q h by ∙ and_right (is_some h.uid) (not (has_bit q.attr.mode (bit_for (is_read q.access) (class_of q h)))) (not_from_true (has_bit q.attr.mode (bit_for (is_read q.access) (class_of q h))) (ap (λ (c : Class). has_bit q.attr.mode (bit_for (is_read q.access) c)) is ∙ has)))

-- it has no uid, or the mode has the bit of the class
pub class_has : (q : Question) (h : Grant) → is_by_mode q.access ≡ true → fails_mode_bits q h ≡ false → (is_some h.uid ≡ false) ⊎ (has_bit q.attr.mode (bit_for (is_read q.access) (class_of q h)) ≡ true)
class_has q h by passes = by_case (and_cases (is_some h.uid) (not (has_bit q.attr.mode (bit_for (is_read q.access) (class_of q h)))) (sym (mode_says q h by) ∙ passes))
  where
    by_case : (is_some h.uid ≡ false) ⊎ (not (has_bit q.attr.mode (bit_for (is_read q.access) (class_of q h))) ≡ false) → (is_some h.uid ≡ false) ⊎ (has_bit q.attr.mode (bit_for (is_read q.access) (class_of q h)) ≡ true)
    by_case (inl none) = inl none
    by_case (inr has) = inr (not-false (has_bit q.attr.mode (bit_for (is_read q.access) (class_of q h))) has)

pub none_of_is_some : (o : Option ℕ) → is_some o ≡ false → o ≡ None
none_of_is_some None is = refl
none_of_is_some (Some n) is = absurd (true≢false is)

-- ---- the bits of the modes that are asked with

pub owner_has : (read : Bool) → has_bit 0o600 (bit_for read Owner) ≡ true
owner_has true = refl
owner_has false = refl

pub group_has : (read : Bool) → has_bit 0o060 (bit_for read Group) ≡ true
group_has true = refl
group_has false = refl

pub group_lacks : (read : Bool) → has_bit 0o060 (bit_for read Other) ≡ false
group_lacks true = refl
group_lacks false = refl

pub other_has : (read : Bool) → has_bit 0o006 (bit_for read Other) ≡ true
other_has true = refl
other_has false = refl

pub other_lacks : (read : Bool) → has_bit 0o006 (bit_for read Group) ≡ false
other_lacks true = refl
other_lacks false = refl

-- ---- classes

pub class_owner : (q : Question) (h : Grant) → is_owner q ≡ true → class_of q h ≡ Owner
class_owner q h is = rw is

pub class_group : (q : Question) (h : Grant) → is_owner q ≡ false → contains (listed_gids q.caller h) q.attr.gid ≡ true → class_of q h ≡ Group
class_group q h is listed = rw (is, listed)

pub class_other : (q : Question) (h : Grant) → is_owner q ≡ false → contains (listed_gids q.caller h) q.attr.gid ≡ false → class_of q h ≡ Other
class_other q h is listed = rw (is, listed)

pub is_another : (uid : ℕ) → (uid == another uid) ≡ false
is_another uid = by_case (uid == 0) refl
  where
    by_case : (b : Bool) → (uid == 0) ≡ b → (uid == another uid) ≡ false
    by_case true is = let zero : uid ≡ 0 = eqb-true uid 0 is in rw zero
    by_case false is = rw is is

-- ---- listed gids

pub listed_parts : (c : Caller) (h : Grant) (n : ℕ) → contains (listed_gids c h) n ≡ true → (contains h.gids n ≡ true) × (contains (gids_of c) n ≡ true)
listed_parts c h n listed = and_parts (contains h.gids n) (contains (gids_of c) n) (sym (contains_listed c h n) ∙ listed)

pub listed_from : (c : Caller) (h : Grant) (n : ℕ) → contains h.gids n ≡ true → contains (gids_of c) n ≡ true → contains (listed_gids c h) n ≡ true
listed_from c h n in' of = contains_listed c h n ∙ and_from (contains h.gids n) (contains (gids_of c) n) in' of

pub not_listed : (c : Caller) (h : Grant) (n : ℕ) → contains h.gids n ≡ false → contains (listed_gids c h) n ≡ false
not_listed c h n out = contains_listed c h n ∙ and_left (contains h.gids n) (contains (gids_of c) n) out

-- the gids of a caller in one group more
pub gids_with : (c : Caller) (m n : ℕ) → contains (gids_of (with_group c m)) n ≡ (contains (gids_of c) n || (m == n))
gids_with c m n = list_any-append (λ x. x == n) (gids_of c) (m ∷ []) ∙ ap (λ (b : Bool). contains (gids_of c) n || b) (or_false (m == n))
  where
    or_false : (b : Bool) → (b || false) ≡ b
    or_false true = refl
    or_false false = refl
