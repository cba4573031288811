-- What a grant allows where nothing is known of the inode.
use Rattle.std.proofs.Common.{◌≡◌, ℕ, ◌+◌, ◌<◌, suc, Bool, true, false, not, ◌&&◌, ◌||◌, ◌⊎◌, inl, inr, Option, Some, None, List, [], ◌∷◌, refl, sym, ap, ◌∙◌}
use Rattle.std.proofs.Common.{arith}
use Rattle.std.specs.Prelude.{◌==◌, ◌≢◌, is_some, is_none, if◌then◌else◌, All, IfSome}
use Rattle.std.proofs.lemmas.Bool.{and_parts, both_ways, eq-eqb, false_from_ne_true, false≢true, ne_eqb, not_from_true, or_from, or_parts, true≢false}
use Rattle.std.proofs.lemmas.List.Elements.{All-cons, All-nil}
use Rattle.capbits.specs.declared.caller.Caller.{Caller}
use Rattle.capspec.specs.declared.grant.Grant.{Grant}
use Rattle.capgrant.specs.declared.access.Access.{Access}
use Rattle.capgrant.specs.declared.access.Access.TheVariants.{Chgrp, Chmod, Chown, Read, SetVxattr, Snapshot, Write}
use Rattle.capgrant.specs.declared.access.Attr.{Attr}
use Rattle.capgrant.specs.declared.class.Class.{Class}
use Rattle.capgrant.specs.declared.class.Class.TheVariants.{Group, Other, Owner}
use Rattle.capgrant.specs.Access.{changes_attr, is_read, new_owner}
use Rattle.capgrant.specs.Class.{has_bit, needed_bit}
use Rattle.capgrant.specs.Question.{Question, class_of, contains, is_owner, listed_gids}
use Rattle.capgrant.specs.Failing.{fails_fsname, fails_gids, fails_mode_bits, fails_no_p, fails_no_s, fails_no_write, fails_not_own_group, fails_not_owner}
use Rattle.capgrant.specs.Failing.{fails_path, fails_root_squash, fails_uid, is_some_and}
use Rattle.capgrant.specs.Verdict.{allows}
use Rattle.policy_analysis.proofs.Passing.{Passes, PassesBase, allowed, passes_all}
use Rattle.policy_analysis.proofs.Attr.{bit_for, class_has, else_changes, is_by_mode, no_uid, none_of_is_some, uid_of}
use Rattle.policy_analysis.specs.Callers.{AllowsNone, Wanted, allows_one, asked, user_of}
use Rattle.policy_analysis.specs.Standing.{AllowsAnyway, NeverAllows, NotAnyway, allows_anyway, own_attr}
use Rattle.policy_analysis.proofs.StandsIn.{changed, same_user, where_some}
use Rattle.policy_analysis.proofs.Askers.{to_none, to_some}

-- the rules that look at no owner, group or mode
other_base : (w : Wanted) (attr attr' : Attr) (c : Caller) (g : Grant) → PassesBase (asked w attr c) g → PassesBase (asked w attr' c) g
unfolding fails_fsname fails_uid fails_gids fails_path fails_no_write fails_root_squash fails_no_p fails_no_s
other_base w attr attr' c g base = record { fsname = base.fsname; uid = base.uid; gids = base.gids; path = base.path; no_write = base.no_write; root_squash = base.root_squash; no_p = base.no_p; no_s = base.no_s }

-- ---- a grant without a uid

looks_at_none : (w : Wanted) (attr attr' : Attr) (c : Caller) (g : Grant) → g.uid ≡ None → allows (asked w attr c) g ≡ true → allows (asked w attr' c) g ≡ true
looks_at_none w attr attr' c g free e = allowed (asked w attr' c) g (other_base w attr attr' c g (passes_all (asked w attr c) g e).base) (no_uid (asked w attr' c) g free)

-- ---- the owner, with all mode bits

own_bits : (a : Access) (class : Class) → class ≡ Owner → is_some_and (λ bit. not (has_bit 0o777 bit)) (needed_bit a class) ≡ false
own_bits a class is = ap (λ (k : Class). is_some_and (λ bit. not (has_bit 0o777 bit)) (needed_bit a k)) is ∙ each a
  where
    each : (b : Access) → is_some_and (λ bit. not (has_bit 0o777 bit)) (needed_bit b Owner) ≡ false
    each Read = refl
    each Write = refl
    each SetVxattr = refl
    each Snapshot = refl
    each Chmod = refl
    each (Chown n) = refl
    each (Chgrp n) = refl

-- what a grant allows of some inode it allows of one of its user's
owned_too : (w : Wanted) (attr : Attr) (g : Grant) (c : Caller) → allows (asked w attr c) g ≡ true → allows (asked w (own_attr g) c) g ≡ true
unfolding fails_uid fails_not_owner fails_not_own_group fails_mode_bits
owned_too w attr g c e =
    let p : Passes (asked w attr c) g = passes_all (asked w attr c) g e in
    let owns : is_some g.uid ≡ true → (c.uid == user_of g) ≡ true = λ some. eq-eqb c.uid (user_of g) (sym (same_user g.uid c.uid some p.base.uid)) in
    allowed (asked w (own_attr g) c) g (other_base w attr (own_attr g) c g p.base) (record {
      not_owner = changed (is_some g.uid) (changes_attr w.access) _ _ (λ some passes. or_from (not (c.uid == user_of g)) (is_some_and (λ uid. not (uid == c.uid)) (new_owner w.access)) (not_from_true (c.uid == user_of g) (owns some)) (or_parts (not (c.uid == attr.uid)) (is_some_and (λ uid. not (uid == c.uid)) (new_owner w.access)) passes).1) p.attr.not_owner;
      not_own_group = p.attr.not_own_group;
      mode_bits = where_some (is_some g.uid) _ (λ some. own_bits w.access (class_of (asked w (own_attr g) c) g) (own_class some (owns some)));
    })
  where
    own_class : is_some g.uid ≡ true → (c.uid == user_of g) ≡ true → class_of (asked w (own_attr g) c) g ≡ Owner
    own_class some owns = ap (λ (b : Bool). if b then Owner else (if contains (listed_gids c g) 0 then Group else Other)) owns

pub never : (w : Wanted) (g : Grant) → allows_one w (own_attr g) g ≡ false → NeverAllows w g
never w g none attr c = by_test (allows (asked w attr c) g) refl
  where
    by_test : (b : Bool) → allows (asked w attr c) g ≡ b → b ≡ false
    by_test false is = refl
    by_test true is = absurd (both_ways (allows (asked w (own_attr g) c) g) (to_none w (own_attr g) g none c) (owned_too w attr g c is))

-- ---- an inode of another, without a mode bit

abbrev pub bare : ℕ → Attr
bare owner = record { uid = owner; gid = 0; mode = 0 }

-- only a grant without a uid allows a stranger anything
uidless : (q : Question) (h : Grant) → is_owner q ≡ false → q.attr.mode ≡ 0 → allows q h ≡ true → h.uid ≡ None
unfolding fails_not_owner
uidless q h apart none e = none_of_is_some h.uid (false_from_ne_true (is_some h.uid) (λ some. by_case some (is_by_mode q.access) refl))
  where
    p : Passes q h
    p = passes_all q h e

    lacks : is_some h.uid ≡ true → (is_some h.uid ≡ false) ⊎ (has_bit q.attr.mode (bit_for (is_read q.access) (class_of q h)) ≡ true) → ⊥
    lacks some (inl out) = both_ways (is_some h.uid) out some
    lacks some (inr has) = false≢true (ap (λ (mode : ℕ). has_bit mode (bit_for (is_read q.access) (class_of q h))) (sym none) ∙ has)

    owner : (some changes stays rest : Bool) → some ≡ true → changes ≡ true → (some && changes && (not stays || rest)) ≡ false → stays ≡ true
    owner true true true rest a b f = refl
    owner true true false rest a b f = absurd (true≢false f)
    owner true false stays rest a b f = absurd (false≢true b)
    owner false changes stays rest a b f = absurd (false≢true a)

    by_case : is_some h.uid ≡ true → (b : Bool) → is_by_mode q.access ≡ b → ⊥
    by_case some true by = lacks some (class_has q h by p.attr.mode_bits)
    by_case some false by = both_ways (is_owner q) apart (owner (is_some h.uid) (changes_attr q.access) (is_owner q) _ some (else_changes q.access by) p.attr.not_owner)

none_bare : (w : Wanted) (g : Grant) (u owner : ℕ) → g.uid ≡ Some u → u ≢ owner → AllowsNone w (bare owner) g
none_bare w g u owner is apart c = false_from_ne_true (allows (asked w (bare owner) c) g) (λ e.
    let same : u ≡ c.uid = uid_of (asked w (bare owner) c) g u is (passes_all (asked w (bare owner) c) g e).base.uid in
    let far : (c.uid == owner) ≡ false = ne_eqb c.uid owner (λ e2. apart (same ∙ e2)) in
    let free : g.uid ≡ None = uidless (asked w (bare owner) c) g far refl e in
    both_ways (is_some g.uid) (ap is_some free) (ap is_some is))

-- ---- whatever they are, or not

is_free : (uid : Option ℕ) → is_none uid ≡ true → uid ≡ None
is_free None e = refl
is_free (Some u) e = absurd (false≢true e)

pub anyway : (w : Wanted) (g : Grant) → allows_anyway w g ≡ true → AllowsAnyway w g
anyway w g e attr =
    let parts = and_parts (is_none g.uid) (allows_one w (own_attr g) g) e in
    let some = to_some w (own_attr g) g parts.1 in
    (some.0, some.1, looks_at_none w (own_attr g) attr some.0 g (is_free g.uid parts.0) some.2)

-- of a bare inode that no user of the grant owns
pub none_of_bare : (w : Wanted) (g : Grant) (owner : ℕ) → g.uid ≢ Some owner → allows_anyway w g ≡ false → AllowsNone w (bare owner) g
none_of_bare w g owner apart none = by_uid g.uid refl
  where
    by_uid : (uid : Option ℕ) → g.uid ≡ uid → AllowsNone w (bare owner) g
    by_uid None is = never w g (ap (λ (b : Bool). b && allows_one w (own_attr g) g) (sym (ap is_none is)) ∙ none) (bare owner)
    by_uid (Some u) is = none_bare w g u owner is (λ same. apart (is ∙ ap Some same))

pub not_anyway : (w : Wanted) (g : Grant) → allows_anyway w g ≡ false → NotAnyway w g
not_anyway w g none = by_uid g.uid refl
  where
    another : (u : ℕ) → Some u ≢ Some (suc u)
    another u same = absurd (let e : u ≡ suc u = one same in omega arith)
      where
        one : Some u ≡ Some (suc u) → u ≡ suc u
        one e = cc

    by_uid : (uid : Option ℕ) → g.uid ≡ uid → NotAnyway w g
    by_uid None is = (bare 0, none_of_bare w g 0 (λ same. absurd (let e : None ≡ Some 0 = sym is ∙ same in cc)) none)
    by_uid (Some u) is = (bare (suc u), none_of_bare w g (suc u) (λ same. another u (sym is ∙ same)) none)

-- ---- an owner whom no grant names

above : (owner more : ℕ) (grants : List Grant) → All (λ g. IfSome g.uid (λ u. u < owner)) grants → All (λ g. IfSome g.uid (λ u. u < owner + more)) grants
above owner more grants all k d less = by_uid _ (all k d less)
  where
    by_uid : (uid : Option ℕ) → IfSome uid (λ u. u < owner) → IfSome uid (λ u. u < owner + more)
    by_uid None e = tt
    by_uid (Some u) e = omega arith

some_owner : (grants : List Grant) → (owner : ℕ) × All (λ g. IfSome g.uid (λ u. u < owner)) grants
some_owner [] = (0, All-nil (λ g. IfSome g.uid (λ u. u < 0)))
some_owner (g ∷ grants) = by_uid g.uid refl (some_owner grants)
  where
    by_uid : (uid : Option ℕ) → g.uid ≡ uid → (owner : ℕ) × All (λ h. IfSome h.uid (λ u. u < owner)) grants → (owner : ℕ) × All (λ h. IfSome h.uid (λ u. u < owner)) (g ∷ grants)
    by_uid None is rest = (rest.0, All-cons (λ h. IfSome h.uid (λ u. u < rest.0)) g grants (rw is tt) rest.1)
    by_uid (Some u) is rest = (rest.0 + suc u, All-cons (λ h. IfSome h.uid (λ v. v < rest.0 + suc u)) g grants (rw is (omega arith)) (above rest.0 (suc u) grants rest.1))

-- so of some inode nobody is allowed it
pub nobody_somehow : (w : Wanted) (grants : List Grant) → All (λ g. allows_anyway w g ≡ false) grants → (attr : Attr) × All (AllowsNone w attr) grants
nobody_somehow w grants all = (bare (some_owner grants).0, λ k d less. none_of_bare w _ (some_owner grants).0 (apart _ ((some_owner grants).1 k d less)) (all k d less))
  where
    apart : (uid : Option ℕ) → IfSome uid (λ u. u < (some_owner grants).0) → uid ≢ Some (some_owner grants).0
    apart None less same = absurd (cc)
    apart (Some u) less same =
        let e : u ≡ (some_owner grants).0 = one same in
        absurd (omega arith)
      where
        one : Some u ≡ Some (some_owner grants).0 → u ≡ (some_owner grants).0
        one e = cc
