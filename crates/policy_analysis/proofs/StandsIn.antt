-- Whatever a grant allows some caller, it allows one of those who are asked for it.
use Rattle.std.proofs.Common.{◌≡◌, ℕ, Bool, true, false, not, cond, ◌&&◌, ◌||◌, ◌⊎◌, inl, inr, Option, Some, None, List, [], ◌∷◌, length, refl, sym, ap, ◌∙◌}
use Rattle.std.proofs.Common.{arith}
use Rattle.std.specs.Prelude.{◌==◌, unwrap_or, is_some, if◌then◌else◌}
use Rattle.std.proofs.lemmas.Bool.{and_from, and_left, and_parts, and_right, both_ways, eq-eqb, eqb-true, false≢true, not-false, not_from_true, or_left}
use Rattle.std.proofs.lemmas.Bool.{or_right}
use Rattle.std.proofs.lemmas.Bool.Decides.{nat_tests}
use Rattle.capbits.specs.declared.caller.Caller.{Caller}
use Rattle.capbits.specs.Caller.{gids_of}
use Rattle.capspec.specs.declared.grant.Grant.{Grant}
use Rattle.capgrant.specs.declared.access.Access.{Access}
use Rattle.capgrant.specs.declared.access.Access.TheVariants.{Chgrp, Chmod, Chown, Read, SetVxattr, Snapshot, Write}
use Rattle.capgrant.specs.declared.access.Attr.{Attr}
use Rattle.capgrant.specs.declared.class.Class.{Class}
use Rattle.capgrant.specs.declared.class.Class.TheVariants.{Group, Other, Owner}
use Rattle.capgrant.specs.Access.{changes_attr, is_read, new_group, new_owner}
use Rattle.capgrant.specs.Class.{has_bit, needed_bit}
use Rattle.capgrant.specs.Question.{class_of, contains, listed_gids}
use Rattle.capgrant.specs.Failing.{fails_fsname, fails_mode_bits, fails_no_p, fails_no_s, fails_no_write, fails_not_own_group, fails_not_owner, fails_path}
use Rattle.capgrant.specs.Failing.{fails_root_squash, fails_uid, is_some_and}
use Rattle.capgrant.specs.Verdict.{allows}
use Rattle.capgrant.proofs.Listed.{contains_listed}
use Rattle.policy_analysis.proofs.Passing.{Passes, allowed, passes_all}
use Rattle.policy_analysis.proofs.Rules.{gids_pass, gids_passed, is_listed}
use Rattle.policy_analysis.specs.Callers.{Wanted, asked, asker, beside, user_of}

-- ---- the first group

beside_is_not_root : (n : ℕ) → (beside n == 0) ≡ false
beside_is_not_root n = elim (n == 1) as (λ b. ((if b then 2 else 1) == 0) ≡ false) [ true ↦ refl | false ↦ refl ]

beside_is_another : (n : ℕ) → (beside n == n) ≡ false
beside_is_another n = by_test (n == 1) refl
  where
    by_test : (b : Bool) → (n == 1) ≡ b → ((if b then 2 else 1) == n) ≡ false
    by_test true is = grind (arith, nat_tests)
    by_test false is = grind (arith, nat_tests)

-- ---- the user

user_passes : (uid : Option ℕ) → is_some_and (λ u. not (u == unwrap_or uid 1)) uid ≡ false
user_passes None = refl
user_passes (Some u) = not_from_true (u == u) (eq-eqb u u refl)

pub same_user : (uid : Option ℕ) (n : ℕ) → is_some uid ≡ true → is_some_and (λ u. not (u == n)) uid ≡ false → unwrap_or uid 1 ≡ n
same_user None n some passes = absurd (false≢true some)
same_user (Some u) n some passes = eqb-true u n (not-false (u == n) passes)

not_root : (x a b : Bool) → (x && (a || b)) ≡ false → (x && (a || false)) ≡ false
not_root true true b e = e
not_root true false b e = refl
not_root false a b e = refl

root_stays : (x : Bool) (uid : Option ℕ) (n m k : ℕ) → is_some_and (λ u. not (u == n)) uid ≡ false → (x && ((n == 0) || (m == 0))) ≡ false → (k == 0) ≡ false → (x && ((unwrap_or uid 1 == 0) || (k == 0))) ≡ false
root_stays x None n m k passes squash above = rw above (and_right x false refl)
root_stays x (Some u) n m k passes squash above =
    let same : u ≡ n = same_user (Some u) n refl passes in
    rw above (not_root x (u == 0) (m == 0) (ap (λ (v : ℕ). x && ((v == 0) || (m == 0))) same ∙ squash))

-- ---- what is asked of a grant with a uid alone

pub where_some : (some x : Bool) → (some ≡ true → x ≡ false) → (some && x) ≡ false
where_some true x passes = passes refl
where_some false x passes = refl

pub of_some : (some x : Bool) → (some && x) ≡ false → some ≡ true → x ≡ false
of_some true x e some = e
of_some false x e some = absurd (false≢true some)

pub changed : (some changes x y : Bool) → (some ≡ true → x ≡ false → y ≡ false) → (some && changes && x) ≡ false → (some && changes && y) ≡ false
changed true true x y passes e = passes refl e
changed true false x y passes e = refl
changed false changes x y passes e = refl

-- ---- all rules

-- who passes the rules on groups, on the group that is given and on the mode passes all
allows_too : (w : Wanted) (attr : Attr) (g : Grant) (c : Caller) (groups : List ℕ)
    → ((length g.gids == 0) ≡ true) ⊎ ((length (listed_gids (asker attr g groups) g) == 0) ≡ false)
    → (is_some g.uid ≡ true → is_some_and (λ gid. not (contains (listed_gids (asker attr g groups) g) gid)) (new_group w.access) ≡ false)
    → (is_some g.uid ≡ true → is_some_and (λ bit. not (has_bit attr.mode bit)) (needed_bit w.access (class_of (asked w attr (asker attr g groups)) g)) ≡ false)
    → allows (asked w attr c) g ≡ true → allows (asked w attr (asker attr g groups)) g ≡ true
unfolding fails_fsname fails_uid fails_path fails_no_write fails_root_squash fails_no_p fails_no_s fails_not_owner fails_not_own_group fails_mode_bits
allows_too w attr g c groups listed group mode e =
    let p : Passes (asked w attr c) g = passes_all (asked w attr c) g e in
    allowed (asked w attr (asker attr g groups)) g (record {
      fsname = p.base.fsname;
      uid = user_passes g.uid;
      gids = gids_pass (asked w attr (asker attr g groups)) g listed;
      path = p.base.path;
      no_write = p.base.no_write;
      root_squash = root_stays (not (is_read w.access) && g.root_squash) g.uid c.uid c.gid (beside attr.gid) p.base.uid p.base.root_squash (beside_is_not_root attr.gid);
      no_p = p.base.no_p;
      no_s = p.base.no_s;
    }) (record {
      not_owner = changed (is_some g.uid) (changes_attr w.access) _ _ (λ some passes. ap (λ (u : ℕ). not (u == attr.uid) || is_some_and (λ uid. not (uid == u)) (new_owner w.access)) (same_user g.uid c.uid some p.base.uid) ∙ passes) p.attr.not_owner;
      not_own_group = where_some (is_some g.uid) _ group;
      mode_bits = where_some (is_some g.uid) _ mode;
    })

-- ---- the groups

-- the two are of the same class where both own the inode or neither does, and both are of its group by a listed gid or neither is
same_class : (uid other owner : ℕ) (listed listed' : Bool) → uid ≡ other → listed ≡ listed' → cond (uid == owner) Owner (cond listed Group Other) ≡ cond (other == owner) Owner (cond listed' Group Other)
same_class uid other owner listed listed' same alike =
    ap (λ (u : ℕ). cond (u == owner) Owner (cond listed Group Other)) same
    ∙ ap (λ (b : Bool). cond (other == owner) Owner (cond b Group Other)) alike

-- so the mode has the bit for both
mode_too : (w : Wanted) (attr : Attr) (g : Grant) (c : Caller) (groups : List ℕ) → contains (listed_gids (asker attr g groups) g) attr.gid ≡ contains (listed_gids c g) attr.gid → Passes (asked w attr c) g → is_some g.uid ≡ true
    → is_some_and (λ bit. not (has_bit attr.mode bit)) (needed_bit w.access (class_of (asked w attr (asker attr g groups)) g)) ≡ false
unfolding fails_uid fails_mode_bits
mode_too w attr g c groups alike p some =
    ap (λ (class : Class). is_some_and (λ bit. not (has_bit attr.mode bit)) (needed_bit w.access class)) (same_class (user_of g) c.uid attr.uid _ _ (same_user g.uid c.uid some p.base.uid) alike)
    ∙ of_some (is_some g.uid) _ p.attr.mode_bits some

no_gid : (gids : List ℕ) (n : ℕ) → (length gids == 0) ≡ true → contains gids n ≡ false
no_gid [] n none = refl
no_gid (x ∷ gids) n none = absurd (let e : length (x ∷ gids) ≡ 0 = eqb-true (length (x ∷ gids)) 0 none in omega (arith, e))

same_some_and : (o : Option ℕ) (f h : ℕ → Bool) → ((n : ℕ) → f n ≡ h n) → is_some_and f o ≡ is_some_and h o
same_some_and None f h same = refl
same_some_and (Some n) f h same = same n

-- where the grant lists no gid
pub stands_in : (w : Wanted) (attr : Attr) (g : Grant) (c : Caller) → (length g.gids == 0) ≡ true → allows (asked w attr c) g ≡ true → allows (asked w attr (asker attr g [])) g ≡ true
unfolding fails_not_own_group
stands_in w attr g c none e =
    let never : (who : Caller) (n : ℕ) → contains (listed_gids who g) n ≡ false = λ who n. contains_listed who g n ∙ and_left (contains g.gids n) (contains (gids_of who) n) (no_gid g.gids n none) in
    let p : Passes (asked w attr c) g = passes_all (asked w attr c) g e in
    allows_too w attr g c [] (inl none)
    (λ some. same_some_and (new_group w.access) (λ n. not (contains (listed_gids (asker attr g []) g) n)) (λ n. not (contains (listed_gids c g) n)) (λ n. ap not (never (asker attr g []) n ∙ sym (never c n))) ∙ of_some (is_some g.uid) _ p.attr.not_own_group some)
    (mode_too w attr g c [] (never (asker attr g []) attr.gid ∙ sym (never c attr.gid)) p) e

-- one listed group passes the rule on groups, and alone decides whether its user is of the inode's group
module _ (w : Wanted) (attr : Attr) (g : Grant) (n : ℕ) (listed : contains g.gids n ≡ true) where
  own_gid : contains (gids_of (asker attr g (n ∷ []))) n ≡ true
  own_gid = or_right (beside attr.gid == n) ((n == n) || false) (or_left (n == n) false (eq-eqb n n refl))

  in_listed : contains (listed_gids (asker attr g (n ∷ [])) g) n ≡ true
  in_listed = contains_listed (asker attr g (n ∷ [])) g n ∙ and_from (contains g.gids n) (contains (gids_of (asker attr g (n ∷ []))) n) listed own_gid

  alone : contains (listed_gids (asker attr g (n ∷ [])) g) attr.gid ≡ (n == attr.gid)
  alone =
      contains_listed (asker attr g (n ∷ [])) g attr.gid
      ∙ ap (λ (b : Bool). contains g.gids attr.gid && (b || ((n == attr.gid) || false))) (beside_is_another attr.gid)
      ∙ by_test (n == attr.gid) refl
    where
      by_test : (b : Bool) → (n == attr.gid) ≡ b → (contains g.gids attr.gid && (b || false)) ≡ b
      by_test true is = rw (← eqb-true n attr.gid is) (rw listed refl)
      by_test false is = and_right (contains g.gids attr.gid) false refl

  in_one : (c : Caller) → (is_some g.uid ≡ true → is_some_and (λ gid. not (contains (listed_gids (asker attr g (n ∷ [])) g) gid)) (new_group w.access) ≡ false)
      → (is_some g.uid ≡ true → is_some_and (λ bit. not (has_bit attr.mode bit)) (needed_bit w.access (class_of (asked w attr (asker attr g (n ∷ []))) g)) ≡ false)
      → allows (asked w attr c) g ≡ true → allows (asked w attr (asker attr g (n ∷ []))) g ≡ true
  in_one c group mode e = allows_too w attr g c (n ∷ []) (inr (is_listed (asker attr g (n ∷ [])) g n own_gid listed)) group mode e

-- to give the group away takes no mode bit
no_bit : (a : Access) (class : Class) (n : ℕ) → new_group a ≡ Some n → needed_bit a class ≡ None
no_bit Read class n is = absurd (cc)
no_bit Write class n is = absurd (cc)
no_bit SetVxattr class n is = absurd (cc)
no_bit Snapshot class n is = absurd (cc)
no_bit Chmod class n is = refl
no_bit (Chown m) class n is = refl
no_bit (Chgrp m) class n is = refl

-- where it lists some: one of them alone
pub stands_in_alone : (w : Wanted) (attr : Attr) (g : Grant) (c : Caller) → (length g.gids == 0) ≡ false → allows (asked w attr c) g ≡ true → (n : ℕ) × (contains g.gids n ≡ true) × (allows (asked w attr (asker attr g (n ∷ []))) g ≡ true)
unfolding fails_not_own_group
stands_in_alone w attr g c some e = by_group (new_group w.access) refl (is_some g.uid) refl
  where
    p : Passes (asked w attr c) g
    p = passes_all (asked w attr c) g e

    -- by the inode's group, where no group is given away or nothing depends on it
    by_class : ((n : ℕ) → is_some g.uid ≡ true → is_some_and (λ gid. not (contains (listed_gids (asker attr g (n ∷ [])) g) gid)) (new_group w.access) ≡ false)
        → (b : Bool) → contains (listed_gids c g) attr.gid ≡ b → (n : ℕ) × (contains g.gids n ≡ true) × (allows (asked w attr (asker attr g (n ∷ []))) g ≡ true)
    by_class group true is =
        let listed : contains g.gids attr.gid ≡ true = (and_parts (contains g.gids attr.gid) (contains (gids_of c) attr.gid) (sym (contains_listed c g attr.gid) ∙ is)).0 in
        (attr.gid, listed, in_one w attr g attr.gid listed c (group attr.gid) (mode_too w attr g c (attr.gid ∷ []) (alone w attr g attr.gid listed ∙ eq-eqb attr.gid attr.gid refl ∙ sym is) p) e)
    by_class group false is = by_gid (gids_passed (asked w attr c) g p.base.gids)
      where
        other : (n : ℕ) → contains (gids_of c) n ≡ true → contains g.gids n ≡ true → (b : Bool) → (n == attr.gid) ≡ b → b ≡ false
        other n own listed false same = refl
        other n own listed true same =
            let at : n ≡ attr.gid = eqb-true n attr.gid same in
            let both : contains (listed_gids c g) attr.gid ≡ true = contains_listed c g attr.gid ∙ and_from (contains g.gids attr.gid) (contains (gids_of c) attr.gid) (ap (contains g.gids) (sym at) ∙ listed) (ap (contains (gids_of c)) (sym at) ∙ own) in
            absurd (both_ways (contains (listed_gids c g) attr.gid) is both)

        by_gid : ((length g.gids == 0) ≡ true) ⊎ ((n : ℕ) × (contains (gids_of c) n ≡ true) × (contains g.gids n ≡ true)) → (n : ℕ) × (contains g.gids n ≡ true) × (allows (asked w attr (asker attr g (n ∷ []))) g ≡ true)
        by_gid (inl none) = absurd (both_ways (length g.gids == 0) some none)
        by_gid (inr one) =
            let not_there : (one.0 == attr.gid) ≡ false = other one.0 one.1 one.2 (one.0 == attr.gid) refl in
            (one.0, one.2, in_one w attr g one.0 one.2 c (group one.0) (mode_too w attr g c (one.0 ∷ []) (alone w attr g one.0 one.2 ∙ not_there ∙ sym is) p) e)

    by_group : (new : Option ℕ) → new_group w.access ≡ new → (b : Bool) → is_some g.uid ≡ b → (n : ℕ) × (contains g.gids n ≡ true) × (allows (asked w attr (asker attr g (n ∷ []))) g ≡ true)
    by_group None is b uid = by_class (λ n some. ap (is_some_and (λ gid. not (contains (listed_gids (asker attr g (n ∷ [])) g) gid))) is) (contains (listed_gids c g) attr.gid) refl
    by_group (Some m) is false uid = by_class (λ n some. absurd (both_ways (is_some g.uid) uid some)) (contains (listed_gids c g) attr.gid) refl
    by_group (Some m) is true uid =
        let own : contains (listed_gids c g) m ≡ true = not-false (contains (listed_gids c g) m) (sym (ap (is_some_and (λ gid. not (contains (listed_gids c g) gid))) is) ∙ of_some (is_some g.uid) _ p.attr.not_own_group uid) in
        let listed : contains g.gids m ≡ true = (and_parts (contains g.gids m) (contains (gids_of c) m) (sym (contains_listed c g m) ∙ own)).0 in (
          m,
          listed,
          in_one w attr g m listed c
              (λ some. ap (is_some_and (λ gid. not (contains (listed_gids (asker attr g (m ∷ [])) g) gid))) is ∙ not_from_true (contains (listed_gids (asker attr g (m ∷ [])) g) m) (in_listed w attr g m listed))
              (λ some. ap (is_some_and (λ bit. not (has_bit attr.mode bit))) (no_bit w.access (class_of (asked w attr (asker attr g (m ∷ []))) g) m is)) e,
        )
