-- Whoever covers all that an MDS is asked for, but changes of the mode and of the owner, covers these too: they go with writing.
use Rattle.std.proofs.Common.{◌≡◌, ℕ, Bool, true, false, not, ◌&&◌, ◌||◌, Option, Some, None, List, [], ◌∷◌, get_or, refl, sym, ap, ◌∙◌}
use Rattle.std.specs.Prelude.{All, is_some, ◌==◌}
use Rattle.std.specs.List.{list_all, list_any}
use Rattle.std.proofs.lemmas.Bool.{and_from, and_parts, true≢false}
use Rattle.std.proofs.lemmas.List.Folds.{list_any_at}
use Rattle.capspec.specs.declared.grant.Grant.{Grant}
use Rattle.capgrant.specs.declared.access.Access.{Access}
use Rattle.capgrant.specs.declared.access.Access.TheVariants.{Chgrp, Chmod, Chown, Read, SetVxattr, Snapshot, Write}
use Rattle.capgrant.specs.declared.access.Attr.{Attr}
use Rattle.capgrant.specs.declared.class.Class.{Class}
use Rattle.capgrant.specs.declared.class.Class.TheVariants.{Owner}
use Rattle.capgrant.specs.Access.{is_read, is_set_vxattr, is_snapshot}
use Rattle.capgrant.specs.Class.{has_bit}
use Rattle.capgrant.specs.Question.{Question, is_owner}
use Rattle.capgrant.specs.Failing.{fails_fsname, fails_gids, fails_path, fails_uid}
use Rattle.capgrant.specs.Verdict.{allows, granted}
use Rattle.policy_analysis.specs.declared.asking.Accesses.TheVariants.{OfMds}
use Rattle.policy_analysis.specs.Asking.{another, attr_of, is_wanted}
use Rattle.policy_analysis.specs.Comparing.{is_root}
use Rattle.policy_analysis.specs.Searching.{CoversAs}
use Rattle.policy_analysis.specs.StandIns.{together, with_access}
use Rattle.policy_analysis.proofs.Attr.{bit_for, class_owner, has_mode, is_another, no_uid, passes_by_mode}
use Rattle.policy_analysis.proofs.Cases.{mode_not_needed, no_group_passes, non_owner_refused, owner_needed, owner_passes}
use Rattle.policy_analysis.proofs.Lists.{found}
use Rattle.policy_analysis.proofs.Passing.{Passes, PassesBase, allowed, passes_all}
use Rattle.policy_analysis.proofs.StandsFor.{and_all}
use Rattle.policy_analysis.proofs.Rules.{same_no_p, same_no_s, same_no_write, same_root_squash}

-- what all grants of a list have: a question that one allows is granted
abbrev Grants : List Grant → Grant → Type 0
Grants grants g = (q : Question) → allows q g ≡ true → granted q grants ≡ true

each_grants : (grants : List Grant) → All (Grants grants) grants
each_grants grants = λ k d less q e. list_any_at (allows q) grants k d less e

-- one of a list
abbrev Allows : (Grant → Bool) → List Grant → Type 0
Allows p grants = list_any p grants ≡ true

-- the rules that look at neither owner nor mode say the same of two accesses that read, set attributes and make snapshots alike
pub base_for : (q : Question) (attr : Attr) (a b : Access) → is_read a ≡ is_read b → is_set_vxattr a ≡ is_set_vxattr b → is_snapshot a ≡ is_snapshot b → (h : Grant) → PassesBase (with_access q a) h → PassesBase (record q { attr = attr; access = b }) h
unfolding fails_fsname fails_uid fails_gids fails_path
base_for q attr a b read vxattr snapshot h p = record {
  fsname = p.fsname;
  uid = p.uid;
  gids = p.gids;
  path = p.path;
  no_write = same_no_write (record q { attr = attr; access = b }) (with_access q a) h (sym read) ∙ p.no_write;
  root_squash = same_root_squash (record q { attr = attr; access = b }) (with_access q a) h (sym read) refl ∙ p.root_squash;
  no_p = same_no_p (record q { attr = attr; access = b }) (with_access q a) h (sym vxattr) ∙ p.no_p;
  no_s = same_no_s (record q { attr = attr; access = b }) (with_access q a) h (sym snapshot) ∙ p.no_s;
}

-- an access that writes, and sets no attribute and makes no snapshot
record Writes (a : Access) : Type 0 where
  read : is_read a ≡ false
  vxattr : is_set_vxattr a ≡ false
  snapshot : is_snapshot a ≡ false

-- to write of a stranger's inode without a mode bit
abbrev stranger : Question → Question
stranger q = record q { attr = attr_of (another q.caller.uid) 0 0; access = Write }

module _ (old new : List Grant) (root : Bool) (covers : CoversAs OfMds old new root) where
  -- a grant without a uid is covered by one, for whatever writes
  by_no_user : (q : Question) (a : Access) → is_root q.caller ≡ root → Writes a → (g : Grant) → Grants new g → g.uid ≡ None → allows (with_access q Write) g ≡ true
      → Allows (λ h. allows (with_access q Write) h && (allows (with_access q a) h && true)) old
  by_no_user q a rooted writes g member none e =
      let p : Passes (with_access q Write) g = passes_all (with_access q Write) g e in
      let asked : allows (stranger q) g ≡ true = allowed (stranger q) g (base_for q (attr_of (another q.caller.uid) 0 0) Write Write refl refl refl g p.base) (no_uid (stranger q) g none) in
      let one = found (Both old) (allows (stranger q)) old each (covers (stranger q) refl rooted (member (stranger q) asked)) in
      one.1 one.2
    where
      Both : List Grant → Grant → Type 0
      Both grants h = allows (stranger q) h ≡ true → Allows (λ h. allows (with_access q Write) h && (allows (with_access q a) h && true)) grants

      of_one : (h : Grant) → allows (stranger q) h ≡ true → (allows (with_access q Write) h && (allows (with_access q a) h && true)) ≡ true
      of_one h allowing =
          let p : Passes (stranger q) h = passes_all (stranger q) h allowing in
          let unnamed : h.uid ≡ None = non_owner_refused (stranger q) h (is_another q.caller.uid) refl p.attr in
          let write : allows (with_access q Write) h ≡ true = allowed (with_access q Write) h (base_for (stranger q) q.attr Write Write refl refl refl h p.base) (no_uid (with_access q Write) h unnamed) in
          let other : allows (with_access q a) h ≡ true = allowed (with_access q a) h (base_for (stranger q) q.attr Write a (sym writes.read) (sym writes.vxattr) (sym writes.snapshot) h p.base) (no_uid (with_access q a) h unnamed) in
          and_from (allows (with_access q Write) h) (allows (with_access q a) h && true) write (and_from (allows (with_access q a) h) true other refl)

      each : All (Both old) old
      each = λ k d less allowing. list_any_at (λ h. allows (with_access q Write) h && (allows (with_access q a) h && true)) old k d less (of_one (get_or old k d) allowing)

  -- ---- to change the owner

  chown_too : (q : Question) (n : ℕ) → is_owner q ≡ true → (n == q.caller.uid) ≡ true → (h : Grant) → allows (with_access q Write) h ≡ true
      → (allows (with_access q Write) h && (allows (with_access q (Chown n)) h && true)) ≡ true
  chown_too q n is own h write =
      let p : Passes (with_access q Write) h = passes_all (with_access q Write) h write in
      let other : allows (with_access q (Chown n)) h ≡ true = allowed (with_access q (Chown n)) h (base_for q q.attr Write (Chown n) refl refl refl h p.base) (record {
        not_owner = owner_passes (with_access q (Chown n)) h is (ap not own);
        not_own_group = no_group_passes (with_access q (Chown n)) h refl;
        mode_bits = mode_not_needed (with_access q (Chown n)) h refl;
      }) in
      and_from (allows (with_access q Write) h) (allows (with_access q (Chown n)) h && true) write (and_from (allows (with_access q (Chown n)) h) true other refl)

  by_user_chown : (q : Question) (n : ℕ) (g : Grant) → is_root q.caller ≡ root → Grants new g → is_some g.uid ≡ true → allows (with_access q Write) g ≡ true → allows (with_access q (Chown n)) g ≡ true
      → Allows (λ h. allows (with_access q Write) h && (allows (with_access q (Chown n)) h && true)) old
  by_user_chown q n g rooted member some write chown =
      let p : Passes (with_access q (Chown n)) g = passes_all (with_access q (Chown n)) g chown in
      let owns = owner_needed (with_access q (Chown n)) g some refl p.attr.not_owner in
      let one = found (λ h. allows (with_access q Write) h ≡ true → Allows (λ h. allows (with_access q Write) h && (allows (with_access q (Chown n)) h && true)) old) (allows (with_access q Write)) old
      (λ k d less allowing. list_any_at (λ h. allows (with_access q Write) h && (allows (with_access q (Chown n)) h && true)) old k d less (chown_too q n owns.0 (to_itself owns.1) (get_or old k d) allowing))
      (covers (with_access q Write) refl rooted (member (with_access q Write) write)) in
      one.1 one.2
    where
      to_itself : not (n == q.caller.uid) ≡ false → (n == q.caller.uid) ≡ true
      to_itself e = not_false (n == q.caller.uid) e
        where
          not_false : (b : Bool) → not b ≡ false → b ≡ true
          not_false true is = refl
          not_false false is = absurd (true≢false is)

  -- ---- to change the group

  chgrp_too : (q : Question) (n : ℕ) → is_owner q ≡ true → has_bit q.attr.mode (bit_for false Owner) ≡ true → (h : Grant) → allows (with_access q (Chgrp n)) h ≡ true
      → (allows (with_access q Write) h && (allows (with_access q (Chgrp n)) h && true)) ≡ true
  chgrp_too q n is has h chgrp =
      let p : Passes (with_access q (Chgrp n)) h = passes_all (with_access q (Chgrp n)) h chgrp in
      let write : allows (with_access q Write) h ≡ true = allowed (with_access q Write) h (base_for q q.attr (Chgrp n) Write refl refl refl h p.base) (passes_by_mode (with_access q Write) h Owner refl (class_owner (with_access q Write) h is) has) in
      and_from (allows (with_access q Write) h) (allows (with_access q (Chgrp n)) h && true) write (and_from (allows (with_access q (Chgrp n)) h) true chgrp refl)

  by_user_chgrp : (q : Question) (n u : ℕ) (g : Grant) → is_root q.caller ≡ root → Grants new g → g.uid ≡ Some u → allows (with_access q Write) g ≡ true → allows (with_access q (Chgrp n)) g ≡ true
      → Allows (λ h. allows (with_access q Write) h && (allows (with_access q (Chgrp n)) h && true)) old
  by_user_chgrp q n u g rooted member some write chgrp =
      let p : Passes (with_access q (Chgrp n)) g = passes_all (with_access q (Chgrp n)) g chgrp in
      let w : Passes (with_access q Write) g = passes_all (with_access q Write) g write in
      let owns = owner_needed (with_access q (Chgrp n)) g (ap is_some some) refl p.attr.not_owner in
      let has : has_bit q.attr.mode (bit_for false Owner) ≡ true =
      ap (λ (class : Class). has_bit q.attr.mode (bit_for false class)) (sym (class_owner (with_access q Write) g owns.0)) ∙ has_mode (with_access q Write) g u some refl w.attr.mode_bits in
      let one = found (λ h. allows (with_access q (Chgrp n)) h ≡ true → Allows (λ h. allows (with_access q Write) h && (allows (with_access q (Chgrp n)) h && true)) old) (allows (with_access q (Chgrp n))) old
      (λ k d less allowing. list_any_at (λ h. allows (with_access q Write) h && (allows (with_access q (Chgrp n)) h && true)) old k d less (chgrp_too q n owns.0 has (get_or old k d) allowing))
      (covers (with_access q (Chgrp n)) refl rooted (member (with_access q (Chgrp n)) chgrp)) in
      one.1 one.2

  -- ---- each access

  one_alone : (p : Grant → Bool) (grants : List Grant) → list_any (λ h. p h && true) grants ≡ list_any p grants
  one_alone p [] = refl
  one_alone p (g ∷ grants) = λ i. and_all (p g) i || one_alone p grants i

  alone : (q : Question) (a : Access) → is_wanted OfMds a ≡ true → is_root q.caller ≡ root → Allows (λ h. allows (with_access q a) h && true) new → Allows (λ h. allows (with_access q a) h && true) old
  alone q a wanted rooted some = one_alone (allows (with_access q a)) old ∙ covers (with_access q a) wanted rooted (sym (one_alone (allows (with_access q a)) new) ∙ some)

  two_covered : (q : Question) (a : Access)
      → ((g : Grant) → Grants new g → allows (with_access q Write) g ≡ true → allows (with_access q a) g ≡ true → Allows (λ h. allows (with_access q Write) h && (allows (with_access q a) h && true)) old)
      → Allows (λ h. allows (with_access q Write) h && (allows (with_access q a) h && true)) new → Allows (λ h. allows (with_access q Write) h && (allows (with_access q a) h && true)) old
  two_covered q a each some =
      let one = found (Grants new) (λ h. allows (with_access q Write) h && (allows (with_access q a) h && true)) new (each_grants new) some in
      let parts = and_parts (allows (with_access q Write) one.0) (allows (with_access q a) one.0 && true) one.2 in
      each one.0 one.1 parts.0 (and_parts (allows (with_access q a) one.0) true parts.1).0

  pub covers_together : (q : Question) (a : Access) → is_set_vxattr a ≡ false → is_root q.caller ≡ root → Allows (λ h. list_all (λ x. allows (with_access q x) h) (together a)) new → Allows (λ h. list_all (λ x. allows (with_access q x) h) (together a)) old
  covers_together q Read others rooted some = alone q Read refl rooted some
  covers_together q Write others rooted some = alone q Write refl rooted some
  covers_together q Snapshot others rooted some = alone q Snapshot refl rooted some
  covers_together q SetVxattr others rooted some = absurd (true≢false others)
  covers_together q Chmod others rooted some = alone q Write refl rooted some
  covers_together q (Chown n) others rooted some = two_covered q (Chown n) (λ g member write chown. by_uid g.uid g refl member write chown) some
    where
      by_uid : (o : Option ℕ) → (g : Grant) → g.uid ≡ o → Grants new g → allows (with_access q Write) g ≡ true → allows (with_access q (Chown n)) g ≡ true → Allows (λ h. allows (with_access q Write) h && (allows (with_access q (Chown n)) h && true)) old
      by_uid None g none member write chown = by_no_user q (Chown n) rooted (record { read = refl; vxattr = refl; snapshot = refl }) g member none write
      by_uid (Some u) g some member write chown = by_user_chown q n g rooted member (ap is_some some) write chown
  covers_together q (Chgrp n) others rooted some = two_covered q (Chgrp n) (λ g member write chgrp. by_uid g.uid g refl member write chgrp) some
    where
      by_uid : (o : Option ℕ) → (g : Grant) → g.uid ≡ o → Grants new g → allows (with_access q Write) g ≡ true → allows (with_access q (Chgrp n)) g ≡ true → Allows (λ h. allows (with_access q Write) h && (allows (with_access q (Chgrp n)) h && true)) old
      by_uid None g none member write chgrp = by_no_user q (Chgrp n) rooted (record { read = refl; vxattr = refl; snapshot = refl }) g member none write
      by_uid (Some u) g some member write chgrp = by_user_chgrp q n u g rooted member some write chgrp
