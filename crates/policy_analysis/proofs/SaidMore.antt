-- What is found here is more there, and where nothing is found there is none.
use Rattle.std.proofs.Common.{◌≡◌, ℕ, Bool, true, false, not, ◌&&◌, ◌||◌, Option, Some, None, List, refl, sym, ap, ◌∙◌}
use Rattle.std.specs.Prelude.{Err, IfOk, IfSome, MatchOption, Ok, Result, is_some, if◌then◌else◌, ◌==◌}
use Rattle.std.specs.List.{list_any}
use Rattle.std.specs.declared.alloc.AllocError.{AllocError}
use Rattle.std.proofs.lemmas.Bool.{both_ways, false≢true, or_left}
use Rattle.capbits.specs.declared.caller.Caller.{Caller}
use Rattle.capspec.specs.declared.grant.Grant.{Grant}
use Rattle.capgrant.specs.declared.access.Access.{Access}
use Rattle.capgrant.specs.declared.access.Access.TheVariants.{Chgrp, Chmod, Chown, Read, SetVxattr, Snapshot, Write}
use Rattle.capgrant.specs.declared.class.Class.TheVariants.{Owner}
use Rattle.capgrant.specs.Access.{is_set_vxattr}
use Rattle.capgrant.specs.Failing.{fails_fsname, fails_gids, fails_mode_bits, fails_no_p, fails_no_s, fails_no_write, fails_not_own_group, fails_not_owner, fails_path}
use Rattle.capgrant.specs.Failing.{fails_root_squash, fails_uid, first_failing, is_some_and}
use Rattle.capgrant.specs.Question.{Question, question}
use Rattle.capgrant.specs.Verdict.{allows, granted}
use Rattle.policy_analysis.specs.declared.asking.Accesses.{Accesses}
use Rattle.policy_analysis.specs.declared.asking.Accesses.TheVariants.{OfMds}
use Rattle.policy_analysis.specs.declared.witness.Witness.{Witness}
use Rattle.policy_analysis.specs.Asking.{is_wanted}
use Rattle.policy_analysis.specs.Comparing.{IsWitness, is_root, question_of}
use Rattle.policy_analysis.specs.ComparingBy.{IsAskedAs, IsSameAs, attr_there}
use Rattle.policy_analysis.specs.Searching.{CoversAs}
use Rattle.policy_analysis.specs.StandIns.{IsSaidMore, SaysAll, allows_together, say, with_access}
use Rattle.policy_analysis.specs.Vxattrs.{CoversOwners, CoversOwnersOf, IsOwnersWitness, as_owner, is_of_root}
use Rattle.policy_analysis.proofs.Attr.{class_owner, no_uid, owner_has, passes_by_mode, uid_of}
use Rattle.policy_analysis.proofs.Cases.{owner_needed}
use Rattle.policy_analysis.proofs.Lists.{found, same_any}
use Rattle.policy_analysis.proofs.Omitting.{some_granted}
use Rattle.policy_analysis.proofs.Passing.{Passes, allowed, passes_all}
use Rattle.policy_analysis.proofs.SameCallers.{same_allows}
use Rattle.policy_analysis.proofs.Together.{base_for, covers_together}

-- ---- nothing is said more

-- a grant for an owner who is root by uid is for root alone
of_root : (q : Question) (g : Grant) → is_of_root g ≡ true → allows (as_owner q) g ≡ true → is_root q.caller ≡ true
of_root q g is e = by_uid g.uid refl is
  where
    p : Passes (as_owner q) g
    p = passes_all (as_owner q) g e

    by_uid : (o : Option ℕ) → g.uid ≡ o → is_some_and (λ uid. uid == 0) o ≡ true → is_root q.caller ≡ true
    by_uid None none zero = absurd (false≢true zero)
    by_uid (Some u) some zero =
        or_left (q.caller.uid == 0) (q.caller.gid == 0) (ap (λ (n : ℕ). n == 0) (sym (uid_of (as_owner q) g u some p.base.uid)) ∙ zero)

module _ (old_vxattr old new_vxattr new : List Grant) (root : Bool) (others : CoversAs OfMds old new root) where
  says_others : (q : Question) → is_set_vxattr q.access ≡ false → is_root q.caller ≡ root → list_any (allows_together q) new ≡ true → list_any (allows_together q) old ≡ true
  says_others q other rooted some = covers_together old new root others q q.access other rooted some

  says_vxattr : CoversOwners old_vxattr new_vxattr root → (q : Question) → is_root q.caller ≡ root → list_any (allows (as_owner q)) new_vxattr ≡ true → list_any (allows (as_owner q)) old_vxattr ≡ true
  says_vxattr owners q rooted some =
      let g = found (λ x. (root || not (is_of_root x)) ≡ true → CoversOwnersOf old_vxattr x) (allows (as_owner q)) new_vxattr owners some in
      g.1 (is_among g.0 root rooted g.2) q g.2
    where
      is_among : (x : Grant) (wanted : Bool) → is_root q.caller ≡ wanted → allows (as_owner q) x ≡ true → (wanted || not (is_of_root x)) ≡ true
      is_among x true rooted e = refl
      is_among x false rooted e = by_root (is_of_root x) refl
        where
          by_root : (b : Bool) → is_of_root x ≡ b → not (is_of_root x) ≡ true
          by_root true is = absurd (both_ways (is_root q.caller) rooted (of_root q x is e))
          by_root false is = ap not is

-- ---- something is

-- to change the group takes no look at the mode
same_mode : (q : Question) (n mode : ℕ) (h : Grant) → allows (record q { access = Chgrp n; attr = record q.attr { mode = mode } }) h ≡ allows (with_access q (Chgrp n)) h
unfolding first_failing fails_fsname fails_uid fails_gids fails_path fails_no_write fails_root_squash fails_no_p fails_no_s fails_not_owner fails_not_own_group fails_mode_bits
same_mode q n mode h = refl

-- and who may do so may write, where the owner may
writes_too : (q : Question) (n : ℕ) (h : Grant) → allows (record q { access = Chgrp n; attr = record q.attr { mode = 0o600 } }) h ≡ true → allows (record q { access = Write; attr = record q.attr { mode = 0o600 } }) h ≡ true
writes_too q n h e = by_uid h.uid refl
  where
    change : Question
    change = record q { attr = record q.attr { mode = 0o600 } }

    p : Passes (with_access change (Chgrp n)) h
    p = passes_all (with_access change (Chgrp n)) h e

    by_uid : (o : Option ℕ) → h.uid ≡ o → allows (with_access change Write) h ≡ true
    by_uid None none = allowed (with_access change Write) h (base_for change change.attr (Chgrp n) Write refl refl refl h p.base) (no_uid (with_access change Write) h none)
    by_uid (Some u) some =
        let owns = owner_needed (with_access change (Chgrp n)) h (ap is_some some) refl p.attr.not_owner in
        allowed (with_access change Write) h (base_for change change.attr (Chgrp n) Write refl refl refl h p.base) (passes_by_mode (with_access change Write) h Owner refl (class_owner (with_access change Write) h owns.0) (owner_has false))

-- whoever may write where it may change the group says both where it says the change
chosen : (write change : Bool) → (change ≡ true → write ≡ true) → (write && (change && true)) ≡ change
chosen true true writes = refl
chosen true false writes = refl
chosen false true writes = writes refl
chosen false false writes = refl

and_true : (b : Bool) → (b && true) ≡ b
and_true true = refl
and_true false = refl

-- of a caller in the same groups, in whatever order
module _ (q : Question) (c : Caller) (same : IsSameAs q.caller c) (vxattrs others : List Grant) where
  -- the question as an MDS is asked it
  abbrev there : Access → Question
  there access = record q { caller = c; attr = attr_there access q.attr; access = access }

  alone : (a : Access) (h : Grant) → (allows (record q { caller = c; access = a }) h && true) ≡ allows (with_access q a) h
  alone a h = and_true (allows (record q { caller = c; access = a }) h) ∙ same_allows (with_access q a) c same h

  pub says_other : (a : Access) → is_wanted OfMds a ≡ true → say (is_set_vxattr a) (if is_set_vxattr a then vxattrs else others) (there a) ≡ granted (with_access q a) others
  says_other Read wanted = same_any _ _ (alone Read) others
  says_other Write wanted = same_any _ _ (alone Write) others
  says_other Snapshot wanted = same_any _ _ (alone Snapshot) others
  says_other SetVxattr wanted = absurd (false≢true wanted)
  says_other Chmod wanted = absurd (false≢true wanted)
  says_other (Chown n) wanted = absurd (false≢true wanted)
  says_other (Chgrp n) wanted =
      same_any _ _ (λ h. chosen _ _ (writes_too (record q { caller = c }) n h) ∙ same_mode (record q { caller = c }) n 0o600 h ∙ same_allows (with_access q (Chgrp n)) c same h) others

  owner_too : (h : Grant) → allows (as_owner (record q { caller = c })) h ≡ allows (as_owner q) h
  owner_too h = ap (λ (uid : ℕ). allows (record q { caller = c; access = Read; attr = record q.attr { uid = uid; mode = 0o600 } }) h) same.uid ∙ same_allows (as_owner q) c same h

  pub says_owner : list_any (allows (as_owner (record q { caller = c }))) vxattrs ≡ granted (as_owner q) vxattrs
  says_owner = same_any _ _ owner_too vxattrs

-- ---- of a witness

asked_as : (found asked : Witness) → IsAskedAs found asked → question_of asked ≡ record (question_of found) { caller = asked.caller; attr = attr_there found.access found.attr }
asked_as found asked is = λ i. question (is.fs i) asked.caller ((is.path i).now) (is.attr i) (is.access i)

says_as : (found asked : Witness) (is : IsAskedAs found asked) (vxattrs others : List Grant) → say (is_set_vxattr asked.access) (if is_set_vxattr asked.access then vxattrs else others) (question_of asked)
    ≡ say (is_set_vxattr found.access) (if is_set_vxattr found.access then vxattrs else others) (record (question_of found) { caller = asked.caller; attr = attr_there found.access found.attr })
says_as found asked is vxattrs others = λ i. say (is_set_vxattr (is.access i)) (if is_set_vxattr (is.access i) then vxattrs else others) (asked_as found asked is i)

-- what is found among those that stand in for all but attributes
pub said_more : (old_vxattr old new_vxattr new : List Grant) (w : Witness) → IsWitness old new w → is_wanted OfMds w.access ≡ true → IsSaidMore old_vxattr old new_vxattr new w
said_more old_vxattr old new_vxattr new w is wanted asked of = (
  says_as w asked of new_vxattr new ∙ says_other (question_of w) asked.caller of.caller new_vxattr new w.access wanted ∙ some_granted (question_of w) new w.grant is.allowed,
  says_as w asked of old_vxattr old ∙ says_other (question_of w) asked.caller of.caller old_vxattr old w.access wanted ∙ is.denied,
)

-- and among those that stand in for attributes
pub said_more_of_owner : (old_vxattr old new_vxattr new : List Grant) (w : Witness) → IsOwnersWitness old_vxattr new_vxattr w → IsSaidMore old_vxattr old new_vxattr new w
said_more_of_owner old_vxattr old new_vxattr new w is asked of = (
  says_as w asked of new_vxattr new ∙ by_access new_vxattr new ∙ says_owner (question_of w) asked.caller of.caller new_vxattr new ∙ is.allowed,
  says_as w asked of old_vxattr old ∙ by_access old_vxattr old ∙ says_owner (question_of w) asked.caller of.caller old_vxattr old ∙ is.denied,
)
  where
    by_access : (vxattrs others : List Grant) → say (is_set_vxattr w.access) (if is_set_vxattr w.access then vxattrs else others) (record (question_of w) { caller = asked.caller; attr = attr_there w.access w.attr })
        ≡ list_any (allows (as_owner (record (question_of w) { caller = asked.caller }))) vxattrs
    by_access vxattrs others = λ i. say (is_set_vxattr (is.access i)) (if is_set_vxattr (is.access i) then vxattrs else others) (record (question_of w) { caller = asked.caller; attr = attr_there (is.access i) w.attr })

-- ---- of all that is searched

module _ (old_vxattr old new_vxattr new : List Grant) (root : Bool) (others : CoversAs OfMds old new root) where
  says_all : CoversOwners old_vxattr new_vxattr root → SaysAll old_vxattr old new_vxattr new root
  says_all owners q can rooted = by_access (is_set_vxattr q.access) refl
    where
      by_access : (b : Bool) → is_set_vxattr q.access ≡ b → say b (if b then new_vxattr else new) q ≡ true → say b (if b then old_vxattr else old) q ≡ true
      by_access true is some = says_vxattr old_vxattr old new_vxattr new root others owners q rooted some
      by_access false is some = says_others old_vxattr old new_vxattr new root others q is rooted some

  -- where nothing is found among those for all else, what is found among those for attributes is all
  pub all_by_owners : (before after : List Grant) → before ≡ old_vxattr → after ≡ new_vxattr → (found : Result (Option Witness) AllocError) → IfOk found (λ w. MatchOption w (CoversOwners before after root) (IsOwnersWitness before after))
      → IfOk found (λ w. MatchOption w (SaysAll old_vxattr old new_vxattr new root) (IsSaidMore old_vxattr old new_vxattr new))
  all_by_owners before after before_is after_is (Err e) is = is
  all_by_owners before after before_is after_is (Ok None) is = says_all (rw after_is at (rw before_is at is))
  all_by_owners before after before_is after_is (Ok (Some w)) is = said_more_of_owner old_vxattr old new_vxattr new w (rw after_is at (rw before_is at is))

-- what is searched among those for all else
module _ (old_vxattr old new_vxattr new : List Grant) (root : Bool) (accesses : Accesses) (before after : List Grant) (accesses_are : accesses ≡ OfMds) (before_is : before ≡ old) (after_is : after ≡ new) (found : Option Witness) (exact : MatchOption found (CoversAs accesses before after root) (IsWitness before after)) where
  pub none_of_others : found ≡ None → CoversAs OfMds old new root
  none_of_others none = let covers : CoversAs accesses before after root = rw none at exact in rw accesses_are at (rw after_is at (rw before_is at covers))

  pub one_of_others : (w : Witness) → found ≡ Some w → IfSome found (λ w. is_wanted accesses w.access ≡ true) → IsSaidMore old_vxattr old new_vxattr new w
  one_of_others w some wanted =
      let is : IsWitness before after w = rw some at exact in
      said_more old_vxattr old new_vxattr new w (rw after_is at (rw before_is at is)) (rw accesses_are at (rw some at wanted))
