-- What an MDS says more by one list of grants than by another, by those that stand in for them.
use Rattle.std.proofs.Common.{◌≡◌, ℕ, ◌≤◌, Bool, true, false, Option, Some, None, List, length, refl, sym, ap, subst, ◌∙◌, arith}
use Rattle.std.specs.Prelude.{All, IsTrue, ◌||◌, position, if◌then◌else◌}
use Rattle.capspec.specs.declared.grant.Grant.{Grant as OwnGrant}
use Rattle.capspec.specs.Paths.{is_name}
use Rattle.capgrant.specs.Access.{is_set_vxattr}
use Rattle.capgrant.specs.Question.{Question}
use Rattle.release_grants.specs.declared.grant.Grant.{Grant}
use Rattle.release_rules.specs.Verdicts.{allows, first_failures, may_allow, may_mount, verdict_at}
use Rattle.release_rules.specs.declared.verdict.Verdict.{Verdict}
use Rattle.release_rules.specs.declared.verdict.Verdict.TheVariants.{CannotMount}
use Rattle.policy_analysis.specs.declared.witness.Witness.{Witness}
use Rattle.policy_analysis.specs.Comparing.{is_root, question_of}
use Rattle.policy_analysis.specs.ComparingBy.{CanBeAsked, CoversThere, CoversThereAs, IsAskedAs, IsChange, Judged, SaysMore, Terms, is_by_address, number_of, put_to, rank, said}
use Rattle.policy_analysis.specs.StandIns.{AllStandIn, IsSaidMore, SaysAll, is_allowed_there, say}
use Rattle.policy_analysis.proofs.Asked.{place_within}
use Rattle.policy_analysis.proofs.Ranks.{says_as_much, says_more_maybe, says_more_sure}

module _ (t : Terms) where
  -- those that stand in say what the others say
  says_there : (maybe : Bool) (grants : List Grant) (vxattr others : List OwnGrant) → AllStandIn t maybe grants vxattr others → (q : Question) → CanBeAsked q
      → say (is_set_vxattr q.access) (if is_set_vxattr q.access then vxattr else others) q ≡ is_allowed_there t maybe grants q
  says_there maybe grants vxattr others all q can = by_access (is_set_vxattr q.access) refl
    where
      by_access : (b : Bool) → is_set_vxattr q.access ≡ b → say b (if b then vxattr else others) q ≡ is_allowed_there t maybe grants q
      by_access true is = all.vxattr_say q can is
      by_access false is = all.others_say q can is

  -- what is found among them
  pub more_by : (maybe : Bool) (old new : List Grant) (old_vxattr old_others new_vxattr new_others : List OwnGrant) → AllStandIn t maybe old old_vxattr old_others → AllStandIn t maybe new new_vxattr new_others
      → (w : Witness) → IsSaidMore old_vxattr old_others new_vxattr new_others w → SaysMore t old new w
  more_by false old new old_vxattr old_others new_vxattr new_others olds news w more asked of can =
      says_more_sure t (question_of asked) old new
      (sym (says_there false new new_vxattr new_others news (question_of asked) can) ∙ (more asked of).0)
      (sym (says_there false old old_vxattr old_others olds (question_of asked) can) ∙ (more asked of).1)
  more_by true old new old_vxattr old_others new_vxattr new_others olds news w more asked of can =
      says_more_maybe t (question_of asked) old new
      (sym (says_there true new new_vxattr new_others news (question_of asked) can) ∙ (more asked of).0)
      (sym (says_there true old old_vxattr old_others olds (question_of asked) can) ∙ (more asked of).1)

  covered_by : (maybe : Bool) (old new : List Grant) (old_vxattr old_others new_vxattr new_others : List OwnGrant) (root : Bool) → AllStandIn t maybe old old_vxattr old_others → AllStandIn t maybe new new_vxattr new_others
      → SaysAll old_vxattr old_others new_vxattr new_others root → (q : Question) → CanBeAsked q → is_root q.caller ≡ root → is_allowed_there t maybe new q ≡ true → is_allowed_there t maybe old q ≡ true
  covered_by maybe old new old_vxattr old_others new_vxattr new_others root olds news all q can rooted some =
      sym (says_there maybe old old_vxattr old_others olds q can) ∙ all q can rooted (says_there maybe new new_vxattr new_others news q can ∙ some)

  -- where nothing is found
  pub as_much_by : (old new : List Grant) (old_vxattr old_others new_vxattr new_others maybe_old_vxattr maybe_old maybe_new_vxattr maybe_new : List OwnGrant) (root : Bool)
      → AllStandIn t false old old_vxattr old_others → AllStandIn t false new new_vxattr new_others → AllStandIn t true old maybe_old_vxattr maybe_old → AllStandIn t true new maybe_new_vxattr maybe_new
      → SaysAll old_vxattr old_others new_vxattr new_others root → SaysAll maybe_old_vxattr maybe_old maybe_new_vxattr maybe_new root → CoversThereAs root t old new
  as_much_by old new old_vxattr old_others new_vxattr new_others maybe_old_vxattr maybe_old maybe_new_vxattr maybe_new root olds news maybe_olds maybe_news sures maybes q can rooted =
      says_as_much t q old new
      (covered_by false old new old_vxattr old_others new_vxattr new_others root olds news sures q can rooted)
      (covered_by true old new maybe_old_vxattr maybe_old maybe_new_vxattr maybe_new root maybe_olds maybe_news maybes q can rooted)

  -- of root, and of others than root
  pub of_everybody : (old new : List Grant) → CoversThereAs false t old new → CoversThereAs true t old new → CoversThere t old new
  of_everybody old new others roots q can = by_root (is_root q.caller) refl
    where
      by_root : (b : Bool) → is_root q.caller ≡ b → rank (said t new q) ≤ rank (said t old q)
      by_root true is = roots q can is
      by_root false is = others q can is

  -- the number is that of a grant
  pub number_within : (grants : List Grant) (q : Question) → number_of (said t grants q) ≤ length grants
  number_within grants q = by_mount (may_mount t.switches q.fs grants)
    where
      by_places : (sure maybe : Option ℕ) → position (allows t.switches (put_to t q)) grants ≡ sure → position (may_allow t.switches (put_to t q)) grants ≡ maybe → number_of (verdict_at sure maybe (first_failures t.switches (put_to t q) grants)) ≤ length grants
      by_places (Some i) maybe is also = let less = place_within (allows t.switches (put_to t q)) grants i is in omega arith
      by_places None (Some i) is also = let less = place_within (may_allow t.switches (put_to t q)) grants i also in omega arith
      by_places None None is also = omega arith

      by_mount : (b : Bool) → number_of (if b then verdict_at (position (allows t.switches (put_to t q)) grants) (position (may_allow t.switches (put_to t q)) grants) (first_failures t.switches (put_to t q) grants) else CannotMount) ≤ length grants
      by_mount true = by_places _ _ refl refl
      by_mount false = omega arith

  pub few_number : (grants : List Grant) (q : Question) (v : Verdict) → v ≡ said t grants q → length grants ≤ 16 → number_of v ≤ 16
  few_number grants q v is few =
      let within : number_of (said t grants q) ≤ length grants = number_within grants q in
      let same : number_of v ≡ number_of (said t grants q) = ap number_of is in
      omega arith

  -- ---- the change that is told

  pub is_change : (old new : List Grant) (found asked : Witness) (number : ℕ) (by_address : Bool) (before after : Verdict) → SaysMore t old new found → IsAskedAs found asked → All (λ name. IsTrue (is_name name)) asked.path.now
      → before ≡ said t old (question_of asked) → after ≡ said t new (question_of asked) → number ≡ number_of after → by_address ≡ (is_by_address after || is_by_address before)
      → IsChange t old new (record { witness = record asked { grant = number }; by_address = by_address })
  is_change old new found asked number by_address before after more is names before_is after_is number_is address_is =
      let can : CanBeAsked (question_of asked) = record { path = names; groups = is.order } in
      record {
        asked = can;
        more = more asked is can;
        number = number_is ∙ ap number_of after_is;
        address = address_is ∙ (λ i. is_by_address (after_is i) || is_by_address (before_is i));
      }

-- those that stand in by the terms, and for the grants, that the caller knows
pub stands_as : (t terms : Terms) (maybe : Bool) (j : Judged) (grants : List Grant) (vxattr others : List OwnGrant) → record { terms = terms; grants = grants } ≡ j → j.terms ≡ t → AllStandIn terms maybe grants vxattr others → AllStandIn t maybe j.grants vxattr others
stands_as t terms maybe j grants vxattr others is terms_are all =
    subst (λ (s : Terms). AllStandIn s maybe j.grants vxattr others) terms_are (subst (λ (k : Judged). AllStandIn k.terms maybe k.grants vxattr others) is all)
