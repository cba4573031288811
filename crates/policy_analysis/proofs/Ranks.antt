-- What an MDS says, by what is allowed for sure and what may be.
use Rattle.std.proofs.Common.{◌≡◌, ℕ, ◌<◌, ◌≤◌, Bool, true, false, not, ◌&&◌, ◌||◌, Some, None, List, [], ◌∷◌, refl, sym, ◌∙◌, arith}
use Rattle.std.specs.Prelude.{position, if◌then◌else◌}
use Rattle.std.specs.List.{list_any, position_or_len}
use Rattle.std.proofs.lemmas.Bool.{and_parts, and_right, both_ways, false≢true, or_right}
use Rattle.capgrant.specs.Question.{Question}
use Rattle.capgrant.proofs.Verdicts.{any_place}
use Rattle.release_grants.specs.declared.grant.Grant.{Grant}
use Rattle.release_grants.specs.declared.network.InNetwork.{InNetwork}
use Rattle.release_grants.specs.declared.network.InNetwork.TheVariants.{No, Unknown, Yes}
use Rattle.release_grants.specs.Networks.{in_network, is_no, is_unknown}
use Rattle.release_rules.specs.Verdicts.{allows, may_allow, may_mount}
use Rattle.policy_analysis.specs.ComparingBy.{Terms, put_to, rank, said}
use Rattle.policy_analysis.specs.StandIns.{is_allowed_there, plays}
use Rattle.policy_analysis.proofs.Lists.{same_any}
use Rattle.policy_analysis.proofs.Odd.{fails_in_network}
use Rattle.policy_analysis.proofs.StandsFor.{and_all}

-- where something is found at a place
found_some : {X : Type 0} (p : X → Bool) (xs : List X) → list_any p xs ≡ true → (i : ℕ) × (position p xs ≡ Some i)
found_some p xs some = (position_or_len p xs, rw (sym (any_place p xs) ∙ some) refl)

found_none : {X : Type 0} (p : X → Bool) (xs : List X) → list_any p xs ≡ false → position p xs ≡ None
found_none p xs none = rw (sym (any_place p xs) ∙ none) refl

module _ (t : Terms) (q : Question) where
  -- by one grant
  sure_one : (g : Grant) → allows t.switches (put_to t q) g ≡ (plays false (in_network g.network t.address) && may_allow t.switches (put_to t q) g)
  sure_one g = by_network (in_network g.network t.address) (fails_in_network t.switches (put_to t q) g)
    where
      by_network : (n : InNetwork) → (is_no n ≡ true → may_allow t.switches (put_to t q) g ≡ false) → (may_allow t.switches (put_to t q) g && not (is_unknown n)) ≡ (plays false n && may_allow t.switches (put_to t q) g)
      by_network Yes none = and_all (may_allow t.switches (put_to t q) g)
      by_network No none = rw (none refl) refl
      by_network Unknown none = and_right (may_allow t.switches (put_to t q) g) false refl

  maybe_one : (g : Grant) → may_allow t.switches (put_to t q) g ≡ (plays true (in_network g.network t.address) && may_allow t.switches (put_to t q) g)
  maybe_one g = by_network (in_network g.network t.address) (fails_in_network t.switches (put_to t q) g)
    where
      by_network : (n : InNetwork) → (is_no n ≡ true → may_allow t.switches (put_to t q) g ≡ false) → may_allow t.switches (put_to t q) g ≡ (plays true n && may_allow t.switches (put_to t q) g)
      by_network Yes none = refl
      by_network No none = none refl
      by_network Unknown none = refl

  -- the rank is 2 where it is allowed for sure, else 1 where it may be
  by_both : (grants : List Grant) (mounts allowed may : Bool) → may_mount t.switches q.fs grants ≡ mounts → list_any (allows t.switches (put_to t q)) grants ≡ allowed → list_any (may_allow t.switches (put_to t q)) grants ≡ may
      → rank (said t grants q) ≡ (if mounts && allowed then 2 else (if mounts && may then 1 else 0))
  by_both grants false allowed may mounts sure_is maybe_is = rw mounts refl
  by_both grants true true may mounts sure_is maybe_is = let one = found_some (allows t.switches (put_to t q)) grants sure_is in rw (mounts, one.1) refl
  by_both grants true false true mounts sure_is maybe_is =
      let one = found_some (may_allow t.switches (put_to t q)) grants maybe_is in rw (mounts, found_none (allows t.switches (put_to t q)) grants sure_is, one.1) refl
  by_both grants true false false mounts sure_is maybe_is = rw (mounts, found_none (allows t.switches (put_to t q)) grants sure_is, found_none (may_allow t.switches (put_to t q)) grants maybe_is) refl

  pub rank_is : (grants : List Grant) → rank (said t grants q) ≡ (if is_allowed_there t false grants q then 2 else (if is_allowed_there t true grants q then 1 else 0))
  rank_is grants = by_both grants _ _ _ refl (same_any _ _ sure_one grants) (same_any _ _ maybe_one grants)

  -- who is allowed for sure may be
  pub sure_may : (grants : List Grant) → is_allowed_there t false grants q ≡ true → is_allowed_there t true grants q ≡ true
  sure_may grants some =
      let parts = and_parts (may_mount t.switches q.fs grants) _ some in
      rw (parts.0) (in_list grants parts.1)
    where
      one_may : (n : InNetwork) (b : Bool) → (plays false n && b) ≡ true → (plays true n && b) ≡ true
      one_may Yes b is = is
      one_may No b is = is
      one_may Unknown b is = absurd (false≢true is)

      in_list : (gs : List Grant) → list_any (λ g. plays false (in_network g.network t.address) && may_allow t.switches (put_to t q) g) gs ≡ true
          → list_any (λ g. plays true (in_network g.network t.address) && may_allow t.switches (put_to t q) g) gs ≡ true
      in_list [] is = absurd (false≢true is)
      in_list (g ∷ gs) is = by_case (plays false (in_network g.network t.address) && may_allow t.switches (put_to t q) g) refl is (in_list gs)
        where
          by_case : (b : Bool) → (plays false (in_network g.network t.address) && may_allow t.switches (put_to t q) g) ≡ b → (b || list_any (λ g. plays false (in_network g.network t.address) && may_allow t.switches (put_to t q) g) gs) ≡ true
              → (list_any (λ g. plays false (in_network g.network t.address) && may_allow t.switches (put_to t q) g) gs ≡ true → list_any (λ g. plays true (in_network g.network t.address) && may_allow t.switches (put_to t q) g) gs ≡ true)
              → ((plays true (in_network g.network t.address) && may_allow t.switches (put_to t q) g) || list_any (λ g. plays true (in_network g.network t.address) && may_allow t.switches (put_to t q) g) gs) ≡ true
          by_case true here is rest = rw (one_may (in_network g.network t.address) (may_allow t.switches (put_to t q) g) here) refl
          by_case false here is rest = or_right (plays true (in_network g.network t.address) && may_allow t.switches (put_to t q) g) (list_any (λ g. plays true (in_network g.network t.address) && may_allow t.switches (put_to t q) g) gs) (rest is)

  -- who covers what is sure and what may be says as much
  pub says_as_much : (old new : List Grant) → (is_allowed_there t false new q ≡ true → is_allowed_there t false old q ≡ true) → (is_allowed_there t true new q ≡ true → is_allowed_there t true old q ≡ true) → rank (said t new q) ≤ rank (said t old q)
  says_as_much old new sures maybes = rw (rank_is new, rank_is old) (by_tests _ _ _ _ sures maybes)
    where
      by_tests : (a b c d : Bool) → (a ≡ true → b ≡ true) → (c ≡ true → d ≡ true) → (if a then 2 else (if c then 1 else 0)) ≤ (if b then 2 else (if d then 1 else 0))
      by_tests true true c d there may = omega arith
      by_tests true false c d there may = absurd (false≢true (there refl))
      by_tests false true true d there may = omega arith
      by_tests false true false d there may = omega arith
      by_tests false false true true there may = omega arith
      by_tests false false true false there may = absurd (false≢true (may refl))
      by_tests false false false true there may = omega arith
      by_tests false false false false there may = omega arith

  -- who is allowed more says more
  pub says_more_sure : (old new : List Grant) → is_allowed_there t false new q ≡ true → is_allowed_there t false old q ≡ false → rank (said t old q) < rank (said t new q)
  says_more_sure old new some none = rw (rank_is new, rank_is old, some, none) (by_test (is_allowed_there t true old q))
    where
      by_test : (b : Bool) → (if b then 1 else 0) < 2
      by_test true = omega arith
      by_test false = omega arith

  pub says_more_maybe : (old new : List Grant) → is_allowed_there t true new q ≡ true → is_allowed_there t true old q ≡ false → rank (said t old q) < rank (said t new q)
  says_more_maybe old new some none = rw (rank_is new, rank_is old, some, none, not_sure) (by_test (is_allowed_there t false new q))
    where
      not_sure : is_allowed_there t false old q ≡ false
      not_sure = by_test (is_allowed_there t false old q) refl
        where
          by_test : (b : Bool) → is_allowed_there t false old q ≡ b → is_allowed_there t false old q ≡ false
          by_test true is = absurd (both_ways (is_allowed_there t true old q) none (sure_may old is))
          by_test false is = is

      by_test : (b : Bool) → 0 < (if b then 2 else 1)
      by_test true = omega arith
      by_test false = omega arith
