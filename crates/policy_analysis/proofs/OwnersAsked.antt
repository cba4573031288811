-- What the search for attributes asks, finds and goes through.
use Rattle.std.proofs.Common.{◌≡◌, ℕ, ◌<◌, ◌≤◌, true, false, inl, inr, Option, Some, None, List, [], ◌∷◌, length, get_or, take, refl, sym, ap, subst, ◌∙◌}
use Rattle.std.specs.Prelude.{◌==◌, All, Contains, Err, IfNone, IfOk, IfSome, MatchOption, Ok, Result}
use Rattle.std.specs.declared.alloc.AllocError.{AllocError}
use Rattle.std.proofs.lemmas.Bool.{eq-eqb}
use Rattle.std.proofs.lemmas.List.Folds.{list_any_at}
use Rattle.capbits.specs.declared.caller.Caller.{Caller}
use Rattle.capspec.specs.declared.grant.Grant.{Grant}
use Rattle.capgrant.specs.Question.{Question, contains}
use Rattle.capgrant.specs.Verdict.{granted}
use Rattle.policy_analysis.specs.declared.witness.Witness.{Witness}
use Rattle.policy_analysis.specs.Asking.{with_group}
use Rattle.policy_analysis.specs.Free.{NoneAreFor, NoneLists, NoneNames}
use Rattle.policy_analysis.specs.Vxattrs.{CoversOwnersOf, IsFor, IsOwnersWitness, asks, asks_own, owner_of}
use Rattle.policy_analysis.proofs.Loops.{all_of}
use Rattle.policy_analysis.proofs.Owners.{covers_by_each, covers_by_one, in_one, new_allows}

module _ (old new : List Grant) (free : List ℕ) (nobody : ℕ) (g : Grant) where
  owners_witness : (w : Witness) (c : Caller) → IsFor w (asks free nobody g c) → granted (asks free nobody g c) new ≡ true → granted (asks free nobody g c) old ≡ false → IsOwnersWitness old new w
  owners_witness w c is allowed denied = record {
    access = is.access;
    allowed = ap (λ (q : Question). granted q new) is.asks ∙ allowed;
    denied = ap (λ (q : Question). granted q old) is.asks ∙ denied;
  }

  -- ---- of a grant without gids

  module _ (unnamed : NoneNames free old) (unlisted : NoneLists nobody old) (unused : NoneAreFor nobody old) (among : Contains new g) where
    after_one : (found : Option Witness) → (length g.gids == 0) ≡ true → IfNone found (granted (asks_own free nobody g []) old ≡ true)
        → IfSome found (λ w. granted (asks_own free nobody g []) old ≡ false) → IfSome found (λ w. IsFor w (asks_own free nobody g [])) → MatchOption found (CoversOwnersOf old g) (IsOwnersWitness old new)
    after_one None bare covered denied is = covers_by_one old free nobody g unnamed unlisted unused bare covered
    after_one (Some w) bare covered denied is = owners_witness w (owner_of nobody g []) is (new_allows new free nobody g (owner_of nobody g []) among refl (inl bare)) denied

    -- ---- of one with gids

    -- what is found in a group that it lists
    found_in : (w : Witness) (own : ℕ) → contains g.gids own ≡ true → IsFor w (asks_own free nobody g (own ∷ [])) → granted (asks_own free nobody g (own ∷ [])) old ≡ false → IsOwnersWitness old new w
    found_in w own listed is denied = owners_witness w (owner_of nobody g (own ∷ [])) is (new_allows new free nobody g (owner_of nobody g (own ∷ [])) among refl (inr (in_one nobody g own listed))) denied

    after_each : (length g.gids == 0) ≡ false → All (λ own. granted (asks_own free nobody g (own ∷ [])) old ≡ true) g.gids → CoversOwnersOf old g
    after_each some each = covers_by_each old free nobody g unnamed unlisted unused some each

    -- ---- as the code asks

    pub after_one_ask : (found : Result (Option Witness) AllocError) (asker : Caller) → asker ≡ owner_of nobody g [] → (length g.gids == 0) ≡ true → IfOk found (λ o. IfNone o (granted (asks free nobody g asker) old ≡ true))
        → IfOk found (λ o. IfSome o (λ w. granted (asks free nobody g asker) old ≡ false)) → IfOk found (λ o. IfSome o (λ w. IsFor w (asks free nobody g asker))) → IfOk found (λ o. MatchOption o (CoversOwnersOf old g) (IsOwnersWitness old new))
    after_one_ask (Err e) asker same bare covered denied is = covered
    after_one_ask (Ok o) asker same bare covered denied is = after_one o bare (rw same at covered) (rw same at denied) (rw same at is)

    pub found_by : (found : Option Witness) (w : Witness) → found ≡ Some w → (c asker : Caller) (gids : List ℕ) (i : ℕ) → c ≡ with_group asker (get_or gids i 0) → asker ≡ owner_of nobody g [] → gids ≡ g.gids → i < length gids
        → IfSome found (λ o. granted (asks free nobody g c) old ≡ false) → IfSome found (λ o. IsFor o (asks free nobody g c)) → IsOwnersWitness old new w
    found_by found w some c asker gids i with_is asker_is gids_are within denied is =
        let own : ℕ = get_or gids i 0 in
        let same : c ≡ owner_of nobody g (own ∷ []) = with_is ∙ ap (λ (a : Caller). with_group a own) asker_is in
        let listed : contains g.gids own ≡ true = ap (λ (xs : List ℕ). contains xs own) (sym gids_are) ∙ list_any_at (λ x. x == own) gids i 0 within (eq-eqb own own refl) in
        found_in w own listed (rw same at (rw some at is)) (rw same at (rw some at denied))

    pub after_loop : (gids : List ℕ) (i : ℕ) → gids ≡ g.gids → (length gids == 0) ≡ false → length gids ≤ i → All (λ own. granted (asks_own free nobody g (own ∷ [])) old ≡ true) (take i gids) → CoversOwnersOf old g
    after_loop gids i gids_are some end all =
        after_each (ap (λ (xs : List ℕ). length xs == 0) (sym gids_are) ∙ some)
        (subst (λ (xs : List ℕ). All (λ own. granted (asks_own free nobody g (own ∷ [])) old ≡ true) xs) gids_are (all_of (λ own. granted (asks_own free nobody g (own ∷ [])) old ≡ true) gids i end all))
