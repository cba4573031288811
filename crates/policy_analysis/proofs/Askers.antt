-- Those who are asked are callers whom the grant names, and they are enough.
use Rattle.std.proofs.Common.{◌≡◌, ℕ, Bool, true, false, Option, Some, None, List, [], ◌∷◌, length, refl}
use Rattle.std.specs.Prelude.{◌==◌, unwrap_or, All, if◌then◌else◌}
use Rattle.std.specs.List.{list_any}
use Rattle.std.proofs.lemmas.Bool.{both_ways, eq-eqb}
use Rattle.std.proofs.lemmas.List.Elements.{All-cons, All-nil}
use Rattle.capbits.specs.declared.caller.Caller.{Caller}
use Rattle.capspec.specs.declared.grant.Grant.{Grant}
use Rattle.capgrant.specs.declared.access.Attr.{Attr}
use Rattle.capgrant.specs.Question.{contains}
use Rattle.capgrant.specs.Verdict.{allows}
use Rattle.policy_analysis.proofs.Lists.{among_passes, passes_among}
use Rattle.policy_analysis.specs.Callers.{AllowsNone, AllowsSome, Names, Wanted, allows_in, allows_one, asked, asker, is_user_of}
use Rattle.policy_analysis.proofs.StandsIn.{stands_in, stands_in_alone}

is_user : (uid : Option ℕ) → is_user_of uid (unwrap_or uid 1) ≡ true
is_user None = refl
is_user (Some u) = eq-eqb u u refl

named_in : (attr : Attr) (g : Grant) (groups : List ℕ) → All (λ n. contains g.gids n ≡ true) groups → Names g (asker attr g groups)
named_in attr g groups listed = record { user = is_user g.uid; groups = listed }

named_none : (attr : Attr) (g : Grant) → Names g (asker attr g [])
named_none attr g = named_in attr g [] (All-nil (λ n. contains g.gids n ≡ true))

named_one : (attr : Attr) (g : Grant) (n : ℕ) → contains g.gids n ≡ true → Names g (asker attr g (n ∷ []))
named_one attr g n listed = named_in attr g (n ∷ []) (All-cons (λ m. contains g.gids m ≡ true) n [] listed (All-nil (λ m. contains g.gids m ≡ true)))

-- whoever of those who are asked is allowed it is one whom the grant names
pub to_some : (w : Wanted) (attr : Attr) (g : Grant) → allows_one w attr g ≡ true → AllowsSome w attr g
to_some w attr g e = by_test (length g.gids == 0) e
  where
    by_test : (b : Bool) → (if b then allows_in w attr g [] else list_any (λ gid. allows_in w attr g (gid ∷ [])) g.gids) ≡ true → AllowsSome w attr g
    by_test true is = (asker attr g [], named_none attr g, is)
    by_test false is =
        let one = passes_among (λ gid. allows_in w attr g (gid ∷ [])) g.gids is in
        (asker attr g (one.0 ∷ []), named_one attr g one.0 one.1, one.2)

has_one : (w : Wanted) (attr : Attr) (g : Grant) (c : Caller) → allows (asked w attr c) g ≡ true → allows_one w attr g ≡ true
has_one w attr g c e = by_test (length g.gids == 0) refl
  where
    by_test : (b : Bool) → (length g.gids == 0) ≡ b → (if b then allows_in w attr g [] else list_any (λ gid. allows_in w attr g (gid ∷ [])) g.gids) ≡ true
    by_test true is = stands_in w attr g c is e
    by_test false is =
        let one = stands_in_alone w attr g c is e in
        among_passes (λ gid. allows_in w attr g (gid ∷ [])) g.gids one.0 one.1 one.2

pub to_none : (w : Wanted) (attr : Attr) (g : Grant) → allows_one w attr g ≡ false → AllowsNone w attr g
to_none w attr g none c = by_test (allows (asked w attr c) g) refl
  where
    by_test : (b : Bool) → allows (asked w attr c) g ≡ b → b ≡ false
    by_test false is = refl
    by_test true is = absurd (both_ways (allows_one w attr g) none (has_one w attr g c is))
