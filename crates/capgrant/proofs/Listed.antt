-- The gids of a caller that a grant lists.
use Rattle.std.proofs.Common.{◌≡◌, ℕ, Bool, true, false, cond, ◌&&◌, ◌||◌, not, List, [], ◌∷◌, length, refl, ap, ◌∙◌, arith}
use Rattle.std.specs.Prelude.{◌==◌, filter}
use Rattle.std.specs.List.{list_any}
use Rattle.std.proofs.lemmas.Bool.{eqb-true}
use Rattle.capspec.specs.declared.grant.Grant.{Grant}
use Rattle.capbits.specs.declared.caller.Caller.{Caller}
use Rattle.capbits.specs.Caller.{gids_of}
use Rattle.capgrant.specs.Question.{contains, listed_gids}

-- the step of `contains-filter`: `kept` and `passes` are the same where the element is the number
one_more : (kept passes same rest : Bool) → (same ≡ true → kept ≡ passes) → cond kept (same || (passes && rest)) (passes && rest) ≡ (passes && (same || rest))
one_more true true same rest alike = refl
one_more true false true rest alike = alike refl
one_more true false false rest alike = refl
one_more false true true rest alike = cc (alike refl)
one_more false true false rest alike = refl
one_more false false same rest alike = refl

-- a number is among those that pass if it passes and is among all
pub contains-filter : (p : ℕ → Bool) (xs : List ℕ) (n : ℕ) → contains (filter p xs) n ≡ (p n && contains xs n)
contains-filter p [] n = elim (p n) as (λ b. false ≡ (b && false)) [ true ↦ refl | false ↦ refl ]
contains-filter p (x ∷ xs) n =
    elim (p x) as (λ b. contains (cond b (x ∷ filter p xs) (filter p xs)) n ≡ cond b ((x == n) || contains (filter p xs) n) (contains (filter p xs) n)) [ true ↦ refl | false ↦ refl ]
    ∙ ap (λ (t : Bool). cond (p x) ((x == n) || t) t) (contains-filter p xs n)
    ∙ one_more (p x) (p n) (x == n) (contains xs n) (λ (e : (x == n) ≡ true). ap p (eqb-true x n e))

-- numbers are kept exactly if one passes
length-filter : (p : ℕ → Bool) (xs : List ℕ) → (length (filter p xs) == 0) ≡ not (list_any p xs)
length-filter p [] = refl
length-filter p (x ∷ xs) =
    elim (p x) as (λ b. (length (cond b (x ∷ filter p xs) (filter p xs)) == 0) ≡ not (b || list_any p xs)) [ true ↦ grind arith | false ↦ length-filter p xs ]

-- none of the caller's gids is kept exactly if the grant lists none
pub length_listed : (caller : Caller) (g : Grant) → (length (listed_gids caller g) == 0) ≡ not (list_any (contains g.gids) (gids_of caller))
unfolding listed_gids
length_listed caller g = length-filter (contains g.gids) (gids_of caller)

-- a gid is listed for the caller exactly if the grant lists it and it is one of the caller's
pub contains_listed : (caller : Caller) (g : Grant) (gid : ℕ) → contains (listed_gids caller g) gid ≡ (contains g.gids gid && contains (gids_of caller) gid)
unfolding listed_gids
contains_listed caller g gid = contains-filter (contains g.gids) (gids_of caller) gid
