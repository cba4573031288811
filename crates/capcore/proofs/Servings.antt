-- Requests that are served among the moves of a step.
use Rattle.std.proofs.Common.{◌≡◌, List, [], ◌∷◌, ◌++◌, Option, Some, None, is_some, if◌then◌else◌, refl, sym, subst, arith, ◌∙◌, ap}
use Rattle.std.specs.Option.{option_map}
use Rattle.capstep.specs.Headline.{denial, denied_as}
use Rattle.lockmachine.specs.Policy.{failures}
use Rattle.capcore.proofs.Common.{Access, As_judged, Made, Makes, MakesAll, MayEndAs, Need, Outcome, Refusal, Rejection, Request, Rule, Scene, Served}
use Rattle.capcore.proofs.Common.{ServedDenied, Test, Without_memory, first_denied, first_failing, judged_again, operation_after, operation_before}
use Rattle.capcore.proofs.Common.{operation_needs, outcome_unless, rejection_by, rejection_of}

-- ---- what is denied

-- the denial among what rejects
abbrev pub denial_in : Option Rejection → Option (Access × List Rule)
denial_in (Some (Rejection.ByPolicy access rules)) = Some (access, rules)
denial_in rejected = None

by_policy : (s : Scene) (o : Option Refusal) (d : Option Need) (l : Option Refusal)
    → denial_in (rejection_by s o d l) ≡ (if is_some o then None else option_map (λ n. (n.access, failures s.fs s.tree s.sessions n.holder n.access)) d)
by_policy s (Some refusal) d l = refl
by_policy s None (Some n) l = refl
by_policy s None None (Some refusal) = refl
by_policy s None None None = refl

-- of what rejects an event or a request that has to pass these, the denial
pub denial-judged : (s : Scene) (tests : List Test) (needed : List Need) (more : List Test) → denial_in (rejection_of s tests needed more) ≡ denial s tests needed
denial-judged s tests needed more = by_policy s (first_failing tests) (first_denied s needed) (first_failing more)

-- a request that is served
outcome-denied : (s : Scene) (q : Request) (j : Option Rejection) → denied_as (outcome_unless s q j) ≡ denial_in j
outcome-denied s q j = grind arith

ended-denied : (s : Scene) (q : Request) (o : Outcome) → MayEndAs s q o → denied_as o ≡ denial_in (judged_again s q)
ended-denied s q o (As_judged) = outcome-denied s q (judged_again s q)
ended-denied s q o (Without_memory free takes) = sym (ap denial_in free)

-- ---- each among the moves

same_next : (old a b : Scene) (m : Made) → Makes old m a → Makes old m b → a ≡ b
same_next old a b m x y = grind arith

-- each serving was made on the scene to which the moves before it lead
may_end : (first last s : Scene) (moves earlier later : List Made) (q : Request) (o : Outcome) →
    MakesAll first moves last → moves ≡ earlier ++ Served q o ∷ later → MakesAll first earlier s → MayEndAs s q o
may_end first last s [] [] later q o made splits there = absurd (cc)
may_end first last s [] (x ∷ xs) later q o made splits there = absurd (cc)
may_end first last s (m ∷ ms) [] later q o (mid, one, rest) splits there =
    let same : m ≡ Served q o = cc in
    let one' : Makes first (Served q o) mid = subst (λ (m : Made). Makes first m mid) same one in
    subst (λ (t : Scene). MayEndAs t q o) (sym there) one'.2
may_end first last s (m ∷ ms) (x ∷ xs) later q o (mid, one, rest) splits (mid', one', rest') =
    let same : m ≡ x = cc in
    let tail : ms ≡ xs ++ Served q o ∷ later = cc in
    let here : mid' ≡ mid = same_next first mid' mid x one' (subst (λ (m : Made). Makes first m mid) same one) in
    may_end mid last s ms xs later q o rest tail (subst (λ (t : Scene). MakesAll t xs s) here rest')

pub served-denied : (first last : Scene) (moves : List Made) → MakesAll first moves last → ServedDenied first moves
served-denied first last moves made earlier later q o s splits there =
    ended-denied s q o (may_end first last s moves earlier later q o made splits there)
    ∙ denial-judged s (operation_before s q.ino.0 q.operation) (operation_needs s q.client q.ino.0 q.operation) (operation_after s q.ino.0 q.operation)
