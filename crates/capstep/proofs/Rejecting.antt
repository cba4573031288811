-- What rejects a request, from what rejects its parts.
use Rattle.std.proofs.Common.{◌≡◌, ℕ, List, [], ◌∷◌, Option, Some, None, refl, ap, ◌∙◌, arith}
use Rattle.std.specs.Option.{option_map}
use Rattle.capbits.specs.Refusal.{Test}
use Rattle.capstep.specs.Judge.{first_denied, rejection_by}
use Rattle.capstep.specs.declared.rejection.Rejection.TheVariants.{ByTest}
use Rattle.capstep.proofs.Common.{Access, ClientId, Need, Refusal, Rejection, Scene, denial_of}
use Rattle.capstep.proofs.Common.{first_failing, need, rejection_of}

-- ---- policy alone

-- one access is denied as it is by itself
pub denial-rejection : (s : Scene) (client : ClientId) (ino : ℕ) (access : Access) →
    denial_of s.fs s.tree s.sessions (need client ino access).holder access ≡ rejection_of s [] (need client ino access ∷ []) []
denial-rejection s client ino access = grind arith

-- where no test rejects a request, the first access that it needs does, if that is denied
module _ (s : Scene) (n : Need) (ns : List Need) (tests more : List Test) where
  pub denied-first : (d : Rejection) → first_failing tests ≡ None → denial_of s.fs s.tree s.sessions n.holder n.access ≡ Some d → rejection_of s tests (n ∷ ns) more ≡ Some d
  denied-first d passed is = grind arith

-- ---- tests and policy

module _ (s : Scene) (tests : List Test) (needed : List Need) (more : List Test) where
  -- a test before policy that fails is what rejects it
  pub rejection-before : (r : Refusal) → first_failing tests ≡ Some r → rejection_of s tests needed more ≡ Some (ByTest r)
  rejection-before r is = ap (λ o. rejection_by s o (first_denied s needed) (first_failing more)) is

  -- where they pass, what policy alone rejects
  pub rejection-denied : (d : Rejection) → first_failing tests ≡ None → rejection_of s [] needed [] ≡ Some d → rejection_of s tests needed more ≡ Some d
  rejection-denied d passed denied = ap (λ o. rejection_by s o (first_denied s needed) (first_failing more)) passed ∙ by_need (first_denied s needed) denied
    where
      by_need : (n : Option Need) → rejection_by s None n None ≡ Some d → rejection_by s None n (first_failing more) ≡ Some d
      by_need None is = absurd (cc)
      by_need (Some n) is = is

  -- where policy rejects nothing either, a test behind it
  pub rejection-after : first_failing tests ≡ None → rejection_of s [] needed [] ≡ None → rejection_of s tests needed more ≡ option_map ByTest (first_failing more)
  rejection-after passed free = ap (λ o. rejection_by s o (first_denied s needed) (first_failing more)) passed ∙ by_need (first_denied s needed) free
    where
      by_need : (n : Option Need) → rejection_by s None n None ≡ None → rejection_by s None n (first_failing more) ≡ option_map ByTest (first_failing more)
      by_need None is = refl
      by_need (Some n) is = absurd (cc)

  -- what nothing rejects passed the tests before policy and those behind it
  pub passed-all : rejection_of s tests needed more ≡ None → (first_failing tests ≡ None) × (first_failing more ≡ None)
  passed-all free = grind arith
