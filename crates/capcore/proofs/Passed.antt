-- What rejects a request, test by test.
use Rattle.std.proofs.Common.{◌≡◌, List, [], Option, Some, None, arith}
use Rattle.std.specs.Option.{option_map}
use Rattle.capbits.specs.declared.refusal.Refusal.{Refusal}
use Rattle.capstep.specs.Direct.{IsDirect}
use Rattle.capstep.specs.Judge.{first_denied, rejection_by, rejection_of}
use Rattle.capstep.specs.Needs.{Need}
use Rattle.capstep.specs.declared.rejection.Rejection.TheVariants.{ByTest}
use Rattle.capcore.proofs.CommonPieces.{Event, Rejection, Scene, State, Test, first_failing, judged, rejection_reply}

rejection_by-rejection : (s : Scene) (o : Option Refusal) (d : Option Need) (l : Option Refusal) (r : Rejection) → rejection_by s o d None ≡ Some r → rejection_by s o d l ≡ Some r
rejection_by-rejection s o d l r e = grind arith

-- what rejects a request rejects it whatever is still to be tested
pub rejection : (s : Scene) (tests : List Test) (needed : List Need) (more : List Test) (r : Rejection) → rejection_of s tests needed [] ≡ Some r → rejection_of s tests needed more ≡ Some r
rejection s tests needed more r e = rejection_by-rejection s (first_failing tests) (first_denied s needed) (first_failing more) r e

rejection_by-passed : (s : Scene) (o : Option Refusal) (d : Option Need) (l : Option Refusal) → rejection_by s o d None ≡ None → rejection_by s o d l ≡ option_map ByTest l
rejection_by-passed s o d l e = grind arith

-- where nothing rejected it so far, the rest of the tests decides
pub passed : (s : Scene) (tests : List Test) (needed : List Need) (more : List Test) → rejection_of s tests needed [] ≡ None → rejection_of s tests needed more ≡ option_map ByTest (first_failing more)
passed s tests needed more e = rejection_by-passed s (first_failing tests) (first_denied s needed) (first_failing more) e

rejection_by-tests : (s : Scene) (o : Option Refusal) (d : Option Need) (l : Option Refusal) → rejection_by s o d l ≡ None → o ≡ None
rejection_by-tests s o d l e = grind arith

-- where nothing rejects a request, no test before policy failed
pub no_test : (s : Scene) (tests : List Test) (needed : List Need) (more : List Test) → rejection_of s tests needed more ≡ None → first_failing tests ≡ None
no_test s tests needed more e = rejection_by-tests s (first_failing tests) (first_denied s needed) (first_failing more) e

-- ---- the event by itself

-- what rejects an event is its answer, and nothing changes
pub direct-rejection : (old : State) (e : Event) (r : Rejection) → judged old.scene e ≡ Some r → IsDirect old e (rejection_reply r) old
direct-rejection old e r is = grind arith
