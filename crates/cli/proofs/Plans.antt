-- Plans that grow line by line.
use Rattle.std.proofs.Common.{◌≡◌, ℕ, ◌+◌, ◌≤◌, ◌<◌, List, ◌∷◌, length, sym, subst, arith, inl, inr}
use Rattle.std.specs.Prelude.{Err, IfErr, IsErrAnd, Ok, Result}
use Rattle.texts.specs.ScriptLines.{lines}
use Rattle.cli.specs.declared.serve_fault.ServeFault.{ServeFault}
use Rattle.cli.specs.Jobs.{IsFaultAt, StopsAt, Takes, TakesAll, Work, no_work}

-- what is known when so many lines were taken: what the lines that are left give, all lines give
pub record SoFar (now : Work) (script rest : List ℕ) (number : ℕ) : Type 0 where
  pub work : (new : Work) → TakesAll now (lines rest) new → TakesAll no_work (lines script) new
  pub stops : (fault : ServeFault) → StopsAt now number (lines rest) fault → StopsAt no_work 1 (lines script) fault
  pub left : number + length rest ≤ length script + 1

pub so_far_more : (now mid : Work) (script rest text behind : List ℕ) (number : ℕ) → SoFar now script rest number → lines rest ≡ text ∷ lines behind → length behind < length rest → Takes now text mid → SoFar mid script behind (number + 1)
so_far_more now mid script rest text behind number so is shorter takes = record {
  work = λ new all. so.work new (subst (λ (ls : List (List ℕ)). TakesAll now ls new) (sym is) (mid, takes, all));
  stops = λ fault at. so.stops fault (subst (λ (ls : List (List ℕ)). StopsAt now number ls fault) (sym is) (inr (mid, takes, at)));
  left = omega (arith, so.left, shorter);
}

pub stopped_at : (now : Work) (script rest text : List ℕ) (more : List (List ℕ)) (number : ℕ) (fault : ServeFault) → SoFar now script rest number → lines rest ≡ text ∷ more → IsFaultAt now number text fault → StopsAt no_work 1 (lines script) fault
stopped_at now script rest text more number fault so is at = so.stops fault (subst (λ (ls : List (List ℕ)). StopsAt now number ls fault) (sym is) (inl at))

-- a fault that was handed on
pub handed_on : (T : Type 0) (P : ServeFault → Type 0) (fault : ServeFault) (result : Result T ServeFault) → IsErrAnd result (λ reported. reported ≡ fault) → P fault → IfErr result P
handed_on T P fault (Ok done) reported why = absurd reported
handed_on T P fault (Err found) reported why = subst P (sym reported) why
