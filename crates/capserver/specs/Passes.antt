-- Passes as contracts see them.
use Rattle.std.specs.Prelude.{◌≡◌, ◌<◌, ◌≤◌, ◌⊎◌, ℕ, ◌+◌, List, [], ◌∷◌, refl}
use Rattle.std.specs.Coded.{Coded, code_by, coded_ℕ, coded×}
use mathlib.Core.List.{IsPrefix}
use Rattle.capbits.specs.declared.ids.PassId.{PassId}
use Rattle.capstep.specs.declared.row.Row.{Row}
use Rattle.capserver.specs.declared.passes.StartFault.{StartFault}
use Rattle.capserver.specs.declared.passes.StartFault.TheVariants.{BadCount, NoMemory, NoReader}
use Rattle.snapshot.specs.Rows.{rows_code}

-- a pass's number, how many of its calls were answered, and the rows of the history that it knows
pub record PassState : Type 0 where
  pub number : ℕ
  pub calls : ℕ
  pub known : List Row

abbrev pub pass_state : ℕ → ℕ → List Row → PassState
pass_state number calls known = record { number = number; calls = calls; known = known }

abbrev pub pass_state_code : Coded PassState
pass_state_code =
    code_by (ℕ × (ℕ × List Row)) (coded× coded_ℕ (coded× coded_ℕ rows_code)) (λ p. (p.number, (p.calls, p.known)))
    (λ p. record { number = p.0; calls = p.1.0; known = p.1.1 }) (λ _. refl)

-- the number as the core sees it
abbrev pub pass_id : PassState → PassId
pass_id p = record { 0 = p.number }

-- numbered one by one behind n; none has called yet, and none knows a row
abbrev pub AllNew : ℕ → List PassState → Type 0
AllNew n [] = Unit {0}
AllNew n (p ∷ ps) = (p ≡ pass_state (n + 1) 0 []) × AllNew (n + 1) ps

-- what each pass knows begins the rows
abbrev pub AllBegin : List Row → List PassState → Type 0
AllBegin rows [] = Unit {0}
AllBegin rows (p ∷ ps) = IsPrefix p.known rows × AllBegin rows ps

-- so many passes are too few or too many; or there can be so many, and memory was missing, for what they share or for the place from
-- which one of them reads
abbrev pub IsStartFault : ℕ → StartFault → Type 0
IsStartFault count BadCount = (count ≡ 0) ⊎ (32 < count)
IsStartFault count NoMemory = (0 < count) × (count ≤ 32)
IsStartFault count NoReader = (0 < count) × (count ≤ 32)
