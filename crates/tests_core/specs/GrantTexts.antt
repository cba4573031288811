-- Texts of grants, and what is wrong with them.
use Rattle.std.specs.Prelude.{ℕ, zero, suc, List, ◌++◌, codes}
use Rattle.capspec.specs.declared.fault.SpecFault.{SpecFault}
use Rattle.capspec.specs.declared.fault.SpecFaultKind.{SpecFaultKind}

-- a fault at a byte
abbrev pub fault : SpecFaultKind → ℕ → SpecFault
fault kind at = record { at = at; kind = kind }

-- `allow r`, behind so many `allow r,`
abbrev pub behind_others : ℕ → List ℕ
behind_others zero = codes "allow r"
behind_others (suc n) = codes "allow r," ++ behind_others n
