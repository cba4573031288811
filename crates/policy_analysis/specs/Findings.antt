-- What is found of each grant of a list.
use Rattle.std.specs.Prelude.{◌≡◌, ◌↔◌, ℕ, ◌+◌, ◌<◌, List, length, slice_index_or, MatchOption, IsTrue, IsFalse}
use Rattle.capspec.specs.declared.grant.Grant.{Grant}
use Rattle.capgrant.specs.Question.{contains}
use Rattle.policy_analysis.specs.declared.finding.Finding.{Finding}
use Rattle.policy_analysis.specs.Linting.{AllowsNothing, AllowsReading, AreRedundant, HasCephText, IsUndoing, KeepsSquash}

-- What is found of this grant, where those of these numbers are redundant.
pub record IsFinding (grants : List Grant) (numbers : List ℕ) (g : Grant) (f : Finding) : Type 0 where
  pub redundant : f.is_redundant ≡ contains numbers f.grant
  pub nothing : IsTrue f.allows_nothing → AllowsNothing g
  pub something : IsFalse f.allows_nothing → AllowsReading g
  pub undoing : MatchOption f.undoing (KeepsSquash grants g) (IsUndoing grants g)
  pub ceph : IsTrue f.has_ceph_text ↔ HasCephText g

-- One finding for each grant, with its number, and the grants that are said to be redundant are so together.
pub record AreFindings (grants : List Grant) (findings : List Finding) : Type 0 where
  pub numbers : List ℕ
  pub redundant : AreRedundant grants numbers
  pub one_each : length findings ≡ length grants
  pub numbered : (i : ℕ) (f : Finding) → i < length findings → (slice_index_or findings i f).grant ≡ i + 1
  pub each : (i : ℕ) (g : Grant) (f : Finding) → i < length findings → IsFinding grants numbers (slice_index_or grants i g) (slice_index_or findings i f)
