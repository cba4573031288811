-- What the search has gone through.
use Rattle.std.specs.Prelude.{◌≡◌, Bool, true, List}
use Rattle.capspec.specs.declared.grant.Grant.{Grant}
use Rattle.capgrant.specs.Question.{Question}
use Rattle.capgrant.specs.Verdict.{granted}
use Rattle.policy_analysis.specs.declared.asking.Accesses.{Accesses}
use Rattle.policy_analysis.specs.Asking.{is_wanted}
use Rattle.policy_analysis.specs.Comparing.{is_root}

-- the old grants cover the new ones in each question of root for one of these accesses, or in each of others than root
abbrev pub CoversAs : Accesses → List Grant → List Grant → Bool → Type 0
CoversAs accesses old new root = (q : Question) → is_wanted accesses q.access ≡ true → is_root q.caller ≡ root → granted q new ≡ true → granted q old ≡ true
