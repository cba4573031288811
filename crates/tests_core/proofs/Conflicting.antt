-- What an answer unfolds to compute which clients conflict.
use Rattle.std.specs.Prelude.{⊤}
use Rattle.cluster_audit.specs.Conflicts.{conflicting_caps}
use Rattle.tests_core.proofs.Unfolded.{sets}

unfoldable pub holdings : ⊤
unfolding sets conflicting_caps
holdings = tt
