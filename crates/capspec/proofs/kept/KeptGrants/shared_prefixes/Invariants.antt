use Rattle.std.proofs.Common.{◌≡◌, length, map}
use Rattle.capspec.specs.SharedPrefix.{AreSharedPrefixes}
use Rattle.capspec.proofs.kept.KeptGrants.shared_prefixes.Given as goal

abbrev pub invariant-loop-place : goal.invariant-loop-place
invariant-loop-place l = (length l.shared_prefix.items ≡ l.place) × AreSharedPrefixes (map (λ name. name.now) l.names) l.grants l.shared_prefix.items
