use Rattle.std.proofs.Common.{◌≡◌, drop}
use Rattle.capffi.proofs.Bare.{fits}
use Rattle.capffi.proofs.plain.has_fit_names.Given as goal

abbrev pub invariant-loop-byte : goal.invariant-loop-byte
invariant-loop-byte l = fits l.names l.bytes (drop l.byte-index l.path) ≡ fits 31 255 l.path
