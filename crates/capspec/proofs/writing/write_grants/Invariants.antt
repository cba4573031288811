use Rattle.std.proofs.Common.{◌≡◌, take}
use Rattle.std.specs.Prelude.{codes}
use Rattle.std.specs.List.{join_by}
use Rattle.capspec.specs.Written.{grant_text}
use Rattle.capspec.proofs.writing.write_grants.Given as goal

abbrev pub invariant-loop-place : goal.invariant-loop-place
invariant-loop-place l = l.text.items ≡ join_by grant_text (codes ", ") (take l.place l.grants)
