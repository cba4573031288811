use Rattle.std.proofs.Common.{◌≡◌, take}
use Rattle.std.specs.Prelude.{codes}
use Rattle.std.specs.List.{join_by}
use Rattle.release_grants.specs.Written.{mds_grant_text}
use Rattle.release_grants.proofs.writing.write_grants.Given as goal

abbrev pub invariant-loop-place : goal.invariant-loop-place
invariant-loop-place l = l.text.items ≡ join_by mds_grant_text (codes ", ") (take l.place l.grants)
