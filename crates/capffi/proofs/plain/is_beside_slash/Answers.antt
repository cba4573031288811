use Rattle.std.proofs.Common.{rules}
use Rattle.capffi.proofs.Slashes.{around}
use Rattle.capffi.proofs.plain.is_beside_slash.Goals as goal

pub returns-then-path-place-ne47 : goal.returns-then-path-place-ne47
returns-then-path-place-ne47 c = around c.args.path.now c.args.place c.requires.behind (search rules)
