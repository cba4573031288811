use Rattle.std.proofs.Common.{sym}
use Rattle.capspec.proofs.Fronts.{split_front, split_rest}
use Rattle.release_grants.proofs.bytes.split_while.Goals as goal

pub returns-clause-front : goal.returns-clause-front
returns-clause-front c = sym (split_front c.args.set c.args.text.now _ _ c.split_while.ensures)

pub returns-clause-rest : goal.returns-clause-rest
returns-clause-rest c = sym (split_rest c.args.set c.args.text.now _ _ c.split_while.ensures)
