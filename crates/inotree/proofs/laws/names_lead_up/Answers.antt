use Rattle.inotree.proofs.Below.{child-stands, deep-climbs}
use Rattle.inotree.proofs.Within.{depth-path, within-climbs}
use Rattle.inotree.proofs.laws.names_lead_up.Goals as goal

pub returns-clause-within : goal.returns-clause-within
returns-clause-within c = within-climbs

pub returns-clause-depth : goal.returns-clause-depth
returns-clause-depth c = depth-path

pub returns-clause-child : goal.returns-clause-child
returns-clause-child c = child-stands

pub returns-clause-too_deep : goal.returns-clause-too_deep
returns-clause-too_deep c = deep-climbs
