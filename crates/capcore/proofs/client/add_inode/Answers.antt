use Rattle.step_acts.proofs.InoSets.{widens-tried}
use Rattle.capcore.proofs.Among.{among-tried}
use Rattle.capcore.proofs.client.add_inode.Goals as goal

pub returns-clause-widens : goal.returns-clause-widens
returns-clause-widens c = widens-tried c.args.ino.0 c.args.inodes.now c.insert.new.self c.insert.result c.insert.ensures.ok c.insert.ensures.err

pub returns-clause-has_inodes : goal.returns-clause-has_inodes
returns-clause-has_inodes c = among-tried c.args.ino.0 c.args.inodes.now c.insert.new.self c.insert.result c.insert.ensures.ok
