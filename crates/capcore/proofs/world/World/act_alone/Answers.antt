use Rattle.std.proofs.Common.{subst}
use Rattle.capcore.proofs.Common.{IsSound, IsTree, State}
use Rattle.capcore.proofs.Steps.{alone-answered, no_list-direct}
use Rattle.capcore.proofs.world.World.act_alone.Goals as goal

pub alone-requires : goal.alone-requires
alone-requires c = no_list-direct c.args.self.now c.act.new.self c.args.event.now c.in_ok-reply.reply c.requires.lists c.in_ok-reply.ensures.direct

pub returns-clause-replied : goal.returns-clause-replied
returns-clause-replied c =
    alone-answered c.args.self.now (subst IsSound c.self.view_is c.self.invariant.0) (subst (λ (s : State). IsTree s.scene.tree) c.self.view_is c.alloc-alloc.ensures.sound) c.args.event.now (c.requires.affects, c.requires.lists, c.requires.changes_session) c.in_ok-reply.reply c.act.new.self
    c.in_ok-reply.ensures.direct c.alone.result c.requires.table c.alone.ensures.reply c.alone.ensures.ended
