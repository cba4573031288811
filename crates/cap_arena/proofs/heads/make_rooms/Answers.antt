use Rattle.std.proofs.Common.{ap, ◌∙◌}
use Rattle.cap_arena.specs.Heads.{without_room}
use Rattle.cap_arena.proofs.HeadMaps.{room-back}
use Rattle.cap_arena.proofs.heads.make_rooms.Goals as goal

pub returns-in-Err-clause-err : goal.returns-in-Err-clause-err
returns-in-Err-clause-err c = (
  c.drop_room.ensures ∙ ap (λ m. without_room m c.args.ino) c.in_ok-make_room.ensures.ok ∙ room-back c.args.inodes.now c.args.ino c.requires,
  c.in-Err.ensures.err,
)
