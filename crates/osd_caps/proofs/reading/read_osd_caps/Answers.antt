use Rattle.osd_caps.proofs.Gathered.{gathers_first}
use Rattle.osd_caps.proofs.reading.read_osd_caps.Goals as goal

pub loop-found-init : goal.loop-found-init
loop-found-init c = gathers_first c.args.text.now c.skip-rest.result.now c.new-grants.result.items c.new-grants.ensures.items c.skip-rest.ensures.rest c.skip-rest.ensures.shorter
