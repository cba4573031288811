use Rattle.capgrant.proofs.Together.{has_by_mask}
use Rattle.capgrant.proofs.gids.has_gid.Goals as goal

pub returns : goal.returns
returns c = has_by_mask c.args.gids c.args.gid c.fits-gids.0
