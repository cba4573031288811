use Rattle.osd_caps.proofs.Opened.{every_name}
use Rattle.osd_caps.proofs.laws.no_name_is_every_name.Goals as goal

pub returns : goal.returns
returns c = every_name
