use Rattle.queries.proofs.ComparedMore.{one_with_releases}
use Rattle.queries.proofs.laws.one_text_for_releases_beside.Goals as goal

pub returns : goal.returns
returns c = one_with_releases
