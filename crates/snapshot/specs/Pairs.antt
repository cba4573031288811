-- Pairs as contracts see them.
use Rattle.snapshot.specs.declared.pair.Pair.{Pair}
use Rattle.snapshot.specs.declared.place.Origin.{Origin}

-- of which server it is
abbrev pub origin_of : Pair → Origin
origin_of pair = pair.writer.desk.shown.value.origin
