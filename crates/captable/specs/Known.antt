-- The sets that are kept of entries, by the names that rules and contracts above call them.
pub use Rattle.captable.specs.Kept.{no_sets}
use Rattle.std.specs.Prelude.{List, Option}
use Rattle.capbits.specs.Caps.{Caps}
use Rattle.captable.specs.declared.entry.Holder.{Holder}
use Rattle.captable.specs.declared.entry.ClientView.{ClientView}
use Rattle.captable.specs.Kept.{KeptRow, pending_beside, permitted_beside, sets_beside}

-- what is kept of each holder that has an entry
abbrev pub ClientViews : Type 0
ClientViews = List KeptRow

-- what is kept of a holder, where something is
abbrev pub sets_of : ClientViews → Holder → Option ClientView
sets_of kept k = sets_beside kept k

-- what the client is to know of, and what it is permitted, where something is kept of the holder
abbrev pub known_of : ClientViews → Holder → Option Caps
known_of kept k = pending_beside kept k

abbrev pub permitted_of : ClientViews → Holder → Option Caps
permitted_of kept k = permitted_beside kept k
