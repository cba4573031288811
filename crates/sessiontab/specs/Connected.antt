-- The sessions by client.
use Rattle.std.specs.Prelude.{ℕ}
use Rattle.std.specs.Coded.{Coded, coded_ℕ}
use Rattle.std.specs.Ordering.{nat_cmp}
use Rattle.std.specs.FinMap as map
use Rattle.std.specs.FinMap.{FinMap}
use Rattle.capbits.specs.Maps.{change_at}
use Rattle.sessiontab.specs.declared.session.Session.{Session}
use Rattle.sessiontab.specs.contracts.session.Session as session

-- the session of each client that is connected
abbrev pub SessionMap : Type 0
SessionMap = FinMap nat_cmp Session

-- a map is stored as its entries
abbrev pub session_map_code : Coded SessionMap
session_map_code = map.code coded_ℕ session.the_row.coded

-- the sessions with the client's one changed by f, where it has one
abbrev pub change_session : (Session → Session) → SessionMap → ℕ → SessionMap
change_session f sessions client = change_at f sessions client
