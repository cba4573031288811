-- What each call on the sessions changes and answers.
use Rattle.std.specs.Prelude.{Bool, List, Option, ℕ}
use Rattle.std.specs.Option.{option_map}
use Rattle.std.specs.FinMap as map
use Rattle.std.specs.FinSet as set
use Rattle.capbits.specs.declared.caller.Caller.{Caller}
use Rattle.capspec.specs.declared.grant.Grant.{Grant}
use Rattle.sessiontab.specs.declared.session.Status.{Status}
use Rattle.sessiontab.specs.declared.session.Status.TheVariants.{Open}
use Rattle.sessiontab.specs.Connected.{change_session}
use Rattle.sessiontab.specs.Table.{SessionTable}

-- the client is connected, by an open or a stale session
abbrev pub has_session : SessionTable → ℕ → Bool
has_session table client = map.contains_key table.sessions client

-- whether the client's session is open or stale, where it has one
abbrev pub status_of : SessionTable → ℕ → Option Status
status_of table client = option_map (λ session. session.status) (map.get table.sessions client)

-- the table with an open session for the client
abbrev pub with_session : SessionTable → ℕ → Caller → List Grant → SessionTable
with_session table client caller grants = record table { sessions = map.insert table.sessions client (record { status = Open; caller = caller; grants = grants }) }

-- the table without the client's session
abbrev pub without_session : SessionTable → ℕ → SessionTable
without_session table client = record table { sessions = map.remove table.sessions client }

-- the table with this status in the client's session
abbrev pub with_status : SessionTable → ℕ → Status → SessionTable
with_status table client status = record table { sessions = change_session (λ session. record session { status = status }) table.sessions client }

-- the table with these grants in the client's session
abbrev pub with_grants : SessionTable → ℕ → List Grant → SessionTable
with_grants table client grants = record table { sessions = change_session (λ session. record session { grants = grants }) table.sessions client }

-- the table without the client's session, with the client on the blocklist
abbrev pub with_evicted : SessionTable → ℕ → SessionTable
with_evicted table client = record { sessions = map.remove table.sessions client; blocked = set.insert table.blocked client }

-- the table without the client on the blocklist
abbrev pub without_blocked : SessionTable → ℕ → SessionTable
without_blocked table client = record table { blocked = set.remove table.blocked client }
