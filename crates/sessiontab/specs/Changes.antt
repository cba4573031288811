-- What may become of a client's session: what is tested of it, and the sessions then.
use Rattle.std.specs.Prelude.{ℕ, Bool, true, false, List, [], ◌∷◌, Option, Some, None}
use Rattle.capbits.specs.Refusal.{Test}
use Rattle.capspec.specs.declared.grant.Grant.{Grant}
use Rattle.sessiontab.specs.Calls.{with_evicted, with_grants, with_status, without_session}
use Rattle.sessiontab.specs.Table.{SessionTable}
use Rattle.sessiontab.specs.Tests.{connected_test, evict_tests, mark_tests}
use Rattle.sessiontab.specs.declared.change.SessionChange.{SessionChange}
use Rattle.sessiontab.specs.declared.change.SessionChange.TheVariants.{Close, Evict, Mark, Regrant}

-- the session ends
abbrev pub is_end : SessionChange → Bool
is_end Close = true
is_end Evict = true
is_end change = false

-- the grants that it has then, where they are others
abbrev pub new_grants : SessionChange → Option (List Grant)
new_grants (Regrant grants) = Some grants.now
new_grants change = None

-- what is tested
abbrev pub session_change_tests : SessionTable → ℕ → SessionChange → List Test
session_change_tests table client Close = connected_test table client ∷ []
session_change_tests table client (Mark status) = mark_tests table client status
session_change_tests table client (Regrant grants) = connected_test table client ∷ []
session_change_tests table client Evict = evict_tests table client

-- the sessions then
abbrev pub changed_sessions : SessionTable → ℕ → SessionChange → SessionTable
changed_sessions table client Close = without_session table client
changed_sessions table client (Mark status) = with_status table client status
changed_sessions table client (Regrant grants) = with_grants table client grants.now
changed_sessions table client Evict = with_evicted table client
