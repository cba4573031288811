-- The tests of what is asked of the sessions, each with what is answered where it fails.
use Rattle.std.specs.Prelude.{ℕ, Bool, true, false, not, nat_le, if◌then◌else◌, Option, Some, List, [], ◌∷◌}
use Rattle.std.specs.FinMap as map
use Rattle.std.specs.FinSet as set
use Rattle.capbits.specs.declared.refusal.Refusal.TheVariants as refusal
use Rattle.capbits.specs.Refusal.{Test, refused_if}
use Rattle.sessiontab.specs.declared.session.Status.{Status}
use Rattle.sessiontab.specs.declared.session.Status.TheVariants.{Open}
use Rattle.sessiontab.specs.Table.{SessionTable}
use Rattle.sessiontab.specs.Calls.{has_session, status_of}

-- the client has a session, which is not stale
abbrev pub is_open : Option Status → Bool
is_open (Some Open) = true
is_open status = false

-- the client has a session, open or stale
abbrev pub connected_test : SessionTable → ℕ → Test
connected_test table client = refused_if (not (has_session table client)) refusal.NoSession

-- the client has an open session
abbrev pub session_tests : SessionTable → ℕ → List Test
session_tests table client = connected_test table client ∷ refused_if (not (is_open (status_of table client))) refusal.SessionStale ∷ []

-- the client has a stale session
abbrev pub stale_tests : SessionTable → ℕ → List Test
stale_tests table client = connected_test table client ∷ refused_if (is_open (status_of table client)) refusal.NotStale ∷ []

-- the client's session may be marked so: as open where it is stale, as all else where it is open
abbrev pub mark_tests : SessionTable → ℕ → Status → List Test
mark_tests table client status = if is_open (Some status) then stale_tests table client else session_tests table client

-- the client may have a new session
abbrev pub new_session_tests : SessionTable → ℕ → List Test
new_session_tests table client =
    refused_if (set.contains table.blocked client) refusal.Blocklisted
    ∷ refused_if (has_session table client) refusal.SessionOpen
    ∷ refused_if (nat_le 64 (map.len table.sessions)) refusal.Limit
    ∷ []

-- the client has a session, and may be thrown out
abbrev pub evict_tests : SessionTable → ℕ → List Test
evict_tests table client = connected_test table client ∷ refused_if (nat_le 1024 (set.len table.blocked)) refusal.Limit ∷ []

-- the client is on the blocklist
abbrev pub blocked_test : SessionTable → ℕ → Test
blocked_test table client = refused_if (not (set.contains table.blocked client)) refusal.NotBlocked
