-- Tables of sessions, step by step from one where nobody is connected and nobody was thrown out.
use Rattle.std.specs.Prelude.{ℕ, Bool, Option, List, [], ◌∷◌, codes}
use Rattle.std.specs.List.{fold}
use Rattle.std.specs.FinMap as map
use Rattle.std.specs.FinSet as set
use Rattle.capbits.specs.Refusal.{first_failing}
use Rattle.capbits.specs.declared.refusal.Refusal.{Refusal}
use Rattle.capspec.specs.declared.flags.Flags4.TheVariants.{R, Rw, Rwp, Rwps, Rws}
use Rattle.capspec.specs.declared.grant.Grant.{Grant}
use Rattle.sessiontab.specs.Calls.{with_evicted, with_grants, with_session, with_status, without_blocked, without_session}
use Rattle.sessiontab.specs.Table.{SessionTable}
use Rattle.sessiontab.specs.Tests.{blocked_test, connected_test, evict_tests, new_session_tests, session_tests, stale_tests}
use Rattle.sessiontab.specs.declared.session.Session.{Session}
use Rattle.sessiontab.specs.declared.session.Status.TheVariants.{Open, Stale}
use Rattle.tests_core.specs.Verdicts.{allow, caller}

-- ---- what is done, to the client of a number

abbrev pub Step : Type 0
Step = SessionTable → SessionTable

abbrev pub after : List Step → SessionTable
after steps = fold (λ table step. step table) (record { sessions = map.empty; blocked = set.empty }) steps

-- it connects, as the user and the one group of its number
abbrev pub opens : ℕ → List Grant → Step
opens client grants table = with_session table client (caller client client) grants

abbrev pub is_not_heard_of : ℕ → Step
is_not_heard_of client table = with_status table client Stale

abbrev pub renews : ℕ → Step
renews client table = with_status table client Open

abbrev pub gets_grants : ℕ → List Grant → Step
gets_grants client grants table = with_grants table client grants

abbrev pub closes : ℕ → Step
closes client table = without_session table client

abbrev pub is_thrown_out : ℕ → Step
is_thrown_out client table = with_evicted table client

abbrev pub is_let_in : ℕ → Step
is_let_in client table = without_blocked table client

-- five clients connect. The second is thrown out, the third is not heard of and gets other grants, and the fifth goes
abbrev pub coming_and_going : List Step
coming_and_going =
    opens 1 (allow Rws ∷ [])
    ∷ opens 3 (record (allow R) { path = codes "a" ∷ [] } ∷ allow Rwps ∷ [])
    ∷ opens 2 (allow Rw ∷ [])
    ∷ opens 4 (allow Rw ∷ [])
    ∷ is_not_heard_of 3
    ∷ is_thrown_out 2
    ∷ gets_grants 3 (allow Rwp ∷ [])
    ∷ opens 5 (allow Rw ∷ [])
    ∷ closes 5
    ∷ []

-- ---- what is then there

abbrev pub found : List Step → ℕ → Option Session
found steps client = map.get (after steps).sessions client

abbrev pub is_blocked : List Step → ℕ → Bool
is_blocked steps client = set.contains (after steps).blocked client

-- ---- what is refused

abbrev pub to_open : List Step → ℕ → Option Refusal
to_open steps client = first_failing (new_session_tests (after steps) client)

abbrev pub to_close : List Step → ℕ → Option Refusal
to_close steps client = first_failing (connected_test (after steps) client ∷ [])

abbrev pub to_be_stale : List Step → ℕ → Option Refusal
to_be_stale steps client = first_failing (session_tests (after steps) client)

abbrev pub to_renew : List Step → ℕ → Option Refusal
to_renew steps client = first_failing (stale_tests (after steps) client)

abbrev pub to_evict : List Step → ℕ → Option Refusal
to_evict steps client = first_failing (evict_tests (after steps) client)

abbrev pub to_unblock : List Step → ℕ → Option Refusal
to_unblock steps client = first_failing (blocked_test (after steps) client ∷ [])
