-- A new session leaves every other.
use Rattle.std.proofs.Common.{◌≡◌, ℕ, Bool, true, false, cond, List, Option, Some, None, refl, subst, ◌∙◌}
use Rattle.std.specs.Cmp.{nat_cmp_total}
use Rattle.std.specs.FinMap as map
use Rattle.std.specs.Ordering.{eq_by_cmp, nat_cmp}
use Rattle.capbits.specs.declared.caller.Caller.{Caller}
use Rattle.capbits.specs.Refusal.{first_failing}
use Rattle.capspec.specs.declared.grant.Grant.{Grant}
use Rattle.sessiontab.specs.declared.session.Session.{Session}
use Rattle.sessiontab.specs.Table.{SessionTable}
use Rattle.sessiontab.specs.Calls.{has_session, with_session}
use Rattle.sessiontab.specs.Tests.{new_session_tests}
use Rattle.sessiontab.proofs.Sound.{not_connected, same_key}

module _ (table : SessionTable) (client : ℕ) (caller : Caller) (grants : List Grant) (other : ℕ) where
  by_test : (b : Bool) → eq_by_cmp nat_cmp other client ≡ b → (other ≡ client → ⊥) → (new : Option Session) → cond b new (map.get table.sessions other) ≡ map.get table.sessions other
  by_test true is off new = absurd (off (same_key other client is))
  by_test false is off new = refl

  -- that of another client
  pub session-other : (other ≡ client → ⊥) → map.get (with_session table client caller grants).sessions other ≡ map.get table.sessions other
  session-other off = map.get-insert nat_cmp_total table.sessions client _ other ∙ by_test (eq_by_cmp nat_cmp other client) refl off (Some _)

  -- and so each that was there, where the client may have a new one
  pub session-stays : first_failing (new_session_tests table client) ≡ None → has_session table other ≡ true → map.get (with_session table client caller grants).sessions other ≡ map.get table.sessions other
  session-stays passed there = session-other (λ is. let none = not_connected table client passed in let had = subst (λ c. has_session table c ≡ true) is there in cc)
