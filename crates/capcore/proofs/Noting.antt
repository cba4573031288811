-- What becomes of a session is noted.
use Rattle.std.proofs.Common.{◌≡◌, ℕ, true, false, None, Some, [], ◌∷◌, List, refl, sym, subst, arith}
use Rattle.std.specs.FinMap as map
use Rattle.capspec.specs.declared.grant.Grant.{Grant}
use Rattle.capbits.proofs.Maps.{change-at}
use Rattle.inotree.specs.Tree.{Nodes}
use Rattle.sessiontab.specs.Calls.{with_grants}
use Rattle.sessiontab.specs.Changes.{changed_sessions, is_end, new_grants}
use Rattle.sessiontab.specs.Connected.{SessionMap, change_session}
use Rattle.sessiontab.specs.declared.change.SessionChange.{SessionChange}
use Rattle.sessiontab.specs.declared.session.Status.{Status}
use Rattle.capstep.proofs.Noting.{changes-one, changes-unseen}
use Rattle.policy_view.proofs.Likeness.{clients-unseen, shows-sessions}
use Rattle.policy_view.specs.Changes.{AreChanges}
use Rattle.policy_view.specs.Visible.{Shows, connected_client}
use Rattle.policy_view.specs.declared.change.ViewChange.{ViewChange}
use Rattle.capstep.specs.NotedChanges.{view}
use Rattle.capcore.proofs.CommonPieces.{ClientId, SessionTable}
use Rattle.capcore.specs.SessionChange.{Notes}

-- nobody sees a status
marked-seen : (sessions : SessionMap) (client other : ℕ) (status : Status) → connected_client sessions other ≡ connected_client (change_session (λ session. record session { status = status }) sessions client) other
marked-seen sessions client other status = (clients-unseen sessions (λ session. record session { status = status }) client (λ session. refl)).each other

module _ (client : ClientId) (change : SessionChange) where
  seen : (sessions : SessionTable) (other : ℕ) → is_end change ≡ false → new_grants change ≡ None → connected_client sessions.sessions other ≡ connected_client (changed_sessions sessions client.0 change).sessions other
  seen sessions other still none = grind (arith, marked-seen, change-at)

  unseen : (tree : Nodes) (sessions : SessionTable) → is_end change ≡ false → new_grants change ≡ None → Shows (view tree sessions.sessions) (view tree (changed_sessions sessions client.0 change).sessions)
  unseen tree sessions still none =
      shows-sessions tree sessions.sessions (changed_sessions sessions client.0 change).sessions (record { each = λ other. seen sessions other still none })

  ended : (sessions : SessionTable) → is_end change ≡ true → (changed_sessions sessions client.0 change).sessions ≡ map.remove sessions.sessions client.0
  ended sessions ends = grind arith

  regranted : (sessions : SessionTable) (grants : List Grant) → new_grants change ≡ Some grants → (changed_sessions sessions client.0 change).sessions ≡ (with_grants sessions client.0 grants).sessions
  regranted sessions grants are = grind arith

  -- the session ends
  pub notes-ended : is_end change ≡ true → Notes (ViewChange.Ended client ∷ []) client change
  notes-ended ends = record {
    lead = λ tree sessions.
        subst (λ (m : SessionMap). AreChanges (ViewChange.Ended client ∷ []) (view tree sessions.sessions) (view tree m)) (sym (ended sessions ends))
        (changes-one [] (ViewChange.Ended client ∷ []) (view tree sessions.sessions) (ViewChange.Ended client) refl refl);
  }

  -- it has other grants
  pub notes-regranted : (grants : List Grant) → new_grants change ≡ Some grants → Notes (ViewChange.Regranted client grants ∷ []) client change
  notes-regranted grants are = record {
    lead = λ tree sessions.
        subst (λ (m : SessionMap). AreChanges (ViewChange.Regranted client grants ∷ []) (view tree sessions.sessions) (view tree m)) (sym (regranted sessions grants are))
        (changes-one [] (ViewChange.Regranted client grants ∷ []) (view tree sessions.sessions) (ViewChange.Regranted client grants) refl refl);
  }

  -- all else nobody sees
  pub notes-unseen : is_end change ≡ false → new_grants change ≡ None → Notes [] client change
  notes-unseen still none = record {
    lead = λ tree sessions. changes-unseen [] (view tree sessions.sessions) (view tree (changed_sessions sessions client.0 change).sessions) refl (unseen tree sessions still none);
  }
