-- What each client is permitted, where the session of one has ended or changed.
use Rattle.std.proofs.Common.{◌≡◌, ◌==◌, ℕ, Bool, true, false, cond, Option, Some, None, List, refl, sym, ap, subst, ◌∙◌, arith, nat_eq}
use Rattle.std.proofs.lemmas.Bool.{eqb-true, false_from_ne_true}
use Rattle.std.specs.Option.{option_map}
use Rattle.std.specs.FinMap as map
use Rattle.inotree.specs.Tree.{path_of}
use Rattle.captable.proofs.ByHolder.{entry_at-without_client}
use Rattle.captable.specs.Known.{sets_of}
use Rattle.sessiontab.specs.Calls.{with_status}
use Rattle.sessiontab.specs.declared.session.Status.{Status}
use Rattle.lockmachine.proofs.PolicyElsewhere.{permitted-stays}
use Rattle.lockmachine.specs.Policy.{permitted_to, subject_of}
use Rattle.capcore.proofs.Common.{ArePermittedIn, ClientId, ClientView, ClientViews, Entry, Holder, Node, Scene, Session, SessionChange, SessionTable, State, Table}
use Rattle.capcore.proofs.Common.{alike-itself, apart_client, change-at, changed_sessions, entry_at, entry_at-without_client_other, is_end, new_grants, permitted}
use Rattle.capcore.proofs.Common.{permitted_of, session_changed, table_left, without_client}
use Rattle.capcore.proofs.SessionChanged.{apart, session_changed-other}

-- ---- who is left

-- where a session ended, another client
left-other : (t : Table) (client : ClientId) (k : Holder) (e : Entry) → entry_at (without_client t client) k ≡ Some e → (k.client.0 == client.0) ≡ false
left-other t client k e there = false_from_ne_true (k.client.0 == client.0) (λ mine.
    let none : entry_at (without_client t client) k ≡ None = entry_at-without_client t client k (ap (λ n. record { 0 = n }) (eqb-true k.client.0 client.0 mine)) in absurd (cc))

-- and who had that entry
pub left-was : (b : Bool) (t : Table) (client : ClientId) (k : Holder) (e : Entry) → entry_at (table_left b t client) k ≡ Some e → entry_at t k ≡ Some e
left-was false t client k e there = there
left-was true t client k e there = sym (entry_at-without_client_other t client k (apart_client k.client client (left-other t client k e there))) ∙ there

-- so where of each the same is kept, it is kept what was permitted
module _ (was now : ClientViews) (s : Scene) (b : Bool) (client : ClientId) (table : Table) (left : table ≡ table_left b s.table client)
    (kept : (k : Holder) (e : Entry) → entry_at table k ≡ Some e → sets_of now k ≡ sets_of was k) where
  had : (k : Holder) (e : Entry) → entry_at table k ≡ Some e → entry_at s.table k ≡ Some e
  had k e there = left-was b s.table client k e (ap (λ (t : Table). entry_at t k) (sym left) ∙ there)

  pub left-permitted : ArePermittedIn was s → ArePermittedIn now (record s { table = table })
  left-permitted may k e there = ap (option_map (λ (sets : ClientView). sets.permitted)) (kept k e there) ∙ may k e (had k e there)

-- ---- what is permitted

-- policy reads no status
marked : (status : Status) (b : Bool) (o : Option Session) (path : Option (List (List ℕ))) (node : Option Node)
    → subject_of (cond b (option_map (λ (session : Session). record session { status = status }) o) o) path node ≡ subject_of o path node
marked status false o path inode = refl
marked status true None path inode = refl
marked status true (Some session) None inode = refl
marked status true (Some session) (Some path) None = refl
marked status true (Some session) (Some path) (Some node) = refl

marked-subject : (t : SessionTable) (client other : ℕ) (status : Status) (path : Option (List (List ℕ))) (node : Option Node)
    → subject_of (map.get (with_status t client status).sessions other) path node ≡ subject_of (map.get t.sessions other) path node
marked-subject t client other status path node =
    ap (λ (o : Option Session). subject_of o path node) (change-at t.sessions client other (λ (session : Session). record session { status = status }))
    ∙ marked status (nat_eq client other) (map.get t.sessions other) path node

-- so a session that goes on is the same to it, unless it has other grants
same-subject : (t : SessionTable) (client other : ℕ) (change : SessionChange) (path : Option (List (List ℕ))) (node : Option Node) → is_end change ≡ false → new_grants change ≡ None
    → subject_of (map.get (changed_sessions t client change).sessions other) path node ≡ subject_of (map.get t.sessions other) path node
same-subject t client other change path inode still none = grind (arith, marked-subject)

module _ (sets : ClientViews) (old : State) (client : ClientId) (change : SessionChange) (now : Scene) (is : now ≡ (session_changed old client change).scene)
    (was : ArePermittedIn sets (record old.scene { table = now.table })) where
  -- what is kept of an entry is so still, where the same is permitted
  same-permitted : (k : Holder) (e : Entry) → entry_at now.table k ≡ Some e
      → permitted old.scene.fs old.scene.tree (changed_sessions old.scene.sessions client.0 change) k ≡ permitted old.scene.fs old.scene.tree old.scene.sessions k
      → permitted_of sets k ≡ Some (permitted now.fs now.tree now.sessions k)
  same-permitted k e there same = was k e there ∙ ap Some (sym same) ∙ ap (λ (s : Scene). Some (permitted s.fs s.tree s.sessions k)) (sym is)

  -- as it is to other clients
  pub other-permitted : (k : Holder) (e : Entry) → entry_at now.table k ≡ Some e → (k.client.0 == client.0) ≡ false → permitted_of sets k ≡ Some (permitted now.fs now.tree now.sessions k)
  other-permitted k e there off =
      same-permitted k e there
      (permitted-stays old.scene.fs old.scene.tree old.scene.tree old.scene.sessions (changed_sessions old.scene.sessions client.0 change) k (alike-itself old.scene.tree k.ino.0)
      (session_changed-other old.scene.sessions client change k.client.0 (apart k.client.0 client.0 off)))

  -- as it is to each whose entry is left, where the client has no other grants
  pub kept-permitted : new_grants change ≡ None → ArePermittedIn sets now
  kept-permitted none k e there = by_end (is_end change) refl
    where
      by_end : (b : Bool) → is_end change ≡ b → permitted_of sets k ≡ Some (permitted now.fs now.tree now.sessions k)
      by_end true ends =
          other-permitted k e there
          (left-other old.scene.table client k e (subst (λ b. entry_at (table_left b old.scene.table client) k ≡ Some e) ends (ap (λ (s : Scene). entry_at s.table k) (sym is) ∙ there)))
      by_end false still =
          let path = path_of old.scene.tree.nodes k.ino.0 in
          let node = map.get old.scene.tree.nodes k.ino.0 in
          same-permitted k e there (ap (permitted_to old.scene.fs) (same-subject old.scene.sessions client.0 k.client.0 change path node still none))
