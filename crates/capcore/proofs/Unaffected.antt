-- New sessions, clients that come off the blocklist, new inodes and snapshots leave alone all that entries and requests depend on.
use Rattle.std.proofs.Common.{◌≡◌, ℕ, ◌+◌, Bool, false, cond, Option, Some, None, List, sym, ap, subst, ◌∙◌, Contains, arith}
use Rattle.std.proofs.lemmas.List.Elements.{All-contains, All-weaker}
use Rattle.std.specs.Cmp.{nat_cmp_total}
use Rattle.std.specs.FinSet.{FinSet}
use Rattle.std.specs.Option.{option_map}
use Rattle.std.specs.Ordering.{nat_cmp}
use Rattle.std.specs.FinMap as map
use Rattle.std.specs.FinSet as set
use Rattle.capbits.specs.declared.caller.Caller.{Caller}
use Rattle.capspec.specs.declared.grant.Grant.{Grant}
use Rattle.capbits.proofs.Maps.{insert-other}
use Rattle.inotree.proofs.Elsewhere.{field-changed, not_next}
use Rattle.inotree.specs.Calls.{changed, with_new}
use Rattle.sessiontab.proofs.Elsewhere.{session-stays}
use Rattle.sessiontab.specs.Calls.{with_session, without_blocked}
use Rattle.capcore.proofs.Knowing.{known-alike}
use Rattle.capcore.proofs.LeftAlone.{none_if, stays-known}
use Rattle.lockmachine.proofs.CountsStay.{counted-born, counted-dropped}
use Rattle.lockmachine.proofs.PolicyElsewhere.{permitted-changed, permitted-new, permitted-session, want-changed, want-new, want-session}
use Rattle.lockmachine.specs.Locks.{without_ino}
use Rattle.lockmachine.specs.Counts as counting
use Rattle.policy_view.proofs.Likeness.{like-unseen, shows-tree}
use Rattle.policy_view.specs.Visible.{IsLike, Shows, visible_of}
use Rattle.capstep.specs.Noted.{view_of}
use Rattle.capstep.specs.NotedChanges.{view}
use Rattle.capcore.proofs.Common.{AreCounted, AreCountedIn, Attr, ClientViews, CountMap, EntryRow, HoldAlike, InodeLocks, IsSound, IsTree, KeptScene, Kind}
use Rattle.capcore.proofs.Common.{LockMap, Node, Nodes, Scene, SessionTable, SparesEntries, State, StateMap, Table, first_failing, found-contains, in_sync}
use Rattle.capcore.proofs.Common.{is_row_of, new_session_tests, no_locks, permitted, plain, row_of-entry, stays-sound, with_ino, with_parts}
use Rattle.capcore.specs.UnderWay.{AreKept, IsWhole, state_of}
use Rattle.capcore.specs.declared.parts.CoreState.{CoreState}

-- the locks that an inode begins with, where there is an inode
abbrev first_of : Option Node → Option InodeLocks
first_of o = option_map (λ node. in_sync) o

through : (b : Bool) (node : Node) (o : Option Node) → first_of (cond b (Some node) o) ≡ cond b (Some in_sync) (first_of o)
through b node o = grind arith

module _ (s : State) (sound : IsSound s) where
  none_new : (ino : ℕ) → map.contains_key s.scene.tree.nodes ino ≡ false → map.get s.scene.locks.states ino ≡ first_of (map.get s.scene.tree.nodes ino)
  none_new ino out = no_locks s sound ino out ∙ sym (ap first_of (none_if (map.get s.scene.tree.nodes ino) out))

  -- of each entry the same is permitted
  abbrev SameMay : Nodes → SessionTable → EntryRow → Type 0
  SameMay tree sessions row = permitted s.scene.fs tree sessions row.holder ≡ permitted s.scene.fs s.scene.tree s.scene.sessions row.holder

  -- whoever is on the blocklist
  blocked-spares : (blocked : FinSet nat_cmp) → SparesEntries s.scene s.scene.tree (record s.scene.sessions { blocked = blocked }) s.scene.locks.states
  blocked-spares blocked = grind arith

  pub nothing-spares : SparesEntries s.scene s.scene.tree s.scene.sessions s.scene.locks.states
  nothing-spares = blocked-spares s.scene.sessions.blocked

  pub unblocked-spares : (client : ℕ) → SparesEntries s.scene s.scene.tree (without_blocked s.scene.sessions client) s.scene.locks.states
  unblocked-spares client = blocked-spares (set.remove s.scene.sessions.blocked client)

  pub session-spares : (client : ℕ) (caller : Caller) (grants : List Grant) → first_failing (new_session_tests s.scene.sessions client) ≡ None
      → SparesEntries s.scene s.scene.tree (with_session s.scene.sessions client caller grants) s.scene.locks.states
  session-spares client caller grants passed = grind (arith, session-stays, All-weaker, permitted-session, want-session)

  -- an inode changes, and stays where it stands and whose it is
  pub changed-spares : (f : Node → Node) (ino : ℕ) → ((n : Node) → (f n).site ≡ n.site) → ((n : Node) → (f n).attr ≡ n.attr)
      → SparesEntries s.scene (changed f s.scene.tree ino) s.scene.sessions s.scene.locks.states
  changed-spares f ino site attr = grind (arith, none_new, field-changed, All-weaker, permitted-changed, want-changed)

  -- a new inode, with its locks
  pub birth-spares : (kind : Kind) (dir : ℕ) (name : List ℕ) (attr : Attr) → IsTree s.scene.tree
      → SparesEntries s.scene (with_new s.scene.tree kind dir name attr) s.scene.sessions (with_ino s.scene.locks (s.scene.tree.last + 1)).states
  birth-spares kind dir name attr tree = grind (arith, none_new, through, All-weaker, permitted-new, want-new, not_next, insert-other nat_cmp_total map.nat_cmp-IsAntisymmetric, map.get-insert {X = InodeLocks} nat_cmp_total, map.get-insert {X = Node} nat_cmp_total)

-- ---- what no reader sees of an inode

pub changed-unseen : (p : CoreState) (old : State) (f : Node → Node) (ino : ℕ) (tree : Nodes) → state_of p ≡ old → ((n : Node) → visible_of (f n) ≡ visible_of n) → tree ≡ changed f p.scene.tree ino
    → Shows (view_of old) (view tree p.scene.sessions.sessions)
changed-unseen p old f ino tree is same after =
    subst (λ (s : State). Shows (view_of s) (view tree p.scene.sessions.sessions)) is
    (shows-tree p.scene.tree tree p.scene.sessions.sessions (subst (IsLike p.scene.tree) (sym after) (like-unseen p.scene.tree f ino same)))

-- ---- what is kept of entries

-- it is kept where they hold alike
pub alike-kept : (sets : ClientViews) (s : Scene) (new : Table) → HoldAlike s.table new → AreKept sets s → AreKept sets (record s { table = new })
alike-kept sets s new alike kept = (known-alike sets s new alike kept.0, λ k e there. let was = alike k e there in kept.1 k was.0 was.1)

-- ---- so they keep all that holds between two steps

-- the scene with what is kept beside it
abbrev pub kept_scene : Scene → ClientViews → CountMap → KeptScene
kept_scene s kept counts = record { fs = s.fs; tree = s.tree; sessions = s.sessions; table = record { entries = s.table; kept = kept }; locks = record { locks = s.locks; counts = counts } }

module _ (p : CoreState) (whole : IsWhole p) where
  -- the parts with another tree, other sessions, and other locks with their counts
  abbrev beside : Nodes → SessionTable → StateMap → CountMap → CoreState
  beside tree sessions states counts = record p { scene = kept_scene (with_parts (plain p.scene) tree sessions states) p.scene.table.kept counts }

  left-whole : (tree : Nodes) (sessions : SessionTable) (states : StateMap) (counts : CountMap) → SparesEntries (plain p.scene) tree sessions states
      → AreCountedIn (beside tree sessions states counts).scene → IsWhole (beside tree sessions states counts)
  left-whole tree sessions states counts spares counted = (
    stays-sound (state_of p) whole.0 tree sessions states spares,
    whole.1,
    (
      stays-known (state_of p) whole.0 tree sessions states spares p.scene.table.kept whole.2.0,
      λ k e there.
          let row : EntryRow = record { holder = k; entry = e } in
          let inside : Contains p.scene.table.entries.rows row = found-contains (is_row_of k) p.scene.table.entries.rows row (row_of-entry p.scene.table.entries k e there) in
          whole.2.1 k e there ∙ ap Some (sym (All-contains (SameMay (state_of p) whole.0 tree sessions) p.scene.table.entries.rows row spares.permits inside)),
    ),
    counted,
  )

  pub session-whole : (client : ℕ) (caller : Caller) (grants : List Grant) → first_failing (new_session_tests p.scene.sessions client) ≡ None
      → IsWhole (record p { scene = record p.scene { sessions = with_session p.scene.sessions client caller grants } })
  session-whole client caller grants passed =
      left-whole p.scene.tree (with_session p.scene.sessions client caller grants) p.scene.locks.locks.states p.scene.locks.counts (session-spares (state_of p) whole.0 client caller grants passed) whole.3

  pub unblocked-whole : (client : ℕ) → IsWhole (record p { scene = record p.scene { sessions = without_blocked p.scene.sessions client } })
  unblocked-whole client = left-whole p.scene.tree (without_blocked p.scene.sessions client) p.scene.locks.locks.states p.scene.locks.counts (unblocked-spares (state_of p) whole.0 client) whole.3

  pub changed-whole : (f : Node → Node) (ino : ℕ) → ((n : Node) → (f n).site ≡ n.site) → ((n : Node) → (f n).attr ≡ n.attr)
      → IsWhole (record p { scene = record p.scene { tree = changed f p.scene.tree ino } })
  changed-whole f ino site attr =
      left-whole (changed f p.scene.tree ino) p.scene.sessions p.scene.locks.locks.states p.scene.locks.counts (changed-spares (state_of p) whole.0 f ino site attr) whole.3

  pub birth-whole : (kind : Kind) (dir : ℕ) (name : List ℕ) (attr : Attr) → IsTree p.scene.tree
      → IsWhole (record p { scene = record p.scene { tree = with_new p.scene.tree kind dir name attr; locks = counting.with_ino p.scene.locks (p.scene.tree.last + 1) } })
  birth-whole kind dir name attr tree =
      let locks = counting.with_ino p.scene.locks (p.scene.tree.last + 1) in
      left-whole (with_new p.scene.tree kind dir name attr) p.scene.sessions locks.locks.states locks.counts (birth-spares (state_of p) whole.0 kind dir name attr tree)
      (counted-born p.scene.table.entries p.scene.locks (p.scene.tree.last + 1) whole.3)

  -- locks that were added for a new inode, and are dropped again
  pub undone-whole : (ino : ℕ) → without_ino (with_ino p.scene.locks.locks ino) ino ≡ p.scene.locks.locks
      → IsWhole (record p { scene = record p.scene { locks = counting.without_ino (counting.with_ino p.scene.locks ino) ino } })
  undone-whole ino undone =
      let counts = (counting.without_ino (counting.with_ino p.scene.locks ino) ino).counts in
      let counted = counted-dropped p.scene.table.entries (counting.with_ino p.scene.locks ino) ino (counted-born p.scene.table.entries p.scene.locks ino whole.3) in
      subst (λ (m : LockMap). IsWhole (record p { scene = record p.scene { locks = record { locks = m; counts = counts } } })) (sym undone)
      (whole.0, whole.1, whole.2, subst (λ (m : LockMap). AreCounted p.scene.table.entries (record { locks = m; counts = counts })) undone counted)
