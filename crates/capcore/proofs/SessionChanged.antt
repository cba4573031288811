-- A client's session ends, is marked or has other grants, by itself: it affects the inodes where the client is.
use Rattle.std.proofs.Common.{◌≡◌, ◌≢◌, ◌≤◌, ℕ, ◌==◌, Bool, true, false, not, cond, None, List, refl, sym, ap, subst, ◌∙◌, Contains, true≢false, arith, eq-eqb}
use Rattle.std.proofs.Common.{IsTrue, All, filter}
use Rattle.std.proofs.lemmas.Bool.{eqb-false, eqb-true, false_from_ne_true, ne_eqb, not-true}
use Rattle.std.proofs.lemmas.List.Elements.{All-contains, All-contains_itself, All-filter, All-weaker, filter_passes}
use Rattle.std.specs.Option.{option_map}
use Rattle.std.specs.FinMap as map
use Rattle.capbits.proofs.Maps.{remove-at}
use Rattle.captable.proofs.ByInode.{entries_on-without_client}
use Rattle.sessiontab.specs.Connected.{SessionMap, change_session}
use Rattle.capcore.proofs.EntryRequests.{IsSoundInRow, sound-stays, sound_in_row-left}
use Rattle.lockmachine.proofs.Finding.{fails_at, find_none}
use Rattle.lockmachine.proofs.SameOutside.{outside-dropped, outside-itself, outside-then}
use Rattle.capstep.specs.DueEndings.{is_to}
use Rattle.lockmachine.specs.Elsewhere.{IsSameOutside}
use Rattle.lockmachine.specs.Requests.{is_of_client as is_asked_by}
use Rattle.capcore.proofs.Common.{Affects, ClientId, Direct, EntryRow, Ino, IsAffectedEntry, IsLockAtRest, IsSound, IsTable, IsTable-without_client, LockMap}
use Rattle.capcore.proofs.Common.{Part, Reply, Request, Says, Scene, Session, SessionChange, SessionTable, State, StateMap, Table, alike-itself, change-at}
use Rattle.capcore.proofs.Common.{changed_sessions, contains-filter, direct, dropped_by, effect, effect_unless, entries_on, first_for, has_session, is_end}
use Rattle.capcore.proofs.Common.{is_for, is_of_client, is_of_inode, judged, lock_at, locks_left, messages_left, session_changed, session_event, sound-pinned}
use Rattle.capcore.proofs.Common.{table_left, without_client}
use Rattle.capcore.proofs.EndedIn.{all_pass}

-- ---- the event

abbrev pub session_direct : State → ClientId → SessionChange → Direct
session_direct old client change = record { state = session_changed old client change; reply_due = Says Reply.Done; dropped = dropped_by (is_end change) old.scene.locks client }

effect-session_changed : (old : State) (client : ClientId) (change : SessionChange) → effect old (session_event client change) ≡ session_direct old client change
effect-session_changed old client change = grind arith

pub direct-session_changed : (old : State) (client : ClientId) (change : SessionChange) → judged old.scene (session_event client change) ≡ None → direct old (session_event client change) ≡ session_direct old client change
direct-session_changed old client change free = ap (effect_unless old (session_event client change)) free ∙ effect-session_changed old client change

-- ---- the sessions of others

module _ (sessions : SessionMap) (client other : ℕ) where
  removed-other : other ≢ client → map.get (map.remove sessions client) other ≡ map.get sessions other
  removed-other off = remove-at sessions client other ∙ ap (λ b. cond b None (map.get sessions other)) (ne_eqb client other (λ is. off (sym is)))

  changed-other : (f : Session → Session) → other ≢ client → map.get (change_session f sessions client) other ≡ map.get sessions other
  changed-other f off = change-at sessions client other f ∙ ap (λ b. cond b (option_map f (map.get sessions other)) (map.get sessions other)) (ne_eqb client other (λ is. off (sym is)))

  -- who has a session has one still, if one is changed
  changed-has : (f : Session → Session) → map.contains_key (change_session f sessions client) other ≡ map.contains_key sessions other
  changed-has f = grind (arith, change-at)

pub session_changed-other : (t : SessionTable) (client : ClientId) (change : SessionChange) (other : ℕ) → other ≢ client.0 → map.get (changed_sessions t client.0 change).sessions other ≡ map.get t.sessions other
session_changed-other t client change other off = grind (arith, changed-other, removed-other)

-- where the session does not end, it is there
session_changed-has : (t : SessionTable) (client : ClientId) (change : SessionChange) (other : ℕ) → is_end change ≡ false → has_session (changed_sessions t client.0 change) other ≡ has_session t other
session_changed-has t client change other still = grind (arith, changed-has)

-- whose session ends is left nowhere

pub apart : (a b : ℕ) → (a == b) ≡ false → a ≢ b
apart a b off same = true≢false (sym (eq-eqb a b same) ∙ off)

-- ---- what is left

module _ {T : Type 0} (mine : T → Bool) (Q R : T → Type 0) (xs : List T) (all : All Q xs) where
  -- of those that are not the client's
  left-ended : ((x : T) → mine x ≡ false → Q x → R x) → All R (filter (λ x. not (mine x)) xs)
  left-ended keeps =
      All-weaker (Contains (filter (λ x. not (mine x)) xs)) R one (filter (λ x. not (mine x)) xs) (All-contains_itself (filter (λ x. not (mine x)) xs))
    where
      one : (x : T) → Contains (filter (λ x. not (mine x)) xs) x → R x
      one x inside =
          let passes = All-contains (λ x. not (mine x) ≡ true) (filter (λ x. not (mine x)) xs) x (filter_passes (λ x. not (mine x)) xs) inside in
          keeps x (not-true (mine x) passes) (All-contains Q xs x all (contains-filter (λ x. not (mine x)) xs x inside))

module _ (old : State) (client : ClientId) (change : SessionChange) (sound : IsSound old) (table : IsTable old.scene.table) where
  abbrev sessions : SessionTable
  sessions = changed_sessions old.scene.sessions client.0 change

  -- the session of another client, or any where none ends
  has_by : (b : Bool) → is_end change ≡ b → (other : ℕ) → (b ≡ true → (other == client.0) ≡ false) → has_session sessions other ≡ has_session old.scene.sessions other
  has_by b is other off = grind (arith, session_changed-other, eqb-false, session_changed-has)

  -- ---- outside of where the client is

  module _ (from : ℕ → Bool) (entries : (row : EntryRow) → Contains old.scene.table.rows row → is_of_client client row ≡ true → from row.holder.ino.0 ≡ true)
      (requests : (q : Request) → Contains old.scene.locks.queue q → is_asked_by client q ≡ true → from q.ino.0 ≡ true) where
    abbrev with_theirs : Scene
    with_theirs = record old.scene { sessions = sessions }

    not_mine : (row : EntryRow) → Contains old.scene.table.rows row → from row.holder.ino.0 ≡ false → is_of_client client row ≡ false
    not_mine row inside off = false_from_ne_true (is_of_client client row) (λ mine. true≢false (sym (entries row inside mine) ∙ off))

    outside-sessions : IsSameOutside from old.scene with_theirs
    outside-sessions = grind (arith, session_changed-other, eqb-false, not_mine, alike-itself)

    -- of those on another inode none is the client's
    others-left : (other : Ino) → from other.0 ≡ false → entries_on (without_client old.scene.table client) other ≡ entries_on old.scene.table other
    others-left other off =
        entries_on-without_client old.scene.table client other
        ∙ all_pass (λ row. not (is_of_client client row)) (entries_on old.scene.table other)
        (λ row inside.
        let on = All-contains (λ row. is_of_inode other row ≡ true) (entries_on old.scene.table other) row (filter_passes (is_of_inode other) old.scene.table.rows) inside in
        ap not (not_mine row (contains-filter (is_of_inode other) old.scene.table.rows row inside) (ap from (eqb-true row.holder.ino.0 other.0 on) ∙ off)))

    outside-left : (b : Bool) → IsSameOutside from with_theirs (record with_theirs { table = table_left b old.scene.table client; locks = locks_left b old.scene.locks client })
    outside-left b = grind (arith, outside-itself, outside-then, others-left, alike-itself, outside-dropped)

    -- ---- what is left there

    left-states : (b : Bool) → (locks_left b old.scene.locks client).states ≡ old.scene.locks.states
    left-states b = grind arith

    abbrev HasSession : ClientId → Type 0
    HasSession other = IsTrue (has_session sessions other.0)

    left-waiting : (b : Bool) → is_end change ≡ b → All (λ q. HasSession q.client) (locks_left b old.scene.locks client).queue
    left-waiting false is =
        All-weaker (λ q. IsTrue (has_session old.scene.sessions q.client.0)) (λ q. HasSession q.client) (λ q has. has_by false is q.client.0 (λ e. absurd (true≢false (sym e))) ∙ has) old.scene.locks.queue sound.waiting
    left-waiting true is =
        left-ended (is_asked_by client) (λ q. IsTrue (has_session old.scene.sessions q.client.0)) (λ q. HasSession q.client) old.scene.locks.queue sound.waiting
        (λ q off has. has_by true is q.client.0 (λ e. off) ∙ has)

    left-messages : (b : Bool) → is_end change ≡ b → All (λ m. HasSession m.client) (messages_left b old.messages client)
    left-messages false is =
        All-weaker (λ m. IsTrue (has_session old.scene.sessions m.client.0)) (λ m. HasSession m.client) (λ m has. has_by false is m.client.0 (λ e. absurd (true≢false (sym e))) ∙ has) old.messages sound.messages
    left-messages true is =
        left-ended (is_to client) (λ m. IsTrue (has_session old.scene.sessions m.client.0)) (λ m. HasSession m.client) old.messages sound.messages
        (λ m off has. has_by true is m.client.0 (λ e. off) ∙ has)

    -- nobody waits where nobody waited
    left-none : (b : Bool) (ino : ℕ) (part : Part) → first_for old.scene.locks.queue ino part ≡ None → first_for (locks_left b old.scene.locks client).queue ino part ≡ None
    left-none false ino part none = none
    left-none true ino part none =
        let kept : Request → Bool = λ q. not (is_asked_by client q) in
        find_none (is_for ino part) (filter kept old.scene.locks.queue)
        (λ q inside. fails_at (is_for ino part) old.scene.locks.queue none q (contains-filter kept old.scene.locks.queue q inside))

    left-lock : (b : Bool) (ino : ℕ) (part : Part) → lock_at (locks_left b old.scene.locks client) ino part ≡ lock_at old.scene.locks ino part
    left-lock b ino part = grind arith

    -- each entry is left as it was
    abbrev first : Scene
    first = (session_changed old client change).scene

    one-left : (row : EntryRow) → has_session sessions row.holder.client.0 ≡ has_session old.scene.sessions row.holder.client.0 → IsSoundInRow old.scene row → IsAffectedEntry first row
    one-left row has in_row = sound_in_row-left old.scene first row has (left-states (is_end change)) (λ ino. refl) in_row

    left-entries : (b : Bool) → is_end change ≡ b → All (IsAffectedEntry first) (table_left b old.scene.table client).rows
    left-entries false is =
        All-weaker (IsSoundInRow old.scene) (IsAffectedEntry first) (λ row in_row. one-left row (has_by false is row.holder.client.0 (λ e. absurd (true≢false (sym e)))) in_row) old.scene.table.rows
        (sound-stays old sound table)
    left-entries true is =
        left-ended (is_of_client client) (IsSoundInRow old.scene) (IsAffectedEntry first) old.scene.table.rows (sound-stays old sound table)
        (λ row off in_row. one-left row (has_by true is row.holder.client.0 (λ e. off)) in_row)

    -- each was there
    was-row : (b : Bool) (row : EntryRow) → Contains (table_left b old.scene.table client).rows row → Contains old.scene.table.rows row
    was-row false row inside = inside
    was-row true row inside = contains-filter (λ row. not (is_of_client client row)) old.scene.table.rows row inside

    pub session_changed-affects : Affects from old (session_changed old client change)
    session_changed-affects = record {
      same = outside-then from old.scene with_theirs first outside-sessions (outside-left (is_end change));
      states = left-states (is_end change);
      exist = λ other. refl;
      locked = λ other. ap (λ (m : StateMap). map.contains_key m other) (left-states (is_end change)) ∙ sound.locked other;
      waiting = left-waiting (is_end change) refl;
      messages = left-messages (is_end change) refl;
      at_lock = λ ino part on none.
          left-none (is_end change) ino part
          (subst (IsLockAtRest old.scene ino part) (sym (left-lock (is_end change) ino part) ∙ none) (sound.at_rest.each ino part));
      each = λ row inside on. All-contains (IsAffectedEntry first) first.table.rows row (left-entries (is_end change) refl) inside;
      calm = λ row inside none. absurd (sound-pinned old sound row (was-row (is_end change) row inside) none);
    }

-- ---- the table, and numbers

pub session_changed-table : (b : Bool) (t : Table) (client : ClientId) → IsTable t → IsTable (table_left b t client)
session_changed-table false t client is = is
session_changed-table true t client is = IsTable-without_client t client is

pub session_changed-below : (count : ℕ) (b : Bool) (t : Table) (client : ClientId) → All (λ row. row.entry.seq ≤ count) t.rows → All (λ row. row.entry.seq ≤ count) (table_left b t client).rows
session_changed-below count false t client all = all
session_changed-below count true t client all = All-filter (λ row. not (is_of_client client row)) (λ row. row.entry.seq ≤ count) t.rows all

pub session_changed-made : (b : Bool) (t : Table) (client : ClientId) → (table_left b t client).made ≡ t.made
session_changed-made b t client = grind arith

pub session_changed-last : (b : Bool) (locks : LockMap) (client : ClientId) → (locks_left b locks client).last ≡ locks.last
session_changed-last b locks client = grind arith
