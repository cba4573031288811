-- What each event by itself comes to, from what the calls below answered.
use Rattle.std.proofs.Common.{◌≡◌, ℕ, ◌+◌, List, [], ◌∷◌, Option, Some, None, refl, ap, ◌∙◌, arith}
use Rattle.std.specs.Option.{option_map}
use Rattle.std.specs.FinMap as map
use Rattle.capbits.specs.declared.mode.Mode.{Mode}
use Rattle.capcore.proofs.Passed.{direct-rejection}
use Rattle.capstep.specs.Direct.{made_event}
use Rattle.capcore.proofs.Common.{ByTest, ClientId, Directory, Event, File, Ino, IsDirect, Kind, Need, Refusal, Rejection, Reply, Says, Snapshot, State, Test}
use Rattle.capcore.proofs.Common.{Write, basic_tests, direct, effect_unless, first_failing, judged, need, new_inode_tests, new_snapshot_tests}
use Rattle.capcore.proofs.Common.{old_snapshot_tests, owned_by, passed, rejection, rejection_of, rejection_reply, with_birth}

-- the tests behind policy, where what stands before them rejects nothing
module _ (old : State) (e : Event) (tests more : List Test) (needed : List Need) (splits : judged old.scene e ≡ rejection_of old.scene tests needed more) (free : rejection_of old.scene tests needed [] ≡ None) where
  rest : judged old.scene e ≡ option_map ByTest (first_failing more)
  rest = splits ∙ passed old.scene tests needed more free

  refused : (r : Refusal) → first_failing more ≡ Some r → IsDirect old e (Reply.Refused r) old
  refused r is = direct-rejection old e (ByTest r) (rest ∙ ap (option_map ByTest) is)

module _ (old : State) (client : ClientId) (ino : Ino) (name : List ℕ) (free : rejection_of old.scene (basic_tests old.scene client ino.0) (need client ino.0 Snapshot ∷ []) [] ≡ None) where
  pub snapshot-refused : (r : Refusal) → first_failing (new_snapshot_tests old.scene.tree ino.0 name) ≡ Some r → IsDirect old (Event.MakeSnapshot client ino name) (Reply.Refused r) old
  snapshot-refused r is = refused old (Event.MakeSnapshot client ino name) (basic_tests old.scene client ino.0) (new_snapshot_tests old.scene.tree ino.0 name) (need client ino.0 Snapshot ∷ []) refl free r is

  pub snapshot-stays : (r : Refusal) → first_failing (old_snapshot_tests old.scene.tree ino.0 name) ≡ Some r → IsDirect old (Event.RemoveSnapshot client ino name) (Reply.Refused r) old
  snapshot-stays r is = refused old (Event.RemoveSnapshot client ino name) (basic_tests old.scene client ino.0) (old_snapshot_tests old.scene.tree ino.0 name) (need client ino.0 Snapshot ∷ []) refl free r is

module _ (old : State) (client : ClientId) (dir : Ino) (name : List ℕ) (mode : Mode) (free : rejection_of old.scene (basic_tests old.scene client dir.0) (need client dir.0 Write ∷ []) [] ≡ None) where
  pub birth-refused : (kind : Kind) (r : Refusal) → first_failing (new_inode_tests old.scene.tree dir.0 name) ≡ Some r → IsDirect old (made_event kind client dir name mode) (Reply.Refused r) old
  birth-refused File r is = refused old (Event.Create client dir name mode) (basic_tests old.scene client dir.0) (new_inode_tests old.scene.tree dir.0 name) (need client dir.0 Write ∷ []) refl free r is
  birth-refused Directory r is = refused old (Event.Mkdir client dir name mode) (basic_tests old.scene client dir.0) (new_inode_tests old.scene.tree dir.0 name) (need client dir.0 Write ∷ []) refl free r is

  pub birth-done : (kind : Kind) (ino : Ino) → first_failing (new_inode_tests old.scene.tree dir.0 name) ≡ None → ino.0 ≡ old.scene.tree.last + 1 →
      IsDirect old (made_event kind client dir name mode) (Reply.Ino ino) (with_birth old kind dir.0 name (owned_by (map.get old.scene.sessions.sessions client.0) mode))
  birth-done kind ino none is = grind arith

-- a lookup changes nothing, whatever it answers
lookup-still : (s : State) (client : ClientId) (dir : Ino) (name : List ℕ) (o : Option Rejection) → s ≡ (effect_unless s (Event.Lookup client dir name) o).state
lookup-still s client dir name o = grind arith

pub looked-up : (old : State) (client : ClientId) (dir : Ino) (name : List ℕ) (reply : Reply) → Says reply ≡ (direct old (Event.Lookup client dir name)).reply_due
    → IsDirect old (Event.Lookup client dir name) reply old
looked-up old client dir name reply says = record { reply_is = says; state_is = lookup-still old client dir name (judged old.scene (Event.Lookup client dir name)) }

-- what rejects a request at the inode that it names rejects the event
pub birth-rejection : (old : State) (kind : Kind) (client : ClientId) (dir : Ino) (name : List ℕ) (mode : Mode) (r : Rejection) → rejection_of old.scene (basic_tests old.scene client dir.0) (need client dir.0 Write ∷ []) [] ≡ Some r → IsDirect old (made_event kind client dir name mode) (rejection_reply r) old
birth-rejection old kind client dir name mode r is = grind (arith, direct-rejection, rejection)

pub making-rejection : (old : State) (client : ClientId) (ino : Ino) (name : List ℕ) (r : Rejection) → rejection_of old.scene (basic_tests old.scene client ino.0) (need client ino.0 Snapshot ∷ []) [] ≡ Some r → IsDirect old (Event.MakeSnapshot client ino name) (rejection_reply r) old
making-rejection old client ino name r is =
    direct-rejection old (Event.MakeSnapshot client ino name) r (rejection old.scene (basic_tests old.scene client ino.0) (need client ino.0 Snapshot ∷ []) (new_snapshot_tests old.scene.tree ino.0 name) r is)

pub removing-rejection : (old : State) (client : ClientId) (ino : Ino) (name : List ℕ) (r : Rejection) → rejection_of old.scene (basic_tests old.scene client ino.0) (need client ino.0 Snapshot ∷ []) [] ≡ Some r → IsDirect old (Event.RemoveSnapshot client ino name) (rejection_reply r) old
removing-rejection old client ino name r is =
    direct-rejection old (Event.RemoveSnapshot client ino name) r (rejection old.scene (basic_tests old.scene client ino.0) (need client ino.0 Snapshot ∷ []) (old_snapshot_tests old.scene.tree ino.0 name) r is)
