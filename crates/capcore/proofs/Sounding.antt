-- States that are sound.
use Rattle.std.proofs.Common.{◌≡◌, ℕ, ◌+◌, List, [], Option, Some, None, sym, ap, ◌∙◌, is_some, arith, IsTrue}
use Rattle.std.proofs.lemmas.List.Elements.{All-nil, All-same}
use Rattle.std.specs.List.{find}
use Rattle.std.specs.Option.{option_map}
use Rattle.std.specs.FinMap as map
use Rattle.capcore.proofs.LeftAlone.{some_same}
use Rattle.lockmachine.proofs.Idle.{InSync, idle}
use Rattle.lockmachine.proofs.Rest.{at_rest}
use Rattle.capcore.proofs.Common.{AreGiven, EntryRow, HasNoStray, InodeLocks, IsOpening, IsSound, IsSoundEntry, Node, Nodes, State, first_for, has_session}
use Rattle.capcore.proofs.Common.{in_sync, is_row_of, presence}

-- ---- numbers

-- behind one row more
pub later-given : (count : ℕ) (s : State) → AreGiven count s → AreGiven (count + 1) s
later-given count s was = grind arith

-- ---- the opening

sync_of : (o : Option Node) (locks : InodeLocks) → option_map (λ node. in_sync) o ≡ Some locks → locks ≡ in_sync
sync_of o locks e = grind arith

pub opening-sound : (fs : List ℕ) (tree : Nodes) (s : State) → HasNoStray tree → IsOpening fs tree s → IsSound s
opening-sound fs tree s none is = record {
  entries = All-same (IsSoundEntry s.scene) s.scene.table.rows [] no_rows (All-nil (IsSoundEntry s.scene));
  waiting = All-same (λ q. IsTrue (has_session s.scene.sessions q.client.0)) s.scene.locks.queue [] is.queue_is (All-nil (λ q. IsTrue (has_session s.scene.sessions q.client.0)));
  messages = All-same (λ m. IsTrue (has_session s.scene.sessions m.client.0)) s.messages [] is.messages_are (All-nil (λ m. IsTrue (has_session s.scene.sessions m.client.0)));
  locked = λ ino. ap is_some (is.locks_are ino) ∙ some_same (map.get tree.nodes ino) ∙ ap (λ t. is_some (map.get t.nodes ino)) (sym is.tree_is);
  strays = λ ino gone. absurd (none ino (ap (λ t. presence t.nodes ino) (sym is.tree_is) ∙ gone));
  in_place = λ row part found. absurd (not_found row (sym (ap (find (is_row_of row.holder)) no_rows) ∙ found));
  at_rest = at_rest s.scene (λ ino part none. ap (λ queue. first_for queue ino part) is.queue_is) (idle s.scene no_rows is.queue_is sync);
}
  where
    no_rows : s.scene.table.rows ≡ []
    no_rows = ap (λ t. t.rows) is.table_is

    sync : InSync s.scene
    sync ino locks there = sync_of (map.get tree.nodes ino) locks (sym (is.locks_are ino) ∙ there)

    not_found : (row : EntryRow) → ◌≡◌ {A = Option EntryRow} None (Some row) → ⊥
    not_found row e = cc

pub opening-given : (fs : List ℕ) (tree : Nodes) (s : State) → IsOpening fs tree s → AreGiven 0 s
opening-given fs tree s is = grind arith
