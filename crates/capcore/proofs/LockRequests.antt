-- An event with an operation, by itself: its request comes to wait behind the others, and nothing else changes.
use Rattle.std.proofs.Common.{◌≡◌, ℕ, ◌<◌, cond, true, Option, Some, None, is_some, length, refl, ap, ◌∙◌, arith, IsTrue, nat_le}
use Rattle.std.proofs.lemmas.Bool.{leb-false, lt-leb}
use Rattle.std.proofs.lemmas.List.Elements.{All-filter, All-push}
use Rattle.std.specs.Option.{option_map}
use Rattle.std.specs.FinMap as map
use Rattle.capbits.proofs.Tests.{passed-if}
use Rattle.capcore.proofs.EntryRequests.{basic-session, basic-there}
use Rattle.lockmachine.proofs.Queue.{with_request-stays}
use Rattle.lockmachine.proofs.SameBut.{same-request}
use Rattle.capstep.specs.declared.operations.OperationRef.{OperationRef}
use Rattle.capcore.proofs.Common.{AffectsOne, AreBelow, AreGiven, ClientId, Event, Holder, Ino, InodeLocks, IsAffectedEntry, IsLockMap, IsSound, IsTable, Need}
use Rattle.capcore.proofs.Common.{Operation, Part, Refusal, Request, Scene, State, all-left, arrival_tests, basic_tests, direct, effect, effect_unless}
use Rattle.capcore.proofs.Common.{enqueues, first_denied, first_failing, has_session, holder, inode_tests, is_of_inode, judged, judged_again, lock_in}
use Rattle.capcore.proofs.Common.{next_request, operation_after, operation_before, operation_by, operation_needs, operation_of, pass-both, passed-both}
use Rattle.capcore.proofs.Common.{queue_tests, rejection_by, rejection_of, session_tests, sound-pinned, waiting_tests, with_request}
use Rattle.capcore.specs.UnderWay.{operation_event}

-- ---- which events have an operation, and which

-- the event's operation is this
pub record IsEnqueuing (k : Holder) (operation : Operation) (e : Event) : Type 0 where
  pub effect_is : (s : State) → effect s e ≡ enqueues s k.client k.ino operation
  pub judged_is : (s : Scene) → judged s e ≡ rejection_of s (arrival_tests s k.client k.ino.0 operation) (operation_needs s k.client k.ino.0 operation) (waiting_tests s k.ino.0 operation)

pub enqueuing : (e : Event) (k : Holder) (operation : Operation) → operation_by e ≡ Some (k, operation) → IsEnqueuing k operation e
enqueuing e k operation is = record { effect_is = λ s. grind arith; judged_is = λ s. grind arith }

-- what rejects the event is what rejects the request
pub enqueuing-rejection : (e : Event) (k : Holder) (operation : Operation) (s : Scene) → operation_by e ≡ Some (k, operation)
    → judged s e ≡ rejection_of s (arrival_tests s k.client k.ino.0 operation) (operation_needs s k.client k.ino.0 operation) (waiting_tests s k.ino.0 operation)
enqueuing-rejection e k operation s is = let a = enqueuing e k operation is in a.judged_is s

-- and where nothing does, it comes to wait
pub enqueuing-direct : (old : State) (e : Event) (k : Holder) (operation : Operation) → operation_by e ≡ Some (k, operation) → judged old.scene e ≡ None → direct old e ≡ enqueues old k.client k.ino operation
enqueuing-direct old e k operation is free = let a = enqueuing e k operation is in ap (effect_unless old e) free ∙ a.effect_is old

-- ---- what a request that nothing rejects has passed

-- where nothing rejects a request, no test fails and nothing is denied
all_passed : (s : Scene) (o : Option Refusal) (d : Option Need) (l : Option Refusal) → rejection_by s o d l ≡ None → (o ≡ None) × (d ≡ None) × (l ≡ None)
all_passed s o d l free = grind arith

module _ (s : Scene) (k : Holder) (operation : Operation) (free : rejection_of s (arrival_tests s k.client k.ino.0 operation) (operation_needs s k.client k.ino.0 operation) (waiting_tests s k.ino.0 operation) ≡ None) where
  all_three : (first_failing (arrival_tests s k.client k.ino.0 operation) ≡ None) × (first_denied s (operation_needs s k.client k.ino.0 operation) ≡ None) × (first_failing (waiting_tests s k.ino.0 operation) ≡ None)
  all_three = all_passed s (first_failing (arrival_tests s k.client k.ino.0 operation)) (first_denied s (operation_needs s k.client k.ino.0 operation)) (first_failing (waiting_tests s k.ino.0 operation)) free

  before_passed : (first_failing (session_tests s.sessions k.client.0) ≡ None) × (first_failing (operation_before s k.ino.0 operation) ≡ None)
  before_passed = passed-both (session_tests s.sessions k.client.0) (operation_before s k.ino.0 operation) all_three.0

  after_passed : (first_failing (operation_after s k.ino.0 operation) ≡ None) × (first_failing (queue_tests s.locks) ≡ None)
  after_passed = passed-both (operation_after s k.ino.0 operation) (queue_tests s.locks) all_three.2

  both_passed : first_failing (basic_tests s k.client k.ino.0) ≡ None
  both_passed = pass-both (session_tests s.sessions k.client.0) (inode_tests s.tree k.ino.0) before_passed.0 (grind (arith, before_passed))

  -- its client has a session, and the inode is there
  pub enqueuing-session : has_session s.sessions k.client.0 ≡ true
  enqueuing-session = basic-session s k.client k.ino both_passed

  pub enqueuing-there : map.contains_key s.tree.nodes k.ino.0 ≡ true
  enqueuing-there = basic-there s k.client k.ino both_passed

  -- there is room for it
  pub enqueuing-room : length s.locks.queue < 1024
  enqueuing-room = let fits = (passed-if (nat_le 1024 (length s.locks.queue)) Refusal.Limit None after_passed.1).0 in omega (arith, leb-false 1024 (length s.locks.queue) fits)

  -- and nothing would reject it, were it served now
  pub enqueuing-again : judged_again s (next_request s.locks k.client k.ino operation) ≡ None
  enqueuing-again = grind (arith, all_three, after_passed)

-- ---- the event

no_lock : (part : Part) (o : Option InodeLocks) → is_some o ≡ true → option_map (lock_in part) o ≡ None → ⊥
no_lock part o there none = grind arith

module _ (old : State) (k : Holder) (operation : Operation) (sound : IsSound old) (table : IsTable old.scene.table)
    (free : rejection_of old.scene (arrival_tests old.scene k.client k.ino.0 operation) (operation_needs old.scene k.client k.ino.0 operation) (waiting_tests old.scene k.ino.0 operation) ≡ None) where
  abbrev first : Scene
  first = record old.scene { locks = with_request old.scene.locks k.client k.ino operation }

  pub enqueuing-affects : AffectsOne k.ino.0 old first
  enqueuing-affects = record {
    same = same-request old.scene k.client k.ino operation;
    states = refl;
    exist = λ other. refl;
    locked = sound.locked;
    waiting =
        All-push (λ (q : Request). IsTrue (has_session old.scene.sessions q.client.0)) old.scene.locks.queue (next_request old.scene.locks k.client k.ino operation) sound.waiting
        (enqueuing-session old.scene k operation free);
    at_lock = λ part none. absurd (no_lock part (map.get old.scene.locks.states k.ino.0) (sound.locked k.ino.0 ∙ enqueuing-there old.scene k operation free) none);
    each = All-filter (is_of_inode (record { 0 = k.ino.0 })) (IsAffectedEntry first) old.scene.table.rows (all-left old first sound table refl refl (λ ino. refl));
    calm = λ row inside none. absurd (sound-pinned old sound row inside none);
  }

pub below-of_operation : (count : ℕ) (old : State) (k : Holder) (operation : Operation) → AreGiven count old → AreBelow count (enqueues old k.client k.ino operation).state
below-of_operation count old k operation given = (given.entries, omega (arith, given.made), omega (arith, given.last))

pub order-of_operation : (s : Scene) (k : Holder) (operation : Operation) → IsLockMap s.locks
    → rejection_of s (arrival_tests s k.client k.ino.0 operation) (operation_needs s k.client k.ino.0 operation) (waiting_tests s k.ino.0 operation) ≡ None → IsLockMap (with_request s.locks k.client k.ino operation)
order-of_operation s k operation order free = with_request-stays s.locks k.client k.ino operation order (enqueuing-room s k operation free)

-- one more may wait
pub room-left : (s : Scene) (k : Holder) (operation : Operation)
    → rejection_of s (arrival_tests s k.client k.ino.0 operation) (operation_needs s k.client k.ino.0 operation) (waiting_tests s k.ino.0 operation) ≡ None → first_failing (queue_tests s.locks) ≡ None
room-left s k operation free = ap (λ b. cond b (Some Refusal.Limit) None) (lt-leb 1024 (length s.locks.queue) (enqueuing-room s k operation free))

-- ---- what the call is handed

pub operation-for : (client : ClientId) (ino : Ino) (operation : OperationRef) → operation_by (operation_event client ino operation) ≡ Some (holder client ino, operation_of operation)
operation-for client ino operation = grind arith
