-- Scenes that are the same but at one inode, or the same at one: what leaves them so, and what follows of their locks.
use Rattle.std.proofs.Common.{◌≡◌, ◌≢◌, ℕ, Bool, false, cond, Some, List, [], ◌∷◌, ◌++◌, refl, sym, ap, ◌∙◌, Contains}
use Rattle.std.specs.List.{find}
use Rattle.std.proofs.lemmas.List.{append-nil}
use Rattle.capbits.specs.declared.cap.Part.{Part}
use Rattle.capbits.specs.declared.ids.ClientId.{ClientId}
use Rattle.capbits.specs.declared.ids.Ino.{Ino}
use Rattle.inotree.specs.Tree.{Nodes, presence}
use Rattle.inotree.specs.Alike.{IsAlike}
use Rattle.captable.specs.Table.{Table}
use Rattle.captable.specs.Calls.{entries_on}
use Rattle.lockmachine.specs.declared.request.Operation.{Operation}
use Rattle.lockmachine.specs.declared.request.Request.{Request}
use Rattle.lockmachine.specs.Requests.{first_for, is_for}
use Rattle.lockmachine.specs.Locks.{IsLockMap, LockMap, next_request, with_request, without_request}
use Rattle.lockmachine.specs.Scene.{Scene}
use Rattle.lockmachine.specs.Moves.{may_begin, may_end}
use Rattle.lockmachine.specs.Runs.{ChangesLocksOf}
use Rattle.lockmachine.specs.Elsewhere.{IsSameAt, IsSameBut}
use Rattle.lockmachine.proofs.PolicyElsewhere.{alike-itself}
use Rattle.lockmachine.proofs.Queue.{taken_alone}
use Rattle.lockmachine.proofs.SameAt.{begin-there, end-there, same-there}
use Rattle.lockmachine.proofs.SameOutside.{alike-trans, not_for}

-- ---- one after another

pub same-trans : (ino : ℕ) (a b c : Scene) → IsSameBut ino a b → IsSameBut ino b c → IsSameBut ino a c
same-trans ino a b c first then = record {
  fs = then.fs ∙ first.fs;
  sessions = then.sessions ∙ first.sessions;
  entries = λ other off. then.entries other off ∙ first.entries other off;
  locks = λ other part off. then.locks other part off ∙ first.locks other part off;
  waiting = λ other part off. then.waiting other part off ∙ first.waiting other part off;
  presences = λ other off. then.presences other off ∙ first.presences other off;
  alike = λ other off. alike-trans a.tree b.tree c.tree other (first.alike other off) (then.alike other off);
}

-- ---- what leaves them so

pub same-locks : (ino : ℕ) (s : Scene) (locks : LockMap) → ChangesLocksOf ino s.locks locks → IsSameBut ino s (record s { locks = locks })
same-locks ino s locks changes = record {
  fs = refl;
  sessions = refl;
  entries = λ other off. refl;
  locks = changes.others;
  waiting = λ other part off. ap (λ (queue : List Request). first_for queue other part) changes.queue;
  presences = λ other off. refl;
  alike = λ other off. alike-itself s.tree other;
}

pub same-entries : (ino : ℕ) (s : Scene) (table : Table) → ((other : Ino) → other.0 ≢ ino → entries_on table other ≡ entries_on s.table other)
    → IsSameBut ino s (record s { table = table })
same-entries ino s table entries = record {
  fs = refl;
  sessions = refl;
  entries = entries;
  locks = λ other part off. refl;
  waiting = λ other part off. refl;
  presences = λ other off. refl;
  alike = λ other off. alike-itself s.tree other;
}

pub same-tree : (ino : ℕ) (s : Scene) (tree : Nodes) → ((other : ℕ) → other ≢ ino → presence tree.nodes other ≡ presence s.tree.nodes other)
    → ((other : ℕ) → other ≢ ino → IsAlike s.tree tree other) → IsSameBut ino s (record s { tree = tree })
same-tree ino s tree presences alike = record {
  fs = refl;
  sessions = refl;
  entries = λ other off. refl;
  locks = λ other part off. refl;
  waiting = λ other part off. refl;
  presences = presences;
  alike = alike;
}

-- what fails a test may stand between the others
find_without : {T : Type 0} (p : T → Bool) (earlier : List T) (x : T) (later : List T) → p x ≡ false → find p (earlier ++ x ∷ later) ≡ find p (earlier ++ later)
find_without p [] x later fails = ap (λ b. cond b (Some x) (find p later)) fails
find_without p (y ∷ ys) x later fails = ap (cond (p y) (Some y)) (find_without p ys x later fails)

pub same-request : (s : Scene) (client : ClientId) (ino : Ino) (operation : Operation) → IsSameBut ino.0 s (record s { locks = with_request s.locks client ino operation })
same-request s client ino operation = record {
  fs = refl;
  sessions = refl;
  entries = λ other off. refl;
  locks = λ other part off. refl;
  waiting = λ other part off.
      find_without (is_for other part) s.locks.queue (next_request s.locks client ino operation) [] (not_for (next_request s.locks client ino operation) other part off)
      ∙ ap (find (is_for other part)) (append-nil s.locks.queue);
  presences = λ other off. refl;
  alike = λ other off. alike-itself s.tree other;
}

-- a request that is taken out stood first for no other inode
pub first-moved : (locks : LockMap) (q : Request) → IsLockMap locks → Contains locks.queue q → (other : ℕ) (part : Part) → other ≢ q.ino.0
    → first_for (without_request locks q.ticket.0).queue other part ≡ first_for locks.queue other part
first-moved locks q is inside other part off =
    let alone = taken_alone locks q is inside in
    ap (find (is_for other part)) alone.queue_is
    ∙ sym (ap (find (is_for other part)) alone.queue_was ∙ find_without (is_for other part) alone.earlier q alone.later (not_for q other part off))

-- ---- which moves apply elsewhere

-- what is the same but at one inode, is the same at each other
pub same-at : (ino : ℕ) (old new : Scene) → IsSameBut ino old new → (other : ℕ) → other ≢ ino → IsSameAt other old new
same-at ino old new same other off = record {
  fs = same.fs;
  sessions = same.sessions;
  entries = same.entries (record { 0 = other }) off;
  locks = λ part. same.locks other part off;
  waiting = λ part. same.waiting other part off;
  alike = same.alike other off;
}

-- the same moves apply there
pub begin-alike : (ino : ℕ) (old new : Scene) → IsSameAt ino old new → (part : Part) → may_begin new (ino, part) ≡ may_begin old (ino, part)
begin-alike ino old new same = begin-there ino old new (same-there ino old new same)

pub end-alike : (ino : ℕ) (old new : Scene) → IsSameAt ino old new → (part : Part) → may_end new (ino, part) ≡ may_end old (ino, part)
end-alike ino old new same = end-there ino old new (same-there ino old new same)
