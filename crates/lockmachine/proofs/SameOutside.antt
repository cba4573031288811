-- Scenes that are the same outside some inodes: what leaves them so, and what follows of the other inodes' locks.
use Rattle.std.proofs.Common.{◌≡◌, ◌≢◌, ℕ, Bool, true, false, cond, not, ◌&&◌, ◌==◌, Some, List, [], ◌∷◌, zero, suc, filter, refl, sym, ap, subst, ◌∙◌}
use Rattle.std.proofs.Common.{Contains, arith, true≢false}
use Rattle.std.specs.List.{find}
use Rattle.std.specs.FinMap as map
use Rattle.std.specs.Cmp.{nat_eq_equiv}
use Rattle.std.proofs.lemmas.Bool.{eqb-false, ne_eqb}
use Rattle.capbits.specs.declared.cap.Part.{Part}
use Rattle.capbits.specs.declared.ids.ClientId.{ClientId}
use Rattle.sessiontab.specs.Table.{SessionTable}
use Rattle.captable.specs.declared.entry.EntryRow.{EntryRow}
use Rattle.captable.specs.Calls.{is_of_inode}
use Rattle.inotree.specs.Tree.{Nodes}
use Rattle.inotree.specs.Alike.{IsAlike}
use Rattle.lockmachine.specs.declared.request.Request.{Request}
use Rattle.lockmachine.specs.Requests.{is_for, is_of_client, part_of_operation, same_part}
use Rattle.lockmachine.specs.Locks.{without_requests_of}
use Rattle.lockmachine.specs.Scene.{Scene}
use Rattle.lockmachine.specs.Moves.{IsAtRest, IsAtRestOutside}
use Rattle.lockmachine.specs.Elsewhere.{IsSameBut, IsSameOutside}
use Rattle.lockmachine.proofs.Finding.{contains-filter, filter-contains}
use Rattle.lockmachine.proofs.PolicyElsewhere.{alike-itself}
use Rattle.lockmachine.proofs.SameAt.{outside-there, resting-there}

-- ---- what leaves them so

pub outside-itself : (at : ℕ → Bool) (s : Scene) → IsSameOutside at s s
outside-itself at s = record {
  fs = refl;
  sessions = λ row inside off. refl;
  entries = λ other off. refl;
  locks = λ other part off. refl;
  waiting = λ other part off. refl;
  presences = λ other off. refl;
  alike = λ other off. alike-itself s.tree other;
}

-- what is the same but at one inode
pub outside-one : (ino : ℕ) (old new : Scene) → IsSameBut ino old new → IsSameOutside (λ other. other == ino) old new
outside-one ino old new same = record {
  fs = same.fs;
  sessions = λ row inside off. ap (λ (t : SessionTable). map.get t.sessions row.holder.client.0) same.sessions;
  entries = λ other off. same.entries other (eqb-false other.0 ino off);
  locks = λ other part off. same.locks other part (eqb-false other ino off);
  waiting = λ other part off. same.waiting other part (eqb-false other ino off);
  presences = λ other off. same.presences other (eqb-false other ino off);
  alike = λ other off. same.alike other (eqb-false other ino off);
}

-- one tree is like another, and that like a third
pub alike-trans : (a b c : Nodes) (ino : ℕ) → IsAlike a b ino → IsAlike b c ino → IsAlike a c ino
alike-trans a b c ino first then = record { path = then.path ∙ first.path; attr = then.attr ∙ first.attr }

-- an entry on another inode is there still
stays : (at : ℕ → Bool) (old new : Scene) → IsSameOutside at old new → (row : EntryRow) → Contains old.table.rows row → at row.holder.ino.0 ≡ false → Contains new.table.rows row
stays at old new same row inside off =
    contains-filter (is_of_inode row.holder.ino) new.table.rows row
    (subst (λ (rows : List EntryRow). Contains rows row) (sym (same.entries row.holder.ino off))
    (filter-contains (is_of_inode row.holder.ino) old.table.rows row inside (nat_eq_equiv.refl row.holder.ino.0)))

pub outside-then : (at : ℕ → Bool) (a b c : Scene) → IsSameOutside at a b → IsSameOutside at b c → IsSameOutside at a c
outside-then at a b c first then = record {
  fs = then.fs ∙ first.fs;
  sessions = λ row inside off. then.sessions row (stays at a b first row inside off) off ∙ first.sessions row inside off;
  entries = λ other off. then.entries other off ∙ first.entries other off;
  locks = λ other part off. then.locks other part off ∙ first.locks other part off;
  waiting = λ other part off. then.waiting other part off ∙ first.waiting other part off;
  presences = λ other off. then.presences other off ∙ first.presences other off;
  alike = λ other off. alike-trans a.tree b.tree c.tree other (first.alike other off) (then.alike other off);
}

-- ---- where a client waited, whose requests are all dropped

-- a request for a lock of another inode is not for this one
pub not_for : (q : Request) (other : ℕ) (part : Part) → other ≢ q.ino.0 → is_for other part q ≡ false
not_for q other part off = ap (λ b. b && same_part (part_of_operation q.operation) part) (ne_eqb q.ino.0 other (λ same. off (sym same)))

-- a search passes over what fails its test
find_fewer : (p r : Request → Bool) (qs : List Request) → ((q : Request) → Contains qs q → r q ≡ true → p q ≡ false) → find p (filter (λ q. not (r q)) qs) ≡ find p qs
find_fewer p r [] fails = refl
find_fewer p r (x ∷ xs) fails =
    let later = find_fewer p r xs (λ q (inside : Contains xs q). fails q (suc inside.0, omega (arith, inside.1), inside.2)) in
    elim (r x) as (λ b. r x ≡ b → find p (cond (not b) (x ∷ filter (λ q. not (r q)) xs) (filter (λ q. not (r q)) xs)) ≡ cond (p x) (Some x) (find p xs)) [
      | true ↦ λ dropped. later ∙ sym (ap (λ b. cond b (Some x) (find p xs)) (fails x (zero, omega arith, refl) dropped))
      | false ↦ λ kept. ap (cond (p x) (Some x)) later
    ] refl

pub outside-dropped : (at : ℕ → Bool) (s : Scene) (client : ClientId) → ((q : Request) → Contains s.locks.queue q → is_of_client client q ≡ true → at q.ino.0 ≡ true)
    → IsSameOutside at s (record s { locks = without_requests_of s.locks client })
outside-dropped at s client waited = record {
  fs = refl;
  sessions = λ row inside off. refl;
  entries = λ other off. refl;
  locks = λ other part off. refl;
  waiting = λ other part off. find_fewer (is_for other part) (is_of_client client) s.locks.queue
      (λ q inside mine. not_for q other part (λ same. true≢false (sym (waited q inside mine) ∙ ap at (sym same) ∙ off)));
  presences = λ other off. refl;
  alike = λ other off. alike-itself s.tree other;
}

-- ---- what is quiet stays quiet there

pub resting-outside : (at : ℕ → Bool) (old new : Scene) → IsAtRestOutside at old → IsSameOutside at old new → IsAtRestOutside at new
resting-outside at old new resting same = record {
  each_other = λ other part off. resting-there other old new (outside-there at old new same other off) part (resting.each_other other part off);
}

pub rest-outside : (at : ℕ → Bool) (old new : Scene) → IsAtRest old → IsSameOutside at old new → IsAtRestOutside at new
rest-outside at old new rest same = resting-outside at old new (record { each_other = λ other part off. rest.each other part }) same
