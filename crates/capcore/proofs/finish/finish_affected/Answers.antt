use Rattle.std.proofs.Common.{◌≡◌, ◌==◌, ◌++◌, eq-eqb, ℕ, ◌<◌, List, [], ◌∷◌, Option, refl, sym, ap, subst, ◌∙◌, IsTrue, All}
use Rattle.std.proofs.lemmas.Bool.{eqb-true}
use Rattle.std.proofs.lemmas.List.Elements.{All-filter}
use Rattle.std.specs.List.{IsDistinct, list_any}
use Rattle.std.specs.Option.{unwrap_or}
use Rattle.std.specs.FinMap as map
use Rattle.capbits.specs.Sets.{no_caps}
use Rattle.capcore.proofs.AtEnd.{entry-alike}
use Rattle.capcore.proofs.CommonPieces.{ArePermitted, Caps, Entry, EntryRow, InoSet, InodeLocks, IsListOf, Table, entries_on, entry_by, entry_under, has_session}
use Rattle.capcore.proofs.CommonPieces.{is_of_inode, kept-as, known_in, pending_at, pending_by, was-there}
use Rattle.capcore.proofs.ManyInodes.{IsFinishing, all-finished, entries_on-stay, holders-stay, next-apart, next-finished, none-finished, on, same_number}
use Rattle.capcore.proofs.finish.finish_affected.Goals as goal

pub inodes-init : goal.inodes-init
inodes-init c =
    let g : EntryRow → Entry = entry_by (known_in c.args.table.now.kept) c.args.policy.now.fs.now c.args.policy.now.tree.now c.args.policy.now.sessions.now c.args.locks.now.locks.states in
    let f : EntryRow → Caps = pending_by c.args.policy.now.fs.now c.args.policy.now.tree.now c.args.policy.now.sessions.now c.args.locks.now.locks.states in
    record { so_far = none-finished g f c.args.table.now.entries c.args.table.now.kept c.numbers-walk.result; permitted = λ k. refl }

pub finish_entries-requires : goal.finish_entries-requires
finish_entries-requires c =
    let t : Table = c.args.table.now.entries in
    let g : EntryRow → Entry = entry_by (known_in c.args.table.now.kept) c.args.policy.now.fs.now c.args.policy.now.tree.now c.args.policy.now.sessions.now c.args.locks.now.locks.states in
    let k : ℕ = c.in-Some.ino.0 in
    let ks : List ℕ = c.next.new.self in
    let rest : c.inodes.walk ≡ k ∷ ks = c.in-Some.ensures.some in
    let s = c.inodes.invariant.so_far in
    let all : List ℕ = c.numbers-walk.result in
    let lists : IsListOf c.args.affected.now all = c.numbers-walk.ensures.list in
    let apart = next-apart s.done k ks (subst (IsDistinct same_number) (sym s.named ∙ ap (λ left. s.done ++ left) rest) lists.once) in
    record {
      numbers = subst (All (λ (row : EntryRow). row.entry.seq < 18446744073709551615))
          (sym (ap (λ (u : Table). entries_on u (record { 0 = k })) s.finished ∙ entries_on-stay (λ n. list_any (same_number n) s.done) g (record { 0 = k }) (apart k (eq-eqb k k refl)) t))
          (All-filter (is_of_inode (record { 0 = k })) (λ row. row.entry.seq < 18446744073709551615) t.rows c.requires.entries.numbers);
      clients = subst (λ (u : Table). All (λ row. IsTrue (has_session c.args.policy.now.sessions.now row.holder.client.0)) u.rows) (sym s.finished)
          (holders-stay (on (λ n. list_any (same_number n) s.done)) g (λ h. IsTrue (has_session c.args.policy.now.sessions.now h.client.0)) t c.requires.entries.clients);
      permitted = subst (ArePermitted c.inodes.table.kept c.args.policy.now.fs.now c.args.policy.now.tree.now c.args.policy.now.sessions.now) (sym s.finished)
          (λ h e there. let was = was-there (on (λ n. list_any (same_number n) s.done)) g t h e there in c.inodes.invariant.permitted h ∙ c.requires.entries.permitted h was.0 was.1);
    }

pub inodes-preserved : goal.inodes-preserved
inodes-preserved c =
    let t : Table = c.args.table.now.entries in
    let g : EntryRow → Entry = entry_by (known_in c.args.table.now.kept) c.args.policy.now.fs.now c.args.policy.now.tree.now c.args.policy.now.sessions.now c.args.locks.now.locks.states in
    let f : EntryRow → Caps = pending_by c.args.policy.now.fs.now c.args.policy.now.tree.now c.args.policy.now.sessions.now c.args.locks.now.locks.states in
    let k : ℕ = c.in-Some.ino.0 in
    let ks : List ℕ = c.next.new.self in
    let rest : c.inodes.walk ≡ k ∷ ks = c.in-Some.ensures.some in
    let all : List ℕ = c.numbers-walk.result in
    let lists : IsListOf c.args.affected.now all = c.numbers-walk.ensures.list in
    let h : EntryRow → Entry = entry_under (known_in c.inodes.table.kept) c.args.policy.now.fs.now c.args.policy.now.tree.now c.args.policy.now.sessions.now c.of_ino-now.result in
    record {
      so_far =
          next-finished g f t c.args.table.now.kept all k ks c.inodes.table.entries c.inodes.table.kept h c.finish_entries.new.table.entries c.finish_entries.new.table.kept
          lists.once
          (subst (λ (left : List ℕ). IsFinishing g f t c.args.table.now.kept all left c.inodes.table.entries c.inodes.table.kept) rest c.inodes.invariant.so_far)
          c.finish_entries.ensures.table
          (λ row is kept.
          entry-alike (known_in c.inodes.table.kept) (known_in c.args.table.now.kept) c.args.policy.now.fs.now c.args.policy.now.tree.now c.args.policy.now.sessions.now c.of_ino-now.result c.args.locks.now.locks.states row
          (ap (λ (o : Option Caps). unwrap_or o no_caps) kept) (c.of_ino-now.ensures ∙ sym (ap (map.get c.args.locks.now.locks.states) (eqb-true row.holder.ino.0 k is))))
          (kept-as (λ q. q.ino.0 == k) (pending_at c.args.policy.now.fs.now c.args.policy.now.tree.now c.args.policy.now.sessions.now c.of_ino-now.result) f c.inodes.table.entries c.inodes.table.kept c.finish_entries.new.table.kept
          (λ row is. ap (λ (o : Option InodeLocks). pending_at c.args.policy.now.fs.now c.args.policy.now.tree.now c.args.policy.now.sessions.now o row) (c.of_ino-now.ensures ∙ sym (ap (map.get c.args.locks.now.locks.states) (eqb-true row.holder.ino.0 k is))))
          c.finish_entries.ensures.known);
      permitted = λ q. c.finish_entries.ensures.permitted q ∙ c.inodes.invariant.permitted q;
    }

pub returns : goal.returns
returns c =
    let g : EntryRow → Entry = entry_by (known_in c.args.table.now.kept) c.args.policy.now.fs.now c.args.policy.now.tree.now c.args.policy.now.sessions.now c.args.locks.now.locks.states in
    let f : EntryRow → Caps = pending_by c.args.policy.now.fs.now c.args.policy.now.tree.now c.args.policy.now.sessions.now c.args.locks.now.locks.states in
    let inos : InoSet = c.args.affected.now in
    let all : List ℕ = c.numbers-walk.result in
    let lists : IsListOf inos all = c.numbers-walk.ensures.list in
    let none : c.inodes.walk ≡ [] = c.in_default.ensures.none.0 in
    let done = all-finished g f c.args.table.now.entries c.args.table.now.kept inos all c.inodes.table.entries c.inodes.table.kept lists
    (subst (λ (left : List ℕ). IsFinishing g f c.args.table.now.entries c.args.table.now.kept all left c.inodes.table.entries c.inodes.table.kept) none c.inodes.invariant.so_far) in
    record { table = done.0; known = done.1; permitted = c.inodes.invariant.permitted }
