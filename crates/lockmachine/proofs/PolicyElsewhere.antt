-- What happens elsewhere leaves what a client is permitted on an inode, and what counts of its want.
use Rattle.std.specs.Prelude.{if◌then◌else◌}
use Rattle.std.proofs.Common.{◌≡◌, ℕ, Bool, true, false, cond, Option, Some, None, List, [], ◌∷◌, suc, filter, refl, ap, ◌∙◌, arith}
use Rattle.std.proofs.Common.{map as each}
use Rattle.std.specs.List.{All, slice_index_or}
use Rattle.std.specs.Option.{option_map}
use Rattle.std.specs.FinMap as map
use Rattle.capbits.specs.declared.caller.Caller.{Caller}
use Rattle.capbits.specs.Caps.{Caps}
use Rattle.capbits.specs.Refusal.{first_failing}
use Rattle.capbits.specs.Sets.{meet, no_caps}
use Rattle.capspec.specs.declared.grant.Grant.{Grant}
use Rattle.capgrant.specs.declared.access.Attr.{Attr}
use Rattle.inotree.specs.declared.node.Kind.{Kind}
use Rattle.inotree.specs.declared.node.Node.{Node}
use Rattle.inotree.specs.Tree.{IsTree, Nodes, path_of}
use Rattle.inotree.specs.Calls.{changed, with_new}
use Rattle.inotree.specs.Alike.{IsAlike}
use Rattle.inotree.proofs.Elsewhere.{alike-changed, alike-new, not_next}
use Rattle.sessiontab.specs.declared.session.Session.{Session}
use Rattle.sessiontab.specs.Table.{SessionTable}
use Rattle.sessiontab.specs.Calls.{has_session, status_of, with_session}
use Rattle.sessiontab.specs.Tests.{is_open, new_session_tests}
use Rattle.sessiontab.proofs.Elsewhere.{session-stays}
use Rattle.captable.specs.declared.entry.Holder.{Holder}
use Rattle.captable.specs.declared.entry.EntryRow.{EntryRow}
use Rattle.captable.specs.Calls.{is_of_inode}
use Rattle.lockmachine.specs.Policy.{Subject, permitted, permitted_to, subject_of}
use Rattle.lockmachine.specs.Wants.{effective_want, want_of}
use Rattle.lockmachine.specs.Scene.{Scene, wants}

subject_alike : (session : Option Session) (path : Option (List (List ℕ))) (m n : Option Node) → option_map (λ x. x.attr) n ≡ option_map (λ x. x.attr) m → subject_of session path n ≡ subject_of session path m
subject_alike None path m n attr = refl
subject_alike (Some s) None m n attr = refl
subject_alike (Some s) (Some p) None None attr = refl
subject_alike (Some s) (Some p) None (Some y) attr = cc
subject_alike (Some s) (Some p) (Some x) None attr = cc
subject_alike (Some s) (Some p) (Some x) (Some y) attr =
    let same : y.attr ≡ x.attr = cc in
    ap (λ (a : Attr). let found : Subject = record { caller = s.caller; grants = s.grants; path = p; attr = a } in Some found) same

-- ---- the inode is alike, and the session is the same

module _ (fs : List ℕ) (old new : Nodes) (before after : SessionTable) where
  pub permitted-stays : (k : Holder) → IsAlike old new k.ino.0 → map.get after.sessions k.client.0 ≡ map.get before.sessions k.client.0 → permitted fs new after k ≡ permitted fs old before k
  permitted-stays k alike session =
      ap (λ o. permitted_to fs (subject_of o (path_of new.nodes k.ino.0) (map.get new.nodes k.ino.0))) session
      ∙ ap (λ p. permitted_to fs (subject_of (map.get before.sessions k.client.0) p (map.get new.nodes k.ino.0))) alike.path
      ∙ ap (permitted_to fs) (subject_alike (map.get before.sessions k.client.0) (path_of old.nodes k.ino.0) (map.get old.nodes k.ino.0) (map.get new.nodes k.ino.0) alike.attr)

  pub want-stays : (row : EntryRow) → IsAlike old new row.holder.ino.0 → map.get after.sessions row.holder.client.0 ≡ map.get before.sessions row.holder.client.0 → effective_want fs new after row ≡ effective_want fs old before row
  want-stays row alike session =
      ap (λ (o : Option Session). if is_open (option_map (λ s. s.status) o) then meet row.entry.want (permitted fs new after row.holder) else no_caps) session
      ∙ ap (λ (caps : Caps). if is_open (status_of before row.holder.client.0) then meet row.entry.want caps else no_caps) (permitted-stays row.holder alike session)

-- ---- all wants on an inode

each_same : {A B : Type 0} (f g : A → B) (p : A → Bool) (xs : List A) → All (λ x. g x ≡ f x) xs → each g (filter p xs) ≡ each f (filter p xs)
each_same f g p [] all = refl
each_same f g p (x ∷ xs) all =
    let rest = each_same f g p xs (λ k d lt. all (suc k) d (omega arith)) in
    elim (p x) as (λ b. each g (cond b (x ∷ filter p xs) (filter p xs)) ≡ each f (cond b (x ∷ filter p xs) (filter p xs))) [
      | true ↦ λ i. all 0 x (omega arith) i ∷ rest i
      | false ↦ rest
    ]

pub wants-stay : (s : Scene) (new : Nodes) (after : SessionTable) (ino : ℕ) → All (λ row. effective_want s.fs new after row ≡ effective_want s.fs s.tree s.sessions row) s.table.rows
    → wants (record s { tree = new; sessions = after }) ino ≡ wants s ino
wants-stay s new after ino all =
    each_same (want_of s.fs s.tree s.sessions) (want_of s.fs new after) (is_of_inode (record { 0 = ino })) s.table.rows (λ k d lt i. ((slice_index_or s.table.rows k d).holder.client, all k d lt i))

-- ---- a new inode, of which the holder's is none

pub permitted-new : (fs : List ℕ) (tree : Nodes) (sessions : SessionTable) → IsTree tree → (kind : Kind) (dir : ℕ) (name : List ℕ) (attr : Attr) (k : Holder)
    → map.contains_key tree.nodes k.ino.0 ≡ true → permitted fs (with_new tree kind dir name attr) sessions k ≡ permitted fs tree sessions k
permitted-new fs tree sessions sound kind dir name attr k there =
    permitted-stays fs tree (with_new tree kind dir name attr) sessions sessions k (alike-new tree kind dir name attr k.ino.0 sound (not_next tree k.ino.0 sound there)) refl

pub want-new : (fs : List ℕ) (tree : Nodes) (sessions : SessionTable) → IsTree tree → (kind : Kind) (dir : ℕ) (name : List ℕ) (attr : Attr) (row : EntryRow)
    → map.contains_key tree.nodes row.holder.ino.0 ≡ true → effective_want fs (with_new tree kind dir name attr) sessions row ≡ effective_want fs tree sessions row
want-new fs tree sessions sound kind dir name attr row there =
    want-stays fs tree (with_new tree kind dir name attr) sessions sessions row (alike-new tree kind dir name attr row.holder.ino.0 sound (not_next tree row.holder.ino.0 sound there)) refl

-- ---- a change of an inode that policy does not read, as of a snapshot

module _ (fs : List ℕ) (tree : Nodes) (sessions : SessionTable) (f : Node → Node) (ino : ℕ) (site : (n : Node) → (f n).site ≡ n.site) (attr : (n : Node) → (f n).attr ≡ n.attr) where
  pub permitted-changed : (k : Holder) → permitted fs (changed f tree ino) sessions k ≡ permitted fs tree sessions k
  permitted-changed k = permitted-stays fs tree (changed f tree ino) sessions sessions k (alike-changed tree f ino site attr k.ino.0) refl

  pub want-changed : (row : EntryRow) → effective_want fs (changed f tree ino) sessions row ≡ effective_want fs tree sessions row
  want-changed row = want-stays fs tree (changed f tree ino) sessions sessions row (alike-changed tree f ino site attr row.holder.ino.0) refl

-- ---- a new session, where the holder's client has one

pub alike-itself : (tree : Nodes) (ino : ℕ) → IsAlike tree tree ino
alike-itself tree ino = record { path = refl; attr = refl }

module _ (fs : List ℕ) (tree : Nodes) (sessions : SessionTable) (client : ℕ) (caller : Caller) (grants : List Grant) (passed : first_failing (new_session_tests sessions client) ≡ None) where
  pub permitted-session : (k : Holder) → has_session sessions k.client.0 ≡ true → permitted fs tree (with_session sessions client caller grants) k ≡ permitted fs tree sessions k
  permitted-session k there =
      permitted-stays fs tree tree sessions (with_session sessions client caller grants) k (alike-itself tree k.ino.0) (session-stays sessions client caller grants k.client.0 passed there)

  pub want-session : (row : EntryRow) → has_session sessions row.holder.client.0 ≡ true → effective_want fs tree (with_session sessions client caller grants) row ≡ effective_want fs tree sessions row
  want-session row there =
      want-stays fs tree tree sessions (with_session sessions client caller grants) row (alike-itself tree row.holder.ino.0) (session-stays sessions client caller grants row.holder.client.0 passed there)
