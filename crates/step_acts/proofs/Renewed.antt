-- What clients are permitted, kept anew of one holder after another.
use Rattle.std.proofs.Common.{◌≡◌, ◌≢◌, ℕ, Bool, true, false, ◌&&◌, ◌||◌, ◌==◌, cond, Option, Some, None, is_some, List, [], ◌∷◌, suc, Contains, inl, inr}
use Rattle.std.proofs.Common.{filter, refl, sym, ap, subst, ◌∙◌, true≢false, arith, unwrap_or}
use Rattle.std.proofs.lemmas.Bool.{eqb-false, false_from_ne_true, or_parts}
use Rattle.std.specs.Cmp.{unsigned_tied}
use Rattle.std.specs.List.{find, list_any}
use Rattle.std.specs.Option.{option_map}
use Rattle.std.specs.Ordering.{eq_by_cmp, nat_cmp}
use Rattle.std.specs.FinSet as set
use Rattle.inotree.proofs.Changes.{setting_site}
use Rattle.inotree.proofs.Elsewhere.{alike-changed}
use Rattle.inotree.proofs.Growing.{off_here}
use Rattle.inotree.proofs.OneInode.{alike-but}
use Rattle.inotree.specs.Inodes.{with_attribute, with_setting, without_attribute}
use Rattle.inotree.specs.Tree.{is_within}
use Rattle.inotree.specs.declared.node.Setting.TheVariants.{Gid, Mode, Size, Time, Uid}
use Rattle.sessiontab.specs.Table.{SessionTable}
use Rattle.lockmachine.proofs.PolicyElsewhere.{alike-itself, permitted-stays}
use Rattle.capstep.specs.Changing.{tree_after, tree_changed}
use Rattle.capstep.specs.NotedChanges.{sets_attr}
use Rattle.lockmachine.specs.declared.request.Change.TheVariants.{RemoveXattr, Set, SetXattr}
use Rattle.step_acts.proofs.Common.{ArePermitted, Caps, Change, ClientView, Entry, EntryRow, Holder, InoSet, IsAlike, Nodes, Outcome, Request, Scene, Table}
use Rattle.step_acts.proofs.Common.{among-filter, entry_at, holders-filter, holders_of_rows, is_among, is_row_of, no_sets, permitted, row_of-entry, same}
use Rattle.step_acts.proofs.Beside.{entry-among}
use Rattle.step_acts.proofs.Walked.{second_true}
use Rattle.step_acts.specs.Known.{ClientViews, known_of, permitted_of}
use Rattle.step_acts.specs.Renewing.{Renews, ServedFrom, has_entry}
use Rattle.step_acts.specs.Served.{is_rename}

-- ---- what is kept of a holder that is known to be permitted this

pub kept-is : (o : Option ClientView) (may : Caps) → option_map (λ (s : ClientView). s.permitted) o ≡ Some may → (o ≡ Some (unwrap_or o no_sets)) × ((unwrap_or o no_sets).permitted ≡ may)
kept-is None may is = absurd (cc)
kept-is (Some s) may is = (refl, cc)

-- ---- some after others

-- of those of all that are not left it is kept
pub record Along (may : Holder → Caps) (all left : Holder → Bool) (was now : ClientViews) : Type 0 where
  pub inside : (k : Holder) → left k ≡ true → all k ≡ true
  pub anew : (k : Holder) → all k ≡ true → left k ≡ false → permitted_of now k ≡ Some (may k)
  pub others : (k : Holder) → all k ≡ false → permitted_of now k ≡ permitted_of was k
  pub pending : (k : Holder) → known_of now k ≡ known_of was k

pub along-begins : (may : Holder → Caps) (all left : Holder → Bool) (sets : ClientViews) → ((k : Holder) → all k ≡ left k) → Along may all left sets sets
along-begins may all left sets are = record {
  inside = λ k among. are k ∙ among;
  anew = λ k among none. absurd (true≢false (sym among ∙ are k ∙ none));
  others = λ k none. refl;
  pending = λ k. refl;
}

pub along-more : (may : Holder → Caps) (all left one rest : Holder → Bool) (was mid now : ClientViews) → Along may all left was mid → Renews one may mid now
    → ((k : Holder) → left k ≡ (one k || rest k)) → Along may all rest was now
along-more may all left one rest was mid now along then parts = record {
  inside = λ k among. along.inside k (parts k ∙ second_true (one k) (rest k) among);
  anew = λ k among none. by_one k among none (one k) refl;
  others = λ k off. then.others k (false_from_ne_true (one k) (λ is. true≢false (sym (along.inside k (parts k ∙ ap (λ b. b || rest k) is)) ∙ off))) ∙ along.others k off;
  pending = λ k. then.pending k ∙ along.pending k;
}
  where
    by_one : (k : Holder) → all k ≡ true → rest k ≡ false → (b : Bool) → one k ≡ b → permitted_of now k ≡ Some (may k)
    by_one k among none true on = then.anew k on
    by_one k among none false off =
        then.others k off ∙ along.anew k among (parts k ∙ (λ i. off i || none i))

pub along-ends : (may : Holder → Caps) (all left : Holder → Bool) (was now : ClientViews) → Along may all left was now → ((k : Holder) → left k ≡ false) → Renews all may was now
along-ends may all left was now along none = record { anew = λ k among. along.anew k among (none k); others = along.others; pending = along.pending }

-- ---- who has an entry

module _ (passes : Holder → Bool) (t : Table) where
  -- those who pass
  abbrev pub passing : List EntryRow
  passing = filter (λ row. passes row.holder) t.rows

  -- their holders are those who pass and have an entry
  pub among-passing : (k : Holder) → is_among (holders_of_rows passing) k ≡ (passes k && has_entry t k)
  among-passing k =
      ap (λ hs. is_among hs k) (holders-filter passes t.rows) ∙ among-filter passes (holders_of_rows t.rows) k ∙ ap (λ b. passes k && b) (sym (entry-among t.rows k))

-- where nobody passes
pub renews-nobody : (passes : Holder → Bool) (may : Holder → Caps) (t : Table) (sets : ClientViews) → list_any (λ row. passes row.holder) t.rows ≡ false → Renews (λ k. passes k && has_entry t k) may sets sets
renews-nobody passes may t sets none = record {
  anew = λ k on. absurd (true≢false (sym on ∙ sym (among-passing passes t k) ∙ ap (λ (rows : List EntryRow). is_among (holders_of_rows rows) k) (none_pass (λ row. passes row.holder) t.rows none)));
  others = λ k off. refl;
  pending = λ k. refl;
}
  where
    none_pass : (p : EntryRow → Bool) (rows : List EntryRow) → list_any p rows ≡ false → filter p rows ≡ []
    none_pass p [] none = refl
    none_pass p (row ∷ rows) none =
        let both = or_parts (p row) (list_any p rows) none in
        ap (λ b. cond b (row ∷ filter p rows) (filter p rows)) both.0 ∙ none_pass p rows both.1

-- ---- inodes, one after another

-- the holder has an entry, and its inode is one of these
abbrev pub is_at : Table → List ℕ → Holder → Bool
is_at t numbers k = list_any (eq_by_cmp nat_cmp k.ino.0) numbers && has_entry t k

pub inodes-more : (may : Holder → Caps) (t : Table) (all : Holder → Bool) (n : ℕ) (rest left : List ℕ) (was mid now : ClientViews) → left ≡ n ∷ rest
    → Along may all (is_at t left) was mid → Renews (λ k. (k.ino.0 == n) && has_entry t k) may mid now → Along may all (is_at t rest) was now
inodes-more may t all n rest left was mid now first along then =
    along-more may all (is_at t left) (λ k. (k.ino.0 == n) && has_entry t k) (is_at t rest) was mid now along then
    (λ k.
    ap (λ (ns : List ℕ). is_at t ns k) first ∙ ap (λ b. (b || list_any (eq_by_cmp nat_cmp k.ino.0) rest) && has_entry t k) (unsigned_tied k.ino.0 n)
    ∙ both_held (k.ino.0 == n) (list_any (eq_by_cmp nat_cmp k.ino.0) rest) (has_entry t k))
  where
    both_held : (a b h : Bool) → ((a || b) && h) ≡ ((a && h) || (b && h))
    both_held true b true = refl
    both_held true true false = refl
    both_held true false false = refl
    both_held false b h = refl

-- what a search finds is there
pub found-contains : {T : Type 0} (p : T → Bool) (rows : List T) (row : T) → find p rows ≡ Some row → Contains rows row
found-contains p [] row found = cc
found-contains p (x ∷ xs) row found = elim (p x) as (λ b. cond b (Some x) (find p xs) ≡ Some row → Contains (x ∷ xs) row) [
  | true ↦ λ found. let same : x ≡ row = cc in (0, omega arith, same)
  | false ↦ λ found. let inside = found-contains p xs row found in (suc inside.0, omega (arith, inside.1), inside.2)
] found

-- what does not lie at or below an inode is another
off_within : (tree : Nodes) (i k : ℕ) → is_within tree.nodes i k ≡ false → i ≢ k
unfolding is_within
off_within tree i k out = off_here 32 tree.nodes i k out

-- ---- where nothing that policy looks at changed

module _ (fs : List ℕ) (old new : Nodes) (before after : SessionTable) (t : Table) (was now : ClientViews) where
  pub permitted-anew : (among : Holder → Bool) → Renews (λ k. among k && has_entry t k) (permitted fs new after) was now
      → ((k : Holder) (e : Entry) → entry_at t k ≡ Some e → among k ≡ false → permitted fs new after k ≡ permitted fs old before k)
      → ArePermitted was fs old before t → ArePermitted now fs new after t
  permitted-anew among renews alike are k e there = by_test (among k) refl
    where
      by_test : (b : Bool) → among k ≡ b → permitted_of now k ≡ Some (permitted fs new after k)
      by_test true on = renews.anew k (λ i. on i && is_some (there i))
      by_test false off =
          renews.others k (ap (λ b. b && has_entry t k) off) ∙ are k e there ∙ ap Some (sym (alike k e there off))

-- the sessions are the same, and each inode that they are not on is alike
pub permitted-on : (fs : List ℕ) (old new : Nodes) (sessions : SessionTable) (t : Table) (was now : ClientViews) (at : ℕ → Bool) → Renews (λ k. at k.ino.0 && has_entry t k) (permitted fs new sessions) was now
    → ((k : Holder) (e : Entry) → entry_at t k ≡ Some e → at k.ino.0 ≡ false → IsAlike old new k.ino.0) → ArePermitted was fs old sessions t → ArePermitted now fs new sessions t
permitted-on fs old new sessions t was now at renews alike =
    permitted-anew fs old new sessions sessions t was now (λ k. at k.ino.0) renews (λ k e there off. permitted-stays fs old new sessions sessions k (alike k e there off) refl)

-- nothing changed anywhere
pub permitted-still : (fs : List ℕ) (old new : Nodes) (sessions : SessionTable) (t : Table) (sets : ClientViews) → ((ino : ℕ) → IsAlike old new ino) → ArePermitted sets fs old sessions t → ArePermitted sets fs new sessions t
permitted-still fs old new sessions t sets alike are k e there = are k e there ∙ ap Some (sym (permitted-stays fs old new sessions sessions k (alike k.ino.0) refl))

-- policy looks at the owner, the group and the mode alone
pub alike-unset : (tree : Nodes) (ino other : ℕ) (change : Change) → sets_attr change ≡ false → IsAlike tree (tree_changed tree ino change) other
alike-unset tree ino other (Set (Size size)) none = alike-changed tree (with_setting (Size size)) ino (λ n. refl) (λ n. refl) other
alike-unset tree ino other (Set (Time time)) none = alike-changed tree (with_setting (Time time)) ino (λ n. refl) (λ n. refl) other
alike-unset tree ino other (Set (Mode mode)) none = absurd (true≢false none)
alike-unset tree ino other (Set (Uid uid)) none = absurd (true≢false none)
alike-unset tree ino other (Set (Gid gid)) none = absurd (true≢false none)
alike-unset tree ino other (SetXattr name value) none = alike-changed tree (with_attribute name value) ino (λ n. refl) (λ n. refl) other
alike-unset tree ino other (RemoveXattr name) none = alike-changed tree (without_attribute name) ino (λ n. refl) (λ n. refl) other

-- nor does the change of an inode change another
pub alike_change : (tree : Nodes) (ino other : ℕ) (change : Change) → (other ≡ ino → ⊥) → IsAlike tree (tree_changed tree ino change) other
alike_change tree ino other (Set setting) off = alike-but (with_setting setting) (setting_site setting) tree ino other off
alike_change tree ino other (SetXattr name value) off = alike-changed tree (with_attribute name value) ino (λ n. refl) (λ n. refl) other
alike_change tree ino other (RemoveXattr name) off = alike-changed tree (without_attribute name) ino (λ n. refl) (λ n. refl) other

-- another number
pub other-number : (a b : ℕ) → (a == b) ≡ false → a ≢ b
other-number a b off = eqb-false a b off

-- ---- where a request was served

module _ (tree : Nodes) (q : Request) (o : Outcome) (affected : InoSet) (s : Scene) (served : ServedFrom tree q o affected s) where
  -- it is not to move its inode: the others are alike
  pub alike-off : is_rename q.operation ≡ false → (k : Holder) → (k.ino.0 == q.ino.0) ≡ false → IsAlike tree s.tree k.ino.0
  alike-off stays k off = served.alike k.ino.0 (other-number k.ino.0 q.ino.0 off) (λ moves. absurd (true≢false (sym moves ∙ stays)))

  -- it is: so are those that are not affected and that somebody has an entry on
  pub alike-far : is_rename q.operation ≡ true → (k : Holder) (e : Entry) → entry_at s.table k ≡ Some e → set.contains affected k.ino.0 ≡ false → IsAlike tree s.tree k.ino.0
  alike-far moves k e there off = elim served.covers [
    | inl left ↦ subst (λ (t : Nodes). IsAlike tree t k.ino.0) (sym left) (alike-itself tree k.ino.0)
    | inr covers ↦
        let row : EntryRow = record { holder = k; entry = e } in
        let among = found-contains (is_row_of k) s.table.rows row (row_of-entry s.table k e there) in
        let out : is_within tree.nodes k.ino.0 q.ino.0 ≡ false =
        false_from_ne_true (is_within tree.nodes k.ino.0 q.ino.0) (λ below. true≢false (sym (covers moves row among below) ∙ off)) in
        served.alike k.ino.0 (off_within tree k.ino.0 q.ino.0 out) (λ _. out)
  ]

-- where it ended otherwise than as done, the tree stayed
pub unserved : (tree : Nodes) (q : Request) (o : Outcome) → o ≢ Outcome.Done → tree_after tree q o ≡ tree
unserved tree q o other = grind arith
