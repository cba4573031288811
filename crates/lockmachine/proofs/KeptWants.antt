-- What is wanted of an inode, by what is kept that each client is permitted there.
use Rattle.std.proofs.Common.{◌≡◌, zero, suc, Bool, true, false, cond, Option, Some, None, List, [], ◌∷◌, filter, unwrap_or, refl, sym, ap, ◌∙◌, Contains, ℕ}
use Rattle.std.proofs.Common.{arith}
use Rattle.std.proofs.Common.{map as each}
use Rattle.std.specs.Option.{option_map}
use Rattle.std.proofs.lemmas.Bool.{eqb-true}
use Rattle.capbits.specs.declared.ids.Ino.{Ino}
use Rattle.capbits.specs.Caps.{Caps}
use Rattle.sessiontab.specs.Table.{SessionTable}
use Rattle.inotree.specs.Tree.{Nodes}
use Rattle.captable.specs.declared.entry.EntryRow.{EntryRow}
use Rattle.captable.specs.declared.entry.KeptEntry.{KeptEntry}
use Rattle.captable.specs.declared.entry.ClientView.{ClientView}
use Rattle.captable.specs.Table.{IsTable, Table, entry_of, holder}
use Rattle.captable.specs.Calls.{entries_on, is_of_inode}
use Rattle.captable.specs.Kept.{KeptRow, kept_entry, no_sets, sets_beside}
use Rattle.captable.proofs.ByHolder.{row_found}
use Rattle.lockmachine.specs.Policy.{ArePermitted, ArePermittedOn}
use Rattle.lockmachine.specs.Wants.{Want, want_of, want_of_permitted}

-- what the entry's client wants of what is kept that it is permitted
abbrev pub kept_want : SessionTable → KeptEntry → Want
kept_want sessions entry = (entry.row.holder.client, want_of_permitted sessions entry.sets.permitted entry.row)

-- where it is so on each inode, it is so on this one
pub permitted-on : (kept : List KeptRow) (fs : List ℕ) (tree : Nodes) (sessions : SessionTable) (table : Table) (ino : ℕ) → ArePermitted kept fs tree sessions table → ArePermittedOn kept fs tree sessions table ino
permitted-on kept fs tree sessions table ino are k e here there = are k e there

each_each : {A B C : Type 0} (f : B → C) (g : A → B) (xs : List A) → each f (each g xs) ≡ each (λ x. f (g x)) xs
each_each f g [] = refl
each_each f g (x ∷ xs) = ap (λ ys. f (g x) ∷ ys) (each_each f g xs)

each_same : {A B : Type 0} (f g : A → B) (p : A → Bool) (xs : List A) → ((x : A) → Contains xs x → p x ≡ true → f x ≡ g x) → each f (filter p xs) ≡ each g (filter p xs)
each_same f g p [] same = refl
each_same f g p (x ∷ xs) same =
    let rest = each_same f g p xs (λ y (inside : Contains xs y). same y (suc inside.0, omega (arith, inside.1), inside.2)) in
    elim (p x) as (λ b. p x ≡ b → each f (cond b (x ∷ filter p xs) (filter p xs)) ≡ each g (cond b (x ∷ filter p xs) (filter p xs))) [
      | true ↦ λ is i. same x (zero, omega arith, refl) is i ∷ rest i
      | false ↦ λ is. rest
    ] refl

known_permitted : (o : Option ClientView) (caps : Caps) → option_map (λ sets. sets.permitted) o ≡ Some caps → (unwrap_or o no_sets).permitted ≡ caps
known_permitted None caps is = absurd (cc)
known_permitted (Some sets) caps is = cc

module _ (kept : List KeptRow) (fs : List ℕ) (tree : Nodes) (sessions : SessionTable) (table : Table) (ino : Ino) where
  pub same_wants : IsTable table → ArePermittedOn kept fs tree sessions table ino.0 → each (kept_want sessions) (each (kept_entry kept) (entries_on table ino)) ≡ each (want_of fs tree sessions) (entries_on table ino)
  same_wants sound permitted =
      each_each (kept_want sessions) (kept_entry kept) (entries_on table ino)
      ∙ each_same (λ row. kept_want sessions (kept_entry kept row)) (want_of fs tree sessions) (is_of_inode ino) table.rows same_want
    where
      same_want : (row : EntryRow) → Contains table.rows row → is_of_inode ino row ≡ true → kept_want sessions (kept_entry kept row) ≡ want_of fs tree sessions row
      same_want row inside here =
          let same : row.holder.ino.0 ≡ ino.0 = eqb-true row.holder.ino.0 ino.0 here in
          ap (λ caps. (row.holder.client, want_of_permitted sessions caps row))
          (known_permitted (sets_beside kept row.holder) _ (permitted row.holder row.entry same (ap entry_of (row_found table row sound inside))))
