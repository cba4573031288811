-- In a sound state the end of a step changes nothing.
pub use Rattle.step_acts.proofs.Held.{same-renumbered}
use Rattle.std.proofs.Common.{◌≡◌, ℕ, suc, Bool, true, cond, not, ◌||◌, Some, None, List, [], ◌∷◌, refl, sym, ap, ◌∙◌, Contains, arith, map}
use Rattle.std.proofs.lemmas.List.{map-id}
use Rattle.std.proofs.lemmas.List.Elements.{All-contains}
use Rattle.std.specs.Cmp.{nat_cmp_total}
use Rattle.std.specs.List.{find}
use Rattle.std.specs.Ordering.{nat_cmp}
use Rattle.std.specs.FinMap as finite
use Rattle.capbits.specs.Caps.{has}
use Rattle.inotree.specs.declared.node.Presence.{Presence}
use Rattle.capcore.proofs.CommonPieces.{Entry, EntryRow, Gone, IsSound, IsSoundEntry, IsSubset, IsTable, Scene, Settles, State, finished, forget, has-union, issuable}
use Rattle.capcore.proofs.CommonPieces.{is_gone, is_row_of, issue, issue_row, number, number_row, or_inside, row_found, same_caps, settled, sizes_owed, still_known}
use Rattle.capcore.proofs.CommonPieces.{pending_of, union}

-- ---- lists of rows that stay

-- changes that are the same of each row are the same of all
pub each-alike : (f g : EntryRow → EntryRow) (rows : List EntryRow) → ((row : EntryRow) → Contains rows row → f row ≡ g row) → map f rows ≡ map g rows
each-alike f g [] alike = refl
each-alike f g (row ∷ rows) alike = λ i. alike row (0, omega arith, refl) i ∷ each-alike f g rows (λ x inside. alike x (suc inside.0, omega (arith, inside.1), inside.2)) i

with_rows : Scene → List EntryRow → Scene
with_rows s rows = record s { table = record s.table { rows = rows } }

-- where no size was changed, none is to be told
pub none-sized : (s : Scene) → sizes_owed [] s ≡ s
unfolding with_rows
none-sized s = ap (with_rows s) (map-id s.table.rows)

-- ---- issue

-- who has all that is due gains nothing
pub same-issue_row : (s : Scene) (row : EntryRow) → IsSubset (issuable s row) row.entry.held → issue_row s row ≡ row
same-issue_row s row all =
    let held : union row.entry.held (issuable s row) ≡ row.entry.held = same_caps _ _ (λ c. has-union row.entry.held (issuable s row) c ∙ or_inside (has row.entry.held c) (has (issuable s row) c) (all c)) in
    λ i. record row { entry = record row.entry { held = held i } }

-- ---- numbers

same-number_row : (old s : Scene) (row : EntryRow) → find (is_row_of row.holder) s.table.rows ≡ Some row → pending_of old row ≡ pending_of s row → number_row old s s row ≡ row
same-number_row old s row found pending = ap (λ (e : Entry). record row { entry = e }) (same-renumbered _ _ row.entry (ap (still_known old) found ∙ pending))

-- ---- strays

pub in_use_by : (p : Presence) (rest : Bool) → (p ≡ Gone → rest ≡ true) → (not (is_gone p) || rest) ≡ true
in_use_by p rest held = grind arith

pub all_retained : {X : Type 0} (m : finite.FinMap nat_cmp X) (p : ℕ → Bool) → ((q : ℕ) → p q ≡ true) → finite.retain_keys m p ≡ m
all_retained m p all = finite.same_map nat_cmp_total finite.nat_cmp-IsAntisymmetric _ _ (λ q.
    finite.get-retain_keys m p q (λ x e. all x ∙ sym (all q)) ∙ ap (λ b. cond b (finite.get m q) None) (all q))

-- ---- the end of a step

module _ (s : State) (sound : IsSound s) (table : IsTable s.scene.table) where
  same-issue : issue s.scene ≡ s.scene
  unfolding with_rows
  same-issue = ap (with_rows s.scene) (each-alike (issue_row s.scene) (λ row. row) s.scene.table.rows (λ row inside. same-issue_row s.scene row (has_issuable row inside)) ∙ map-id s.scene.table.rows)
    where
      has_issuable : (row : EntryRow) → Contains s.scene.table.rows row → IsSubset (issuable s.scene row) row.entry.held
      has_issuable row inside = let entry = All-contains (IsSoundEntry s.scene) s.scene.table.rows row sound.entries inside in entry.has_issuable

  same-forget : forget s.scene ≡ s.scene
  same-forget = grind (arith, all_retained)

  -- where the clients are to know what they were to know on an older scene
  module _ (old : Scene) (pending : (row : EntryRow) → Contains s.scene.table.rows row → pending_of old row ≡ pending_of s.scene row) where
    same-number : number old s.scene s.scene ≡ s.scene
    unfolding with_rows
    same-number = ap (with_rows s.scene)
        (each-alike (number_row old s.scene s.scene) (λ row. row) s.scene.table.rows (λ row inside. same-number_row old s.scene row (row_found s.scene.table row table inside) (pending row inside)) ∙ map-id s.scene.table.rows)

    pub same-finished : finished old s.scene s.scene ≡ s.scene
    same-finished = ap (λ t. number old s.scene (forget t)) same-issue ∙ ap (number old s.scene) same-forget ∙ same-number

  pub sound-finished : finished s.scene s.scene s.scene ≡ s.scene
  sound-finished = same-finished s.scene (λ row inside. refl)

  -- so too where a step made no move
  pub sound-ends : finished s.scene s.scene (sizes_owed [] s.scene) ≡ s.scene
  sound-ends = ap (finished s.scene s.scene) (none-sized s.scene) ∙ sound-finished

-- and no move applies
pub sound-settles : (s : State) → IsSound s → Settles s.scene [] s.scene
sound-settles s sound = record { made = refl; settled = settled s.scene sound.at_rest }
