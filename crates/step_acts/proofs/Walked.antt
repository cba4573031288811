-- What a rename walked over in a step is affected until its end.
use Rattle.std.proofs.Common.{◌≡◌, ℕ, zero, suc, ◌<◌, ◌+◌, eq-eqb, arith, List, [], ◌∷◌, Contains, Bool, true, false, ◌||◌, length, get_or, Result, Ok, Err}
use Rattle.std.proofs.Common.{OnOk, OnErr, refl, sym, ap, subst, ◌∙◌, true≢false}
use Rattle.std.proofs.lemmas.Bool.{eqb-true}
use Rattle.std.proofs.lemmas.List.{get_or_default}
use Rattle.std.proofs.lemmas.List.Elements.{AllWithin-more}
use Rattle.std.specs.Cmp.{unsigned_tied}
use Rattle.std.specs.List.{AllWithin, list_any}
use Rattle.std.specs.Ordering.{eq_by_cmp, nat_cmp}
use Rattle.std.specs.FinSet as set
use Rattle.inotree.specs.Tree.{is_within}
use Rattle.captable.specs.Calls.{is_of_inode}
use Rattle.step_acts.proofs.Common.{EntryRow, Ino, InoSet, Nodes, Table}
use Rattle.step_acts.proofs.InoSets.{at_more, none-there}
use Rattle.step_acts.specs.AffectedInodes.{AreWalked, CoversBelow, Widens}

pub second_true : (a b : Bool) → b ≡ true → (a || b) ≡ true
second_true a b e = grind arith

any_of : (p : EntryRow → Bool) (rows : List EntryRow) (row : EntryRow) → Contains rows row → p row ≡ true → list_any p rows ≡ true
any_of p [] row (k, room, is) passes = absurd (omega arith)
any_of p (r ∷ rows) row (zero, room, is) passes = (let e : r ≡ row = is in ap (λ b. b || list_any p rows) (ap p e ∙ passes))
any_of p (r ∷ rows) row (suc k, room, is) passes = second_true (p r) (list_any p rows) (any_of p rows row (k, omega arith, is) passes)

-- ---- a list of inodes that is gone through

-- the inode is among them, if somebody has an entry on it
abbrev pub IsAdded : List EntryRow → InoSet → Ino → Type 0
IsAdded rows affected ino = list_any (is_of_inode ino) rows ≡ true → set.contains affected ino.0 ≡ true

pub added-more : (rows : List EntryRow) (now new : InoSet) (inos : List Ino) (i : ℕ) (d : Ino) → i < length inos → Widens now new
    → AllWithin (IsAdded rows now) inos 0 i → IsAdded rows new (get_or inos i d) → AllWithin (IsAdded rows new) inos 0 (i + 1)
added-more rows now new inos i d within stays all here =
    AllWithin-more (IsAdded rows new) inos 0 i (λ k e low below held. stays (get_or inos k e).0 (all k e low below held))
    (λ e. subst (IsAdded rows new) (get_or_default inos i d e within) here)

-- a list of what lies at or below an inode
pub covers-listed : (above : ℕ) (tree : Nodes) (table : Table) (inos : List Ino) (affected : InoSet) → ((other : ℕ) → is_within tree.nodes other above ≡ true → Contains inos (record { 0 = other }))
    → ((ino : Ino) → Contains inos ino → IsAdded table.rows affected ino) → CoversBelow above tree table affected
covers-listed above tree table inos affected all added row among below =
    added row.holder.ino (all row.holder.ino.0 below) (any_of (is_of_inode row.holder.ino) table.rows row among (eq-eqb row.holder.ino.0 row.holder.ino.0 refl))

-- ---- where walks began

-- at first there is none
pub none-walked : (walked : InoSet) (tree : Nodes) (table : Table) (affected : InoSet) → walked ≡ set.empty → AreWalked walked tree table affected
none-walked walked tree table affected is above there = absurd (true≢false (sym there ∙ ap (λ (inos : InoSet). set.contains inos above) is ∙ none-there above))

-- more are affected
pub walked-wider : (walked : InoSet) (tree : Nodes) (table : Table) (a b : InoSet) → Widens a b → AreWalked walked tree table a → AreWalked walked tree table b
walked-wider walked tree table a b widens all above there row among below = widens row.holder.ino.0 (all above there row among below)

-- there is one more, if there was memory for it
pub walked-tried : {A E : Type 0} (k : ℕ) (old new : InoSet) (r : Result A E) (tree : Nodes) (table : Table) (affected : InoSet) → OnOk r (new ≡ set.insert old k) → OnErr r (new ≡ old)
    → CoversBelow k tree table affected → AreWalked old tree table affected → AreWalked new tree table affected
walked-tried k old new (Err e) tree table affected ok err covers all above there = subst (λ (walked : InoSet). AreWalked walked tree table affected) (sym err) all above there
walked-tried k old new (Ok x) tree table affected ok err covers all above there = by_test (eq_by_cmp nat_cmp above k) refl (sym (at_more k old new ok above) ∙ there)
  where
    by_test : (b : Bool) → eq_by_cmp nat_cmp above k ≡ b → (b || set.contains old above) ≡ true → CoversBelow above tree table affected
    by_test true is either = subst (λ a. CoversBelow a tree table affected) (sym (eqb-true above k (sym (unsigned_tied above k) ∙ is))) covers
    by_test false is either = all above either
