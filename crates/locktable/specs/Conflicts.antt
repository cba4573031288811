-- Caps that two clients may not hold together on one inode, and why the table keeps them apart.
use Rattle.std.specs.Prelude.{◌≡◌, ◌≢◌, Bool, true, false, IsTrue, IsFalse, ◌||◌, not, refl, if◌then◌else◌, List, [], ◌∷◌, All}
use Rattle.std.specs.List.{list_all, list_any}
use Rattle.std.proofs.Common.{◌∙◌, sym, subst, true≢false}
use Rattle.std.proofs.lemmas.List.Elements.{All-cons, All-nil}
use Rattle.capbits.specs.declared.cap.Cap.{Cap}
use Rattle.capbits.specs.declared.cap.Cap.TheVariants.{As, Ax, Fb, Fc, Fr, Fs, Fw, Fx, Ls, Lx, Xs, Xx}
use Rattle.capbits.specs.declared.cap.Part.{Part}
use Rattle.capbits.specs.declared.cap.Part.TheVariants.{A, F, L, X}
use Rattle.capbits.specs.declared.ids.ClientId.{ClientId}
use Rattle.capbits.specs.Caps.{Caps, has}
use Rattle.capbits.specs.Sets.{IsSubset, all_in, and_parts, caps_in, has-caps_in, has-meet, has-none, meet, no_caps, same_cap, true_eq}
use Rattle.locktable.specs.declared.states.StableState.{StableState}
use Rattle.locktable.specs.declared.states.StableState.TheVariants.{Excl, Lock, Mix, Sync}
use Rattle.locktable.specs.declared.states.LockState.{LockState}
use Rattle.locktable.specs.declared.states.LockState.TheVariants.{Gather, Stable}
use Rattle.locktable.specs.Rows.{allowed_of, cell_of, is_for, row_of, states_of}

-- while one client holds this cap, no other may hold these
abbrev pub barred_by : Cap → List Cap
barred_by Fs = Fw ∷ Fx ∷ Fb ∷ []
barred_by Fc = Fw ∷ Fx ∷ Fb ∷ []
barred_by Fx = Fs ∷ Fx ∷ Fc ∷ Fr ∷ Fw ∷ Fb ∷ []
barred_by Fb = Fs ∷ Fx ∷ Fc ∷ Fr ∷ Fw ∷ Fb ∷ []
barred_by Fw = Fs ∷ Fx ∷ Fc ∷ Fb ∷ []
barred_by Ax = As ∷ Ax ∷ []
barred_by Lx = Ls ∷ Lx ∷ []
barred_by Xx = Xs ∷ Xx ∷ []
barred_by cap = []

-- whether two caps conflict where two clients hold one each
abbrev pub conflict : Cap → Cap → Bool
conflict c d = list_any (same_cap d) (barred_by c) || list_any (same_cap c) (barred_by d)

-- no cap of one set conflicts with one of the other
pub record AreApart (a b : Caps) : Type 0 where
  pub no_conflict : (c d : Cap) → IsTrue (has a c) → IsTrue (has b d) → IsFalse (conflict c d)

-- whether no two caps of a list conflict
abbrev none_conflict : List Cap → Bool
none_conflict cs = list_all (λ c. list_all (λ d. not (conflict c d)) cs) cs

not_true : (b : Bool) → IsTrue (not b) → IsFalse b
not_true true h = absurd (true≢false (sym h))
not_true false h = refl

lists_apart : (cs : List Cap) → IsTrue (none_conflict cs) → AreApart (caps_in cs) (caps_in cs)
lists_apart cs all = record {
  no_conflict = λ c d hc hd.
      let inner = all_in (λ c. list_all (λ d. not (conflict c d)) cs) cs all c (sym (has-caps_in cs c) ∙ hc) in
      not_true _ (all_in (λ d. not (conflict c d)) cs inner d (sym (has-caps_in cs d) ∙ hd));
}

none_left : (a : Caps) → AreApart no_caps a
none_left a = record { no_conflict = λ c d hc hd. absurd (true≢false (sym hc ∙ has-none c)) }

none_right : (a : Caps) → AreApart a no_caps
none_right a = record { no_conflict = λ c d hc hd. absurd (true≢false (sym hd ∙ has-none d)) }

-- two rows with one cell between them
shared_apart : (cs : List Cap) (b e : Bool) → (IsTrue b → IsTrue e → AreApart (caps_in cs) (caps_in cs)) → AreApart (if b then caps_in cs else no_caps) (if e then caps_in cs else no_caps)
shared_apart cs true true h = h refl refl
shared_apart cs false e h = none_left _
shared_apart cs true false h = none_right _

-- no cell that two clients have has a conflict, and no two have that of EXCL
cells_apart : (part : Part) (state : StableState) (a b : ClientId) → a ≢ b → IsTrue (is_for a state) → IsTrue (is_for b state) → AreApart (caps_in (cell_of part state)) (caps_in (cell_of part state))
cells_apart A Sync a b ne ha hb = lists_apart (cell_of A Sync) refl
cells_apart L Sync a b ne ha hb = lists_apart (cell_of L Sync) refl
cells_apart X Sync a b ne ha hb = lists_apart (cell_of X Sync) refl
cells_apart F Sync a b ne ha hb = lists_apart (cell_of F Sync) refl
cells_apart A Lock a b ne ha hb = lists_apart (cell_of A Lock) refl
cells_apart L Lock a b ne ha hb = lists_apart (cell_of L Lock) refl
cells_apart X Lock a b ne ha hb = lists_apart (cell_of X Lock) refl
cells_apart F Lock a b ne ha hb = lists_apart (cell_of F Lock) refl
cells_apart A Mix a b ne ha hb = lists_apart (cell_of A Mix) refl
cells_apart L Mix a b ne ha hb = lists_apart (cell_of L Mix) refl
cells_apart X Mix a b ne ha hb = lists_apart (cell_of X Mix) refl
cells_apart F Mix a b ne ha hb = lists_apart (cell_of F Mix) refl
cells_apart part (Excl h) a b ne ha hb = absurd (ne (λ i. record { 0 = (sym (true_eq _ _ ha) ∙ true_eq _ _ hb) i }))

-- the rows of two clients in one state have no conflict
pub rows_apart : (part : Part) (state : StableState) (a b : ClientId) → a ≢ b → AreApart (row_of part state a) (row_of part state b)
unfolding row_of
rows_apart part state a b ne = shared_apart (cell_of part state) (is_for a state) (is_for b state) (cells_apart part state a b ne)

-- sets inside sets that are apart are apart
pub inside_apart : (a b x y : Caps) → IsSubset a x → IsSubset b y → AreApart x y → AreApart a b
inside_apart a b x y ax by h = record { no_conflict = λ c d hc hd. h.no_conflict c d (ax c hc) (by d hd) }

-- an intersection is inside both sets
pub meet_inside : (a b : Caps) → IsSubset (meet a b) a × IsSubset (meet a b) b
meet_inside a b = ((λ c h. (and_parts (has a c) (has b c) (sym (has-meet a b c) ∙ h)).0), (λ c h. (and_parts (has a c) (has b c) (sym (has-meet a b c) ∙ h)).1))

-- what a lock allows is inside the row of each of its states
pub allowed_inside : (part : Part) (lock : LockState) (client : ClientId) → All (λ state. IsSubset (allowed_of part lock client) (row_of part state client)) (states_of lock)
unfolding allowed_of
allowed_inside part (Stable state) client =
    let Inside : StableState → Type 0 = λ s. IsSubset (row_of part state client) (row_of part s client) in
    All-cons Inside state [] (λ c h. h) (All-nil Inside)
allowed_inside part (Gather from to) client =
    let Inside : StableState → Type 0 = λ s. IsSubset (meet (row_of part from client) (row_of part to client)) (row_of part s client) in
    All-cons Inside from (to ∷ []) (meet_inside _ _).0 (All-cons Inside to [] (meet_inside _ _).1 (All-nil Inside))

-- what one lock allows two clients has no conflict
pub allowed_apart : (part : Part) (lock : LockState) (a b : ClientId) → a ≢ b → AreApart (allowed_of part lock a) (allowed_of part lock b)
unfolding allowed_of
allowed_apart part (Stable state) a b ne = rows_apart part state a b ne
allowed_apart part (Gather from to) a b ne = inside_apart _ _ _ _ (meet_inside _ _).0 (meet_inside _ _).0 (rows_apart part from a b ne)

-- the same of a set that is known to be the row, or what the lock allows
pub a_row_apart : (s : Caps) (part : Part) (state : StableState) (a b : ClientId) → s ≡ row_of part state a → a ≢ b → AreApart s (row_of part state b)
a_row_apart s part state a b e ne = subst (λ s. AreApart s (row_of part state b)) (sym e) (rows_apart part state a b ne)

pub an_allowed_apart : (s : Caps) (part : Part) (lock : LockState) (a b : ClientId) → s ≡ allowed_of part lock a → a ≢ b → AreApart s (allowed_of part lock b)
an_allowed_apart s part lock a b e ne = subst (λ s. AreApart s (allowed_of part lock b)) (sym e) (allowed_apart part lock a b ne)

pub an_allowed_inside : (s : Caps) (part : Part) (lock : LockState) (client : ClientId) → s ≡ allowed_of part lock client → All (λ state. IsSubset s (row_of part state client)) (states_of lock)
an_allowed_inside s part lock client e = subst (λ s. All (λ state. IsSubset s (row_of part state client)) (states_of lock)) (sym e) (allowed_inside part lock client)
