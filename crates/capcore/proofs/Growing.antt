-- A legal history goes on by one row.
use Rattle.std.proofs.Common.{◌≡◌, ℕ, ◌+◌, ◌<◌, ◌≤◌, List, [], ◌∷◌, ◌++◌, length, Some, None, refl, sym, ap, subst, ◌∙◌, arith}
use Rattle.capstep.proofs.Numbered.{numbered-nil, numbered-snoc}
use Rattle.capcore.proofs.Common.{AreGiven, CoreValue, HasNoStray, IsLegalCore, IsOpening, IsSound, IsTable, Nodes, Replays, Row, State, Step, ViewChange}
use Rattle.capcore.proofs.Common.{core_value, entry_at, rows_of, step-shown}
use Rattle.capcore.proofs.Sounding.{opening-given, opening-sound}

pub replays-more : (first : State) (rows : List Row) (old : State) (row : Row) (new : State) → Replays first rows old → Step old row.event row.reply row.ended new → Replays first (rows ++ row ∷ []) new
replays-more first [] old row new is step = (new, subst (λ s. Step s row.event row.reply row.ended new) is step, refl)
replays-more first (r ∷ rows) old row new (mid, one, more) step = (mid, one, replays-more mid rows old row new more step)

length-more : (rows : List Row) (row : Row) → length (rows ++ row ∷ []) ≡ length rows + 1
length-more [] row = refl
length-more (r ∷ rows) row = let more = length-more rows row in omega (arith, more)

-- a new core has the empty history
pub first-legal : (fs : List ℕ) (tree : Nodes) (s : State) (max_rows : ℕ) (changes : List ViewChange) → HasNoStray tree → IsOpening fs tree s → IsLegalCore (core_value s [] max_rows changes)
first-legal fs tree s max_rows changes none is = record {
  fs = fs;
  tree = tree;
  no_strays = none;
  opening = s;
  is_opening = is;
  legal = record { replays = refl; numbered = numbered-nil };
  room = omega (arith);
  sound = opening-sound fs tree s none is;
  given = opening-given fs tree s is;
  shown = λ k e there. let none : None ≡ Some e = ap (λ t. entry_at t k) (sym is.table_is) ∙ there in absurd (cc);
}

pub given-more : (rows : List Row) (row : Row) (new : State) → AreGiven (length rows + 1) new → AreGiven (length (rows ++ row ∷ [])) new
given-more rows row new = subst (λ n. AreGiven n new) (sym (length-more rows row))

-- one step more, with its row, to a state that is sound
pub more-legal : (t : CoreValue) (row : Row) (new : State) (changes : List ViewChange) → IsLegalCore t → Step t.state row.event row.reply row.ended new → row.nth ≡ rows_of row.pass t.rows + 1 → length t.rows < t.max_rows → IsTable t.state.scene.table → IsSound new → AreGiven (length t.rows + 1) new →
    IsLegalCore (core_value new (t.rows ++ row ∷ []) t.max_rows changes)
more-legal t row new changes is step nth less table sound given = record {
  fs = is.fs;
  tree = is.tree;
  no_strays = is.no_strays;
  opening = is.opening;
  is_opening = is.is_opening;
  legal = record { replays = replays-more is.opening t.rows t.state row new is.legal.replays step; numbered = numbered-snoc t.rows row is.legal.numbered nth };
  room = subst (λ n. n ≤ t.max_rows) (sym (length-more t.rows row)) (omega (arith, less));
  sound = sound;
  given = given-more t.rows row new given;
  shown = step-shown t.state new t.rows row is.sound table is.shown step;
}
