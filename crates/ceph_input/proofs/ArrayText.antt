-- What is left of a text, a byte further on.
use Rattle.std.proofs.Common.{◌≡◌, ◌⊎◌, ℕ, ◌+◌, ◌-◌, ◌<◌, ◌≤◌, true, false, List, ◌∷◌, ◌++◌, length, take, drop, get_or, refl, sym, ap, ◌∙◌, inl, inr, arith}
use Rattle.std.proofs.Common.{append_assoc}
use Rattle.std.specs.Prelude.{IsTrue}
use Rattle.std.proofs.lemmas.List.{drop-append-le, drop_more, get_or-drop, get_or-take, length-drop, length-take, take-append-drop, take-append-le}
use Rattle.std.proofs.Math.Dec.{leb}
use Rattle.std.proofs.lemmas.Bool.{cases_Bool, false≢true, le-leb, leb-false, leb-true, ne_eqb}
use Rattle.ceph_input.specs.declared.place.Place.{Place}
use Rattle.ceph_input.specs.declared.array_fault.Expected.TheVariants as wants
use Rattle.ceph_input.specs.declared.stage.Stage.{Stage}
use Rattle.ceph_input.specs.declared.stage.Stage.TheVariants.{Closing, Next}
use Rattle.ceph_input.specs.Rows.{broken, ends, items_from, longest_item, passed, row, rows_at, unindented}

-- a chunk from a byte of it on, and what follows the chunk
pub goes_on : (chunk tail : List ℕ) (i d : ℕ) → i < length chunk → drop i chunk ++ tail ≡ get_or chunk i d ∷ (drop (i + 1) chunk ++ tail)
goes_on chunk tail i d inside = ap (λ (l : List ℕ). l ++ tail) (drop_more chunk i d inside)

-- the rows from a place on, where so many bytes of a chunk that fits into the item are read
abbrev pub AreScanned : Place → Place → List ℕ → ℕ → Type 0
AreScanned place here bytes i = (byte : ℕ) (item tail : List ℕ) → length bytes ≤ longest_item - length item → items_from byte item place (bytes ++ tail) ≡ items_from (byte + i) (item ++ take i bytes) here (drop i bytes ++ tail)

-- the rows from a stage on, where so many bytes of a chunk are read
abbrev pub AreEntered : Stage → Stage → ℕ → List ℕ → ℕ → Type 0
AreEntered stage here byte chunk i = (item tail : List ℕ) → rows_at stage byte item (chunk ++ tail) ≡ rows_at here (byte + i) item (drop i chunk ++ tail)

-- a piece is read, in which so much room is
pub piece_scanned : (place here : Place) (byte : ℕ) (item chunk : List ℕ) (room n : ℕ) → n ≤ length (take room chunk) → room ≤ longest_item - length item → AreScanned place here (take room chunk) n
    → (tail : List ℕ) → items_from byte item place (chunk ++ tail) ≡ items_from (byte + n) (item ++ take n chunk) here (drop n chunk ++ tail)
piece_scanned place here byte item chunk room n inside fits scanned tail =
    let front = take room chunk in
    let back = drop room chunk in
    let few : length front ≤ longest_item - length item = omega (arith, length-take room chunk) in
    let whole : front ++ back ≡ chunk = take-append-drop room chunk in
    let taken : take n front ≡ take n chunk = sym (take-append-le n front back inside) ∙ ap (take n) whole in
    let left : drop n front ++ (back ++ tail) ≡ drop n chunk ++ tail = sym (append_assoc (drop n front) back tail) ∙ ap (λ (l : List ℕ). l ++ tail) (sym (drop-append-le n front back inside) ∙ ap (drop n) whole) in
    ap (λ (l : List ℕ). items_from byte item place (l ++ tail)) (sym whole)
    ∙ ap (items_from byte item place) (append_assoc front back tail)
    ∙ scanned byte item (back ++ tail) few
    ∙ ap (λ (l : List ℕ). items_from (byte + n) (item ++ l) here (drop n front ++ (back ++ tail))) taken
    ∙ ap (items_from (byte + n) (item ++ take n chunk) here) left

-- what comes of it, where something is left of the chunk
module _ (place here : Place) (byte : ℕ) (item chunk got : List ℕ) (room n : ℕ) (inside : n ≤ length (take room chunk)) (fits : room ≤ longest_item - length item)
    (scanned : AreScanned place here (take room chunk) n) (grown : got ≡ item ++ take n chunk) (rest : List ℕ) (left : rest ≡ drop n chunk) (some : 1 ≤ length rest) where
  at_rest : (tail : List ℕ) → items_from byte item place (chunk ++ tail) ≡ items_from (byte + n) got here (get_or rest 0 0 ∷ (drop 1 rest ++ tail))
  at_rest tail =
      piece_scanned place here byte item chunk room n inside fits scanned tail
      ∙ ap (λ (l : List ℕ). items_from (byte + n) l here (drop n chunk ++ tail)) (sym grown)
      ∙ ap (λ (l : List ℕ). items_from (byte + n) got here (l ++ tail)) (sym left)
      ∙ ap (items_from (byte + n) got here) (goes_on rest tail 0 0 (omega arith))

  -- the item ends there, before a comma or else
  pub item_ends : (tail : List ℕ) (stage : Stage) (begun : ℕ) (behind : List ℕ) → ends here (get_or rest 0 0) ≡ true → ((get_or rest 0 0 ≡ 44) × (stage ≡ Next)) ⊎ ((get_or rest 0 0 ≡ 44 → ⊥) × (stage ≡ Closing))
      → begun ≡ byte + n - length (unindented got) → behind ≡ drop 1 rest → items_from byte item place (chunk ++ tail) ≡ row begun (unindented got) (rows_at stage (byte + n + 1) got (behind ++ tail))
  item_ends tail stage begun behind over (inl (comma, next)) starts goes = rw (starts, goes, next) (at_rest tail ∙ rw (over, comma) refl)
  item_ends tail stage begun behind over (inr (other, closing)) starts goes = rw (starts, goes, closing) (at_rest tail ∙ rw (over, ne_eqb (get_or rest 0 0) 44 other) refl)

  -- or has no more room
  pub item_full : (tail : List ℕ) → ends here (get_or rest 0 0) ≡ false → longest_item ≤ length got → items_from byte item place (chunk ++ tail) ≡ broken (byte + n) wants.ShorterItem
  item_full tail goes full = at_rest tail ∙ rw (goes, le-leb longest_item (length got) full) refl

-- what belongs to an item goes on behind all that has room
pub no_room : (here : Place) (chunk rest : List ℕ) (room n : ℕ) → (n < length (take room chunk) → IsTrue (ends here (get_or (take room chunk) n 0))) → rest ≡ drop n chunk → 1 ≤ length rest → ends here (get_or rest 0 0) ≡ false → room ≤ n
no_room here chunk rest room n ended left some goes = elim (cases_Bool (leb room n)) [
  | inl passed ↦ leb-true room n passed
  | inr before ↦
      let below : n < room = leb-false room n before in
      let inside : n < length (take room chunk) = omega (arith, length-take room chunk, ap length left, length-drop n chunk) in
      let same : get_or (take room chunk) n 0 ≡ get_or rest 0 0 = get_or-take room chunk n 0 below ∙ ap (λ (k : ℕ). get_or chunk k 0) (omega arith) ∙ sym (ap (λ (l : List ℕ). get_or l 0 0) left ∙ get_or-drop n chunk 0 0) in
      absurd (false≢true (sym goes ∙ ap (ends here) (sym same) ∙ ended inside))
]
