-- Members and items that are added one each turn.
use Rattle.std.proofs.Common.{◌≡◌, ℕ, ◌+◌, ◌<◌, ◌≤◌, List, [], ◌∷◌, ◌++◌, length, map, drop, take, get_or, Bor, sym, ap, ◌∙◌, arith}
use Rattle.std.specs.List.{enumerate_from}
use Rattle.std.proofs.lemmas.List.{drop_all, drop_more, length-take-le, map-append, take_more}
use Rattle.serde_json.specs.Data.{Data, Members, put}
use Rattle.serde_json.specs.View.{view}
use Rattle.serde_json.specs.declared.value.Value.{Value}
use Rattle.texts.specs.declared.table.Piece.{Piece}
use Rattle.texts.specs.Pieces.{piece_value}
use Rattle.texts.specs.Values.{with_all}

-- ---- members

abbrev pub Row : Type 0
Row = Bor (List ℕ) × Piece

abbrev pub member_of : Row → List ℕ × Data
member_of m = (m.0.now, piece_value m.1)

pub one_more : (table : List Row) (i : ℕ) (d : Row) (value : Data) (before after whole : Members) → i < length table → value ≡ piece_value (get_or table i d).1 → after ≡ put (get_or table i d).0.now value before
    → with_all (map member_of (drop i table)) before ≡ whole → with_all (map member_of (drop (i + 1) table)) after ≡ whole
one_more table i d value before after whole inside value_is now held =
    let m : Row = get_or table i d in
    ap (with_all (map member_of (drop (i + 1) table))) (now ∙ ap (λ v. put m.0.now v before) value_is) ∙ ap (λ (t : List Row). with_all (map member_of t) before) (sym (drop_more table i d inside)) ∙ held

pub no_more : (table : List Row) (i : ℕ) (ms whole : Members) → length table ≤ i → with_all (map member_of (drop i table)) ms ≡ whole → ms ≡ whole
no_more table i ms whole end held = sym (ap (λ (t : List Row). with_all (map member_of t) ms) (drop_all i table end)) ∙ held

-- ---- items

enumerate_from-push : {X : Type 0} (n : ℕ) (xs : List X) (x : X) → enumerate_from n (xs ++ x ∷ []) ≡ enumerate_from n xs ++ (n + length xs, x) ∷ []
enumerate_from-push n [] x = ap (λ m. (m, x) ∷ []) (omega arith)
enumerate_from-push n (y ∷ ys) x = ap (λ zs. (n, y) ∷ zs) (enumerate_from-push (n + 1) ys x ∙ ap (λ m. enumerate_from (n + 1) ys ++ (m, x) ∷ []) (omega arith))

-- the value of one more behind those of the others
pub pushed : {X : Type 0} (f : X → Data) (before after : List Value) (gone : List X) (x : X) (v : Value) → view v ≡ f x → after ≡ before ++ v ∷ [] → map view before ≡ map f gone → map view after ≡ map f (gone ++ x ∷ [])
pushed f before after gone x v is now held =
    ap (map view) now ∙ map-append view before (v ∷ []) ∙ ap (λ ds. ds ++ view v ∷ []) held ∙ ap (λ d. map f gone ++ d ∷ []) is ∙ sym (map-append f gone (x ∷ []))

pub one_item : {X : Type 0} (f : X → Data) (before after : List Value) (xs : List X) (i : ℕ) (d : X) (v : Value) → i < length xs → view v ≡ f (get_or xs i d) → after ≡ before ++ v ∷ [] → map view before ≡ map f (take i xs) → map view after ≡ map f (take (i + 1) xs)
one_item f before after xs i d v inside is now held = pushed f before after (take i xs) (get_or xs i d) v is now held ∙ ap (map f) (sym (take_more xs i d inside))

pub one_numbered : {X : Type 0} (f : ℕ × X → Data) (before after : List Value) (xs : List X) (i : ℕ) (d : X) (v : Value) → i < length xs → view v ≡ f (i + 1, get_or xs i d) → after ≡ before ++ v ∷ [] → map view before ≡ map f (enumerate_from 1 (take i xs))
    → map view after ≡ map f (enumerate_from 1 (take (i + 1) xs))
one_numbered f before after xs i d v inside is now held =
    let count : 1 + length (take i xs) ≡ i + 1 = omega (arith, length-take-le i xs (omega arith)) in
    pushed f before after (enumerate_from 1 (take i xs)) (i + 1, get_or xs i d) v is now held
    ∙ ap (λ n. map f (enumerate_from 1 (take i xs) ++ (n, get_or xs i d) ∷ [])) (sym count)
    ∙ ap (map f) (sym (ap (enumerate_from 1) (take_more xs i d inside) ∙ enumerate_from-push 1 (take i xs) (get_or xs i d)))
