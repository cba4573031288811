-- The lines of a text, counted one after the other.
use Rattle.std.proofs.Common.{◌≡◌, inl, inr, ℕ, ◌+◌, Bool, Option, Some, List, [], ◌∷◌, ◌++◌, map, refl, sym, ap, ◌∙◌, append_assoc}
use Rattle.std.specs.Prelude.{fold}
use Rattle.std.specs.Global.{Vec}
use Rattle.std.specs.Str.{bytes_eq}
use Rattle.std.proofs.lemmas.Bool.{cases_Bool, cond-false, cond-true}
use Rattle.std.proofs.lemmas.List.Sums.{fold-append}
use Rattle.std.specs.Option.{unwrap_or}
use Rattle.std.specs.Map.{lookup}
use Rattle.indexmap.specs.IndexMap.{insert_entry}
use Rattle.texts.specs.ScriptLines.{lines}
use Rattle.queries.specs.Counts.{Count, ended, noted}
use Rattle.queries.proofs.TextLines.{ended_in}

-- ---- one line

-- an entry as a count
abbrev pub count_of : Vec ℕ × ℕ → Count
count_of e = (e.0.items, e.1)

abbrev pub same : Vec ℕ → Vec ℕ → Bool
same x y = bytes_eq x.items y.items

-- how often it was counted
abbrev pub before : List (Vec ℕ × ℕ) → Vec ℕ → ℕ
before es line = unwrap_or (lookup (same line) es) 0

pub noted_there : (es : List (Vec ℕ × ℕ)) (line : Vec ℕ) → map count_of (insert_entry same es line (before es line + 1)) ≡ noted (map count_of es) line.items
noted_there [] line = refl
noted_there (e ∷ es) line =
    let n : ℕ = before (e ∷ es) line + 1 in
    let f : Vec ℕ × ℕ → Count = count_of in
    elim (cases_Bool (same line e.0)) [
      | inl here ↦
          ap (map f) (cond-true (same line e.0) ((e.0, n) ∷ es) (e ∷ insert_entry same es line n) here)
          ∙ ap (λ (m : ℕ). (e.0.items, m + 1) ∷ map f es) (ap (λ (o : Option ℕ). unwrap_or o 0) (cond-true (same line e.0) (Some e.1) (lookup (same line) es) here))
          ∙ sym (cond-true (same line e.0) ((e.0.items, e.1 + 1) ∷ map f es) (f e ∷ noted (map f es) line.items) here)
      | inr differs ↦
          ap (map f) (cond-false (same line e.0) ((e.0, n) ∷ es) (e ∷ insert_entry same es line n) differs)
          ∙ ap (λ (m : ℕ). f e ∷ map f (insert_entry same es line (m + 1))) (ap (λ (o : Option ℕ). unwrap_or o 0) (cond-false (same line e.0) (Some e.1) (lookup (same line) es) differs))
          ∙ ap (λ (cs : List Count). f e ∷ cs) (noted_there es line)
          ∙ sym (cond-false (same line e.0) ((e.0.items, e.1 + 1) ∷ map f es) (f e ∷ noted (map f es) line.items) differs)
    ]

-- ---- one line after the other

-- what is known when so many lines of the text were counted
pub record SoFar (text rest : List ℕ) (old now : List Count) : Type 0 where
  pub ended_are : List (List ℕ)
  pub parted : lines text ≡ ended_are ++ lines rest
  pub counted : now ≡ fold noted old ended_are

pub none_yet : (text : List ℕ) (old : List Count) → SoFar text text old old
none_yet text old = record { ended_are = []; parted = refl; counted = refl }

pub line_more : (text rest line behind : List ℕ) (old now next : List Count) → SoFar text rest old now → lines rest ≡ line ∷ lines behind → next ≡ noted now line → SoFar text behind old next
line_more text rest line behind old now next so is one = record {
  ended_are = so.ended_are ++ line ∷ [];
  parted = so.parted ∙ ap (λ (ls : List (List ℕ)). so.ended_are ++ ls) is ∙ sym (append_assoc so.ended_are (line ∷ []) (lines behind));
  counted = one ∙ ap (λ (cs : List Count). noted cs line) so.counted ∙ sym (fold-append noted old so.ended_are (line ∷ []));
}

pub all_lines : (text rest : List ℕ) (old now : List Count) → SoFar text rest old now → lines rest ≡ rest ∷ [] → now ≡ fold noted old (ended text)
all_lines text rest old now so last =
    so.counted ∙ ap (λ (ls : List (List ℕ)). fold noted old ls) (sym (ended_in text rest so.ended_are (so.parted ∙ ap (λ (ls : List (List ℕ)). so.ended_are ++ ls) last)))
