-- A log told line by line.
use Rattle.std.proofs.Common.{◌≡◌, ℕ, ◌+◌, ◌≤◌, ◌<◌, List, [], ◌∷◌, ◌++◌, length, refl, sym, ap, subst, ◌∙◌, append_assoc, arith}
use Rattle.std.proofs.lemmas.List.{append-nil}
use Rattle.std.proofs.lemmas.List.Concat.{flat_map-append}
use Rattle.texts.specs.ScriptLines.{lines}
use Rattle.queries.specs.Reported.{AreReported, IsReported, Item, Scope, State, text_of, text_told}
use Rattle.queries.specs.Reported.AreReported.{no_more, one_more}
use Rattle.queries.specs.Reported.IsReported.{checked, kept, passed_over}
use Rattle.queries.proofs.Fitting.{few_more}

-- ---- lines one after the other

pub one_after_the_other : (scope : Scope) (s mid end : State) (xs ys : List (List ℕ)) (a b : List Item) → AreReported scope s xs a mid → AreReported scope mid ys b end → AreReported scope s (xs ++ ys) (a ++ b) end
one_after_the_other scope s mid end [] ys a b no_more then = then
one_after_the_other scope s mid end (x ∷ xs) ys a b (one_more first more says others) then =
    subst (λ (t : List Item). AreReported scope s (x ∷ (xs ++ ys)) t end) (sym (append_assoc first more b)) (one_more first (more ++ b) says (one_after_the_other scope _ mid end xs ys more b others then))

pub alone : (scope : Scope) (line : List ℕ) (items : List Item) (s next : State) → IsReported scope s line items next → AreReported scope s (line ∷ []) items next
alone scope line items s next says = subst (λ (t : List Item). AreReported scope s (line ∷ []) t next) (append-nil items) (one_more items [] says no_more)

pub next_number : {scope : Scope} {line : List ℕ} {items : List Item} {s next : State} → IsReported scope s line items next → next.number ≡ s.number + 1
next_number (kept before) = refl
next_number (passed_over other none) = refl
next_number (checked parts told other is says) = refl

pub few_passed : {scope : Scope} {line : List ℕ} {items : List Item} {s next : State} → IsReported scope s line items next → next.passed ≤ s.passed + 1
few_passed {line} (kept before) = omega (arith, few_more (length line))
few_passed {line} (passed_over other none) = omega (arith, few_more (length line))
few_passed (checked parts told other is says) = omega arith

-- ---- the lines of a text

-- what is known when so many lines of the text were told, behind what was told before them
pub record SoFar (scope : Scope) (text rest front reported : List ℕ) (old s : State) : Type 0 where
  pub ended : List (List ℕ)
  pub items : List Item
  pub parted : lines text ≡ ended ++ lines rest
  pub reported_are : AreReported scope old ended items s
  pub told_is : reported ≡ front ++ text_of scope items
  pub left : s.number + length rest ≤ old.number + length text
  pub few : s.passed < s.number

-- what is told of one line
abbrev pub Tells : Scope → State → List ℕ → List ℕ → List ℕ → State → Type 0
Tells scope s line reported after next = (items : List Item) × (after ≡ reported ++ text_of scope items) × IsReported scope s line items next

pub begun : (scope : Scope) (text reported : List ℕ) (s : State) → s.passed < s.number → SoFar scope text text reported reported s s
begun scope text reported s few = record { ended = []; items = []; parted = refl; reported_are = no_more; told_is = sym (append-nil reported); left = omega arith; few = few }

-- what was told, and more
pub told_more : (scope : Scope) (front told after : List ℕ) (items more : List Item) → told ≡ front ++ text_of scope items → after ≡ told ++ text_of scope more → after ≡ front ++ text_of scope (items ++ more)
told_more scope front told after items more before now =
    now ∙ ap (λ (t : List ℕ). t ++ text_of scope more) before ∙ append_assoc front (text_of scope items) (text_of scope more) ∙ ap (λ (t : List ℕ). front ++ t) (sym (flat_map-append (text_told scope) items more))

pub line_more : (scope : Scope) (text rest front reported line behind after : List ℕ) (old s next : State) → SoFar scope text rest front reported old s → lines rest ≡ line ∷ lines behind → length behind < length rest
    → Tells scope s line reported after next → SoFar scope text behind front after old next
line_more scope text rest front reported line behind after old s next so is shorter says = record {
  ended = so.ended ++ line ∷ [];
  items = so.items ++ says.0;
  parted = so.parted ∙ ap (λ (ls : List (List ℕ)). so.ended ++ ls) is ∙ sym (append_assoc so.ended (line ∷ []) (lines behind));
  reported_are = one_after_the_other scope old s next so.ended (line ∷ []) so.items says.0 so.reported_are (alone scope line says.0 s next says.2);
  told_is = told_more scope front reported after so.items says.0 so.told_is says.1;
  left = omega (arith, so.left, shorter, next_number says.2);
  few = omega (arith, so.few, next_number says.2, few_passed says.2);
}
