-- A holder that comes last in the order of recall.
use Rattle.std.proofs.Common.{◌≡◌, Bool, true, false, not, ◌&&◌, ◌||◌, cond, List, [], ◌∷◌, ◌++◌, filter, refl, ap, ◌∙◌}
use Rattle.std.specs.List.{AllByRecursion, IsDistinct}
use Rattle.std.proofs.lemmas.Map.Keys.{IsDistinct-push}
use Rattle.std.proofs.lemmas.List.Folds.{list_any-append}
use Rattle.captable.specs.declared.entry.Holder.{Holder}
use Rattle.captable.specs.Table.{IsTable, Table, is_among, same}
use Rattle.captable.specs.Calls.{moved_last, touched}
use Rattle.captable.proofs.Tables.{among-filter, distinct-filter, same-is, same_equiv}

-- nobody else is the holder
others : (hs : List Holder) (k : Holder) → AllByRecursion (λ h. same k h ≡ false) hs → (filter (λ h. not (same k h)) hs ≡ hs) × (filter (same k) hs ≡ [])
others [] k all = (refl, refl)
others (h ∷ hs) k all =
    let rest = others hs k all.1 in (
      ap (λ b. cond (not b) (h ∷ filter (λ h. not (same k h)) hs) (filter (λ h. not (same k h)) hs)) all.0 ∙ ap (λ hs. h ∷ hs) rest.0,
      ap (λ b. cond b (h ∷ filter (same k) hs) (filter (same k) hs)) all.0 ∙ rest.1,
    )

append-none : {X : Type 0} (xs : List X) → xs ++ [] ≡ xs
append-none [] = refl
append-none (x ∷ xs) = ap (λ ys. x ∷ ys) (append-none xs)

alone : (hs : List Holder) (k : Holder) → IsDistinct same hs → filter (same k) hs ≡ cond (is_among hs k) (k ∷ []) []
unfolding IsDistinct
alone [] k apart = refl
alone (h ∷ hs) k apart =
    elim (same k h) as (λ b. same k h ≡ b → cond b (h ∷ filter (same k) hs) (filter (same k) hs) ≡ cond (b || is_among hs k) (k ∷ []) []) [
      | true ↦ λ e. let is = same-is k h e in rw is (ap (λ hs. h ∷ hs) (others hs h apart.0).1)
      | false ↦ λ e. alone hs k apart.1
    ] refl

distinct-moved : (hs : List Holder) (k : Holder) → IsDistinct same hs → IsDistinct same (moved_last hs k)
distinct-moved hs k apart =
    let kept = filter (λ h. not (same k h)) hs in
    let apart_kept : IsDistinct same kept = distinct-filter (λ h. not (same k h)) hs apart in
    let gone : is_among kept k ≡ false = among-filter (λ h. not (same k h)) hs k ∙ ap (λ b. not b && is_among hs k) (same_equiv.refl k) in
    elim (is_among hs k) as (λ b. filter (same k) hs ≡ cond b (k ∷ []) [] → IsDistinct same (kept ++ filter (same k) hs)) [
      | true ↦ λ e. rw e (IsDistinct-push same_equiv kept k apart_kept gone)
      | false ↦ λ e. rw (e, append-none kept) apart_kept
    ] (alone hs k apart)

either : (b c : Bool) → ((not b && c) || (b && c)) ≡ c
either true true = refl
either true false = refl
either false true = refl
either false false = refl

among-moved : (hs : List Holder) (k q : Holder) → is_among (moved_last hs k) q ≡ is_among hs q
among-moved hs k q =
    list_any-append (same q) (filter (λ h. not (same k h)) hs) (filter (same k) hs)
    ∙ (λ i. among-filter (λ h. not (same k h)) hs q i || among-filter (same k) hs q i)
    ∙ either (same k q) (is_among hs q)

-- a holder that comes last keeps the table
pub IsTable-touched : (t : Table) (k : Holder) → IsTable t → IsTable (touched t k)
IsTable-touched t k is =
    record {
      one_row = is.one_row;
      one_recall = distinct-moved t.recall k is.one_recall;
      in_both = λ q. among-moved t.recall k q ∙ is.in_both q;
      room = is.room;
    }
