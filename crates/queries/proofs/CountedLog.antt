-- What is counted of a log.
use Rattle.std.proofs.Common.{◌≡◌, inl, inr, ℕ, Bool, true, false, List, [], ◌∷◌, ◌++◌, refl, sym, ap, subst, ◌∙◌, append_assoc}
use Rattle.std.specs.Prelude.{Result, Ok, Err, OnOk, fold, ◌&&◌, if◌then◌else◌}
use Rattle.std.specs.List.{flat_map}
use Rattle.std.proofs.lemmas.Bool.{cases_Bool, cond-false, cond-true, cond_both}
use Rattle.std.proofs.lemmas.List.Concat.{flat_map-append}
use Rattle.std.proofs.lemmas.List.Sums.{fold-append}
use Rattle.serde_json.specs.Written.{compact_text}
use Rattle.texts.specs.declared.shape.Shape.{Shape}
use Rattle.texts.specs.declared.shape.Shape.TheVariants.{Lines, Objects}
use Rattle.queries.specs.Counts.{Count, counted_in, counts, ended, noted}
use Rattle.queries.specs.Kinds.{kind_in, kind_line, kind_value}
use Rattle.queries.specs.LogPieces.{counted_after, end_text, told_now}
use Rattle.queries.specs.Reported.{Item, Scope, counts_in, item_text, leaves_out, log_text, text_of, text_told}
use Rattle.queries.specs.Told.{Told, allows, passed_in, text_in}
use Rattle.queries.proofs.Counted.{all_counted}
use Rattle.queries.proofs.TextLines.{Whole, both_whole, ended_in_both, fed_whole, none_whole}

-- ---- each text of a kind ends with a line feed

kind_whole : (shape : Shape) (t : Told) → Whole (kind_in shape t)
kind_whole Lines t = fed_whole (kind_line t)
kind_whole Objects t = fed_whole (compact_text (kind_value t))

item_whole : (scope : Scope) (item : Item) → scope.counts ≡ true → Whole (text_told scope item)
item_whole scope item counting =
    cond_both (leaves_out scope && allows item.1) [] (item_text scope item) Whole (λ left. none_whole)
    (λ told. subst Whole (sym (cond-true scope.counts (kind_in scope.shape item.1) (text_in scope.shape item.0 item.1) counting)) (kind_whole scope.shape item.1))

all_whole : (scope : Scope) (items : List Item) → scope.counts ≡ true → Whole (text_of scope items)
all_whole scope [] counting = none_whole
all_whole scope (item ∷ items) counting = both_whole (text_told scope item) (text_of scope items) (item_whole scope item counting) (all_whole scope items counting)

-- ---- what is told one behind the other

both_told : (scope : Scope) (items more : List Item) → text_of scope (items ++ more) ≡ text_of scope items ++ text_of scope more
both_told scope items more = flat_map-append (text_told scope) items more

counting : (scope : Scope) (counted : List Count) (text : List ℕ) → scope.counts ≡ true → counted_after scope counted text ≡ fold noted counted (ended text)
counting scope counted text counts_it = cond-true scope.counts (fold noted counted (ended text)) counted counts_it

telling : (scope : Scope) (counted : List Count) (text : List ℕ) → scope.counts ≡ false → counted_after scope counted text ≡ counted
telling scope counted text tells_it = cond-false scope.counts (fold noted counted (ended text)) counted tells_it

pub counted_more : (scope : Scope) (counted : List Count) (items more : List Item)
    → counted_after scope (counted_after scope counted (text_of scope items)) (text_of scope more) ≡ counted_after scope counted (text_of scope (items ++ more))
counted_more scope counted items more =
    let front : List ℕ = text_of scope items in
    let behind : List ℕ = text_of scope more in
    let all : List ℕ = text_of scope (items ++ more) in
    elim (cases_Bool scope.counts) [
      | inl counts_it ↦
          counting scope (counted_after scope counted front) behind counts_it
          ∙ ap (λ (cs : List Count). fold noted cs (ended behind)) (counting scope counted front counts_it)
          ∙ sym (fold-append noted counted (ended front) (ended behind))
          ∙ ap (λ (ls : List (List ℕ)). fold noted counted ls) (sym (ended_in_both front behind (all_whole scope items counts_it)) ∙ ap ended (sym (both_told scope items more)))
          ∙ sym (counting scope counted all counts_it)
      | inr tells_it ↦ telling scope (counted_after scope counted front) behind tells_it ∙ telling scope counted front tells_it ∙ sym (telling scope counted all tells_it)
    ]

-- what is written at once of both
now_if : (counts : Bool) (front behind all : List ℕ) → all ≡ front ++ behind → (if counts then [] else all) ≡ (if counts then [] else front) ++ (if counts then [] else behind)
now_if true front behind all is = refl
now_if false front behind all is = is

pub now_more : (scope : Scope) (items more : List Item) → told_now scope (text_of scope (items ++ more)) ≡ told_now scope (text_of scope items) ++ told_now scope (text_of scope more)
now_more scope items more = now_if scope.counts (text_of scope items) (text_of scope more) (text_of scope (items ++ more)) (both_told scope items more)

-- ---- at the end of the log

end_if : (counts : Bool) (front last all counted each tail : List ℕ) → all ≡ front ++ last → (counts ≡ true → counted ≡ each) → (counts ≡ false → counted ≡ [])
    → (if counts then [] else front) ++ ((if counts then [] else last) ++ (counted ++ tail)) ≡ (if counts then each else all) ++ tail
end_if true front last all counted each tail both counts_it tells_it = ap (λ (t : List ℕ). t ++ tail) (counts_it refl)
end_if false front last all counted each tail both counts_it tells_it =
    ap (λ (t : List ℕ). front ++ (last ++ (t ++ tail))) (tells_it refl) ∙ sym (append_assoc front last tail) ∙ ap (λ (t : List ℕ). t ++ tail) (sym both)

pub end_of_log : (scope : Scope) (counted : List Count) (items last : List Item) (passed : ℕ) → counted ≡ counted_after scope [] (text_of scope items)
    → told_now scope (text_of scope items) ++ end_text scope counted last passed ≡ log_text scope (items ++ last) passed
end_of_log scope counted items last passed so =
    let all : List ℕ = text_of scope (items ++ last) in
    let after : counted_after scope counted (text_of scope last) ≡ counted_after scope [] all = ap (λ (cs : List Count). counted_after scope cs (text_of scope last)) so ∙ counted_more scope [] items last in
    let each : List Count → List ℕ = flat_map (counted_in scope.shape) in
    end_if scope.counts (text_of scope items) (text_of scope last) all (each (counted_after scope counted (text_of scope last))) (counts_in scope (items ++ last)) (passed_in scope.shape passed)
    (both_told scope items last) (λ counts_it. ap each (after ∙ counting scope [] all counts_it ∙ all_counted (ended all))) (λ tells_it. ap each (after ∙ telling scope [] all tells_it))

in_a_row : (a b c d : List ℕ) → ((a ++ b) ++ c) ++ d ≡ a ++ (b ++ (c ++ d))
in_a_row a b c d = simp append_assoc

-- what is told of the last line, then the counts, then how many lines were passed over
pub at_end : (scope : Scope) (start front mid new told : List ℕ) (counted after : List Count) (last : List Item) (passed count : ℕ) → told ≡ text_of scope last → front ≡ start ++ told_now scope told
    → after ≡ counted_after scope counted told → mid ≡ front ++ flat_map (counted_in scope.shape) after → count ≡ passed → new ≡ mid ++ passed_in scope.shape count → new ≡ start ++ end_text scope counted last passed
at_end scope start front mid new told counted after last passed count is first added each same behind =
    let all : List ℕ → List ℕ = λ text. flat_map (counted_in scope.shape) (counted_after scope counted text) in
    let tail : List ℕ = passed_in scope.shape passed in
    behind
    ∙ ap (λ (n : ℕ). mid ++ passed_in scope.shape n) same
    ∙ ap (λ (t : List ℕ). t ++ tail) (each ∙ ap (λ (cs : List Count). front ++ flat_map (counted_in scope.shape) cs) added ∙ ap (λ (t : List ℕ). t ++ all told) first)
    ∙ in_a_row start (told_now scope told) (all told) tail
    ∙ ap (λ (text : List ℕ). start ++ (told_now scope text ++ (all text ++ tail))) is

-- ---- before the first line

either : {A : Type 0} (counts : Bool) (none : List A) → none ≡ (if counts then none else none)
either true none = refl
either false none = refl

pub none_counted : (scope : Scope) → [] ≡ counted_after scope [] []
none_counted scope = either scope.counts []

pub nothing_now : (scope : Scope) → told_now scope [] ≡ []
nothing_now scope = sym (either scope.counts [])

-- ---- a text that is handed on

pub both_ok : {T E : Type 0} {A B C : Type 0} (result : Result T E) → (A → B → C) → OnOk result A → OnOk result B → OnOk result C
both_ok (Ok x) fits one other = fits one other
both_ok (Err e) fits one other = tt
