-- One item of a list more.
use Rattle.std.proofs.Common.{◌≡◌, ℕ, ◌+◌, ◌<◌, List, [], ◌∷◌, ◌++◌, length, drop, get_or, sym, ap, ◌∙◌}
use Rattle.std.proofs.lemmas.List.{at_drop_more}
use Rattle.std.specs.Prelude.{Err, None, Option, Result, Some, option_and_then, option_map, unwrap_or}
use Rattle.serde_json.specs.declared.value.Value.{Value}
use Rattle.serde_json.specs.Data.{Data}
use Rattle.serde_json.specs.View.{items_view, view}
use Rattle.ceph_input.specs.Each.{each_of, with_each}

module _ (xs : List Value) (i : ℕ) (x : Value) (is : x ≡ get_or xs i x) (inside : i < length xs) where
  -- what a function says of the rest of a list, by the first item of the rest
  at_item : {Y : Type 0} (F : List Value → Y) → F (drop i xs) ≡ F (x ∷ drop (i + 1) xs)
  at_item F = at_drop_more F xs i x inside ∙ ap (λ (y : Value). F (y ∷ drop (i + 1) xs)) (sym is)

  module _ {A : Type 0} (add : A → Data → Option A) (before : A) where
    abbrev rest_with : Option A → Option A
    rest_with added = option_and_then (λ (more : A). with_each add more (items_view (drop (i + 1) xs))) added

    -- it was added
    pub one_more : (after : A) → add before (view x) ≡ Some after → with_each add after (items_view (drop (i + 1) xs)) ≡ with_each add before (items_view (drop i xs))
    one_more after added = sym (at_item (λ (vs : List Value). with_each add before (items_view vs)) ∙ ap rest_with added)

    -- it can't be added
    pub no_more : add before (view x) ≡ None → with_each add before (items_view (drop i xs)) ≡ None
    no_more not_added = at_item (λ (vs : List Value). with_each add before (items_view vs)) ∙ ap rest_with not_added

  module _ {T F : Type 0} (read : Data → Option T) (wrong : ℕ → F) (before : List T) where
    abbrev rest_behind : Option T → Result (List T) F
    rest_behind found = unwrap_or (option_map (λ (t : T). each_of read wrong (before ++ t ∷ []) (items_view (drop (i + 1) xs))) found) (Err (wrong (length before + 1)))

    -- it was read
    pub one_read : (after : List T) (t : T) → after ≡ before ++ t ∷ [] → Some t ≡ read (view x) → each_of read wrong after (items_view (drop (i + 1) xs)) ≡ each_of read wrong before (items_view (drop i xs))
    one_read after t is_after found =
        ap (λ (a : List T). each_of read wrong a (items_view (drop (i + 1) xs))) is_after
        ∙ ap rest_behind found
        ∙ sym (at_item (λ (vs : List Value). each_of read wrong before (items_view vs)))

    -- it is none
    pub none_read : None ≡ read (view x) → each_of read wrong before (items_view (drop i xs)) ≡ Err (wrong (length before + 1))
    none_read found = at_item (λ (vs : List Value). each_of read wrong before (items_view vs)) ∙ ap rest_behind (sym found)
