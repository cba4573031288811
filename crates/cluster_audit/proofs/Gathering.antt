-- What a set has after a loop that adds a set for each element.
use Rattle.std.proofs.Common.{◌≡◌, ℕ, ◌+◌, ◌<◌, ◌≤◌, Bool, true, false, ◌||◌, refl, List, length, get_or, take, sym, ap, ◌∙◌}
use Rattle.std.specs.List.{list_any}
use Rattle.std.proofs.lemmas.List.{take_all}
use Rattle.std.proofs.lemmas.List.Folds.{list_any_more}
use Rattle.capbits.specs.declared.cap.Cap.{Cap}
use Rattle.capbits.specs.Caps.{Caps, has}
use Rattle.capbits.specs.Sets.{has-none, has-union, no_caps, union}

pub or_nothing : (b : Bool) → b ≡ (b || false)
or_nothing true = refl
or_nothing false = refl

-- a cap is in the set exactly if some element passes its test
abbrev pub IsGathered : {X : Type 0} → (Cap → X → Bool) → List X → Caps → Type 0
IsGathered test xs s = (cap : Cap) → has s cap ≡ list_any (test cap) xs

pub none_yet : (s : Caps) → s ≡ no_caps → (cap : Cap) → has s cap ≡ false
none_yet s is cap = ap (λ (t : Caps). has t cap) is ∙ has-none cap

pub one_more : {X : Type 0} (test : Cap → X → Bool) (xs : List X) (before here after : Caps) (i : ℕ) (x d : X) → i < length xs → x ≡ get_or xs i d → IsGathered test (take i xs) before → ((cap : Cap) → has here cap ≡ test cap x) → after ≡ union before here → IsGathered test (take (i + 1) xs) after
one_more test xs before here after i x d within at gathered is_here is_after cap =
    ap (λ (s : Caps). has s cap) is_after
    ∙ has-union before here cap
    ∙ ap (λ (b : Bool). b || has here cap) (gathered cap)
    ∙ ap (λ (b : Bool). list_any (test cap) (take i xs) || b) (is_here cap ∙ ap (test cap) at)
    ∙ sym (list_any_more (test cap) xs i d within)

-- where an element adds nothing
pub no_more : {X : Type 0} (test : Cap → X → Bool) (xs : List X) (before after : Caps) (i : ℕ) (d : X) → i < length xs → IsGathered test (take i xs) before → ((cap : Cap) → test cap (get_or xs i d) ≡ false) → after ≡ before → IsGathered test (take (i + 1) xs) after
no_more test xs before after i d within gathered none is_after cap =
    ap (λ (s : Caps). has s cap) is_after
    ∙ gathered cap
    ∙ or_nothing (list_any (test cap) (take i xs))
    ∙ ap (λ (b : Bool). list_any (test cap) (take i xs) || b) (sym (none cap))
    ∙ sym (list_any_more (test cap) xs i d within)

pub all_of : {X : Type 0} (test : Cap → X → Bool) (xs : List X) (s : Caps) (i : ℕ) → length xs ≤ i → IsGathered test (take i xs) s → IsGathered test xs s
all_of test xs s i end gathered cap = gathered cap ∙ ap (list_any (test cap)) (take_all i xs end)
