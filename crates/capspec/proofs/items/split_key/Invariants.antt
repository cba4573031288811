use Rattle.std.proofs.Common.{ℕ, ◌<◌, List, get_or}
use Rattle.capspec.specs.declared.items.Key.TheVariants as keys
use Rattle.capspec.specs.Words.{IsKeyed}
use Rattle.capspec.proofs.items.split_key.Given as goal

-- none of the keys so far
abbrev pub invariant-loop-key : goal.invariant-loop-key
invariant-loop-key l = (k : ℕ) → k < l.key-index → (value : List ℕ) → IsKeyed (get_or l.key-items k keys.RootSquash) l.text value → ⊥
