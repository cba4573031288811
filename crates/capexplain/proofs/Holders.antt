-- Texts of holders.
use Rattle.std.proofs.Common.{◌≡◌, ℕ, ◌<◌, List, [], ◌∷◌, length, refl, arith}
use Rattle.std.specs.List.{flat_map}
use Rattle.captable.specs.declared.entry.Holder.{Holder}
use Rattle.capexplain.specs.Replies.{holder_text, holders_text}

-- some holders have no dash
pub some_holders : (holders : List Holder) → 0 < length holders → holders_text holders ≡ flat_map holder_text holders
some_holders [] some = absurd (omega arith)
some_holders (k ∷ holders) some = refl
