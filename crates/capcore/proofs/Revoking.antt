-- What is being revoked of a holder's entry, by what is found of it, and the tests that stand behind others.
use Rattle.std.proofs.Common.{◌≡◌, Bool, true, false, ◌&&◌, Option, Some, None, List, [], ◌∷◌, ◌++◌, refl, sym, ap, ◌∙◌, if◌then◌else◌, arith}
use Rattle.std.specs.List.{find}
use Rattle.std.specs.Option.{option_map_or}
use Rattle.capbits.proofs.Tests.{passed-if}
use Rattle.capbits.specs.Caps.{has}
use Rattle.capbits.specs.Sets.{no_caps}
use Rattle.capcore.proofs.CommonPieces.{Entry, EntryRow, Holder, P, Scene, Test, against, entry_at, entry_of, first_failing, has-against, has-none, has_pin}
use Rattle.capcore.proofs.CommonPieces.{is_revoked, is_row_of, no_entry, revoked_of, row_of-entry, test_at}

-- where it has one
pub revoked-found : (s : Scene) (k : Holder) (e : Entry) → entry_at s.table k ≡ Some e → revoked_of s k ≡ against s (record { holder = k; entry = e })
revoked-found s k e is = ap (λ (o : Option EntryRow). option_map_or (against s) o no_caps) (row_of-entry s.table k e is)

-- and where it has none
pub revoked-none : (s : Scene) (k : Holder) → entry_at s.table k ≡ None → revoked_of s k ≡ no_caps
revoked-none s k none = ap (λ o. option_map_or (against s) o no_caps) (no_entry (find (is_row_of k) s.table.rows) none)

-- what is being revoked is held, so the pin goes with it if it is among it
pub pin-goes : (s : Scene) (k : Holder) → (has (revoked_of s k) P && test_at has_pin s.table k) ≡ has (revoked_of s k) P
pin-goes s k = by_row (find (is_row_of k) s.table.rows)
  where
    held : (h r : Bool) → ((h && r) && h) ≡ (h && r)
    held true true = refl
    held true false = refl
    held false r = refl

    by_row : (o : Option EntryRow) → (has (option_map_or (against s) o no_caps) P && option_map_or has_pin (entry_of o) false) ≡ has (option_map_or (against s) o no_caps) P
    by_row None = grind (arith, has-none)
    by_row (Some row) = ap (λ b. b && has row.entry.held P) (has-against s row P) ∙ held (has row.entry.held P) (is_revoked s row.holder P) ∙ sym (has-against s row P)

-- where the tests before pass, those behind them decide
pub passed-front : (one more : List Test) → first_failing one ≡ None → first_failing (one ++ more) ≡ first_failing more
passed-front [] more none = refl
passed-front (t ∷ ts) more none =
    let front = passed-if t.fails t.refusal (first_failing ts) none in
    ap (λ b. if b then Some t.refusal else first_failing (ts ++ more)) front.0 ∙ passed-front ts more front.1
