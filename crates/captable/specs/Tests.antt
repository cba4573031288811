-- The tests of the calls on the table, each with its refusal where it fails.
use Rattle.std.specs.Prelude.{ℕ, Bool, false, not, nat_lt, nat_le, ◌==◌, List, [], ◌∷◌, ◌++◌, length, is_some, if◌then◌else◌}
use Rattle.std.specs.Option.{option_map_or}
use Rattle.capbits.specs.Caps.{Caps}
use Rattle.capbits.specs.Sets.{is_empty, meet, minus}
use Rattle.capbits.specs.declared.refusal.Refusal.TheVariants as refusal
use Rattle.capbits.specs.Refusal.{Test, refused_if}
use Rattle.captable.specs.declared.entry.Holder.{Holder}
use Rattle.captable.specs.declared.entry.Entry.{Entry}
use Rattle.captable.specs.Table.{Table, entry_at}

-- of the holder's entry; where there is none, it does not hold
abbrev pub test_at : (Entry → Bool) → Table → Holder → Bool
test_at test table k = option_map_or test (entry_at table k) false

-- the number of the last revocation of the holder's entry
abbrev pub last_revocation : Table → Holder → ℕ
last_revocation table k = option_map_or (λ e. e.revoke_seq) (entry_at table k) 0

-- there may be one more entry
abbrev pub open_tests : Table → List Test
open_tests table = refused_if (nat_le 65536 (length table.rows)) refusal.Limit ∷ []

-- the holder has an entry, or there may be one more, and a number is left for it
abbrev pub open_entry_tests : Table → Holder → List Test
open_entry_tests table k = if is_some (entry_at table k) then [] else open_tests table ++ refused_if (table.made == 18446744073709551615) refusal.Limit ∷ []

-- the client has an entry on the inode
abbrev pub entry_test : Table → Holder → Test
entry_test table k = refused_if (not (is_some (entry_at table k))) refusal.NoEntry

-- the client holds something that is being revoked, and names a number that is neither above the last of which
-- it was told nor below that of the last revocation
abbrev pub ack_tests : Table → Holder → ℕ → Caps → List Test
ack_tests table k seq against =
    entry_test table k
    ∷ refused_if (test_at (λ e. is_empty (meet e.held against)) table k) refusal.NothingToAck
    ∷ refused_if (test_at (λ e. nat_lt e.told_seq seq) table k) refusal.BadSeq
    ∷ refused_if (nat_lt seq (last_revocation table k)) (refusal.OldSeq (last_revocation table k))
    ∷ []

-- the client holds each of these
abbrev pub release_tests : Table → Holder → Caps → List Test
release_tests table k caps = entry_test table k ∷ refused_if (test_at (λ e. not (is_empty (minus caps e.held))) table k) refusal.NotHeld ∷ []
