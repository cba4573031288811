-- Locks of an inode that are compared as equal are the same.
use Rattle.std.proofs.Common.{◌≡◌, true, Option, Some, None, refl, sym, ap, true≢false}
use Rattle.std.specs.Option.{option_eq}
use Rattle.capbits.specs.Sets.{true_eq}
use Rattle.locktable.specs.declared.states.StableState.TheVariants.{Excl, Lock, Mix}
use Rattle.locktable.specs.contracts.states.LockStatePartialEq.TheImpl as lock_states
use Rattle.locktable.specs.contracts.states.StableStatePartialEq.TheImpl as states
use Rattle.lockmachine.specs.contracts.states.InodeLocksPartialEq.TheImpl as inode_locks
use Rattle.capcore.proofs.CommonPieces.{Gather, InodeLocks, LockState, Stable, StableState, Sync, and_parts}

same-state : (a b : StableState) → states.eq-value.it a b ≡ true → a ≡ b
same-state Sync Sync is = refl
same-state Lock Lock is = refl
same-state Mix Mix is = refl
same-state (Excl a) (Excl b) is = let number = true_eq a.0 b.0 is in λ i. Excl (record { 0 = number i })
same-state Sync Lock is = absurd (true≢false (sym is))
same-state Sync Mix is = absurd (true≢false (sym is))
same-state Sync (Excl b) is = absurd (true≢false (sym is))
same-state Lock Sync is = absurd (true≢false (sym is))
same-state Lock Mix is = absurd (true≢false (sym is))
same-state Lock (Excl b) is = absurd (true≢false (sym is))
same-state Mix Sync is = absurd (true≢false (sym is))
same-state Mix Lock is = absurd (true≢false (sym is))
same-state Mix (Excl b) is = absurd (true≢false (sym is))
same-state (Excl a) Sync is = absurd (true≢false (sym is))
same-state (Excl a) Lock is = absurd (true≢false (sym is))
same-state (Excl a) Mix is = absurd (true≢false (sym is))

same-lock : (a b : LockState) → lock_states.eq-value.it a b ≡ true → a ≡ b
same-lock (Stable a) (Stable b) is = ap Stable (same-state a b is)
same-lock (Gather from to) (Gather from' to') is =
    let both = and_parts (states.eq-value.it from from') (states.eq-value.it to to') is in
    let froms = same-state from from' both.0 in
    let tos = same-state to to' both.1 in
    λ i. Gather (froms i) (tos i)
same-lock (Stable a) (Gather from to) is = absurd (true≢false (sym is))
same-lock (Gather from to) (Stable b) is = absurd (true≢false (sym is))

same-four : (a b : InodeLocks) → inode_locks.eq-value.it a b ≡ true → a ≡ b
same-four a b is =
    let first = and_parts (lock_states.eq-value.it a.auth b.auth) _ is in
    let second = and_parts (lock_states.eq-value.it a.link b.link) _ first.1 in
    let third = and_parts (lock_states.eq-value.it a.xattr b.xattr) (lock_states.eq-value.it a.file b.file) second.1 in
    let auth = same-lock a.auth b.auth first.0 in
    let link = same-lock a.link b.link second.0 in
    let xattr = same-lock a.xattr b.xattr third.0 in
    let file = same-lock a.file b.file third.1 in
    λ i. record { auth = auth i; link = link i; xattr = xattr i; file = file i }

pub same-locks : (a b : Option InodeLocks) → option_eq inode_locks.eq-value.it a b ≡ true → a ≡ b
same-locks None None is = refl
same-locks (Some a) (Some b) is = ap Some (same-four a b is)
same-locks None (Some b) is = absurd (true≢false (sym is))
same-locks (Some a) None is = absurd (true≢false (sym is))
