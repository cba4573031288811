-- How values are stored.
use Rattle.std.specs.Prelude.{List, refl, ℕ}
use Rattle.std.specs.Coded.{Coded, code_by, coded_list, coded_ℕ, coded×}
use Rattle.std.specs.FinMap as map
use Rattle.lockmachine.specs.declared.request.Request.{Request}
use Rattle.lockmachine.specs.contracts.request.Request as request
use Rattle.lockmachine.specs.contracts.states.InodeLocks as inode_locks
use Rattle.locktable.specs.contracts.counts.Counts as inode_counts
use Rattle.lockmachine.specs.contracts.waiters.Waiter as waiter
use Rattle.lockmachine.specs.Counts.{CountedLocks}
use Rattle.lockmachine.specs.Inodes.{CountMap, CountedStates, StateMap}
use Rattle.lockmachine.specs.Locks.{LockMap}
use Rattle.lockmachine.specs.Waiters.{WaiterList}

-- a map of inodes to locks as its entries
abbrev pub state_map_code : Coded StateMap
state_map_code = map.code coded_ℕ inode_locks.the_row.coded

-- the locks as their fields
abbrev pub lock_map_code : Coded LockMap
lock_map_code =
    code_by (StateMap × (List Request × ℕ)) (coded× state_map_code (coded× (coded_list request.the_row.coded) coded_ℕ))
    (λ l. (l.states, (l.queue, l.last))) (λ p. record { states = p.0; queue = p.1.0; last = p.1.1 }) (λ _. refl)

-- who waits as a list
abbrev pub waiters_code : Coded WaiterList
waiters_code = coded_list waiter.the_row.coded

-- the counts as the entries of a map
abbrev pub count_map_code : Coded CountMap
count_map_code = map.code coded_ℕ inode_counts.the_row.coded

-- both, as their fields
abbrev pub counted_states_code : Coded CountedStates
counted_states_code = code_by (StateMap × CountMap) (coded× state_map_code count_map_code) (λ s. (s.states, s.counts)) (λ p. record { states = p.0; counts = p.1 }) (λ _. refl)

abbrev pub counted_locks_code : Coded CountedLocks
counted_locks_code = code_by (LockMap × CountMap) (coded× lock_map_code count_map_code) (λ l. (l.locks, l.counts)) (λ p. record { locks = p.0; counts = p.1 }) (λ _. refl)
