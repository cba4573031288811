-- The sessions and the blocklist as one value.
use Rattle.std.specs.Prelude.{◌≡◌, ℕ, ◌≤◌, None, IsTrue, refl}
use Rattle.std.specs.Coded.{Coded, code_by, coded_ℕ, coded×}
use Rattle.std.specs.Ordering.{nat_cmp}
use Rattle.std.specs.FinMap as map
use Rattle.std.specs.FinSet as set
use Rattle.std.specs.FinSet.{FinSet}
use Rattle.sessiontab.specs.Connected.{SessionMap, session_map_code}

-- the session of each client that is connected, and the clients that were thrown out
pub record SessionTable : Type 0 where
  pub sessions : SessionMap
  pub blocked : FinSet nat_cmp

-- a table is stored as the pair of its fields
abbrev pub table_code : Coded SessionTable
table_code =
    code_by (SessionMap × FinSet nat_cmp) (coded× session_map_code (set.code coded_ℕ)) (λ t. (t.sessions, t.blocked)) (λ p. record { sessions = p.0; blocked = p.1 }) (λ _. refl)

-- the limits hold, and no client that was thrown out is connected
pub record IsSound (table : SessionTable) : Type 0 where
  pub sessions : map.len table.sessions ≤ 64
  pub blocked : set.len table.blocked ≤ 1024
  pub apart : (client : ℕ) → IsTrue (set.contains table.blocked client) → map.get table.sessions client ≡ None
