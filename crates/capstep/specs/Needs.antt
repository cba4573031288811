-- The accesses that events and requests need.
use Rattle.std.specs.Prelude.{ℕ, List, [], ◌∷◌, Option, Some, None}
use Rattle.capbits.specs.declared.ids.ClientId.{ClientId}
use Rattle.capgrant.specs.declared.access.Access.{Access}
use Rattle.captable.specs.declared.entry.Holder.{Holder}

-- an access of a client to an inode
pub record Need : Type 0 where
  pub holder : Holder
  pub access : Access

abbrev pub need : ClientId → ℕ → Access → Need
need client ino access = record { holder = record { client = client; ino = record { 0 = ino } }; access = access }

-- the access to an inode that may not be there
abbrev pub need_if : ClientId → Option ℕ → Access → List Need
need_if client None access = []
need_if client (Some ino) access = need client ino access ∷ []
