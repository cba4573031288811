-- A caller and its groups.
use Rattle.std.specs.Prelude.{ℕ, List, ◌∷◌}
use Rattle.capbits.specs.declared.caller.Caller.{Caller}

-- a caller's gids: its first group, then the further ones
abbrev pub gids_of : Caller → List ℕ
gids_of caller = caller.gid ∷ caller.groups
