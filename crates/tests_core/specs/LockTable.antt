-- Questions to the table of the locks.
use Rattle.std.specs.Prelude.{ℕ, Bool, List, [], ◌∷◌, Some, None, map}
use Rattle.capbits.specs.Sets.{caps_in}
use Rattle.capbits.specs.Text.{text_of}
use Rattle.capbits.specs.declared.cap.Cap.{Cap}
use Rattle.capbits.specs.declared.cap.Part.{Part}
use Rattle.capbits.specs.declared.cap.Part.TheVariants.{A, F, L, X}
use Rattle.capbits.specs.declared.ids.ClientId.{ClientId}
use Rattle.locktable.specs.Rows.{allowed_of, row_of}
use Rattle.locktable.specs.Targets.{is_served, target_of}
use Rattle.locktable.specs.declared.states.LockState.{LockState}
use Rattle.locktable.specs.declared.states.StableState.{StableState}
use Rattle.locktable.specs.declared.states.StableState.TheVariants.{Excl, Lock, Mix, Sync}
use Rattle.locktable.specs.declared.targets.Head.{Head}
use Rattle.locktable.specs.declared.targets.Head.TheVariants.{Empty}
use Rattle.lockmachine.specs.Scene.{target_by}
use Rattle.lockmachine.specs.Wants.{Want, in_all}
use Rattle.tests_core.specs.Clients.{first}

abbrev pub parts : List Part
parts = A ∷ L ∷ X ∷ F ∷ []

-- what a client may hold in a stable state: a text for each part, in the order A, L, X, F
abbrev pub cells : StableState → ClientId → List (List ℕ)
cells state client = map (λ part. text_of (row_of part state client)) parts

-- what a client may hold of a part under a lock, as a text
abbrev pub allowed : Part → LockState → ClientId → List ℕ
allowed part lock client = text_of (allowed_of part lock client)

-- where a stable lock goes for which nobody waits, where these clients want this of its inode
abbrev pub goes : Part → StableState → List Want → StableState
goes part state wants = target_by [] (in_all wants) 2 part state

-- whether SYNC, LOCK, MIX and the first client's EXCL serve what stands first in a queue
abbrev pub serving : Head → List Bool
serving head = map (λ state. is_served state head) (Sync ∷ Lock ∷ Mix ∷ Excl first ∷ [])

-- where a lock goes for which nobody waits, where the first client wants these caps and nobody else wants any
abbrev pub alone : Part → StableState → List Cap → StableState
alone part state caps = target_of part state Empty (Some (first, caps_in caps)) (caps_in caps)

-- and where several clients want caps, and these in all
abbrev pub among : Part → StableState → List Cap → StableState
among part state caps = target_of part state Empty None (caps_in caps)
