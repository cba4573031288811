-- Which clients hold together what the table of the locks keeps apart.
use Rattle.std.specs.Prelude.{◌==◌, ◌&&◌, ◌||◌, Option, Some, None, List, [], ◌∷◌, ◌++◌, filter_map, if◌then◌else◌}
use Rattle.std.specs.List.{list_any}
use Rattle.capbits.specs.declared.cap.Cap.{Cap}
use Rattle.capbits.specs.declared.cap.Cap.TheVariants.{As, Ax, Fb, Fc, Fr, Fs, Fw, Fx, Ls, Lx, Xs, Xx}
use Rattle.capbits.specs.Caps.{Caps, all_caps, caps_where, has}
use Rattle.capbits.specs.Sets.{is_empty, meet}
use Rattle.locktable.specs.Conflicts.{conflict}
use Rattle.cluster_audit.specs.declared.conflict.Holding.{Holding}
use Rattle.cluster_audit.specs.declared.conflict.Conflict.{Conflict}

-- the caps that conflict with some of these, where another client holds them
unfoldable pub conflicting_caps : Caps → Caps
conflicting_caps caps = caps_where (λ c. list_any (λ d. has caps d && conflict c d) all_caps)

-- two clients, each with those of its caps that conflict with some of the other's; None where there are none, or it is one client
abbrev pub conflict_of : Holding → Holding → Option Conflict
conflict_of one other =
    if (one.client == other.client) || is_empty (meet other.caps (conflicting_caps one.caps)) then None else Some (record {
      one = record { client = one.client; caps = meet one.caps (conflicting_caps other.caps) };
      other = record { client = other.client; caps = meet other.caps (conflicting_caps one.caps) };
    })

-- of each holding with each later one
abbrev pub conflicts_of : List Holding → List Conflict
conflicts_of [] = []
conflicts_of (one ∷ others) = filter_map (conflict_of one) others ++ conflicts_of others

-- what conflicts with a cap, as the code has it
abbrev pub conflicting : Cap → List Cap
conflicting As = Ax ∷ []
conflicting Ax = As ∷ Ax ∷ []
conflicting Ls = Lx ∷ []
conflicting Lx = Ls ∷ Lx ∷ []
conflicting Xs = Xx ∷ []
conflicting Xx = Xs ∷ Xx ∷ []
conflicting Fs = Fx ∷ Fw ∷ Fb ∷ []
conflicting Fc = Fx ∷ Fw ∷ Fb ∷ []
conflicting Fr = Fx ∷ Fb ∷ []
conflicting Fw = Fs ∷ Fx ∷ Fc ∷ Fb ∷ []
conflicting Fx = Fs ∷ Fx ∷ Fc ∷ Fr ∷ Fw ∷ Fb ∷ []
conflicting Fb = Fs ∷ Fx ∷ Fc ∷ Fr ∷ Fw ∷ Fb ∷ []
conflicting cap = []
