-- What a list of grants permits a client to hold of an inode.
use Rattle.std.specs.Prelude.{Bool, ◌||◌, if◌then◌else◌, List, [], ◌∷◌}
use Rattle.capbits.specs.declared.cap.Cap.{Cap}
use Rattle.capbits.specs.declared.cap.Cap.TheVariants.{As, Ax, Fb, Fc, Fl, Fr, Fs, Fw, Fx, Ls, Lx, P, Xs, Xx}
use Rattle.capbits.specs.Caps.{Caps}
use Rattle.capbits.specs.Sets.{caps_in, no_caps, union}
use Rattle.capspec.specs.declared.grant.Grant.{Grant}
use Rattle.capgrant.specs.declared.access.Access.{Access}
use Rattle.capgrant.specs.declared.access.Access.TheVariants.{Read, Write}
use Rattle.capgrant.specs.Question.{Question}
use Rattle.capgrant.specs.Verdict.{granted}

-- what a client that may read or write may hold
abbrev pub for_either : List Cap
for_either = P ∷ []

-- what a client that may read may hold
abbrev pub for_readers : List Cap
for_readers = As ∷ Ls ∷ Xs ∷ Fs ∷ Fc ∷ Fr ∷ Fl ∷ []

-- what a client that may write may hold
abbrev pub for_writers : List Cap
for_writers = Ax ∷ Lx ∷ Xx ∷ Fx ∷ Fw ∷ Fb ∷ []

-- some caps on a condition
abbrev pub caps_if : Bool → List Cap → Caps
caps_if condition caps = if condition then caps_in caps else no_caps

-- what a client may hold, by whether it may read and whether it may write
abbrev pub caps_for : Bool → Bool → Caps
caps_for reads writes = union (caps_if (reads || writes) for_either) (union (caps_if reads for_readers) (caps_if writes for_writers))

-- what the grants permit, by what they answer to a question about each access
unfoldable pub permitted_of : (Access → Question) → List Grant → Caps
permitted_of ask grants = caps_for (granted (ask Read) grants) (granted (ask Write) grants)
