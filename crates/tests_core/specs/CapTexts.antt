-- Two sets of caps. The list of the first names a cap twice.
use Rattle.std.specs.Prelude.{[], ◌∷◌}
use Rattle.capbits.specs.Caps.{Caps}
use Rattle.capbits.specs.Sets.{caps_in}
use Rattle.capbits.specs.declared.cap.Cap.TheVariants.{As, Ax, Fc, Fs, P}

abbrev pub mine : Caps
mine = caps_in (P ∷ As ∷ Fs ∷ Fc ∷ Fs ∷ [])

abbrev pub other : Caps
other = caps_in (Fc ∷ Ax ∷ [])
