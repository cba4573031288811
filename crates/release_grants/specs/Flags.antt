-- What the flags of a grant cover.
use Rattle.std.specs.Prelude.{Bool, ◌||◌}
use Rattle.release_grants.specs.declared.flags.Flags.{Flags}

-- `*` and `all` cover everything

abbrev pub has_w : Flags → Bool
has_w flags = flags.all || flags.w

abbrev pub has_f : Flags → Bool
has_f flags = flags.all || flags.f

abbrev pub has_p : Flags → Bool
has_p flags = flags.all || flags.p

abbrev pub has_s : Flags → Bool
has_s flags = flags.all || flags.s
