-- Readers and writers that remember whether they failed, and whether they came to their end.
use Rattle.std.specs.Prelude.{◌≡◌, Bool, Result, IsErr, IfErr}
use Rattle.std.specs.IoError.{error_kind}
use Rattle.std.specs.declared.io.Error.{Error}
use Rattle.std.specs.declared.io.ErrorKind.TheVariants.{WouldBlock}
use Rattle.texts.specs.declared.watched.Watched.{Watched}

-- the reader or writer inside
abbrev pub inner_of : {T : Type 0} → Watched T → T
inner_of watched = watched.inner

-- whether it failed
abbrev pub has_failed : {T : Type 0} → Watched T → Bool
has_failed watched = watched.failed

-- a read failed since the stream is one that doesn't wait, and had nothing yet
abbrev pub WouldWait : {N : Type 0} → Result N Error → Type 0
WouldWait read = IsErr read × IfErr read (λ error. error_kind error ≡ WouldBlock)

-- whether a read failed so
abbrev pub has_blocked : {T : Type 0} → Watched T → Bool
has_blocked watched = watched.blocked

-- whether a read came to the end
abbrev pub has_ended : {T : Type 0} → Watched T → Bool
has_ended watched = watched.ended
