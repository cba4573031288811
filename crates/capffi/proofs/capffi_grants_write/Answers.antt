use Rattle.std.proofs.Common.{refl}
use Rattle.std.specs.Prelude.{Err, Ok}
use Rattle.capffi.proofs.capffi_grants_write.Goals as goal

pub returns-in-Ok : goal.returns-in-Ok
returns-in-Ok c = (Ok c.in-Ok.form.items, (c.in-Ok.ensures, rw c.as_slice.ensures.value at c.put.ensures), c.no_fault.ensures)

pub returns-in-Err : goal.returns-in-Err
returns-in-Err c = (Err c.in-Err.trouble, (c.in-Err.ensures, c.status.ensures, refl, refl), c.fault.ensures)
