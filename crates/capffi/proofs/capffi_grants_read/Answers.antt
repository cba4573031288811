use Rattle.std.proofs.Common.{arith, refl}
use Rattle.std.specs.Prelude.{Err, Ok}
use Rattle.capffi.proofs.Filled.{as_many, filled}
use Rattle.capffi.proofs.capffi_grants_read.Goals as goal

pub put_block-status-requires : goal.put_block-status-requires
put_block-status-requires c =
    let ready = c.in-Ok.ensures in
    omega (arith, as_many _ _ ready.5, ready.1.few)

pub returns-in-Ok : goal.returns-in-Ok
returns-in-Ok c =
    let ready = c.in-Ok.ensures in
    let put = filled c.in-Ok.ready c.args.block.now c.put_block-status.new.block c.args.text.now c.put_block-status.new.text c.args.fs.now ready.0 c.put_block-status.new.len c.put_block-status.result ready.1.few ready.3 ready.4 ready.5 c.put_block-status.ensures in
    (Ok ready.0, (ready.1, ready.2, put.0, put.1), c.no_fault.ensures)

pub returns-in-Err : goal.returns-in-Err
returns-in-Err c = (Err c.in-Err.trouble, (c.in-Err.ensures, c.status.ensures, refl, refl, refl), c.fault.ensures)
