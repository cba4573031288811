use Rattle.std.proofs.Common.{◌≡◌, inl, inr, refl}
use Rattle.std.proofs.lemmas.Result.{on_ok_weaker}
use Rattle.cluster_audit.specs.Otherwise.{TellsOfHeld, TellsOfText}
use Rattle.cluster_audit.proofs.Beside.{is_fault}
use Rattle.cluster_audit.proofs.Giving.{given_too, nothing_given}
use Rattle.cluster_audit.proofs.otherwise.print_granted.Goals as goal

pub returns-in-Ok : goal.returns-in-Ok
returns-in-Ok c =
    let g = c.args.granted.now in
    on_ok_weaker c.print_held.result
    (given_too (TellsOfText g.detail g.inode.now g.client.now g.holder.now g.text.now) c.args.lines.now.items c.print_held.new.lines.items (TellsOfHeld g.detail g.inode.now g.client.now g.holder.now g.text.now c.in-Ok.grants)
    (λ lines tells. inl (c.in-Ok.grants, c.in-Ok.ensures.ok, tells)))
    c.print_held.ensures

pub returns-in_default : goal.returns-in_default
returns-in_default c =
    let g = c.args.granted.now in
    let begun = c.args.lines.now.items in
    nothing_given (TellsOfText g.detail g.inode.now g.client.now g.holder.now g.text.now) begun begun refl
    (inr (c.in-Err.fault, is_fault g.text.now c.in-Err.fault c.in_default.not-NoMemory c.in-Err.ensures.fault, refl))
