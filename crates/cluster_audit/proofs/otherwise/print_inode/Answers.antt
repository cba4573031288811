use Rattle.std.proofs.Common.{refl, rules, sym}
use Rattle.std.proofs.lemmas.Result.{on_ok_weaker}
use Rattle.cluster_audit.specs.Audited.{clients_of}
use Rattle.cluster_audit.specs.Otherwise.{TellsOfInode}
use Rattle.cluster_audit.proofs.Beside.{at_path, without_path}
use Rattle.cluster_audit.proofs.Giving.{given_too, nothing_given}
use Rattle.cluster_audit.proofs.otherwise.print_inode.Goals as goal

pub returns-in_default : goal.returns-in_default
returns-in_default c =
    let it = c.args.inode.now in
    let known = clients_of c.args.manner c.args.clients.now in
    let begun = c.args.lines.now.items in
    nothing_given (TellsOfInode c.args.fs.now known c.args.paths.now it) begun begun refl (without_path c.args.fs.now known c.args.paths.now it (sym c.in_default.ensures))

pub returns : goal.returns
returns c =
    let it = c.args.inode.now in
    let known = clients_of c.args.manner c.args.clients.now in
    on_ok_weaker c.print_holders.result
    (given_too (TellsOfInode c.args.fs.now known c.args.paths.now it) c.args.lines.now.items c.print_holders.new.lines.items _
    (at_path c.args.fs.now known c.args.paths.now it _ _ _ _ (sym c.in-Some.ensures) (search rules) c.attr.ensures c.holders.ensures))
    c.print_holders.ensures
