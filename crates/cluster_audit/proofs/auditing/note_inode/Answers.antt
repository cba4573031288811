use Rattle.std.proofs.Common.{rules, ℕ, List, ◌++◌, refl, sym, ap, ◌∙◌}
use Rattle.std.proofs.lemmas.Result.{on_ok_weaker}
use Rattle.std.specs.List.{flat_map}
use Rattle.ceph_input.specs.Dump.{Held}
use Rattle.cluster_audit.specs.Audited.{SaysOfInode, clients_of, pathless_of}
use Rattle.cluster_audit.proofs.Noting.{unknown_added, added_too}
use Rattle.cluster_audit.proofs.Saying.{without_path, at_path}
use Rattle.cluster_audit.proofs.auditing.note_inode.Goals as goal

pub returns-in_default : goal.returns-in_default
returns-in_default c =
    let it = c.args.inode.now in
    let known = clients_of c.args.manner c.args.clients.now in
    let begun = c.args.notes.now.unknown.items in
    on_ok_weaker c.print_pathless_holders.result
    (λ more. unknown_added (SaysOfInode c.args.fs.now known c.args.paths.now it) c.args.notes.now (record { found = c.args.notes.now.found; unknown = c.print_pathless_holders.new.text }) (flat_map (pathless_of c.args.manner.shape c.args.clients.now.sessions it.number) it.holders) refl
    (more ∙ ap (λ (n : ℕ). begun ++ flat_map (pathless_of c.args.manner.shape c.args.clients.now.sessions n) c.holders.result.now) c.number.ensures
    ∙ ap (λ (hs : List Held). begun ++ flat_map (pathless_of c.args.manner.shape c.args.clients.now.sessions it.number) hs) c.holders.ensures)
    (without_path c.args.fs.now known c.args.paths.now it (sym c.in_default.ensures)))
    c.print_pathless_holders.ensures

pub returns : goal.returns
returns c =
    let it = c.args.inode.now in
    let known = clients_of c.args.manner c.args.clients.now in
    on_ok_weaker c.note_holders.result
    (added_too _ (SaysOfInode c.args.fs.now known c.args.paths.now it) c.args.notes.now c.note_holders.new.notes
    (at_path c.args.fs.now known c.args.paths.now it c.number-2.result _ _ _ _ c.number-2.ensures (sym c.in-Some.ensures) (search rules) c.attr.ensures c.holders-2.ensures))
    c.note_holders.ensures
