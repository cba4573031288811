use Rattle.std.proofs.Common.{ℕ, List, ◌++◌, sym, ap, ◌∙◌}
use Rattle.std.proofs.lemmas.Result.{on_ok_weaker}
use Rattle.cluster_audit.specs.declared.notes.Detail.{Detail}
use Rattle.cluster_audit.specs.Callers.{Inode}
use Rattle.cluster_audit.specs.Lines.{place_text}
use Rattle.cluster_audit.specs.Otherwise.{holder_front}
use Rattle.cluster_audit.proofs.otherwise.print_who_holds.Goals as goal

pub returns-in-Each : goal.returns-in-Each
returns-in-Each c =
    let g = c.args.granted.now in
    let old = c.args.text.now.items in
    on_ok_weaker c.print_place.result
    (λ more. more
    ∙ ap (λ (at : Inode). old ++ place_text at.path g.client.now c.client-session.result) c.inode.view_is
    ∙ ap (λ (n : ℕ). old ++ place_text g.inode.now.path g.client.now n) c.client-session.ensures
    ∙ ap (λ (d : Detail). old ++ holder_front d g.inode.now.path g.client.now g.holder.now.client) (sym c.in-Each.is))
    c.print_place.ensures

pub returns-in-Groups : goal.returns-in-Groups
returns-in-Groups c =
    let g = c.args.granted.now in
    let old = c.args.text.now.items in
    on_ok_weaker c.print_quoted.result
    (λ more. more ∙ ap (λ (d : Detail). old ++ holder_front d g.inode.now.path g.client.now g.holder.now.client) (sym c.in-Groups.is))
    c.print_quoted.ensures
