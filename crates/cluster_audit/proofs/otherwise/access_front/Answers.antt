use Rattle.std.proofs.Common.{ℕ, List, codes, ◌++◌, ap, ◌∙◌}
use Rattle.capgrant.specs.Access.{access_word}
use Rattle.cluster_audit.specs.Otherwise.{holder_front}
use Rattle.cluster_audit.proofs.Noting.{behind}
use Rattle.cluster_audit.proofs.otherwise.access_front.Goals as goal

pub returns : goal.returns
returns c =
    let g = c.args.granted.now in
    let who : List ℕ = holder_front g.detail g.inode.now.path g.client.now g.holder.now.client in
    let end : List ℕ = codes " " ++ (access_word c.args.access ++ codes ": ") in
    behind _ _ _ who end c.in_ok-print_who_holds.ensures c.in_ok-print_texts.ensures ∙ ap (λ (t : List ℕ). t ++ (who ++ end)) c.new-front.ensures.items
