use Rattle.std.proofs.Common.{◌≡◌, ℕ, List, codes, ◌++◌, append_assoc, ap, ◌∙◌}
use Rattle.std.specs.Fmt.{decimal}
use Rattle.cluster_audit.proofs.summary.counts_line.Goals as goal

in_order : (a b c d e f : List ℕ)
    → codes "inodes " ++ (a ++ (codes ", entries " ++ (b ++ (codes ", sessions " ++ (c ++ (codes ", held beyond " ++ (d ++ (codes ", conflicts " ++ (e ++ (codes ", not judged " ++ (f ++ codes "\n")))))))))))
    ≡ codes "inodes " ++ a ++ codes ", entries " ++ b ++ codes ", sessions " ++ c ++ codes ", held beyond " ++ d ++ codes ", conflicts " ++ e ++ codes ", not judged " ++ f ++ codes "\n"
in_order a b c d e f = simp append_assoc

pub returns : goal.returns
returns c =
    let n = c.args.counts.now in
    let line : List ℕ =
    codes "inodes " ++ (decimal n.inodes ++ (codes ", entries " ++ (decimal n.entries ++ (codes ", sessions " ++ (decimal n.sessions ++ (codes ", held beyond " ++ (decimal n.held_beyond ++ (codes ", conflicts " ++ (decimal n.conflicts ++ (codes ", not judged " ++ (decimal n.not_judged ++ codes "\n"))))))))))) in
    c.in_ok-print_texts.ensures ∙ ap (λ (t : List ℕ). t ++ line) c.new-line.ensures.items ∙ in_order (decimal n.inodes) (decimal n.entries) (decimal n.sessions) (decimal n.held_beyond) (decimal n.conflicts) (decimal n.not_judged)
