use Rattle.std.proofs.Common.{◌≡◌, ℕ, List, ◌++◌, append_assoc, ap, sym, subst, ◌∙◌}
use Rattle.std.specs.Prelude.{OnOk, codes}
use Rattle.std.specs.Fmt.{decimal}
use Rattle.texts.specs.PartTexts.{mode_text}
use Rattle.texts.specs.Remarks.{inode_text, left_line}
use Rattle.texts.proofs.explain_more.print_left.Goals as goal

-- what is told of the inode stands in brackets of its own
in_brackets : (uid gid mode grant : List ℕ)
    → codes "not judged: owner " ++ (uid ++ (codes ", group " ++ (gid ++ (codes ", mode " ++ (mode ++ (codes " (grant " ++ (grant ++ codes " has no uid)\n")))))))
    ≡ (codes "not judged: owner " ++ (uid ++ (codes ", group " ++ (gid ++ (codes ", mode " ++ mode))))) ++ (codes " (grant " ++ (grant ++ codes " has no uid)\n"))
in_brackets uid gid mode grant = simp append_assoc

pub returns : goal.returns
unfolding inode_text
returns c =
    let attr = c.args.attr.now in
    let mode : List ℕ = mode_text attr.mode in
    subst (λ (line : List ℕ). OnOk c.print_texts.result (c.print_texts.new.text.items ≡ c.args.text.now.items ++ line))
    ((λ i. codes "not judged: owner " ++ (decimal (c.from.ensures i) ++ (codes ", group " ++ (decimal (c.from-2.ensures i) ++ (codes ", mode " ++ (mode ++ (codes " (grant " ++ (decimal (c.from-3.ensures i) ++ codes " has no uid)\n"))))))))
    ∙ in_brackets (decimal attr.uid) (decimal attr.gid) mode (decimal c.in-Some.grant) ∙ ap (left_line attr) (sym c.in-Some.is))
    c.print_texts.ensures
