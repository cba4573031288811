use Rattle.std.proofs.Common.{◌≡◌, ℕ, List, codes, ◌++◌, append_assoc, subst}
use Rattle.std.specs.Prelude.{OnOk}
use Rattle.std.specs.Fmt.{decimal}
use Rattle.texts.specs.Quoting.{quoted}
use Rattle.cluster_audit.proofs.lines.print_pathless_line.Goals as goal

who_apart : (number client session issued : List ℕ) → codes "inode " ++ (number ++ (codes ": no path: " ++ (client ++ (codes " session " ++ (session ++ (codes " holds " ++ (issued ++ codes "\n")))))))
    ≡ codes "inode " ++ number ++ (codes ": no path: " ++ ((client ++ (codes " session " ++ session)) ++ (codes " holds " ++ (issued ++ codes "\n"))))
who_apart number client session issued = simp append_assoc

pub returns : goal.returns
returns c =
    subst (λ (line : List ℕ). OnOk c.print_texts.result (c.print_texts.new.text.items ≡ c.args.text.now.items ++ line))
    (who_apart (decimal c.args.number) (quoted c.args.client.now) (decimal c.args.session) (quoted c.args.issued.now)) c.print_texts.ensures
