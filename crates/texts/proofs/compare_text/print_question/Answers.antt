use Rattle.std.proofs.Common.{◌≡◌, ℕ, List, ◌++◌, append_assoc, ap, subst, ◌∙◌}
use Rattle.std.specs.Prelude.{OnOk, codes}
use Rattle.std.specs.Fmt.{decimal}
use Rattle.capgrant.specs.Access.{access_word}
use Rattle.texts.specs.Explaining.{path_text}
use Rattle.texts.specs.PartTexts.{groups_text, mode_text}
use Rattle.texts.specs.Quoting.{quoted}
use Rattle.texts.proofs.compare_text.print_question.Goals as goal

-- who asks and whose the inode is stand in brackets of their own
in_brackets : (uid gid groups owner group mode grant : List ℕ)
    → codes " uid " ++ (uid ++ (codes " gid " ++ (gid ++ (codes " groups " ++ (groups ++ (codes " owner " ++ (owner ++ (codes " group " ++ (group ++ (codes " mode " ++ (mode ++ (codes " grant " ++ grant))))))))))))
    ≡ (codes " uid " ++ (uid ++ (codes " gid " ++ (gid ++ (codes " groups " ++ groups))))) ++ ((codes " owner " ++ (owner ++ (codes " group " ++ (group ++ (codes " mode " ++ mode))))) ++ (codes " grant " ++ grant))
in_brackets uid gid groups owner group mode grant = simp append_assoc

pub returns : goal.returns
returns c =
    let w = c.args.witness.now in
    let access : List ℕ = access_word w.access in
    let groups : List ℕ = groups_text w.caller.groups in
    let mode : List ℕ = mode_text w.attr.mode in
    let told = λ (path : List ℕ) (more : List ℕ). access ++ (codes " " ++ (path ++ (codes " fs " ++ more))) in
    subst (λ (line : List ℕ). OnOk c.print_texts.result (c.print_texts.new.text.items ≡ c.args.text.now.items ++ line))
    ((λ i. access ++ (codes " " ++ (quoted (path_text (c.requires i)) ++ (codes " fs " ++ (c.as_bytes.ensures i ++ (codes " uid " ++ (decimal (c.from.ensures i) ++ (codes " gid " ++ (decimal (c.from-2.ensures i) ++ (codes " groups "
    ++ (groups ++ (codes " owner " ++ (decimal (c.from-3.ensures i) ++ (codes " group " ++ (decimal (c.from-4.ensures i) ++ (codes " mode " ++ (mode ++ (codes " grant " ++ decimal (c.from-5.ensures i)))))))))))))))))))
    ∙ ap (told (quoted (path_text w.path.now)))
    (ap (λ (more : List ℕ). w.fs ++ more) (in_brackets (decimal w.caller.uid) (decimal w.caller.gid) groups (decimal w.attr.uid) (decimal w.attr.gid) mode (decimal w.grant))))
    c.print_texts.ensures
