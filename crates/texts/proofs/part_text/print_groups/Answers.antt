use Rattle.std.proofs.Common.{ℕ, List, ◌++◌, arith, sym, ap, ◌∙◌, append_assoc}
use Rattle.std.specs.Prelude.{codes}
use Rattle.std.specs.Fmt.{decimal}
use Rattle.std.specs.List.{flat_map}
use Rattle.std.proofs.lemmas.List.{append-nil, take_all}
use Rattle.texts.specs.PartTexts.{groups_text}
use Rattle.texts.proofs.part_text.print_groups.Goals as goal

-- a group behind a comma
abbrev further : ℕ → List ℕ
further gid = codes "," ++ decimal gid

pub loop-gid-init : goal.loop-gid-init
loop-gid-init c = sym (append-nil _)

pub returns : goal.returns
returns c =
    let start = c.args.text.now.items in
    let more = c.in-Some.more.now in
    c.loop-gid.invariant
    ∙ ap (λ gids. c.print_number.new.text.items ++ flat_map further gids) (take_all c.loop-gid.gid-index more (omega arith))
    ∙ ap (λ text. text ++ flat_map further more) (c.in_ok-print_number.ensures ∙ ap (λ n. start ++ decimal n) c.from.ensures)
    ∙ append_assoc start (decimal c.in-Some.first.now) (flat_map further more)
    ∙ ap (λ gids. start ++ groups_text gids) (sym c.in-Some.ensures.cases.0 ∙ c.as_slice.ensures.value)
