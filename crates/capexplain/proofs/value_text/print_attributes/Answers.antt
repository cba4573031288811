use Rattle.std.proofs.Common.{◌++◌, sym, ap, ◌∙◌, append_assoc}
use Rattle.std.specs.Prelude.{codes}
use Rattle.std.specs.Fmt.{decimal}
use Rattle.std.specs.List.{flat_map}
use Rattle.std.specs.FinMap.{entries}
use Rattle.std.specs.Map.Iter.{deref_pair}
use Rattle.std.proofs.lemmas.List.{append-nil}
use Rattle.std.proofs.lemmas.Map.Iter.{iter_end}
use Rattle.capexplain.specs.ValueTexts.{attribute_text}
use Rattle.texts.proofs.Texts.{texts-yielded}
use Rattle.capexplain.proofs.value_text.print_attributes.Goals as goal

pub loop-name-init : goal.loop-name-init
loop-name-init c = sym (append-nil _)

pub loop-name-preserved : goal.loop-name-preserved
loop-name-preserved c =
    texts-yielded attribute_text deref_pair _ c.loop-name.text.items _ c.loop-name.yielded (c.in-Some.name, c.in-Some.value) c.loop-name.invariant
    (c.in_ok-print_attribute.ensures ∙ (λ i. c.loop-name.text.items ++ attribute_text (c.as_bytes.ensures i, c.as_bytes-in-loop-name.ensures i)))

pub returns : goal.returns
returns c =
    let start = c.into_iter-name-iterator.ensures.into_iter_gives ∙ c.iter-name-items.ensures in
    let whole = (iter_end deref_pair _ c.loop-name.yielded _ _ _ _ start c.loop-name.yielded_by c.in-None.is c.next.ensures.steps).0 in
    let printed = c.in_ok-print_numbered.ensures ∙ append_assoc c.args.text.now.items (codes "X ") _ ∙ ap (λ n. c.args.text.now.items ++ (codes "X " ++ decimal n)) c.len-count.ensures in
    c.loop-name.invariant ∙ ap (λ all. c.print_numbered.new.text.items ++ flat_map attribute_text all) whole
    ∙ ap (λ t. t ++ flat_map attribute_text (entries c.args.attributes.now)) printed ∙ append_assoc c.args.text.now.items _ _
