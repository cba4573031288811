use Rattle.std.proofs.Common.{◌++◌, ◌∷◌, [], List, ℕ, ◌+◌, map, drop, ap, sym, ◌∙◌, append_assoc, slice_index_or, Bor}
use Rattle.capspec.specs.Paths.{slashed}
use Rattle.capspec.proofs.OneText.{none_left, rest-cons}
use Rattle.texts.proofs.explain_text.print_names.Goals as goal

pub loop-name-preserved : goal.loop-name-preserved
loop-name-preserved c =
    let names : List (Bor (List ℕ)) = c.args.names.now in
    let k : ℕ = c.loop-name.name-index in
    let text : List ℕ = c.loop-name.line.items in
    let name : List ℕ = (slice_index_or names k _).now in
    let more : List ℕ = slashed (map (λ n. n.now) (drop (k + 1) names)) in
    ap (λ t. t ++ more) (c.in_ok-extend_from_slice.ensures.items ∙ ap (λ t. t ++ name) c.in_ok-push.ensures.items) ∙ append_assoc (text ++ 47 ∷ []) name more ∙ append_assoc text (47 ∷ []) (name ++ more)
    ∙ ap (λ t. text ++ t) (sym (rest-cons names k _ c.loop-name-test.true)) ∙ c.loop-name.invariant

pub returns : goal.returns
returns c = none_left c.loop-name.line.items c.args.names.now c.loop-name.name-index c.loop-name-test.false ∙ c.loop-name.invariant
