use Rattle.std.proofs.Common.{◌++◌, ◌∷◌, [], List, ℕ, ◌+◌, map, drop, ap, sym, ◌∙◌, append_assoc, slice_index_or, Bor}
use Rattle.capspec.specs.Paths.{names_of, slashed}
use Rattle.capspec.proofs.OneText.{all_written, names_back, rest-cons}
use Rattle.capspec.proofs.tree_path.TreePath.of.Goals as goal

pub loop-name-preserved : goal.loop-name-preserved
loop-name-preserved c =
    let names : List (Bor (List ℕ)) = c.args.names.now in
    let k : ℕ = c.loop-name.name-index in
    let text : List ℕ = c.loop-name.text.items in
    let name : List ℕ = (slice_index_or names k _).now in
    let more : List ℕ = slashed (map (λ n. n.now) (drop (k + 1) names)) in
    ap (λ t. t ++ more) (c.in_ok-extend_from_slice.ensures.items ∙ ap (λ t. t ++ name) c.in_ok-push.ensures.items) ∙ append_assoc (text ++ 47 ∷ []) name more ∙ append_assoc text (47 ∷ []) (name ++ more)
    ∙ ap (λ t. text ++ t) (sym (rest-cons names k _ c.loop-name-test.true)) ∙ c.loop-name.invariant

pub from_slashed-requires : goal.from_slashed-requires
from_slashed-requires c =
    let written = all_written c.loop-name.text.items c.args.names.now c.loop-name.name-index c.loop-name-test.false c.loop-name.invariant in
    written ∙ ap slashed (sym (ap names_of written ∙ names_back c.args.names.now c.requires))

pub returns : goal.returns
returns c =
    let written = all_written c.loop-name.text.items c.args.names.now c.loop-name.name-index c.loop-name-test.false c.loop-name.invariant in
    c.from_slashed.ensures ∙ ap names_of written ∙ names_back c.args.names.now c.requires
