use Rattle.std.proofs.Common.{ℕ, ◌+◌, List, refl, sym, ap, ◌∙◌}
use Rattle.std.specs.Prelude.{map}
use Rattle.std.specs.Borrow.{Bor}
use Rattle.std.proofs.lemmas.List.Elements.{same_from_all_zip}
use Rattle.capgrant.specs.declared.access.Access.TheVariants.{Write}
use Rattle.capgrant.specs.Question.{question}
use Rattle.policy_analysis.specs.declared.witness.Witness.{Witness}
use Rattle.policy_analysis.proofs.Undoing.{is_undoing, keeps_against}
use Rattle.policy_analysis.proofs.squash.undoing_by.Goals as goal

pub returns-in_default : goal.returns-in_default
returns-in_default c =
    keeps_against c.args.grants.now c.args.grant.now c.args.other.now c.any_fs.result c.fs_of-fs.result.now c.root_of-caller.result (map (λ (name : Bor (List ℕ)). name.now) c.as_slice.result.now) c.owned_by-attr.result
    c.requires.among c.fs_of-fs.ensures c.root_of-caller.ensures
    (ap (map (λ (name : Bor (List ℕ)). name.now)) c.as_slice.ensures.value ∙ c.in_ok-names.ensures ∙ c.in_ok-path.ensures)
    c.owned_by-attr.ensures
    c.in_default.ensures.none

pub returns : goal.returns
returns c =
    let w : Witness = record { fs = c.in_ok-clone.field-0; caller = c.root_of-caller.result; path = c.in_ok-path.path; attr = c.owned_by-attr.result; access = Write; grant = c.in-Some.place + 1 } in
    let copied = c.in_ok-clone.ensures.cases in
    let fs_is = sym copied.3 ∙ same_from_all_zip _ _ _ copied.4 (λ x y same. same) ∙ copied.2 in
    let path_is = sym (ap (map (λ (name : Bor (List ℕ)). name.now)) c.as_slice.ensures.value ∙ c.in_ok-names.ensures) in
    is_undoing c.args.grants.now c.args.grant.now w (question c.fs_of-fs.result.now c.root_of-caller.result (map (λ (name : Bor (List ℕ)). name.now) c.as_slice.result.now) c.owned_by-attr.result Write) c.in-Some.place
    (ap (λ (fs : List ℕ). question fs c.root_of-caller.result c.in_ok-path.path.now c.owned_by-attr.result Write) fs_is
    ∙ ap (λ (path : List (List ℕ)). question c.fs_of-fs.result.now c.root_of-caller.result path c.owned_by-attr.result Write) path_is)
    refl refl c.in-Some.ensures.squashed c.in-Some.ensures.first
