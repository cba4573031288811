use Rattle.std.proofs.Common.{ℕ, ◌++◌, List, ap, ◌∙◌}
use Rattle.std.specs.List.{flat_map}
use Rattle.policy_analysis.specs.Free.{ids_of}
use Rattle.policy_analysis.proofs.Unlisted.{first_has_not, second_has_not}
use Rattle.policy_analysis.proofs.free.free_id.Goals as goal

pub returns-clause-one : goal.returns-clause-one
returns-clause-one c =
    first_has_not c.free_number.result c.args.one.now c.args.other.now c.as_slice.result.now
    (c.as_slice.ensures.value ∙ c.in_ok-push_ids-2.ensures.items ∙ ap (λ (ids : List ℕ). ids ++ flat_map ids_of c.args.other.now) (c.in_ok-push_ids.ensures.items ∙ ap (λ (ids : List ℕ). ids ++ flat_map ids_of c.args.one.now) c.new-ids.ensures.items))
    c.free_number.ensures.free

pub returns-clause-other : goal.returns-clause-other
returns-clause-other c =
    second_has_not c.free_number.result c.args.one.now c.args.other.now c.as_slice.result.now
    (c.as_slice.ensures.value ∙ c.in_ok-push_ids-2.ensures.items ∙ ap (λ (ids : List ℕ). ids ++ flat_map ids_of c.args.other.now) (c.in_ok-push_ids.ensures.items ∙ ap (λ (ids : List ℕ). ids ++ flat_map ids_of c.args.one.now) c.new-ids.ensures.items))
    c.free_number.ensures.free
