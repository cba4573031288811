use Rattle.std.proofs.Common.{ℕ, ◌++◌, List, ap, ◌∙◌}
use Rattle.policy_analysis.proofs.Unlisted.{first_of, gids_in, second_of}
use Rattle.policy_analysis.proofs.free.free_gid.Goals as goal

pub returns-clause-one : goal.returns-clause-one
returns-clause-one c =
    first_of c.free_number.result c.args.one.now c.args.other.now c.as_slice.result.now
    (c.as_slice.ensures.value ∙ c.in_ok-push_gids-2.ensures.items ∙ ap (λ (gids : List ℕ). gids ++ gids_in c.args.other.now) (c.in_ok-push_gids.ensures.items ∙ ap (λ (gids : List ℕ). gids ++ gids_in c.args.one.now) c.new-gids.ensures.items))
    c.free_number.ensures.free

pub returns-clause-other : goal.returns-clause-other
returns-clause-other c =
    second_of c.free_number.result c.args.one.now c.args.other.now c.as_slice.result.now
    (c.as_slice.ensures.value ∙ c.in_ok-push_gids-2.ensures.items ∙ ap (λ (gids : List ℕ). gids ++ gids_in c.args.other.now) (c.in_ok-push_gids.ensures.items ∙ ap (λ (gids : List ℕ). gids ++ gids_in c.args.one.now) c.new-gids.ensures.items))
    c.free_number.ensures.free
