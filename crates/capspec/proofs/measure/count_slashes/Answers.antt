use Rattle.std.proofs.Common.{◌≡◌, ℕ, ◌+◌, cond, List, ◌++◌, ap, ◌∙◌, arith}
use Rattle.std.specs.Prelude.{count_by}
use Rattle.std.proofs.lemmas.List.Sums.{sum_by-append}
use Rattle.capspec.proofs.Paths.{is_slash}
use Rattle.capspec.proofs.measure.count_slashes.Goals as goal

-- so many are counted with those of one more part
more : (text part behind : List ℕ) (so_far few whole : ℕ) → text ≡ part ++ behind → few ≡ count_by is_slash part → so_far + count_by is_slash text ≡ whole → (so_far + few) + count_by is_slash behind ≡ whole
more text part behind so_far few whole parts count is =
    let split : count_by is_slash text ≡ count_by is_slash part + count_by is_slash behind = ap (count_by is_slash) parts ∙ sum_by-append (λ (b : ℕ). cond (is_slash b) 1 0) part behind in
    omega (arith, split, count, is)

pub loop-rest-preserved : goal.loop-rest-preserved
loop-rest-preserved c =
    more c.loop-rest.rest.now c.split_at.result.0.now c.split_at.result.1.now c.loop-rest.slashes c.from-slashes.result _ c.split_at.ensures.by_index.0 (c.from-slashes.ensures ∙ c.count_few_slashes.ensures) c.loop-rest.invariant
