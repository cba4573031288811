use Rattle.std.proofs.Common.{[], ◌∷◌, arith}
use Rattle.policy_analysis.proofs.FreeNames.{all_apart, one_apart_more, one_letter_more}
use Rattle.policy_analysis.proofs.free.free_fs.Goals as goal

pub loop-place-preserved : goal.loop-place-preserved
loop-place-preserved c = record {
  long = omega (arith, c.push.ensures.len);
  letters = rw c.push.ensures.items (one_letter_more c.loop-place.bytes.items c.other_byte.result c.loop-place.invariant.letters c.other_byte.ensures.letter);
  apart = rw c.push.ensures.items (one_apart_more c.args.grants.now c.loop-place.bytes.items c.other_byte.result c.loop-place.place c.index-grants-place.result c.loop-place.invariant.long c.loop-place.invariant.apart c.index-grants-place.is c.loop-place-test.true c.other_byte.ensures.other);
}

pub returns : goal.returns
returns c = rw (c.in-Some.ensures.value, c.as_slice.ensures.value, c.push-2.ensures.items) (all_apart c.args.grants.now c.loop-place.bytes.items (120 ∷ []) (omega arith) (λ k d less. c.loop-place.invariant.apart k d (omega arith)))
