use Rattle.std.proofs.Common.{arith, lit<}
use Rattle.capexplain.proofs.LineWords.{cut_more, cut_off, cut_up}
use Rattle.capexplain.proofs.words.split_words.Goals as goal
use Rattle.capexplain.proofs.words.split_words.Goals.{else-loop-test, then-loop-test+in-None}

pub push-requires : goal.push-requires
push-requires c = (lit< tt, omega arith)

pub loop-preserved : goal.loop-preserved
loop-preserved c = record {
  cut = cut_more c.args.text.now c.loop.parts.items c.push.new.self.items c.loop.rest c.in-Some.word c.in-Some.behind c.push.ensures.items c.loop.invariant.cut c.in-Some.ensures;
  count = omega arith;
}

pub push-requires-2 : goal.push-requires-2
push-requires-2 c = (lit< tt, omega arith)

pub returns : goal.returns
returns c =
    elim c.loop-test.branch [
      | else-loop-test w ↦ cut_off c.args.text.now c.loop.parts.items c.push-2.new.self.items c.loop.rest c.push-2.ensures.items c.loop.invariant.cut (omega arith)
      | then-loop-test+in-None w ↦ cut_up c.args.text.now c.loop.parts.items c.push-2.new.self.items c.loop.rest c.push-2.ensures.items c.loop.invariant.cut (omega arith) w.in-None.ensures
    ]
