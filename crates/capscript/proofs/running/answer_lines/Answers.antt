use Rattle.std.proofs.Common.{arith}
use Rattle.texts.specs.Watched.{inner_of}
use Rattle.capscript.proofs.Histories.{last_line, room_left, so_far_more, so_far_none, stopped_by}
use Rattle.texts.proofs.Flags.{not_set}
use Rattle.capscript.proofs.running.answer_lines.Goals as goal

pub loop-text-init : goal.loop-text-init
loop-text-init g c = record { so_far = so_far_none c.args.core.now c.args.script.now (g.W.Write.contents (inner_of c.args.writer.now)) c.requires.empty; clear = c.requires.clear }

pub answer_line-requires-clause-room : goal.answer_line-requires-clause-room
answer_line-requires-clause-room g c =
    room_left c.args.core.now c.loop-text.core c.args.script.now c.loop-text.rest.now c.loop-text.number (g.W.Write.contents (inner_of c.args.writer.now)) (g.W.Write.contents (inner_of c.loop-text.writer)) c.loop-text.invariant.so_far c.requires.short c.requires.room

pub returns-in_err-answer_line-clause-ran : goal.returns-in_err-answer_line-clause-ran
returns-in_err-answer_line-clause-ran g c =
    let known = g.W.Write.contents in
    stopped_by _ c.args.core.now c.loop-text.core c.answer_line.new.core c.args.script.now c.loop-text.rest.now c.in-Some.text.now _ c.loop-text.number (known (inner_of c.args.writer.now)) (known (inner_of c.loop-text.writer)) (known (inner_of c.answer_line.new.writer))
    c.in_err-answer_line.field-0.0 c.from_residual.result c.from_residual.ensures.1 c.requires.opens c.loop-text.invariant.so_far c.in-Some.ensures.lines c.in_err-answer_line.ensures.err

pub overflow_add-number : goal.overflow_add-number
overflow_add-number g c = omega (arith, c.loop-text.invariant.so_far.left, c.requires.short)

pub loop-text-smaller : goal.loop-text-smaller
loop-text-smaller g c = c.in-Some.ensures.shorter

pub loop-text-preserved : goal.loop-text-preserved
loop-text-preserved g c =
    let known = g.W.Write.contents in
    let ok = c.in_ok-answer_line.ensures.ok in record {
      clear = not_set _ (λ set. let same = c.in_ok-answer_line.ensures.written.1 set in cc);
      so_far = so_far_more c.args.core.now c.loop-text.core c.answer_line.new.core c.args.script.now c.loop-text.rest.now c.in-Some.text.now c.in-Some.behind.now ok.0 c.loop-text.number (known (inner_of c.args.writer.now)) (known (inner_of c.loop-text.writer)) (known (inner_of c.answer_line.new.writer))
          c.loop-text.invariant.so_far c.in-Some.ensures.lines c.in-Some.ensures.shorter ok.1 ok.2;
    }

pub answer_line-requires-2-clause-room : goal.answer_line-requires-2-clause-room
answer_line-requires-2-clause-room g c =
    room_left c.args.core.now c.loop-text.core c.args.script.now c.loop-text.rest.now c.loop-text.number (g.W.Write.contents (inner_of c.args.writer.now)) (g.W.Write.contents (inner_of c.loop-text.writer)) c.loop-text.invariant.so_far c.requires.short c.requires.room

pub returns-clause-ran : goal.returns-clause-ran
returns-clause-ran g c =
    let known = g.W.Write.contents in
    last_line _ c.args.core.now c.loop-text.core c.answer_line-2.new.core c.args.script.now c.loop-text.rest.now c.loop-text.rest.now c.loop-text.number (known (inner_of c.args.writer.now)) (known (inner_of c.loop-text.writer)) (known (inner_of c.answer_line-2.new.writer)) c.answer_line-2.result
    c.requires.opens c.loop-text.invariant.so_far c.in_default.ensures.lines c.answer_line-2.ensures.ok c.answer_line-2.ensures.err
