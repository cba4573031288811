use Rattle.std.proofs.Common.{◌<◌, ℕ, inr, refl, rules, take, length, ap, arith}
use Rattle.std.specs.Prelude.{IsFalse}
use Rattle.std.proofs.lemmas.Bool.{false≢true}
use Rattle.queries.specs.LogPieces.{teller_of}
use Rattle.queries.specs.Reported.{scope_of}
use Rattle.texts.specs.Watched.{has_failed, inner_of}
use Rattle.texts.proofs.Flags.{still_clear}
use Rattle.cli_queries.proofs.Logged.{all_told, begun, both_clear, one_more, stops_at_end, stops_in_between, stops_too_long, stops_unread, unnamed}
use Rattle.cli_queries.proofs.logging.log.Goals as goal

pub pieces-init : goal.pieces-init
pieces-init g c = record {
  told = begun (scope_of c.args.scope) (g.R.Read.remaining (inner_of c.args.reader.now)) (g.W.Write.contents (inner_of c.args.writer.now)) (teller_of c.new-teller.result) c.new-teller.ensures;
  room = refl;
  reader_clear = c.requires.reader_clear;
  writer_clear = c.requires.writer_clear;
}

pub tell_end-requires-clause-room : goal.tell_end-requires-clause-room
tell_end-requires-clause-room g c = omega (arith, c.pieces.invariant.told.tells.left, c.pieces.invariant.told.sized)

pub tell_end-requires-clause-few : goal.tell_end-requires-clause-few
tell_end-requires-clause-few g c = c.pieces.invariant.told.tells.few

pub tell_piece-requires-clause-room : goal.tell_piece-requires-clause-room
tell_piece-requires-clause-room g c =
    omega (arith, c.pieces.invariant.told.tells.left, c.pieces.invariant.told.sized, c.pieces.invariant.room, c.read.auto.buf, c.in-Ok.ensures.bound.0, c.in-Ok.ensures.bound.1)

pub tell_piece-requires-clause-few : goal.tell_piece-requires-clause-few
tell_piece-requires-clause-few g c = c.pieces.invariant.told.tells.few

pub overflow_add-size : goal.overflow_add-size
overflow_add-size g c = omega (arith, c.pieces.invariant.room, c.read.auto.buf, c.in-Ok.ensures.bound.0)

pub pieces-preserved : goal.pieces-preserved
pieces-preserved g c =
    let known = g.R.Read.remaining in
    let written = g.W.Write.contents in
    record {
      told = one_more (scope_of c.args.scope) (known (inner_of c.args.reader.now)) (known (inner_of c.pieces.reader)) (known (inner_of c.read.new.self))
          (written (inner_of c.args.writer.now)) (written (inner_of c.pieces.writer)) (written (inner_of c.tell_piece.new.writer))
          c.pieces.size _ (teller_of c.pieces.teller) (teller_of c.tell_piece.new.teller) (take c.in-Ok.taken c.read.new.buf)
          c.pieces.invariant.told c.in-Ok.ensures.bytes.0 c.in_ok-tell_piece.ensures.told (omega (arith, c.in-Ok.ensures.bound.1));
      room = omega (arith, c.pieces.invariant.room, c.read.auto.buf);
      reader_clear = still_clear _ _ c.in-Ok.ensures.flag (λ bad. false≢true bad) c.pieces.invariant.reader_clear;
      writer_clear = c.in_ok-tell_piece.ensures.ok;
    }

pub returns-in-Err-clause-err : goal.returns-in-Err-clause-err
returns-in-Err-clause-err g c =
    stops_unread (scope_of c.args.scope) (g.R.Read.remaining (inner_of c.args.reader.now)) (g.R.Read.remaining (inner_of c.pieces.reader)) (g.W.Write.contents (inner_of c.args.writer.now)) (g.W.Write.contents (inner_of c.pieces.writer))
    c.pieces.size (teller_of c.pieces.teller) (has_failed c.read.new.self) (has_failed c.pieces.writer) c.pieces.invariant.told (c.in-Err.ensures.flag.1 (inr (search rules)))

pub returns-then-taken-eq0-clause-ok : goal.returns-then-taken-eq0-clause-ok
returns-then-taken-eq0-clause-ok g c =
    both_clear (IsFalse (has_failed c.read.new.self)) (IsFalse (has_failed c.tell_end.new.writer)) c.tell_end.result
    (still_clear _ _ c.in-Ok.ensures.flag (λ bad. false≢true bad) c.pieces.invariant.reader_clear) c.tell_end.ensures.ok

pub returns-then-taken-eq0-clause-reported : goal.returns-then-taken-eq0-clause-reported
returns-then-taken-eq0-clause-reported g c =
    let known = g.R.Read.remaining in
    let written = g.W.Write.contents in
    let filled : 0 < length c.read.new.buf = omega (arith, c.pieces.invariant.room, c.read.auto.buf) in
    all_told (scope_of c.args.scope) (known (inner_of c.args.reader.now)) (known (inner_of c.pieces.reader)) (known (inner_of c.read.new.self))
    (written (inner_of c.args.writer.now)) (written (inner_of c.pieces.writer)) (written (inner_of c.tell_end.new.writer))
    c.pieces.size (teller_of c.pieces.teller) (take c.in-Ok.taken c.read.new.buf) c.tell_end.result c.in_ok-check_name.ensures.ok c.pieces.invariant.told c.in-Ok.ensures.bytes.0
    (ap (λ (n : ℕ). take n c.read.new.buf) c.if-taken-eq0.true) (c.in-Ok.ensures.bytes.1 c.if-taken-eq0.true filled) c.tell_end.ensures.told

pub returns-then-taken-eq0-clause-err : goal.returns-then-taken-eq0-clause-err
returns-then-taken-eq0-clause-err g c =
    let known = g.R.Read.remaining in
    let written = g.W.Write.contents in
    stops_at_end (scope_of c.args.scope) (known (inner_of c.args.reader.now)) (known (inner_of c.pieces.reader))
    (written (inner_of c.args.writer.now)) (written (inner_of c.pieces.writer)) (written (inner_of c.tell_end.new.writer))
    c.pieces.size (teller_of c.pieces.teller) (has_failed c.read.new.self) (has_failed c.tell_end.new.writer) c.tell_end.result c.pieces.invariant.told c.tell_end.ensures.err

pub returns-in_err-tell_piece-clause-err : goal.returns-in_err-tell_piece-clause-err
returns-in_err-tell_piece-clause-err g c =
    let known = g.R.Read.remaining in
    let written = g.W.Write.contents in
    stops_in_between (scope_of c.args.scope) (known (inner_of c.args.reader.now)) (known (inner_of c.pieces.reader))
    (written (inner_of c.args.writer.now)) (written (inner_of c.pieces.writer)) (written (inner_of c.tell_piece.new.writer))
    c.pieces.size (teller_of c.pieces.teller) (has_failed c.read.new.self) (has_failed c.tell_piece.new.writer) c.in_err-tell_piece.field-0.0 c.from_residual-in_err-tell_piece.result
    c.pieces.invariant.told c.from_residual-in_err-tell_piece.ensures.1 c.in_err-tell_piece.ensures.err

pub returns-in_err-check_name-clause-err : goal.returns-in_err-check_name-clause-err
returns-in_err-check_name-clause-err g c =
    let reader = c.args.reader.now in
    let writer = c.args.writer.now in
    unnamed (scope_of c.args.scope) (g.R.Read.remaining (inner_of reader)) (g.W.Write.contents (inner_of writer)) (has_failed reader) (has_failed writer) c.in_err-check_name.field-0.0 c.from_residual.result c.from_residual.ensures.1 c.in_err-check_name.ensures.err

pub returns-clause-err : goal.returns-clause-err
returns-clause-err g c =
    stops_too_long (scope_of c.args.scope) (g.R.Read.remaining (inner_of c.args.reader.now)) (g.R.Read.remaining (inner_of c.pieces.reader)) (g.W.Write.contents (inner_of c.args.writer.now)) (g.W.Write.contents (inner_of c.pieces.writer))
    c.pieces.size (teller_of c.pieces.teller) (has_failed c.pieces.reader) (has_failed c.pieces.writer) c.pieces.invariant.told (omega arith)
