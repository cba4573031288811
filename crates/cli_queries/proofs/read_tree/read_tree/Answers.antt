use Rattle.std.proofs.Common.{◌++◌, arith, inl, inr, refl, rules, take, length-append}
use Rattle.std.proofs.lemmas.Bool.{false≢true}
use Rattle.ceph_input.specs.Reader.{so_far}
use Rattle.texts.specs.Watched.{has_failed, inner_of}
use Rattle.texts.proofs.KnownBytes.{consumed_is_there, consumes_more}
use Rattle.texts.proofs.Flags.{still_clear}
use Rattle.cli_queries.proofs.Grown.{piece_read, piece_refused}
use Rattle.cli_queries.proofs.read_tree.read_tree.Goals as goal

pub loop-alloc-preserved : goal.loop-alloc-preserved
loop-alloc-preserved g c =
    let known = g.R.Read.remaining in
    let before = c.loop-alloc.invariant.taken in
    let piece = take c.in-Ok.taken c.read.new.buf in
    record {
      taken = (
        before.0 ++ piece,
        consumes_more (known (inner_of c.args.reader.now)) (known (inner_of c.loop-alloc.reader)) (known (inner_of c.read.new.self)) before.0 piece before.1 c.in-Ok.ensures.bytes.0,
        omega (arith, length-append before.0 piece, before.2, c.in_ok-take.ensures.byte),
        piece_read before.0 piece (so_far c.loop-alloc.tree) before.3 (so_far c.take.new.self) c.in_ok-take.ensures.read,
      );
      clear = still_clear _ _ c.in-Ok.ensures.flag (λ bad. false≢true bad) c.loop-alloc.invariant.clear;
    }

pub returns-clause-err : goal.returns-clause-err
returns-clause-err g c =
    let known = g.R.Read.remaining in
    let before = c.loop-alloc.invariant.taken in
    inl (refl, inr (consumed_is_there (known (inner_of c.args.reader.now)) (known (inner_of c.loop-alloc.reader)) before.0 1099511627776 before.1 (omega (arith, before.2, c.byte.ensures))))

pub returns-in-Err-clause-err : goal.returns-in-Err-clause-err
returns-in-Err-clause-err g c = inl (refl, inl (c.in-Err.ensures.flag.1 (inr (search rules))))

pub returns-in_err-take-clause-err : goal.returns-in_err-take-clause-err
returns-in_err-take-clause-err g c =
    let known = g.R.Read.remaining in
    let before = c.loop-alloc.invariant.taken in
    piece_refused (known (inner_of c.args.reader.now)) (known (inner_of c.loop-alloc.reader)) (known (inner_of c.read.new.self)) before.0 (take c.in-Ok.taken c.read.new.buf) (so_far c.loop-alloc.tree) (has_failed c.read.new.self)
    c.in_err-take.field-0.0 c.from_residual-in_err-take.result before.1 c.in-Ok.ensures.bytes.0 before.3 c.in_err-take.ensures.err c.from_residual-in_err-take.ensures.1
