use Rattle.std.proofs.Common.{◌≡◌, ℕ, Option, None, Some, refl, sym, arith, ap, inl, inr, ◌++◌, ◌∙◌, take, drop, length, length-append, length-drop}
use Rattle.std.specs.Prelude.{IfSome}
use Rattle.std.proofs.lemmas.Bool.{false≢true}
use Rattle.std.proofs.lemmas.List.{length-take}
use Rattle.texts.specs.Watched.{inner_of}
use Rattle.texts.proofs.KnownBytes.{consumed_is_there, consumes_more, consumes_nothing, consumes_stay, front_of, none_consumed}
use Rattle.texts.proofs.Flags.{still_clear}
use Rattle.texts.proofs.input.read_script.Goals as goal

-- what holds of any value
of_any : {A : Type 0} (o : Option A) {P : A → Type 0} → ((x : A) → P x) → IfSome o P
of_any None all = tt
of_any (Some x) all = all x

pub loop-buffer-init : goal.loop-buffer-init
loop-buffer-init g c = record {
  taken = rw c.new-script.ensures.items (none_consumed (g.R.Read.remaining (inner_of c.args.reader.now)));
  few = omega (arith, c.new-script.ensures.len);
  room = refl;
  clear = c.requires.clear;
  unended = c.requires.unended;
}

pub returns-in-Err-clause-taken : goal.returns-in-Err-clause-taken
returns-in-Err-clause-taken g c =
    let known = g.R.Read.remaining in
    (c.loop-buffer.script.items, consumes_stay (known (inner_of c.args.reader.now)) (known (inner_of c.loop-buffer.reader)) (known (inner_of c.read.new.self)) c.loop-buffer.script.items c.loop-buffer.invariant.taken c.in-Err.ensures.bytes, c.loop-buffer.invariant.few)

pub returns-then-taken-eq0-clause-ok : goal.returns-then-taken-eq0-clause-ok
returns-then-taken-eq0-clause-ok g c =
    let known = g.R.Read.remaining in
    consumes_nothing (known (inner_of c.args.reader.now)) (known (inner_of c.loop-buffer.reader)) (known (inner_of c.read.new.self)) c.loop-buffer.script.items (take c.in-Ok.taken c.read.new.buf) c.loop-buffer.invariant.taken c.in-Ok.ensures.bytes.0
    (ap (λ (n : ℕ). take n c.read.new.buf) c.if-taken-eq0.true)

pub returns-then-taken-eq0-clause-taken : goal.returns-then-taken-eq0-clause-taken
returns-then-taken-eq0-clause-taken g c =
    let known = g.R.Read.remaining in (
      c.loop-buffer.script.items,
      consumes_nothing (known (inner_of c.args.reader.now)) (known (inner_of c.loop-buffer.reader)) (known (inner_of c.read.new.self)) c.loop-buffer.script.items (take c.in-Ok.taken c.read.new.buf) c.loop-buffer.invariant.taken c.in-Ok.ensures.bytes.0
          (ap (λ (n : ℕ). take n c.read.new.buf) c.if-taken-eq0.true),
      c.loop-buffer.invariant.few,
    )

pub returns-then-is_err-clause-taken : goal.returns-then-is_err-clause-taken
returns-then-is_err-clause-taken g c =
    let known = g.R.Read.remaining in
    let items = c.loop-buffer.script.items in
    let chunk = take c.in-Ok.taken c.read.new.buf in (
      items ++ chunk,
      consumes_more (known (inner_of c.args.reader.now)) (known (inner_of c.loop-buffer.reader)) (known (inner_of c.read.new.self)) items chunk c.loop-buffer.invariant.taken c.in-Ok.ensures.bytes.0,
      omega (arith, length-append items chunk, c.in-Ok.ensures.bound.0, c.in-Ok.ensures.bound.1, c.read.auto.buf, length-take c.min-room.result c.loop-buffer.buffer, c.min-room.ensures, c.len-in-loop-buffer.ensures, c.loop-buffer.script.ok.0),
    )

pub returns-then-is_err-clause-unseen : goal.returns-then-is_err-clause-unseen
returns-then-is_err-clause-unseen g c missed = still_clear _ _ c.in-Ok.ensures.ended (λ end. let none : c.in-Ok.taken ≡ 0 = cc in absurd (omega (arith, none))) c.loop-buffer.invariant.unended

pub loop-buffer-smaller : goal.loop-buffer-smaller
loop-buffer-smaller g c =
    let items = c.loop-buffer.script.items in
    let chunk = take c.in-Ok.taken c.read.new.buf in
    let pushed : c.extend_from_slice.new.self.items ≡ items ++ chunk = c.extend_from_slice.ensures.items ∙ rw (c.if-is_err.ensures.negation, front_of c.in-Ok.taken c.read.new.buf (drop c.min-room.result c.loop-buffer.buffer) c.in-Ok.ensures.bound.0) refl in
    omega (arith, ap length pushed, length-append items chunk, c.in-Ok.ensures.bound.1, c.len.ensures, c.loop-buffer.script.ok.0)

pub loop-buffer-preserved : goal.loop-buffer-preserved
loop-buffer-preserved g c =
    let known = g.R.Read.remaining in
    let items = c.loop-buffer.script.items in
    let chunk = take c.in-Ok.taken c.read.new.buf in
    let pushed : c.extend_from_slice.new.self.items ≡ items ++ chunk = c.extend_from_slice.ensures.items ∙ rw (c.if-is_err.ensures.negation, front_of c.in-Ok.taken c.read.new.buf (drop c.min-room.result c.loop-buffer.buffer) c.in-Ok.ensures.bound.0) refl in
    record {
      taken = rw pushed (consumes_more (known (inner_of c.args.reader.now)) (known (inner_of c.loop-buffer.reader)) (known (inner_of c.read.new.self)) items chunk c.loop-buffer.invariant.taken c.in-Ok.ensures.bytes.0);
      few = omega (arith, ap length pushed, length-append items chunk, c.in-Ok.ensures.bound.0, c.in-Ok.ensures.bound.1, c.read.auto.buf, length-take c.min-room.result c.loop-buffer.buffer, c.min-room.ensures, c.len-in-loop-buffer.ensures, c.loop-buffer.script.ok.0);
      room = omega (arith, length-append c.read.new.buf (drop c.min-room.result c.loop-buffer.buffer), length-drop c.min-room.result c.loop-buffer.buffer, length-take c.min-room.result c.loop-buffer.buffer, c.read.auto.buf, c.min-room.ensures, c.loop-buffer.invariant.room);
      clear = still_clear _ _ c.in-Ok.ensures.flag (λ bad. false≢true bad) c.loop-buffer.invariant.clear;
      unended = still_clear _ _ c.in-Ok.ensures.ended (λ end. let none : c.in-Ok.taken ≡ 0 = cc in absurd (omega (arith, none))) c.loop-buffer.invariant.unended;
    }

pub returns-clause-taken : goal.returns-clause-taken
returns-clause-taken g c = (c.loop-buffer.script.items, c.loop-buffer.invariant.taken, c.loop-buffer.invariant.few)

pub returns-clause-fault : goal.returns-clause-fault
returns-clause-fault g c same =
    let known = g.R.Read.remaining in
    inr (consumed_is_there (known (inner_of c.args.reader.now)) (known (inner_of c.loop-buffer.reader)) c.loop-buffer.script.items 16777216 c.loop-buffer.invariant.taken (omega (arith, c.len.ensures)))

-- ---- a read that failed

pub returns-in-Err-clause-unseen : goal.returns-in-Err-clause-unseen
returns-in-Err-clause-unseen g c same = absurd cc

pub returns-in-Err-clause-reported : goal.returns-in-Err-clause-reported
returns-in-Err-clause-reported g c failed = refl

pub returns-in-Err-clause-long : goal.returns-in-Err-clause-long
returns-in-Err-clause-long g c = of_any (g.R.Read.remaining (inner_of c.args.reader.now)) (λ script more. inl refl)

pub returns-in-Err-clause-err : goal.returns-in-Err-clause-err
returns-in-Err-clause-err g c = inl refl

-- ---- want of memory

pub returns-then-is_err-clause-reported : goal.returns-then-is_err-clause-reported
returns-then-is_err-clause-reported g c failed =
    absurd (false≢true (sym (still_clear _ _ c.in-Ok.ensures.flag (λ bad. false≢true bad) c.loop-buffer.invariant.clear) ∙ failed))

pub returns-then-is_err-clause-long : goal.returns-then-is_err-clause-long
returns-then-is_err-clause-long g c = of_any (g.R.Read.remaining (inner_of c.args.reader.now)) (λ script more. inr refl)

pub returns-then-is_err-clause-fault : goal.returns-then-is_err-clause-fault
returns-then-is_err-clause-fault g c same = absurd cc

pub returns-then-is_err-clause-err : goal.returns-then-is_err-clause-err
returns-then-is_err-clause-err g c = inr refl

-- ---- the end

pub returns-then-taken-eq0-clause-unseen : goal.returns-then-taken-eq0-clause-unseen
returns-then-taken-eq0-clause-unseen g c same = absurd cc

pub returns-then-taken-eq0-clause-reported : goal.returns-then-taken-eq0-clause-reported
returns-then-taken-eq0-clause-reported g c failed =
    absurd (false≢true (sym (still_clear _ _ c.in-Ok.ensures.flag (λ bad. false≢true bad) c.loop-buffer.invariant.clear) ∙ failed))

pub returns-then-taken-eq0-clause-fault : goal.returns-then-taken-eq0-clause-fault
returns-then-taken-eq0-clause-fault g c same = absurd cc

-- ---- a script that is too long

pub returns-clause-unseen : goal.returns-clause-unseen
returns-clause-unseen g c same = absurd cc

pub returns-clause-reported : goal.returns-clause-reported
returns-clause-reported g c failed = refl

pub returns-clause-long : goal.returns-clause-long
returns-clause-long g c = of_any (g.R.Read.remaining (inner_of c.args.reader.now)) (λ script more. inl refl)

pub returns-clause-err : goal.returns-clause-err
returns-clause-err g c = inl refl
