use Rattle.std.proofs.Common.{◌≡◌, ℕ, ◌<◌, Bool, Option, None, Some, List, [], length, inl, inr, refl, sym, ◌∙◌}
use Rattle.std.specs.Prelude.{◌⊎◌, ◌↔◌, Result, Ok, Err, IfSome, IsErrAnd, IsTrue, IsFalse}
use Rattle.std.specs.Io.KnownBytes.{Appends}
use Rattle.std.proofs.lemmas.Bool.{false≢true}
use Rattle.texts.specs.declared.fault.ScriptFault.{ScriptFault}
use Rattle.texts.specs.declared.fault.ScriptFault.TheVariants as stops
use Rattle.texts.specs.ScriptLines.{longest_script}
use Rattle.texts.specs.Watched.{has_ended, inner_of}
use Rattle.texts.proofs.KnownBytes.{none_appended}
use Rattle.capscript.proofs.Histories.{early_fault, known_ran, whole_ran}
use Rattle.capscript.proofs.running.run.Goals as goal

-- what is known of a script that is too long, where one was read
never_long : {S T : Type 0} (known old new : Option (List ℕ)) (read : Result S ScriptFault) (script : S) (result : Result T ScriptFault) → read ≡ Ok script → IfSome known (λ all. longest_script < length all → (read ≡ Err stops.ReadFault) ⊎ (read ≡ Err stops.NoMemory))
    → IfSome known (λ all. longest_script < length all → ((result ≡ Err stops.ReadFault) ⊎ (result ≡ Err stops.NoMemory)) × Appends old new [])
never_long None old new read script result is long = tt
never_long (Some all) old new read script result is long = λ more. absurd (elim (long more) [ inl stop ↦ cc | inr stop ↦ cc ])

never_reported : {S P : Type 0} (read : Result S ScriptFault) (script : S) → read ≡ Ok script → read ≡ Err stops.ReadFault → P
never_reported read script is reported = absurd (cc)

same_stop : {S T : Type 0} (read : Result S ScriptFault) (result : Result T ScriptFault) (fault stop : ScriptFault) → read ≡ Err fault → result ≡ Err fault → read ≡ Err stop → result ≡ Err stop
same_stop read result fault stop was is reported = let same : fault ≡ stop = cc in cc

-- and where none was read, and nothing was written
long_reported : {S T : Type 0} (known written : Option (List ℕ)) (read : Result S ScriptFault) (result : Result T ScriptFault) (fault : ScriptFault) → read ≡ Err fault → result ≡ Err fault → IfSome known (λ all. longest_script < length all → (read ≡ Err stops.ReadFault) ⊎ (read ≡ Err stops.NoMemory))
    → IfSome known (λ all. longest_script < length all → ((result ≡ Err stops.ReadFault) ⊎ (result ≡ Err stops.NoMemory)) × Appends written written [])
long_reported None written read result fault was is long = tt
long_reported (Some all) written read result fault was is long = λ more.
    (elim (long more) [ inl stop ↦ inl (same_stop read result fault stops.ReadFault was is stop) | inr stop ↦ inr (same_stop read result fault stops.NoMemory was is stop) ], none_appended written)

-- memory was missed for the core
missed : {S T : Type 0} (core : Result S ScriptFault) (result : Result T ScriptFault) (fault : ScriptFault) → core ≡ Err fault → core ≡ Err stops.NoMemory → IsErrAnd result (λ reported. reported ≡ fault) → result ≡ Err stops.NoMemory
missed core (Ok done) fault was none reported = absurd reported
missed core (Err same) fault was none reported = let same_fault : same ≡ fault = reported in same_stop core (Err same) fault stops.NoMemory was (cc) none

missed_long : {T : Type 0} (known written : Option (List ℕ)) (result : Result T ScriptFault) → result ≡ Err stops.NoMemory → IfSome known (λ all. longest_script < length all → ((result ≡ Err stops.ReadFault) ⊎ (result ≡ Err stops.NoMemory)) × Appends written written [])
missed_long None written result is = tt
missed_long (Some all) written result is = λ more. (inr is, none_appended written)

missed_read : {T P : Type 0} (result : Result T ScriptFault) → result ≡ Err stops.NoMemory → result ≡ Err stops.ReadFault → P
missed_read result is read = absurd (cc)

missed_written : {T : Type 0} (result : Result T ScriptFault) (flag : Bool) → result ≡ Err stops.NoMemory → IsFalse flag → (result ≡ Err stops.WriteFault) ↔ IsTrue flag
missed_written result flag is clear = (λ wrote. absurd (cc), λ set. absurd (false≢true (sym clear ∙ set)))

pub returns-in_err-core-clause-ran : goal.returns-in_err-core-clause-ran
returns-in_err-core-clause-ran g c =
    known_ran _ (g.R.Read.remaining (inner_of c.args.reader.now)) (g.W.Write.contents (inner_of c.args.writer.now)) (has_ended c.args.reader.now) c.in_err-core.field-0.0 c.from_residual.result c.from_residual.ensures.1
    (early_fault (Err c.in_err-core.field-0.0) c.in_err-core.field-0.0 (has_ended c.args.reader.now) refl (inr c.in_err-core.ensures.err) (λ is. c.requires.reader_unended))

pub returns-in_err-core-clause-read_failed : goal.returns-in_err-core-clause-read_failed
returns-in_err-core-clause-read_failed g c = λ set. absurd (false≢true (sym c.requires.reader_clear ∙ set))

pub returns-in_err-core-clause-long : goal.returns-in_err-core-clause-long
returns-in_err-core-clause-long g c =
    missed_long (g.R.Read.remaining (inner_of c.args.reader.now)) (g.W.Write.contents (inner_of c.args.writer.now)) c.from_residual.result
    (missed (Err c.in_err-core.field-0.0) c.from_residual.result c.in_err-core.field-0.0 refl c.in_err-core.ensures.err c.from_residual.ensures.1)

pub returns-in_err-core-clause-read : goal.returns-in_err-core-clause-read
returns-in_err-core-clause-read g c =
    missed_read c.from_residual.result (missed (Err c.in_err-core.field-0.0) c.from_residual.result c.in_err-core.field-0.0 refl c.in_err-core.ensures.err c.from_residual.ensures.1)

pub returns-in_err-core-clause-written : goal.returns-in_err-core-clause-written
returns-in_err-core-clause-written g c =
    missed_written c.from_residual.result _ (missed (Err c.in_err-core.field-0.0) c.from_residual.result c.in_err-core.field-0.0 refl c.in_err-core.ensures.err c.from_residual.ensures.1) c.requires.writer_clear

pub returns-in-Ok-clause-ran : goal.returns-in-Ok-clause-ran
returns-in-Ok-clause-ran g c =
    let r = c.in-Ok.ensures in
    let a = c.answer_script.ensures in
    whole_ran (g.R.Read.remaining (inner_of c.args.reader.now)) (g.R.Read.remaining (inner_of c.read_script.new.reader)) (g.W.Write.contents (inner_of c.args.writer.now)) (g.W.Write.contents (inner_of c.answer_script.new.writer))
    c.in-Ok.script.items (has_ended c.read_script.new.reader) c.answer_script.result r.ok r.end r.seen a.read a.ran

pub returns-in-Ok-clause-read_failed : goal.returns-in-Ok-clause-read_failed
returns-in-Ok-clause-read_failed g c = λ set. never_reported (Ok c.in-Ok.script) c.in-Ok.script refl (c.in-Ok.ensures.reported set)

pub returns-in-Ok-clause-long : goal.returns-in-Ok-clause-long
returns-in-Ok-clause-long g c =
    never_long (g.R.Read.remaining (inner_of c.args.reader.now)) (g.W.Write.contents (inner_of c.args.writer.now)) (g.W.Write.contents (inner_of c.answer_script.new.writer)) (Ok c.in-Ok.script) c.in-Ok.script c.answer_script.result refl c.in-Ok.ensures.long

pub returns-in-Ok-clause-read : goal.returns-in-Ok-clause-read
returns-in-Ok-clause-read g c = λ is. absurd (c.answer_script.ensures.read is)

pub returns-in-Ok-clause-written : goal.returns-in-Ok-clause-written
returns-in-Ok-clause-written g c = c.answer_script.ensures.written

pub returns-in-Ok-clause-taken : goal.returns-in-Ok-clause-taken
returns-in-Ok-clause-taken g c = c.in-Ok.ensures.taken

pub returns-in-Err-clause-read_failed : goal.returns-in-Err-clause-read_failed
returns-in-Err-clause-read_failed g c = λ set. same_stop (Err c.in-Err.fault) (Err c.in-Err.fault) c.in-Err.fault stops.ReadFault refl refl (c.in-Err.ensures.reported set)

pub returns-in-Err-clause-long : goal.returns-in-Err-clause-long
returns-in-Err-clause-long g c =
    long_reported (g.R.Read.remaining (inner_of c.args.reader.now)) (g.W.Write.contents (inner_of c.args.writer.now)) (Err c.in-Err.fault) (Err c.in-Err.fault) c.in-Err.fault refl refl c.in-Err.ensures.long

pub returns-in-Err-clause-read : goal.returns-in-Err-clause-read
returns-in-Err-clause-read g c = λ is.
    (c.in-Err.ensures.fault (same_stop (Err c.in-Err.fault) (Err c.in-Err.fault) c.in-Err.fault stops.ReadFault refl refl is), none_appended (g.W.Write.contents (inner_of c.args.writer.now)))

pub returns-in-Err-clause-taken : goal.returns-in-Err-clause-taken
returns-in-Err-clause-taken g c = c.in-Err.ensures.taken
