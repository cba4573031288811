-- What was written of a script that was read whole, and of one that was not; and why lines are not served.
use Rattle.std.proofs.Common.{◌≡◌, ℕ, ◌+◌, Option, Some, None, List, [], ◌∷◌, ◌++◌, refl, sym, ap, ◌∙◌, subst, inl, inr}
use Rattle.std.specs.Prelude.{◌⊎◌, Result, Err, IfSome}
use Rattle.std.specs.Io.KnownBytes.{Appends, Consumes, IsAtEnd}
use Rattle.std.proofs.lemmas.List.{append-nil}
use Rattle.texts.specs.ScriptLines.{lines}
use Rattle.texts.specs.declared.fault.ScriptFault.{ScriptFault}
use Rattle.texts.specs.declared.fault.ScriptFault.TheVariants as stops
use Rattle.texts.proofs.KnownBytes.{none_appended}
use Rattle.cli.specs.declared.serve_fault.ServeFault.{ServeFault}
use Rattle.cli.specs.declared.serve_fault.ServeFault.TheVariants.{Clients, HistoryFull, NoThread, Script}
use Rattle.cli.specs.Jobs.{IsFaultAt, StopsAt, Work, no_work}
use Rattle.cli.specs.Served.{IsUnserved, IsWritten}

-- no line has a fault of a kind that no line can have
never_stops : (fault : ServeFault) → ((old : Work) (number : ℕ) (line : List ℕ) → IsFaultAt old number line fault → ⊥) → (old : Work) (number : ℕ) (script : List (List ℕ)) → StopsAt old number script fault → ⊥
never_stops fault never old number [] at = at
never_stops fault never old number (line ∷ more) (inl here) = never old number line here
never_stops fault never old number (line ∷ more) (inr later) = never_stops fault never later.0 (number + 1) more later.2

-- a line that has a fault
pub stopped_unserved : (script : List (List ℕ)) (fault : ServeFault) → StopsAt no_work 1 script fault → IsUnserved script fault
stopped_unserved script (Script (stops.LineFault line kind)) at = at
stopped_unserved script (Script stops.NoMemory) at = tt
stopped_unserved script (Script stops.ReadFault) at = never_stops (Script stops.ReadFault) (λ old number line is. is) no_work 1 script at
stopped_unserved script (Script stops.WriteFault) at = never_stops (Script stops.WriteFault) (λ old number line is. is) no_work 1 script at
stopped_unserved script NoThread at = tt
stopped_unserved script (Clients line) at = at
stopped_unserved script HistoryFull at = absurd (never_stops HistoryFull (λ old number line is. is) no_work 1 script at)

-- a script that was read whole
pub whole_written : (T : Type 0) (remaining rest old new : Option (List ℕ)) (script : List ℕ) (result : Result T ServeFault) → Consumes remaining rest script → IsAtEnd rest
    → (text : List ℕ) × IsWritten (lines script) result text × Appends old new text → IfSome remaining (λ all. (text : List ℕ) × IsWritten (lines all) result text × Appends old new text)
whole_written T None rest old new script result taken end written = tt
whole_written T (Some all) None old new script result taken end written = absurd taken
whole_written T (Some all) (Some rest) old new script result taken end written =
    let same : all ≡ script = taken ∙ ap (λ (t : List ℕ). script ++ t) end ∙ append-nil script in
    (written.0, subst (λ (t : List ℕ). IsWritten (lines t) result written.0) (sym same) written.1, written.2)

-- one that was not
pub unread_written : (T : Type 0) (remaining known : Option (List ℕ)) (stop : ScriptFault) → (stop ≡ stops.ReadFault) ⊎ (stop ≡ stops.NoMemory) → IfSome remaining (λ all. (text : List ℕ) × IsWritten {T = T} (lines all) (Err (Script stop)) text × Appends known known text)
unread_written T None known stop why = tt
unread_written T (Some all) known stop (inl why) = ([], subst (λ (s : ScriptFault). IsWritten {T = T} (lines all) (Err (Script s)) []) (sym why) refl, none_appended known)
unread_written T (Some all) known stop (inr why) = ([], subst (λ (s : ScriptFault). IsWritten {T = T} (lines all) (Err (Script s)) []) (sym why) (tt, refl), none_appended known)
