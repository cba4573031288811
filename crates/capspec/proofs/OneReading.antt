-- Of each text: it has no fault where it reads, at most one fault, and at most one list of grants.
use Rattle.std.proofs.Common.{◌≡◌, ℕ, List, Result, Ok, Err, IfOk, refl, sym, ap, inl, inr, ◌∙◌}
use Rattle.std.specs.Prelude.{◌-◌, ◌⊎◌, length, IfErr}
use Rattle.capspec.specs.declared.fault.SpecFault.{SpecFault}
use Rattle.capspec.specs.declared.grant.Grant.{Grant}
use Rattle.capspec.specs.declared.reading.Refusal.{Refusal}
use Rattle.capspec.specs.Grants.{Reads}
use Rattle.capspec.specs.Faults.{IsFault, IsNoMemory}
use Rattle.capspec.proofs.Determined.{tests_once}
use Rattle.capspec.proofs.Complete.{reads_give}

same_grants : (grants others : List Grant) (x : Result (List Grant) Refusal) → x ≡ Ok grants → x ≡ Ok others → grants ≡ others
same_grants grants others x e e' = cc

same_refusal : (a b : Refusal) (x : Result (List Grant) Refusal) → x ≡ Err a → x ≡ Err b → a ≡ b
same_refusal a b x e e' = cc

not_both : (grants : List Grant) (refusal : Refusal) (x : Result (List Grant) Refusal) → x ≡ Ok grants → x ≡ Err refusal → ⊥
not_both grants refusal x e e' = cc

pub reads_no_fault : (text : List ℕ) (grants : List Grant) (fault : SpecFault) → Reads text grants → IsFault text fault → ⊥
reads_no_fault text grants fault reads is = not_both grants is.0 (Ok grants) refl (tests_once text (Ok grants) (Err is.0) (reads_give text grants reads) is.1)

pub one_fault : (text : List ℕ) (fault other : SpecFault) → IsFault text fault → IsFault text other → fault ≡ other
one_fault text fault other a b =
    let same : a.0 ≡ b.0 = same_refusal a.0 b.0 (Err a.0) refl (tests_once text (Err a.0) (Err b.0) a.1 b.1) in
    a.2 ∙ ap (λ (r : Refusal). record { at = length text - r.left; kind = r.kind }) same ∙ sym b.2

pub reads_once : (text : List ℕ) (grants others : List Grant) → Reads text grants → Reads text others → grants ≡ others
reads_once text grants others a b = same_grants grants others (Ok grants) refl (tests_once text (Ok grants) (Ok others) (reads_give text grants a) (reads_give text others b))

-- where nothing is read, a reader's answer is the fault
pub unread_has_fault : (text : List ℕ) (answer : Result (List Grant) SpecFault) → IfOk answer (Reads text) → IfErr answer (λ fault. IsFault text fault ⊎ (IsNoMemory fault × (grants : List Grant) × Reads text grants))
    → ((grants : List Grant) → Reads text grants → ⊥) → (fault : SpecFault) × IsFault text fault
unread_has_fault text (Ok grants) ok err none = absurd (none grants ok)
unread_has_fault text (Err fault) ok (inl is) none = (fault, is)
unread_has_fault text (Err fault) ok (inr missed) none = absurd (none missed.1 missed.2)
