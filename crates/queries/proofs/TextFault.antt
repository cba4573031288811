-- What is told of a grant text that was refused.
use Rattle.std.proofs.Common.{◌≡◌, ℕ, List, ap, sym, subst, inl, inr}
use Rattle.std.specs.Prelude.{◌⊎◌, Result, Ok, Err, IfErr, IsErrAnd}
use Rattle.capspec.specs.declared.fault.SpecFault.{SpecFault}
use Rattle.capspec.specs.declared.fault.SpecFaultKind.TheVariants as kinds
use Rattle.capspec.specs.declared.grant.Grant.{Grant}
use Rattle.capspec.specs.Faults.{IsFault, IsNoMemory}
use Rattle.capspec.specs.Grants.{Reads}
use Rattle.capspec.proofs.Reported.{fault_told}
use Rattle.queries.specs.declared.fault.QuestionFault.{QuestionFault}
use Rattle.queries.specs.declared.fault.QuestionFault.TheVariants.{BadValue, Grants, NoMemory}
use Rattle.queries.specs.Fault.{IsFaultOf, IsFaultOfText}

pub text_fault : (text : List ℕ) (refused : SpecFault) (fault : QuestionFault) → IsFault text refused ⊎ (IsNoMemory refused × (grants : List Grant) × Reads text grants) → IsFaultOf refused fault → IsFaultOfText text fault
text_fault text refused (Grants same) (inl is) passed = subst (λ (f : SpecFault). IsFault text f) (sym passed.0) is
text_fault text refused (Grants same) (inr missed) passed = absurd (passed.1 (ap (λ (f : SpecFault). f.kind) missed.0))
text_fault text refused (BadValue option) found passed = absurd passed
text_fault text refused NoMemory (inl is) passed = absurd (fault_told text refused is passed)
text_fault text refused NoMemory (inr missed) passed = (missed.1, missed.2)

-- the same of an answer that hands it on
pub refused_text : {T : Type 0} (text : List ℕ) (refused : SpecFault) (answer : Result T QuestionFault) → IsFault text refused ⊎ (IsNoMemory refused × (grants : List Grant) × Reads text grants) → IsErrAnd answer (IsFaultOf refused)
    → IfErr answer (IsFaultOfText text)
refused_text text refused (Ok x) found passed = tt
refused_text text refused (Err fault) found passed = text_fault text refused fault found passed

-- a text for which only memory was missing means grants
pub text_is_good : (text : List ℕ) (refused : SpecFault) → IsFault text refused ⊎ (IsNoMemory refused × (grants : List Grant) × Reads text grants) → refused.kind ≡ kinds.NoMemory → (grants : List Grant) × Reads text grants
text_is_good text refused (inl is) missed = absurd (fault_told text refused is missed)
text_is_good text refused (inr good) missed = (good.1, good.2)
