-- Why a line is refused; and that it says one event, or has one fault, or is skipped.
use Rattle.std.proofs.Common.{◌≡◌, ℕ, ◌≤◌, ◌-◌, arith, true, false, List, [], ◌∷◌, length, map, take, drop, get_or, refl, sym, ap, subst, ◌∙◌, inl, inr}
use Rattle.std.proofs.lemmas.List.{take_all}
use Rattle.std.specs.Prelude.{◌⊎◌, Result, Ok, Err, MatchResult, IsErrAnd}
use Rattle.std.specs.Borrow.{Bor}
use Rattle.capbits.specs.Caps.{Caps}
use Rattle.capbits.proofs.Following.{text_of-injective}
use Rattle.capspec.specs.declared.fault.SpecFault.{SpecFault}
use Rattle.capspec.specs.declared.grant.Grant.{Grant}
use Rattle.capspec.specs.Faults.{IsFault, IsNoMemory}
use Rattle.capspec.specs.Grants.{Reads as MeansGrants}
use Rattle.capspec.proofs.OneReading.{one_fault as one_grant_fault}
use Rattle.capspec.proofs.OneReading.{reads_no_fault, reads_once}
use Rattle.capspec.proofs.Reported.{fault_told}
use Rattle.capstep.specs.declared.event.Event.{Event}
use Rattle.capstep.specs.declared.event.Event.TheVariants as events
use Rattle.texts.specs.declared.fault.LineFault.{LineFault}
use Rattle.texts.specs.declared.fault.LineFault.TheVariants as faults
use Rattle.capexplain.specs.declared.refused.Refused.{Refused}
use Rattle.capexplain.specs.declared.refused.Refused.TheVariants as refusals
use Rattle.capexplain.specs.Events.{Line, ◌>>=◌, granting, regrant_by, said_in, line_says, Tells, Reads}
use Rattle.capexplain.specs.Events.Line.{Faulty, Grants, Names, Nothing, Says}
use Rattle.capexplain.specs.Faults.{Has, HasFault, IsRefused, IsRefusedFor}
use Rattle.texts.specs.ScriptLines.{is_skipped}
use Rattle.capexplain.specs.Values.{Spells, client_in}
use Rattle.capexplain.specs.Words.{arguments_in, words}
use Rattle.capexplain.proofs.LineWords.{rest_of_line}

-- ---- want of memory

-- the line says an event, whichever it is
abbrev pub SaysAny : Line → Type 0
SaysAny Nothing = ⊥
SaysAny (Says event) = Unit {0}
SaysAny (Grants said text) = (grants : List Grant) × MeansGrants text grants
SaysAny (Names said word) = (caps : Caps) × Spells word caps
SaysAny (Faulty fault) = ⊥

event_said : (line : Line) → SaysAny line → (event : Event) × Tells line event
event_said Nothing says = absurd says
event_said (Says event) says = (event, refl)
event_said (Grants said text) says = (said says.0, (says.0, says.1, refl))
event_said (Names said word) says = (said says.0, (says.0, says.1, refl))
event_said (Faulty fault) says = absurd says

pub missed : {A : Type 0} (answer : Result A Refused) (IsRight : A → Type 0) (line : Line) → IsErrAnd answer (λ refused. refused ≡ refusals.NoMemory) → SaysAny line → MatchResult answer IsRight (IsRefused line)
missed (Ok done) IsRight line reported says = absurd reported
missed (Err refused) IsRight line reported says = rw reported (event_said line says)

-- ---- grants

-- a grant text that is refused has a fault, or memory was missing for what it says
refused_text : (said : List Grant → Event) (text : List ℕ) (fault : SpecFault) (refused : Refused) → IsFault text fault ⊎ (IsNoMemory fault × (grants : List Grant) × MeansGrants text grants) → IsRefusedFor fault refused → IsRefused (Grants said text) refused
refused_text said text fault (refusals.Wrong kind) (inl is) passed = (fault, is, passed.0)
refused_text said text fault (refusals.Wrong kind) (inr missed) passed = absurd (passed.1 (ap (λ (f : SpecFault). f.kind) missed.0))
refused_text said text fault refusals.NoMemory (inl is) passed = absurd (fault_told text fault is passed)
refused_text said text fault refusals.NoMemory (inr missed) passed = event_said (Grants said text) (missed.1, missed.2)

pub text_refused : {A : Type 0} (answer : Result A Refused) (IsRight : A → Type 0) (said : List Grant → Event) (text : List ℕ) (fault : SpecFault) → IsErrAnd answer (IsRefusedFor fault) → IsFault text fault ⊎ (IsNoMemory fault × (grants : List Grant) × MeansGrants text grants)
    → MatchResult answer IsRight (IsRefused (Grants said text))
text_refused (Ok done) IsRight said text fault passed found = absurd passed
text_refused (Err refused) IsRight said text fault passed found = refused_text said text fault refused found passed

-- ---- parts

-- what no place holds
abbrev pub nowhere : Bor (List ℕ)
nowhere = record { ref_ptr = (0, 0); now = [] }

abbrev pub word_at : List (Bor (List ℕ)) → ℕ → List ℕ
word_at arguments place = (get_or arguments place nowhere).now

-- one argument by its place
pub one : (arguments : List (Bor (List ℕ))) → length arguments ≡ 1 → map (λ word. word.now) arguments ≡ word_at arguments 0 ∷ []
one (a ∷ []) count = refl
one [] count = absurd (omega arith)
one (a ∷ b ∷ more) count = absurd (omega arith)

-- two arguments by their places
pub two : (arguments : List (Bor (List ℕ))) → length arguments ≡ 2 → map (λ word. word.now) arguments ≡ word_at arguments 0 ∷ word_at arguments 1 ∷ []
two (a ∷ b ∷ []) count = refl
two [] count = absurd (omega arith)
two (a ∷ []) count = absurd (omega arith)
two (a ∷ b ∷ c ∷ more) count = absurd (omega arith)

-- two arguments by their places, with those behind them
pub first_two : (arguments : List (Bor (List ℕ))) → 2 ≤ length arguments
    → map (λ word. word.now) arguments ≡ word_at arguments 0 ∷ word_at arguments 1 ∷ map (λ word. word.now) (take (length arguments - 2) (drop 2 arguments))
first_two (a ∷ b ∷ more) count = ap (λ words. a.now ∷ b.now ∷ map (λ (word : Bor (List ℕ)). word.now) words) (sym (take_all (length (a ∷ b ∷ more) - 2) more (omega arith)))
first_two [] count = absurd (omega arith)
first_two (a ∷ []) count = absurd (omega arith)

-- three arguments by their places
pub three : (arguments : List (Bor (List ℕ))) → length arguments ≡ 3 → map (λ word. word.now) arguments ≡ word_at arguments 0 ∷ word_at arguments 1 ∷ word_at arguments 2 ∷ []
three (a ∷ b ∷ c ∷ []) count = refl
three [] count = absurd (omega arith)
three (a ∷ []) count = absurd (omega arith)
three (a ∷ b ∷ []) count = absurd (omega arith)
three (a ∷ b ∷ c ∷ d ∷ more) count = absurd (omega arith)

-- four arguments by their places
pub four : (arguments : List (Bor (List ℕ))) → length arguments ≡ 4 → map (λ word. word.now) arguments ≡ word_at arguments 0 ∷ word_at arguments 1 ∷ word_at arguments 2 ∷ word_at arguments 3 ∷ []
four (a ∷ b ∷ c ∷ d ∷ []) count = refl
four [] count = absurd (omega arith)
four (a ∷ []) count = absurd (omega arith)
four (a ∷ b ∷ []) count = absurd (omega arith)
four (a ∷ b ∷ c ∷ []) count = absurd (omega arith)
four (a ∷ b ∷ c ∷ d ∷ e ∷ more) count = absurd (omega arith)

-- five arguments by their places
pub five : (arguments : List (Bor (List ℕ))) → length arguments ≡ 5 → map (λ word. word.now) arguments ≡ word_at arguments 0 ∷ word_at arguments 1 ∷ word_at arguments 2 ∷ word_at arguments 3 ∷ word_at arguments 4 ∷ []
five (a ∷ b ∷ c ∷ d ∷ e ∷ []) count = refl
five [] count = absurd (omega arith)
five (a ∷ []) count = absurd (omega arith)
five (a ∷ b ∷ []) count = absurd (omega arith)
five (a ∷ b ∷ c ∷ []) count = absurd (omega arith)
five (a ∷ b ∷ c ∷ d ∷ []) count = absurd (omega arith)
five (a ∷ b ∷ c ∷ d ∷ e ∷ f ∷ more) count = absurd (omega arith)

-- of new grants, by the first argument and all that is left of the line behind it
pub regranted : (text word behind argument rest : List ℕ) → words text ≡ word ∷ words behind → words behind ≡ argument ∷ words rest
    → regrant_by (arguments_in text) ≡ (client_in argument >>= (λ client. granting (events.Regrant client) rest))
regranted text word behind argument rest first second =
    let cut = rest_of_line text word behind argument rest first second in
    ap regrant_by cut.1.1 ∙ ap (λ (left : List ℕ). client_in argument >>= (λ client. granting (events.Regrant client) left)) cut.1.2

-- what is no event is why there is none
pub refused_by : {A : Type 0} (answer : Result A Refused) (IsRight : A → Type 0) (line : Line) (refused : Refused) → IsErrAnd answer (λ passed. passed ≡ refused) → IsRefused line refused → MatchResult answer IsRight (IsRefused line)
refused_by (Ok done) IsRight line refused passed why = absurd passed
refused_by (Err same) IsRight line refused passed why = rw passed why

-- ---- a line says one event, or has one fault, or is skipped

pub tells_once : (line : Line) (event other : Event) → Tells line event → Tells line other → event ≡ other
tells_once Nothing event other is also = absurd is
tells_once (Says said) event other is also = is ∙ sym also
tells_once (Grants said text) event other is also = is.2 ∙ ap said (reads_once text is.0 also.0 is.1 also.1) ∙ sym also.2
tells_once (Names said word) event other is also = is.2 ∙ ap said (text_of-injective is.0 also.0 (sym is.1 ∙ also.1)) ∙ sym also.2
tells_once (Faulty fault) event other is also = absurd is

pub tells_no_fault : (line : Line) (event : Event) (fault : LineFault) → Tells line event → Has line fault → ⊥
tells_no_fault Nothing event fault is has = is
tells_no_fault (Says said) event fault is has = has
tells_no_fault (Grants said text) event fault is has = reads_no_fault text is.0 has.0 is.1 has.1
tells_no_fault (Names said word) event fault is has = has.0 is.0 is.1
tells_no_fault (Faulty found) event fault is has = is

pub one_fault : (line : Line) (fault other : LineFault) → Has line fault → Has line other → fault ≡ other
one_fault Nothing fault other is also = absurd is
one_fault (Says said) fault other is also = absurd is
one_fault (Grants said text) fault other is also = is.2 ∙ ap faults.Grants (one_grant_fault text is.0 also.0 is.1 also.1) ∙ sym also.2
one_fault (Names said word) fault other is also = is.1 ∙ sym also.1
one_fault (Faulty found) fault other is also = is ∙ sym also

pub not_skipped : (text : List ℕ) (event : Event) → Reads text event → is_skipped text ≡ false
not_skipped text event reads = elim (is_skipped text) as (λ b. is_skipped text ≡ b → b ≡ false) [
  | true ↦ λ skipped. let says : line_says text ≡ Nothing = rw skipped refl in absurd (subst (λ (line : Line). Tells line event) says reads)
  | false ↦ λ _. refl
] refl

-- a line that is not skipped
said : (text : List ℕ) → is_skipped text ≡ false → line_says text ≡ said_in text
said text other = rw other refl

pub reads_said : (text : List ℕ) (event : Event) → is_skipped text ≡ false → Reads text event → Tells (said_in text) event
reads_said text event other reads = subst (λ (line : Line). Tells line event) (said text other) reads

pub has_said : (text : List ℕ) (fault : LineFault) → is_skipped text ≡ false → HasFault text fault → Has (said_in text) fault
has_said text fault other has = subst (λ (line : Line). Has line fault) (said text other) has
