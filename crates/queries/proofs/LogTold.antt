-- What is told of a check, and its text.
use Rattle.std.proofs.Common.{◌≡◌, ℕ, ◌+◌, ◌<◌, Bool, true, false, List, [], ◌∷◌, ◌++◌, length, map, take, get_or, sym, ap, ◌∙◌, append-nil}
use Rattle.std.specs.Prelude.{Err, IfOk, Ok, OnOk, Result, ◌&&◌}
use Rattle.std.specs.List.{list_all}
use Rattle.std.proofs.Math.Bool.{and-true}
use Rattle.std.proofs.lemmas.Bool.{cond-false, cond-true}
use Rattle.std.proofs.lemmas.List.{map-append, take_more}
use Rattle.std.proofs.lemmas.List.Folds.{list_all-append}
use Rattle.capgrant.specs.declared.access.Access.{Access}
use Rattle.queries.specs.declared.fault.QuestionFault.{QuestionFault}
use Rattle.queries.specs.Reported.{Item, Scope, TellsFault, item_text, leaves_out, of_line, text_of}
use Rattle.queries.specs.Told.{Told, allows, is_judgement}
use Rattle.queries.proofs.LogLines.{told_more}

-- ---- its text

pub left_out : (scope : Scope) (number : ℕ) (t : Told) (text : List ℕ) → (leaves_out scope && allows t) ≡ true → text ≡ text ++ text_of scope (of_line number (t ∷ []))
left_out scope number t text is = sym (append-nil text) ∙ ap (λ (r : List ℕ). text ++ (r ++ [])) (sym (cond-true (leaves_out scope && allows t) [] (item_text scope (number, t)) is))

pub told : (scope : Scope) (number : ℕ) (t : Told) (text new : List ℕ) → (leaves_out scope && allows t) ≡ false → new ≡ text ++ item_text scope (number, t) → new ≡ text ++ text_of scope (of_line number (t ∷ []))
told scope number t text new is printed =
    printed
    ∙ ap (λ (r : List ℕ). text ++ r)
    (sym (append-nil (item_text scope (number, t))) ∙ ap (λ (r : List ℕ). r ++ []) (sym (cond-false (leaves_out scope && allows t) [] (item_text scope (number, t)) is)))

-- ---- one thing alone

-- the text has it, and whether each of what is told is a judgement
abbrev pub Tells : Scope → ℕ → List ℕ → List ℕ → (List Told → Type 0) → Bool → Type 0
Tells scope number old new Fits judged = (told : List Told) × (new ≡ old ++ text_of scope (of_line number told)) × Fits told × (judged ≡ list_all is_judgement told)

pub one_told : {E : Type 0} (scope : Scope) (number : ℕ) (old new : List ℕ) (t : Told) (Fits : List Told → Type 0) (result : Result Bool E) → Fits (t ∷ [])
    → OnOk result (new ≡ old ++ text_of scope (of_line number (t ∷ []))) → IfOk result (λ judged. judged ≡ is_judgement t) → IfOk result (Tells scope number old new Fits)
one_told scope number old new t Fits (Ok judged) fits printed is = (t ∷ [], printed, fits, is ∙ sym (and-true (is_judgement t)))
one_told scope number old new t Fits (Err e) fits printed is = tt

-- what is wrong with the values
abbrev pub TellsOne : Scope → ℕ → List ℕ → List ℕ → QuestionFault → Bool → Type 0
TellsOne scope number old new fault judged = (t : Told) × (new ≡ old ++ text_of scope (of_line number (t ∷ []))) × TellsFault fault t × (judged ≡ is_judgement t)

pub fault_told : {E : Type 0} (scope : Scope) (number : ℕ) (old new : List ℕ) (fault : QuestionFault) (t : Told) (result : Result Bool E) → TellsFault fault t
    → OnOk result (new ≡ old ++ text_of scope (of_line number (t ∷ []))) → IfOk result (λ judged. judged ≡ is_judgement t) → IfOk result (TellsOne scope number old new fault)
fault_told scope number old new fault t (Ok judged) tells printed is = (t, printed, tells, is)
fault_told scope number old new fault t (Err e) tells printed is = tt

pub of_fault : {E : Type 0} (scope : Scope) (number : ℕ) (old new : List ℕ) (fault : QuestionFault) (Fits : List Told → Type 0) (result : Result Bool E) → ((t : Told) → TellsFault fault t → Fits (t ∷ []))
    → IfOk result (TellsOne scope number old new fault) → IfOk result (Tells scope number old new Fits)
of_fault scope number old new fault Fits (Ok judged) fits says = (says.0 ∷ [], says.1, fits says.0 says.2, says.3 ∙ sym (and-true (is_judgement says.0)))
of_fault scope number old new fault Fits (Err e) fits says = tt

-- many at once, which are these
pub all_told : {E : Type 0} (scope : Scope) (number : ℕ) (old new : List ℕ) (all : List Told) (Fits : List Told → Type 0) (result : Result Bool E) → Fits all
    → OnOk result (new ≡ old ++ text_of scope (of_line number all)) → IfOk result (λ judged. judged ≡ list_all is_judgement all) → IfOk result (Tells scope number old new Fits)
all_told scope number old new all Fits (Ok judged) fits printed is = (all, printed, fits, is)
all_told scope number old new all Fits (Err e) fits printed is = tt

-- ---- one thing more for one access more

pub answer_more : (scope : Scope) (number : ℕ) (f : Access → Told) (start line after : List ℕ) (xs : List Access) (k : ℕ) (d : Access) → k < length xs → line ≡ start ++ text_of scope (of_line number (map f (take k xs)))
    → after ≡ line ++ text_of scope (of_line number (f (get_or xs k d) ∷ [])) → after ≡ start ++ text_of scope (of_line number (map f (take (k + 1) xs)))
answer_more scope number f start line after xs k d inside before now =
    let x : Access = get_or xs k d in
    told_more scope start line after (of_line number (map f (take k xs))) (of_line number (f x ∷ [])) before now
    ∙ ap (λ (items : List Item). start ++ text_of scope items)
    (sym (map-append (λ (t : Told). (number, t)) (map f (take k xs)) (f x ∷ [])) ∙ ap (of_line number) (sym (map-append f (take k xs) (x ∷ [])) ∙ sym (ap (map f) (take_more xs k d inside))))

pub judged_more : (f : Access → Told) (xs : List Access) (k : ℕ) (d : Access) (so here : Bool) → k < length xs → so ≡ list_all is_judgement (map f (take k xs)) → here ≡ is_judgement (f (get_or xs k d))
    → (so && here) ≡ list_all is_judgement (map f (take (k + 1) xs))
judged_more f xs k d so here inside before now =
    let x : Access = get_or xs k d in
    ap (λ (b : Bool). b && here) before
    ∙ ap (λ (b : Bool). list_all is_judgement (map f (take k xs)) && b) (now ∙ sym (and-true (is_judgement (f x))))
    ∙ sym (list_all-append is_judgement (map f (take k xs)) (f x ∷ []))
    ∙ ap (list_all is_judgement) (sym (map-append f (take k xs) (x ∷ [])) ∙ sym (ap (map f) (take_more xs k d inside)))
