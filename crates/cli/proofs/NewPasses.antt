-- Passes that have called nothing yet.
use Rattle.std.proofs.Common.{◌≡◌, ℕ, ◌+◌, ◌<◌, ◌≤◌, List, [], ◌∷◌, ◌++◌, length, get_or, refl, sym, ap, ◌∙◌, arith}
use Rattle.std.specs.List.{remove, sum_by}
use Rattle.std.proofs.lemmas.List.Sums.{sum_by-cons, sum_by_push}
use Rattle.capserver.specs.Passes.{AllNew, PassState}

none_called : (n : ℕ) (ps : List PassState) → AllNew n ps → sum_by (λ p. p.calls) ps ≡ 0
none_called n [] new = refl
none_called n (p ∷ ps) new = sum_by-cons (λ p. p.calls) p ps ∙ ap (λ (m : ℕ). p.calls + m) (none_called (n + 1) ps new.1) ∙ let none = ap (λ (q : PassState). q.calls) new.0 in omega (arith, none)

-- the first of them, and the others
pub first_called_none : (p : PassState) (ps : List PassState) → 0 < length ps → AllNew 0 ps → p ≡ get_or ps 0 p → p.calls ≡ 0
first_called_none p [] some new is = absurd (omega arith)
first_called_none p (q ∷ ps) some new is = ap (λ (c : PassState). c.calls) (is ∙ new.0)

pub others_called_none : (ps : List PassState) → AllNew 0 ps → sum_by (λ p. p.calls) (remove ps 0) ≡ 0
others_called_none [] new = refl
others_called_none (p ∷ ps) new = none_called 1 ps new.1

-- the first has called at most these events, and the others none
pub most_called : (first back : PassState) (others all : List PassState) (events more : ℕ) → first.calls ≡ 0 → sum_by (λ p. p.calls) others ≡ 0 → all ≡ others ++ back ∷ [] → back.calls ≤ first.calls + events
    → sum_by (λ p. p.calls) all ≤ events + more
most_called first back others all events more none others_none is most =
    let sum = ap (λ (ps : List PassState). sum_by (λ p. p.calls) ps) is ∙ sum_by_push (λ (p : PassState). p.calls) others back in
    omega (arith, sum, none, others_none, most)
