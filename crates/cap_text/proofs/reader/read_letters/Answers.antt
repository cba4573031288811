use Rattle.std.proofs.Common.{◌∷◌, [], sym, ap, subst, true≢false, false, Ok, length, ◌≤◌, ◌∙◌}
use Rattle.std.proofs.lemmas.List.{take_all}
use Rattle.capbits.specs.declared.cap.Cap.TheVariants.{P}
use Rattle.capbits.specs.declared.cap.Part.TheVariants.{A, F, L, X}
use Rattle.capbits.proofs.Following.{text_of-injective}
use Rattle.cap_text.proofs.Reading.{HasRead, all_read, capital_step, fault_inside, letter_missing, letter_step, not_a_text, read_nothing, wrong_byte}
use Rattle.cap_text.proofs.reader.read_letters.Goals as goal
use Rattle.cap_text.proofs.reader.read_letters.Goals.{in-Some, in_default+else-needs_letter+in-Some-find_capital}

pub loop-at-init : goal.loop-at-init
loop-at-init c = subst (λ s. HasRead [] s false (P ∷ []) (A ∷ L ∷ X ∷ F ∷ [])) (sym c.empty-set.ensures) read_nothing

pub returns-then-needs_letter-clause-err : goal.returns-then-needs_letter-clause-err
returns-then-needs_letter-clause-err c =
    wrong_byte _ c.loop-at.at _ _ _ _ c.requires.no_dash c.requires.some c.loop-at-test.true c.loop-at.invariant c.in_default.ensures.none (λ n. absurd (true≢false (sym c.if-needs_letter.true ∙ n)))

pub returns-then-needs_letter-clause-each_text : goal.returns-then-needs_letter-clause-each_text
returns-then-needs_letter-clause-each_text c s e = absurd (fault_inside _ c.loop-at.at c.loop-at-test.true (returns-then-needs_letter-clause-err c) s e)

pub returns-in_default-find_capital-clause-err : goal.returns-in_default-find_capital-clause-err
returns-in_default-find_capital-clause-err c =
    wrong_byte _ c.loop-at.at _ _ _ _ c.requires.no_dash c.requires.some c.loop-at-test.true c.loop-at.invariant c.in_default.ensures.none (λ _. c.in_default-find_capital.ensures.none)

pub returns-in_default-find_capital-clause-each_text : goal.returns-in_default-find_capital-clause-each_text
returns-in_default-find_capital-clause-each_text c s e = absurd (fault_inside _ c.loop-at.at c.loop-at-test.true (returns-in_default-find_capital-clause-err c) s e)

pub loop-at-preserved : goal.loop-at-preserved
loop-at-preserved c =
    elim c.match-find_letter.branch [
      | in-Some w ↦ rw (w.needs_letter-is, w.caps-is, w.parts-is) (letter_step _ c.loop-at.at _ _ _ _ _ _ _ w.in-Some.cap c.loop-at-test.true c.loop-at.invariant w.in-Some.ensures.letter w.in-Some.ensures.split w.of.ensures (w.set-is ∙ w.union-set.ensures))
      | in_default+else-needs_letter+in-Some-find_capital w ↦ rw (w.set-is, w.needs_letter-is, w.caps-is, w.parts-is) (capital_step _ c.loop-at.at _ _ _ _ _ _ w.in-Some-find_capital.part c.loop-at-test.true c.loop-at.invariant w.if-needs_letter.false w.in_default.ensures.none w.in-Some-find_capital.ensures.capital w.in-Some-find_capital.ensures.split w.caps-caps.ensures)
    ]

pub returns-clause-ok : goal.returns-clause-ok
returns-clause-ok c =
    all_read c.args.text.now c.loop-at.set c.loop-at.caps.now c.loop-at.parts.now c.requires.some
    (let end : length c.args.text.now ≤ c.loop-at.at = c.loop-at-test.false in rw c.if-needs_letter-2.false at (rw take_all at c.loop-at.invariant))

pub returns-clause-each_text : goal.returns-clause-each_text
returns-clause-each_text c s e = ap Ok (text_of-injective c.loop-at.set s (sym (returns-clause-ok c) ∙ e))

pub returns-then-needs_letter-2-clause-err : goal.returns-then-needs_letter-2-clause-err
returns-then-needs_letter-2-clause-err c = letter_missing c.args.text.now c.loop-at.set c.loop-at.caps.now c.loop-at.parts.now (let end : length c.args.text.now ≤ c.loop-at.at = c.loop-at-test.false in rw c.if-needs_letter-2.true at (rw take_all at c.loop-at.invariant))

pub returns-then-needs_letter-2-clause-each_text : goal.returns-then-needs_letter-2-clause-each_text
returns-then-needs_letter-2-clause-each_text c s e =
    absurd (not_a_text c.args.text.now c.loop-at.set c.loop-at.caps.now c.loop-at.parts.now c.requires.no_dash c.requires.some (let end : length c.args.text.now ≤ c.loop-at.at = c.loop-at-test.false in rw c.if-needs_letter-2.true at (rw take_all at c.loop-at.invariant)) s e)
