use Rattle.std.proofs.Common.{◌≡◌, ◌≤◌, length, get_or, Ok, arith, subst, ap, sym, ◌∙◌}
use Rattle.capbits.specs.Text.{text_of}
use Rattle.cap_text.specs.Beginnings.{IsLongestBeginning}
use Rattle.capbits.proofs.Following.{text_of-injective, text_some}
use Rattle.cap_text.proofs.Reading.{empty_text, fault_inside, more_behind_dash, no_bytes, one_byte, text_of-empty}
use Rattle.cap_text.proofs.reader.read_caps.Goals as goal

pub returns-in-empty-clause-err : goal.returns-in-empty-clause-err
returns-in-empty-clause-err c = subst (λ text. IsLongestBeginning text 0) (sym (no_bytes c.args.text.now c.in-empty.len_below)) empty_text

pub returns-in-empty-clause-each_text : goal.returns-in-empty-clause-each_text
returns-in-empty-clause-each_text c s e = absurd (text_some s (sym e ∙ no_bytes c.args.text.now c.in-empty.len_below))

pub returns-in-45-clause-ok : goal.returns-in-45-clause-ok
returns-in-45-clause-ok c =
    let dash : get_or c.args.text.now 0 0 ≡ 45 = omega arith in
    one_byte c.args.text.now 45 c.in-45.len_at_least c.in-45.len_below dash ∙ sym text_of-empty ∙ ap text_of (sym c.empty.ensures)

pub returns-in-45-clause-each_text : goal.returns-in-45-clause-each_text
returns-in-45-clause-each_text c s e = ap Ok (text_of-injective c.empty.result s (sym (returns-in-45-clause-ok c) ∙ e))

pub returns-in-45-2-clause-err : goal.returns-in-45-2-clause-err
returns-in-45-2-clause-err c =
    let dash : get_or c.args.text.now 0 0 ≡ 45 = omega arith in
    let more : 2 ≤ length c.args.text.now = omega arith in
    more_behind_dash c.args.text.now more dash

pub returns-in-45-2-clause-each_text : goal.returns-in-45-2-clause-each_text
returns-in-45-2-clause-each_text c s e =
    let more : 2 ≤ length c.args.text.now = omega arith in
    absurd (fault_inside c.args.text.now 1 more (returns-in-45-2-clause-err c) s e)
