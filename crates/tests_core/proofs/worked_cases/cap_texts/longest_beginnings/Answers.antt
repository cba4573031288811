use Rattle.tests_core.proofs.CapTexts.{another_order, capital_alone, nothing}
use Rattle.tests_core.proofs.worked_cases.cap_texts.longest_beginnings.Goals as goal

pub returns-clause-another_order : goal.returns-clause-another_order
returns-clause-another_order c = another_order

pub returns-clause-capital_alone : goal.returns-clause-capital_alone
returns-clause-capital_alone c = capital_alone

pub returns-clause-nothing : goal.returns-clause-nothing
returns-clause-nothing c = nothing
