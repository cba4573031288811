use Rattle.texts.proofs.Quoted.{alone, before_a_space}
use Rattle.texts.proofs.laws.one_text_for_what_is_quoted.Goals as goal

pub returns-clause-alone : goal.returns-clause-alone
returns-clause-alone c = alone

pub returns-clause-before_a_space : goal.returns-clause-before_a_space
returns-clause-before_a_space c = before_a_space
