use Rattle.std.proofs.Common.{not, rules}
use Rattle.std.proofs.lemmas.Fn.{filter_same}
use Rattle.capstep.specs.DueEndings.{is_to}
use Rattle.capstep.proofs.due_endings.remove_to.Goals as goal

pub returns-clause-items : goal.returns-clause-items
returns-clause-items c = filter_same _ (λ m. not (is_to c.args.client m)) _ (λ x b f' k. search rules) _ _ c.retain.ensures.filtered
