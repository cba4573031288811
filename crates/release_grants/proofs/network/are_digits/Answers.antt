use Rattle.std.proofs.Common.{ℕ, List, eqb, length, ap, ◌∙◌}
use Rattle.capspec.specs.Words.{is_digit}
use Rattle.release_grants.proofs.Numbers.{all_is}
use Rattle.release_grants.proofs.network.are_digits.Goals as goal

pub returns : goal.returns
returns c = c.is_empty.ensures ∙ ap (λ (t : List ℕ). eqb (length t) 0) c.rest_while.ensures ∙ all_is is_digit c.args.text.now
