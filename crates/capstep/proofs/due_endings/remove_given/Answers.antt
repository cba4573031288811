use Rattle.std.proofs.Common.{rules, arith, ap, not, ◌&&◌, length}
use Rattle.std.proofs.lemmas.Fn.{filter_same}
use Rattle.capstep.proofs.EndNumbers.{all_left}
use Rattle.capstep.specs.DueEndings.{is_left, is_to}
use Rattle.capstep.proofs.due_endings.remove_given.Goals as goal

pub returns-clause-items : goal.returns-clause-items
returns-clause-items c =
    λ given ends. filter_same _ (is_left c.args.client given) _
    (λ x b f' k. let found = ap (λ told. not (is_to c.args.client x && told)) (ends x.ticket) in search rules) _ _ c.retain.ensures.filtered

pub returns-in-empty-clause-items : goal.returns-in-empty-clause-items
returns-in-empty-clause-items c =
    λ given ends. all_left c.args.client given c.args.tickets.now c.args.due.now.items (omega (arith, c.in-empty.len_below, ap length c.as_slice.ensures)) ends
