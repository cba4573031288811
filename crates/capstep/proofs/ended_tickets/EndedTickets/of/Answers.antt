use Rattle.std.proofs.Common.{rules, ◌≡◌, ◌==◌, ◌||◌, [], arith, get_or, sym, ap, subst, ◌∙◌}
use Rattle.std.proofs.lemmas.List.{take_all, with_items_is}
use Rattle.std.proofs.lemmas.List.Sorted.{IsNonDecreasingBy-from_sort, list_any-IsPermutation}
use Rattle.std.specs.List.{list_any}
use Rattle.capstep.proofs.EndNumbers.{told-more}
use Rattle.capstep.specs.DueEndings.{AreEndsOf, is_end_of}
use Rattle.capstep.proofs.ended_tickets.EndedTickets.of.Goals as goal

pub loop-message-init : goal.loop-message-init
loop-message-init c =
    let none : c.new-sorted.result.items ≡ [] = search rules in
    λ ticket. ap (list_any (λ number. number == ticket.0)) none

pub loop-message-preserved : goal.loop-message-preserved
loop-message-preserved c =
    let here : c.message-item.result ≡ get_or c.args.messages.now c.loop-message.message-index c.message-item.result = search rules in
    told-more c.args.messages.now c.loop-message.message-index c.message-item.result c.loop-message.sorted.items _ (omega arith) c.loop-message.invariant
    (λ ticket. c.in_ok-add_number.ensures ticket ∙ ap (λ message. list_any (λ number. number == ticket.0) c.loop-message.sorted.items || is_end_of ticket message) here)

pub returns : goal.returns
returns c = λ ticket.
    let unsorted : c.as_mut_slice.result.now ≡ c.loop-message.sorted.items = search rules in
    rw (with_items_is c.loop-message.sorted c.sort_unstable.new.self (search rules))
    (sym (list_any-IsPermutation (λ number. number == ticket.0) c.as_mut_slice.result.now c.sort_unstable.new.self c.sort_unstable.ensures.permutation)
    ∙ ap (list_any (λ number. number == ticket.0)) unsorted
    ∙ subst (λ messages. AreEndsOf messages c.loop-message.sorted.items) (take_all c.loop-message.message-index c.args.messages.now (omega arith)) c.loop-message.invariant ticket)

pub invariant_of-result : goal.invariant_of-result
invariant_of-result c =
    rw (with_items_is c.loop-message.sorted c.sort_unstable.new.self (search rules))
    (IsNonDecreasingBy-from_sort (λ number. number) c.sort_unstable.new.self c.sort_unstable.ensures.sorted)
