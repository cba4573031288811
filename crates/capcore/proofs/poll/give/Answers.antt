use Rattle.std.proofs.Common.{◌≡◌, ◌+◌, ◌++◌, [], ◌∷◌, take, ap, sym, subst, ◌∙◌}
use Rattle.std.proofs.lemmas.List.{take_all, take_more}
use Rattle.capcore.proofs.CommonPieces.{IsTable, KeptTable, Table, after_messages, changed_where, is_of_client}
use Rattle.capcore.proofs.ManyInodes.{table-where}
use Rattle.capcore.proofs.Polling.{given-more, given-none}
use Rattle.capcore.proofs.poll.give.Goals as goal

pub loop-message-init : goal.loop-message-init
loop-message-init c = ap (λ (t : Table). record c.args.table.now { entries = t }) (given-none c.args.client c.args.table.now.entries)

pub give_one-requires : goal.give_one-requires
give_one-requires c =
    subst (λ (t : KeptTable). IsTable t.entries) (sym c.loop-message.invariant)
    (table-where (is_of_client c.args.client) (after_messages (take c.loop-message.message-index c.args.given.now)) c.args.table.now.entries c.requires)

pub loop-message-preserved : goal.loop-message-preserved
loop-message-preserved c =
    let client = c.args.client in
    let m = c.message-item.result in
    let done = take c.loop-message.message-index c.args.given.now in
    let more : take (c.loop-message.message-index + 1) c.args.given.now ≡ done ++ m ∷ [] =
    take_more c.args.given.now c.loop-message.message-index m c.loop-message-test.true ∙ ap (λ x. done ++ x ∷ []) (sym c.message-item.is) in
    c.give_one.ensures
    ∙ ap (λ (t : KeptTable). record t { entries = changed_where (is_of_client client) (after_messages (m ∷ [])) t.entries }) c.loop-message.invariant
    ∙ ap (λ (t : Table). record c.args.table.now { entries = t }) (given-more client done (m ∷ []) c.args.table.now.entries)
    ∙ ap (λ given. record c.args.table.now { entries = changed_where (is_of_client client) (after_messages given) c.args.table.now.entries }) (sym more)

pub returns : goal.returns
returns c =
    c.loop-message.invariant
    ∙ ap (λ given. record c.args.table.now { entries = changed_where (is_of_client c.args.client) (after_messages given) c.args.table.now.entries }) (take_all c.loop-message.message-index c.args.given.now c.loop-message-test.false)
