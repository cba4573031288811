use Rattle.std.proofs.Common.{sym, ap, ◌∙◌}
use Rattle.policy_analysis.specs.MdsStanding.{switches}
use Rattle.release_grants.specs.declared.switches.Switches.{Switches}
use Rattle.release_grants.specs.Reading.{read_of}
use Rattle.queries.proofs.ClientsBy.{judged_by, unread_by}
use Rattle.queries.proofs.clients_by.print_client_by.Goals as goal

pub returns-in_ok-print_judged-in-Ok : goal.returns-in_ok-print_judged-in-Ok
returns-in_ok-print_judged-in-Ok c =
    let text = c.in-Some.text.now in
    judged_by c.args.telling c.args.wanted.now c.args.client.now.name c.args.client.now.caps text _ _ c.in-Some.ensures _ c.in-Ok.grants _ c.name-name.ensures c.as_slice.ensures
    (sym c.in-Ok.is ∙ c.in_ok-grants.ensures ∙ ap (λ (s : Switches). read_of s text) (c.switches.ensures ∙ ap switches c.wanted.view_is)) c.in_ok-print_judged-in-Ok.ensures

pub returns-in_ok-print_not_read-in-Err : goal.returns-in_ok-print_not_read-in-Err
returns-in_ok-print_not_read-in-Err c =
    let text = c.in-Some.text.now in
    unread_by c.args.telling c.args.wanted.now c.args.client.now.name c.args.client.now.caps text _ _ c.in-Some.ensures _ c.in-Err.unread c.name-name.ensures
    (sym c.in-Err.is ∙ c.in_ok-grants.ensures ∙ ap (λ (s : Switches). read_of s text) (c.switches.ensures ∙ ap switches c.wanted.view_is)) c.in_ok-print_not_read-in-Err.ensures
