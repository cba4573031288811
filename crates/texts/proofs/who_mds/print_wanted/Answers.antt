use Rattle.std.proofs.Common.{◌≡◌, ◌++◌, ap, subst, ◌∙◌}
use Rattle.std.specs.Prelude.{OnOk}
use Rattle.serde_json.specs.Data.{Data}
use Rattle.policy_analysis.specs.Callers.{Wanted}
use Rattle.policy_analysis.specs.MdsStanding.{MdsWanted}
use Rattle.texts.specs.MdsStandings.{wanted_of}
use Rattle.texts.specs.Pieces.{table_of}
use Rattle.texts.specs.Standings.{client_value}
use Rattle.texts.specs.Values.{ReadsBack, json_line}
use Rattle.texts.proofs.who_mds.print_wanted.Goals as goal

pub returns-clause-line : goal.returns-clause-line
returns-clause-line c =
    let client = c.args.client.now in
    let table = table_of c.args.table.now in
    subst (λ (d : Data). OnOk c.print_asked.result (c.print_asked.new.lines.items ≡ c.args.lines.now.items ++ json_line d))
    (ap (λ (asked : Wanted). client_value client asked c.wanted.inside.known.now table) c.wanted_of-asked.ensures ∙ ap (λ (v : MdsWanted). client_value client (wanted_of c.args.wanted.now) v.known table) c.wanted.view_is)
    c.print_asked.ensures.line

pub returns-clause-reads : goal.returns-clause-reads
returns-clause-reads c =
    let client = c.args.client.now in
    let table = table_of c.args.table.now in
    subst (λ (d : Data). OnOk c.print_asked.result (ReadsBack d))
    (ap (λ (asked : Wanted). client_value client asked c.wanted.inside.known.now table) c.wanted_of-asked.ensures ∙ ap (λ (v : MdsWanted). client_value client (wanted_of c.args.wanted.now) v.known table) c.wanted.view_is)
    c.print_asked.ensures.reads
