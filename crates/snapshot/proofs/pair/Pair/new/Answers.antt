use Rattle.std.proofs.Common.{◌≡◌, ◌∙◌, [], ◌∷◌, sym}
use Rattle.snapshot.proofs.Publishing.{noted_of, opens_with, view_first}
use Rattle.snapshot.proofs.Seeing.{opens}
use Rattle.snapshot.proofs.pair.Pair.new.Goals as goal

pub new-requires-2-clause-rule : goal.new-requires-2-clause-rule
new-requires-2-clause-rule c =
    let first = c.in_ok-first.first in
    let made = c.in_ok-first.ensures in
    let o = c.requires.opens.0 in
    let is = noted_of o first.origin c.args.fs.now c.args.tree.now made.fs made.tree c.requires.opens.1 in
    let none : first.rows.seen.log ≡ [] = (λ i. (made.rows i).log) ∙ ((λ i. (c.seen.ensures i).log) ∙ c.in_ok-rows.rows.empty) in
    let view = view_first o first.origin.rows.book first is (made.tree ∙ (λ i. (sym made.view i).tree ∷ [])) ((λ i. (made.view i).sessions) ∙ c.requires.sessions) in
    opens o first (opens_with o first is (λ i. ((made.rows ∙ sym made.book) i).book) none view)

-- what it shows says of which server it is
pub returns : goal.returns
returns c opening opens =
    let made = c.in_ok-first.ensures in
    let shown = c.in_ok-writer.ensures.0 in
    noted_of opening c.in_ok-writer.writer.desk.shown.value.origin c.args.fs.now c.args.tree.now ((λ i. (shown i).origin.fs.log) ∙ made.fs) ((λ i. (shown i).origin.tree.log) ∙ made.tree) opens
