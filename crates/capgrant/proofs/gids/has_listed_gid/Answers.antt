use Rattle.std.proofs.Common.{◌≡◌, ℕ, false, ◌||◌, List, sym, ap, ◌∙◌}
use Rattle.std.specs.List.{list_any}
use Rattle.capgrant.specs.Question.{contains}
use Rattle.capgrant.proofs.Together.{commute}
use Rattle.capgrant.proofs.gids.has_listed_gid.Goals as goal

pub returns-else-contains : goal.returns-else-contains
returns-else-contains c =
    let gids : List ℕ = c.args.grant.now.gids in
    let further : List ℕ = c.further_gids.result in
    let listed-is = c.as_slice-listed.ensures in
    let out : contains gids c.args.caller.now.gid ≡ false = ap (λ (l : List ℕ). contains l c.args.caller.now.gid) (sym listed-is) ∙ sym c.contains.ensures.value ∙ c.if-contains.false in
    c.lists_one_of.ensures ∙ ap (list_any (contains further)) listed-is ∙ commute further gids ∙ ap (λ b. b || list_any (contains gids) further) (sym out)
    ∙ c.further_gids.ensures (contains gids)
