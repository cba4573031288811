use Rattle.std.proofs.Common.{◌≡◌, ◌∙◌, Some, sym, ap, subst, ◌<◌, length, filter}
use Rattle.captable.specs.Calls.{is_of_client}
use Rattle.captable.specs.Kept.{KeptTable, with_no_client}
use Rattle.captable.specs.Walks.{first_holder}
use Rattle.captable.proofs.Absent.{fewer, first-of, without-nobody, without-one}
use Rattle.captable.proofs.Beside.{two}
use Rattle.captable.proofs.Kept.{kept-of-nobody, kept-without-one}
use Rattle.captable.proofs.table.CapTable.drop_client.Goals as goal

pub entries-smaller : goal.entries-smaller
entries-smaller c =
    let now = c.entries.self in
    let first : first_holder (filter (is_of_client c.args.client) now.entries.rows) ≡ Some c.in-Some.first = sym c.in-Some.ensures.first in
    subst (λ (t : KeptTable). length (filter (is_of_client c.args.client) t.entries.rows) < length (filter (is_of_client c.args.client) now.entries.rows)) (sym c.remove.ensures)
    (fewer now.entries c.args.client c.in-Some.first first)

pub entries-preserved : goal.entries-preserved
entries-preserved c =
    let now = c.entries.self in
    let client = c.args.client in
    let first : first_holder (filter (is_of_client client) now.entries.rows) ≡ Some c.in-Some.first = sym c.in-Some.ensures.first in
    let own = first-of client now.entries.rows c.in-Some.first first in
    ap (λ t. with_no_client t client) c.remove.ensures
    ∙ two (without-one now.entries client c.in-Some.first own) (kept-without-one now.kept client c.in-Some.first own) ∙ c.entries.invariant

pub returns : goal.returns
returns c =
    let now = c.entries.self in
    let none = sym c.in_default.ensures.first in
    two (sym (without-nobody now.entries c.args.client c.first_of.ensures.sound none)) (sym (kept-of-nobody now c.args.client c.first_of.ensures.beside none)) ∙ c.entries.invariant
