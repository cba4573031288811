use Rattle.std.proofs.Common.{Contains, List, subst, sym}
use Rattle.capcore.proofs.Among.{all-included, first-included, more-included}
use Rattle.capcore.proofs.CommonPieces.{EntryRow, filter-contains, is_of_client}
use Rattle.capcore.proofs.client.include_entries.Goals as goal

pub rows-init : goal.rows-init
rows-init c = record { included = first-included c.args.inodes.now c.entries_of-walk.result }

pub rows-preserved : goal.rows-preserved
rows-preserved c = record {
  included = more-included c.rows.inodes c.insert.new.self c.entries_of-walk.result c.rows.walk c.next.new.self c.in-Some.row c.in-Some.ensures.some c.in_ok-insert.ensures.ok c.rows.invariant.included;
}

pub returns : goal.returns
returns c = λ row inside mine.
    all-included c.rows.inodes c.entries_of-walk.result c.rows.walk c.in_default.ensures.none.0 c.rows.invariant.included row
    (subst (λ (rows : List EntryRow). Contains rows row) (sym c.entries_of-walk.ensures.rows) (filter-contains (is_of_client c.args.client) c.args.table.now.entries.rows row inside mine))
