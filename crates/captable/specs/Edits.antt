-- A change of an entry, and of what is kept beside it.
use Rattle.std.specs.Prelude.{Bool, false, true}
use Rattle.captable.specs.declared.entry.Edit.{Edit}
use Rattle.captable.specs.declared.entry.Edit.TheVariants.{Ack, Ask, Issue, IssueNumbered, OweSize, Release, Renumber, Tell, Want}
use Rattle.captable.specs.declared.entry.Entry.{Entry}
use Rattle.captable.specs.declared.entry.Keeping.{Keeping}
use Rattle.captable.specs.declared.entry.Keeping.TheVariants.{Both, Pending, Permitted}
use Rattle.captable.specs.declared.entry.ClientView.{ClientView}
use Rattle.captable.specs.Kept.{permitting, telling}
use Rattle.captable.specs.Calls.{issued, renumbered, wanting, with_asked, with_size_due, with_told, without_acked, without_released}

-- what becomes of the entry
abbrev pub edited : Edit → Entry → Entry
edited (Want caps) = wanting caps
edited (Issue caps) = issued caps
edited (Ack caps) = without_acked caps
edited (Release caps) = without_released caps
edited (Renumber before after) = renumbered before after
edited (IssueNumbered caps before after) = λ entry. renumbered before after (issued caps entry)
edited Tell = with_told
edited (Ask asked) = with_asked asked
edited (OweSize due) = with_size_due due

-- whether its number may rise
abbrev pub is_numbering : Edit → Bool
is_numbering (Renumber before after) = true
is_numbering (IssueNumbered caps before after) = true
is_numbering _ = false

-- what becomes of the sets beside it
abbrev pub kept_as : Keeping → ClientView → ClientView
kept_as (Both sets) = λ _. sets
kept_as (Pending caps) = telling caps
kept_as (Permitted caps) = permitting caps
