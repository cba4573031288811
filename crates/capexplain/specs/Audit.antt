-- The texts of the rows of a history.
use Rattle.std.specs.Prelude.{ℕ, List, ◌++◌, codes}
use Rattle.std.specs.Fmt.{decimal}
use Rattle.std.specs.List.{flat_map}
use Rattle.capstep.specs.declared.row.Row.{Row}
use Rattle.capstep.specs.declared.outcome.Ended.{Ended}
use Rattle.capexplain.specs.EventTexts.{event_text}
use Rattle.capexplain.specs.Replies.{outcome_text, reply_line}

-- a request that the step ended: its number, and how it ended
abbrev pub ended_text : Ended → List ℕ
ended_text m = codes "; ended " ++ decimal m.ticket.0 ++ codes " " ++ outcome_text m.outcome

-- the pass and the number there, the event, the first line of what was answered, and each request of earlier rows that ended
abbrev pub audit_text : Row → List ℕ
audit_text row =
    decimal row.pass.0 ++ codes "." ++ decimal row.nth ++ codes " " ++ event_text row.event ++ codes " => " ++ reply_line row.reply
    ++ flat_map ended_text row.ended
