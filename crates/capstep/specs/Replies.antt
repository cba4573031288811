-- What a reply is made of.
use Rattle.std.specs.Prelude.{Bool, None, Option, Some, false, true}
use Rattle.capstep.specs.declared.outcome.Outcome.{Outcome}
use Rattle.capstep.specs.declared.reply.Reply.{Reply}

-- how a request ended, as its answer; where its session has ended, there is none
abbrev pub outcome_reply : Outcome → Option Reply
outcome_reply Outcome.Done = Some Reply.Done
outcome_reply (Outcome.Values values) = Some (Reply.Values values)
outcome_reply (Outcome.Denied access rules) = Some (Reply.Denied access rules)
outcome_reply (Outcome.Refused refusal) = Some (Reply.Refused refusal)
outcome_reply Outcome.OutOfMemory = Some Reply.OutOfMemory
outcome_reply Outcome.Dropped = None

-- the reply has a list, of which a copy takes memory
abbrev pub has_list : Reply → Bool
has_list (Reply.Values values) = true
has_list (Reply.Messages messages) = true
has_list (Reply.Recalled holders) = true
has_list reply = false
