-- The texts of replies.
use Rattle.std.specs.Prelude.{ℕ, List, [], ◌∷◌, ◌++◌, length, codes}
use Rattle.std.specs.Fmt.{decimal}
use Rattle.std.specs.List.{enumerate_from, flat_map, join_by}
use Rattle.std.specs.Option.{option_map_or}
use Rattle.capbits.specs.Text.{text_of}
use Rattle.capgrant.specs.declared.access.Access.{Access}
use Rattle.capgrant.specs.declared.rule.Rule.{Rule}
use Rattle.capgrant.specs.Access.{access_word}
use Rattle.capgrant.specs.Rule.{rule_number}
use Rattle.capbits.specs.Refusal.{refusal_word}
use Rattle.captable.specs.declared.entry.Holder.{Holder}
use Rattle.capstep.specs.declared.outcome.Message.{Message}
use Rattle.capstep.specs.declared.outcome.Message.TheVariants as messages
use Rattle.capstep.specs.declared.outcome.Outcome.{Outcome}
use Rattle.capstep.specs.declared.reply.Reply.{Reply}
use Rattle.capstep.specs.declared.reply.Reply.TheVariants.{Denied, Done, Ino, Messages, Opened, OutOfMemory, Recalled, Refused, Values, Waiting}
use Rattle.capstep.specs.Replies.{outcome_reply}
use Rattle.capexplain.specs.ValueTexts.{values_text}

-- the number of a grant, and that of the rule by which it fails
abbrev pub rule_text : ℕ × Rule → List ℕ
rule_text numbered = decimal numbered.0 ++ codes ":" ++ decimal (rule_number numbered.1)

-- the grants by number, from 1, with the rule by which each fails; a dash for a client without grants
abbrev pub rules_text : List Rule → List ℕ
rules_text [] = codes "-"
rules_text (rule ∷ rules) = join_by rule_text (codes ",") (enumerate_from 1 (rule ∷ rules))

-- the access that no grant allows, and the rules by which the grants fail
abbrev pub denial_text : Access → List Rule → List ℕ
denial_text access rules = codes "denied " ++ access_word access ++ codes " " ++ rules_text rules

-- a client, and the inode that it has an entry on
abbrev pub holder_text : Holder → List ℕ
holder_text k = codes " " ++ decimal k.client.0 ++ codes ":" ++ decimal k.ino.0

-- each in its order, or a dash for nobody
abbrev pub holders_text : List Holder → List ℕ
holders_text [] = codes " -"
holders_text (k ∷ holders) = flat_map holder_text (k ∷ holders)

-- the first line of a reply, without the line feed that ends it
abbrev pub reply_line : Reply → List ℕ
reply_line Done = codes "done"
reply_line (Ino ino) = codes "ino " ++ decimal ino.0
reply_line (Opened seq caps) = codes "caps " ++ decimal seq ++ codes " " ++ text_of caps
reply_line (Values values) = codes "attr " ++ values_text values
reply_line (Messages given) = codes "messages " ++ decimal (length given)
reply_line (Recalled holders) = codes "recalled" ++ holders_text holders
reply_line (Waiting ticket) = codes "waiting " ++ decimal ticket.0
reply_line (Denied access rules) = denial_text access rules
reply_line (Refused refusal) = codes "refused " ++ refusal_word refusal
reply_line OutOfMemory = codes "out-of-memory"

-- how a request ended that waited: the line of the reply that it would have got, or that its session ended before
abbrev pub outcome_text : Outcome → List ℕ
outcome_text outcome = option_map_or reply_line (outcome_reply outcome) (codes "dropped")

abbrev pub message_text : Message → List ℕ
message_text (messages.Ended ticket outcome) = codes "ended " ++ decimal ticket.0 ++ codes " " ++ outcome_text outcome
message_text (messages.Caps ino seq caps) = codes "caps " ++ decimal ino.0 ++ codes " " ++ decimal seq ++ codes " " ++ text_of caps
message_text (messages.Size ino size) = codes "size " ++ decimal ino.0 ++ codes " " ++ decimal size
message_text (messages.Recall ino) = codes "recall " ++ decimal ino.0

-- a message on a line of its own, behind two spaces
abbrev pub message_line : Message → List ℕ
message_line message = codes "  " ++ message_text message ++ codes "\n"

-- the lines behind the first, each with its line feed: only messages have some
abbrev pub further_lines : Reply → List ℕ
further_lines (Messages given) = flat_map message_line given
further_lines reply = []

-- the text of a reply
abbrev pub reply_text : Reply → List ℕ
reply_text reply = reply_line reply ++ codes "\n" ++ further_lines reply
