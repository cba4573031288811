use Rattle.tests_core.proofs.Faults.{bad_flags, bad_item, bad_number, bad_path, blank_text, empty_text, gids_without_uid, left_out_flag, left_out_item}
use Rattle.tests_core.proofs.Faults.{not_allow, open_quote, too_many, twice}
use Rattle.tests_core.proofs.worked_cases.grant_texts.first_faults.Goals as goal

pub returns-clause-empty : goal.returns-clause-empty
returns-clause-empty c = empty_text

pub returns-clause-blank : goal.returns-clause-blank
returns-clause-blank c = blank_text

pub returns-clause-not_allow : goal.returns-clause-not_allow
returns-clause-not_allow c = not_allow

pub returns-clause-bad_flags : goal.returns-clause-bad_flags
returns-clause-bad_flags c = bad_flags

pub returns-clause-left_out_flag : goal.returns-clause-left_out_flag
returns-clause-left_out_flag c = left_out_flag

pub returns-clause-left_out_item : goal.returns-clause-left_out_item
returns-clause-left_out_item c = left_out_item

pub returns-clause-bad_item : goal.returns-clause-bad_item
returns-clause-bad_item c = bad_item

pub returns-clause-twice : goal.returns-clause-twice
returns-clause-twice c = twice

pub returns-clause-open_quote : goal.returns-clause-open_quote
returns-clause-open_quote c = open_quote

pub returns-clause-bad_path : goal.returns-clause-bad_path
returns-clause-bad_path c = bad_path

pub returns-clause-bad_number : goal.returns-clause-bad_number
returns-clause-bad_number c = bad_number

pub returns-clause-gids_without_uid : goal.returns-clause-gids_without_uid
returns-clause-gids_without_uid c = gids_without_uid

pub returns-clause-too_many : goal.returns-clause-too_many
returns-clause-too_many c = too_many
