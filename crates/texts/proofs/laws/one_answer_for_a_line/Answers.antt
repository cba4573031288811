use Rattle.texts.proofs.Answered.{one_answer}
use Rattle.texts.proofs.Beside.{one_beside}
use Rattle.texts.proofs.Compared.{one_comparison}
use Rattle.texts.proofs.Clients.{no_fault, one_fault, one_standing}
use Rattle.texts.proofs.Linted.{one_finding}
use Rattle.texts.proofs.MdsAnswered.{one_mds_text}
use Rattle.texts.proofs.MdsClients.{one_mds_client}
use Rattle.texts.proofs.MdsCompared.{one_mds_comparison}
use Rattle.texts.proofs.laws.one_answer_for_a_line.Goals as goal

pub returns-clause-answer : goal.returns-clause-answer
returns-clause-answer c = one_answer

pub returns-clause-client : goal.returns-clause-client
returns-clause-client c = one_standing

pub returns-clause-unread : goal.returns-clause-unread
returns-clause-unread c = one_fault

pub returns-clause-either : goal.returns-clause-either
returns-clause-either c = no_fault

pub returns-clause-comparison : goal.returns-clause-comparison
returns-clause-comparison c = one_comparison

pub returns-clause-comparison_by : goal.returns-clause-comparison_by
returns-clause-comparison_by c = one_mds_comparison

pub returns-clause-finding : goal.returns-clause-finding
returns-clause-finding c = one_finding

pub returns-clause-beside : goal.returns-clause-beside
returns-clause-beside c = one_beside

pub returns-clause-release : goal.returns-clause-release
returns-clause-release c = one_mds_text

pub returns-clause-client_by : goal.returns-clause-client_by
returns-clause-client_by c = one_mds_client
