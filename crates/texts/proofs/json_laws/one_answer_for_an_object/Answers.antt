use Rattle.texts.proofs.JsonClients.{one_standing}
use Rattle.texts.proofs.Distinct.{one_answer, one_change}
use Rattle.texts.proofs.JsonLinted.{each_has_one, one_finding}
use Rattle.texts.proofs.MdsJsonClients.{one_mds_standing}
use Rattle.texts.proofs.MdsDistinct.{one_mds_answer}
use Rattle.texts.proofs.json_laws.one_answer_for_an_object.Goals as goal

pub returns-clause-answer : goal.returns-clause-answer
returns-clause-answer c = one_answer

pub returns-clause-client : goal.returns-clause-client
returns-clause-client c = one_standing

pub returns-clause-change : goal.returns-clause-change
returns-clause-change c = one_change

pub returns-clause-finding : goal.returns-clause-finding
returns-clause-finding c = one_finding

pub returns-clause-findings : goal.returns-clause-findings
returns-clause-findings c = each_has_one

pub returns-clause-release : goal.returns-clause-release
returns-clause-release c = one_mds_answer

pub returns-clause-client_by : goal.returns-clause-client_by
returns-clause-client_by c = one_mds_standing
