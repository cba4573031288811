use Rattle.lockmachine.proofs.Queue.{found_by_number, least_served, taken_alone}
use Rattle.lockmachine.proofs.laws.a_number_names_its_request.Goals as goal

pub returns-clause-found : goal.returns-clause-found
returns-clause-found c = found_by_number

pub returns-clause-taken : goal.returns-clause-taken
returns-clause-taken c = taken_alone

pub returns-clause-least : goal.returns-clause-least
returns-clause-least c = least_served
