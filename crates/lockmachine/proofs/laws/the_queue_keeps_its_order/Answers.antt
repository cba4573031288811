use Rattle.lockmachine.proofs.Queue.{moved-stays, none_left, with_request-stays, without_requests_of-stays}
use Rattle.lockmachine.proofs.laws.the_queue_keeps_its_order.Goals as goal

pub returns-clause-moved : goal.returns-clause-moved
returns-clause-moved c = moved-stays

pub returns-clause-new : goal.returns-clause-new
returns-clause-new c = with_request-stays

pub returns-clause-dropped : goal.returns-clause-dropped
returns-clause-dropped c = without_requests_of-stays

pub returns-clause-none : goal.returns-clause-none
returns-clause-none c = none_left
