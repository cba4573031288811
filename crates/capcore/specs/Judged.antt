-- A request that was judged when it came.
use Rattle.std.specs.Prelude.{◌≡◌, Option, None, Some}
use Rattle.capbits.specs.declared.ids.Ticket.{Ticket}
use Rattle.capstep.specs.Serving.{judged_again}
use Rattle.lockmachine.specs.Locks.{request_at}
use Rattle.lockmachine.specs.Scene.{Scene}
use Rattle.lockmachine.specs.declared.request.Request.{Request}

-- nothing would reject the request with this number, were it served now
abbrev pub IsJudged : Option Ticket → Scene → Type 0
IsJudged judged s = (ticket : Ticket) (q : Request) → judged ≡ Some ticket → request_at s.locks ticket.0 ≡ Some q → judged_again s q ≡ None
