-- The request that was judged when it came.
use Rattle.std.proofs.Common.{◌≡◌, Option, None, Some, sym, ap, ◌∙◌}
use Rattle.std.specs.List.{find}
use Rattle.capcore.proofs.CommonPieces.{LockMap, Scene, Ticket, is_numbered}
use Rattle.capcore.specs.Judged.{IsJudged}

pub none-judged : (judged : Option Ticket) (s : Scene) → judged ≡ None → IsJudged judged s
none-judged judged s none = λ ticket q own there. let no : ◌≡◌ {A = Option Ticket} None (Some ticket) = sym none ∙ own in absurd (cc)

-- moves of locks leave it judged
pub still-judged : (judged : Option Ticket) (s : Scene) (locks : LockMap) → locks.queue ≡ s.locks.queue → IsJudged judged s → IsJudged judged (record s { locks = locks })
still-judged judged s locks same is = λ ticket q own there. is ticket q own (ap (find (is_numbered ticket.0)) (sym same) ∙ there)
