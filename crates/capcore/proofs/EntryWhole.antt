-- What the calls of the step of an event about one entry come to.
use Rattle.std.proofs.Common.{◌≡◌, false, [], List, refl, arith}
use Rattle.captable.specs.Calls.{changed}
use Rattle.capcore.proofs.EntryStays.{alike-changed}
use Rattle.lockmachine.proofs.CountsStay.{counted-held, held-change}
use Rattle.capcore.proofs.Common.{Ack, AreCounted, ClientId, CountedLocks, Ended, EntryRequest, HoldAlike, Holder, Ino, Release, State, effect, entry_reply}
use Rattle.capcore.proofs.Common.{entry_event, has_list, holder, reply_of, shown, with_told}

pub effect-reply : (old : State) (client : ClientId) (ino : Ino) (request : EntryRequest) → (effect old (entry_event client ino request)).reply_due ≡ entry_reply (holder client ino) request
effect-reply old client ino request = grind arith

-- no request's end is answered
pub request-reply : (s : State) (ended : List Ended) (k : Holder) (request : EntryRequest) → reply_of s [] (entry_reply k request) ≡ reply_of s ended (entry_reply k request)
request-reply s ended k request = grind arith

pub no_list-request : (s : State) (k : Holder) (request : EntryRequest) → has_list (reply_of s [] (entry_reply k request)) ≡ false
no_list-request s k request = grind arith

-- what is told is held as before
pub show_reply-alike : (s : State) (k : Holder) (request : EntryRequest) → HoldAlike s.scene.table (shown (entry_reply k request) s).scene.table
show_reply-alike s k (Ack seq) = λ j e there. (e, there, refl)
show_reply-alike s k (Release caps) = λ j e there. (e, there, refl)
show_reply-alike s k request = alike-changed s.scene.table k with_told (λ e. refl)

pub request-counted : (s : State) (k : Holder) (request : EntryRequest) (l : CountedLocks) → AreCounted s.scene.table l → AreCounted (shown (entry_reply k request) s).scene.table l
request-counted s k (Ack seq) l are = are
request-counted s k (Release caps) l are = are
request-counted s k request l are = counted-held s.scene.table (changed s.scene.table k with_told) (held-change k with_told (λ e. refl) s.scene.table.rows) l are
