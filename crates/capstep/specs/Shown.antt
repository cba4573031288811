-- What clients were last shown of what they hold: by the rows of a history alone, and how the numbers of entries speak of it.
use Rattle.std.specs.List.{fold}
use Rattle.std.specs.Prelude.{◌≡◌, Bool, false, ◌&&◌, ◌||◌, ◌==◌, nat_lt, IsTrue, IsFalse, List, Some, if◌then◌else◌}
use Rattle.capbits.specs.Caps.{Caps, has}
use Rattle.capbits.specs.Sets.{minus, no_caps}
use Rattle.capbits.specs.declared.cap.Cap.{Cap}
use Rattle.capbits.specs.declared.cap.Cap.TheVariants.{P}
use Rattle.capbits.specs.declared.ids.Ino.{Ino}
use Rattle.captable.specs.Shown.{IsShown}
use Rattle.captable.specs.Table.{entry_at, holder, same}
use Rattle.captable.specs.declared.entry.Entry.{Entry}
use Rattle.captable.specs.declared.entry.Holder.{Holder}
use Rattle.capstep.specs.declared.event.Event.{Event}
use Rattle.capstep.specs.declared.outcome.Message.{Message}
use Rattle.capstep.specs.declared.reply.Reply.{Reply}
use Rattle.capstep.specs.declared.row.Row.{Row}
use Rattle.lockmachine.specs.Policy.{permitted}
use Rattle.lockmachine.specs.Scene.{Scene, pending_of}
use Rattle.capstep.specs.Headline.{holds}

-- ---- by rows alone

-- what a message shows of the inode: where it shows nothing of it, what was shown before counts on
abbrev pub shown_in : Ino → Caps → Message → Caps
shown_in ino was (Message.Caps i seq caps) = if i.0 == ino.0 then caps else was
shown_in ino was m = was

-- an opening and a want show what they answer
abbrev pub shown_opened : Caps → Reply → Caps
shown_opened was (Reply.Opened seq caps) = caps
shown_opened was reply = was

-- what is released is shown no more
abbrev pub shown_less : Caps → Caps → Reply → Caps
shown_less caps was Reply.Done = minus was caps
shown_less caps was reply = was

-- a poll shows what its messages say
abbrev pub shown_given : Ino → Caps → Reply → Caps
shown_given ino was (Reply.Messages messages) = fold (shown_in ino) was messages
shown_given ino was reply = was

-- what the holder was last shown, after an event with this answer. An event of another holder shows it nothing
abbrev pub shown_by : Holder → Caps → Event → Reply → Caps
shown_by k was (Event.Open client ino mode) reply = if same k (holder client ino) then shown_opened was reply else was
shown_by k was (Event.Want client ino caps) reply = if same k (holder client ino) then shown_opened was reply else was
shown_by k was (Event.Release client ino caps) reply = if same k (holder client ino) then shown_less caps was reply else was
shown_by k was (Event.Poll client max) reply = if k.client.0 == client.0 then shown_given k.ino was reply else was
shown_by k was e reply = was

-- and after a history. Each entry begins with an opening, whose answer shows the first set; so this is what was shown since then
abbrev pub shown_of : Holder → List Row → Caps
shown_of k rows = fold (λ was row. shown_by k was row.event row.reply) no_caps rows

-- ---- what numbers say of it

-- of each entry they say what they should
abbrev pub AreShown : List Row → Scene → Type 0
AreShown rows s = (k : Holder) (e : Entry) → entry_at s.table k ≡ Some e → IsShown (shown_of k rows) (pending_of s (record { holder = k; entry = e })) e

-- ---- in the words of users

-- where no message is due that says what the client is to know, it was shown just that
abbrev pub ShowsWhatIsPending : List Row → Scene → Type 0
ShowsWhatIsPending rows s =
    (k : Holder) (e : Entry) → entry_at s.table k ≡ Some e → IsFalse (nat_lt e.told_seq e.seq) →
    shown_of k rows ≡ pending_of s (record { holder = k; entry = e })

-- and what it was shown is permitted, by the grants of now and where the inode stands now: so what is held and is not permitted
-- was not shown, or a message that says so is due
abbrev pub ShowsOnlyPermitted : List Row → Scene → Type 0
ShowsOnlyPermitted rows s =
    (k : Holder) (e : Entry) (cap : Cap) → entry_at s.table k ≡ Some e → IsFalse (nat_lt e.told_seq e.seq) →
    IsTrue (has (shown_of k rows) cap) → IsTrue (has (permitted s.fs s.tree s.sessions k) cap)

-- what an acknowledgement takes by itself, was not shown
abbrev pub TakesUnshown : List Row → Scene → Event → Scene → Type 0
TakesUnshown rows old (Event.Ack client ino seq) by_itself =
    (cap : Cap) → IsTrue (holds old (holder client ino) cap) → IsFalse (holds by_itself (holder client ino) cap) →
    IsFalse (has (shown_of (holder client ino) rows) cap)
TakesUnshown rows old e by_itself = Unit {0}

-- the event may take it: an acknowledgement or a release of the holder, or the end of its client's session
abbrev pub may_take : Event → Holder → Cap → Bool
may_take (Event.Ack client ino seq) k cap = same k (holder client ino)
may_take (Event.Release client ino caps) k cap = same k (holder client ino) && (has caps P || has caps cap)
may_take (Event.CloseSession client) k cap = k.client.0 == client.0
may_take (Event.Evict client) k cap = k.client.0 == client.0
may_take e k cap = false

-- what was held and is held no more, the event may take
abbrev pub TakesOnlySo : Scene → Event → Scene → Type 0
TakesOnlySo old e new = (k : Holder) (cap : Cap) → IsTrue (holds old k cap) → IsFalse (holds new k cap) → IsTrue (may_take e k cap)
