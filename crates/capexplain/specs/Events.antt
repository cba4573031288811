-- What a line says.
use Rattle.std.specs.Prelude.{◌≡◌, ℕ, ◌^◌, Result, Ok, Err, List, [], ◌∷◌, length, codes, bytes_eq, nat_le, if◌then◌else◌}
use Rattle.std.specs.Option.{ok_or}
use Rattle.capbits.specs.declared.caller.Caller.{Caller}
use Rattle.capbits.specs.declared.ids.ClientId.{ClientId}
use Rattle.capbits.specs.declared.ids.Ino.{Ino}
use Rattle.capbits.specs.Caps.{Caps}
use Rattle.capspec.specs.declared.grant.Grant.{Grant}
use Rattle.capspec.specs.Grants.{Reads as MeansGrants}
use Rattle.inotree.specs.declared.node.Setting.TheVariants.{Gid, Mode, Size, Time, Uid}
use Rattle.lockmachine.specs.declared.request.Change.{Change}
use Rattle.lockmachine.specs.declared.request.Change.TheVariants.{RemoveXattr, Set, SetXattr}
use Rattle.capstep.specs.declared.event.Event.{Event}
use Rattle.capstep.specs.declared.event.Event.TheVariants as events
use Rattle.capstep.specs.declared.change_word.ChangeWord.{ChangeWord}
use Rattle.capstep.specs.declared.change_word.ChangeWord.TheVariants as words
use Rattle.capstep.specs.Words.{client_event, command_by}
use Rattle.capstep.specs.declared.command.Command.{Command}
use Rattle.capstep.specs.declared.command.Command.TheVariants as commands
use Rattle.texts.specs.declared.fault.LineFault.{LineFault}
use Rattle.texts.specs.declared.fault.LineFault.TheVariants as faults
use Rattle.capexplain.specs.Changes.{change_kind, is_counted}
use Rattle.texts.specs.ScriptLines.{is_skipped, longest_line}
use Rattle.capexplain.specs.Values.{Spells, bytes_in, client_in, groups_in, ino_in, mode_in, number_below, number_in, only_client, open_mode_in, part_in}
use Rattle.capexplain.specs.Values.{seq_in}
use Rattle.capexplain.specs.Words.{parts, spaced}

-- What a line says: nothing, as it is skipped; an event; an event with the grants that a text means, whatever these are; an event with
-- the set of caps that a word spells; or nothing that can be read, by its fault.
pub data Line : Type 0 where
  Nothing : Line
  Says : Event → Line
  Grants : (List Grant → Event) → List ℕ → Line
  Names : (Caps → Event) → List ℕ → Line
  Faulty : LineFault → Line

-- a word that can't be read is the fault of its line
infixl 10 ◌>>=◌
abbrev pub ◌>>=◌ : {A : Type 0} → Result A LineFault → (A → Line) → Line
Ok read >>= next = next read
Err fault >>= next = Faulty fault

-- a client, an inode and a name; any word is a name, good or bad
abbrev pub named_by : (ClientId → Ino → List ℕ → Event) → List (List ℕ) → Line
named_by event (client_word ∷ ino_word ∷ name ∷ []) = do
  client ← client_in client_word
  ino ← ino_in ino_word
  Says (event client ino name)
named_by event arguments = Faulty faults.Count

-- a client, a directory, a name in it and a mode
abbrev pub new_inode_by : (ClientId → Ino → List ℕ → ℕ → Event) → List (List ℕ) → Line
new_inode_by event (client_word ∷ dir_word ∷ name ∷ mode_word ∷ []) = do
  client ← client_in client_word
  dir ← ino_in dir_word
  mode ← mode_in mode_word
  Says (event client dir name mode)
new_inode_by event arguments = Faulty faults.Count

-- exactly `none` for no grants, or a grant text
abbrev pub granting : (List Grant → Event) → List ℕ → Line
granting event text = if bytes_eq text (codes "none") then Says (event []) else Grants event text

-- a client, its user, group and further groups, and its grants
abbrev pub session_by : List (List ℕ) → Line
session_by (client_word ∷ uid_word ∷ gid_word ∷ groups_word ∷ text ∷ []) = do
  client ← client_in client_word
  uid ← number_in uid_word
  gid ← number_in gid_word
  groups ← groups_in groups_word
  granting (events.Session client (record { uid = uid; gid = gid; groups = groups })) text
session_by arguments = Faulty faults.Count

-- a client, and its new grants: all that is left of the line
abbrev pub regrant_by : List (List ℕ) → Line
regrant_by (client_word ∷ first ∷ more) = do
  client ← client_in client_word
  granting (events.Regrant client) (spaced (first ∷ more))
regrant_by arguments = Faulty faults.Count

-- a client
abbrev pub client_by : (ClientId → Event) → List (List ℕ) → Line
client_by event arguments = do
  client ← only_client arguments
  Says (event client)

-- how many entries are asked for, at most
abbrev pub recall_by : List (List ℕ) → Line
recall_by (count_word ∷ []) = do
  count ← number_in count_word
  Says (events.Recall count)
recall_by arguments = Faulty faults.Count

-- a client, an inode and what it is opened for
abbrev pub open_by : List (List ℕ) → Line
open_by (client_word ∷ ino_word ∷ mode_word ∷ []) = do
  client ← client_in client_word
  ino ← ino_in ino_word
  mode ← open_mode_in mode_word
  Says (events.Open client ino mode)
open_by arguments = Faulty faults.Count

-- a client, an inode and a set of caps
abbrev pub caps_by : (ClientId → Ino → Caps → Event) → List (List ℕ) → Line
caps_by event (client_word ∷ ino_word ∷ caps_word ∷ []) = do
  client ← client_in client_word
  ino ← ino_in ino_word
  Names (event client ino) caps_word
caps_by event arguments = Faulty faults.Count

-- a client, an inode and the number of a change
abbrev pub ack_by : List (List ℕ) → Line
ack_by (client_word ∷ ino_word ∷ seq_word ∷ []) = do
  client ← client_in client_word
  ino ← ino_in ino_word
  seq ← seq_in seq_word
  Says (events.Ack client ino seq)
ack_by arguments = Faulty faults.Count

-- a client, an inode and a part of what it keeps
abbrev pub get_by : List (List ℕ) → Line
get_by (client_word ∷ ino_word ∷ part_word ∷ []) = do
  client ← client_in client_word
  ino ← ino_in ino_word
  part ← part_in part_word
  Says (events.Get client ino part)
get_by arguments = Faulty faults.Count

-- a client and an inode
abbrev pub inode_by : (ClientId → Ino → Event) → List (List ℕ) → Line
inode_by event (client_word ∷ ino_word ∷ []) = do
  client ← client_in client_word
  ino ← ino_in ino_word
  Says (event client ino)
inode_by event arguments = Faulty faults.Count

-- a client, an inode, the directory that it is to stand in, and its name there; any word is a name, good or bad
abbrev pub rename_by : List (List ℕ) → Line
rename_by (client_word ∷ ino_word ∷ dir_word ∷ name ∷ []) = do
  client ← client_in client_word
  ino ← ino_in ino_word
  dir ← ino_in dir_word
  Says (events.Rename client ino dir name)
rename_by arguments = Faulty faults.Count

-- what is said of the bytes that a word writes
abbrev pub says_bytes : (List ℕ → Event) → List ℕ → Line
says_bytes event word = do
  bytes ← bytes_in word
  Says (event bytes)

-- what is said of a change of this kind, by the words behind the first
abbrev pub says_kind : (Change → Event) → ChangeWord → List (List ℕ) → Line
says_kind event words.Mode (word ∷ []) = do
  mode ← mode_in word
  Says (event (Set (Mode mode)))
says_kind event words.Uid (word ∷ []) = do
  uid ← number_in word
  Says (event (Set (Uid uid)))
says_kind event words.Gid (word ∷ []) = do
  gid ← number_in word
  Says (event (Set (Gid gid)))
says_kind event words.SetXattr (name ∷ word ∷ []) = says_bytes (λ value. event (SetXattr name value)) word
says_kind event words.RemoveXattr (name ∷ []) = Says (event (RemoveXattr name))
says_kind event words.Size (word ∷ []) = do
  size ← number_below (2 ^ 64) word
  Says (event (Set (Size size)))
says_kind event words.Time (word ∷ []) = do
  time ← number_below (2 ^ 64) word
  Says (event (Set (Time time)))
says_kind event kind more = Faulty faults.Count

-- what is said of a change
abbrev pub says_change : (Change → Event) → List (List ℕ) → Line
says_change event [] = Faulty faults.Count
says_change event (word ∷ more) = do
  kind ← ok_or (change_kind word) faults.Change
  says_kind event kind more

abbrev pub says_inode_change : (ClientId → Ino → Change → Event) → List ℕ → List ℕ → List (List ℕ) → Line
says_inode_change event client_word ino_word change = do
  client ← client_in client_word
  ino ← ino_in ino_word
  says_change (event client ino) change

-- a client, an inode and a change of it; how many words there are is told before what they are
abbrev pub change_by : (ClientId → Ino → Change → Event) → List (List ℕ) → Line
change_by event (client_word ∷ ino_word ∷ change) =
    if is_counted change then says_inode_change event client_word ino_word change else Faulty faults.Count
change_by event arguments = Faulty faults.Count

-- a client, and how many messages it takes at most
abbrev pub poll_by : List (List ℕ) → Line
poll_by (client_word ∷ max_word ∷ []) = do
  client ← client_in client_word
  max ← number_in max_word
  Says (events.Poll client max)
poll_by arguments = Faulty faults.Count

-- ---- which event it is, where the lines of several commands are alike

abbrev pub named_event : Command → ClientId → Ino → List ℕ → Event
named_event commands.Lookup = events.Lookup
named_event commands.MakeSnapshot = events.MakeSnapshot
named_event command = events.RemoveSnapshot

abbrev pub new_inode_event : Command → ClientId → Ino → List ℕ → ℕ → Event
new_inode_event commands.Create = events.Create
new_inode_event command = events.Mkdir

abbrev pub caps_event : Command → ClientId → Ino → Caps → Event
caps_event commands.Want = events.Want
caps_event command = events.Release

abbrev pub change_event : Command → ClientId → Ino → Change → Event
change_event commands.Alter = events.Alter
change_event command = events.Flush

abbrev pub inode_event : Command → ClientId → Ino → Event
inode_event commands.Unlink = events.Unlink
inode_event command = events.Rmdir

-- a command with its arguments
unfoldable pub said_with : Command → List (List ℕ) → Line
said_with commands.Session arguments = session_by arguments
said_with (commands.OfClient said) arguments = client_by (client_event said) arguments
said_with commands.Regrant arguments = regrant_by arguments
said_with commands.Recall arguments = recall_by arguments
said_with commands.Lookup arguments = named_by events.Lookup arguments
said_with commands.Create arguments = new_inode_by events.Create arguments
said_with commands.Mkdir arguments = new_inode_by events.Mkdir arguments
said_with commands.MakeSnapshot arguments = named_by events.MakeSnapshot arguments
said_with commands.RemoveSnapshot arguments = named_by events.RemoveSnapshot arguments
said_with commands.Open arguments = open_by arguments
said_with commands.Want arguments = caps_by events.Want arguments
said_with commands.Ack arguments = ack_by arguments
said_with commands.Release arguments = caps_by events.Release arguments
said_with commands.Get arguments = get_by arguments
said_with commands.Alter arguments = change_by events.Alter arguments
said_with commands.Unlink arguments = inode_by events.Unlink arguments
said_with commands.Rmdir arguments = inode_by events.Rmdir arguments
said_with commands.Rename arguments = rename_by arguments
said_with commands.Flush arguments = change_by events.Flush arguments
said_with commands.Poll arguments = poll_by arguments

-- the parts of a line that has so many bytes; there is always a first
abbrev pub said_by : ℕ → List (List ℕ) → Line
said_by size [] = Faulty faults.Command
said_by size (word ∷ arguments) = do
  command ← ok_or (command_by word) faults.Command
  if nat_le size longest_line then said_with command arguments else Faulty faults.Count

-- what a line says that is not skipped
abbrev pub said_in : List ℕ → Line
said_in text = said_by (length text) (parts text)

-- what a line says
abbrev pub line_says : List ℕ → Line
line_says text = if is_skipped text then Nothing else said_in text

-- the line says the event
abbrev pub Tells : Line → Event → Type 0
Tells Nothing event = ⊥
Tells (Says said) event = event ≡ said
Tells (Grants said text) event = (grants : List Grant) × MeansGrants text grants × (event ≡ said grants)
Tells (Names said word) event = (caps : Caps) × Spells word caps × (event ≡ said caps)
Tells (Faulty fault) event = ⊥

abbrev pub Reads : List ℕ → Event → Type 0
Reads text event = Tells (line_says text) event
