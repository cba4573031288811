-- The texts of events: the lines that say them.
use Rattle.std.specs.Prelude.{ℕ, List, [], ◌∷◌, ◌++◌, codes}
use Rattle.std.specs.Fmt.{decimal}
use Rattle.capbits.specs.declared.ids.ClientId.{ClientId}
use Rattle.capbits.specs.declared.ids.Ino.{Ino}
use Rattle.capbits.specs.Text.{text_of}
use Rattle.capspec.specs.declared.grant.Grant.{Grant}
use Rattle.capspec.specs.Written.{written}
use Rattle.inotree.specs.declared.node.Setting.{Setting}
use Rattle.inotree.specs.declared.node.Setting.TheVariants.{Gid, Mode, Size, Time, Uid}
use Rattle.lockmachine.specs.declared.request.Change.{Change}
use Rattle.lockmachine.specs.declared.request.Change.TheVariants.{RemoveXattr, Set, SetXattr}
use Rattle.capstep.specs.declared.event.Event.{Event}
use Rattle.capstep.specs.declared.event.Event.TheVariants as event
use Rattle.capstep.specs.declared.change_word.ChangeWord.{ChangeWord}
use Rattle.capstep.specs.declared.change_word.ChangeWord.TheVariants as words
use Rattle.texts.specs.PartTexts.{groups_text, hex_text, mode_text}
use Rattle.capstep.specs.Words.{change_word, command_of, command_word, open_word, part_word}

-- ---- parts of lines

-- in their written form; `none` for none
abbrev pub grants_text : List Grant → List ℕ
grants_text [] = codes "none"
grants_text (grant ∷ grants) = written (grant ∷ grants)

-- a client, an inode and a name
abbrev pub named_text : ClientId → Ino → List ℕ → List ℕ
named_text client ino name = codes " " ++ decimal client.0 ++ codes " " ++ decimal ino.0 ++ codes " " ++ name

-- the word of a change, and a number
abbrev pub numbered_text : ChangeWord → ℕ → List ℕ
numbered_text kind number = change_word kind ++ codes " " ++ decimal number

abbrev pub setting_text : Setting → List ℕ
setting_text (Mode mode) = change_word words.Mode ++ codes " " ++ mode_text mode
setting_text (Uid uid) = numbered_text words.Uid uid
setting_text (Gid gid) = numbered_text words.Gid gid
setting_text (Size size) = numbered_text words.Size size
setting_text (Time time) = numbered_text words.Time time

-- the word of the change, and what is behind it
abbrev pub change_text : Change → List ℕ
change_text (Set setting) = setting_text setting
change_text (SetXattr name value) = change_word words.SetXattr ++ codes " " ++ name ++ codes " " ++ hex_text value
change_text (RemoveXattr name) = change_word words.RemoveXattr ++ codes " " ++ name

-- ---- lines

-- all behind the first word, each word behind a space
abbrev pub arguments_text : Event → List ℕ
arguments_text (event.Session client caller grants) =
    codes " " ++ decimal client.0 ++ codes " " ++ decimal caller.uid ++ codes " " ++ decimal caller.gid ++ codes " "
    ++ groups_text caller.groups ++ codes " " ++ grants_text grants
arguments_text (event.CloseSession client) = codes " " ++ decimal client.0
arguments_text (event.Mark client status) = codes " " ++ decimal client.0
arguments_text (event.Regrant client grants) = codes " " ++ decimal client.0 ++ codes " " ++ grants_text grants
arguments_text (event.Evict client) = codes " " ++ decimal client.0
arguments_text (event.Unblock client) = codes " " ++ decimal client.0
arguments_text (event.Recall count) = codes " " ++ decimal count
arguments_text (event.Lookup client dir name) = named_text client dir name
arguments_text (event.Create client dir name mode) = named_text client dir name ++ codes " " ++ mode_text mode
arguments_text (event.Mkdir client dir name mode) = named_text client dir name ++ codes " " ++ mode_text mode
arguments_text (event.MakeSnapshot client ino name) = named_text client ino name
arguments_text (event.RemoveSnapshot client ino name) = named_text client ino name
arguments_text (event.Open client ino mode) = named_text client ino (open_word mode)
arguments_text (event.Want client ino caps) = named_text client ino (text_of caps)
arguments_text (event.Ack client ino seq) = named_text client ino (decimal seq)
arguments_text (event.Release client ino caps) = named_text client ino (text_of caps)
arguments_text (event.Get client ino part) = named_text client ino (part_word part)
arguments_text (event.Alter client ino change) = named_text client ino (change_text change)
arguments_text (event.Unlink client ino) = codes " " ++ decimal client.0 ++ codes " " ++ decimal ino.0
arguments_text (event.Rmdir client ino) = codes " " ++ decimal client.0 ++ codes " " ++ decimal ino.0
arguments_text (event.Rename client ino dir name) =
    codes " " ++ decimal client.0 ++ codes " " ++ decimal ino.0 ++ codes " " ++ decimal dir.0 ++ codes " " ++ name
arguments_text (event.Flush client ino change) = named_text client ino (change_text change)
arguments_text (event.Poll client max) = codes " " ++ decimal client.0 ++ codes " " ++ decimal max

-- the line that says the event, without its line feed
abbrev pub event_text : Event → List ℕ
event_text e = command_word (command_of e) ++ arguments_text e
