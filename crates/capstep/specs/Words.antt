-- The words of lines.
use Rattle.std.specs.Prelude.{ℕ, Option, List, [], ◌∷◌, codes, find, bytes_eq}
use Rattle.capbits.specs.declared.cap.Part.{Part}
use Rattle.capbits.specs.declared.cap.Part.TheVariants.{A, F, L, X}
use Rattle.capbits.specs.declared.ids.ClientId.{ClientId}
use Rattle.sessiontab.specs.declared.session.Status.TheVariants as status
use Rattle.capstep.specs.declared.event.Event.{Event}
use Rattle.capstep.specs.declared.event.Event.TheVariants as event
use Rattle.capstep.specs.declared.event.OpenMode.{OpenMode}
use Rattle.capstep.specs.declared.event.OpenMode.TheVariants as opening
use Rattle.capstep.specs.declared.command.Command.{Command}
use Rattle.capstep.specs.declared.command.Command.TheVariants.{Ack, Alter, Create, Flush, Get, Lookup, MakeSnapshot, Mkdir, OfClient, Open, Poll, Recall}
use Rattle.capstep.specs.declared.command.Command.TheVariants.{Regrant, Release, RemoveSnapshot, Rename, Rmdir, Session, Unlink, Want}
use Rattle.capstep.specs.declared.command.ClientCommand.{ClientCommand}
use Rattle.capstep.specs.declared.command.ClientCommand.TheVariants.{CloseSession, Evict, Mark, Unblock}
use Rattle.capstep.specs.declared.change_word.ChangeWord.{ChangeWord}
use Rattle.capstep.specs.declared.change_word.ChangeWord.TheVariants as words

-- the first word of a line with the command
abbrev pub command_word : Command → List ℕ
command_word Session = codes "session"
command_word (OfClient CloseSession) = codes "close"
command_word (OfClient (Mark status.Stale)) = codes "stale"
command_word (OfClient (Mark status.Open)) = codes "renew"
command_word Regrant = codes "regrant"
command_word (OfClient Evict) = codes "evict"
command_word (OfClient Unblock) = codes "unblock"
command_word Recall = codes "recall"
command_word Lookup = codes "lookup"
command_word Create = codes "create"
command_word Mkdir = codes "mkdir"
command_word MakeSnapshot = codes "mksnap"
command_word RemoveSnapshot = codes "rmsnap"
command_word Open = codes "open"
command_word Want = codes "want"
command_word Ack = codes "ack"
command_word Release = codes "release"
command_word Get = codes "get"
command_word Alter = codes "alter"
command_word Unlink = codes "unlink"
command_word Rmdir = codes "rmdir"
command_word Rename = codes "rename"
command_word Flush = codes "flush"
command_word Poll = codes "poll"

-- those that come most often stand first
abbrev pub commands : List Command
commands =
    Open ∷ Want ∷ Ack ∷ Release ∷ Lookup ∷ Get ∷ Alter ∷ Poll ∷ Create
    ∷ Flush ∷ Unlink ∷ Rename ∷ Mkdir ∷ Rmdir ∷ Recall ∷ Session ∷ OfClient CloseSession ∷ OfClient (Mark status.Stale)
    ∷ OfClient (Mark status.Open) ∷ Regrant ∷ OfClient Evict ∷ OfClient Unblock ∷ MakeSnapshot ∷ RemoveSnapshot ∷ []

-- the command that a word is
abbrev pub command_by : List ℕ → Option Command
command_by word = find (λ command. bytes_eq word (command_word command)) commands

-- the command of the line that says the event
abbrev pub command_of : Event → Command
command_of (event.Session client caller grants) = Session
command_of (event.CloseSession client) = OfClient CloseSession
command_of (event.Mark client status) = OfClient (Mark status)
command_of (event.Regrant client grants) = Regrant
command_of (event.Evict client) = OfClient Evict
command_of (event.Unblock client) = OfClient Unblock
command_of (event.Recall count) = Recall
command_of (event.Lookup client dir name) = Lookup
command_of (event.Create client dir name mode) = Create
command_of (event.Mkdir client dir name mode) = Mkdir
command_of (event.MakeSnapshot client ino name) = MakeSnapshot
command_of (event.RemoveSnapshot client ino name) = RemoveSnapshot
command_of (event.Open client ino mode) = Open
command_of (event.Want client ino caps) = Want
command_of (event.Ack client ino seq) = Ack
command_of (event.Release client ino caps) = Release
command_of (event.Get client ino part) = Get
command_of (event.Alter client ino change) = Alter
command_of (event.Unlink client ino) = Unlink
command_of (event.Rmdir client ino) = Rmdir
command_of (event.Rename client ino dir name) = Rename
command_of (event.Flush client ino change) = Flush
command_of (event.Poll client max) = Poll

-- the event that a line says of a client alone
abbrev pub client_event : ClientCommand → ClientId → Event
client_event CloseSession client = event.CloseSession client
client_event (Mark status) client = event.Mark client status
client_event Evict client = event.Evict client
client_event Unblock client = event.Unblock client

-- ---- of a change

-- the first word of a change of this kind
abbrev pub change_word : ChangeWord → List ℕ
change_word words.Mode = codes "chmod"
change_word words.Uid = codes "chown"
change_word words.Gid = codes "chgrp"
change_word words.SetXattr = codes "setx"
change_word words.RemoveXattr = codes "rmx"
change_word words.Size = codes "size"
change_word words.Time = codes "times"

-- ---- of an opening, and of a part

-- the word for what an inode is opened for
abbrev pub open_word : OpenMode → List ℕ
open_word opening.Read = codes "r"
open_word opening.Write = codes "w"
open_word opening.ReadWrite = codes "rw"

-- the word for a part of what an inode keeps
abbrev pub part_word : Part → List ℕ
part_word A = codes "A"
part_word L = codes "L"
part_word X = codes "X"
part_word F = codes "F"
