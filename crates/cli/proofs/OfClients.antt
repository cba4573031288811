-- What a line says is about a client, unless the line begins with `recall`.
use Rattle.std.proofs.Common.{◌≡◌, ◌≢◌, ◌^◌, ℕ, Bool, true, false, cond, Option, Some, None, IsSome, List, [], ◌∷◌, length, refl, sym, ap, subst, ◌∙◌}
use Rattle.std.proofs.Common.{true≢false, arith}
use Rattle.std.specs.Prelude.{Err, Ok, Result, bytes_eq, codes, if◌then◌else◌, nat_le}
use Rattle.std.specs.List.{find}
use Rattle.std.specs.Option.{ok_or}
use Rattle.capbits.specs.Caps.{Caps}
use Rattle.capbits.specs.declared.ids.ClientId.{ClientId}
use Rattle.capbits.specs.declared.ids.Ino.{Ino}
use Rattle.capspec.specs.declared.grant.Grant.{Grant}
use Rattle.inotree.specs.declared.node.Setting.TheVariants.{Gid, Mode, Size, Time, Uid}
use Rattle.capstep.specs.declared.event.Event.{Event}
use Rattle.capstep.specs.declared.event.Event.TheVariants as events
use Rattle.lockmachine.specs.declared.request.Change.{Change}
use Rattle.lockmachine.specs.declared.request.Change.TheVariants.{RemoveXattr, Set, SetXattr}
use Rattle.capstep.specs.declared.change_word.ChangeWord.{ChangeWord}
use Rattle.capstep.specs.declared.change_word.ChangeWord.TheVariants as kinds
use Rattle.capstep.specs.Clients.{client_of}
use Rattle.capstep.specs.Words.{client_event, command_by, command_word}
use Rattle.capstep.specs.Words.{commands as all_commands}
use Rattle.capstep.specs.declared.command.ClientCommand.{ClientCommand}
use Rattle.capstep.specs.declared.command.Command.{Command}
use Rattle.capstep.specs.declared.command.Command.TheVariants as commands
use Rattle.texts.specs.declared.fault.LineFault.{LineFault}
use Rattle.texts.specs.declared.fault.LineFault.TheVariants as faults
use Rattle.capexplain.specs.Changes.{change_kind, is_counted}
use Rattle.capexplain.specs.Events.{Line, ◌>>=◌, named_by, new_inode_by, granting, session_by, regrant_by, client_by, open_by, caps_by, ack_by, get_by}
use Rattle.capexplain.specs.Events.{inode_by, rename_by, says_kind, says_change, says_inode_change, change_by, poll_by, said_with, said_by, said_in, line_says}
use Rattle.capexplain.specs.Events.{Tells, Reads}
use Rattle.capexplain.specs.Events.Line.{Faulty, Grants, Names, Nothing, Says}
use Rattle.texts.specs.ScriptLines.{is_skipped, longest_line}
use Rattle.capexplain.specs.Values.{bytes_in, client_in, groups_in, ino_in, mode_in, number_below, number_in, only_client, open_mode_in, part_in, seq_in}
use Rattle.capexplain.specs.Words.{six_parts, spaced, words}
use Rattle.cli.specs.Jobs.{begins_with, first_of, sort_of}
use Rattle.cli.specs.Jobs.Sort.{Nobodys, Plain}

abbrev Words : Type 0
Words = List (List ℕ)

-- whatever the line says is about a client
abbrev IsOfClient : Line → Type 0
IsOfClient Nothing = Unit {0}
IsOfClient (Says event) = IsSome (client_of event)
IsOfClient (Grants said text) = (grants : List Grant) → IsSome (client_of (said grants))
IsOfClient (Names said word) = (caps : Caps) → IsSome (client_of (said caps))
IsOfClient (Faulty fault) = Unit {0}

reported : (line : Line) (event : Event) → IsOfClient line → Tells line event → IsSome (client_of event)
reported Nothing event of tells = absurd tells
reported (Says said) event of tells = rw tells of
reported (Grants said text) event of tells = rw tells.2 (of tells.0)
reported (Names said word) event of tells = rw tells.2 (of tells.0)
reported (Faulty fault) event of tells = absurd tells

-- ---- words that are read one by one

read : {A : Type 0} (word : Result A LineFault) (next : A → Line) → ((x : A) → IsOfClient (next x)) → IsOfClient (word >>= next)
read (Ok x) next of = of x
read (Err fault) next of = tt

-- what holds of each number of words holds of all
by_count : (P : Words → Type 0) → P [] → ((a : List ℕ) → P (a ∷ [])) → ((a b : List ℕ) → P (a ∷ b ∷ [])) → ((a b c : List ℕ) → P (a ∷ b ∷ c ∷ [])) → ((a b c d : List ℕ) → P (a ∷ b ∷ c ∷ d ∷ []))
    → ((a b c d e : List ℕ) → P (a ∷ b ∷ c ∷ d ∷ e ∷ [])) → ((a b c d e f : List ℕ) (more : Words) → P (a ∷ b ∷ c ∷ d ∷ e ∷ f ∷ more)) → (some : Words) → P some
by_count P none one two three four five more [] = none
by_count P none one two three four five more (a ∷ []) = one a
by_count P none one two three four five more (a ∷ b ∷ []) = two a b
by_count P none one two three four five more (a ∷ b ∷ c ∷ []) = three a b c
by_count P none one two three four five more (a ∷ b ∷ c ∷ d ∷ []) = four a b c d
by_count P none one two three four five more (a ∷ b ∷ c ∷ d ∷ e ∷ []) = five a b c d e
by_count P none one two three four five more (a ∷ b ∷ c ∷ d ∷ e ∷ f ∷ rest) = more a b c d e f rest

-- ---- each command but `recall`

client : (event : ClientId → Event) → ((client : ClientId) → IsSome (client_of (event client))) → (some : Words) → IsOfClient (client_by event some)
client event of some = read (only_client some) _ of

named : (event : ClientId → Ino → List ℕ → Event) → ((client : ClientId) (ino : Ino) (name : List ℕ) → IsSome (client_of (event client ino name))) → (some : Words) → IsOfClient (named_by event some)
named event of = by_count (λ some. IsOfClient (named_by event some)) tt (λ a. tt) (λ a b. tt)
    (λ a b name. read (client_in a) _ (λ client. read (ino_in b) _ (λ ino. of client ino name))) (λ a b c d. tt) (λ a b c d e. tt) (λ a b c d e f more. tt)

new_inode : (event : ClientId → Ino → List ℕ → ℕ → Event) → ((client : ClientId) (dir : Ino) (name : List ℕ) (mode : ℕ) → IsSome (client_of (event client dir name mode))) → (some : Words) → IsOfClient (new_inode_by event some)
new_inode event of = by_count (λ some. IsOfClient (new_inode_by event some)) tt (λ a. tt) (λ a b. tt) (λ a b c. tt)
    (λ a b name d. read (client_in a) _ (λ client. read (ino_in b) _ (λ dir. read (mode_in d) _ (λ mode. of client dir name mode)))) (λ a b c d e. tt) (λ a b c d e f more. tt)

caps : (event : ClientId → Ino → Caps → Event) → ((client : ClientId) (ino : Ino) (caps : Caps) → IsSome (client_of (event client ino caps))) → (some : Words) → IsOfClient (caps_by event some)
caps event of = by_count (λ some. IsOfClient (caps_by event some)) tt (λ a. tt) (λ a b. tt)
    (λ a b c. read (client_in a) _ (λ client. read (ino_in b) _ (λ ino. of client ino))) (λ a b c d. tt) (λ a b c d e. tt) (λ a b c d e f more. tt)

inode : (event : ClientId → Ino → Event) → ((client : ClientId) (ino : Ino) → IsSome (client_of (event client ino))) → (some : Words) → IsOfClient (inode_by event some)
inode event of = by_count (λ some. IsOfClient (inode_by event some)) tt (λ a. tt)
    (λ a b. read (client_in a) _ (λ client. read (ino_in b) _ (λ ino. of client ino))) (λ a b c. tt) (λ a b c d. tt) (λ a b c d e. tt) (λ a b c d e f more. tt)

opened : (some : Words) → IsOfClient (open_by some)
opened = by_count (λ some. IsOfClient (open_by some)) tt (λ a. tt) (λ a b. tt)
    (λ a b c. read (client_in a) _ (λ client. read (ino_in b) _ (λ ino. read (open_mode_in c) _ (λ mode. refl)))) (λ a b c d. tt) (λ a b c d e. tt) (λ a b c d e f more. tt)

acked : (some : Words) → IsOfClient (ack_by some)
acked = by_count (λ some. IsOfClient (ack_by some)) tt (λ a. tt) (λ a b. tt)
    (λ a b c. read (client_in a) _ (λ client. read (ino_in b) _ (λ ino. read (seq_in c) _ (λ seq. refl)))) (λ a b c d. tt) (λ a b c d e. tt) (λ a b c d e f more. tt)

got : (some : Words) → IsOfClient (get_by some)
got = by_count (λ some. IsOfClient (get_by some)) tt (λ a. tt) (λ a b. tt)
    (λ a b c. read (client_in a) _ (λ client. read (ino_in b) _ (λ ino. read (part_in c) _ (λ part. refl)))) (λ a b c d. tt) (λ a b c d e. tt) (λ a b c d e f more. tt)

renamed : (some : Words) → IsOfClient (rename_by some)
renamed = by_count (λ some. IsOfClient (rename_by some)) tt (λ a. tt) (λ a b. tt) (λ a b c. tt)
    (λ a b c name. read (client_in a) _ (λ client. read (ino_in b) _ (λ ino. read (ino_in c) _ (λ dir. refl)))) (λ a b c d e. tt) (λ a b c d e f more. tt)

polled : (some : Words) → IsOfClient (poll_by some)
polled = by_count (λ some. IsOfClient (poll_by some)) tt (λ a. tt)
    (λ a b. read (client_in a) _ (λ client. read (number_in b) _ (λ max. refl))) (λ a b c. tt) (λ a b c d. tt) (λ a b c d e. tt) (λ a b c d e f more. tt)

granted : (event : List Grant → Event) → ((grants : List Grant) → IsSome (client_of (event grants))) → (text : List ℕ) → IsOfClient (granting event text)
granted event of text = elim (bytes_eq text (codes "none")) as (λ none. IsOfClient (if none then Says (event []) else Grants event text)) [ true ↦ of [] | false ↦ of ]

regranted : (some : Words) → IsOfClient (regrant_by some)
regranted [] = tt
regranted (a ∷ []) = tt
regranted (a ∷ first ∷ more) = read (client_in a) _ (λ client. granted (events.Regrant client) (λ grants. refl) (spaced (first ∷ more)))

session : (some : Words) → IsOfClient (session_by some)
session = by_count (λ some. IsOfClient (session_by some)) tt (λ a. tt) (λ a b. tt) (λ a b c. tt) (λ a b c d. tt)
    (λ a b c d text. read (client_in a) _ (λ client. read (number_in b) _ (λ uid. read (number_in c) _ (λ gid. read (groups_in d) _ (λ groups.
    granted (events.Session client (record { uid = uid; gid = gid; groups = groups })) (λ grants. refl) text))))) (λ a b c d e f more. tt)

kind : (event : Change → Event) → ((change : Change) → IsSome (client_of (event change))) → (kind : ChangeWord) (some : Words) → IsOfClient (says_kind event kind some)
kind event of kinds.Mode = by_count (λ some. IsOfClient (says_kind event kinds.Mode some)) tt (λ a. read (mode_in a) _ (λ mode. of (Set (Mode mode)))) (λ a b. tt) (λ a b c. tt) (λ a b c d. tt) (λ a b c d e. tt) (λ a b c d e f more. tt)
kind event of kinds.Uid = by_count (λ some. IsOfClient (says_kind event kinds.Uid some)) tt (λ a. read (number_in a) _ (λ uid. of (Set (Uid uid)))) (λ a b. tt) (λ a b c. tt) (λ a b c d. tt) (λ a b c d e. tt) (λ a b c d e f more. tt)
kind event of kinds.Gid = by_count (λ some. IsOfClient (says_kind event kinds.Gid some)) tt (λ a. read (number_in a) _ (λ gid. of (Set (Gid gid)))) (λ a b. tt) (λ a b c. tt) (λ a b c d. tt) (λ a b c d e. tt) (λ a b c d e f more. tt)
kind event of kinds.SetXattr = by_count (λ some. IsOfClient (says_kind event kinds.SetXattr some)) tt (λ a. tt) (λ name b. read (bytes_in b) _ (λ value. of (SetXattr name value))) (λ a b c. tt) (λ a b c d. tt) (λ a b c d e. tt) (λ a b c d e f more. tt)
kind event of kinds.RemoveXattr = by_count (λ some. IsOfClient (says_kind event kinds.RemoveXattr some)) tt (λ name. of (RemoveXattr name)) (λ a b. tt) (λ a b c. tt) (λ a b c d. tt) (λ a b c d e. tt) (λ a b c d e f more. tt)
kind event of kinds.Size = by_count (λ some. IsOfClient (says_kind event kinds.Size some)) tt (λ a. read (number_below (2 ^ 64) a) _ (λ size. of (Set (Size size)))) (λ a b. tt) (λ a b c. tt) (λ a b c d. tt) (λ a b c d e. tt) (λ a b c d e f more. tt)
kind event of kinds.Time = by_count (λ some. IsOfClient (says_kind event kinds.Time some)) tt (λ a. read (number_below (2 ^ 64) a) _ (λ time. of (Set (Time time)))) (λ a b. tt) (λ a b c. tt) (λ a b c d. tt) (λ a b c d e. tt) (λ a b c d e f more. tt)

change : (event : Change → Event) → ((change : Change) → IsSome (client_of (event change))) → (some : Words) → IsOfClient (says_change event some)
change event of [] = tt
change event of (word ∷ more) = read (ok_or (change_kind word) faults.Change) _ (λ found. kind event of found more)

changed : (event : ClientId → Ino → Change → Event) → ((client : ClientId) (ino : Ino) (change : Change) → IsSome (client_of (event client ino change))) → (some : Words) → IsOfClient (change_by event some)
changed event of [] = tt
changed event of (a ∷ []) = tt
changed event of (a ∷ b ∷ more) = elim (is_counted more) as (λ counted. IsOfClient (if counted then says_inode_change event a b more else Faulty faults.Count)) [
  | true ↦ read (client_in a) _ (λ client. read (ino_in b) _ (λ ino. change (event client ino) (of client ino) more))
  | false ↦ tt
]

-- what is said of a client is about it
said_of : (said : ClientCommand) (client : ClientId) → IsSome (client_of (client_event said client))
said_of said client = grind arith

of_command : (command : Command) (arguments : Words) → command ≢ commands.Recall → IsOfClient (said_with command arguments)
unfolding said_with
of_command commands.Session arguments other = session arguments
of_command (commands.OfClient said) arguments other = client (client_event said) (said_of said) arguments
of_command commands.Regrant arguments other = regranted arguments
of_command commands.Recall arguments other = absurd (other refl)
of_command commands.Lookup arguments other = named events.Lookup (λ client ino name. refl) arguments
of_command commands.Create arguments other = new_inode events.Create (λ client dir name mode. refl) arguments
of_command commands.Mkdir arguments other = new_inode events.Mkdir (λ client dir name mode. refl) arguments
of_command commands.MakeSnapshot arguments other = named events.MakeSnapshot (λ client ino name. refl) arguments
of_command commands.RemoveSnapshot arguments other = named events.RemoveSnapshot (λ client ino name. refl) arguments
of_command commands.Open arguments other = opened arguments
of_command commands.Want arguments other = caps events.Want (λ client ino caps. refl) arguments
of_command commands.Ack arguments other = acked arguments
of_command commands.Release arguments other = caps events.Release (λ client ino caps. refl) arguments
of_command commands.Get arguments other = got arguments
of_command commands.Alter arguments other = changed events.Alter (λ client ino change. refl) arguments
of_command commands.Unlink arguments other = inode events.Unlink (λ client ino. refl) arguments
of_command commands.Rmdir arguments other = inode events.Rmdir (λ client ino. refl) arguments
of_command commands.Rename arguments other = renamed arguments
of_command commands.Flush arguments other = changed events.Flush (λ client ino change. refl) arguments
of_command commands.Poll arguments other = polled arguments

-- ---- lines

-- what passes a test is found
found_passes : {X : Type 0} (p : X → Bool) (xs : List X) (x : X) → find p xs ≡ Some x → p x ≡ true
found_passes p [] x is = absurd (cc)
found_passes p (y ∷ ys) x is =
    elim (p y) as (λ b. p y ≡ b → cond b (Some y) (find p ys) ≡ Some x → p x ≡ true) [
      | true ↦ λ passes is. let same : y ≡ x = cc in ap p (sym same) ∙ passes
      | false ↦ λ _ is. found_passes p ys x is
    ] refl is

-- a command that a word other than `recall` says
not_recall : (word : List ℕ) (command : Command) → bytes_eq word (codes "recall") ≡ false → command_by word ≡ Some command → command ≢ commands.Recall
not_recall word command other found is =
    true≢false (sym (found_passes (λ (c : Command). bytes_eq word (command_word c)) all_commands command found) ∙ ap (λ (c : Command). bytes_eq word (command_word c)) is ∙ other)

-- the first part of a line is its first word
first_part : (word : List ℕ) (more : Words) → (rest : Words) × (six_parts (word ∷ more) ≡ word ∷ rest)
first_part word = by_count (λ more. (rest : Words) × (six_parts (word ∷ more) ≡ word ∷ rest)) (_, refl) (λ a. (_, refl)) (λ a b. (_, refl)) (λ a b c. (_, refl)) (λ a b c d. (_, refl)) (λ a b c d e. (_, refl)) (λ a b c d e f more. (_, refl))

by_command : (size : ℕ) (word : List ℕ) (arguments : Words) (found : Option Command) → bytes_eq word (codes "recall") ≡ false → command_by word ≡ found
    → IsOfClient (ok_or found faults.Command >>= (λ command. if nat_le size longest_line then said_with command arguments else Faulty faults.Count))
by_command size word arguments None other is = tt
by_command size word arguments (Some command) other is =
    elim (nat_le size longest_line) as (λ fits. IsOfClient (if fits then said_with command arguments else Faulty faults.Count)) [ true ↦ of_command command arguments (not_recall word command other is) | false ↦ tt ]

by_words : (text : List ℕ) (some : Words) → bytes_eq (first_of text some) (codes "recall") ≡ false → IsOfClient (said_by (length text) (six_parts some))
by_words text [] other = tt
by_words text (word ∷ more) other = let first = first_part word more in rw first.1 (by_command (length text) word first.0 (command_by word) other refl)

of_client : (text : List ℕ) → begins_with (codes "recall") text ≡ false → IsOfClient (line_says text)
of_client text other = elim (is_skipped text) as (λ skipped. IsOfClient (if skipped then Nothing else said_in text)) [ true ↦ tt | false ↦ by_words text (words text) other ]

begins_otherwise : (text : List ℕ) → sort_of true text ≡ Plain → begins_with (codes "recall") text ≡ false
begins_otherwise text plain =
    elim (begins_with (codes "recall") text) as (λ recalls. (if recalls then Nobodys else Plain) ≡ Plain → recalls ≡ false) [ true ↦ λ e. absurd (cc) | false ↦ λ e. refl ] plain

-- behind the line `threads` what a plain line says is about a client
pub has_client : (text : List ℕ) (event : Event) → sort_of true text ≡ Plain → Reads text event → client_of event ≢ None
has_client text event plain reads none = true≢false (sym (subst IsSome none (reported (line_says text) event (of_client text (begins_otherwise text plain)) reads)))
