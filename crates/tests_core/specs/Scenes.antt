-- Whole scenes: two clients with a file in the root, and a third client that asks to change the mode of a file that is moved meanwhile.
use Rattle.std.specs.Prelude.{ℕ, List, [], ◌∷◌, codes}
use Rattle.std.specs.FinMap.{FinMap}
use Rattle.std.specs.Ordering.{nat_cmp}
use Rattle.std.specs.FinMap as map
use Rattle.std.specs.FinSet as set
use Rattle.capbits.specs.Caps.{Caps}
use Rattle.capbits.specs.Sets.{caps_in, no_caps}
use Rattle.capbits.specs.declared.cap.Cap.TheVariants.{As, Fc, Fr, Fs, P}
use Rattle.capbits.specs.declared.ids.ClientId.{ClientId}
use Rattle.capbits.specs.declared.ids.Ino.{Ino}
use Rattle.capspec.specs.declared.flags.Flags4.TheVariants.{Rw}
use Rattle.capspec.specs.declared.grant.Grant.{Grant}
use Rattle.inotree.specs.Calls.{first_tree, moved, with_new}
use Rattle.inotree.specs.Tree.{Nodes}
use Rattle.inotree.specs.declared.node.Kind.TheVariants.{Directory, File}
use Rattle.inotree.specs.declared.node.Setting.TheVariants.{Mode}
use Rattle.sessiontab.specs.Table.{SessionTable}
use Rattle.sessiontab.specs.declared.session.Session.{Session}
use Rattle.sessiontab.specs.declared.session.Status.TheVariants.{Open}
use Rattle.captable.specs.Table.{holder}
use Rattle.captable.specs.declared.entry.EntryRow.{EntryRow}
use Rattle.locktable.specs.declared.states.LockState.{LockState}
use Rattle.lockmachine.specs.Inodes.{in_sync}
use Rattle.lockmachine.specs.declared.request.Change.TheVariants.{Set}
use Rattle.lockmachine.specs.declared.request.Operation.TheVariants.{Alter}
use Rattle.lockmachine.specs.declared.request.Request.{Request}
use Rattle.lockmachine.specs.Scene.{Scene}
use Rattle.tests_core.specs.Clients.{third}
use Rattle.tests_core.specs.Entries.{all, entry, mixed, of_first, of_second, pin, reading, table}
use Rattle.tests_core.specs.Verdicts.{allow, caller, owned}

-- the values of two and of three keys, which are 1, 2 and 3
abbrev pub two_at : {X : Type 0} → X → X → FinMap nat_cmp X
two_at a b = map.insert (map.insert map.empty 1 a) 2 b

abbrev pub three_at : {X : Type 0} → X → X → X → FinMap nat_cmp X
three_at a b c = map.insert (two_at a b) 3 c

-- who is connected with these grants, as the user and the one group of this number
abbrev pub session : ℕ → List Grant → Session
session user grants = record { status = Open; caller = caller user user; grants = grants }

-- the grants of who may read and write all
abbrev pub all_granted : List Grant
all_granted = allow Rw ∷ []

-- ---- a file of the first client, in the root

abbrev pub one_file : Nodes
one_file = with_new (first_tree (owned 0 0 0o755)) File 1 (codes "f") (owned 10 10 0o644)

-- the first client has these grants, and the second may read and write all
abbrev pub both : List Grant → SessionTable
both grants = record { sessions = two_at (session 10 grants) (session 20 all_granted); blocked = set.empty }

-- with these entries on the file, and this lock of its data
abbrev pub shared : List Grant → List EntryRow → LockState → Scene
shared grants rows lock = record {
  fs = codes "cephfs";
  tree = one_file;
  sessions = both grants;
  table = table rows;
  locks = record { states = two_at in_sync (record in_sync { file = lock }); queue = []; last = 0 };
}

-- the first client holds all that it wants, or of it what is left in MIX
abbrev pub holds_all : EntryRow
holds_all = of_first (entry all all 1 0 1)

abbrev pub holds_mixed : EntryRow
holds_mixed = of_first (entry mixed all 2 2 2)

-- the second opens the file to read, and then holds the pin alone
abbrev pub opens : EntryRow
opens = of_second (entry no_caps reading 0 0 0)

abbrev pub holds_pin : EntryRow
holds_pin = of_second (entry pin reading 1 0 1)

-- ---- a file in the directory `a`, of which a third client waits to change the mode

abbrev pub inner : Ino
inner = record { 0 = 3 }

abbrev pub in_a : Nodes
in_a = with_new (with_new (first_tree (owned 0 0 0o755)) Directory 1 (codes "a") (owned 10 10 0o755)) File 2 (codes "x") (owned 10 10 0o644)

-- moved into the root
abbrev pub moved_up : Nodes
moved_up = moved in_a 3 1 (codes "x")

-- the third client may read and write what lies in `a`
abbrev pub three : SessionTable
three = record { sessions = three_at (session 10 all_granted) (session 20 all_granted) (session 30 (record (allow Rw) { path = codes "a" ∷ [] } ∷ [])); blocked = set.empty }

-- what is wanted by who opens a file to read, and wants its attributes too
abbrev pub attributes : Caps
attributes = caps_in (P ∷ As ∷ Fs ∷ Fc ∷ Fr ∷ [])

-- a client that wants these holds so many of them
abbrev pub shares : ClientId → Caps → EntryRow
shares client held = record { holder = holder client inner; entry = entry held attributes 3 3 3 }

-- the third client's request
abbrev pub chmod : Request
chmod = record { ticket = record { 0 = 1 }; client = third; ino = inner; operation = Alter (Set (Mode 0o600)) }

-- the file in this tree, with these entries on it, this lock of its attributes, and these who wait for a lock
abbrev pub asked : Nodes → List EntryRow → LockState → List Request → Scene
asked tree rows lock queue = record {
  fs = codes "cephfs";
  tree = tree;
  sessions = three;
  table = table rows;
  locks = record { states = three_at in_sync in_sync (record in_sync { auth = lock }); queue = queue; last = 1 };
}
