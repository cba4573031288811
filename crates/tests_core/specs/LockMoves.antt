-- Two files in the root, and the moves that their locks make.
use Rattle.std.specs.Prelude.{ℕ, zero, suc, Bool, Some, List, [], ◌∷◌, codes}
use Rattle.std.specs.List.{fold}
use Rattle.std.specs.FinMap as map
use Rattle.std.specs.FinSet as set
use Rattle.capbits.specs.Sets.{caps_in}
use Rattle.capbits.specs.declared.cap.Cap.{Cap}
use Rattle.capbits.specs.declared.cap.Cap.TheVariants.{Fb, Fc, Fr, Fs, Fw, Fx, P}
use Rattle.capbits.specs.declared.cap.Part.{Part}
use Rattle.capbits.specs.declared.cap.Part.TheVariants.{F}
use Rattle.capbits.specs.declared.ids.ClientId.{ClientId}
use Rattle.capbits.specs.declared.ids.Ino.{Ino}
use Rattle.capspec.specs.declared.flags.Flags4.TheVariants.{R}
use Rattle.inotree.specs.Calls.{with_new}
use Rattle.inotree.specs.Tree.{Nodes}
use Rattle.inotree.specs.declared.node.Kind.TheVariants.{File}
use Rattle.sessiontab.specs.Table.{SessionTable}
use Rattle.sessiontab.specs.declared.session.Status.TheVariants.{Stale}
use Rattle.captable.specs.Table.{holder}
use Rattle.captable.specs.declared.entry.EntryRow.{EntryRow}
use Rattle.locktable.specs.GatherCounts.{count_in, one_less_in}
use Rattle.locktable.specs.declared.counts.Counts.{Counts}
use Rattle.locktable.specs.declared.states.LockState.{LockState}
use Rattle.locktable.specs.declared.states.LockState.TheVariants.{Gather}
use Rattle.locktable.specs.declared.states.StableState.TheVariants.{Excl, Mix}
use Rattle.lockmachine.specs.Inodes.{in_sync}
use Rattle.lockmachine.specs.Lock.{ends_by_count}
use Rattle.lockmachine.specs.Locks.{LockMap, no_locks}
use Rattle.lockmachine.specs.Scene.{Scene}
use Rattle.lockmachine.specs.declared.request.Operation.TheVariants.{Get}
use Rattle.lockmachine.specs.declared.request.Request.{Request}
use Rattle.lockmachine.specs.declared.states.InodeLocks.{InodeLocks}
use Rattle.tests_core.specs.Clients.{first}
use Rattle.tests_core.specs.Entries.{entry, file, table}
use Rattle.tests_core.specs.Scenes.{all_granted, one_file, session, three_at}
use Rattle.tests_core.specs.Verdicts.{allow, owned}

-- the second file
abbrev pub other : Ino
other = record { 0 = 3 }

abbrev pub two_files : Nodes
two_files = with_new one_file File 1 (codes "g") (owned 10 10 0o644)

-- the first two clients may do all, the third may read, and the fourth is stale
abbrev pub four : SessionTable
four = record {
  sessions = map.insert (three_at (session 1 all_granted) (session 2 all_granted) (session 3 (allow R ∷ []))) 4 (record (session 4 all_granted) { status = Stale });
  blocked = set.empty;
}

-- what who opens a file to read wants of its data, and who opens it to write
abbrev pub to_read : List Cap
to_read = Fs ∷ Fc ∷ Fr ∷ []

abbrev pub to_write : List Cap
to_write = Fs ∷ Fx ∷ Fc ∷ Fr ∷ Fw ∷ Fb ∷ []

-- a client wants these caps of an inode beside the pin, and holds those
abbrev pub has : ClientId → Ino → List Cap → List Cap → EntryRow
has client ino want held = record { holder = holder client ino; entry = entry (caps_in held) (caps_in (P ∷ want)) 1 0 1 }

-- it wants them of the first file, and holds nothing
abbrev pub wants : ClientId → List Cap → EntryRow
wants client want = has client file want []

-- a client asks for what an inode keeps of a part, under a number
abbrev pub asks : ℕ → ClientId → Ino → Part → Request
asks number client ino part = record { ticket = record { 0 = number }; client = client; ino = ino; operation = Get part }

-- the files, with these entries, the locks of the one and of the other, and who waits for them
abbrev pub files : List EntryRow → InodeLocks → InodeLocks → List Request → Scene
files rows locks others queue = record {
  fs = codes "cephfs";
  tree = two_files;
  sessions = four;
  table = table rows;
  locks = record { states = map.insert (map.insert map.empty 2 locks) 3 others; queue = queue; last = 9 };
}

-- the same where the data of the first file has this lock, all other locks are in SYNC, and nobody waits
abbrev pub with_data : List EntryRow → LockState → Scene
with_data rows lock = files rows (record in_sync { file = lock }) in_sync []

-- these wait, and this is the last number that was given
abbrev pub waiting : List Request → ℕ → LockMap
waiting queue last = record no_locks { queue = queue; last = last }

-- this many of the third client's requests, under one number
abbrev pub many : ℕ → List Request
many zero = []
many (suc n) = asks 1 (record { 0 = 3 }) file F ∷ many n

-- whether the gather of the file's data ends, where these are the counts and one acknowledgement came for each of these parts
abbrev pub ends_after : Counts → List Part → Bool
ends_after counts parts = ends_by_count (count_in F (fold (λ left part. one_less_in part left) counts parts)) (Some (Gather (Excl first) Mix))
