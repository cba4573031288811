-- What the lines of a script call, and for whom.
use Rattle.std.specs.Prelude.{◌≡◌, ◌≢◌, ◌⊎◌, ◌+◌, ◌≤◌, ◌==◌, ℕ, Bool, true, false, Some, List, [], ◌∷◌, ◌++◌, length, map, codes, bytes_eq, if◌then◌else◌}
use Rattle.std.specs.Prelude.{IsTrue, IsFalse}
use Rattle.std.specs.List.{list_any, sum_by}
use Rattle.capbits.specs.declared.ids.ClientId.{ClientId}
use Rattle.capstep.specs.declared.event.Event.{Event}
use Rattle.texts.specs.declared.fault.LineFault.{LineFault}
use Rattle.texts.specs.declared.fault.LineFault.TheVariants as kinds
use Rattle.texts.specs.declared.fault.ScriptFault.TheVariants as stops
use Rattle.capstep.specs.Clients.{client_of}
use Rattle.capexplain.specs.Events.{Reads}
use Rattle.capexplain.specs.Faults.{HasFault}
use Rattle.texts.specs.ScriptLines.{is_skipped}
use Rattle.capexplain.specs.Words.{words}
use Rattle.cli.specs.declared.serve_fault.ServeFault.{ServeFault}
use Rattle.cli.specs.declared.serve_fault.ServeFault.TheVariants.{Clients, HistoryFull, NoThread, Script}
use Rattle.cli.specs.declared.plan.Job.{Job}
use Rattle.cli.specs.declared.plan.Plan.{Plan}

-- what a client calls, in order
pub record Calls : Type 0 where
  pub client : ClientId
  pub events : List Event

-- the events before the line `threads`; whether there was one; and what each client calls behind it, the clients by first line
pub record Work : Type 0 where
  pub first : List Event
  pub threaded : Bool
  pub jobs : List Calls

abbrev pub calls_by : ClientId → List Event → Calls
calls_by client events = record { client = client; events = events }

abbrev pub calls_of : Job → Calls
calls_of job = calls_by job.client job.events.items

abbrev pub work_of : Plan → Work
work_of plan = record { first = plan.first.items; threaded = plan.threaded; jobs = map calls_of plan.jobs.items }

abbrev pub no_work : Work
no_work = record { first = []; threaded = false; jobs = [] }

-- how many events there are
abbrev pub job_events : List Calls → ℕ
job_events jobs = sum_by (λ job. length job.events) jobs

abbrev pub event_count : Work → ℕ
event_count work = length work.first + job_events work.jobs

-- ---- one more event of a client

abbrev pub is_of : ClientId → Calls → Bool
is_of client job = job.client.0 == client.0

abbrev pub is_known : ClientId → List Calls → Bool
is_known client jobs = list_any (is_of client) jobs

-- its job has one event more, behind the others; a client without a job gets one, behind the others
abbrev pub with_event : ClientId → Event → List Calls → List Calls
with_event client event [] = calls_by client (event ∷ []) ∷ []
with_event client event (job ∷ jobs) = if is_of client job then calls_by job.client (job.events ++ event ∷ []) ∷ jobs else job ∷ with_event client event jobs

-- how many clients may have lines behind the line `threads`
abbrev pub most_clients : ℕ
most_clients = 31

-- ---- one line

-- the event is one for the first pass before the line `threads`, and behind it one for its client, for whom there is room
abbrev pub Adds : Work → Event → Work → Type 0
Adds old event new =
    (IsFalse old.threaded × (new ≡ record old { first = old.first ++ event ∷ [] }))
    ⊎ (IsTrue old.threaded × ((client : ClientId) × (client_of event ≡ Some client)
    × (new ≡ record old { jobs = with_event client event old.jobs }) × (length new.jobs ≤ most_clients)))

-- what a line gives that is not `threads`: nothing where it is skipped, or an event
abbrev pub TakesEvent : Work → List ℕ → Work → Type 0
TakesEvent old line new =
    (IsTrue (is_skipped line) × (new ≡ old))
    ⊎ ((event : Event) × Reads line event × Adds old event new)

-- the line `threads`, the first one, or another line
abbrev pub Takes : Work → List ℕ → Work → Type 0
Takes old line new =
    ((line ≡ codes "threads") × IsFalse old.threaded × (new ≡ record old { threaded = true }))
    ⊎ TakesEvent old line new

-- all lines, one after the other
abbrev pub TakesAll : Work → List (List ℕ) → Work → Type 0
TakesAll old [] new = new ≡ old
TakesAll old (line ∷ more) new = (mid : Work) × Takes old line mid × TakesAll mid more new

-- ---- faults

abbrev pub first_of : List ℕ → List (List ℕ) → List ℕ
first_of otherwise [] = otherwise
first_of otherwise (word ∷ more) = word

-- the first word of a line
abbrev pub first_word : List ℕ → List ℕ
first_word line = first_of line (words line)

abbrev pub begins_with : List ℕ → List ℕ → Bool
begins_with word line = bytes_eq (first_word line) word

-- how a line is read
pub data Sort : Type 0 where
  -- as the line that begins the threads
  Threads : Sort
  -- as a recall behind it, which no client says
  Nobodys : Sort
  -- as one of a run
  Plain : Sort

-- by whether threads have begun, and by its first word
abbrev pub sort_of : Bool → List ℕ → Sort
sort_of false line = if begins_with (codes "threads") line then Threads else Plain
sort_of true line = if begins_with (codes "recall") line then Nobodys else Plain

-- which fault a line of this sort has
abbrev pub HasKind : Sort → List ℕ → LineFault → Type 0
HasKind Threads line kind = (line ≢ codes "threads") × (kind ≡ kinds.Count)
HasKind Nobodys line kind = kind ≡ kinds.Command
HasKind Plain line kind = HasFault line kind

-- a line of a client that is one too many
pub record IsTooMany (old : Work) (line : List ℕ) : Type 0 where
  pub event : Event
  pub client : ClientId
  pub reads : Reads line event
  pub of : client_of event ≡ Some client
  pub threaded : IsTrue old.threaded
  pub new : IsFalse (is_known client old.jobs)
  pub many : length old.jobs ≡ most_clients

-- why a line of this sort and with this number gave nothing
abbrev pub IsFaultBy : Sort → Work → ℕ → List ℕ → ServeFault → Type 0
IsFaultBy sort old number line (Script (stops.LineFault at kind)) = (at ≡ number) × HasKind sort line kind
IsFaultBy sort old number line (Script stops.NoMemory) = (event : Event) × Reads line event
IsFaultBy sort old number line (Script stops.ReadFault) = ⊥
IsFaultBy sort old number line (Script stops.WriteFault) = ⊥
IsFaultBy sort old number line (Clients at) = (at ≡ number) × IsTooMany old line
IsFaultBy sort old number line HistoryFull = ⊥
IsFaultBy sort old number line NoThread = ⊥

abbrev pub IsFaultAt : Work → ℕ → List ℕ → ServeFault → Type 0
IsFaultAt old number line fault = IsFaultBy (sort_of old.threaded line) old number line fault

-- the first line that gave nothing, by its number
abbrev pub StopsAt : Work → ℕ → List (List ℕ) → ServeFault → Type 0
StopsAt old number [] fault = ⊥
StopsAt old number (line ∷ more) fault = IsFaultAt old number line fault ⊎ ((mid : Work) × Takes old line mid × StopsAt mid (number + 1) more fault)
