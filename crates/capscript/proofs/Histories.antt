-- Histories that grow by one row, for scripts that grow by one line.
use Rattle.std.proofs.Common.{◌≡◌, ℕ, ◌+◌, ◌<◌, ◌≤◌, Bool, true, false, cond, not, List, [], ◌∷◌, ◌++◌, length, map, refl, sym, ap, ◌∙◌, subst, arith, inl}
use Rattle.std.proofs.Common.{inr, append_assoc, length-append}
use Rattle.std.specs.Prelude.{◌⊎◌, ◌≢◌, IsTrue, IsFalse, filter, Option, Some, None, IfSome, Result, Ok, Err, OnOk, OnErr, IfErr, IsErrAnd}
use Rattle.std.specs.Io.KnownBytes.{Appends, Consumes, IsAtEnd}
use Rattle.std.specs.List.{AllByRecursion}
use Rattle.std.proofs.lemmas.List.{append-nil, map-append}
use Rattle.std.proofs.lemmas.List.Concat.{flat_map-append}
use Rattle.inotree.specs.Calls.{first_tree}
use Rattle.capstep.specs.declared.event.Event.{Event}
use Rattle.capstep.specs.declared.row.Row.{Row}
use Rattle.capstep.specs.Numbers.{AreNumbered, rows_of}
use Rattle.capstep.specs.History.{CoreValue, IsOpening, Replays}
use Rattle.capbits.specs.declared.ids.ClientId.{ClientId}
use Rattle.capexplain.specs.Events.{Reads}
use Rattle.capexplain.specs.Faults.{IsStop}
use Rattle.texts.specs.declared.fault.ScriptFault.{ScriptFault}
use Rattle.texts.specs.declared.fault.ScriptFault.TheVariants as stops
use Rattle.texts.specs.ScriptLines.{is_skipped, lines}
use Rattle.capexplain.specs.Replies.{reply_text}
use Rattle.capscript.specs.Transcript.{Answered, Answers, AnswersLine, IsTranscript, LinesSay, Ran, StopsIn, fs_name, replies_text, root_attr}
use Rattle.capcore.proofs.Growing.{replays-more}
use Rattle.capstep.proofs.Numbered.{numbered-nil, numbered-snoc}
use Rattle.capexplain.proofs.SaidLines.{not_skipped}
use Rattle.texts.proofs.KnownBytes.{appends_more, appends_same, none_appended}

-- ---- lines

filter_last : (keep : List ℕ → Bool) (xs : List (List ℕ)) (x : List ℕ) → filter keep (xs ++ x ∷ []) ≡ filter keep xs ++ cond (keep x) (x ∷ []) []
filter_last keep [] x = elim (keep x) as (λ b. cond b (x ∷ []) [] ≡ cond b (x ∷ []) []) [ true ↦ refl | false ↦ refl ]
filter_last keep (y ∷ xs) x =
    elim (keep y) as (λ b. cond b (y ∷ filter keep (xs ++ x ∷ [])) (filter keep (xs ++ x ∷ [])) ≡ cond b (y ∷ filter keep xs) (filter keep xs) ++ cond (keep x) (x ∷ []) []) [
      | true ↦ ap (λ (t : List (List ℕ)). y ∷ t) (filter_last keep xs x)
      | false ↦ filter_last keep xs x
    ]

abbrev counts : List ℕ → Bool
counts line = not (is_skipped line)

all_and_last : (said : List (List ℕ × Event)) (one : List ℕ × Event) → AllByRecursion (λ line. Reads line.0 line.1) said → Reads one.0 one.1 → AllByRecursion (λ line. Reads line.0 line.1) (said ++ one ∷ [])
all_and_last [] one all is = (is, tt)
all_and_last (s ∷ said) one all is = (all.0, all_and_last said one all.1 is)

say_none : LinesSay [] []
say_none = record { said = []; lines_are = refl; events_are = refl; each = tt }

say_skipped : (before : List (List ℕ)) (events : List Event) (line : List ℕ) → LinesSay before events → IsTrue (is_skipped line) → LinesSay (before ++ line ∷ []) events
say_skipped before events line say skipped = record {
  said = say.said;
  lines_are = say.lines_are ∙ sym (append-nil (filter counts before)) ∙ ap (λ (b : Bool). filter counts before ++ cond (not b) (line ∷ []) []) (sym skipped) ∙ sym (filter_last counts before line);
  events_are = say.events_are;
  each = say.each;
}

say_more : (before : List (List ℕ)) (events : List Event) (line : List ℕ) (event : Event) → LinesSay before events → Reads line event → LinesSay (before ++ line ∷ []) (events ++ event ∷ [])
say_more before events line event say reads = record {
  said = say.said ++ (line, event) ∷ [];
  lines_are = map-append (λ (l : List ℕ × Event). l.0) say.said ((line, event) ∷ []) ∙ ap (λ (t : List (List ℕ)). t ++ line ∷ []) say.lines_are ∙ ap (λ (b : Bool). filter counts before ++ cond (not b) (line ∷ []) []) (sym (not_skipped line event reads)) ∙ sym (filter_last counts before line);
  events_are = map-append (λ (l : List ℕ × Event). l.1) say.said ((line, event) ∷ []) ∙ ap (λ (t : List Event). t ++ event ∷ []) say.events_are;
  each = all_and_last say.said (line, event) say.each reads;
}

-- ---- a script that ran so far

pub record Runs (first : CoreValue) (before : List (List ℕ)) (now : CoreValue) : Type 0 where
  pub replays : Replays first.state now.rows now.state
  pub numbered : AreNumbered now.rows
  pub say : LinesSay before (map (λ (row : Row). row.event) now.rows)
  pub few : length now.rows ≤ length before
  pub room : now.max_rows ≡ first.max_rows

pub runs_none : (first : CoreValue) → first.rows ≡ [] → Runs first [] first
runs_none first none = record {
  replays = subst (λ (rows : List Row). Replays first.state rows first.state) (sym none) refl;
  numbered = subst (λ (rows : List Row). AreNumbered rows) (sym none) numbered-nil;
  say = subst (λ (rows : List Row). LinesSay [] (map (λ (row : Row). row.event) rows)) (sym none) say_none;
  few = omega (arith, ap length none);
  room = refl;
}

pub runs_skipped : (first now : CoreValue) (before : List (List ℕ)) (line : List ℕ) → Runs first before now → IsTrue (is_skipped line) → Runs first (before ++ line ∷ []) now
runs_skipped first now before line ran skipped = record {
  replays = ran.replays;
  numbered = ran.numbered;
  say = say_skipped before (map (λ (row : Row). row.event) now.rows) line ran.say skipped;
  few = omega (arith, ran.few, length-append before (line ∷ []));
  room = ran.room;
}

pub runs_more : (first now next : CoreValue) (before : List (List ℕ)) (line text : List ℕ) (event : Event) → Runs first before now → Reads line event → Answers now event next text → Runs first (before ++ line ∷ []) next
runs_more first now next before line text event ran reads answered =
    let is = answered.next in
    let row : Row = record { pass = record { 0 = 1 }; nth = rows_of (record { 0 = 1 }) now.rows + 1; event = event; reply = answered.reply; ended = is.ended } in
    record {
      replays = rw is.rows (replays-more first.state now.rows now.state row next.state ran.replays (is.moves, is.step));
      numbered = rw is.rows (numbered-snoc now.rows row ran.numbered refl);
      say = rw (is.rows, map-append (λ (r : Row). r.event) now.rows (row ∷ [])) (say_more before (map (λ (r : Row). r.event) now.rows) line event ran.say reads);
      few = omega (arith, ran.few, length-append before (line ∷ []), ap length is.rows, length-append now.rows (row ∷ []));
      room = is.max_rows ∙ ran.room;
    }

pub texts_more : (now next : CoreValue) (event : Event) (text : List ℕ) → Answers now event next text → replies_text next.rows ≡ replies_text now.rows ++ text
texts_more now next event text answered =
    let is = answered.next in
    let row : Row = record { pass = record { 0 = 1 }; nth = rows_of (record { 0 = 1 }) now.rows + 1; event = event; reply = answered.reply; ended = is.ended } in
    ap replies_text is.rows ∙ flat_map-append (λ (r : Row). reply_text r.reply) now.rows (row ∷ []) ∙ ap (λ (t : List ℕ). replies_text now.rows ++ t) (append-nil (reply_text answered.reply) ∙ sym answered.text_is)

pub transcript_of : (first now : CoreValue) (before : List (List ℕ)) → IsOpening fs_name (first_tree root_attr) first.state → Runs first before now → IsTranscript before (replies_text now.rows)
transcript_of first now before opens ran = record {
  opening = first.state;
  rows = now.rows;
  last = now.state;
  opens = opens;
  legal = record { replays = ran.replays; numbered = ran.numbered };
  say = ran.say;
  text_is = refl;
}

-- what is known when so many lines were answered
pub record SoFar (first now : CoreValue) (script rest : List ℕ) (number : ℕ) (old new : Option (List ℕ)) : Type 0 where
  pub before : List (List ℕ)
  pub order : lines script ≡ before ++ lines rest
  pub number_is : number ≡ length before + 1
  pub left : number + length rest ≤ length script + 1
  pub ran : Runs first before now
  pub written : Appends old new (replies_text now.rows)

pub so_far_none : (first : CoreValue) (script : List ℕ) (known : Option (List ℕ)) → first.rows ≡ [] → SoFar first first script script 1 known known
so_far_none first script known none = record {
  before = [];
  order = refl;
  number_is = refl;
  left = omega arith;
  ran = runs_none first none;
  written = subst (λ (rows : List Row). Appends known known (replies_text rows)) (sym none) (none_appended known);
}

longer : (before : List (List ℕ)) (line : List ℕ) (all script rest : List (List ℕ)) → script ≡ before ++ all → all ≡ line ∷ rest → script ≡ (before ++ line ∷ []) ++ rest
longer before line all script rest order next = order ∙ ap (λ (t : List (List ℕ)). before ++ t) next ∙ sym (append_assoc before (line ∷ []) rest)

texts_same : (now next : CoreValue) (text : List ℕ) → next ≡ now → text ≡ [] → replies_text now.rows ++ text ≡ replies_text next.rows
texts_same now next text same none = ap (λ (t : List ℕ). replies_text now.rows ++ t) none ∙ append-nil (replies_text now.rows) ∙ ap (λ (t : CoreValue). replies_text t.rows) (sym same)

-- after a line
runs_line : (first now next : CoreValue) (before : List (List ℕ)) (line text : List ℕ) → Runs first before now → AnswersLine now line next text → Runs first (before ++ line ∷ []) next
runs_line first now next before line text ran (inl skipped) = subst (λ (t : CoreValue). Runs first (before ++ line ∷ []) t) (sym skipped.1) (runs_skipped first now before line ran skipped.0)
runs_line first now next before line text ran (inr said) = runs_more first now next before line text said.0 ran said.1 said.2

texts_line : (now next : CoreValue) (line text : List ℕ) → AnswersLine now line next text → replies_text now.rows ++ text ≡ replies_text next.rows
texts_line now next line text (inl skipped) = texts_same now next text skipped.1 skipped.2
texts_line now next line text (inr said) = sym (texts_more now next said.0 text said.2)

pub so_far_more : (first now next : CoreValue) (script rest line behind text : List ℕ) (number : ℕ) (old mid new : Option (List ℕ)) → SoFar first now script rest number old mid → lines rest ≡ line ∷ lines behind → length behind < length rest
    → AnswersLine now line next text → Appends mid new text → SoFar first next script behind (number + 1) old new
so_far_more first now next script rest line behind text number old mid new so cut shorter answered appended = record {
  before = so.before ++ line ∷ [];
  order = longer so.before line (lines rest) (lines script) (lines behind) so.order cut;
  number_is = omega (arith, so.number_is, length-append so.before (line ∷ []));
  left = omega (arith, so.left, shorter);
  ran = runs_line first now next so.before line text so.ran answered;
  written = appends_same old new (replies_text now.rows ++ text) (replies_text next.rows) (texts_line now next line text answered) (appends_more old mid new (replies_text now.rows) text so.written appended);
}

-- a line stops the script
pub stopped : (T : Type 0) (first now next : CoreValue) (script rest line text : List ℕ) (after : List (List ℕ)) (number : ℕ) (old mid new : Option (List ℕ)) (fault : ScriptFault) → IsOpening fs_name (first_tree root_attr) first.state → SoFar first now script rest number old mid
    → lines rest ≡ line ∷ after → StopsIn now number line fault next text → Appends mid new text → (t : List ℕ) × Answered {T = T} (lines script) (Err fault) t × Appends old new t
stopped T first now next script rest line text after number old mid new (stops.LineFault at kind) opens so cut why appended = (
  replies_text now.rows,
  record { before = so.before; bad = line; after = after; order = so.order ∙ ap (λ (t : List (List ℕ)). so.before ++ t) cut; line_is = why.0 ∙ so.number_is; fault = why.1; transcript = transcript_of first now so.before opens so.ran },
  appends_same old new (replies_text now.rows ++ text) (replies_text now.rows) (texts_same now now text refl why.2) (appends_more old mid new (replies_text now.rows) text so.written appended),
)
stopped T first now next script rest line text after number old mid new stops.NoMemory opens so cut why appended = (
  replies_text now.rows,
  record { before = so.before; line = line; after = after; order = so.order ∙ ap (λ (t : List (List ℕ)). so.before ++ t) cut; event = why.0; reads = why.1; transcript = transcript_of first now so.before opens so.ran },
  appends_same old new (replies_text now.rows ++ text) (replies_text now.rows) (texts_same now now text refl why.2) (appends_more old mid new (replies_text now.rows) text so.written appended),
)
stopped T first now next script rest line text after number old mid new stops.WriteFault opens so cut why appended =
    let event = why.0 in
    let left = why.2.0 in
    let whole : replies_text next.rows ≡ (replies_text now.rows ++ text) ++ left = texts_more now next event (text ++ left) why.2.1 ∙ sym (append_assoc (replies_text now.rows) text left) in (
      replies_text now.rows ++ text,
      record {
        front = so.before ++ line ∷ [];
        after = after;
        order = longer so.before line (lines rest) (lines script) after so.order cut;
        unwritten = left;
        transcript = subst (IsTranscript (so.before ++ line ∷ [])) whole (transcript_of first next (so.before ++ line ∷ []) opens (runs_more first now next so.before line (text ++ left) event so.ran why.1 why.2.1));
      },
      appends_more old mid new (replies_text now.rows) text so.written appended,
    )
stopped T first now next script rest line text after number old mid new stops.ReadFault opens so cut why appended = absurd why

-- the same, by the answer that tells of it
pub stopped_by : (T : Type 0) (first now next : CoreValue) (script rest line : List ℕ) (after : List (List ℕ)) (number : ℕ) (old mid new : Option (List ℕ)) (fault : ScriptFault) (result : Result T ScriptFault) → IsErrAnd result (λ reported. reported ≡ fault)
    → IsOpening fs_name (first_tree root_attr) first.state → SoFar first now script rest number old mid → lines rest ≡ line ∷ after → (text : List ℕ) × StopsIn now number line fault next text × Appends mid new text → (t : List ℕ) × Answered (lines script) result t × Appends old new t
stopped_by T first now next script rest line after number old mid new fault (Ok done) reported opens so cut why = absurd reported
stopped_by T first now next script rest line after number old mid new fault (Err same) reported opens so cut why = rw reported (stopped T first now next script rest line why.0 after number old mid new fault opens so cut why.1 why.2)

-- the last line
pub last_line : (T : Type 0) (first now next : CoreValue) (script rest line : List ℕ) (number : ℕ) (old mid new : Option (List ℕ)) (result : Result T ScriptFault) → IsOpening fs_name (first_tree root_attr) first.state → SoFar first now script rest number old mid → lines rest ≡ line ∷ []
    → OnOk result ((text : List ℕ) × AnswersLine now line next text × Appends mid new text) → IfErr result (λ fault. (text : List ℕ) × StopsIn now number line fault next text × Appends mid new text) → (t : List ℕ) × Answered (lines script) result t × Appends old new t
last_line T first now next script rest line number old mid new (Ok done) opens so cut ok err =
    let all : so.before ++ line ∷ [] ≡ lines script = sym (so.order ∙ ap (λ (t : List (List ℕ)). so.before ++ t) cut) in (
      replies_text next.rows,
      subst (λ (ls : List (List ℕ)). IsTranscript ls (replies_text next.rows)) all (transcript_of first next (so.before ++ line ∷ []) opens (runs_line first now next so.before line ok.0 so.ran ok.1)),
      appends_same old new (replies_text now.rows ++ ok.0) (replies_text next.rows) (texts_line now next line ok.0 ok.1) (appends_more old mid new (replies_text now.rows) ok.0 so.written ok.2),
    )
last_line T first now next script rest line number old mid new (Err fault) opens so cut ok err = stopped T first now next script rest line err.0 [] number old mid new fault opens so cut err.1 err.2

-- there is room for another row
pub room_left : (first now : CoreValue) (script rest : List ℕ) (number : ℕ) (old new : Option (List ℕ)) → SoFar first now script rest number old new → length script ≤ 16777216 → first.max_rows ≡ 4294967295 → length now.rows < now.max_rows
room_left first now script rest number old new so short room = omega (arith, so.number_is, so.left, so.ran.few, so.ran.room, short, room)

-- ---- before any line

-- why nothing was run: reading failed, or memory was missed before the end was read
abbrev pub IsEarly : Bool → ScriptFault → Type 0
IsEarly ended fault = (fault ≡ stops.ReadFault) ⊎ ((fault ≡ stops.NoMemory) × IsFalse ended)

-- then nothing was written
nothing_ran : (T : Type 0) (script : List ℕ) (ended : Bool) (known : Option (List ℕ)) (fault : ScriptFault) (result : Result T ScriptFault) → IsErrAnd result (λ reported. reported ≡ fault) → IsEarly ended fault → (t : List ℕ) × Ran script ended result t × Appends known known t
nothing_ran T script ended known fault (Ok done) reported why = absurd reported
nothing_ran T script ended known fault (Err same) reported (inl read) = ([], rw (reported, read) refl, none_appended known)
nothing_ran T script ended known fault (Err same) reported (inr missed) = ([], rw (reported, missed.0, missed.1) refl, none_appended known)

pub early_fault : {T : Type 0} (result : Result T ScriptFault) (fault : ScriptFault) (ended : Bool) → result ≡ Err fault → (result ≡ Err stops.ReadFault) ⊎ (result ≡ Err stops.NoMemory) → (result ≡ Err stops.NoMemory → IsFalse ended) → IsEarly ended fault
early_fault result fault ended same (inl is) unseen = inl (cc)
early_fault result fault ended same (inr is) unseen = inr (cc, unseen is)

pub known_ran : (T : Type 0) (remaining known : Option (List ℕ)) (ended : Bool) (fault : ScriptFault) (result : Result T ScriptFault) → IsErrAnd result (λ reported. reported ≡ fault) → IsEarly ended fault → IfSome remaining (λ script. (t : List ℕ) × Ran script ended result t × Appends known known t)
known_ran T None known ended fault result reported why = tt
known_ran T (Some script) known ended fault result reported why = nothing_ran T script ended known fault result reported why

-- ---- behind the end

-- what the lines were answered is what was run, where the script was read to its end
answered_ran : {T : Type 0} (script : List ℕ) (ended : Bool) (result : Result T ScriptFault) (text : List ℕ) → IsTrue ended → result ≢ Err stops.ReadFault → Answered (lines script) result text → Ran script ended result text
answered_ran script ended (Ok done) text seen read is = is
answered_ran script ended (Err (stops.LineFault line kind)) text seen read is = is
answered_ran script ended (Err stops.WriteFault) text seen read is = is
answered_ran script ended (Err stops.NoMemory) text seen read is = rw seen is
answered_ran script ended (Err stops.ReadFault) text seen read is = absurd (read refl)

pub whole_ran : {T : Type 0} (remaining rest old new : Option (List ℕ)) (script : List ℕ) (ended : Bool) (result : Result T ScriptFault) → Consumes remaining rest script → IsAtEnd rest → IsTrue ended → result ≢ Err stops.ReadFault
    → (t : List ℕ) × Answered (lines script) result t × Appends old new t → IfSome remaining (λ all. (t : List ℕ) × Ran all ended result t × Appends old new t)
whole_ran None rest old new script ended result taken end seen read ran = tt
whole_ran (Some all) None old new script ended result taken end seen read ran = absurd taken
whole_ran (Some all) (Some rest) old new script ended result taken end seen read ran =
    let same : all ≡ script = taken ∙ ap (λ (t : List ℕ). script ++ t) end ∙ append-nil script in
    (ran.0, subst (λ (t : List ℕ). Ran t ended result ran.0) (sym same) (answered_ran script ended result ran.0 seen read ran.1), ran.2)

-- ---- an answered event as the answer to its line

pub event_answered : {T : Type 0} (now next : CoreValue) (line : List ℕ) (event : Event) (old new : Option (List ℕ)) (result : Result T ScriptFault) → Reads line event → OnOk result ((text : List ℕ) × Answers now event next text × Appends old new text)
    → OnOk result ((text : List ℕ) × AnswersLine now line next text × Appends old new text)
event_answered now next line event old new (Ok done) reads ok = (ok.0, inr (event, reads, ok.1), ok.2)
event_answered now next line event old new (Err fault) reads ok = tt

pub event_stopped : {T : Type 0} (now next : CoreValue) (number : ℕ) (line : List ℕ) (event : Event) (old new : Option (List ℕ)) (result : Result T ScriptFault) → Reads line event → OnErr result ((result ≡ Err stops.WriteFault) ⊎ (result ≡ Err stops.NoMemory)) → (result ≡ Err stops.NoMemory → Appends old new [])
    → (result ≡ Err stops.WriteFault → (text left : List ℕ) × Answers now event next (text ++ left) × Appends old new text) → IfErr result (λ fault. (text : List ℕ) × StopsIn now number line fault next text × Appends old new text)
event_stopped now next number line event old new (Ok done) reads kinds memory written = tt
event_stopped now next number line event old new (Err stops.NoMemory) reads kinds memory written = ([], (event, reads, refl), memory refl)
event_stopped now next number line event old new (Err stops.WriteFault) reads kinds memory written = let took = written refl in (took.0, (event, reads, (took.1, took.2)), took.3)
event_stopped now next number line event old new (Err stops.ReadFault) reads kinds memory written = absurd (elim kinds [ inl is ↦ cc | inr is ↦ cc ])
event_stopped now next number line event old new (Err (stops.LineFault at kind)) reads kinds memory written = absurd (elim kinds [ inl is ↦ cc | inr is ↦ cc ])

pub read_said : (found : Option (Option ClientId × Event)) (line : List ℕ) (client : Option ClientId) (event : Event) → IfSome found (λ said. Reads line said.1) → found ≡ Some (client, event) → Reads line event
read_said None line client event said is = absurd (cc)
read_said (Some pair) line client event said is = let same : pair ≡ (client, event) = cc in subst (λ (p : Option ClientId × Event). Reads line p.1) same said

-- no event was answered: the line's own stop
pub stopped_unread : {T : Type 0} (now : CoreValue) (number : ℕ) (line : List ℕ) (known : Option (List ℕ)) (fault : ScriptFault) (result : Result T ScriptFault) → IsErrAnd result (λ reported. reported ≡ fault) → IsStop number line fault
    → IfErr result (λ reported. (text : List ℕ) × StopsIn now number line reported now text × Appends known known text)
stopped_unread now number line known fault (Ok done) reported stop = tt
stopped_unread now number line known (stops.LineFault at kind) (Err same) reported stop = ([], rw reported (stop.0, stop.1, refl), none_appended known)
stopped_unread now number line known stops.NoMemory (Err same) reported stop = ([], rw reported (stop.0, stop.1, refl), none_appended known)
stopped_unread now number line known stops.ReadFault (Err same) reported stop = absurd stop
stopped_unread now number line known stops.WriteFault (Err same) reported stop = absurd stop
