-- A log that is told of as it is read.
use Rattle.std.proofs.Common.{◌≡◌, ℕ, ◌+◌, ◌<◌, List, [], ◌++◌, length, Option, Some, None, inl, inr, refl, subst, sym, ◌∙◌, arith, length-append}
use Rattle.std.specs.Io.KnownBytes.{Appends, Consumes, IsAtEnd}
use Rattle.std.specs.Prelude.{Bool, IfErr, IfOk, IsErrAnd, IsTrue, Ok, OnOk, Err, Result}
use Rattle.capspec.specs.Names.{IsFsName}
use Rattle.texts.specs.declared.fault.ScriptFault.TheVariants as stops
use Rattle.texts.proofs.KnownBytes.{appends_more, appends_same, appends_stay, consumed_is_there, consumes_nothing, consumes_more, none_appended, none_consumed}
use Rattle.queries.specs.Reported.{Item, Scope, start, text_of}
use Rattle.queries.specs.Reported.AreReported.{no_more}
use Rattle.queries.specs.LogPieces.{HasTold, Teller, TellsEnd, told_now}
use Rattle.queries.proofs.CountedLog.{none_counted, nothing_now, now_more}
use Rattle.queries.proofs.LogPieces.{all_of_log, piece_more}
use Rattle.cli_queries.specs.declared.fault.AnswerFault.{AnswerFault}
use Rattle.cli_queries.specs.declared.fault.AnswerFault.TheVariants.{Unread}
use Rattle.cli_queries.specs.Logging.{AnswersLog, IsUnnamed, StopsLog, StopsTelling, TellsFirst, TellsLog, WritesEnd, WritesPiece, longest_log, status_of}
use Rattle.cli_queries.proofs.WhoAnswered.{all_of}

-- what is known when so many bytes were read
pub record SoFar (scope : Scope) (input now old new : Option (List ℕ)) (size : ℕ) (t : Teller) : Type 0 where
  pub taken : List ℕ
  pub items : List Item
  pub consumed : Consumes input now taken
  pub written : Appends old new (told_now scope (text_of scope items))
  pub tells : HasTold scope taken items t
  pub sized : length taken ≡ size

nothing_told : (scope : Scope) → HasTold scope [] [] (record { state = start; counted = []; unfinished = [] })
nothing_told scope = record { ended = []; parted = refl; reported_are = no_more; counted_are = none_counted scope; left = omega arith; few = omega arith }

pub begun : (scope : Scope) (input old : Option (List ℕ)) (t : Teller) → t ≡ record { state = start; counted = []; unfinished = [] } → SoFar scope input input old old 0 t
begun scope input old t is = record {
  taken = [];
  items = [];
  consumed = none_consumed input;
  written = subst (λ (text : List ℕ). Appends old old text) (sym (nothing_now scope)) (none_appended old);
  tells = subst (λ (u : Teller). HasTold scope [] [] u) (sym is) (nothing_told scope);
  sized = refl;
}

pub one_more : (scope : Scope) (input now next old mid new : Option (List ℕ)) (size after : ℕ) (t u : Teller) (piece : List ℕ) → SoFar scope input now old mid size t → Consumes now next piece → WritesPiece scope t piece u mid new
    → after ≡ size + length piece → SoFar scope input next old new after u
one_more scope input now next old mid new size after t u piece so read wrote larger = record {
  taken = so.taken ++ piece;
  items = so.items ++ wrote.0;
  consumed = consumes_more input now next so.taken piece so.consumed read;
  written = subst (λ (text : List ℕ). Appends old new text) (sym (now_more scope so.items wrote.0))
      (appends_more old mid new (told_now scope (text_of scope so.items)) (told_now scope (text_of scope wrote.0)) so.written wrote.2);
  tells = piece_more scope so.taken piece so.items wrote.0 t u so.tells wrote.1;
  sized = omega (arith, length-append so.taken piece, so.sized, larger);
}

-- what was written when it stopped
pub tells_first : (scope : Scope) (input now old new : Option (List ℕ)) (size : ℕ) (t : Teller) → SoFar scope input now old new size t → TellsFirst scope input old new
tells_first scope None now old new size t so = tt
tells_first scope (Some log) None old new size t so = absurd so.consumed
tells_first scope (Some log) (Some left) old new size t so = (so.taken, left, so.items, t, so.consumed, so.tells, so.written)

-- all was read, and told
log_reported : (scope : Scope) (input now left old mid new : Option (List ℕ)) (size : ℕ) (t : Teller) (status : ℕ) → IsFsName scope.fs → SoFar scope input now old mid size t → Consumes now left [] → IsAtEnd left → WritesEnd scope t status mid new
    → AnswersLog scope input status old new
log_reported scope input now left old mid new size t status named so read end wrote = record {
  named = named;
  reported = all_of (λ (log : List ℕ). (lines : List ℕ) × TellsLog scope log status lines × Appends old new lines) input left so.taken (consumes_nothing input now left so.taken [] so.consumed read refl) end (
    told_now scope (text_of scope so.items) ++ wrote.0,
    (wrote.1, all_of_log scope so.taken wrote.0 so.items t wrote.1 so.tells wrote.2, wrote.4),
    appends_more old mid new (told_now scope (text_of scope so.items)) wrote.0 so.written wrote.3,
  );
}

pub all_told : (scope : Scope) (input now left old mid new : Option (List ℕ)) (size : ℕ) (t : Teller) (piece : List ℕ) (result : Result ℕ AnswerFault) → IsFsName scope.fs → SoFar scope input now old mid size t → Consumes now left piece → piece ≡ [] → IsAtEnd left
    → IfOk result (λ status. WritesEnd scope t status mid new) → IfOk result (λ status. AnswersLog scope input status old new)
all_told scope input now left old mid new size t piece (Ok status) named so read none end wrote =
    log_reported scope input now left old mid new size t status named so (subst (λ (bytes : List ℕ). Consumes now left bytes) none read) end wrote
all_told scope input now left old mid new size t piece (Err fault) named so read none end wrote = tt

pub both_clear : {T : Type 0} (A B : Type 0) (result : Result T AnswerFault) → A → OnOk result B → OnOk result (A × B)
both_clear A B (Ok x) one other = (one, other)
both_clear A B (Err fault) one other = tt

-- ---- where it stops

stops_by : (scope : Scope) (input now old mid new : Option (List ℕ)) (size : ℕ) (t : Teller) (unread unwritten : Bool) (fault : AnswerFault) → SoFar scope input now old mid size t → StopsTelling fault unwritten mid new → StopsLog scope fault input unread unwritten old new
stops_by scope input now old mid new size t unread unwritten fault so (inl missed) =
    let still : SoFar scope input now old new size t = record {
      taken = so.taken;
      items = so.items;
      consumed = so.consumed;
      written = appends_stay old mid new (told_now scope (text_of scope so.items)) so.written missed.1;
      tells = so.tells;
      sized = so.sized;
    } in
    inr (inl (inr missed.0, tells_first scope input now old new size t still))
stops_by scope input now old mid new size t unread unwritten fault so (inr wrote) = inr (inr wrote)

pub stops_at_end : {T : Type 0} (scope : Scope) (input now old mid new : Option (List ℕ)) (size : ℕ) (t : Teller) (unread unwritten : Bool) (result : Result T AnswerFault) → SoFar scope input now old mid size t
    → IfErr result (λ fault. StopsTelling fault unwritten mid new) → IfErr result (λ fault. StopsLog scope fault input unread unwritten old new)
stops_at_end scope input now old mid new size t unread unwritten (Ok x) so why = tt
stops_at_end scope input now old mid new size t unread unwritten (Err fault) so why = stops_by scope input now old mid new size t unread unwritten fault so why

pub stops_in_between : {T : Type 0} (scope : Scope) (input now old mid new : Option (List ℕ)) (size : ℕ) (t : Teller) (unread unwritten : Bool) (fault : AnswerFault) (result : Result T AnswerFault) → SoFar scope input now old mid size t
    → IsErrAnd result (λ told. told ≡ fault) → StopsTelling fault unwritten mid new → IfErr result (λ told. StopsLog scope told input unread unwritten old new)
stops_in_between scope input now old mid new size t unread unwritten fault (Ok x) so told why = absurd told
stops_in_between scope input now old mid new size t unread unwritten fault (Err found) so told why =
    subst (λ (f : AnswerFault). StopsLog scope f input unread unwritten old new) (sym told) (stops_by scope input now old mid new size t unread unwritten fault so why)

-- a read failed
pub stops_unread : (scope : Scope) (input now old new : Option (List ℕ)) (size : ℕ) (t : Teller) (unread unwritten : Bool) → SoFar scope input now old new size t → IsTrue unread → StopsLog scope (Unread stops.ReadFault) input unread unwritten old new
stops_unread scope input now old new size t unread unwritten so failed = inr (inl (inl (refl, inl failed), tells_first scope input now old new size t so))

-- there is more of it than a log may have
pub stops_too_long : (scope : Scope) (input now old new : Option (List ℕ)) (size : ℕ) (t : Teller) (unread unwritten : Bool) → SoFar scope input now old new size t → longest_log < size → StopsLog scope (Unread stops.ReadFault) input unread unwritten old new
stops_too_long scope input now old new size t unread unwritten so more =
    inr (inl (inl (refl, inr (consumed_is_there input now so.taken longest_log so.consumed (omega (arith, so.sized, more)))), tells_first scope input now old new size t so))

-- no file system has the name
pub unnamed : {T : Type 0} (scope : Scope) (input known : Option (List ℕ)) (unread unwritten : Bool) (fault : AnswerFault) (result : Result T AnswerFault) → IsErrAnd result (λ told. told ≡ fault) → IsUnnamed scope.fs fault
    → IfErr result (λ told. StopsLog scope told input unread unwritten known known)
unnamed scope input known unread unwritten fault (Ok x) told why = absurd told
unnamed scope input known unread unwritten fault (Err found) told why = subst (λ (f : AnswerFault). StopsLog scope f input unread unwritten known known) (sym told) (inl (why, none_appended known))

-- ---- one piece, and the end

pub end_written : (scope : Scope) (old new : Option (List ℕ)) (t : Teller) (judged : Bool) (more text : List ℕ) (status : ℕ) (Fine : Type 0) (result : Result ℕ AnswerFault) → TellsEnd scope t more judged → text ≡ more → status ≡ status_of judged
    → IfOk result (λ told. told ≡ status) → OnOk result (Fine × Appends old new text) → IfOk result (λ told. WritesEnd scope t told old new)
end_written scope old new t judged more text status Fine (Ok told) tells same stands is wrote = (more, judged, tells, appends_same old new text more same wrote.1, is ∙ stands)
end_written scope old new t judged more text status Fine (Err fault) tells same stands is wrote = tt
