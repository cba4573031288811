-- Where the settling of a step has come to, between two servings.
use Rattle.std.proofs.Common.{◌≡◌, ◌≢◌, ◌+◌, ◌≤◌, ◌==◌, ◌&&◌, not, ℕ, Bool, true, false, inl, inr, ◌⊎◌, Option, Some, List, [], ◌∷◌, ◌++◌, length, refl, sym}
use Rattle.std.proofs.Common.{ap, subst, ◌∙◌, Contains, append-nil, arith, true≢false}
use Rattle.std.proofs.lemmas.Bool.{eqb-false, eqb-true, false_from_ne_true, ne_eqb}
use Rattle.std.proofs.lemmas.List.{length-append}
use Rattle.std.proofs.lemmas.List.Elements.{All-contains, filter_map-append, filter_passes}
use Rattle.std.specs.Option.{option_map_or}
use Rattle.std.specs.FinMap as map
use Rattle.std.specs.FinSet as set
use Rattle.lockmachine.proofs.Alone.{nobody-held, served-alone}
use Rattle.lockmachine.proofs.Exact.{begins_not}
use Rattle.lockmachine.proofs.SameBut.{begin-alike, first-moved}
use Rattle.lockmachine.proofs.Cursors.{ends-cursor, served-ends}
use Rattle.lockmachine.proofs.Waiting.{waits-less-at, waits-wider}
use Rattle.lockmachine.specs.Moves.{IsAtRestOutside, is_servable, may_begin}
use Rattle.lockmachine.specs.Cursors.{NobodyElsewhere, NothingEnds}
use Rattle.capcore.proofs.Among.{none-besides}
use Rattle.capcore.proofs.CommonPieces.{Began, Ended, EntryRow, Gathered, Ino, InoSet, IsAlike, IsCursorAt, IsLockMap, IsTree, Made, Makes, MakesAll, Nodes, Part}
use Rattle.capcore.proofs.CommonPieces.{IsWidenedBy, Request, Scene, Serve, Served, Settled, Ticket, WaitAt, Widens, alike-itself, contains-filter, ended_by, ended_in}
use Rattle.capcore.proofs.CommonPieces.{ends_not, entries_on, first_for, first_move, is_numbered, is_of_inode, is_rename, is_within, lock_at, part_of_operation}
use Rattle.capcore.proofs.CommonPieces.{request_at, resting-waits-at, served-at, sized_by, sized_in, tree_after, without_request}
use Rattle.capcore.proofs.Moved.{makes-append, one-less}
use Rattle.capcore.proofs.OneChange.{alike-apart, presence-after}
use Rattle.capcore.proofs.SameOff.{off-refl, off-trans, off-wider}
use Rattle.capcore.proofs.Sweeping.{still-stays}
use Rattle.capcore.specs.Affected.{IsSameOff}
use Rattle.capcore.specs.Serves.{Serves, SettlesWith}
use Rattle.step_acts.specs.Served.{changed_alone}
use Rattle.capcore.specs.Sweep.{AreStill, IsCursorAtTheLeast, IsFirstPlace, IsSwept, StandsAt}
use Rattle.capcore.specs.declared.settle.SweepPlace.{SweepPlace}

-- these moves were made and these requests ended; nothing changed but at the inodes that are affected, among which are those of the
-- event; elsewhere nothing moves, and who waits there is held up
pub record IsSoFar (from : ℕ → Bool) (affected : InoSet) (first now : Scene) (ended_now : List Ended) (sized : List Ino) : Type 0 where
  pub moves : List Made
  pub made : MakesAll first moves now
  pub ended_is : ended_now ≡ ended_in moves
  pub sized_is : sized ≡ sized_in moves
  pub among : (other : ℕ) → from other ≡ true → set.contains affected other ≡ true
  pub same : IsSameOff (set.contains affected) first now
  pub states : (other : ℕ) → set.contains affected other ≡ false → map.get now.locks.states other ≡ map.get first.locks.states other
  pub still : AreStill (set.contains affected) now
  pub waits : WaitAt (set.contains affected) now
  pub count : length ended_now + length now.locks.queue ≡ length first.locks.queue

-- ---- at first

pub so-far-begins : (affected : InoSet) (first : Scene) → IsAtRestOutside (set.contains affected) first → IsSoFar (set.contains affected) affected first first [] []
so-far-begins affected first resting = record {
  moves = [];
  made = refl;
  ended_is = refl;
  sized_is = refl;
  among = λ other is. is;
  same = off-refl (set.contains affected) first;
  states = λ other off. refl;
  still = record {
    ends = λ other part off. ends_not first (other, part) (lock_at first.locks other part) (resting.each_other other part off);
    begins = λ other part off. begins_not first (other, part) (lock_at first.locks other part) (resting.each_other other part off);
  };
  waits = resting-waits-at (set.contains affected) first resting;
  count = omega arith;
}

-- moves that end no request change no size
none-sized : (moves : List Made) → ended_in moves ≡ [] → sized_in moves ≡ []
none-sized [] none = refl
none-sized (Began ino part to ∷ moves) none = none-sized moves none
none-sized (Gathered ino part ∷ moves) none = none-sized moves none
none-sized (Served q o ∷ moves) none = absurd (cc)

-- where nothing ends, it is the turn of the least one
pub cursor-of_least : (inos : InoSet) (s : Scene) → AreStill (set.contains inos) s → NothingEnds s → IsCursorAtTheLeast inos s
cursor-of_least inos s still ends a least = ends-cursor s a ends (λ other part below. still.begins other part (least.least other (omega arith) below))

-- where one alone is affected, it is its turn
cursor-of_only : (inos : InoSet) (s : Scene) → AreStill (set.contains inos) s → set.len inos ≡ 1 → IsCursorAtTheLeast inos s
cursor-of_only inos s still one a least = record {
  ends = λ other part off. still.ends other part (ap (λ (among : ℕ → Bool). among other) (none-besides inos a one least.has) ∙ ne_eqb other a off);
  begins = λ other part below. still.begins other part (least.least other (omega arith) below);
}

-- it is the turn of the least one where nothing ends, or one alone is affected
pub cursor-at_first : (inos : InoSet) (s : Scene) → AreStill (set.contains inos) s → (set.len inos ≢ 1 → NothingEnds s) → IsCursorAtTheLeast inos s
cursor-at_first inos s still ends = elim (set.len inos == 1) as (λ b. (set.len inos == 1) ≡ b → IsCursorAtTheLeast inos s) [
  | true ↦ λ one. cursor-of_only inos s still (eqb-true (set.len inos) 1 one)
  | false ↦ λ many. cursor-of_least inos s still (ends (eqb-false (set.len inos) 1 many))
] refl

-- ---- where the sweep begins

-- where no other inode is affected, who waits elsewhere is held up
nobody_first : (affected : InoSet) (s : Scene) (at : ℕ) → WaitAt (set.contains affected) s → set.contains affected at ≡ true → set.len affected ≡ 1 → NobodyElsewhere s.locks at
nobody_first affected s at waits here one = nobody-held s at (waits-wider (set.contains affected) (λ other. other == at) s (λ other off. ap (λ (among : ℕ → Bool). among other) (none-besides affected at one here) ∙ off) waits)

pub stands-first : (affected : InoSet) (s : Scene) (place : SweepPlace) → IsCursorAtTheLeast affected s → WaitAt (set.contains affected) s
    → IsFirstPlace affected place → StandsAt (set.contains affected) place s
stands-first affected s place cursor waits first = record {
  cursor = cursor place.at.0 first.least;
  here = first.least.has;
  alone = λ known. nobody_first affected s place.at.0 waits first.least.has (first.alone known);
}

-- behind a serving the sweep goes on where it was, if that changed no inode but one that is not before it; else it begins again
abbrev pub GoesOnBehind : SweepPlace → Option Ino → InoSet → SweepPlace → Type 0
GoesOnBehind place changed affected next =
    ((next ≡ place) × ((i : Ino) × (changed ≡ Some i) × (place.at.0 ≤ i.0))) ⊎ IsFirstPlace affected next

module _ (from : ℕ → Bool) (affected : InoSet) (first now : Scene) (ended_now : List Ended) (sized : List Ino) (so : IsSoFar from affected first now ended_now sized) where
  -- ---- gathers began and ended

  module _ (new : Scene) (swept : IsSwept (set.contains affected) now new) where
    abbrev left : Scene
    left = record now { locks = new.locks }

    swept_off : IsSameOff (set.contains affected) now left
    swept_off = grind (arith, alike-itself)

    by_left : (P : Scene → Type 0) → P left → P new
    by_left P is = subst P (sym swept.is) is

    pub so-far-swept : IsSoFar from affected first new ended_now sized
    so-far-swept = grind (arith, makes-append, append-nil, filter_map-append, none-sized, by_left, off-trans, swept_off, still-stays)

  -- and where no move applies, it has settled
  pub so-far-settled : first_move now ≡ Settled → SettlesWith (set.contains affected) from first now ended_now sized
  so-far-settled rests = grind arith

  -- ---- a request was served

  module _ (ticket : Ticket) (ended : Ended) (new : Scene) (kept : InoSet) (order : IsLockMap now.locks) (tree : IsTree now.tree) (move : first_move now ≡ Serve ticket)
      (serves : Serves now ticket ended new) (widened : IsWidenedBy serves.request now.tree new.tree now.table affected kept) where
    abbrev q : Request
    q = serves.request

    here : (r : Request) × (request_at now.locks ticket.0 ≡ Some r) × Contains now.locks.queue r × (set.contains affected r.ino.0 ≡ true) × (r.ticket ≡ ticket)
    here = served-at (set.contains affected) now ticket order so.waits move

    same_request : here.0 ≡ q
    same_request = (let both : Some here.0 ≡ Some serves.request = sym here.1 ∙ serves.waits in cc)

    inside : Contains now.locks.queue q
    inside = subst (Contains now.locks.queue) same_request here.2

    -- it waited at an inode that was affected
    at_affected : set.contains affected q.ino.0 ≡ true
    at_affected = ap (λ (r : Request). set.contains affected r.ino.0) (sym same_request) ∙ here.3

    numbered : q.ticket ≡ ticket
    numbered = ap (λ (r : Request). r.ticket) (sym same_request) ∙ here.4

    -- the scene that it leaves, by the number that the request has
    abbrev after : Scene
    after = record now { tree = tree_after now.tree q ended.outcome; locks = without_request now.locks q.ticket.0 }

    is_after : new ≡ after
    is_after = serves.is ∙ (λ i. record now { tree = tree_after now.tree q ended.outcome; locks = without_request now.locks (sym numbered i).0 })

    by_after : (P : Scene → Type 0) → P after → P new
    by_after P is = subst P (sym is_after) is

    makes : Makes now (Served q ended.outcome) new
    makes = (move ∙ ap Serve (sym numbered), subst (λ (t : Ticket). request_at now.locks t.0 ≡ Some q) (sym numbered) serves.waits, serves.may, is_after)

    -- ---- which inodes it affects

    abbrev more : Widens affected kept
    more = widened.widens

    wider : (other : ℕ) → set.contains kept other ≡ false → set.contains affected other ≡ false
    wider other off = false_from_ne_true (set.contains affected other) (λ was. true≢false (sym (more other was) ∙ off))

    -- an inode that is not affected is another than that of the request
    another : (other : ℕ) → set.contains kept other ≡ false → other ≢ q.ino.0
    another other off same = true≢false (sym at_affected ∙ ap (set.contains affected) (sym same) ∙ wider other off)

    -- ---- what it leaves as it was

    row_alike : (row : EntryRow) → Contains now.table.rows row → set.contains kept row.holder.ino.0 ≡ false → IsAlike now.tree (tree_after now.tree q ended.outcome) row.holder.ino.0
    row_alike row among off = elim widened.covers [
      | inl left ↦ subst (λ (t : Nodes). IsAlike now.tree t row.holder.ino.0) (sym (sym (ap (λ (s : Scene). s.tree) is_after) ∙ left)) (alike-itself now.tree row.holder.ino.0)
      | inr covers ↦ alike-apart now q ended.outcome row.holder.ino.0 tree serves.may (another row.holder.ino.0 off) (λ moves.
          false_from_ne_true (is_within now.tree.nodes row.holder.ino.0 q.ino.0) (λ below. true≢false (sym (covers moves row among below) ∙ off)))
    ]

    first_same : (other : ℕ) (part : Part) → other ≢ q.ino.0 → first_for after.locks.queue other part ≡ first_for now.locks.queue other part
    first_same other part off = first-moved now.locks q order inside other part off

    served_off : IsSameOff (set.contains kept) now after
    served_off = record {
      fs = refl;
      sessions = refl;
      table = refl;
      locks = λ other part off. refl;
      presences = λ other off. presence-after now q ended.outcome serves.may other (another other off);
      alike = row_alike;
    }

    -- where nobody has an entry, nothing is wanted on any tree
    module _ (other : ℕ) (off : other ≢ q.ino.0) where
      -- of each inode that is alike, the same lock may begin
      alike_begin : IsAlike now.tree after.tree other → (part : Part) → may_begin after (other, part) ≡ may_begin now (other, part)
      alike_begin alike = begin-alike other now after (record {
        fs = refl;
        sessions = refl;
        entries = refl;
        locks = λ part. refl;
        waiting = λ part. first_same other part off;
        alike = alike;
      })

      unwanted_begin : entries_on now.table (record { 0 = other }) ≡ [] → (part : Part) → may_begin after (other, part) ≡ may_begin now (other, part)
      unwanted_begin none part = grind (arith, begin-alike, first_same, alike-itself)

      begin_same : set.contains kept other ≡ false → (rows : List EntryRow) → entries_on now.table (record { 0 = other }) ≡ rows → (part : Part) → may_begin after (other, part) ≡ may_begin now (other, part)
      begin_same un [] is part = unwanted_begin is part
      begin_same un (row ∷ rows) is part =
          let found : Contains (entries_on now.table (record { 0 = other })) row = subst (λ (rs : List EntryRow). Contains rs row) (sym is) (0, omega arith, refl) in
          let there : row.holder.ino.0 ≡ other = eqb-true row.holder.ino.0 other (All-contains (λ (r : EntryRow). is_of_inode (record { 0 = other }) r ≡ true) (entries_on now.table (record { 0 = other })) row (filter_passes (is_of_inode (record { 0 = other })) now.table.rows) found) in
          alike_begin (subst (IsAlike now.tree after.tree) there (row_alike row (contains-filter (is_of_inode (record { 0 = other })) now.table.rows row found) (ap (set.contains kept) there ∙ un))) part

    still_after : AreStill (set.contains kept) after
    still_after = record {
      ends = λ other part off. so.still.ends other part (wider other off);
      begins = λ other part off.
          begin_same other (another other off) off (entries_on now.table (record { 0 = other })) refl part ∙ so.still.begins other part (wider other off);
    }

    -- nothing ends, so that it is the least one's turn again
    cursor_after : IsCursorAtTheLeast kept after
    cursor_after = cursor-of_least kept after still_after (served-ends now ticket move)

    cursor_served : IsCursorAtTheLeast kept new
    cursor_served = by_after (IsCursorAtTheLeast kept) cursor_after

    pub so-far-served : IsSoFar from kept first new (ended_now ++ ended ∷ []) (sized ++ sized_in (Served q ended.outcome ∷ []))
    so-far-served = record {
      moves = so.moves ++ Served q ended.outcome ∷ [];
      made = makes-append first so.moves now (Served q ended.outcome ∷ []) new so.made (new, makes, refl);
      ended_is =
          ap (λ ms. ms ++ ended ∷ []) so.ended_is
          ∙ ap (λ (m : Ended). ended_in so.moves ++ m ∷ []) serves.ended_is
          ∙ sym (filter_map-append ended_by so.moves (Served q ended.outcome ∷ []));
      sized_is =
          ap (λ inos. inos ++ sized_in (Served q ended.outcome ∷ [])) so.sized_is
          ∙ sym (filter_map-append sized_by so.moves (Served q ended.outcome ∷ []));
      among = λ other is. more other (so.among other is);
      same = by_after (IsSameOff (set.contains kept) first)
          (off-trans (set.contains kept) first now after (off-wider (set.contains affected) (set.contains kept) first now wider so.same) served_off);
      states = λ other off. ap (λ (s : Scene). map.get s.locks.states other) is_after ∙ so.states other (wider other off);
      still = by_after (AreStill (set.contains kept)) still_after;
      waits = by_after (WaitAt (set.contains kept))
          (waits-wider (set.contains affected) (set.contains kept) after wider (waits-less-at (set.contains affected) now (tree_after now.tree q ended.outcome) q.ticket.0 so.waits));
      count = (
          let queue : length new.locks.queue ≡ length (without_request now.locks q.ticket.0).queue = ap (λ (s : Scene). length s.locks.queue) is_after in
          let more : length (ended_now ++ ended ∷ []) ≡ length ended_now + 1 = length-append ended_now (ended ∷ []) in
          let less = one-less now.locks q order inside in
          omega (arith, queue, more, less, so.count)
          );
    }

    -- ---- where the sweep goes on

    -- where it moves no inode, others stay as they were, and it stays an inode's turn that is not behind its own
    cursor_stays : (at : ℕ) → is_rename q.operation ≡ false → at ≤ q.ino.0 → IsCursorAt now at → IsCursorAt after at
    cursor_stays at stays before cursor = ends-cursor after at (served-ends now ticket move) (λ other part below.
        let off : other ≢ q.ino.0 = λ same. omega (arith, before, below, same) in
        let alike = alike-apart now q ended.outcome other tree serves.may off (λ moves. absurd (true≢false (sym moves ∙ stays))) in
        alike_begin other off alike part ∙ cursor.begins other part below)

    -- nobody comes to be served at another inode
    alone_stays : (at : ℕ) → NobodyElsewhere now.locks at → NobodyElsewhere after.locks at
    alone_stays at nobody r waits away =
        let was = contains-filter (λ (other : Request). not (is_numbered q.ticket.0 other)) now.locks.queue r waits in
        let there : q.ino.0 ≡ at = served-alone now at ticket order nobody move q serves.waits in
        let off : r.ino.0 ≢ q.ino.0 = λ same. eqb-false r.ino.0 at away (same ∙ there) in
        ap (λ (o : Option Request). option_map_or (is_numbered r.ticket.0) o false && is_servable now.locks r) (first_same r.ino.0 (part_of_operation r.operation) off)
        ∙ nobody r was away

    alone_by : (i : Ino) → changed_alone q ≡ Some i → (is_rename q.operation ≡ false) × (i ≡ q.ino)
    alone_by i is = grind arith

    pub stands-behind : (place next : SweepPlace) (changed : Option Ino) → StandsAt (set.contains affected) place now → changed ≡ changed_alone q
        → GoesOnBehind place changed kept next → StandsAt (set.contains kept) next new
    stands-behind place next changed stood is goes = elim goes [
      | inl on ↦
          let alone = alone_by on.1.0 (sym is ∙ on.1.1) in
          let before : place.at.0 ≤ q.ino.0 = subst (λ (i : Ino). place.at.0 ≤ i.0) alone.1 on.1.2 in
          subst (λ (at : SweepPlace). StandsAt (set.contains kept) at new) (sym on.0) (by_after (StandsAt (set.contains kept) place) (record {
            cursor = cursor_stays place.at.0 alone.0 before stood.cursor;
            here = more place.at.0 stood.here;
            alone = λ known. alone_stays place.at.0 (stood.alone known);
          }))
      | inr first ↦ stands-first kept new next cursor_served so-far-served.waits first
    ]
