-- What an event that may move locks leaves by itself, and what its step comes to in the end.
use Rattle.std.proofs.Common.{◌≡◌, ◌≤◌, ℕ, ◌+◌, ◌++◌, ◌==◌, Bool, Some, List, [], length, Result, OnErr, sym, ap, subst, ◌∙◌, arith, All}
use Rattle.std.proofs.lemmas.List.Sums.{count_by-le-length, length-filter}
use Rattle.capstep.proofs.Twice.{given-twice, recorded-twice}
use Rattle.capstep.specs.Recorded.{twice}
use Rattle.capcore.proofs.EntryRequests.{Keeps}
use Rattle.capcore.proofs.Knowing.{held_at}
use Rattle.capcore.specs.Begun.{MayEndAt, among}
use Rattle.capcore.proofs.Closing.{affects-ends, affects-one, affects-settles, ended_now-all, ended_now-but_own, ended_now-own_numbers, ends-table}
use Rattle.capcore.proofs.Common.{Affected, Affects, AffectsOne, AreBelow, AreChanges, AreCounted, AreCountedIn, AreGiven, AreKnown, ArePermittedIn}
use Rattle.capcore.proofs.Common.{ClientViews, CountedLocks, Direct, Ended, EndsWith, Entry, EntryRequest, Event, HasRoom, HaveOwnNumbers, HaveRoomFor, Holder}
use Rattle.capcore.proofs.Common.{IsJudged, IsLockMap, IsReplied, IsSubset, IsTable, Knows, MayEnd, MaySettle, NumbersLeft, Scene, SettlesAt, SettlesWith}
use Rattle.capcore.proofs.Common.{State, StepOutput, StepReply, StillKnown, all_ended, direct, earlier, entry_at, entry_reply, finished_at, known_in, plain}
use Rattle.capcore.proofs.Common.{reply_of, shown, sized_in, sizes_owed, state_at_end, still-knows, view_of}
use Rattle.capcore.proofs.Concluded.{IsConcluded, concluded}
use Rattle.capcore.proofs.EndKnown.{ends-known}
use Rattle.capcore.proofs.EntryWhole.{request-counted, show_reply-alike}
use Rattle.capcore.proofs.Unaffected.{alike-kept}
use Rattle.capcore.specs.UnderWay.{AreKept, GivesOne, HasBegun, HasPlaces, IsNumbered, MayBegin, direct_reply_of, dropped_of, earlier_of, state_of}
use Rattle.capcore.specs.declared.parts.ReplyDue.{ReplyDue}
use Rattle.capcore.specs.declared.parts.ReplyDue.TheVariants.{Awaited, Done, Dropped, Requested}
use Rattle.capcore.specs.declared.parts.Applied.{Applied}
use Rattle.capcore.specs.declared.parts.CoreState.{CoreState}

-- each entry has a number left then
pub begun-entries : (p q : CoreState) (e : Event) (from : ℕ → Bool) → MayBegin p e → state_of q ≡ (direct (state_of p) e).state → Affects from (state_of p) (state_of q) → GivesOne (state_of p) e
    → ArePermittedIn q.scene.table.kept (plain q.scene) → MayEnd q.scene.table.kept (plain q.scene)
begun-entries p q e from may is affects gives permitted = by_count may.numbers
  where
    by_count : NumbersLeft (state_of p) → MayEnd q.scene.table.kept (plain q.scene)
    by_count (count, given, less) =
        affects-ends from (state_of p) (state_of q) may.whole.0 affects q.scene.table.kept count less
        (subst (λ (s : State). All (λ row. row.entry.seq ≤ count) s.scene.table.rows) (sym is) (gives count given).0) permitted

-- what holds whatever the result is, holds where it is an error
pub on_err : {T E P : Type 0} (r : Result T E) → P → OnErr r P
on_err r p = grind arith

-- ---- an event about one inode

module _ (p q : CoreState) (output : StepOutput) (e : Event) (k : Holder) (may : MayBegin p e) (d : Direct) (by_itself : direct (state_of p) e ≡ d) (keeps : Keeps (state_of p) d)
    (below : (count : ℕ) → AreGiven count (state_of p) → AreBelow count d.state) (is : plain q.scene ≡ d.state.scene) (left : q.messages.items ≡ p.messages.items) where
  abbrev from : ℕ → Bool
  from = λ other. other == k.ino.0

  abbrev old : State
  old = state_of p

  one-state : state_of q ≡ (direct old e).state
  one-state = (λ i. record { scene = is i; messages = (left ∙ sym keeps.1) i }) ∙ sym (ap (λ (x : Direct). x.state) by_itself)

  one-gives : GivesOne old e
  one-gives count given = subst (λ (x : Direct). AreBelow count x.state) (sym by_itself) (below count given)

  pub one-begun : (affected : Affected) (reply_due : ReplyDue) → among affected ≡ from → direct_reply_of reply_due ≡ d.reply_due → dropped_of reply_due ≡ []
      → IsNumbered reply_due p.scene.locks.locks.last q.scene.locks.locks.last → AffectsOne k.ino.0 old (plain q.scene) → IsTable q.scene.table.entries → StillKnown p.scene.table.entries q.scene.table.entries p.scene.table.kept q.scene.table.kept → ArePermittedIn q.scene.table.kept (plain q.scene)
      → ((j : Holder) (f : Entry) → entry_at q.scene.table.entries j ≡ Some f → IsSubset f.held (held_at p.scene.table.entries j)) → AreCountedIn q.scene → IsLockMap q.scene.locks.locks
      → HaveRoomFor (length q.scene.locks.locks.queue) output → IsJudged output.judged (plain q.scene) → MayEndAt affected q.scene.table.kept (plain q.scene) output.changes → HasRoom q.messages q.scene.locks.locks → HasPlaces reply_due (length q.scene.locks.locks.queue)
      → AreChanges output.changes.items (view_of old) (view_of (state_of q)) → HasBegun p e (record { affected = affected; reply_due = reply_due }) q output
  one-begun affected reply_due same answers none number one table still permitted less counted order room judged at left_room places noted =
      let affects : Affects from old (state_of q) =
      subst (λ (ms : List Ended). Affects from old (record { scene = plain q.scene; messages = ms })) (sym left) (affects-one k.ino.0 old (plain q.scene) may.whole.0 one) in
      record {
        is = one-state;
        reply_due = answers ∙ sym (ap (λ (x : Direct). x.reply_due) by_itself);
        dropped = none ∙ sym keeps.0 ∙ sym (ap (λ (x : Direct). x.dropped) by_itself);
        number = number;
        affects = subst (λ (at : ℕ → Bool). Affects at old (state_of q)) (sym same) affects;
        table = table;
        gives = one-gives;
        still = still;
        knows = still-knows p.scene.table.kept q.scene.table.kept (plain p.scene) q.scene.table.entries may.whole.2.0 still table less;
        ready = record {
          settles = subst (λ (at : ℕ → Bool). MaySettle at (plain q.scene)) (sym same) (affects-settles from old (state_of q) may.whole.0 affects order);
          judged = judged;
          entries = begun-entries p q e from may one-state affects one-gives permitted;
          room = room;
          at = at;
        };
        counted = counted;
        room = left_room;
        places = places;
        noted = noted;
      }

-- ---- what is shown

-- it changes what is kept beside entries alone
request-rest : (k : Holder) (request : EntryRequest) (s : State) → (shown (entry_reply k request) s).scene ≡ record s.scene { table = (shown (entry_reply k request) s).scene.table }
request-rest k request s = grind arith

pub shown-rest : (a : ReplyDue) (s : State) → (shown (direct_reply_of a) s).scene ≡ record s.scene { table = (shown (direct_reply_of a) s).scene.table }
shown-rest a s = grind arith

pub shown-stays : (a : ReplyDue) (s : State) (sets : ClientViews) → AreKept sets s.scene → AreKept sets (shown (direct_reply_of a) s).scene
shown-stays Done s sets kept = kept
shown-stays (Dropped dropped) s sets kept = kept
shown-stays (Requested k request) s sets kept =
    subst (AreKept sets) (sym (request-rest k request s)) (alike-kept sets s.scene (shown (entry_reply k request) s).scene.table (show_reply-alike s k request) kept)
shown-stays (Awaited ticket) s sets kept = kept

-- and leaves what is held
pub shown-counted : (a : ReplyDue) (s : State) (l : CountedLocks) → AreCounted s.scene.table l → AreCounted (shown (direct_reply_of a) s).scene.table l
shown-counted Done s l are = are
shown-counted (Dropped dropped) s l are = are
shown-counted (Requested k request) s l are = request-counted s k request l are
shown-counted (Awaited ticket) s l are = are

-- where there is room for some, there is for fewer
pub fewer-places : (a : ReplyDue) (n m : ℕ) → m ≤ n → HasPlaces a n → HasPlaces a m
fewer-places a n m few places = grind arith

-- those of earlier steps are no more than all
pub few-earlier : (a : ReplyDue) (ended_now : List Ended) → length (earlier_of a ended_now) ≤ length ended_now
few-earlier a ended_now = grind (arith, length-filter, count_by-le-length)

-- ---- the end of the step

module _ (p q : CoreState) (output : StepOutput) (e : Event) (effect : Applied) (may : MayBegin p e) (begun : HasBegun p e effect q output)
    (now : ClientViews) (last : Scene) (ended_now : List Ended) (ends : EndsWith (among effect.affected) q.scene.table.kept now (plain q.scene) last ended_now) where
  abbrev before : State
  before = state_of p

  abbrev affected : State
  affected = state_of q

  abbrev settles : SettlesWith ends.at (among effect.affected) (plain q.scene) ends.settled ended_now ends.sized
  settles = ends.settles

  order : IsLockMap q.scene.locks.locks
  order = begun.ready.settles.order

  pub ended-known : AreKnown now last
  ended-known =
      ends-known p.scene.table.kept q.scene.table.kept now (among effect.affected) before affected may.whole.0 may.table begun.table begun.affects may.whole.2.0 begun.still begun.knows last ended_now ends

  pub ended-numbers : HaveOwnNumbers ended_now
  ended-numbers = ended_now-own_numbers ends.at (among effect.affected) (plain q.scene) ends.settled ended_now ends.sized settles

  all : q.scene.locks.locks.last ≡ p.scene.locks.locks.last → earlier p.scene.locks.locks.last ended_now ≡ ended_now
  all same = subst (λ n. earlier n ended_now ≡ ended_now) same (ended_now-all ends.at (among effect.affected) (plain q.scene) ends.settled ended_now ends.sized settles order)

  by_reply : (a : ReplyDue) → IsNumbered a p.scene.locks.locks.last q.scene.locks.locks.last → earlier p.scene.locks.locks.last ended_now ≡ earlier_of a ended_now
  by_reply (Awaited ticket) (own, next) = ended_now-but_own ends.at (among effect.affected) (plain q.scene) ends.settled ended_now ends.sized settles order p.scene.locks.locks.last ticket own next
  by_reply a same = all same

  others : earlier p.scene.locks.locks.last ended_now ≡ earlier_of effect.reply_due ended_now
  others = by_reply effect.reply_due begun.number

  -- the state at the end, but for what is shown
  abbrev pub closed : State
  closed = record { scene = last; messages = q.messages.items ++ earlier_of effect.reply_due ended_now }

  abbrev by_the_rules : State
  by_the_rules = state_at_end before (direct before e).state settles.moves (finished_at ends.at (known_in q.scene.table.kept) (sizes_owed (sized_in settles.moves) ends.settled))

  same_state : closed ≡ by_the_rules
  same_state = grind (arith, others)

  pub ended-replied : (step_reply : StepReply) (new : State) → step_reply.reply ≡ twice (reply_of closed ended_now (direct_reply_of effect.reply_due))
      → step_reply.ended ≡ dropped_of effect.reply_due ++ earlier_of effect.reply_due ended_now → new ≡ shown (direct_reply_of effect.reply_due) closed → IsReplied before e step_reply new
  ended-replied step_reply new replies ended new-is =
      let c =
      concluded ends.at (among effect.affected) (known_in q.scene.table.kept) before e settles.moves ends.settled may.whole.0 (subst (Affects (among effect.affected) before) begun.is begun.affects)
      (subst (λ (s : State). IsTable s.scene.table) begun.is begun.table) (subst (λ (s : State). IsLockMap s.scene.locks) begun.is order)
      (subst (λ (s : State). Knows (known_in q.scene.table.kept) before.scene s.scene.table) begun.is begun.knows) begun.gives
      (subst (λ (s : State). SettlesAt ends.at (among effect.affected) settles.moves s.scene ends.settled) begun.is settles.settles) ends.tree
      (subst (λ (s : State). IsTable s.scene.table) same_state (ends-table (among effect.affected) q.scene.table.kept now (plain q.scene) last ended_now ends begun.table)) step_reply.reply.given new
      (given-twice step_reply.reply _ replies ∙ (λ i. reply_of (same_state i) (settles.ended_is i) (begun.reply_due i))) (new-is ∙ (λ i. shown (begun.reply_due i) (same_state i))) in
      let ends_so : all_ended before (direct before e) settles.moves ≡ step_reply.ended =
      (λ i. (sym begun.dropped) i ++ earlier p.scene.locks.locks.last ((sym settles.ended_is) i)) ∙ ap (λ ms. dropped_of effect.reply_due ++ ms) others ∙ sym ended in
      let whole : IsConcluded before e step_reply.reply.given step_reply.ended new = subst (λ (ms : List Ended). IsConcluded before e step_reply.reply.given ms new) ends_so c in
      record { step = whole.step; recorded = recorded-twice step_reply.reply _ replies; sound = whole.sound; issued = whole.issued; given = whole.given }
