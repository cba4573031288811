-- What is known of the value under the lock.
use Rattle.std.proofs.Common.{◌≡◌, ◌∙◌, ℕ, ◌+◌, ◌<◌, ◌≤◌, ◌∷◌, [], Bool, true, false, List, Option, Some, None, IfSome, MatchOption, length, fold, refl, ap}
use Rattle.std.proofs.Common.{sym, subst, arith, length-append}
use mathlib.Core.List.{IsPrefix}
use Rattle.capbits.specs.declared.ids.PassId.{PassId}
use Rattle.policy_view.specs.declared.change.ViewChange.{ViewChange}
use Rattle.policy_view.specs.declared.view.View.{View}
use Rattle.policy_view.specs.Changes.{AreChanges, view_by}
use Rattle.policy_view.specs.Visible.{Shows}
use Rattle.policy_view.proofs.Likeness.{shows-refl}
use Rattle.capstep.specs.declared.event.Event.{Event}
use Rattle.capstep.specs.declared.reply.Reply.{Reply}
use Rattle.capstep.specs.declared.row.Row.{Row}
use Rattle.capstep.specs.Numbers.{AreNumbered, rows_of}
use Rattle.capstep.specs.History.{CoreValue, IsLegal, IsLegalCore, IsNext, Replays, made_row}
use Rattle.capstep.specs.State.{State}
use Rattle.capstep.specs.Noted.{view_of}
use Rattle.snapshot.specs.Publishing.{IsReady, Publishing, first_of}
use Rattle.snapshot.specs.Rows.{Legal}
use Rattle.snapshot.proofs.Beginnings.{prefix_length, prefix_more, prefix_trans}
use Rattle.snapshot.proofs.Gathering.{legal_none}
use Rattle.snapshot.proofs.Publishing.{held_of}
use Rattle.capserver.specs.Fresh.{IsFresh}
use Rattle.capserver.specs.Held.{IsHeld, IsLed}
use Rattle.capserver.specs.Passes.{PassState, pass_id}

-- at the opening there are no rows
pub led_first : (opening : State) (max_rows : ℕ) (core : CoreValue) → core.state ≡ opening → core.rows ≡ [] → core.max_rows ≡ max_rows → IsLed opening max_rows core
led_first opening max_rows core at none most = record { replays = subst (λ (rows : List Row). Replays opening rows core.state) (sym none) at; max_rows_is = most }

-- they are numbered
pub numbered_first : (core : CoreValue) → core.rows ≡ [] → AreNumbered core.rows
numbered_first core none = subst AreNumbered (sym none) (legal_none core.state).numbered

-- then no row is in the book, and the view of the opening is published
pub held_first : (opening : State) (core : CoreValue) (calls : ℕ) (next : Publishing) → core.state ≡ opening → core.rows ≡ [] → core.max_rows ≤ 4294967295 → calls ≡ 0
    → next ≡ first_of opening → IsHeld core calls next
held_first opening core calls next at none room uncalled is =
    subst (IsHeld core calls) (sym is) (record {
      counted = uncalled ∙ sym (ap length none);
      room = room;
      begins = (core.rows, refl);
      whole = λ there. sym none;
      shows = λ there. subst (λ (state : State). Shows (view_of opening) (view_of state)) (sym at) (shows-refl (view_of opening));
    })

-- what began the rows begins them with one more
pub begins_next : (old new : CoreValue) (pass : PassId) (event : Event) (reply : Reply) (rows : List Row) → IsPrefix rows old.rows → IsNext old pass event reply new → IsPrefix rows new.rows
begins_next old new pass event reply rows up next =
    subst (IsPrefix rows) (sym next.rows) (prefix_more rows old.rows (made_row pass (rows_of pass old.rows + 1) event reply next.ended ∷ []) up)

-- an event was made and counted, and its changes are published next
pub held_next : (old new : CoreValue) (pass : PassId) (event : Event) (reply : Reply) (calls counted : ℕ) (before after : Publishing) (changes : List ViewChange)
    → IsHeld old calls before → IsNext old pass event reply new → counted ≡ calls + 1
    → AreChanges changes (view_of old.state) (view_of new.state)
    → IsPrefix after.rows new.rows → (after.lost ≡ false → before.lost ≡ false) → (after.lost ≡ false → after.rows ≡ new.rows) → (after.lost ≡ false → after.view ≡ fold view_by before.view changes)
    → IsHeld new counted after
held_next old new pass event reply calls counted before after changes held next more made begins kept whole view = record {
  counted = omega (arith, more, held.counted, ap length next.rows, length-append old.rows (made_row pass (rows_of pass old.rows + 1) event reply next.ended ∷ []));
  room = subst (λ (n : ℕ). n ≤ 4294967295) (sym next.max_rows) held.room;
  begins = begins;
  whole = whole;
  shows = λ there. subst (λ (v : View). Shows v (view_of new.state)) (sym (view there)) (made.lead before.view (held.shows (kept there)));
}

-- the rows of a core that replay from the opening are a legal history, which is not too long to be counted
pub legal_of : (opening : State) (core : CoreValue) (rows : List Row) → Replays opening core.rows core.state → IsLegalCore core → rows ≡ core.rows → Legal opening rows
legal_of opening core rows replays told is =
    subst (Legal opening) (sym is) (record { last = core.state; is_legal = record { replays = replays; numbered = told.legal.numbered } })

pub room_of : (core : CoreValue) (rows : List Row) → core.max_rows ≤ 4294967295 → IsLegalCore core → rows ≡ core.rows → length rows ≤ 4294967295
room_of core rows room told is = omega (arith, ap length is, told.room, room)

-- where a stage was lost, the whole view is staged, or a stage is lost again
held_mended_at : (core : CoreValue) (calls : ℕ) (before after : Publishing) (lost : Bool) → before.lost ≡ lost → IsHeld core calls before → IsPrefix after.rows core.rows
    → (before.lost ≡ false → after ≡ before) → (before.lost ≡ true → after.lost ≡ false → after.rows ≡ core.rows) → (before.lost ≡ true → after.lost ≡ false → after.view ≡ view_of core.state)
    → IsHeld core calls after
held_mended_at core calls before after false is held begins kept whole seen = subst (IsHeld core calls) (sym (kept is)) held
held_mended_at core calls before after true is held begins kept whole seen = record {
  counted = held.counted;
  room = held.room;
  begins = begins;
  whole = whole is;
  shows = λ there. subst (λ (v : View). Shows v (view_of core.state)) (sym (seen is there)) (shows-refl (view_of core.state));
}

pub held_mended : (core : CoreValue) (calls : ℕ) (place taken : Option Publishing) (before after : Publishing) (rows : List Row) (view : View)
    → MatchOption place ⊥ (IsHeld core calls) → taken ≡ place → taken ≡ Some before → rows ≡ core.rows → view ≡ view_of core.state → IsPrefix after.rows rows
    → (before.lost ≡ false → after ≡ before) → (before.lost ≡ true → after.lost ≡ false → after.rows ≡ rows) → (before.lost ≡ true → after.lost ≡ false → after.view ≡ view)
    → IsHeld core calls after
held_mended core calls place taken before after rows view held same is all shown begins kept whole seen =
    held_mended_at core calls before after before.lost refl (held_of place taken before (IsHeld core calls) held same is) (subst (IsPrefix after.rows) all begins) kept
    (λ lost there. whole lost there ∙ all) (λ lost there. seen lost there ∙ shown)

-- whatever readers see
pub held_shown : (core : CoreValue) (calls : ℕ) (next after : Publishing) → IsHeld core calls next → after ≡ record next { shown = after.shown } → IsHeld core calls after
held_shown core calls next after held same =
    subst (IsHeld core calls) (sym same) (record { counted = held.counted; room = held.room; begins = held.begins; whole = held.whole; shows = held.shows })

-- what is staged then can be published
pub ready_of : (opening : State) (core : CoreValue) (calls : ℕ) (next : Publishing) → Replays opening core.rows core.state → IsHeld core calls next → AreNumbered core.rows → next.lost ≡ false → IsReady opening next
ready_of opening core calls next replays held numbered there = record {
  legal = record { last = core.state; is_legal = subst (λ (rows : List Row). IsLegal opening rows core.state) (sym (held.whole there)) (record { replays = replays; numbered = numbered }) };
  shows = held.shows there;
}

-- where that was published, all rows were
pub all_of : (next : Publishing) (rows all : List Row) (seen : Option (List Row)) → (next.lost ≡ false → next.rows ≡ rows) → rows ≡ all → IfSome seen (λ shown. (shown ≡ next.rows) × (next.lost ≡ false)) → IfSome seen (λ shown. shown ≡ all)
all_of next rows all (Some shown) whole same is = is.0 ∙ (whole is.1 ∙ same)
all_of next rows all None whole same is = tt

-- a pass that knows what was published knows all rows
pub known_of : (rows : Option (List Row)) (all known : List Row) (More : Type 0) → MatchOption rows ⊥ (λ shown. (known ≡ shown) × More) → IfSome rows (λ shown. shown ≡ all) → (known ≡ all) × More
known_of (Some shown) all known More is same = (is.0 ∙ same, is.1)
known_of None all known More is same = absurd is

-- a pass that knows all rows, and more than before, knows the row of its event last
pub fresh_of : (old core : CoreValue) (before counted looked after : PassState) (event : Event) (reply : Reply) → IsNext old (pass_id before) event reply core
    → counted ≡ record before { calls = before.calls + 1 } → IsPrefix counted.known looked.known → IsPrefix looked.known after.known
    → after.known ≡ core.rows → length looked.known < length after.known → IsFresh before after event reply
fresh_of old core before counted looked after event reply next one up more all less =
    let first : IsPrefix before.known looked.known = subst (λ (p : PassState). IsPrefix p.known looked.known) one up in
    let short = prefix_length before.known looked.known first in record {
      before = old.rows;
      nth = rows_of (pass_id before) old.rows + 1;
      ended = next.ended;
      ends = all ∙ next.rows;
      begins = prefix_trans before.known looked.known after.known first more;
      proper = omega (arith, short, less);
    }
