-- What numbers say of what was shown, in the words of users.
use Rattle.std.proofs.Common.{◌≡◌, ◌≤◌, ℕ, Bool, true, false, cond, not, ◌&&◌, Contains, List, Some, None, refl, sym, ap, subst, ◌∙◌, arith, ◌==◌, ◌||◌, inl}
use Rattle.std.proofs.Common.{inr, Option, take, true≢false}
use Rattle.std.proofs.lemmas.Bool.{cases_Bool, ltb-false, or_parts, true_from_ne_false}
use Rattle.std.proofs.lemmas.List.Elements.{All-contains}
use Rattle.std.specs.Option.{option_map, option_map_or}
use Rattle.capbits.specs.Sets.{has-minus}
use Rattle.capbits.specs.declared.cap.Cap.TheVariants.{P}
use Rattle.captable.proofs.ByHolder.{entry_at-acked_other, entry_at-changed, entry_at-changed_other, entry_at-recalled, entry_at-recalled_other}
use Rattle.captable.proofs.ByHolder.{entry_at-released, entry_at-released_other}
use Rattle.captable.proofs.Tables.{same-is}
use Rattle.captable.specs.Calls.{acked, changed, has_pin, released, with_asked, with_entry, without, without_acked}
use Rattle.captable.specs.Tests.{test_at}
use Rattle.lockmachine.proofs.Pending.{has-against, has-pending, pin-takes_all}
use Rattle.step_acts.proofs.Opened.{apart-of}
use Rattle.capcore.proofs.Placed.{pending-permitted}
use Rattle.capcore.proofs.Revoking.{pin-goes, revoked-found}
use Rattle.capcore.proofs.ShownSteps.{at, entry_at-entry_other}
use Rattle.capstep.specs.declared.event.OpenMode.{OpenMode}
use Rattle.capstep.specs.Direct.{with_opening}
use Rattle.capstep.specs.Headline.{holds, is_issuable}
use Rattle.capstep.specs.Shown.{AreShown, ShowsOnlyPermitted, TakesOnlySo, TakesUnshown, may_take, shown_of}
use Rattle.lockmachine.specs.Revoked.{is_revoked}
use Rattle.lockmachine.specs.Scene.{against}
use Rattle.capcore.proofs.Common.{Ack, Cap, Caps, ClientId, Direct, Entry, EntryRow, Event, Holder, Ino, IsSound, IsSoundEntry, IssuesExactly, Rejection, Row}
use Rattle.capcore.proofs.Common.{Scene, ShowsWhatIsPending, State, Table, apart_client, child, direct, effect, effect_unless, entry_at}
use Rattle.capcore.proofs.Common.{entry_at-without_client_other, found, found-contains, has, holder, is_among, is_row_of, judged, recalled, revoked_of}
use Rattle.capcore.proofs.Common.{row_of-entry, same, without_client}

pub shows-pending : (rows : List Row) (s : State) → IsSound s → AreShown rows s.scene → ShowsWhatIsPending rows s.scene
shows-pending rows s sound was k e there none_due =
    let row : EntryRow = record { holder = k; entry = e } in
    let inside : Contains s.scene.table.rows row = found-contains (is_row_of k) s.scene.table.rows row (row_of-entry s.scene.table k e there) in
    let entry = All-contains (IsSoundEntry s.scene) s.scene.table.rows row sound.entries inside in
    let below : e.told_seq ≤ e.seq = entry.told in
    let above : e.seq ≤ e.told_seq = ltb-false e.told_seq e.seq none_due in
    let is = was k e there in
    is.current (omega (arith, below, above))

-- so what was shown is permitted
pub shows-permitted : (rows : List Row) (s : Scene) → ShowsWhatIsPending rows s → ShowsOnlyPermitted rows s
shows-permitted rows s shows k e cap there none_due was =
    pending-permitted s (record { holder = k; entry = e }) cap (ap (λ (caps : Caps). has caps cap) (sym (shows k e there none_due)) ∙ was)

-- ---- an acknowledgement

pub holds-entry : (s : Scene) (k : Holder) (cap : Cap) → holds s k cap ≡ true → (e : Entry) × (entry_at s.table k ≡ Some e) × (has e.held cap ≡ true)
holds-entry s k cap held = grind arith

pub holds-found : (s : Scene) (k : Holder) (cap : Cap) (e : Entry) → entry_at s.table k ≡ Some e → holds s k cap ≡ has e.held cap
holds-found s k cap e there = ap (λ o. option_map_or (λ (row : EntryRow). has row.entry.held cap) o false) (row_of-entry s.table k e there)

not_shown : (s h t : Bool) → (s ≡ true → (h && not t) ≡ true) → (h && t) ≡ true → s ≡ false
not_shown s h t inside taken = grind arith

pub gone_is : (h g : Bool) → h ≡ true → (h && not g) ≡ false → g ≡ true
gone_is h g held out = grind arith

module _ (rows : List Row) (old : State) (sound : IsSound old) (was : AreShown rows old.scene) (client : ClientId) (ino : Ino) (seq : ℕ) where
  abbrev k : Holder
  k = holder client ino

  abbrev ack : Event
  ack = Event.Ack client ino seq

  module _ (e : Entry) (there : entry_at old.scene.table k ≡ Some e) (free : judged old.scene ack ≡ None) where
    all_of : revoked_of old.scene k ≡ against old.scene (at k e)
    all_of = revoked-found old.scene k e there

    -- the number is that of the last revocation at least, and the client was told of it
    was_told : e.revoke_seq ≤ e.told_seq
    was_told = grind arith

    -- what is held no more was being revoked
    revoked_is : (cap : Cap) → has e.held cap ≡ true → holds (direct old ack).state.scene k cap ≡ false → has (against old.scene (at k e)) cap ≡ true
    revoked_is cap held gone =
        by_pin (has (revoked_of old.scene k) P && test_at has_pin old.scene.table k) refl (subst (λ (d : Direct). holds d.state.scene k cap ≡ false) (ap (effect_unless old ack) free) gone)
      where
        by_pin : (b : Bool) → (has (revoked_of old.scene k) P && test_at has_pin old.scene.table k) ≡ b → holds (record old.scene { table = cond b (without old.scene.table k) (changed old.scene.table k (without_acked (revoked_of old.scene k))) }) k cap ≡ false
            → has (against old.scene (at k e)) cap ≡ true
        by_pin true pin out = pin-takes_all old.scene (at k e) (ap (λ (caps : Caps). has caps P) (sym all_of) ∙ sym (pin-goes old.scene k) ∙ pin) cap held
        by_pin false no_pin out =
            let now : entry_at (changed old.scene.table k (without_acked (revoked_of old.scene k))) k ≡ Some (without_acked (revoked_of old.scene k) e) =
            entry_at-changed old.scene.table k (without_acked (revoked_of old.scene k)) ∙ ap (option_map (without_acked (revoked_of old.scene k))) there in
            let less : (has e.held cap && not (has (revoked_of old.scene k) cap)) ≡ false =
            sym (holds-found (record old.scene { table = changed old.scene.table k (without_acked (revoked_of old.scene k)) }) k cap (without_acked (revoked_of old.scene k) e) now ∙ has-minus e.held (revoked_of old.scene k) cap) ∙ out in
            ap (λ (caps : Caps). has caps cap) (sym all_of) ∙ gone_is (has e.held cap) (has (revoked_of old.scene k) cap) held less

    taken_unshown : (cap : Cap) → has e.held cap ≡ true → holds (direct old ack).state.scene k cap ≡ false → has (shown_of k rows) cap ≡ false
    taken_unshown cap held gone =
        let is = was k e there in
        not_shown (has (shown_of k rows) cap) (has e.held cap) (is_revoked old.scene k cap)
        (λ h. sym (has-pending old.scene (at k e) cap) ∙ is.none_lost was_told cap h)
        (sym (has-against old.scene (at k e) cap) ∙ revoked_is cap held gone)

  takes-unshown : (cap : Cap) → holds old.scene k cap ≡ true → holds (direct old ack).state.scene k cap ≡ false → has (shown_of k rows) cap ≡ false
  takes-unshown cap held gone = grind (arith, holds-entry, taken_unshown)

pub all-takes_unshown : (rows : List Row) (old : State) (e : Event) → IsSound old → AreShown rows old.scene → TakesUnshown rows old.scene e (direct old e).state.scene
all-takes_unshown rows old e sound was = grind (arith, takes-unshown)

-- ---- what was held is held on, but for what the event may take

-- the holder has an entry that holds as much
abbrev HoldsOn : Table → Holder → Caps → Type 0
HoldsOn table k held = (f : Entry) × (entry_at table k ≡ Some f) × (f.held ≡ held)

-- so each entry does
abbrev KeepsAt : Table → Table → Holder → Type 0
KeepsAt before after k = (e : Entry) → entry_at before k ≡ Some e → HoldsOn after k e.held

same-keeps : (before after : Table) (k : Holder) → entry_at after k ≡ entry_at before k → KeepsAt before after k
same-keeps before after k is e there = (e, is ∙ there, refl)

changed-keeps : (t : Table) (j k : Holder) (g : Entry → Entry) → ((e : Entry) → (g e).held ≡ e.held) → KeepsAt t (changed t j g) k
changed-keeps t j k g held e there = elim (cases_Bool (same k j)) [
  | inr off ↦ (e, entry_at-changed_other t j k g (apart-of k j off) ∙ there, refl)
  | inl on ↦
      let is : k ≡ j = same-is k j on in
      (g e, ap (entry_at (changed t j g)) is ∙ entry_at-changed t j g ∙ ap (option_map g) (ap (entry_at t) (sym is) ∙ there), held e)
]

-- an opening makes no other entry than was there
entry-still : (t : Table) (j k : Holder) (e : Entry) → entry_at t k ≡ Some e → entry_at (with_entry t j) k ≡ Some e
entry-still t j k e there = grind (arith, entry_at-entry_other, apart-of, same-is)

recalled-keeps : (t : Table) (n : ℕ) (k : Holder) → KeepsAt t (recalled t n) k
recalled-keeps t n k e there = elim (cases_Bool (is_among (take n t.recall) k)) [
  | inr off ↦ (e, entry_at-recalled_other t n k off ∙ there, refl)
  | inl on ↦ (with_asked true e, entry_at-recalled t n k on ∙ ap (option_map (with_asked true)) there, refl)
]

-- ---- by event

module _ (old : State) (k : Holder) (cap : Cap) (held : holds old.scene k cap ≡ true) where
  abbrev t : Table
  t = old.scene.table

  -- what went, the event may have taken
  abbrev Takes : Event → Scene → Type 0
  Takes e first = holds first k cap ≡ false → may_take e k cap ≡ true

  -- what an entry holds on, did not go
  no_loss : (first : Scene) → KeepsAt t first.table k → holds first k cap ≡ false → ⊥
  no_loss first keeps gone = grind (arith, holds-found)

  takes-nothing : (e : Event) (first : Scene) → KeepsAt t first.table k → Takes e first
  takes-nothing e first keeps gone = absurd (no_loss first keeps gone)

  client-gone : (client : ClientId) (first : Scene) → first.table ≡ without_client t client → holds first k cap ≡ false → (k.client.0 == client.0) ≡ true
  client-gone client first left gone = true_from_ne_false (k.client.0 == client.0) (λ off.
      no_loss first (same-keeps t first.table k (ap (λ (u : Table). entry_at u k) left ∙ entry_at-without_client_other t client k (apart_client k.client client off))) gone)

  opened-keeps : (j : Holder) (mode : OpenMode) → KeepsAt t (with_opening t j mode) k
  opened-keeps j mode e there = changed-keeps (with_entry t j) j k _ (λ f. refl) e (entry-still t j k e there)

  acked-own : (j : Holder) (first : Scene) → first.table ≡ acked t j (revoked_of old.scene j) → holds first k cap ≡ false → same k j ≡ true
  acked-own j first left gone = true_from_ne_false (same k j) (λ off.
      no_loss first (same-keeps t first.table k (ap (λ (u : Table). entry_at u k) left ∙ entry_at-acked_other t j k (revoked_of old.scene j) (apart-of k j off))) gone)

  -- with the pin all that was held was released
  given-own : (j : Holder) (caps : Caps) (first : Scene) → first.table ≡ released t j caps → k ≡ j → holds first k cap ≡ false → (has caps P || has caps cap) ≡ true
  given-own j caps first left is gone = grind (arith, holds-entry, entry_at-released, gone_is, holds-found, has-minus)

  released-own : (j : Holder) (caps : Caps) (first : Scene) → first.table ≡ released t j caps → holds first k cap ≡ false → (same k j && (has caps P || has caps cap)) ≡ true
  released-own j caps first left gone = by_same (same k j) refl
    where
      by_same : (b : Bool) → same k j ≡ b → (b && (has caps P || has caps cap)) ≡ true
      by_same true on = given-own j caps first left (same-is k j on) gone
      by_same false off = absurd (no_loss first (same-keeps t first.table k (ap (λ (u : Table). entry_at u k) left ∙ entry_at-released_other t j k caps (apart-of k j off))) gone)

  abbrev same_table : (first : Scene) → entry_at first.table k ≡ entry_at t k → KeepsAt t first.table k
  same_table first is = same-keeps t first.table k is

  looked_up : (e : Event) (o : Option ℕ) → Takes e (found old o).state.scene
  looked_up e o = grind arith

  -- the scene that the event leads to by itself
  abbrev first_of : Event → Scene
  first_of e = (effect old e).state.scene

  abbrev keeps_all : (e : Event) → entry_at (first_of e).table k ≡ entry_at t k → Takes e (first_of e)
  keeps_all e is = takes-nothing e (first_of e) (same_table (first_of e) is)

  by_event : (e : Event) → Takes e (first_of e)
  by_event (Event.CloseSession client) = client-gone client (first_of (Event.CloseSession client)) refl
  by_event (Event.Evict client) = client-gone client (first_of (Event.Evict client)) refl
  by_event (Event.Recall count) = takes-nothing (Event.Recall count) (first_of (Event.Recall count)) (recalled-keeps t count k)
  by_event (Event.Lookup client dir name) = looked_up (Event.Lookup client dir name) (child old.scene.tree.nodes dir.0 name)
  by_event (Event.Open client ino mode) = takes-nothing (Event.Open client ino mode) (first_of (Event.Open client ino mode)) (opened-keeps (holder client ino) mode)
  by_event (Event.Want client ino caps) =
      takes-nothing (Event.Want client ino caps) (first_of (Event.Want client ino caps)) (changed-keeps t (holder client ino) k _ (λ f. refl))
  by_event (Event.Ack client ino seq) = acked-own (holder client ino) (first_of (Event.Ack client ino seq)) refl
  by_event (Event.Release client ino caps) = released-own (holder client ino) caps (first_of (Event.Release client ino caps)) refl
  by_event e = keeps_all e refl

-- ---- a step

-- where a step issues exactly what it must, nothing else goes
pub takes-only_so : (old : State) (e : Event) (new : Scene) → IssuesExactly (direct old e).state.scene new → TakesOnlySo old.scene e new
takes-only_so old e new issued k cap held gone = by_judged (judged old.scene e) refl
  where
    gone_first : holds (direct old e).state.scene k cap ≡ false
    gone_first = (or_parts (holds (direct old e).state.scene k cap) (is_issuable new k cap) (sym (issued k cap) ∙ gone)).0

    by_judged : (o : Option Rejection) → judged old.scene e ≡ o → may_take e k cap ≡ true
    by_judged (Some x) is =
        let same_held : holds (direct old e).state.scene k cap ≡ holds old.scene k cap = ap (λ (d : Direct). holds d.state.scene k cap) (ap (effect_unless old e) is) in
        absurd (true≢false (sym held ∙ sym same_held ∙ gone_first))
    by_judged None free = by_event old k cap held e (subst (λ (d : Direct). holds d.state.scene k cap ≡ false) (ap (effect_unless old e) free) gone_first)
