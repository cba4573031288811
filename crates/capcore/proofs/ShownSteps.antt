-- A step shows clients what it tells them, and its numbers say so.
use Rattle.std.proofs.Common.{◌≡◌, ◌≢◌, ◌≤◌, ◌==◌, ℕ, Bool, true, false, cond, not, ◌&&◌, ◌||◌, inl, inr, Option, Some, None, is_some, List, [], ◌∷◌, ◌++◌}
use Rattle.std.proofs.Common.{map, take, refl, sym, ap, subst, ◌∙◌, Contains, true≢false, append-nil, eq-eqb, arith, All, filter}
use Rattle.std.proofs.lemmas.Bool.{cases_Bool, eqb-true}
use Rattle.std.proofs.lemmas.List.Elements.{All-append, All-cons, All-contains, All-contains_itself, All-head, All-nil, All-tail, All-take, All-weaker}
use Rattle.std.proofs.lemmas.List.Elements.{filter_passes}
use Rattle.std.proofs.lemmas.List.Sums.{fold-append}
use Rattle.std.specs.List.{find, flat_map, fold, list_any}
use Rattle.std.specs.Option.{option_map}
use Rattle.capbits.specs.Caps.{has}
use Rattle.inotree.specs.Tree.{child}
use Rattle.captable.proofs.ByHolder.{entry_at-changed, entry_at-changed_other, entry_at-recalled, entry_at-recalled_other, entry_at-without_client}
use Rattle.captable.proofs.ByHolder.{entry_at-without_client_other, entry_at-without_other}
use Rattle.captable.proofs.Shown.{shown-less, shown-numbered, shown-told}
use Rattle.captable.specs.Calls.{recalled, released, without_client}
use Rattle.captable.specs.Shown.{IsShown}
use Rattle.lockmachine.proofs.Exact.{settled as at_rest_settled}
use Rattle.capstep.specs.declared.row.Row.{Row}
use Rattle.capstep.specs.Direct.{found, opened_as, with_opening, with_wanted}
use Rattle.capstep.specs.Messages.{end_message, messages_to}
use Rattle.capstep.specs.Shown.{AreShown, shown_by, shown_in, shown_of, shown_opened}
use Rattle.capcore.proofs.CommonPieces.{Caps, ClientId, Direct, Ended, Entry, EntryRow, Event, Fc, Gives, Holder, Ino, IsSound, IsTable, Made, Message}
use Rattle.capcore.proofs.CommonPieces.{OpenMode, P, Rejection, Reply, Scene, Settles, Shows, State, Step, Table, acked, after_messages, against, changed}
use Rattle.capcore.proofs.CommonPieces.{contains-filter, direct, effect, effect_unless, end_messages, ended_in, entry_at, entry_at-opened_other}
use Rattle.capcore.proofs.CommonPieces.{entry_at-without, entry_of, find-map, first_messages, forget, has-against, has-minus, has-pending, has_pin, holder}
use Rattle.capcore.proofs.CommonPieces.{is_among, is_caps_of, is_of_client, is_recall_of, is_revoked, is_row_of, is_size_of, is_sized, is_to, issue, issue_row}
use Rattle.capcore.proofs.CommonPieces.{judged, minus, no_entry, number_row, opened, owed, pending_of, rejection_reply, remade, renumbered, reply_of}
use Rattle.capcore.proofs.CommonPieces.{revoked_of, row_found, row_messages, row_of-entry, same, same-is, same_caps, same_holder, shown, sized_if, sized_in}
use Rattle.capcore.proofs.CommonPieces.{sizes_owed, state_after, still_known, test_at, told_if, touched, unasked_if, with_asked, with_entry, with_size_due}
use Rattle.capcore.proofs.CommonPieces.{with_told, without, without_acked, without_released}
use Rattle.step_acts.proofs.Opened.{apart-of}
use Rattle.capcore.proofs.EndsThere.{held-renumbered}
use Rattle.capcore.proofs.SoundEnd.{sound-ends}
use Rattle.capcore.proofs.LeftAlone.{found-contains}
use Rattle.capcore.proofs.Moved.{moved-all}
use Rattle.capcore.proofs.Rejecting.{no_moves, rejection-only}
use Rattle.capcore.proofs.Revoking.{revoked-found}
use Rattle.capcore.proofs.Telling.{given-fields, given_fields}

abbrev pub at : Holder → Entry → EntryRow
at k e = record { holder = k; entry = e }

-- ---- what is told of an entry, by what it holds

pub pending-held : (s : Scene) (k : Holder) (e f : Entry) → f.held ≡ e.held → pending_of s (at k f) ≡ pending_of s (at k e)
pending-held s k e f held = same_caps _ _ (λ c. grind (arith, has-pending))

less_than : (h g t : Bool) → ((h && not g) && not t) ≡ ((h && not t) && not g)
less_than h g t = grind arith

-- once some was released
without_released-pending : (s : Scene) (k : Holder) (e : Entry) (caps : Caps) → pending_of s (at k (without_released caps e)) ≡ minus (pending_of s (at k e)) caps
without_released-pending s k e caps = same_caps _ _ (λ c.
    has-pending s (at k (without_released caps e)) c ∙ ap (λ b. b && not (is_revoked s k c)) (has-minus e.held caps c)
    ∙ less_than (has e.held c) (has caps c) (is_revoked s k c)
    ∙ sym (has-minus (pending_of s (at k e)) caps c ∙ ap (λ b. b && not (has caps c)) (has-pending s (at k e) c)))

no_more : (h t : Bool) → ((h && not (h && t)) && not t) ≡ (h && not t)
no_more h t = grind arith

-- and once what is being revoked was taken
without_acked-pending : (s : Scene) (k : Holder) (e : Entry) → pending_of s (at k (without_acked (against s (at k e)) e)) ≡ pending_of s (at k e)
without_acked-pending s k e = same_caps _ _ (λ c.
    has-pending s (at k (without_acked (against s (at k e)) e)) c
    ∙ ap (λ b. b && not (is_revoked s k c)) (has-minus e.held (against s (at k e)) c ∙ ap (λ b. has e.held c && not b) (has-against s (at k e) c))
    ∙ no_more (has e.held c) (is_revoked s k c) ∙ sym (has-pending s (at k e) c))

-- ---- what is known of an entry

record IsKnown (s : Scene) (k : Holder) (was : Caps) (e : Entry) : Type 0 where
  says : IsShown was (pending_of s (at k e)) e
  below : e.told_seq ≤ e.seq

abbrev numbers : Entry → ℕ × (ℕ × ℕ)
numbers e = (e.seq, (e.revoke_seq, e.told_seq))

same-numbers : (was now : Caps) (e f : Entry) → numbers f ≡ numbers e → IsShown was now e → IsShown was now f
same-numbers was now e f same is = grind arith

known-same : (s : Scene) (k : Holder) (was : Caps) (e f : Entry) → f.held ≡ e.held → numbers f ≡ numbers e → IsKnown s k was e → IsKnown s k was f
known-same s k was e f held same known = grind (arith, pending-held, same-numbers)

-- a size that is to be told changes no number
numbers-owed : (row : EntryRow) (b h : Bool) → numbers (cond b (record row { entry = cond h (with_size_due true row.entry) row.entry }) row).entry ≡ numbers row.entry
numbers-owed row b h = grind arith

-- ---- entries by their holders

mapped : (g : Entry → Entry) (o : Option Entry) (f : Entry) → option_map g o ≡ Some f → (e : Entry) × (o ≡ Some e) × (f ≡ g e)
mapped g o f is = grind arith

pub apart_client : (a b : ClientId) → (a.0 == b.0) ≡ false → a ≢ b
apart_client a b off is = true≢false (sym (eq-eqb a.0 b.0 (ap (λ (c : ClientId). c.0) is)) ∙ off)

-- an entry of a table in which one was changed, or went: it is as it was, or is the one that was changed
pub record IsOf (t : Table) (j : Holder) (g : Entry → Entry) (k : Holder) (e : Entry) : Type 0 where
  pub before : Entry
  pub there : entry_at t k ≡ Some before
  pub other : same k j ≡ false → e ≡ before
  pub own : same k j ≡ true → e ≡ g before

pub changed-as : (gone : Bool) (t : Table) (j : Holder) (g : Entry → Entry) (k : Holder) (e : Entry) → entry_at (cond gone (without t j) (changed t j g)) k ≡ Some e → IsOf t j g k e
changed-as gone t j g k e there = grind (arith, entry_at-without_other, apart-of, entry_at-changed_other, same-is, entry_at-without, mapped, entry_at-changed)

-- what an opening leaves of all others
pub entry_at-entry_other : (t : Table) (j k : Holder) → k ≢ j → entry_at (with_entry t j) k ≡ entry_at t k
entry_at-entry_other t j k apart =
    elim (is_some (entry_at t j)) as (λ b. entry_at (cond b t (opened t j)) k ≡ entry_at t k) [ true ↦ refl | false ↦ entry_at-opened_other t j k apart ]

-- an entry of a table of which each row was changed, but for its holder
each-as : (g : EntryRow → EntryRow) → ((row : EntryRow) → (g row).holder ≡ row.holder) → (t : Table) (k : Holder) (f : Entry) → entry_of (find (is_row_of k) (map g t.rows)) ≡ Some f
    → (e : Entry) × (entry_at t k ≡ Some e) × (f ≡ (g (at k e)).entry)
each-as g holders t k f there = by_entry (entry_at t k) refl
  where
    now : find (is_row_of k) (map g t.rows) ≡ option_map g (find (is_row_of k) t.rows)
    now = find-map (is_row_of k) g (λ row. ap (same k) (holders row)) t.rows

    by_entry : (o : Option Entry) → entry_at t k ≡ o → (e : Entry) × (entry_at t k ≡ Some e) × (f ≡ (g (at k e)).entry)
    by_entry None none = let gone : entry_of (find (is_row_of k) (map g t.rows)) ≡ None = ap entry_of (now ∙ ap (option_map g) (no_entry (find (is_row_of k) t.rows) none)) in absurd (cc)
    by_entry (Some e) is =
        let here : entry_of (find (is_row_of k) (map g t.rows)) ≡ Some (g (at k e)).entry = ap entry_of (now ∙ ap (option_map g) (row_of-entry t k e is)) in
        let f_is : f ≡ (g (at k e)).entry = cc in (e, is, f_is)

-- ---- messages that show an inode

cond_same : (b : Bool) (x : Caps) → cond b x x ≡ x
cond_same b x = grind arith

-- the message, if it shows the inode, shows this
abbrev Says : Ino → Caps → Message → Type 0
Says ino pending_now m = is_caps_of ino m ≡ true → (was : Caps) → shown_in ino was m ≡ pending_now

skipped : (ino : Ino) (was : Caps) (m : Message) → is_caps_of ino m ≡ false → shown_in ino was m ≡ was
skipped ino was m off = grind arith

-- where all that show it, show the same, this is shown, if one does
shown_all : (ino : Ino) (pending_now was : Caps) (ms : List Message) → All (Says ino pending_now) ms → fold (shown_in ino) was ms ≡ cond (list_any (is_caps_of ino) ms) pending_now was
shown_all ino pending_now was [] all = refl
shown_all ino pending_now was (m ∷ ms) all =
    elim (is_caps_of ino m) as (λ b. is_caps_of ino m ≡ b → fold (shown_in ino) (shown_in ino was m) ms ≡ cond (b || list_any (is_caps_of ino) ms) pending_now was) [
      | true ↦ λ on. ap (λ (x : Caps). fold (shown_in ino) x ms) (All-head (Says ino pending_now) m ms all on was)
          ∙ shown_all ino pending_now pending_now ms (All-tail (Says ino pending_now) m ms all) ∙ cond_same (list_any (is_caps_of ino) ms) pending_now
      | false ↦ λ off. ap (λ (x : Caps). fold (shown_in ino) x ms) (skipped ino was m off) ∙ shown_all ino pending_now was ms (All-tail (Says ino pending_now) m ms all)
    ] refl

ends_say : (ino : Ino) (pending_now : Caps) (ms : List Ended) → All (Says ino pending_now) (map end_message ms)
ends_say ino pending_now [] = All-nil (Says ino pending_now)
ends_say ino pending_now (m ∷ ms) = All-cons (Says ino pending_now) (end_message m) (map end_message ms) (λ is. absurd (true≢false (sym is))) (ends_say ino pending_now ms)

rows_say : (ino : Ino) (pending_now : Caps) (f : EntryRow → List Message) (rows : List EntryRow) → All (λ row. All (Says ino pending_now) (f row)) rows → All (Says ino pending_now) (flat_map f rows)
rows_say ino pending_now f [] all = All-nil (Says ino pending_now)
rows_say ino pending_now f (row ∷ rows) all =
    let Fact : EntryRow → Type 0 = λ row. All (Says ino pending_now) (f row) in
    All-append (Says ino pending_now) (f row) (flat_map f rows) (All-head Fact row rows all) (rows_say ino pending_now f rows (All-tail Fact row rows all))

row_says : (s : Scene) (ino : Ino) (pending_now : Caps) (row : EntryRow) → ((row.holder.ino.0 == ino.0) ≡ true → pending_of s row ≡ pending_now) → All (Says ino pending_now) (row_messages s row)
row_says s ino pending_now row its = grind (arith, All-append, All-cons, All-nil)

-- ---- an event by itself

module _ (old : State) (sound : IsSound old) (table : IsTable old.scene.table) (rows : List Row) (was_shown : AreShown rows old.scene) where
  abbrev t : Table
  t = old.scene.table

  abbrev Left : Table → (Holder → Caps) → Type 0
  Left first was = (k : Holder) (f : Entry) → entry_at first k ≡ Some f → IsKnown old.scene k (was k) f

  abbrev before : Holder → Caps
  before k = shown_of k rows

  known-old : Left t before
  known-old = grind (arith, found-contains, row_of-entry, All-contains)

  left-same : (first : Table) → ((k : Holder) → entry_at first k ≡ entry_at t k) → Left first before
  left-same first same_entries k f there = known-old k f (sym (same_entries k) ∙ there)

  left-recalled : (n : ℕ) → Left (recalled t n) before
  left-recalled n k f there = elim (cases_Bool (is_among (take n t.recall) k)) [
    | inr off ↦ known-old k f (sym (entry_at-recalled_other t n k off) ∙ there)
    | inl on ↦
        let found = mapped (with_asked true) (entry_at t k) f (sym (entry_at-recalled t n k on) ∙ there) in
        subst (IsKnown old.scene k (before k)) (sym found.2) (known-same old.scene k (before k) found.0 (with_asked true found.0) refl refl (known-old k found.0 found.1))
  ]

  left-dropped : (client : ClientId) → Left (without_client t client) before
  left-dropped client k f there = elim (cases_Bool (k.client.0 == client.0)) [
    | inr off ↦ known-old k f (sym (entry_at-without_client_other t client k (apart_client k.client client off)) ∙ there)
    | inl on ↦
        let none : entry_at (without_client t client) k ≡ None = entry_at-without_client t client k (λ i. record { 0 = eqb-true k.client.0 client.0 on i }) in
        absurd (cc)
  ]

  -- what an opening or a want leaves of all others
  abbrev LeftBut : Table → Holder → Type 0
  LeftBut first j = (k : Holder) (f : Entry) → same k j ≡ false → entry_at first k ≡ Some f → IsKnown old.scene k (before k) f

  left-opened : (j : Holder) (mode : OpenMode) → LeftBut (with_opening t j mode) j
  left-opened j mode k f off there =
      let apart = apart-of k j off in known-old k f (sym (entry_at-changed_other (with_entry t j) j k _ apart ∙ entry_at-entry_other t j k apart) ∙ there)

  left-wanted : (j : Holder) (caps : Caps) → LeftBut (with_wanted t j caps) j
  left-wanted j caps k f off there = known-old k f (sym (entry_at-changed_other t j k _ (apart-of k j off)) ∙ there)

  -- what a release leaves
  left-released : (j : Holder) (caps : Caps) → Left (released t j caps) (λ k. cond (same k j) (minus (before k) caps) (before k))
  left-released j caps k f there =
      let m = changed-as (has caps P) t j (without_released caps) k f there in
      let known = known-old k m.before m.there in
      elim (same k j) as (λ b. same k j ≡ b → IsKnown old.scene k (cond b (minus (before k) caps) (before k)) f) [
        | false ↦ λ off. subst (IsKnown old.scene k (before k)) (sym (m.other off)) known
        | true ↦ λ on. subst (IsKnown old.scene k (minus (before k) caps)) (sym (m.own on)) (record {
          says = subst (λ (pending_now : Caps). IsShown (minus (before k) caps) pending_now (without_released caps m.before)) (sym (without_released-pending old.scene k m.before caps))
              (shown-less (before k) (pending_of old.scene (at k m.before)) caps m.before (without_released caps m.before) refl refl refl known.says);
          below = known.below;
        })
      ] refl

  -- what an acknowledgement leaves
  left-acked : (j : Holder) → Left (acked t j (revoked_of old.scene j)) before
  left-acked j k f there =
      let m = changed-as (has (revoked_of old.scene j) P && test_at has_pin t j) t j (without_acked (revoked_of old.scene j)) k f there in
      let e : Entry = m.before in
      let known = known-old k e m.there in
      elim (cases_Bool (same k j)) [
        | inr off ↦ subst (IsKnown old.scene k (before k)) (sym (m.other off)) known
        | inl on ↦
            let all : revoked_of old.scene j ≡ against old.scene (at k e) = ap (revoked_of old.scene) (sym (same-is k j on)) ∙ revoked-found old.scene k e m.there in
            subst (IsKnown old.scene k (before k)) (sym (m.own on ∙ ap (λ (caps : Caps). without_acked caps e) all)) (record {
              says = subst (λ (pending_now : Caps). IsShown (before k) pending_now (without_acked (against old.scene (at k e)) e)) (sym (without_acked-pending old.scene k e))
                  (same-numbers (before k) (pending_of old.scene (at k e)) e (without_acked (against old.scene (at k e)) e) refl known.says);
              below = known.below;
            })
      ]

  -- ---- the end of the step

  module _ (moves : List Made) (d : Direct) (settled : Scene) (settles : Settles d.state.scene moves settled) where
    abbrev first : Scene
    first = d.state.scene

    abbrev st : State
    st = state_after old d moves settled

    -- the scene, in which the sizes that were changed are to be told
    abbrev owing : Scene
    owing = sizes_owed (sized_in moves) settled

    abbrev ended : Scene
    ended = forget (issue owing)

    same_table : settled.table ≡ first.table
    same_table = (moved-all first moves settled settles.made).table

    abbrev owed_row : EntryRow → EntryRow
    owed_row row = cond (is_sized (sized_in moves) row) (remade owed row) row

    -- an entry as the step leaves it, by what was known of it right after the event
    numbered : (k : Holder) (was : Caps) → ((g : Entry) → entry_at first.table k ≡ Some g → IsKnown old.scene k was g) → (e : Entry) → entry_at st.scene.table k ≡ Some e → IsShown was (pending_of st.scene (at k e)) e
    numbered k was known e last =
        let n = each-as (number_row old.scene first ended) (λ row. refl) ended.table k e last in
        let m = each-as (issue_row owing) (λ row. refl) owing.table k n.0 n.1 in
        let o = each-as owed_row (λ row. same_holder owed row (is_sized (sized_in moves) row)) settled.table k m.0 m.1 in
        let more : Entry = n.0 in
        let there : entry_at first.table k ≡ Some o.0 = ap (λ (u : Table). entry_at u k) (sym same_table) ∙ o.1 in
        let then_pending : Caps = pending_of old.scene (at k o.0) in
        let now_pending : Caps = pending_of ended (at k more) in
        let says = known o.0 there in
        let same : numbers more ≡ numbers o.0 = ap numbers m.2 ∙ ap numbers o.2 ∙ numbers-owed (at k o.0) (is_sized (sized_in moves) (at k o.0)) (has o.0.held Fc) in
        let e_is : e ≡ renumbered then_pending now_pending more = n.2 ∙ ap (λ (caps : Caps). renumbered caps now_pending more) (ap (still_known old.scene) (row_of-entry first.table k o.0 there)) in
        subst (λ (x : Entry). IsShown was (pending_of st.scene (at k x)) x) (sym e_is)
        (subst (λ (now : Caps). IsShown was now (renumbered then_pending now_pending more)) (sym (pending-held st.scene k more (renumbered then_pending now_pending more) (held-renumbered then_pending now_pending more)))
        (shown-numbered was then_pending now_pending more (subst (λ (n : ℕ × (ℕ × ℕ)). n.1.1 ≤ n.0) (sym same) says.below) (same-numbers was then_pending o.0 more same says.says)))

    by_number : (was : Holder → Caps) → Left first.table was → (k : Holder) (e : Entry) → entry_at st.scene.table k ≡ Some e → IsShown (was k) (pending_of st.scene (at k e)) e
    by_number was left k e last = numbered k (was k) (left k) e last

    -- where it is shown to one holder
    by_show : (j : Holder) → LeftBut first.table j → (k : Holder) (e : Entry) → entry_at (shown (Shows j) st).scene.table k ≡ Some e
        → IsShown (cond (same k j) (shown_opened (before k) (reply_of st (ended_in moves) (Shows j))) (before k)) (pending_of st.scene (at k e)) e
    by_show j left k e last = elim (same k j) as (λ b. same k j ≡ b → IsShown (cond b (shown_opened (before k) (reply_of st (ended_in moves) (Shows j))) (before k)) (pending_of st.scene (at k e)) e) [
      | true ↦ λ on. own (same-is k j on)
      | false ↦ λ off. numbered k (before k) (λ g was. left k g off was) e (sym (entry_at-changed_other st.scene.table j k with_told (apart-of k j off)) ∙ last)
    ] refl
      where
        own : k ≡ j → IsShown (shown_opened (before k) (reply_of st (ended_in moves) (Shows j))) (pending_of st.scene (at k e)) e
        own is =
            let now : entry_at (changed st.scene.table j with_told) k ≡ option_map with_told (entry_at st.scene.table k) =
            ap (entry_at (changed st.scene.table j with_told)) is ∙ entry_at-changed st.scene.table j with_told ∙ ap (λ (q : Holder). option_map with_told (entry_at st.scene.table q)) (sym is) in
            let found_it = mapped with_told (entry_at st.scene.table k) e (sym now ∙ last) in
            let f : Entry = found_it.0 in
            let answers : reply_of st (ended_in moves) (Shows j) ≡ Reply.Opened f.seq (pending_of st.scene (at k f)) =
            ap (λ (q : Holder). opened_as st.scene (find (is_row_of q) st.scene.table.rows)) (sym is) ∙ ap (opened_as st.scene) (row_of-entry st.scene.table k f found_it.1) in
            subst (λ (x : Entry). IsShown (shown_opened (before k) (reply_of st (ended_in moves) (Shows j))) (pending_of st.scene (at k x)) x) (sym found_it.2)
            (subst (λ (r : Reply). IsShown (shown_opened (before k) r) (pending_of st.scene (at k (with_told f))) (with_told f)) (sym answers) (shown-told (pending_of st.scene (at k f)) f))

  -- ---- by event

  abbrev Shown : Event → List Made → Scene → Type 0
  Shown e moves settled =
      let d : Direct = effect old e in
      let st : State = state_after old d moves settled in
      (k : Holder) (f : Entry) → entry_at (shown d.reply_due st).scene.table k ≡ Some f →
      IsShown (shown_by k (before k) e (reply_of st (ended_in moves) d.reply_due)) (pending_of (shown d.reply_due st).scene (at k f)) f

  -- a poll shows what its messages say, and is told of
  module _ (client : ClientId) (max : ℕ) where
    abbrev given : List Message
    given = first_messages old client max

    abbrev polled_row : EntryRow → EntryRow
    polled_row row = cond (is_of_client client row) (remade (after_messages given) row) row

    all_say : (k : Holder) (e : Entry) → entry_at t k ≡ Some e → (k.client.0 == client.0) ≡ true → All (Says k.ino (pending_of old.scene (at k e))) given
    all_say k e there own =
        let now : Caps = pending_of old.scene (at k e) in
        let of_it : EntryRow → List Message = row_messages old.scene in
        let mine : List EntryRow = filter (is_of_client client) t.rows in
        All-take (Says k.ino now) max (messages_to old client)
        (All-append (Says k.ino now) (end_messages client old.messages) (flat_map of_it mine) (ends_say k.ino now (filter (is_to client) old.messages))
        (rows_say k.ino now of_it mine (All-weaker (Contains mine) (λ row. All (Says k.ino now) (of_it row)) (λ row inside. row_says old.scene k.ino now row (same_row row inside)) mine (All-contains_itself mine))))
      where
        same_row : (row : EntryRow) → Contains (filter (is_of_client client) t.rows) row → (row.holder.ino.0 == k.ino.0) ≡ true → pending_of old.scene row ≡ pending_of old.scene (at k e)
        same_row row inside on =
            let its : (row.holder.client.0 == client.0) ≡ true =
            All-contains (λ r. is_of_client client r ≡ true) (filter (is_of_client client) t.rows) row (filter_passes (is_of_client client) t.rows) inside in
            let clients : row.holder.client.0 ≡ k.client.0 = eqb-true row.holder.client.0 client.0 its ∙ sym (eqb-true k.client.0 client.0 own) in
            let inos : row.holder.ino.0 ≡ k.ino.0 = eqb-true row.holder.ino.0 k.ino.0 on in
            let holders : row.holder ≡ k = λ i. record { client = record { 0 = clients i }; ino = record { 0 = inos i } } in
            let both : Some row ≡ Some (at k e) = sym (row_found t row table (contains-filter (is_of_client client) t.rows row inside)) ∙ ap (λ (q : Holder). find (is_row_of q) t.rows) holders ∙ row_of-entry t k e there in
            let rows_same : row ≡ at k e = cc in
            ap (pending_of old.scene) rows_same

    -- what an entry becomes
    given_entry : (k : Holder) (e : Entry) → entry_at t k ≡ Some e
        → IsShown (cond (k.client.0 == client.0) (fold (shown_in k.ino) (before k) given) (before k)) (pending_of old.scene (at k (polled_row (at k e)).entry)) (polled_row (at k e)).entry
    given_entry k e there = elim (k.client.0 == client.0) as (λ b. (k.client.0 == client.0) ≡ b
        → IsShown (cond b (fold (shown_in k.ino) (before k) given) (before k)) (pending_of old.scene (at k (cond b (remade (after_messages given) (at k e)) (at k e)).entry)) (cond b (remade (after_messages given) (at k e)) (at k e)).entry) [
          | false ↦ λ off. was_shown k e there
          | true ↦ λ own.
              subst (λ (x : Caps). IsShown x (pending_of old.scene (at k (after_messages given (at k e)))) (after_messages given (at k e)))
              (sym (shown_all k.ino (pending_of old.scene (at k e)) (before k) given (all_say k e there own)))
              (by_tests (list_any (is_caps_of k.ino) given) (list_any (is_size_of k.ino) given) (list_any (is_recall_of k.ino) given))
        ] refl
      where
        fields : (b z c : Bool) → IsShown (cond b (pending_of old.scene (at k e)) (before k)) (pending_of old.scene (at k (given_fields b z c e))) (given_fields b z c e)
        fields true z c = same-numbers (pending_of old.scene (at k e)) (pending_of old.scene (at k e)) (with_told e) (given_fields true z c e) refl (shown-told (pending_of old.scene (at k e)) e)
        fields false z c = same-numbers (before k) (pending_of old.scene (at k e)) e (given_fields false z c e) refl (was_shown k e there)

        by_tests : (b z c : Bool) → IsShown (cond b (pending_of old.scene (at k e)) (before k)) (pending_of old.scene (at k (unasked_if c (sized_if z (told_if b e))))) (unasked_if c (sized_if z (told_if b e)))
        by_tests b z c = subst (λ (x : Entry). IsShown (cond b (pending_of old.scene (at k e)) (before k)) (pending_of old.scene (at k x)) x) (sym (given-fields e b z c)) (fields b z c)

    abbrev poll_of : Direct
    poll_of = record { state = old; reply_due = Gives client max; dropped = [] }

    -- what a poll leaves of a state
    abbrev PollShown : State → Type 0
    PollShown s =
        (k : Holder) (f : Entry) → entry_at (shown (Gives client max) s).scene.table k ≡ Some f →
        IsShown (cond (k.client.0 == client.0) (fold (shown_in k.ino) (before k) (first_messages s client max)) (before k)) (pending_of (shown (Gives client max) s).scene (at k f)) f

    poll_shown : PollShown old
    poll_shown k f now =
        let m = each-as polled_row (λ row. same_holder (after_messages given) row (is_of_client client row)) t k f now in
        subst (λ (x : Entry). IsShown (cond (k.client.0 == client.0) (fold (shown_in k.ino) (before k) given) (before k)) (pending_of old.scene (at k x)) x) (sym m.2) (given_entry k m.0 m.1)

    nothing_left : state_after old poll_of [] old.scene ≡ old
    nothing_left = λ i. record old { scene = sound-ends old sound table i; messages = append-nil old.messages i }

    polled : (moves : List Made) (settled : Scene) → Settles old.scene moves settled → PollShown (state_after old poll_of moves settled)
    polled moves settled settles =
        let none = no_moves old.scene moves settled (at_rest_settled old.scene sound.at_rest) settles.made in
        subst PollShown (sym ((λ i. state_after old poll_of (none.0 i) (none.1 i)) ∙ nothing_left)) poll_shown

  -- what is found, changes nothing
  looked_up : (client : ClientId) (dir : Ino) (name : List ℕ) (o : Option ℕ) (moves : List Made) (settled : Scene) → Settles (found old o).state.scene moves settled → (k : Holder) (f : Entry)
      → entry_at (shown (found old o).reply_due (state_after old (found old o) moves settled)).scene.table k ≡ Some f
      → IsShown (before k) (pending_of (shown (found old o).reply_due (state_after old (found old o) moves settled)).scene (at k f)) f
  looked_up client dir name None moves settled settles = by_number moves (found old None) settled settles before (left-same t (λ k. refl))
  looked_up client dir name (Some ino) moves settled settles = by_number moves (found old (Some ino)) settled settles before (left-same t (λ k. refl))

  pub by_event : (e : Event) → (moves : List Made) (settled : Scene) → Settles (effect old e).state.scene moves settled → Shown e moves settled
  by_event (Event.CloseSession client) moves settled settles = by_number moves (effect old (Event.CloseSession client)) settled settles before (left-dropped client)
  by_event (Event.Evict client) moves settled settles = by_number moves (effect old (Event.Evict client)) settled settles before (left-dropped client)
  by_event (Event.Recall count) moves settled settles = by_number moves (effect old (Event.Recall count)) settled settles before (left-recalled count)
  by_event (Event.Lookup client dir name) moves settled settles = looked_up client dir name (child old.scene.tree.nodes dir.0 name) moves settled settles
  by_event (Event.Open client ino mode) moves settled settles = by_show moves (effect old (Event.Open client ino mode)) settled settles (holder client ino) (left-opened (holder client ino) mode)
  by_event (Event.Want client ino caps) moves settled settles = by_show moves (effect old (Event.Want client ino caps)) settled settles (holder client ino) (left-wanted (holder client ino) caps)
  by_event (Event.Ack client ino seq) moves settled settles = by_number moves (effect old (Event.Ack client ino seq)) settled settles before (left-acked (holder client ino))
  by_event (Event.Release client ino caps) moves settled settles =
      by_number moves (effect old (Event.Release client ino caps)) settled settles (λ k. cond (same k (holder client ino)) (minus (before k) caps) (before k)) (left-released (holder client ino) caps)
  by_event (Event.Flush client ino change) moves settled settles = by_number moves (effect old (Event.Flush client ino change)) settled settles before (left-same (touched t (holder client ino)) (λ k. refl))
  by_event (Event.Poll client max) moves settled settles = polled client max moves settled settles
  by_event e moves settled settles = by_number moves (effect old e) settled settles before (left-same t (λ k. refl))

-- ---- a step

-- what is rejected shows nothing
rejection-shows : (k : Holder) (was : Caps) (e : Event) (x : Rejection) → shown_by k was e (rejection_reply x) ≡ was
rejection-shows k was e x = grind (arith, cond_same)

pub step-shown : (old new : State) (rows : List Row) (row : Row) → IsSound old → IsTable old.scene.table → AreShown rows old.scene → Step old row.event row.reply row.ended new
    → AreShown (rows ++ row ∷ []) new.scene
step-shown old new rows row sound table was_shown (moves, step) k e there =
    subst (λ (was : Caps). IsShown was (pending_of new.scene (at k e)) e) (sym (fold-append _ _ rows (row ∷ []))) (by_judged (judged old.scene row.event) refl there)
  where
    -- so it is of a state and an answer
    Tells : State × Reply → Type 0
    Tells end = entry_at end.0.scene.table k ≡ Some e → IsShown (shown_by k (shown_of k rows) row.event end.1) (pending_of end.0.scene (at k e)) e

    end : Direct → State × Reply
    end d = (shown d.reply_due (state_after old d moves step.settled), reply_of (state_after old d moves step.settled) (ended_in moves) d.reply_due)

    by_judged : (o : Option Rejection) → judged old.scene row.event ≡ o → Tells (new, row.reply)
    by_judged (Some x) is =
        let only = rejection-only old new row.event x row.reply row.ended sound table is (moves, step) in
        subst Tells (λ i. (sym only.2 i, sym only.0 i)) (λ here. subst (λ (was : Caps). IsShown was (pending_of old.scene (at k e)) e) (sym (rejection-shows k (shown_of k rows) row.event x)) (was_shown k e here))
    by_judged None free =
        let by_itself : direct old row.event ≡ effect old row.event = ap (effect_unless old row.event) free in
        let is : ◌≡◌ {A = State × Reply} (new, row.reply) (end (effect old row.event)) = (λ i. (step.new_is i, step.reply_is i)) ∙ ap end by_itself in
        subst Tells (sym is) (by_event old sound table rows was_shown row.event moves step.settled (subst (λ (d : Direct). Settles d.state.scene moves step.settled) by_itself step.settles) k e)
