-- What an event about one entry leaves of each entry, and of what is kept of it.
use Rattle.std.proofs.Common.{◌≡◌, ◌⊎◌, inl, inr, Bool, true, false, not, cond, Some, None, is_some, [], ◌∷◌, refl, sym, ap, ◌∙◌, arith}
use Rattle.std.proofs.lemmas.List.Elements.{All-contains}
use Rattle.std.specs.List.{find}
use Rattle.std.specs.Option.{option_map}
use Rattle.capbits.specs.Caps.{has}
use Rattle.capbits.specs.Sets.{no_caps}
use Rattle.captable.specs.Kept.{KeptRow, is_kept_of, kept_without}
use Rattle.captable.specs.declared.entry.ClientView.{ClientView}
use Rattle.step_acts.proofs.Opened.{apart-of, kept-itself}
use Rattle.step_acts.specs.Known.{StillKept, sets_of}
use Rattle.capcore.proofs.CommonPieces.{AreKnown, ClientViews, Entry, Holder, IsSound, IsSoundEntry, IsSubset, OpenMode, OthersHaveAll, P, Scene}
use Rattle.capcore.proofs.CommonPieces.{State, StillKnown, Table, caps_in, changed, entry_at, entry_at-opened, entry_at-opened_other, entry_at-without, entry_of}
use Rattle.capcore.proofs.CommonPieces.{find-filter_kept, has-caps_in, has-minus, has-none, has-union, is_row_of, new_entry, opened}
use Rattle.capcore.proofs.CommonPieces.{opening_wants, permitted, revoked_of, row_of-entry, same, same-is, same_equiv, union, wanting}
use Rattle.capcore.proofs.CommonPieces.{without, without_acked, without_released}
use Rattle.capcore.proofs.Knowing.{HoldAlike, held_at, still-known}
use Rattle.capcore.proofs.LeftAlone.{found-contains}
use Rattle.capcore.proofs.Revoking.{pin-goes}
use Rattle.capcore.proofs.ShownSteps.{IsOf, changed-as}
use Rattle.capcore.specs.EntryRequest.{table_after}
use Rattle.capcore.specs.declared.entry_request.EntryRequest.{EntryRequest}
use Rattle.capcore.specs.declared.entry_request.EntryRequest.TheVariants.{Ack, Open, Release, Want}

-- ---- what is kept of each

-- a change of one entry, of which the same is kept of all that are left
pub kept-changed : (s : Scene) (mid new : Table) (was now last : ClientViews) (k : Holder) (gone : Bool) (g : Entry → Entry) → StillKept s mid was now → new.rows ≡ (cond gone (without mid k) (changed mid k g)).rows
    → ((j : Holder) (e : Entry) → entry_at new j ≡ Some e → sets_of last j ≡ sets_of now j) → StillKept s new was last
kept-changed s mid new was now last k gone g kept is same_kept = record {
  known = λ j e here. let f = there j e here in let known = kept.known j f.0 f.1 in let same_sets = same_kept j e here in grind arith;
  permitted = λ all j e here. let f = there j e here in ap (option_map (λ (s : ClientView). s.permitted)) (same_kept j e here) ∙ kept.permitted all j f.0 f.1;
}
  where
    there : (j : Holder) (e : Entry) → entry_at new j ≡ Some e → (f : Entry) × (entry_at mid j ≡ Some f)
    there j e here = let m = changed-as gone mid k g j e (ap (λ rows. entry_of (find (is_row_of j) rows)) (sym is) ∙ here) in (m.before, m.there)

-- what is kept of others, where the sets of a holder go
without-other : (kept : ClientViews) (k j : Holder) → same k j ≡ false → sets_of (kept_without kept k) j ≡ sets_of kept j
without-other kept k j apart =
    ap (option_map (λ (row : KeptRow). row.sets))
    (find-filter_kept (is_kept_of j) (λ row. not (is_kept_of k row)) (λ row is. ap not (ap (same k) (sym (same-is j row.holder is)) ∙ apart)) kept)

-- where one entry changes, or goes with what is kept of it, all is kept of those that are left
pub kept-less : (s : Scene) (sets : ClientViews) (k : Holder) (gone : Bool) (g : Entry → Entry) → StillKept s (cond gone (without s.table k) (changed s.table k g)) sets (cond gone (kept_without sets k) sets)
kept-less s sets k gone g = kept-changed s s.table (cond gone (without s.table k) (changed s.table k g)) sets sets (cond gone (kept_without sets k) sets) k gone g (kept-itself s sets) refl (by_gone gone)
  where
    other : (j : Holder) (e : Entry) → entry_at (without s.table k) j ≡ Some e → (b : Bool) → same k j ≡ b → same k j ≡ false
    other j e here false is = is
    other j e here true is = let none = ap (entry_at (without s.table k)) (sym (same-is k j is)) ∙ entry_at-without s.table k in absurd (cc)

    by_gone : (b : Bool) (j : Holder) (e : Entry) → entry_at (cond b (without s.table k) (changed s.table k g)) j ≡ Some e → sets_of (cond b (kept_without sets k) sets) j ≡ sets_of sets j
    by_gone true j e here = without-other sets k j (other j e here (same k j) refl)
    by_gone false j e here = refl

-- ---- what is told

-- where what is held stays, all hold alike
pub alike-changed : (t : Table) (j : Holder) (g : Entry → Entry) → ((e : Entry) → (g e).held ≡ e.held) → HoldAlike t (changed t j g)
alike-changed t j g same_held k e there =
    let m = changed-as false t j g k e there in
    (m.before, m.there, elim (same k j) as (λ b. same k j ≡ b → e.held ≡ m.before.held) [ true ↦ λ on. ap (λ (x : Entry). x.held) (m.own on) ∙ same_held m.before | false ↦ λ off. ap (λ (x : Entry). x.held) (m.other off) ] refl)

-- ---- what becomes of the holder's entry

-- the entry holds no more than the other did, and has its numbers; and it holds and wants the pin, if that did
pub record IsLess (e f : Entry) : Type 0 where
  pub held : IsSubset e.held f.held
  pub pin : has f.held P ≡ true → has e.held P ≡ true
  pub wants : has f.want P ≡ true → has e.want P ≡ true
  pub seq : e.seq ≡ f.seq
  pub told : e.told_seq ≡ f.told_seq
  pub revoked : e.revoke_seq ≡ f.revoke_seq

less-itself : (e : Entry) → IsLess e e
less-itself e = grind arith

-- whether it goes, and what it is else
abbrev goes : Scene → Holder → EntryRequest → Bool
goes s k (Open mode) = false
goes s k (Want caps) = false
goes s k (Ack seq) = has (revoked_of s k) P
goes s k (Release caps) = has caps P

abbrev edited : Scene → Holder → EntryRequest → Entry → Entry
edited s k (Open mode) e = wanting (union e.want (opening_wants mode)) e
edited s k (Want caps) e = wanting (union caps (caps_in (P ∷ []))) e
edited s k (Ack seq) e = without_acked (revoked_of s k) e
edited s k (Release caps) e = without_released caps e

edited-less : (s : Scene) (k : Holder) (request : EntryRequest) (e : Entry) → goes s k request ≡ false → IsLess (edited s k request e) e
edited-less s k request e stays = grind (arith, has-union, has-minus, has-caps_in)

gone-not : (gone : Bool) (t : Table) (k j : Holder) (g : Entry → Entry) (e : Entry) → entry_at (cond gone (without t k) (changed t k g)) j ≡ Some e → same j k ≡ true → gone ≡ false
gone-not gone t k j g e here on = let is = same-is j k on in let none = entry_at-without t k in grind arith

-- the entry was there, and if it is not the holder's, it is as it was
pub record IsLeft (t : Table) (k j : Holder) (e : Entry) : Type 0 where
  pub was : Entry
  pub there : entry_at t j ≡ Some was
  pub less : IsLess e was
  pub other : same j k ≡ false → e ≡ was

-- or an opening has made it
pub record IsMade (t : Table) (k j : Holder) (request : EntryRequest) (e : Entry) : Type 0 where
  pub mode : OpenMode
  pub is : request ≡ Open mode
  pub own : j ≡ k
  pub none : entry_at t k ≡ None
  pub entry : e ≡ wanting (union no_caps (opening_wants mode)) new_entry

module _ (s : Scene) (k : Holder) where
  left : (request : EntryRequest) (t : Table) (j : Holder) (e : Entry) → entry_at (cond (goes s k request) (without t k) (changed t k (edited s k request))) j ≡ Some e → IsLeft t k j e
  left request t j e here =
      let m = changed-as (goes s k request) t k (edited s k request) j e here in
      record { was = m.before; there = m.there; less = by_same m (same j k) refl; other = m.other }
    where
      by_same : (m : IsOf t k (edited s k request) j e) (b : Bool) → same j k ≡ b → IsLess e m.before
      by_same m true on = rw (m.own on) (edited-less s k request m.before (gone-not (goes s k request) t k j (edited s k request) e here on))
      by_same m false off = rw (m.other off) (less-itself m.before)

  opened-after : (mode : OpenMode) (j : Holder) (e : Entry) → entry_at s.table k ≡ None → entry_at (changed (opened s.table k) k (edited s k (Open mode))) j ≡ Some e → (b : Bool) → same j k ≡ b
      → IsLeft s.table k j e ⊎ IsMade s.table k j (Open mode) e
  opened-after mode j e none here true on =
      let m = changed-as false (opened s.table k) k (edited s k (Open mode)) j e here in
      let made : entry_at (opened s.table k) j ≡ Some new_entry = ap (entry_at (opened s.table k)) (same-is j k on) ∙ entry_at-opened s.table k none in
      let new : m.before ≡ new_entry = cc in
      inr (record { mode = mode; is = refl; own = same-is j k on; none = none; entry = m.own on ∙ ap (edited s k (Open mode)) new })
  opened-after mode j e none here false off =
      let l = left (Open mode) (opened s.table k) j e here in
      inl (record { was = l.was; there = sym (entry_at-opened_other s.table k j (apart-of j k off)) ∙ l.there; less = l.less; other = l.other })

  pub each-after : (request : EntryRequest) (j : Holder) (e : Entry) → entry_at (table_after s k request) j ≡ Some e → IsLeft s.table k j e ⊎ IsMade s.table k j request e
  each-after (Open mode) j e here =
      elim (entry_at s.table k) as (λ o. entry_at s.table k ≡ o → entry_at (changed (cond (is_some o) s.table (opened s.table k)) k (edited s k (Open mode))) j ≡ Some e → IsLeft s.table k j e ⊎ IsMade s.table k j (Open mode) e) [
        | Some f ↦ λ is here. inl (left (Open mode) s.table j e here)
        | None ↦ λ none here. opened-after mode j e none here (same j k) refl
      ] refl here
  each-after (Want caps) j e here = inl (left (Want caps) s.table j e here)
  each-after (Ack seq) j e here =
      inl (left (Ack seq) s.table j e (ap (λ b. entry_at (cond b (without s.table k) (changed s.table k (without_acked (revoked_of s k)))) j) (sym (pin-goes s k)) ∙ here))
  each-after (Release caps) j e here = inl (left (Release caps) s.table j e here)

  -- nobody holds more, since a new entry holds nothing
  pub request-less : (request : EntryRequest) (j : Holder) (e : Entry) → entry_at (table_after s k request) j ≡ Some e → IsSubset e.held (held_at s.table j)
  request-less request j e here = by (each-after request j e here)
    where
      by : IsLeft s.table k j e ⊎ IsMade s.table k j request e → IsSubset e.held (held_at s.table j)
      by (inl l) c held = let less = l.less.held c held in grind arith
      by (inr m) c held = grind (arith, has-none)

  -- the others are as they were
  other-before : (request : EntryRequest) (j : Holder) (e : Entry) → IsLeft s.table k j e ⊎ IsMade s.table k j request e → same j k ≡ false → entry_at s.table j ≡ Some e
  other-before request j e is apart = grind (arith, same_equiv.refl)

-- and where the old state was sound, each has all still
pub others-have_all : (was now : ClientViews) (old : State) (k : Holder) (request : EntryRequest) → IsSound old → AreKnown was old.scene
    → StillKnown old.scene.table (table_after old.scene k request) was now → OthersHaveAll now (record old.scene { table = table_after old.scene k request }) k
others-have_all was now old k request sound known still j e on apart there =
    let before = other-before old.scene k request j e (each-after old.scene k request j e there) apart in
    let inside = found-contains (is_row_of j) old.scene.table.rows (record { holder = j; entry = e }) (row_of-entry old.scene.table j e before) in
    ((All-contains (IsSoundEntry old.scene) _ _ sound.entries inside).has_issuable, still-known was now old.scene (table_after old.scene k request) known still j e e there before)
