-- What is kept of each entry from the end of the last step, as events leave it.
use Rattle.std.proofs.Common.{◌≡◌, Bool, true, false, arith, cond, not, ◌&&◌, Option, Some, None, IsSome, refl, sym, ap, subst, ◌∙◌, true≢false}
use Rattle.std.proofs.lemmas.Bool.{and_right, false_from_ne_true, false≢true}
use Rattle.std.specs.Option.{option_map_or, unwrap_or}
use Rattle.capbits.specs.Caps.{has}
use Rattle.capbits.specs.Sets.{no_caps}
use Rattle.step_acts.proofs.KeptSets.{made-there}
use Rattle.capcore.proofs.CommonPieces.{AreKnown, Caps, ClientViews, Entry, EntryRow, Holder, IsSubset, IsTable, Scene, StillKnown, Table, changed_where, entry_at}
use Rattle.capcore.proofs.CommonPieces.{entry_of, has-against, has-meet, has-minus, has-none, has-pending, is_revoked, is_still_known, known_in, known_of, meet, minus}
use Rattle.capcore.proofs.CommonPieces.{pending-less, pending_of, remade, revoked_of, row_found, same_caps}
use Rattle.capcore.proofs.Revoking.{revoked-found}
use Rattle.capcore.proofs.ShownSteps.{pending-held}
use Rattle.capcore.specs.Affected.{Knows}

-- ---- as much or less is held

-- what an entry holds
abbrev pub held_at : Table → Holder → Caps
held_at table k = option_map_or (λ (e : Entry). e.held) (entry_at table k) no_caps

-- each entry of the new table was there, and held this
abbrev pub HoldAlike : Table → Table → Type 0
HoldAlike old new = (k : Holder) (e : Entry) → entry_at new k ≡ Some e → (f : Entry) × (entry_at old k ≡ Some f) × (e.held ≡ f.held)

-- so nobody holds more
pub alike-less : (old new : Table) → HoldAlike old new → (k : Holder) (e : Entry) → entry_at new k ≡ Some e → IsSubset e.held (held_at old k)
alike-less old new alike k e there c held =
    let was = alike k e there in
    ap (λ (o : Option Entry). has (option_map_or (λ (x : Entry). x.held) o no_caps) c) was.1 ∙ ap (λ caps. has caps c) (sym was.2) ∙ held

-- entries that hold alike keep what is kept of them
pub known-alike : (sets : ClientViews) (s : Scene) (new : Table) → HoldAlike s.table new → AreKnown sets s → AreKnown sets (record s { table = new })
known-alike sets s new alike known k e there =
    let was = alike k e there in
    known k was.0 was.1 ∙ ap Some (sym (pending-held s k was.0 e was.2))

-- so they do where all that pass a test are changed, but not what they hold
pub alike-where : (passes : EntryRow → Bool) (g : EntryRow → Entry) (t : Table) → ((row : EntryRow) → (g row).held ≡ row.entry.held) → HoldAlike t (changed_where passes g t)
alike-where passes g t same_held k e there =
    let was = made-there passes g t k e there in
    (was.0.entry, ap entry_of was.1, ap (λ (x : Entry). x.held) was.2 ∙ held_by was.0 (passes was.0))
  where
    held_by : (row : EntryRow) (b : Bool) → (cond b (remade g row) row).entry.held ≡ row.entry.held
    held_by row true = same_held row
    held_by row false = refl

-- ---- what is being revoked

rest_of : (h t : Bool) → (h && not (h && not t)) ≡ (h && t)
rest_of h t = grind arith

-- it is what is held and is not known
pub revoked-known : (sets : ClientViews) (s : Scene) (k : Holder) (e : Entry) → AreKnown sets s → entry_at s.table k ≡ Some e → minus e.held (known_in sets k) ≡ revoked_of s k
revoked-known sets s k e known there =
    ap (λ (o : Option Caps). minus e.held (unwrap_or o no_caps)) (known k e there)
    ∙ same_caps _ _ (λ c.
    has-minus e.held (pending_of s (record { holder = k; entry = e })) c
    ∙ ap (λ b. has e.held c && not b) (has-pending s (record { holder = k; entry = e }) c)
    ∙ rest_of (has e.held c) (is_revoked s k c)
    ∙ sym (has-against s (record { holder = k; entry = e }) c))
    ∙ sym (revoked-found s k e there)

-- ---- what an event leaves by itself

-- entries of a table of which each was there, where of each the same is kept
pub still-there : (old new : Table) (was now : ClientViews) → ((k : Holder) (e : Entry) → entry_at new k ≡ Some e → IsSome (entry_at old k))
    → ((k : Holder) (e : Entry) → entry_at new k ≡ Some e → known_of now k ≡ known_of was k) → StillKnown old new was now
still-there old new was now there same_kept k e here =
    elim (entry_at old k) as (λ o. IsSome o → is_still_known o (known_of was k) (known_of now k)) [
      | None ↦ λ some. absurd (true≢false (sym some))
      | Some f ↦ λ some. same_kept k e here
    ] (there k e here)

module _ (was now : ClientViews) (old : Scene) (table : Table) (known : AreKnown was old) (still : StillKnown old.table table was now) where
  -- of an entry that was there, what was kept is kept
  pub still-known : (k : Holder) (e f : Entry) → entry_at table k ≡ Some e → entry_at old.table k ≡ Some f → known_of now k ≡ Some (pending_of old (record { holder = k; entry = f }))
  still-known k e f here there = subst (λ o. is_still_known o (known_of was k) (known_of now k)) there (still k e here) ∙ known k f there

  -- where nobody holds more, it is known of what is left
  pub still-knows : IsTable table → ((k : Holder) (f : Entry) → entry_at table k ≡ Some f → IsSubset f.held (held_at old.table k)) → Knows (known_in now) old table
  still-knows is less row inside = by_entry (entry_at old.table row.holder) refl
    where
      here : entry_at table row.holder ≡ Some row.entry
      here = ap entry_of (row_found table row is inside)

      by_entry : (o : Option Entry) → entry_at old.table row.holder ≡ o → meet (known_in now row.holder) row.entry.held ≡ pending_of old row
      by_entry (Some e) there =
          let fewer : IsSubset row.entry.held e.held = λ c h. ap (λ (o : Option Entry). has (option_map_or (λ (x : Entry). x.held) o no_caps) c) (sym there) ∙ less row.holder row.entry here c h in
          ap (λ (o : Option Caps). meet (unwrap_or o no_caps) row.entry.held) (still-known row.holder row.entry e here there)
          ∙ sym (pending-less old (record { holder = row.holder; entry = e }) row.entry fewer)
      by_entry None none = same_caps _ _ (λ c.
          let out : has row.entry.held c ≡ false = false_from_ne_true (has row.entry.held c) (λ h. false≢true (
          sym (has-none c) ∙ ap (λ (o : Option Entry). has (option_map_or (λ (x : Entry). x.held) o no_caps) c) (sym none) ∙ less row.holder row.entry here c h)) in
          has-meet (known_in now row.holder) row.entry.held c ∙ and_right (has (known_in now row.holder) c) (has row.entry.held c) out
          ∙ sym (has-pending old row c ∙ ap (λ b. b && not (is_revoked old row.holder c)) out))

-- where the table stays, all is still known
pub still-all : (was now : ClientViews) (s : Scene) → AreKnown was s → StillKnown s.table s.table was now → AreKnown now s
still-all was now s known still k e there = still-known was now s s.table known still k e e there there
