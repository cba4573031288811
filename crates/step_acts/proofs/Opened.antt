-- What an opening keeps of each entry, and of the one that it makes.
use Rattle.std.proofs.Common.{◌≡◌, ◌≢◌, Bool, true, false, cond, Some, None, Option, [], ◌∷◌, refl, sym, ap, ◌∙◌, arith, true≢false}
use Rattle.std.proofs.lemmas.List.Folds.{find-append}
use Rattle.std.specs.List.{find}
use Rattle.std.specs.Option.{option_map, option_or}
use Rattle.captable.proofs.ByHolder.{entry_at-opened_other}
use Rattle.captable.specs.Calls.{opened}
use Rattle.captable.specs.Kept.{KeptRow, is_kept_of, keeping, kept_more, no_sets, permitting}
use Rattle.step_acts.proofs.Beside.{keeping-other, keeping-own}
use Rattle.step_acts.proofs.Common.{ArePermitted, Caps, ClientView, Entry, Holder, Scene, entry_at, permitted, same, same-is, same_equiv}
use Rattle.step_acts.specs.Known.{ClientViews, StillKept, is_still_known, known_of, permitted_of, sets_of}

pub apart-of : (k j : Holder) → same k j ≡ false → k ≢ j
apart-of k j off is = true≢false (sym (same_equiv.refl k) ∙ ap (same k) is ∙ off)

-- where nothing changes, all is
pub kept-itself : (s : Scene) (sets : ClientViews) → StillKept s s.table sets sets
kept-itself s sets = grind arith

module _ (s : Scene) (h : Holder) (was now : ClientViews) (none : entry_at s.table h ≡ None) (others : (k : Holder) → k ≢ h → sets_of now k ≡ sets_of was k) where
  other : (k : Holder) (e : Entry) → entry_at s.table k ≡ Some e → sets_of now k ≡ sets_of was k
  other k e there = others k (λ is. let gone : entry_at s.table k ≡ None = ap (entry_at s.table) is ∙ none in cc)

  -- where the holder has no entry, all that is kept of others is kept
  pub kept-but : StillKept s s.table was now
  kept-but = record {
    known = λ k e there. let same_sets = other k e there in grind arith;
    permitted = λ all k e there. let same_sets = other k e there in let was_it = all k e there in grind arith;
  }

  -- and of its new one what is permitted
  own-kept : permitted_of now h ≡ Some (permitted s.fs s.tree s.sessions h) → is_still_known (entry_at s.table h) (known_of was h) (known_of now h)
  own-kept own = grind arith

  pub kept-opened : permitted_of now h ≡ Some (permitted s.fs s.tree s.sessions h) → StillKept s (opened s.table h) was now
  kept-opened own = record { known = λ k e here. (each k e here (same k h) refl).0; permitted = λ all k e here. (each k e here (same k h) refl).1 all }
    where
      each : (k : Holder) (e : Entry) → entry_at (opened s.table h) k ≡ Some e → (b : Bool) → same k h ≡ b
          → is_still_known (entry_at s.table k) (known_of was k) (known_of now k) × (ArePermitted was s.fs s.tree s.sessions s.table → permitted_of now k ≡ Some (permitted s.fs s.tree s.sessions k))
      each k e here true on = rw (same-is k h on) (own-kept own, λ all. own)
      each k e here false off = let there = sym (entry_at-opened_other s.table h k (apart-of k h off)) ∙ here in (kept-but.known k e there, λ all. kept-but.permitted all k e there)

-- of a new entry it is kept what its client is permitted
module _ (s : Scene) (h : Holder) (sets : ClientViews) (may : Caps) where
  abbrev new_row : KeptRow
  new_row = record { holder = h; sets = no_sets }

  opened-others : (k : Holder) → k ≢ h → sets_of (keeping (kept_more sets h) h (permitting may)) k ≡ sets_of sets k
  opened-others k apart =
      keeping-other (kept_more sets h) h (permitting may) k (off (same h k) refl)
      ∙ ap (option_map (λ (row : KeptRow). row.sets)) (find-append (is_kept_of k) sets (new_row ∷ []) ∙ ap (λ b. option_or (find (is_kept_of k) sets) (cond b (Some new_row) None)) (same_equiv.symm k h ∙ off (same h k) refl) ∙ nothing_more (find (is_kept_of k) sets))
    where
      off : (b : Bool) → same h k ≡ b → same h k ≡ false
      off true is = absurd (apart (sym (same-is h k is)))
      off false is = is

      nothing_more : (o : Option KeptRow) → option_or o None ≡ o
      nothing_more None = refl
      nothing_more (Some row) = refl

  opened-own : permitted_of (keeping (kept_more sets h) h (permitting may)) h ≡ Some may
  opened-own =
      ap (option_map (λ (s : ClientView). s.permitted)) (keeping-own (kept_more sets h) h (permitting may)
      ∙ ap (λ o. option_map (permitting may) (option_map (λ (row : KeptRow). row.sets) o)) (find-append (is_kept_of h) sets (new_row ∷ []) ∙ ap (λ b. option_or (find (is_kept_of h) sets) (cond b (Some new_row) None)) (same_equiv.refl h)))
      ∙ one (find (is_kept_of h) sets)
    where
      one : (o : Option KeptRow) → option_map (λ (s : ClientView). s.permitted) (option_map (permitting may) (option_map (λ (row : KeptRow). row.sets) (option_or o (Some new_row)))) ≡ Some may
      one None = refl
      one (Some row) = refl

  pub kept-new : entry_at s.table h ≡ None → may ≡ permitted s.fs s.tree s.sessions h → StillKept s (opened s.table h) sets (keeping (kept_more sets h) h (permitting may))
  kept-new none is = kept-opened s h sets (keeping (kept_more sets h) h (permitting may)) none opened-others (opened-own ∙ ap Some is)
