-- A walk from one holder to the next, over those who pass a test, in which what they are permitted is kept anew.
use Rattle.std.proofs.Common.{◌≡◌, ◌<◌, ◌&&◌, ◌||◌, Bool, true, false, Option, Some, None, is_some, List, suc, length, refl, sym, ap, subst, ◌∙◌, true≢false}
use Rattle.std.proofs.Common.{arith}
use Rattle.std.proofs.lemmas.Bool.{and_parts}
use Rattle.std.specs.List.{IsDistinct}
use Rattle.std.specs.Option.{option_map}
use Rattle.captable.proofs.Tables.{distinct-filter}
use Rattle.captable.specs.Calls.{newer_in}
use Rattle.captable.specs.Kept.{AreBeside, KeptTable, keeping, permitting, with_kept}
use Rattle.captable.specs.Table.{IsTable}
use Rattle.captable.specs.Walks.{first_holder}
use Rattle.step_acts.proofs.Beside.{beside-entry, keeping-other, keeping-own}
use Rattle.step_acts.proofs.Common.{Caps, ClientView, EntryRow, Holder, holders-filter, holders_of_rows, is_among, same, same-is, same_equiv}
use Rattle.step_acts.proofs.KeptSets.{some-mapped}
use Rattle.step_acts.proofs.Onward.{Comes, onward, onward-first, onward-next}
use Rattle.step_acts.proofs.Renewed.{Along, along-begins, along-ends, along-more, among-passing, passing}
use Rattle.step_acts.specs.Known.{ClientViews, known_of, permitted_of, sets_of}
use Rattle.step_acts.specs.Renewing.{Renews, has_entry}

-- it comes to this holder next, and of those before it is kept what they are permitted
pub record Walking (passes : Holder → Bool) (may : Holder → Caps) (was now : KeptTable) (at : Option Holder) : Type 0 where
  pub entries : now ≡ record was { kept = now.kept }
  pub next : at ≡ first_holder (onward (passing passes was.entries) at)
  pub kept : Along may (λ k. passes k && has_entry was.entries k) (is_among (holders_of_rows (onward (passing passes was.entries) at))) was.kept now.kept

permitting-some : (o : Option ClientView) (caps : Caps) → is_some o ≡ true → option_map (λ (s : ClientView). s.permitted) (option_map (permitting caps) o) ≡ Some caps
permitting-some None caps some = absurd (true≢false (sym some))
permitting-some (Some s) caps some = refl

permitting-pending : (o : Option ClientView) (caps : Caps) → option_map (λ (s : ClientView). s.pending) (option_map (permitting caps) o) ≡ option_map (λ (s : ClientView). s.pending) o
permitting-pending None caps = refl
permitting-pending (Some s) caps = refl

module _ (passes : Holder → Bool) (may : Holder → Caps) (was : KeptTable) where
  abbrev rows : List EntryRow
  rows = passing passes was.entries

  abbrev all : Holder → Bool
  all k = passes k && has_entry was.entries k

  abbrev left : Option Holder → Holder → Bool
  left at k = is_among (holders_of_rows (onward rows at)) k

  pub walking-begins : (at : Option Holder) → at ≡ first_holder rows → Walking passes may was was at
  walking-begins at first =
      let whole : onward rows at ≡ rows = ap (onward rows) first ∙ onward-first rows in
      record {
        entries = refl;
        next = first ∙ ap first_holder (sym whole);
        kept = along-begins may all (left at) was.kept (λ k. sym (ap (λ (rs : List EntryRow). is_among (holders_of_rows rs) k) whole ∙ among-passing passes was.entries k));
      }

  module _ (mid : KeptTable) (own : Holder) (walking : Walking passes may was mid (Some own)) (sound : IsTable was.entries) (beside : AreBeside was) where
    abbrev after : Option Holder
    after = newer_in (holders_of_rows rows) own

    comes : Comes rows own after
    comes = onward-next rows own (subst (IsDistinct same) (sym (holders-filter passes was.entries.rows)) (distinct-filter passes (holders_of_rows was.entries.rows) sound.one_row)) (sym walking.next)

    parts : (k : Holder) → left (Some own) k ≡ (same k own || left after k)
    parts k = ap (λ (rs : List EntryRow). is_among (holders_of_rows rs) k) comes.left ∙ ap (λ h. same k h || left after k) (sym comes.own)

    inside : (passes own ≡ true) × (has_entry was.entries own ≡ true)
    inside = and_parts _ _ (walking.kept.inside own (parts own ∙ ap (λ b. b || left after own) (same_equiv.refl own)))

    pub walking-passes : passes own ≡ true
    walking-passes = inside.0

    some_kept : is_some (sets_of mid.kept own) ≡ true
    some_kept =
        sym (some-mapped (λ (s : ClientView). s.pending) (sets_of mid.kept own)) ∙ ap is_some (walking.kept.pending own) ∙ some-mapped (λ (s : ClientView). s.pending) (sets_of was.kept own)
        ∙ beside-entry was own beside ∙ inside.1

    module _ (caps : Caps) (now : KeptTable) (is : now ≡ with_kept mid own (permitting caps)) where
      kept_now : now.kept ≡ keeping mid.kept own (permitting caps)
      kept_now = ap (λ (t : KeptTable). t.kept) is

      own_now : sets_of now.kept own ≡ option_map (permitting caps) (sets_of mid.kept own)
      own_now = ap (λ (kept : ClientViews). sets_of kept own) kept_now ∙ keeping-own mid.kept own (permitting caps)

      other_now : (k : Holder) → same k own ≡ false → sets_of now.kept k ≡ sets_of mid.kept k
      other_now k off = ap (λ (kept : ClientViews). sets_of kept k) kept_now ∙ keeping-other mid.kept own (permitting caps) k (same_equiv.symm own k ∙ off)

      same_pending : (k : Holder) (b : Bool) → same k own ≡ b → known_of now.kept k ≡ known_of mid.kept k
      same_pending k true on =
          subst (λ h. known_of now.kept h ≡ known_of mid.kept h) (sym (same-is k own on)) (ap (option_map (λ (s : ClientView). s.pending)) own_now ∙ permitting-pending (sets_of mid.kept own) caps)
      same_pending k false off = ap (option_map (λ (s : ClientView). s.pending)) (other_now k off)

      renews : caps ≡ may own → Renews (λ k. same k own) may mid.kept now.kept
      renews are = record {
        anew = λ k on. subst (λ h. permitted_of now.kept h ≡ Some (may h)) (sym (same-is k own on))
            (ap (option_map (λ (s : ClientView). s.permitted)) own_now ∙ permitting-some (sets_of mid.kept own) caps some_kept ∙ ap Some are);
        others = λ k off. ap (option_map (λ (s : ClientView). s.permitted)) (other_now k off);
        pending = λ k. same_pending k (same k own) refl;
      }

      pub walking-more : caps ≡ may own → (at : Option Holder) → at ≡ newer_in (holders_of_rows (passing passes now.entries)) own → Walking passes may was now at
      walking-more are at next =
          let entries : now.entries ≡ was.entries = ap (λ (t : KeptTable). t.entries) is ∙ ap (λ (t : KeptTable). t.entries) walking.entries in
          subst (λ at. Walking passes may was now at) (sym (next ∙ ap (λ t. newer_in (holders_of_rows (passing passes t)) own) entries)) (record {
            entries = λ i. record { entries = entries i; kept = now.kept };
            next = comes.first;
            kept = along-more may all (left (Some own)) (λ k. same k own) (left after) was.kept mid.kept now.kept walking.kept (renews are) parts;
          })

      pub walking-smaller : (at : Option Holder) → at ≡ newer_in (holders_of_rows (passing passes now.entries)) own → length (onward rows at) < length (onward rows (Some own))
      walking-smaller at next =
          let entries : now.entries ≡ was.entries = ap (λ (t : KeptTable). t.entries) is ∙ ap (λ (t : KeptTable). t.entries) walking.entries in
          let here : length (onward rows at) ≡ length (onward rows after) = ap (λ at. length (onward rows at)) (next ∙ ap (λ t. newer_in (holders_of_rows (passing passes t)) own) entries) in
          let all : length (onward rows (Some own)) ≡ suc (length (onward rows after)) = ap length comes.left in
          omega (arith, here, all)

  pub walking-ends : (now : KeptTable) (at : Option Holder) → Walking passes may was now at → at ≡ None → Renews (λ k. passes k && has_entry was.entries k) may was.kept now.kept
  walking-ends now at walking ended =
      along-ends may all (left at) was.kept now.kept walking.kept (λ k. ap (λ at. left at k) ended)
