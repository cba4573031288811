use Rattle.std.proofs.Common.{◌≡◌, Option, Some, None, cond, false, ◌&&◌, refl, sym, ap, subst, ◌∙◌}
use Rattle.std.specs.Option.{option_map}
use Rattle.capbits.specs.Caps.{has}
use Rattle.captable.specs.Tests.{ack_tests}
use Rattle.lockmachine.proofs.CountsStay.{held-change}
use Rattle.capstep.specs.Direct.{with_want}
use Rattle.capcore.proofs.CommonPieces.{AreCounted, Caps, ClientViews, Entry, Holder, KeptScene, KeptTable, OpenMode, P, Scene, Table, acked, changed}
use Rattle.capcore.proofs.CommonPieces.{counted-held, entry_at, first_failing, has_pin, opening_wants, plain, revoked_of, same_found, test_at, touched, union}
use Rattle.capcore.proofs.CommonPieces.{wanting, with_entry, without, without_acked, without_released}
use Rattle.capcore.proofs.CountsStay.{counted-entry, counted-less}
use Rattle.capcore.proofs.EntryStays.{kept-changed, kept-less}
use Rattle.capcore.proofs.Revoking.{pin-goes}
use Rattle.capcore.proofs.entry_request.apply_request.Goals.{in-Open+in_ok-before-in-Open, in-Want}
use Rattle.capcore.specs.Begun.{AreCountedIn}
use Rattle.step_acts.proofs.Opened.{kept-itself}
use Rattle.step_acts.specs.Known.{StillKept}
use Rattle.capcore.specs.EntryRequest.{entry_request_tests, table_after}
use Rattle.capcore.specs.declared.entry_request.EntryRequest.{EntryRequest}
use Rattle.capcore.proofs.entry_request.apply_request.Goals as goal

-- the wanted set of an entry that is known is written, or changed
want-known : (t : Table) (k : Holder) (mode : OpenMode) (wants : Caps) (o : Option Entry) → entry_at t k ≡ o → option_map (λ (e : Entry). e.want) o ≡ Some wants
    → with_want t k (λ _. union wants (opening_wants mode)) ≡ with_want t k (λ want. union want (opening_wants mode))
want-known t k mode wants None is known = absurd (cc)
want-known t k mode wants (Some e) is known =
    let wanted : wants ≡ e.want = cc in
    ap (λ t. touched t k) (same_found t k e (wanting (union wants (opening_wants mode))) (λ x. wanting (union x.want (opening_wants mode)) x) is (ap (λ want. wanting (union want (opening_wants mode)) e) wanted))

-- ---- an acknowledgement, and a release

pub ack_tested-requires : goal.ack_tested-requires
ack_tested-requires c =
    let s : Scene = plain c.args.scene.now in
    record {
      passed = ap (λ caps. first_failing (ack_tests s.table c.args.holder c.in-Ack.seq caps)) (c.revoked_of-revoked.ensures s refl c.requires.known)
          ∙ ap (λ (r : EntryRequest). first_failing (entry_request_tests s c.args.holder r)) (sym c.in-Ack.is) ∙ c.requires.passed;
    }

pub returns-in-Ack-clause-ok : goal.returns-in-Ack-clause-ok
returns-in-Ack-clause-ok c =
    let s : Scene = plain c.args.scene.now in
    let table : c.ack_tested.new.self.entries ≡ table_after s c.args.holder c.args.request.now =
    ap (λ (t : KeptTable). t.entries) c.ack_tested.ensures ∙ ap (acked s.table c.args.holder) (c.revoked_of-revoked.ensures s refl c.requires.known) ∙ ap (table_after s c.args.holder) (sym c.in-Ack.is) in
    λ i. record s { table = table i; locks = c.give_up.ensures.locks i }

pub returns-in-Ack-clause-kept : goal.returns-in-Ack-clause-kept
returns-in-Ack-clause-kept c =
    let s : Scene = plain c.args.scene.now in
    let caps : Caps = c.revoked_of-revoked.result in
    subst (λ (t : KeptTable). StillKept s t.entries c.args.scene.now.table.kept t.kept) (sym c.ack_tested.ensures)
    (kept-less s c.args.scene.now.table.kept c.args.holder (has caps P && test_at has_pin s.table c.args.holder) (without_acked caps))

pub returns-in-Ack-clause-counted : goal.returns-in-Ack-clause-counted
returns-in-Ack-clause-counted c = λ all.
    let s : Scene = plain c.args.scene.now in
    let k : Holder = c.args.holder in
    let caps : Caps = c.revoked_of-revoked.result in
    let revoked : caps ≡ revoked_of s k = c.revoked_of-revoked.ensures s refl c.requires.known in
    let gone : (has caps P && test_at has_pin s.table k) ≡ has caps P = subst (λ x. (has x P && test_at has_pin s.table k) ≡ has x P) (sym revoked) (pin-goes s k) in
    subst (λ (t : KeptTable). AreCounted t.entries c.give_up.new.locks) (sym c.ack_tested.ensures)
    (subst (λ b. AreCounted (cond b (without s.table k) (changed s.table k (without_acked caps))) c.give_up.new.locks) (sym gone)
    (counted-less s.table k caps (without_acked caps) c.give_up.new.locks (λ stays. c.give_up.ensures.rest stays (without_acked caps) (λ e. refl) all) (λ goes. c.give_up.ensures.gone goes all)))

pub returns-in-Release-clause-ok : goal.returns-in-Release-clause-ok
returns-in-Release-clause-ok c =
    let s : Scene = plain c.args.scene.now in
    let table : c.release_tested.new.self.entries ≡ table_after s c.args.holder c.args.request.now = ap (λ (t : KeptTable). t.entries) c.release_tested.ensures ∙ ap (table_after s c.args.holder) (sym c.in-Release.is) in
    λ i. record s { table = table i; locks = c.give_up-in-Release.ensures.locks i }

pub returns-in-Release-clause-kept : goal.returns-in-Release-clause-kept
returns-in-Release-clause-kept c =
    let s : Scene = plain c.args.scene.now in
    subst (λ (t : KeptTable). StillKept s t.entries c.args.scene.now.table.kept t.kept) (sym c.release_tested.ensures)
    (kept-less s c.args.scene.now.table.kept c.args.holder (has c.in-Release.caps P) (without_released c.in-Release.caps))

pub returns-in-Release-clause-counted : goal.returns-in-Release-clause-counted
returns-in-Release-clause-counted c = λ all.
    let t : Table = c.args.scene.now.table.entries in
    let k : Holder = c.args.holder in
    let caps : Caps = c.in-Release.caps in
    subst (λ (u : KeptTable). AreCounted u.entries c.give_up-in-Release.new.locks) (sym c.release_tested.ensures)
    (counted-less t k caps (without_released caps) c.give_up-in-Release.new.locks (λ stays. c.give_up-in-Release.ensures.rest stays (without_released caps) (λ e. refl) all) (λ goes. c.give_up-in-Release.ensures.gone goes all))

-- ---- an opening, and a want

pub returns-clause-ok : goal.returns-clause-ok
returns-clause-ok c =
    let s : Scene = plain c.args.scene.now in
    let k : Holder = c.args.holder in
    let m = c.match-request in
    let Wanting : KeptScene → Caps → Scene = λ x caps. record (plain x) { table = with_want x.table.entries k (λ _. caps) } in
    let after : EntryRequest → Scene = λ r. record s { table = table_after s k r } in
    let step : c.touch.new.self ≡ record m.scene.table { entries = with_want m.scene.table.entries k (λ _. m.wanted) } = c.touch.ensures ∙ ap (λ (t : KeptTable). record t { entries = touched t.entries k }) c.set_want.ensures in
    ap (λ (t : KeptTable). record (plain m.scene) { table = t.entries }) step ∙ elim m.branch [
      | in-Open+in_ok-before-in-Open w ↦ (
          let found = w.in_ok-before-in-Open.ensures in
          let wants = ap (λ (t : Table). option_map (λ (e : Entry). e.want) (entry_at t k)) (sym found.ok) ∙ found.wants in
          (λ i. Wanting (w.scene-is i) ((w.wanted-is ∙ w.union-wanted.ensures ∙ ap (union w.in_ok-before-in-Open.before) w.opening_wants.ensures) i))
          ∙ (λ i. record (plain (found.rest i)) { table = with_want (found.ok i) k (λ _. union w.in_ok-before-in-Open.before (opening_wants w.in-Open.mode)) })
          ∙ ap (λ (t : Table). record s { table = t }) (want-known (with_entry s.table k) k w.in-Open.mode w.in_ok-before-in-Open.before (entry_at (with_entry s.table k) k) refl wants) ∙ ap after (sym w.in-Open.is)
          )
      | in-Want w ↦ (λ i. Wanting (w.scene-is i) ((w.wanted-is ∙ w.union-wanted-in-Want.ensures ∙ ap (union w.in-Want.caps) w.of.ensures) i)) ∙ ap after (sym w.in-Want.is)
    ]

pub returns-clause-kept : goal.returns-clause-kept
returns-clause-kept c =
    let s : Scene = plain c.args.scene.now in
    let k : Holder = c.args.holder in
    let sets : ClientViews = c.args.scene.now.table.kept in
    let m = c.match-request in
    let step : c.touch.new.self ≡ record m.scene.table { entries = with_want m.scene.table.entries k (λ _. m.wanted) } = c.touch.ensures ∙ ap (λ (t : KeptTable). record t { entries = touched t.entries k }) c.set_want.ensures in
    subst (λ (t : KeptTable). StillKept s t.entries sets t.kept) (sym step)
    (kept-changed s m.scene.table.entries (with_want m.scene.table.entries k (λ _. m.wanted)) sets m.scene.table.kept m.scene.table.kept k false (wanting m.wanted) (elim m.branch as (λ _. StillKept s m.scene.table.entries sets m.scene.table.kept) [
      | in-Open+in_ok-before-in-Open w ↦ rw w.scene-is w.find_or_open.ensures.kept
      | in-Want w ↦ rw w.scene-is (kept-itself s sets)
    ]) refl (λ j e here. refl))

pub returns-clause-counted : goal.returns-clause-counted
returns-clause-counted c = λ all.
    let k : Holder = c.args.holder in
    let m = c.match-request in
    let t : Table = m.scene.table.entries in
    let step : c.touch.new.self ≡ record m.scene.table { entries = with_want t k (λ _. m.wanted) } = c.touch.ensures ∙ ap (λ (t : KeptTable). record t { entries = touched t.entries k }) c.set_want.ensures in
    let before : AreCountedIn m.scene = elim m.branch as (λ _. AreCountedIn m.scene) [
      | in-Open+in_ok-before-in-Open w ↦ (
          let found = w.in_ok-before-in-Open.ensures in
          rw w.scene-is (subst AreCountedIn (sym found.rest) (subst (λ (u : Table). AreCounted u c.args.scene.now.locks) (sym found.ok) (counted-entry c.args.scene.now.locks c.args.scene.now.table.entries k all))))
      | in-Want w ↦ rw w.scene-is all
    ] in
    subst (λ (u : KeptTable). AreCounted u.entries m.scene.locks) (sym step) (counted-held t (changed t k (wanting m.wanted)) (held-change k (wanting m.wanted) (λ e. refl) t.rows) m.scene.locks before)
