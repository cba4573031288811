use Rattle.std.proofs.Common.{◌≡◌, Some, None, sym, ap, subst, ◌∙◌}
use Rattle.std.specs.Option.{option_map}
use Rattle.captable.proofs.ByHolder.{entry_at-opened}
use Rattle.captable.specs.Kept.{KeptTable, permitting, with_kept}
use Rattle.lockmachine.specs.Scene.{plain}
use Rattle.step_acts.proofs.Common.{Entry, Scene, Table, entry_at}
use Rattle.step_acts.proofs.Opened.{kept-itself, kept-new}
use Rattle.step_acts.specs.Known.{StillKept}
use Rattle.step_acts.proofs.opening.find_or_open.Goals as goal

pub returns-in-Some-clause-kept : goal.returns-in-Some-clause-kept
returns-in-Some-clause-kept c = kept-itself (plain c.args.scene.now) c.args.scene.now.table.kept

pub returns-in_err-open_entry_tested-in-None-clause-kept : goal.returns-in_err-open_entry_tested-in-None-clause-kept
returns-in_err-open_entry_tested-in-None-clause-kept c =
    subst (λ (t : KeptTable). StillKept (plain c.args.scene.now) t.entries c.args.scene.now.table.kept t.kept) (sym c.in_err-open_entry_tested-in-None.ensures.err)
    (kept-itself (plain c.args.scene.now) c.args.scene.now.table.kept)

pub returns-in_ok-open_entry_tested-in-None-clause-wants : goal.returns-in_ok-open_entry_tested-in-None-clause-wants
returns-in_ok-open_entry_tested-in-None-clause-wants c =
    let t : Table = c.args.scene.now.table.entries in
    let none : entry_at t c.args.holder ≡ None = cc in
    ap (λ (u : KeptTable). option_map (λ (e : Entry). e.want) (entry_at u.entries c.args.holder)) (c.keep_permitted.ensures ∙ ap (λ (u : KeptTable). with_kept u c.args.holder (permitting c.permitted-permitted.result)) c.in_ok-open_entry_tested-in-None.ensures.ok)
    ∙ ap (option_map (λ (e : Entry). e.want)) (entry_at-opened t c.args.holder none) ∙ ap Some (sym c.empty.ensures)

pub returns-in_ok-open_entry_tested-in-None-clause-kept : goal.returns-in_ok-open_entry_tested-in-None-clause-kept
returns-in_ok-open_entry_tested-in-None-clause-kept c =
    let s : Scene = plain c.args.scene.now in
    let none : entry_at s.table c.args.holder ≡ None = cc in
    subst (λ (t : KeptTable). StillKept s t.entries c.args.scene.now.table.kept t.kept)
    (sym (c.keep_permitted.ensures ∙ ap (λ (u : KeptTable). with_kept u c.args.holder (permitting c.permitted-permitted.result)) c.in_ok-open_entry_tested-in-None.ensures.ok))
    (kept-new s c.args.holder c.args.scene.now.table.kept c.permitted-permitted.result none c.permitted-permitted.ensures)
