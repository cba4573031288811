use Rattle.std.proofs.Common.{ap, sym, ◌∙◌, List}
use Rattle.std.proofs.Common.{map as each}
use Rattle.captable.specs.declared.entry.KeptEntry.{KeptEntry}
use Rattle.lockmachine.specs.Wants.{Want, in_all, in_all_with}
use Rattle.lockmachine.proofs.KeptWants.{kept_want, same_wants}
use Rattle.lockmachine.proofs.wants.wants_by_kept.Goals as goal

pub returns : goal.returns
returns c = λ permitted.
    let policy = c.args.policy.now in
    let wants : List KeptEntry → List Want = each (kept_want policy.sessions.now) in
    c.wants.ensures ∙ ap (λ walk. in_all_with c.entries.tally (wants walk)) (sym c.in_default.ensures.none.0) ∙ c.entries.invariant
    ∙ ap (λ walk. in_all (wants walk)) c.kept_on-walk.ensures.rows
    ∙ ap in_all (same_wants c.args.table.now.kept policy.fs.now policy.tree.now policy.sessions.now c.args.table.now.entries c.args.ino c.kept_on-walk.ensures.sound permitted)
