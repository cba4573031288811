use Rattle.std.proofs.Common.{ℕ, List, Option, inl, inr, refl, subst}
use Rattle.std.specs.Prelude.{MatchResult, Result, option_map}
use Rattle.std.proofs.lemmas.Result.{on_ok_weaker}
use Rattle.cluster_audit.specs.declared.grants_by.GrantsBy.{GrantsBy}
use Rattle.cluster_audit.specs.declared.grants_by.Unreadable.{Unreadable}
use Rattle.cluster_audit.specs.Audited.{IsJudged, IsJudgedBy}
use Rattle.cluster_audit.specs.GrantsBy.{IsReadBy, IsUnreadBy}
use Rattle.cluster_audit.specs.Shaped.{unreadable_in}
use Rattle.cluster_audit.proofs.Noting.{added_too, unknown_added}
use Rattle.cluster_audit.proofs.holders.note_by_caps.Goals as goal

pub returns-in-Ok : goal.returns-in-Ok
returns-in-Ok c =
    let e = c.args.entry.now in
    let mds = c.args.manner.mds in
    let caps : Option (List ℕ) = option_map (λ text. text.now) c.args.caps in
    let known : IsReadBy mds caps c.in-Ok.grants = subst (λ (read : Result GrantsBy Unreadable). MatchResult read (IsReadBy mds caps) (IsUnreadBy mds caps)) c.in-Ok.is c.in_ok-grants.ensures in
    on_ok_weaker c.note_judged.result
    (added_too (IsJudged c.args.manner e.number e.inode.now e.client.now e.unchecked c.in-Ok.grants e.holder.now) (IsJudgedBy c.args.manner e.number e.inode.now e.client.now e.unchecked e.holder.now caps) c.args.notes.now c.note_judged.new.notes
    (λ found unknown judged. inl (c.in-Ok.grants, known, judged)))
    c.note_judged.ensures

pub returns-in-Err : goal.returns-in-Err
returns-in-Err c =
    let e = c.args.entry.now in
    let mds = c.args.manner.mds in
    let caps : Option (List ℕ) = option_map (λ text. text.now) c.args.caps in
    let known : IsUnreadBy mds caps c.in-Err.what = subst (λ (read : Result GrantsBy Unreadable). MatchResult read (IsReadBy mds caps) (IsUnreadBy mds caps)) c.in-Err.is c.in_ok-grants.ensures in
    on_ok_weaker c.print_unreadable.result
    (λ more. unknown_added (IsJudgedBy c.args.manner e.number e.inode.now e.client.now e.unchecked e.holder.now caps) c.args.notes.now (record { found = c.args.notes.now.found; unknown = c.print_unreadable.new.text }) (unreadable_in c.args.manner.shape e.client.now c.in-Err.what) refl more
    (inr (c.in-Err.what, known, refl, refl)))
    c.print_unreadable.ensures
