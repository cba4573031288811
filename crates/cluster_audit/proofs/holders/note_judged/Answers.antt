use Rattle.std.proofs.Common.{ℕ, List, ◌++◌, refl, sym, ap, inl, inr, ◌∙◌}
use Rattle.std.proofs.lemmas.Result.{on_ok_weaker}
use Rattle.cluster_audit.specs.declared.unjudged.Unknown.TheVariants.{Spelling}
use Rattle.cluster_audit.specs.Callers.{Inode}
use Rattle.cluster_audit.specs.Audited.{IsJudged, address_text, finding_text}
use Rattle.cluster_audit.specs.Shaped.{unknown_in}
use Rattle.cluster_audit.proofs.Noting.{unknown_added}
use Rattle.cluster_audit.proofs.holders.note_judged.Goals as goal

pub returns-in_default : goal.returns-in_default
returns-in_default c =
    let m = c.args.manner in
    let e = c.args.entry.now in
    on_ok_weaker c.print_unknown.result
    (λ more. unknown_added (IsJudged m e.number e.inode.now e.client.now e.unchecked c.args.grants.now e.holder.now) c.args.notes.now (record { found = c.args.notes.now.found; unknown = c.print_unknown.new.text }) (unknown_in m.shape Spelling e.number e.inode.now.path e.client.now e.holder.now.client) refl more
    (inr ((λ issued pending is reported. c.in_default.not-Ok issued (c.read_caps.ensures.each_text issued (c.issued.ensures ∙ is))), refl, refl)))
    c.print_unknown.ensures

pub returns-in_default-read_caps : goal.returns-in_default-read_caps
returns-in_default-read_caps c =
    let m = c.args.manner in
    let e = c.args.entry.now in
    on_ok_weaker c.print_unknown-in_default-read_caps.result
    (λ more. unknown_added (IsJudged m e.number e.inode.now e.client.now e.unchecked c.args.grants.now e.holder.now) c.args.notes.now (record { found = c.args.notes.now.found; unknown = c.print_unknown-in_default-read_caps.new.text }) (unknown_in m.shape Spelling e.number e.inode.now.path e.client.now e.holder.now.client) refl more
    (inr ((λ issued pending is reported. c.in_default-read_caps.not-Ok pending (c.read_caps-2.ensures.each_text pending (c.pending.ensures ∙ reported))), refl, refl)))
    c.print_unknown-in_default-read_caps.ensures

pub returns : goal.returns
returns c =
    let m = c.args.manner in
    let e = c.args.entry.now in
    let issued = c.in-Ok.issued in
    let pending = c.in-Ok-read_caps.pending in
    let b = c.in_ok-beyond.beyond in
    let found : List ℕ = finding_text m e.number e.inode.now.path e.client.now e.holder.now.client e.unchecked issued pending b.finding in
    let unknown : List ℕ = address_text m.shape e.number e.inode.now.path e.client.now e.holder.now.client b.is_open in
    on_ok_weaker c.print_finding.result
    (λ more. (
      found,
      unknown,
      more ∙ ap (λ (at : Inode). c.args.notes.now.found.items ++ finding_text m e.number at.path e.client.now c.client-session.result e.unchecked issued pending b.finding) c.inode.view_is
          ∙ ap (λ (n : ℕ). c.args.notes.now.found.items ++ finding_text m e.number e.inode.now.path e.client.now n e.unchecked issued pending b.finding) c.client-session.ensures,
      c.in_ok-print_address.ensures,
      inl (issued, pending, sym c.issued.ensures ∙ c.in-Ok.ensures.ok, sym c.pending.ensures ∙ c.in-Ok-read_caps.ensures.ok, (b, c.in_ok-beyond.ensures, refl, refl)),
    ))
    c.print_finding.ensures
