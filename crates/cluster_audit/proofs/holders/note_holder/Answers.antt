use Rattle.std.proofs.Common.{◌≡◌, ℕ, Bool, List, ◌++◌, Option, refl, sym, ap, subst, ◌∙◌}
use Rattle.std.proofs.lemmas.Result.{on_ok_weaker}
use Rattle.cluster_audit.specs.Audited.{IsJudgedBy, SaysOf, clients_of, is_unchecked, name_of}
use Rattle.cluster_audit.specs.Shaped.{unlisted_in, unnamed_in}
use Rattle.cluster_audit.proofs.Noting.{unknown_added, added_too}
use Rattle.cluster_audit.proofs.Saying.{listed, unlisted, unnamed}
use Rattle.cluster_audit.proofs.holders.note_holder.Goals as goal

pub returns-in_default : goal.returns-in_default
returns-in_default c =
    let known = clients_of c.args.manner c.args.clients.now in
    let h = c.args.holder.now in
    let begun = c.args.notes.now.unknown.items in
    let session = c.client-session.ensures in
    on_ok_weaker c.print_unnamed.result
    (λ more. unknown_added (SaysOf known c.args.number c.args.inode.now h) c.args.notes.now (record { found = c.args.notes.now.found; unknown = c.print_unnamed.new.text }) (unnamed_in c.args.manner.shape h.client) refl
    (more ∙ ap (λ (n : ℕ). begun ++ unnamed_in c.args.manner.shape n) session)
    (unnamed known c.args.number c.args.inode.now h (sym (c.in_default.ensures ∙ ap (name_of c.args.clients.now.sessions) session))))
    c.print_unnamed.ensures

pub returns-in_default-entity_of : goal.returns-in_default-entity_of
returns-in_default-entity_of c =
    let known = clients_of c.args.manner c.args.clients.now in
    let client = c.in-Some.client.now in
    on_ok_weaker c.print_unlisted.result
    (λ more. unknown_added (SaysOf known c.args.number c.args.inode.now c.args.holder.now) c.args.notes.now (record { found = c.args.notes.now.found; unknown = c.print_unlisted.new.text }) (unlisted_in c.args.manner.shape client) refl more
    (unlisted known c.args.number c.args.inode.now c.args.holder.now client (sym (c.in-Some.ensures ∙ ap (name_of c.args.clients.now.sessions) c.client-session.ensures)) (sym c.in_default-entity_of.ensures)))
    c.print_unlisted.ensures

pub returns : goal.returns
returns c =
    let known = clients_of c.args.manner c.args.clients.now in
    let m = c.args.manner in
    let i = c.args.inode.now in
    let h = c.args.holder.now in
    let e = c.in-Some-entity_of.entity.now in
    let client = c.in-Some.client.now in
    let unchecked : c.is_unchecked.result ≡ is_unchecked c.args.clients.now.sessions h.client = c.is_unchecked.ensures ∙ ap (is_unchecked c.args.clients.now.sessions) c.client-session.ensures in
    on_ok_weaker c.note_by_caps.result
    (added_too _ (SaysOf known c.args.number i h) c.args.notes.now c.note_by_caps.new.notes
    (λ found unknown judged. listed known c.args.number i h client (sym (c.in-Some.ensures ∙ ap (name_of c.args.clients.now.sessions) c.client-session.ensures)) e (sym c.in-Some-entity_of.ensures) found unknown
    (subst (λ (u : Bool). IsJudgedBy m c.args.number i client u h e.caps found unknown) unchecked
    (subst (λ (caps : Option (List ℕ)). IsJudgedBy m c.args.number i client c.is_unchecked.result h caps found unknown) c.caps.ensures judged))))
    c.note_by_caps.ensures
