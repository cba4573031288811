use Rattle.std.proofs.Common.{◌≡◌, ℕ, List, Option, None, Some, refl, subst, sym, ap, ◌∙◌}
use Rattle.std.proofs.lemmas.Result.{on_ok_weaker}
use Rattle.cluster_audit.specs.Audited.{clients_of, entity_of}
use Rattle.cluster_audit.specs.Otherwise.{TellsOfHolder, TellsOfText}
use Rattle.cluster_audit.proofs.Beside.{granted, no_grants, unlisted}
use Rattle.cluster_audit.proofs.Giving.{given_too, nothing_given}
use Rattle.cluster_audit.proofs.otherwise.print_holder.Goals as goal

pub returns-in_default : goal.returns-in_default
returns-in_default c =
    let known = clients_of c.args.manner c.args.clients.now in
    let begun = c.args.lines.now.items in
    let detail = c.args.manner.detail in
    let none : entity_of known.entities known.sessions c.args.holder.now.client ≡ None = sym (c.in_default.ensures ∙ ap (entity_of known.entities known.sessions) c.client.ensures) in
    nothing_given (TellsOfHolder detail known c.args.inode.now c.args.holder.now) begun begun refl (unlisted detail known c.args.inode.now c.args.holder.now none)

pub returns-in_default-caps : goal.returns-in_default-caps
returns-in_default-caps c =
    let known = clients_of c.args.manner c.args.clients.now in
    let begun = c.args.lines.now.items in
    let detail = c.args.manner.detail in
    let e = c.in-Some.entity.now in
    let is : entity_of known.entities known.sessions c.args.holder.now.client ≡ Some e = sym (c.in-Some.ensures ∙ ap (entity_of known.entities known.sessions) c.client.ensures) in
    nothing_given (TellsOfHolder detail known c.args.inode.now c.args.holder.now) begun begun refl (no_grants detail known c.args.inode.now c.args.holder.now e is (sym c.in_default-caps.ensures))

pub returns : goal.returns
returns c =
    let known = clients_of c.args.manner c.args.clients.now in
    let detail = c.args.manner.detail in
    let i = c.args.inode.now in
    let h = c.args.holder.now in
    let e = c.in-Some.entity.now in
    let text = c.in-Some-caps.text.now in
    let is : entity_of known.entities known.sessions h.client ≡ Some e = sym (c.in-Some.ensures ∙ ap (entity_of known.entities known.sessions) c.client.ensures) in
    on_ok_weaker c.print_granted.result
    (given_too (TellsOfHolder detail known i h) c.args.lines.now.items c.print_granted.new.lines.items (TellsOfText detail i c.name.result.now h text)
    (λ lines tells. granted detail known i h e is text lines (sym c.in-Some-caps.ensures) (subst (λ (name : List ℕ). TellsOfText detail i name h text lines) c.name.ensures tells)))
    c.print_granted.ensures
