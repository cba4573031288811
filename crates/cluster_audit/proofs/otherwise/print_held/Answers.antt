use Rattle.std.proofs.Common.{◌≡◌, inl, inr, refl, sym, ◌∙◌}
use Rattle.std.proofs.lemmas.Result.{on_ok_weaker}
use Rattle.cluster_audit.specs.Otherwise.{TellsOfCaps, TellsOfHeld}
use Rattle.cluster_audit.proofs.Giving.{given_too, nothing_given}
use Rattle.cluster_audit.proofs.otherwise.print_held.Goals as goal

pub returns-in_default : goal.returns-in_default
returns-in_default c =
    let g = c.args.granted.now in
    let begun = c.args.lines.now.items in
    nothing_given (TellsOfHeld g.detail g.inode.now g.client.now g.holder.now g.text.now c.args.grants.now) begun begun refl
    (inr ((λ caps is. c.in_default.not-Ok caps (c.read_caps.ensures.each_text caps (c.issued.ensures ∙ is))), refl))

pub returns : goal.returns
returns c =
    let g = c.args.granted.now in
    on_ok_weaker c.print_caps.result
    (given_too (TellsOfHeld g.detail g.inode.now g.client.now g.holder.now g.text.now c.args.grants.now) c.args.lines.now.items c.print_caps.new.lines.items
    (TellsOfCaps g.detail g.inode.now g.client.now g.holder.now.client g.text.now c.args.grants.now c.in-Ok.caps)
    (λ lines tells. inl (c.in-Ok.caps, sym c.issued.ensures ∙ c.in-Ok.ensures.ok, tells)))
    c.print_caps.ensures
