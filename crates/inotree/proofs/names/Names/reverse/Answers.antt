use Rattle.std.proofs.Common.{ℕ, List, length, map, reverse, ap, ◌∙◌, Bor}
use Rattle.inotree.proofs.Turning.{map-reverse, refill_all}
use Rattle.inotree.proofs.names.Names.reverse.Goals as goal

pub returns : goal.returns
returns c =
    let turned = c.reverse.ensures.after ∙ ap reverse c.as_mut_slice.ensures.value in
    ap (map (λ (name : Bor (List ℕ)). name.now)) (refill_all c.self.inside.names.items c.reverse.new.self (c.reverse.ensures.len ∙ ap length c.as_mut_slice.ensures.value) ∙ turned)
    ∙ map-reverse (λ (name : Bor (List ℕ)). name.now) c.self.inside.names.items ∙ ap reverse c.self.view_is
