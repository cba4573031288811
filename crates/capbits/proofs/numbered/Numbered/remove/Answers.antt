use Rattle.std.proofs.Common.{◌≡◌, None, sym, ap, ◌∙◌}
use Rattle.std.specs.FinMap as map
use Rattle.capbits.specs.Rows.{map_of}
use Rattle.capbits.proofs.Rowed.{remove_nothing}
use Rattle.capbits.proofs.numbered.Numbered.remove.Goals as goal

pub returns-in_default : goal.returns-in_default
returns-in_default g c =
    let none : map.get c.args.self.now c.args.number ≡ None = ap (λ m. map.get m c.args.number) (sym c.self.view_is ∙ ap map_of (sym c.deref.ensures.value)) ∙ c.in_default.ensures.none in
    remove_nothing c.args.self.now c.args.number none
