use Rattle.std.proofs.Common.{ℕ, is_some, sym, ap, ◌∙◌}
use Rattle.std.proofs.Common.{map as each}
use Rattle.std.specs.Cmp.{nat_cmp_total}
use Rattle.std.specs.FinMap as map
use Rattle.capbits.proofs.Entries.{entries-entries, get-entries}
use Rattle.capbits.specs.Rows.{map_of}
use Rattle.capbits.proofs.Keys.{same_keys}
use Rattle.capbits.proofs.numbered.Numbered.keys.Goals as goal

pub returns : goal.returns
returns g c =
    let places = c.self.inside.places.entries in
    c.keys.ensures.rest ∙ ap (each (λ (e : ℕ × ℕ). e.0)) (sym (entries-entries nat_cmp_total map.nat_cmp-IsAntisymmetric places c.keys.ensures.ordered))
    ∙ same_keys (map.from_entries places) (map_of c.self.inside.rows.items) (λ q. ap is_some (get-entries nat_cmp_total map.nat_cmp-IsAntisymmetric places q) ∙ c.self.invariant.1 q)
    ∙ ap map.keys c.self.view_is
