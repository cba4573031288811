use Rattle.std.proofs.Common.{◌≡◌, ◌<◌, ℕ, Some, length, ◌⊎◌, inl, refl, ap, subst, ◌∙◌}
use Rattle.std.specs.FinMap as map
use Rattle.capbits.specs.Rows.{number_at}
use Rattle.capbits.proofs.Rowed.{found_number, lent-map, lent-placed, lent-value}
use Rattle.capbits.proofs.numbered.Numbered.get_mut.Goals as goal

-- borrows of one name end alike where what they leave is the same
same_end : {N F R : Type 0} {name : N} {a b : F} → a ≡ b → ◌≡◌ {A = (N × F) ⊎ R} (inl (name, a)) (inl (name, b))
same_end {name = name} e = ap (λ f. inl (name, f)) e

pub invariant_of-self-lent : goal.invariant_of-self-lent
invariant_of-self-lent g c =
    let rows = c.self.inside.rows.items in
    let place : ℕ = c.unwrap_or-place.result in
    let within : place < length rows = subst (λ n. place < n) c.self.inside.rows.ok.0 (c.in-Some.ensures.variant.0 refl) in
    let number : number_at rows place ≡ Some c.args.number =
    found_number rows c.deref.result.now c.deref.ensures.value c.place_near-found.result c.len.result c.args.number place c.unwrap_or-place.ensures c.place_near-found.ensures.number (c.len.ensures ∙ c.self.inside.rows.ok.0) within in
    lent-placed rows place c.args.number c.in-Some.row.now within c.in-Some.ensures.value number c.self.inside.places c.self.invariant

pub returns-in-Some : goal.returns-in-Some
returns-in-Some g c =
    let rows = c.self.inside.rows.items in
    let place : ℕ = c.unwrap_or-place.result in
    let within : place < length rows = subst (λ n. place < n) c.self.inside.rows.ok.0 (c.in-Some.ensures.variant.0 refl) in
    let number : number_at rows place ≡ Some c.args.number =
    found_number rows c.deref.result.now c.deref.ensures.value c.place_near-found.result c.len.result c.args.number place c.unwrap_or-place.ensures c.place_near-found.ensures.number (c.len.ensures ∙ c.self.inside.rows.ok.0) within in
    let lent = λ (w : g.row.T.Denot). lent-map rows place c.args.number c.in-Some.row.now within c.in-Some.ensures.value number c.self.inside.places c.self.invariant w ∙ ap (λ m. map.insert m c.args.number w) c.self.view_is in (
      same_end (λ t w. lent w t),
      record {
        writes_back = tt;
        value = lent-value rows place c.args.number c.in-Some.row.now within c.in-Some.ensures.value number c.self.inside.places c.self.invariant ∙ ap (λ m. map.get m c.args.number) c.self.view_is;
      },
    )
