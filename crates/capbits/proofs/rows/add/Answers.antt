use Rattle.std.proofs.Common.{rules, ◌≡◌, ℕ, [], ◌∷◌, ◌++◌, length, Option, Some, None, is_some, true, not, cond, refl, sym, ap, subst, ◌∙◌}
use Rattle.std.specs.BTreeMap.{BTreeMap, get, is_at}
use Rattle.std.specs.BTreeMap.Entry.{map_with_value}
use Rattle.std.specs.FinMap as map
use Rattle.std.specs.List.{slice_get}
use Rattle.std.specs.Ordering.{nat_cmp}
use Rattle.capbits.specs.Rows.{HasPlaces, HasRows, map_of}
use Rattle.capbits.proofs.Rowed.{apart_from_placed, get_from_row, map-push, numbers-insert, placed-push, read}
use Rattle.capbits.proofs.rows.add.Goals as goal
use Rattle.capbits.proofs.rows.add.Goals.{After-drop-row, In-Ok}

-- ---- the row at the guess has the number

there : (g : _) (c : After-drop-row g) → map.contains_key (map_of c.args.rows.now.items) c.args.row.number ≡ true
there g c =
    let rows = c.args.rows.now.items in
    let row = c.in-Some.there.now in
    ap is_some
    (ap (map.get (map_of rows)) (sym c.if-there-row.true)
    ∙ get_from_row rows c.args.guess row (apart_from_placed c.args.places.now rows c.requires.placed.0)
    (ap (λ xs. slice_get xs c.args.guess) (sym c.deref.ensures.value) ∙ read c.deref.result.now c.args.guess row c.in-Some.ensures.lookup.3))

pub returns-in-Some-clause-added : goal.returns-in-Some-clause-added
returns-in-Some-clause-added g c = ap not (sym (there g c))

pub returns-in-Some-clause-ok : goal.returns-in-Some-clause-ok
returns-in-Some-clause-ok g c =
    let was = map_of c.args.rows.now.items in
    ap (λ b. cond b was (map.insert was c.args.row.number c.args.row.value)) (sym (there g c))

-- ---- no row has it

none_there : {X : Type 0} (o : Option X) → true ≡ not (is_some o) → o ≡ None
none_there None new = refl
none_there (Some x) new = cc

absent : (g : _) (c : In-Ok g) → map.get (map_of c.args.rows.now.items) c.args.row.number ≡ None
absent g c = none_there (map.get (map_of c.args.rows.now.items) c.args.row.number) (search rules)

items : (g : _) (c : In-Ok g) → c.push.new.self.items ≡ c.args.rows.now.items ++ c.args.row ∷ []
items g c = c.in-Ok.ensures.items ∙ ap (λ xs. xs ++ c.args.row ∷ []) c.reserve.ensures.items

-- the places as they end, where the number's is behind all rows
module _ (g : _) (c : In-Ok g) (places : BTreeMap ℕ ℕ) (is : places ≡ map_with_value c.in_ok-_there.field-0 c.insert.result.now) where
  put : (q : ℕ) → get nat_cmp places q ≡ cond (is_at (nat_cmp c.args.row.number) q) (Some (length c.args.rows.now.items)) (get nat_cmp c.args.places.now q)
  put q =
      let len : c.len.result ≡ length c.args.rows.now.items = c.len.ensures ∙ c.reserve.ensures.len ∙ c.args.rows.now.ok.0 in
      ap (λ m. get nat_cmp m q) is
      ∙ (c.in_ok-_there.ensures.update.0 c.insert.result.now).0 q
      ∙ ap (λ n. cond (is_at (nat_cmp c.args.row.number) q) (Some n) (get nat_cmp c.args.places.now q)) (c.insert.ensures.value ∙ len)

  placed : HasPlaces places (c.args.rows.now.items ++ c.args.row ∷ [])
  placed = placed-push c.args.places.now places c.args.rows.now.items c.args.row c.requires.placed.0 (absent g c) put

  pushed : map_of c.push.new.self.items ≡ map.insert (map_of c.args.rows.now.items) c.args.row.number c.args.row.value
  pushed = ap map_of (items g c) ∙ map-push c.args.rows.now.items c.args.row (apart_from_placed places _ placed) (absent g c)

  numbers : HasRows places c.push.new.self.items
  numbers = numbers-insert c.args.places.now places c.args.rows.now.items c.push.new.self.items c.args.row.number c.requires.placed.1 (length c.args.rows.now.items) c.args.row.value put pushed

pub returns-in-Ok-clause-placed : goal.returns-in-Ok-clause-placed
returns-in-Ok-clause-placed g c = subst (HasPlaces c.places-in-Vacant-2-1.given.0) (sym (items g c)) (placed g c c.places-in-Vacant-2-1.given.0 (search rules))

pub returns-in-Ok-clause-numbers : goal.returns-in-Ok-clause-numbers
returns-in-Ok-clause-numbers g c = numbers g c c.places-in-Vacant-2-1.given.0 (search rules)

pub returns-in-Ok-clause-ok : goal.returns-in-Ok-clause-ok
returns-in-Ok-clause-ok g c =
    let was = map_of c.args.rows.now.items in
    pushed g c _ refl ∙ ap (λ b. cond b was (map.insert was c.args.row.number c.args.row.value)) (sym (ap is_some (absent g c)))
