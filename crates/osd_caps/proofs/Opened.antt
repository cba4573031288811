-- What is opened by some name, and what by every name.
use Rattle.std.proofs.Common.{◌≡◌, ℕ, Bool, true, false, List, [], ◌∷◌, Option, Some, None, length, codes, refl, sym, ap, ◌∙◌, inl, inr, arith}
use Rattle.std.specs.Prelude.{◌&&◌, ◌||◌, nat_eq, unwrap_or, IsTrue, ◌↔◌}
use Rattle.std.specs.Cmp.Lexicographic.{pointwise}
use Rattle.std.specs.List.{starts_with}
use Rattle.std.proofs.lemmas.Bool.{true≢false}
use Rattle.std.proofs.lemmas.List.{take_all}
use Rattle.std.proofs.lemmas.Slice.Eq.{bytes_eq-Decides}
use Rattle.capspec.proofs.Fronts.{which}
use Rattle.osd_caps.specs.declared.access.Right.{Right}
use Rattle.osd_caps.specs.declared.grant.OsdGrant.{OsdGrant}
use Rattle.osd_caps.specs.declared.tags.Application.{Application}
use Rattle.osd_caps.specs.Opening.{NoNameIsEveryName, OpensSome, begins_name, gives, opens, opens_by, opens_object, opens_some, reads_rbd_info}

-- a text begins with itself
same_text : (text : List ℕ) → starts_with nat_eq text text ≡ true
same_text text = ap (pointwise nat_eq text) (take_all (length text) text (omega arith)) ∙ (bytes_eq-Decides text text).1 refl

begins_own : (start : Option (List ℕ)) → begins_name start (unwrap_or start []) ≡ true
begins_own None = refl
begins_own (Some start) = same_text start

-- what opens an object gives the right to some name
less_said : (a b c d : Bool) → (a && b || c && d) ≡ true → (a || c) ≡ true
less_said true b c d e = refl
less_said false b true d e = refl
less_said false b false d e = e

by_right : (a b : Bool) → a ≡ false → (a || b) ≡ true → b ≡ true
by_right true b none e = absurd (true≢false none)
by_right false b none e = e

or_right : (a b : Bool) → b ≡ true → (a || b) ≡ true
or_right true b e = refl
or_right false b e = e

a_name : (grant : OsdGrant) (pool namespace : List ℕ) (tags : List Application) (right : Right)
    → opens_some grant pool namespace tags right ≡ true → (name : List ℕ) × (opens_by grant pool namespace tags name right ≡ true)
unfolding opens_by opens_some
a_name grant pool namespace tags right is =
    elim (which (gives grant pool namespace tags right)) [
      | inl given ↦ (unwrap_or grant.scope.prefix [], rw (given, begins_own grant.scope.prefix) refl)
      | inr none ↦ (codes "rbd_info", rw (none, by_right (gives grant pool namespace tags right) (reads_rbd_info grant.access right) none is) refl)
    ]

some_name : (caps : List OsdGrant) (pool namespace : List ℕ) (tags : List Application) (right : Right)
    → opens caps pool namespace tags right ≡ true → OpensSome caps pool namespace tags right
some_name [] pool namespace tags right is = absurd (true≢false (sym is))
some_name (grant ∷ caps) pool namespace tags right is =
    elim (which (opens_some grant pool namespace tags right)) [
      | inl here ↦ let found = a_name grant pool namespace tags right here in (found.0, rw (found.1) refl)
      | inr none ↦
          let found = some_name caps pool namespace tags right (by_right (opens_some grant pool namespace tags right) (opens caps pool namespace tags right) none is) in
          (found.0, or_right (opens_by grant pool namespace tags found.0 right) (opens_object caps pool namespace tags found.0 right) found.1)
    ]

named : (caps : List OsdGrant) (pool namespace : List ℕ) (tags : List Application) (right : Right) (name : List ℕ)
    → opens_object caps pool namespace tags name right ≡ true → opens caps pool namespace tags right ≡ true
unfolding opens_by opens_some
named [] pool namespace tags right name is = is
named (grant ∷ caps) pool namespace tags right name is =
    elim (which (opens_by grant pool namespace tags name right)) [
      | inl here ↦ rw (less_said (gives grant pool namespace tags right) (begins_name grant.scope.prefix name) (reads_rbd_info grant.access right) (starts_with nat_eq name (codes "rbd_info")) here) refl
      | inr none ↦ or_right (opens_some grant pool namespace tags right) (opens caps pool namespace tags right)
          (named caps pool namespace tags right name (by_right (opens_by grant pool namespace tags name right) (opens_object caps pool namespace tags name right) none is))
    ]

-- an object is opened exactly where it is by some name
pub opens_some_name : (caps : List OsdGrant) (pool namespace : List ℕ) (tags : List Application) (right : Right)
    → IsTrue (opens caps pool namespace tags right) ↔ OpensSome caps pool namespace tags right
opens_some_name caps pool namespace tags right = (some_name caps pool namespace tags right, λ found. named caps pool namespace tags right found.0 found.1)

-- ---- every name

begins_all : (start : Option (List ℕ)) (name : List ℕ) → begins_name start [] ≡ true → begins_name start name ≡ true
begins_all None name is = refl
begins_all (Some []) name is = refl
begins_all (Some (b ∷ start)) name is = absurd (true≢false (sym is))

-- where the second part never holds, more of the first is more of the whole
more_said : (a b c d more other : Bool) → (b ≡ true → more ≡ true) → d ≡ false → (a && b || c && d) ≡ true → (a && more || c && other) ≡ true
more_said true true c d more other first never is = rw (first refl) refl
more_said true false true true more other first never is = absurd (true≢false never)
more_said true false true false more other first never is = absurd (true≢false (sym is))
more_said true false false d more other first never is = absurd (true≢false (sym is))
more_said false b true true more other first never is = absurd (true≢false never)
more_said false b true false more other first never is = absurd (true≢false (sym is))
more_said false b false d more other first never is = absurd (true≢false (sym is))

by_no_name : (grant : OsdGrant) (pool namespace : List ℕ) (tags : List Application) (right : Right) (name : List ℕ)
    → opens_by grant pool namespace tags [] right ≡ true → opens_by grant pool namespace tags name right ≡ true
unfolding opens_by
by_no_name grant pool namespace tags right name is =
    more_said (gives grant pool namespace tags right) (begins_name grant.scope.prefix []) (reads_rbd_info grant.access right) false (begins_name grant.scope.prefix name) (starts_with nat_eq name (codes "rbd_info"))
    (begins_all grant.scope.prefix name) refl is

pub every_name : NoNameIsEveryName
every_name [] pool namespace tags right is name = is
every_name (grant ∷ caps) pool namespace tags right is name =
    elim (which (opens_by grant pool namespace tags [] right)) [
      | inl here ↦ rw (by_no_name grant pool namespace tags right name here) refl
      | inr none ↦ or_right (opens_by grant pool namespace tags name right) (opens_object caps pool namespace tags name right)
          (every_name caps pool namespace tags right (by_right (opens_by grant pool namespace tags [] right) (opens_object caps pool namespace tags [] right) none is) name)
    ]
