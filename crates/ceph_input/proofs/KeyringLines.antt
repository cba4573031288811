-- A keyring read line by line.
use Rattle.std.proofs.Common.{◌≡◌, ℕ, ◌+◌, ◌-◌, ◌<◌, ◌≤◌, Bool, true, false, List, [], ◌∷◌, ◌++◌, length, take, drop, get_or, refl, sym, ap, ◌∙◌, arith}
use Rattle.std.proofs.lemmas.List.{drop_all, drop_more, length-drop, length_push, take_all}
use Rattle.std.specs.Prelude.{Err, Ok, codes, nat_eq}
use Rattle.std.specs.List.{starts_with}
use Rattle.std.specs.Borrow.{Bor}
use Rattle.ceph_input.specs.declared.keyring_fault.KeyringFault.TheVariants.{NoCaps}
use Rattle.ceph_input.specs.Keyring.{from_text, is_only, value_in}

-- one line more, with what is known of where it stands and of what it is
module _ (head : List ℕ) (lines : List (List ℕ)) (before : List (Bor (List ℕ))) (line : Bor (List ℕ)) (inside : length before < length lines) (is : line.now ≡ get_or lines (length before) line.now) where
  here : (now : Bool) → value_in head now (drop (length before) lines) ≡ value_in head now (line.now ∷ drop (length before + 1) lines)
  here now = ap (value_in head now) (drop_more lines (length before) line.now inside ∙ ap (λ l. l ∷ drop (length before + 1) lines) (sym is))

  behind : (now : Bool) → value_in head now (drop (length (before ++ line ∷ [])) lines) ≡ value_in head now (drop (length before + 1) lines)
  behind now = ap (λ k. value_in head now (drop k lines)) (length_push before line)

  pub outside_step : (was now : Bool) → was ≡ false → now ≡ is_only head (from_text line.now) → value_in head now (drop (length (before ++ line ∷ [])) lines) ≡ value_in head was (drop (length before) lines)
  outside_step was now outside e = rw (outside, here false, behind now, e) refl

  pub inside_step : (was : Bool) → was ≡ true → starts_with nat_eq (from_text line.now) (codes "[") ≡ false → starts_with nat_eq (from_text line.now) (codes "caps mds = ") ≡ false
      → value_in head was (drop (length (before ++ line ∷ [])) lines) ≡ value_in head was (drop (length before) lines)
  inside_step was now no_head no_caps = rw (now, here true, behind true, no_head, no_caps) refl

  pub inside_ends : (was : Bool) → was ≡ true → starts_with nat_eq (from_text line.now) (codes "[") ≡ true → value_in head was (drop (length before) lines) ≡ Err NoCaps
  inside_ends was now ends = rw (now, here true, ends) refl

  pub inside_has : (was : Bool) → was ≡ true → starts_with nat_eq (from_text line.now) (codes "[") ≡ false → starts_with nat_eq (from_text line.now) (codes "caps mds = ") ≡ true
      → value_in head was (drop (length before) lines) ≡ Ok (drop 11 (from_text line.now))
  inside_has was now no_head has = rw (now, here true, no_head, has) refl

-- all lines are passed
pub none_left : (head : List ℕ) (lines : List (List ℕ)) (k : ℕ) (was : Bool) → length lines ≤ k → value_in head was (drop k lines) ≡ value_in head was []
none_left head lines k was passed = ap (value_in head was) (drop_all k lines passed)

-- what stands behind the first eleven bytes, cut to its length
pub whole_rest : (line : List ℕ) → take (length line - 11) (drop 11 line) ≡ drop 11 line
whole_rest line = take_all (length line - 11) (drop 11 line) (omega (arith, length-drop 11 line))
