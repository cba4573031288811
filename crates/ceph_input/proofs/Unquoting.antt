-- A quoted value read byte by byte.
use Rattle.std.proofs.Common.{◌≡◌, ℕ, ◌+◌, ◌-◌, ◌<◌, true, false, List, [], ◌∷◌, ◌++◌, length, take, drop, get_or, refl, sym, ap, ◌∙◌}
use Rattle.std.proofs.lemmas.Bool.{ne_eqb}
use Rattle.std.proofs.lemmas.List.{at_drop_more}
use Rattle.std.specs.Prelude.{None, Some, codes, nat_eq}
use Rattle.std.specs.List.{ends_with, list_all}
use Rattle.ceph_input.specs.Keyring.{is_blank, unquoted}

-- one byte more, behind what is read already
module _ (value : List ℕ) (i : ℕ) (inside : i < length value) (read : List ℕ) where
  here : unquoted read (drop i value) ≡ unquoted read (get_or value i 0 ∷ drop (i + 1) value)
  here = at_drop_more (unquoted read) value i 0 inside

  pub other_byte : (next : List ℕ) → (get_or value i 0 ≡ 34 → ⊥) → next ≡ read ++ get_or value i 0 ∷ [] → unquoted next (drop (i + 1) value) ≡ unquoted read (drop i value)
  other_byte next other is = ap (λ (text : List ℕ). unquoted text (drop (i + 1) value)) is ∙ sym (here ∙ rw (ne_eqb (get_or value i 0) 34 other) refl)

  pub escaped_quote : (cut next : List ℕ) → get_or value i 0 ≡ 34 → ends_with nat_eq read (codes "\\") ≡ true → cut ≡ take (length read - 1) read → next ≡ cut ++ get_or value i 0 ∷ []
      → unquoted next (drop (i + 1) value) ≡ unquoted read (drop i value)
  escaped_quote cut next quote escaped shorter is =
      ap (λ (text : List ℕ). unquoted text (drop (i + 1) value)) (is ∙ ap (λ (text : List ℕ). text ++ get_or value i 0 ∷ []) shorter) ∙ sym (here ∙ rw (quote, escaped) refl)

  pub closing_quote : get_or value i 0 ≡ 34 → ends_with nat_eq read (codes "\\") ≡ false → list_all is_blank (drop (i + 1) value) ≡ true → Some read ≡ unquoted read (drop i value)
  closing_quote quote bare blank = sym (here ∙ rw (quote, bare, blank) refl)

  pub quote_inside : get_or value i 0 ≡ 34 → ends_with nat_eq read (codes "\\") ≡ false → list_all is_blank (drop (i + 1) value) ≡ false → None ≡ unquoted read (drop i value)
  quote_inside quote bare more = sym (here ∙ rw (quote, bare, more) refl)
