-- What is said of one after the other.
use Rattle.std.proofs.Common.{◌≡◌, ℕ, ◌+◌, ◌<◌, ◌≤◌, List, [], ◌∷◌, ◌++◌, length, drop, get_or, sym, ap, subst, ◌∙◌, append_assoc}
use Rattle.std.proofs.lemmas.List.{append-nil, drop_all, drop_more}
use Rattle.cluster_audit.specs.declared.notes.Notes.{Notes}
use Rattle.cluster_audit.specs.Audited.{Adds, AreReports}
use Rattle.cluster_audit.specs.Audited.AreReports.{no_more, one_more}

module _ {X : Type 0} (Says : X → List ℕ → List ℕ → Type 0) (xs : List X) where
  -- with what is said of the others behind it this is what is said of all
  abbrev pub IsBegun : ℕ → List ℕ → List ℕ → Type 0
  IsBegun i found unknown = (rest more : List ℕ) → AreReports Says (drop i xs) rest more → AreReports Says xs (found ++ rest) (unknown ++ more)

  pub none_yet : IsBegun 0 [] []
  none_yet rest more reports = reports

  pub one_further : (i : ℕ) (x : X) (found unknown : List ℕ) → i < length xs → x ≡ get_or xs i x → IsBegun i found unknown → (f u : List ℕ) → Says x f u → IsBegun (i + 1) (found ++ f) (unknown ++ u)
  one_further i x found unknown inside is begun f u says rest more reports =
      let here : drop i xs ≡ x ∷ drop (i + 1) xs = drop_more xs i x inside ∙ ap (λ (y : X). y ∷ drop (i + 1) xs) (sym is) in
      subst (λ (t : List ℕ). AreReports Says xs t ((unknown ++ u) ++ more)) (sym (append_assoc found f rest))
      (subst (λ (t : List ℕ). AreReports Says xs (found ++ (f ++ rest)) t) (sym (append_assoc unknown u more))
      (begun (f ++ rest) (u ++ more) (subst (λ (ys : List X). AreReports Says ys (f ++ rest) (u ++ more)) (sym here) (one_more f u rest more says reports))))

  pub all_said : (i : ℕ) (found unknown : List ℕ) → length xs ≤ i → IsBegun i found unknown → AreReports Says xs found unknown
  all_said i found unknown end begun =
      subst (λ (t : List ℕ). AreReports Says xs t unknown) (append-nil found)
      (subst (λ (t : List ℕ). AreReports Says xs (found ++ []) t) (append-nil unknown)
      (begun [] [] (subst (λ (ys : List X). AreReports Says ys [] []) (sym (drop_all i xs end)) no_more)))

  -- ---- in notes

  pub one_noted : (i : ℕ) (x : X) (before after : Notes) → i < length xs → x ≡ get_or xs i x → IsBegun i before.found.items before.unknown.items → Adds (Says x) before after → IsBegun (i + 1) after.found.items after.unknown.items
  one_noted i x before after inside is begun adds rest more reports =
      subst (λ (t : List ℕ). AreReports Says xs (t ++ rest) (after.unknown.items ++ more)) (sym adds.2)
      (subst (λ (t : List ℕ). AreReports Says xs ((before.found.items ++ adds.0) ++ rest) (t ++ more)) (sym adds.3)
      (one_further i x before.found.items before.unknown.items inside is begun adds.0 adds.1 adds.4 rest more reports))

  pub one_added : (i : ℕ) (x : X) (first before after : Notes) → i < length xs → x ≡ get_or xs i x → Adds (IsBegun i) first before → Adds (Says x) before after → Adds (IsBegun (i + 1)) first after
  one_added i x first before after inside is begun adds = (
    begun.0 ++ adds.0,
    begun.1 ++ adds.1,
    adds.2 ∙ ap (λ (t : List ℕ). t ++ adds.0) begun.2 ∙ append_assoc first.found.items begun.0 adds.0,
    adds.3 ∙ ap (λ (t : List ℕ). t ++ adds.1) begun.3 ∙ append_assoc first.unknown.items begun.1 adds.1,
    one_further i x begun.0 begun.1 inside is begun.4 adds.0 adds.1 adds.4,
  )

  pub all_added : (i : ℕ) (first after : Notes) → length xs ≤ i → Adds (IsBegun i) first after → Adds (AreReports Says xs) first after
  all_added i first after end begun = (begun.0, begun.1, begun.2, begun.3, all_said i begun.0 begun.1 end begun.4)
