-- The name of a file system, where it may be left out.
use Rattle.std.proofs.Common.{◌≡◌, ℕ, List, Option, None, Some, refl, subst, sym, ◌∙◌}
use Rattle.std.proofs.lemmas.Bool.{false≢true}
use Rattle.std.specs.Prelude.{◌↔◌, IfSome, IsSome}
use Rattle.std.specs.Global.{Vec}
use Rattle.capspec.specs.Names.{IsFsName}
use Rattle.queries.specs.Values.{IsFsIf}

-- bytes that are none
not_fs : (text : Vec ℕ) → ¬ IsFsName text.items → (name : Option (List ℕ)) → ¬ IsFsIf (Some text) name
not_fs text bad None = λ is. is
not_fs text bad (Some name) = λ is. bad is.good

module _ (given : Option (Vec ℕ)) (text : Vec ℕ) (bytes : List ℕ) (read : Option (List ℕ)) (is : given ≡ Some text) (same : bytes ≡ text.items) (valid : IsSome read ↔ IsFsName bytes) where
  -- it was read in the text that is given
  pub one_fs : (name : List ℕ) → IfSome read (λ found. found ≡ bytes) → read ≡ Some name → IsFsIf given (Some name)
  one_fs name value one =
      subst (λ (g : Option (Vec ℕ)). IsFsIf g (Some name)) (sym is) (record {
        same = subst (λ (r : Option (List ℕ)). IfSome r (λ found. found ≡ bytes)) one value ∙ same;
        good = subst IsFsName same (valid.0 (subst (λ (r : Option (List ℕ)). IsSome r) (sym one) refl));
      })

  -- none was read there
  pub no_fs : read ≡ None → (name : Option (List ℕ)) → ¬ IsFsIf given name
  no_fs none name =
      subst (λ (g : Option (Vec ℕ)). ¬ IsFsIf g name) (sym is) (not_fs text (λ good. false≢true (subst (λ (r : Option (List ℕ)). IsSome r) none (valid.1 (subst IsFsName (sym same) good)))) name)
