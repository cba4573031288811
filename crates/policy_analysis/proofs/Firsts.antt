-- The first grant that passes a test.
use Rattle.std.proofs.Common.{◌≡◌, ℕ, ◌+◌, ◌<◌, ◌≤◌, List, [], ◌∷◌, ◌++◌, length, take, drop, get_or, sym, ap, subst, ◌∙◌, arith}
use Rattle.std.specs.Prelude.{All}
use Rattle.std.proofs.lemmas.List.{drop_more, length-take-le, take-append-drop, take_all, take_more}
use Rattle.std.proofs.lemmas.List.Elements.{All-append, All-cons, All-nil}
use Rattle.capspec.specs.declared.grant.Grant.{Grant}
use Rattle.policy_analysis.specs.Standing.{IsFirst}

module _ (Does Not : Grant → Type 0) (grants : List Grant) (i : ℕ) (g : Grant) (inside : i < length grants) (is : g ≡ get_or grants i g) where
  pub one_fails : All Not (take i grants) → Not g → All Not (take (i + 1) grants)
  one_fails before fails =
      rw (take_more grants i g inside) (All-append Not (take i grants) (get_or grants i g ∷ []) before (All-cons Not (get_or grants i g) [] (subst Not is fails) (All-nil Not)))

  pub one_passes : (n : ℕ) → n ≡ i + 1 → All Not (take i grants) → Does g → IsFirst Does Not grants n
  one_passes n counted before passes = record {
    before = take i grants;
    grant = g;
    after = drop (i + 1) grants;
    order = sym (take-append-drop i grants) ∙ ap (λ (rest : List Grant). take i grants ++ rest) (drop_more grants i g inside ∙ ap (λ (h : Grant). h ∷ drop (i + 1) grants) (sym is));
    counted = counted ∙ ap (λ (k : ℕ). k + 1) (sym (length-take-le i grants (omega (arith, inside))));
    does = passes;
    others = before;
  }

pub none_passes : (Not : Grant → Type 0) (grants : List Grant) (i : ℕ) → length grants ≤ i → All Not (take i grants) → All Not grants
none_passes Not grants i end all = rw (← take_all i grants end) all

-- in other words
pub first_said : {Does Not Does' Not' : Grant → Type 0} (grants : List Grant) (n : ℕ) → ((g : Grant) → Does g → Does' g) → ((g : Grant) → Not g → Not' g) → IsFirst Does Not grants n → IsFirst Does' Not' grants n
first_said grants n does not first = record {
  before = first.before;
  grant = first.grant;
  after = first.after;
  order = first.order;
  counted = first.counted;
  does = does first.grant first.does;
  others = λ k d less. not _ (first.others k d less);
}
