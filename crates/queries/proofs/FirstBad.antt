-- Each option in turn is the first bad one.
use Rattle.std.proofs.Common.{◌≡◌, ℕ, List, [], ◌∷◌, ◌++◌, subst, refl, sym, ap, ◌∙◌, append_assoc}
use Rattle.std.specs.Prelude.{◌≢◌, Result, Ok, Err, IfErr, IsErrAnd, All}
use Rattle.std.specs.List.{AllByRecursion}
use Rattle.std.proofs.lemmas.List.Elements.{All-append, All-cons, All-from_recursion}
use Rattle.capspec.specs.declared.grant.Grant.{Grant}
use Rattle.capspec.specs.declared.fault.SpecFault.{SpecFault}
use Rattle.capspec.specs.Faults.{IsFault}
use Rattle.capspec.specs.Grants.{Reads}
use Rattle.queries.specs.declared.fault.QuestionFault.{QuestionFault}
use Rattle.queries.specs.declared.fault.QuestionFault.TheVariants as faults
use Rattle.queries.specs.declared.fault.QuestionFault.TheVariants.{BadValue}
use Rattle.queries.specs.declared.options.Opt.{Opt}
use Rattle.queries.specs.declared.options.Opt.TheVariants.{Grants, Path}
use Rattle.queries.specs.declared.question.Values.{Values}
use Rattle.queries.specs.Options.{all_options, asking_options}
use Rattle.queries.specs.Question.{IsBadAmong, IsFaultIn, IsFaultOfAsking, IsFirstBad, IsGood}
use Rattle.queries.specs.Values.{ArePathNames}

-- nothing is what its value means
pub none_good : {X : Type 0} (P : X → Type 0) → ((x : X) → ¬ P x) → ¬ ((x : X) × P x)
none_good P none found = none found.0 found.1

-- the options before it are good
pub first_bad : (v : Values) (access : List ℕ) (option : Opt) (before after : List Opt) → AllByRecursion (IsGood v access) before → ¬ IsGood v access option → IsFirstBad v access (before ++ option ∷ after) option
first_bad v access option before after good bad = record {
  before = before;
  after = after;
  order = refl;
  good_before = All-from_recursion (IsGood v access) before good;
  bad = bad;
}

-- an error that is handed on as it is
pub handed_on : {T : Type 0} (r : Result T QuestionFault) (fault named : QuestionFault) → IsErrAnd r (λ reported. reported ≡ fault) → fault ≡ named → r ≡ Err named
handed_on (Ok done) fault named reported is = absurd reported
handed_on (Err same) fault named reported is = rw (reported, is) refl

-- the error that names it, among the options that are read together, whatever stands for the access
pub names_one : {T : Type 0} (v : Values) (options : List Opt) (option : Opt) (r : Result T QuestionFault) → option ≢ Grants → ((access : List ℕ) → IsFirstBad v access options option) → r ≡ Err (BadValue option)
    → IfErr r (λ fault. (access : List ℕ) → IsBadAmong v access options fault)
names_one v options option r later first is = rw is (λ access. (option, refl, later, first access))

-- it is the first of more options, where those in front are good
first_behind : (v : Values) (access : List ℕ) (front options back : List Opt) (option : Opt) → All (IsGood v access) front → IsFirstBad v access options option → IsFirstBad v access (front ++ options ++ back) option
first_behind v access front options back option good first = record {
  before = front ++ first.before;
  after = first.after ++ back;
  order = append_assoc front options back
      ∙ ap (λ (os : List Opt). front ++ (os ++ back)) first.order
      ∙ ap (λ (os : List Opt). front ++ os) (append_assoc first.before (option ∷ first.after) back)
      ∙ sym (append_assoc front first.before (option ∷ (first.after ++ back)));
  good_before = All-append (IsGood v access) front first.before good first.good_before;
  bad = first.bad;
}

-- the error that names it, among all
pub names_first_bad : {T : Type 0} (v : Values) (front options back : List Opt) (fault : QuestionFault) (r : Result T QuestionFault) → all_options ≡ front ++ options ++ back → AllByRecursion (IsGood v v.access.items) front → IsBadAmong v v.access.items options fault → r ≡ Err fault → IfErr r (IsFaultIn v)
names_first_bad v front options back fault r order good bad is =
    rw (is, bad.1) (bad.2, subst (λ (os : List Opt). IsFirstBad v v.access.items os bad.0) (sym order) (first_behind v v.access.items front options back bad.0 (All-from_recursion (IsGood v v.access.items) front good) bad.3))

-- the same of all but the grants
pub names_bad_asking : {T : Type 0} (v : Values) (access : List ℕ) (front options back : List Opt) (fault : QuestionFault) (r : Result T QuestionFault) → asking_options ≡ front ++ options ++ back → AllByRecursion (IsGood v access) front → IsBadAmong v access options fault → r ≡ Err fault → IfErr r (IsFaultOfAsking v access)
names_bad_asking v access front options back fault r order good bad is =
    rw (is, bad.1) (bad.0, refl, bad.2, subst (λ (os : List Opt). IsFirstBad v access os bad.0) (sym order) (first_behind v access front options back bad.0 (All-from_recursion (IsGood v access) front good) bad.3))

-- grants that are good, and a fault behind them
pub bad_asking : {T : Type 0} (v : Values) (fault : QuestionFault) (r : Result T QuestionFault) → IsGood v v.access.items Grants → IsFaultOfAsking v v.access.items fault → r ≡ Err fault → IfErr r (IsFaultIn v)
bad_asking v (faults.Grants refused) r good none is = absurd none
bad_asking v (BadValue option) r good bad is = names_first_bad v (Grants ∷ []) asking_options [] (BadValue option) r refl (good, tt) bad is
bad_asking v faults.NoMemory r good all is = rw is (All-cons (IsGood v v.access.items) Grants asking_options good all)

-- the fault of the grants
pub bad_grants : {T : Type 0} (v : Values) (fault : QuestionFault) (r : Result T QuestionFault) → (refused : SpecFault) × (fault ≡ faults.Grants refused) × IsFault v.grants.items refused → r ≡ Err fault → IfErr r (IsFaultIn v)
bad_grants v fault r found is = rw (is, found.1) found.2

-- values that are good by what was read of them
pub good_grants : (v : Values) (access : List ℕ) (text : List ℕ) → text ≡ v.grants.items → (grants : List Grant) × Reads text grants → IsGood v access Grants
good_grants v access text same good = (good.0, subst (λ (t : List ℕ). Reads t good.0) same good.1)

pub good_path : (v : Values) (access : List ℕ) (text : List ℕ) → text ≡ v.path.items → (names : List (List ℕ)) × ArePathNames text names → IsGood v access Path
good_path v access text same good = (good.0, subst (λ (t : List ℕ). ArePathNames t good.0) same good.1)
