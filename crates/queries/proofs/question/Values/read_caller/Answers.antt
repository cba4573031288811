use Rattle.std.proofs.Common.{ℕ, List, [], ◌∷◌, subst, sym}
use Rattle.capspec.specs.Items.{IsNumber}
use Rattle.queries.specs.declared.options.Opt.TheVariants.{Gid, Groups, Uid}
use Rattle.queries.specs.Values.{AreGroupsIf}
use Rattle.queries.proofs.FirstBad.{first_bad, handed_on, names_one, none_good}
use Rattle.queries.proofs.question.Values.read_caller.Goals as goal

pub returns-in_err-read_number-clause-err : goal.returns-in_err-read_number-clause-err
returns-in_err-read_number-clause-err c =
    let v = c.args.self.now in
    names_one v (Uid ∷ Gid ∷ Groups ∷ []) Uid _ (λ e. cc)
    (λ access. first_bad v access Uid ([]) (Gid ∷ Groups ∷ []) tt (none_good (IsNumber v.uid.items) (λ n is. c.in_err-read_number.ensures.1 n (subst (λ (text : List ℕ). IsNumber text n) (sym c.as_slice.ensures.value) is))))
    (handed_on _ _ _ c.from_residual.ensures.1 c.in_err-read_number.ensures.0)

pub returns-in_err-read_number-2-clause-err : goal.returns-in_err-read_number-2-clause-err
returns-in_err-read_number-2-clause-err c =
    let v = c.args.self.now in
    names_one v (Uid ∷ Gid ∷ Groups ∷ []) Gid _ (λ e. cc)
    (λ access. first_bad v access Gid (Uid ∷ []) (Groups ∷ []) ((c.in_ok-read_number.field-0, subst (λ (text : List ℕ). IsNumber text c.in_ok-read_number.field-0) c.as_slice.ensures.value c.in_ok-read_number.ensures), tt) (none_good (IsNumber v.gid.items) (λ n is. c.in_err-read_number-2.ensures.1 n (subst (λ (text : List ℕ). IsNumber text n) (sym c.as_slice-2.ensures.value) is))))
    (handed_on _ _ _ c.from_residual-in_err-read_number-2.ensures.1 c.in_err-read_number-2.ensures.0)

pub returns-in_err-read_given_groups-clause-err : goal.returns-in_err-read_given_groups-clause-err
returns-in_err-read_given_groups-clause-err c =
    let v = c.args.self.now in
    names_one v (Uid ∷ Gid ∷ Groups ∷ []) Groups _ (λ e. cc)
    (λ access. first_bad v access Groups (Uid ∷ Gid ∷ []) ([]) ((c.in_ok-read_number.field-0, subst (λ (text : List ℕ). IsNumber text c.in_ok-read_number.field-0) c.as_slice.ensures.value c.in_ok-read_number.ensures), ((c.in_ok-read_number-2.field-0, subst (λ (text : List ℕ). IsNumber text c.in_ok-read_number-2.field-0) c.as_slice-2.ensures.value c.in_ok-read_number-2.ensures), tt)) (none_good (AreGroupsIf v.groups) c.in_err-read_given_groups.ensures.1))
    (handed_on _ _ _ c.from_residual-in_err-read_given_groups.ensures.1 c.in_err-read_given_groups.ensures.0)
