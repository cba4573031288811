use Rattle.std.proofs.Common.{rules, ℕ, List, [], ◌∷◌, subst, sym}
use Rattle.capspec.specs.Items.{IsNumber}
use Rattle.queries.specs.declared.options.Opt.TheVariants.{Group, Mode, Owner}
use Rattle.queries.specs.Values.{IsModeText}
use Rattle.queries.proofs.FirstBad.{first_bad, handed_on, names_one, none_good}
use Rattle.queries.proofs.question.Values.read_attr.Goals as goal

pub returns-in_err-read_number-clause-err : goal.returns-in_err-read_number-clause-err
returns-in_err-read_number-clause-err c =
    let v = c.args.self.now in
    names_one v (Owner ∷ Group ∷ Mode ∷ []) Owner _ (λ e. cc)
    (λ access. first_bad v access Owner ([]) (Group ∷ Mode ∷ []) tt (none_good (IsNumber v.owner.items) (λ n is. c.in_err-read_number.ensures.1 n (subst (λ (text : List ℕ). IsNumber text n) (sym c.as_slice.ensures.value) is))))
    (handed_on _ _ _ c.from_residual.ensures.1 c.in_err-read_number.ensures.0)

pub returns-in_err-read_number-2-clause-err : goal.returns-in_err-read_number-2-clause-err
returns-in_err-read_number-2-clause-err c =
    let v = c.args.self.now in
    names_one v (Owner ∷ Group ∷ Mode ∷ []) Group _ (λ e. cc)
    (λ access. first_bad v access Group (Owner ∷ []) (Mode ∷ []) ((c.in_ok-read_number.field-0, subst (λ (text : List ℕ). IsNumber text c.in_ok-read_number.field-0) c.as_slice.ensures.value c.in_ok-read_number.ensures), tt) (none_good (IsNumber v.group.items) (λ n is. c.in_err-read_number-2.ensures.1 n (subst (λ (text : List ℕ). IsNumber text n) (sym c.as_slice-2.ensures.value) is))))
    (handed_on _ _ _ c.from_residual-in_err-read_number-2.ensures.1 c.in_err-read_number-2.ensures.0)

pub returns-in_err-ok_or-clause-err : goal.returns-in_err-ok_or-clause-err
returns-in_err-ok_or-clause-err c =
    let v = c.args.self.now in
    names_one v (Owner ∷ Group ∷ Mode ∷ []) Mode _ (λ e. cc)
    (λ access. first_bad v access Mode (Owner ∷ Group ∷ []) ([]) ((c.in_ok-read_number.field-0, subst (λ (text : List ℕ). IsNumber text c.in_ok-read_number.field-0) c.as_slice.ensures.value c.in_ok-read_number.ensures), ((c.in_ok-read_number-2.field-0, subst (λ (text : List ℕ). IsNumber text c.in_ok-read_number-2.field-0) c.as_slice-2.ensures.value c.in_ok-read_number-2.ensures), tt)) (none_good (IsModeText v.mode.items) (search rules)))
    (search rules)
