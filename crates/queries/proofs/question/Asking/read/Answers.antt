use Rattle.std.proofs.Common.{rules, ℕ, List, [], ◌∷◌, refl, sym, subst}
use Rattle.queries.specs.declared.options.Opt.TheVariants.{Access, Addr, Fs, Gid, Group, Groups, Mode, Owner, Path, Uid}
use Rattle.queries.specs.declared.fault.QuestionFault.TheVariants.{BadValue}
use Rattle.texts.specs.Access.{IsAccessWord}
use Rattle.queries.specs.Values.{ArePathNames, IsAddressIf, IsFs}
use Rattle.queries.proofs.FirstBad.{first_bad, good_path, handed_on, names_bad_asking, none_good}
use Rattle.queries.proofs.question.Asking.read.Goals as goal

pub returns-in_err-fs-clause-err : goal.returns-in_err-fs-clause-err
returns-in_err-fs-clause-err c =
    let v = c.args.values.now in
    let access = c.args.access_text.now in
    names_bad_asking v access [] (Fs ∷ []) (Uid ∷ Gid ∷ Groups ∷ Path ∷ Owner ∷ Group ∷ Mode ∷ Access ∷ Addr ∷ []) (BadValue Fs) _ refl tt
    (Fs, refl, (λ e. cc), first_bad v access Fs [] [] tt (none_good (IsFs v.fs.items) (search rules)))
    (search rules)

pub returns-in_err-caller-clause-err : goal.returns-in_err-caller-clause-err
returns-in_err-caller-clause-err c =
    let v = c.args.values.now in
    let access = c.args.access_text.now in
    names_bad_asking v access (Fs ∷ []) (Uid ∷ Gid ∷ Groups ∷ []) (Path ∷ Owner ∷ Group ∷ Mode ∷ Access ∷ Addr ∷ []) c.in_err-caller.field-0.0 _ refl ((c.in_ok-fs.fs, search rules), tt) (c.in_err-caller.ensures.err access) (handed_on _ _ _ c.from_residual-in_err-caller.ensures.1 refl)

pub returns-in_err-path-clause-err : goal.returns-in_err-path-clause-err
returns-in_err-path-clause-err c =
    let v = c.args.values.now in
    let access = c.args.access_text.now in
    names_bad_asking v access (Fs ∷ Uid ∷ Gid ∷ Groups ∷ []) (Path ∷ []) (Owner ∷ Group ∷ Mode ∷ Access ∷ Addr ∷ []) (BadValue Path) _ refl ((c.in_ok-fs.fs, search rules), ((c.in_ok-caller.caller.uid, c.in_ok-caller.ensures.ok.0), ((c.in_ok-caller.caller.gid, c.in_ok-caller.ensures.ok.1), ((c.in_ok-caller.caller.groups, c.in_ok-caller.ensures.ok.2), tt))))
    (Path, refl, (λ e. cc), first_bad v access Path [] [] tt (none_good (ArePathNames v.path.items) (λ names are. c.in_err-path.ensures.err.1 names (subst (λ (text : List ℕ). ArePathNames text names) (sym c.as_slice-2.ensures.value) are))))
    (handed_on _ _ _ c.from_residual-in_err-path.ensures.1 c.in_err-path.ensures.err.0)

pub returns-in_err-attr-clause-err : goal.returns-in_err-attr-clause-err
returns-in_err-attr-clause-err c =
    let v = c.args.values.now in
    let access = c.args.access_text.now in
    let path = good_path v access c.as_slice-2.result.now c.as_slice-2.ensures.value c.in_ok-path.ensures.good in
    names_bad_asking v access (Fs ∷ Uid ∷ Gid ∷ Groups ∷ Path ∷ []) (Owner ∷ Group ∷ Mode ∷ []) (Access ∷ Addr ∷ []) c.in_err-attr.field-0.0 _ refl ((c.in_ok-fs.fs, search rules), ((c.in_ok-caller.caller.uid, c.in_ok-caller.ensures.ok.0), ((c.in_ok-caller.caller.gid, c.in_ok-caller.ensures.ok.1), ((c.in_ok-caller.caller.groups, c.in_ok-caller.ensures.ok.2), (path, tt))))) (c.in_err-attr.ensures.err access) (handed_on _ _ _ c.from_residual-in_err-attr.ensures.1 refl)

pub returns-in_err-access-clause-err : goal.returns-in_err-access-clause-err
returns-in_err-access-clause-err c =
    let v = c.args.values.now in
    let access = c.args.access_text.now in
    let path = good_path v access c.as_slice-2.result.now c.as_slice-2.ensures.value c.in_ok-path.ensures.good in
    names_bad_asking v access (Fs ∷ Uid ∷ Gid ∷ Groups ∷ Path ∷ Owner ∷ Group ∷ Mode ∷ []) (Access ∷ []) (Addr ∷ []) (BadValue Access) _ refl ((c.in_ok-fs.fs, search rules), ((c.in_ok-caller.caller.uid, c.in_ok-caller.ensures.ok.0), ((c.in_ok-caller.caller.gid, c.in_ok-caller.ensures.ok.1), ((c.in_ok-caller.caller.groups, c.in_ok-caller.ensures.ok.2), (path, ((c.in_ok-attr.attr.uid, c.in_ok-attr.ensures.ok.0), ((c.in_ok-attr.attr.gid, c.in_ok-attr.ensures.ok.1), ((c.in_ok-attr.attr.mode, c.in_ok-attr.ensures.ok.2), tt))))))))
    (Access, refl, (λ e. cc), first_bad v access Access [] [] tt (none_good (IsAccessWord access) (search rules)))
    (search rules)

pub returns-in_err-address-clause-err : goal.returns-in_err-address-clause-err
returns-in_err-address-clause-err c =
    let v = c.args.values.now in
    let access = c.args.access_text.now in
    let path = good_path v access c.as_slice-2.result.now c.as_slice-2.ensures.value c.in_ok-path.ensures.good in
    names_bad_asking v access (Fs ∷ Uid ∷ Gid ∷ Groups ∷ Path ∷ Owner ∷ Group ∷ Mode ∷ Access ∷ []) (Addr ∷ []) ([]) (BadValue Addr) _ refl ((c.in_ok-fs.fs, search rules), ((c.in_ok-caller.caller.uid, c.in_ok-caller.ensures.ok.0), ((c.in_ok-caller.caller.gid, c.in_ok-caller.ensures.ok.1), ((c.in_ok-caller.caller.groups, c.in_ok-caller.ensures.ok.2), (path, ((c.in_ok-attr.attr.uid, c.in_ok-attr.ensures.ok.0), ((c.in_ok-attr.attr.gid, c.in_ok-attr.ensures.ok.1), ((c.in_ok-attr.attr.mode, c.in_ok-attr.ensures.ok.2), ((c.in_ok-access.access, search rules), tt)))))))))
    (Addr, refl, (λ e. cc), first_bad v access Addr [] [] tt (none_good (IsAddressIf v.addr) c.in_err-address.ensures.1))
    (handed_on _ _ _ c.from_residual-in_err-address.ensures.1 c.in_err-address.ensures.0)
