use Rattle.std.proofs.Common.{refl, sym}
use Rattle.std.proofs.lemmas.Bool.{true≢false}
use Rattle.std.specs.Prelude.{codes}
use Rattle.capspec.proofs.Taken.{no_fs_name, not_that}
use Rattle.capspec.proofs.values.read_fsname.Goals as goal

pub returns-in-None-clause-err : goal.returns-in-None-clause-err
returns-in-None-clause-err c =
    (no_fs_name c.args.text.now _ _ c.split_while.ensures (not_that _ (codes "*") _ c.eq.result c.eq.ensures c.as_slice.ensures c.if-eq.false) (λ is. true≢false (sym (c.in-None.ensures.valid.1 is))), refl)
