use Rattle.std.proofs.Common.{ap, refl, sym, ◌∙◌}
use Rattle.release_grants.specs.Written.{mds_written}
use Rattle.release_grants.proofs.forms.mds_form.Goals as goal

pub returns-in_ok-write_grants-in-Ok : goal.returns-in_ok-write_grants-in-Ok
returns-in_ok-write_grants-in-Ok c =
    rw (sym c.in_ok-grants.ensures ∙ c.in-Ok.is) (c.in_ok-write_grants-in-Ok.field-0, refl, c.in_ok-write_grants-in-Ok.ensures ∙ ap mds_written c.as_slice.ensures)
