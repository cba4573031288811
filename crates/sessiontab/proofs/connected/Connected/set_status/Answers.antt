use Rattle.std.proofs.Common.{ℕ, sym, ap, ◌∙◌}
use Rattle.std.specs.Cmp.{nat_cmp_total}
use Rattle.std.specs.FinMap as map
use Rattle.capbits.proofs.Maps.{change-is, change-none}
use Rattle.sessiontab.specs.declared.session.Session.{Session}
use Rattle.sessiontab.specs.Connected.{SessionMap, change_session}
use Rattle.sessiontab.proofs.connected.Connected.set_status.Goals as goal
use Rattle.sessiontab.proofs.connected.Connected.set_status.Goals.{in-Some, in_default}

pub returns : goal.returns
returns c =
    let m : SessionMap = c.self.inside.sessions in
    let client : ℕ = c.from.result in
    let f : Session → Session = λ session. record session { status = c.args.status } in
    elim c.match-get_mut.branch [
      | in-Some w ↦
          ap (λ i. i.sessions) w.self-inside-is
          ∙ sym (change-is nat_cmp_total map.nat_cmp-IsAntisymmetric m client f w.in-Some.session.now (sym w.in-Some.ensures.value))
          ∙ ap (λ (m : SessionMap). change_session f m client) c.self.view_is ∙ ap (change_session f c.args.self.now) c.from.ensures
      | in_default w ↦
          ap (λ i. i.sessions) w.self-inside-is
          ∙ sym (change-none nat_cmp_total map.nat_cmp-IsAntisymmetric m client f (sym w.in_default.ensures.value))
          ∙ ap (λ (m : SessionMap). change_session f m client) c.self.view_is ∙ ap (change_session f c.args.self.now) c.from.ensures
    ]
