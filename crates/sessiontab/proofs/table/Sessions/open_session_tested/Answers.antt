use Rattle.std.proofs.Common.{◌≡◌, None, sym, subst}
use Rattle.capbits.specs.Refusal.{first_failing}
use Rattle.sessiontab.specs.Table.{SessionTable}
use Rattle.sessiontab.specs.Tests.{new_session_tests}
use Rattle.sessiontab.proofs.Sound.{kept_if, may_open, sound-insert}
use Rattle.sessiontab.proofs.table.Sessions.open_session_tested.Goals as goal

pub invariant_of-self : goal.invariant_of-self
invariant_of-self c =
    let before : SessionTable = record { sessions = c.self.inside.connected; blocked = c.self.inside.blocklist } in
    let may = may_open before c.args.client.0 (subst (λ (t : SessionTable). first_failing (new_session_tests t c.args.client.0) ≡ None) (sym c.self.view_is) c.requires.passed) in
    kept_if c.insert.result c.insert.ensures.ok c.insert.ensures.err (λ done. rw done (sound-insert _ _ _ c.self.invariant _ may.0 may.1)) (λ same. rw same c.self.invariant)
