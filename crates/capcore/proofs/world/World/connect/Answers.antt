use Rattle.std.proofs.Common.{◌≡◌, None, sym, subst}
use Rattle.capcore.proofs.Common.{State, first_failing, new_session_tests}
use Rattle.capcore.proofs.Unaffected.{session-whole}
use Rattle.capcore.proofs.world.World.connect.Goals as goal

pub invariant_of-self : goal.invariant_of-self
invariant_of-self c = rw c.in_err-open_session_tested.ensures.err c.self.invariant

pub invariant_of-self-2 : goal.invariant_of-self-2
invariant_of-self-2 c =
    let passed : first_failing (new_session_tests c.self.inside.parts.scene.sessions c.args.client.0) ≡ None =
    subst (λ (s : State). first_failing (new_session_tests s.scene.sessions c.args.client.0) ≡ None) (sym c.self.view_is) c.requires.passed in
    rw c.in_ok-open_session_tested.ensures.ok (session-whole c.self.inside.parts c.self.invariant c.args.client.0 c.copy-2.result c.in_ok-grants.grants passed)
