use Rattle.std.proofs.Common.{◌≡◌, None, sym, subst}
use Rattle.capbits.specs.Refusal.{first_failing}
use Rattle.sessiontab.specs.Table.{SessionTable}
use Rattle.sessiontab.specs.Tests.{evict_tests}
use Rattle.sessiontab.proofs.Sound.{may_evict, sound-evict}
use Rattle.sessiontab.proofs.table.Sessions.evict_tested.Goals as goal

pub invariant_of-self-2 : goal.invariant_of-self-2
invariant_of-self-2 c =
    let room = may_evict (record { sessions = c.self.inside.connected; blocked = c.self.inside.blocklist }) c.args.client.0 (subst (λ (t : SessionTable). first_failing (evict_tests t c.args.client.0) ≡ None) (sym c.self.view_is) c.requires.passed) in
    rw (c.remove-had.ensures.ended, c.in_ok-insert.ensures.ok) (sound-evict _ _ _ c.self.invariant room)
