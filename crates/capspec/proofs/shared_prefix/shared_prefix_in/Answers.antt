use Rattle.std.proofs.Common.{[], map, arith}
use Rattle.capspec.proofs.Sharing.{carried, carried_part, carried_whole}
use Rattle.capspec.proofs.shared_prefix.shared_prefix_in.Goals as goal

pub go_on-requires : goal.go_on-requires
go_on-requires c =
    carried_part (map (λ name. name.now) c.args.names.now) c.requires.0 c.args.text.now c.args.known c.args.shared c.requires.1 c.requires.2 c.within.result c.within.ensures.count c.within.ensures.size c.within.ensures.fits

pub go_on-requires-2 : goal.go_on-requires-2
go_on-requires-2 c =
    carried (map (λ name. name.now) c.args.names.now) c.requires.0 c.args.text.now c.args.known c.args.shared c.requires.1 c.requires.2 (omega (arith, c.if-known-shared.false))

pub returns-then-names-known : goal.returns-then-names-known
returns-then-names-known c =
    carried_whole c.args.names.now c.requires.0 c.args.text.now c.args.known c.args.shared (record { ref_ptr = (0, 0); now = [] }) c.requires.1 c.requires.2 (omega (arith, c.if-known-names.true)) (omega (arith, c.if-known-shared.false)) (omega (arith, c.if-names-known.true))
