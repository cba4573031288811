use Rattle.std.proofs.Common.{◌++◌, arith, sym, ap, ◌∙◌}
use Rattle.std.specs.List.{flat_map}
use Rattle.std.proofs.lemmas.List.{append-nil, take_all}
use Rattle.texts.specs.Quoting.{escaped}
use Rattle.texts.proofs.Texts.{texts-more}
use Rattle.texts.proofs.quoting.print_escaped.Goals as goal

pub loop-byte-init : goal.loop-byte-init
loop-byte-init c = sym (append-nil _)

pub loop-byte-preserved : goal.loop-byte-preserved
loop-byte-preserved c = texts-more escaped c.args.text.now.items c.loop-byte.text.items _ c.args.bytes.now c.loop-byte.byte-index _ (omega arith) c.loop-byte.invariant c.in_ok-print_one.ensures

pub returns : goal.returns
returns c = c.loop-byte.invariant ∙ ap (λ bytes. c.args.text.now.items ++ flat_map escaped bytes) (take_all c.loop-byte.byte-index c.args.bytes.now (omega arith))
