use Rattle.capgrant.specs.declared.access.Access.{Access}
use Rattle.capgrant.specs.declared.access.Access.TheVariants.{Chgrp, Chown, Read, SetVxattr, Snapshot, Write}
use Rattle.capgrant.specs.declared.answer.Verdict.{Verdict}
use Rattle.capffi.specs.declared.passed.Check.{Check}
use Rattle.capffi.specs.Blocks.{bare_names}
use Rattle.capgrant.specs.Masks.{asked_if}
use Rattle.capffi.specs.ByMask.{mask_verdict_next, verdict_on}
use Rattle.capffi.proofs.Masks.{six}
use Rattle.capffi.proofs.by_mask.Asker.ask_all.Goals as goal

pub returns : goal.returns
returns c =
    let check : Check = c.args.self.now.check.now in
    let judge : Access → Verdict = verdict_on c.args.self.now.block.now c.args.self.now.text.now (bare_names c.args.self.now.path.now) c.args.self.now.groups.now check in
    six (mask_verdict_next judge) c.ask-read.result c.ask-written.result c.ask-given.result c.ask-grouped.result c.ask-set.result c.ask.result (asked_if check.mask 1 Read) (asked_if check.mask 2 Write) (asked_if check.mask 16 (Chown check.new_uid)) (asked_if check.mask 32 (Chgrp check.new_gid)) (asked_if check.mask 64 SetVxattr) (asked_if check.mask 128 Snapshot) c.ask-read.ensures c.ask-written.ensures c.ask-given.ensures c.ask-grouped.ensures c.ask-set.ensures c.ask.ensures
