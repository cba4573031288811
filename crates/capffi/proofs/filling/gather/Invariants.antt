use Rattle.std.proofs.Common.{◌≡◌, ◌++◌, take}
use Rattle.capffi.specs.Filling.{AreEntriesOf, texts_of}
use Rattle.capffi.proofs.filling.gather.Given as goal

abbrev pub invariant-loop-grant : goal.invariant-loop-grant
invariant-loop-grant l = (l.text.items ≡ l.fs ++ texts_of (take l.grant-index l.grants)) × AreEntriesOf l.entries.items (take l.grant-index l.grants)
