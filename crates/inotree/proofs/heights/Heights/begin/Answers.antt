use Rattle.std.proofs.Common.{ap, refl}
use Rattle.inotree.specs.Heights.{HeightMap, bound}
use Rattle.inotree.proofs.Results.{either}
use Rattle.inotree.proofs.Rising.{inserted_same}
use Rattle.inotree.proofs.heights.Heights.begin.Goals as goal

pub returns-in-Directory : goal.returns-in-Directory
returns-in-Directory c = either c.insert.result c.insert.ensures.ok c.insert.ensures.err
    (λ done. inserted_same c.args.self.now c.insert.new.self c.args.ino 0 done)
    (λ same other off. ap (λ (h : HeightMap). bound h other) same)

pub returns-in-File : goal.returns-in-File
returns-in-File c = λ other off. refl
