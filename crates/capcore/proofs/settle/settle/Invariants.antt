use Rattle.std.proofs.Common.{◌≡◌, ◌≤◌, ◌+◌, length, vec_capacity}
use Rattle.std.specs.FinSet as set
use Rattle.capstep.specs.DueEndings.{HasRoom}
use Rattle.capstep.specs.NotedChanges.{HavePlaces}
use Rattle.capcore.proofs.CommonPieces.{AreWalked, Holder, LeadOn, known_of, plain}
use Rattle.capcore.proofs.SoFar.{IsSoFar}
use Rattle.capcore.specs.Begun.{AreCountedIn, ArePermittedIn}
use Rattle.capcore.specs.Judged.{IsJudged}
use Rattle.capcore.specs.Sweep.{StandsAt}
use Rattle.capcore.proofs.settle.settle.Given as goal

abbrev pub decreases-servings : goal.decreases-servings
decreases-servings l = length l.scene.locks.locks.queue

abbrev pub invariant-servings : goal.invariant-servings
invariant-servings l = record {
  so_far : IsSoFar (set.contains l.fn.affected) l.affected (plain l.fn.scene) (plain l.scene) l.output.given.items l.output.sized.items;
  stands : StandsAt (set.contains l.affected) l.place (plain l.scene);
  walked : AreWalked l.walked l.scene.tree l.scene.table.entries l.affected;
  judged : IsJudged l.output.judged (plain l.scene);
  same : l.output.recorded.items ≡ l.output.given.items;
  given : HasRoom l.output.given l.scene.locks.locks;
  recorded : HasRoom l.output.recorded l.scene.locks.locks;
  lead : LeadOn l.fn.output.changes.items l.output.changes.items l.fn.scene.tree l.scene.tree;
  places : HavePlaces l.output.changes l.scene.locks.locks l.affected;
  known : (k : Holder) → known_of l.scene.table.kept k ≡ known_of l.fn.scene.table.kept k;
  permitted : ArePermittedIn l.scene.table.kept (plain l.scene);
  counted : AreCountedIn l.scene;
  sized : length l.output.sized.items + length l.scene.locks.locks.queue ≤ vec_capacity l.output.sized;
}
