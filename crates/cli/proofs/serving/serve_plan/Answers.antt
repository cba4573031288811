use Rattle.std.proofs.Common.{subst}
use Rattle.capstep.specs.History.{IsOpening}
use Rattle.capscript.specs.Transcript.{fs_name}
use Rattle.cli.proofs.serving.serve_plan.Goals as goal

pub returns-clause-served : goal.returns-clause-served
returns-clause-served g c =
    let opening = c.in_ok-opening.opening.state in record {
      opening = opening;
      opens = subst (λ tree. IsOpening fs_name tree opening) c.in_ok-fs.ensures.tree (subst (λ fs. IsOpening fs c.in_ok-fs.tree opening) c.in_ok-fs.ensures.name c.in_ok-opening.ensures.opening);
      legal = c.in_ok-core.ensures.legal;
      counted = c.in_ok-core.ensures.counted;
    }
