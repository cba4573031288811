use Rattle.capbench.proofs.job.Answers.to_lines.Goals as goal

pub loop-line-smaller : goal.loop-line-smaller
loop-line-smaller c = c.in-Some.ensures.shorter
