use Rattle.std.proofs.Common.{Option, ℕ, sym, ap, subst, ◌∙◌}
use Rattle.std.specs.Prelude.{codes}
use Rattle.std.specs.Global.{Vec}
use Rattle.release_rules.specs.Releases.{release_of}
use Rattle.cli_queries.specs.Matched.{IsGiven, words_of}
use Rattle.cli_queries.proofs.from_clap.Matched.mds.Goals as goal

pub returns-in-Some-read : goal.returns-in-Some-read
returns-in-Some-read c = (
  c.in-Some.word,
  subst (λ (given : Option (Vec ℕ)). IsGiven (words_of c.args.self.now.matches.now) (codes "mds") given) c.in-Some.is c.in_ok-word.ensures,
  ap release_of (sym c.as_slice.ensures.value) ∙ sym c.read.ensures ∙ c.in-Some-read.is,
)
