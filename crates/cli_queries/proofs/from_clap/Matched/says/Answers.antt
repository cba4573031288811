use Rattle.clap.specs.Words.{found_of}
use Rattle.cli_queries.proofs.Matches.{flag_by_rows}
use Rattle.cli_queries.proofs.from_clap.Matched.says.Goals as goal

pub returns : goal.returns
returns c = flag_by_rows (found_of c.args.self.now.matches.now) c.args.flag.now c.get_flag.result c.get_flag.ensures.none c.get_flag.ensures.value c.get_flag.ensures.other
