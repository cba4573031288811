-- How the ends of a list are stored, and those of many lists: by their numbers.
use Rattle.std.specs.Ordering.{nat_cmp}
use Rattle.std.specs.Coded.{Coded, coded_ℕ}
use Rattle.std.specs.FinMap as map
use Rattle.cap_arena.specs.declared.nodes.Ends.{Ends}
use Rattle.cap_arena.specs.contracts.nodes.Ends as ends

abbrev pub head_code : Coded Ends
head_code = ends.the_row.coded

abbrev pub ends_code : Coded (map.FinMap nat_cmp Ends)
ends_code = map.code coded_ℕ head_code
