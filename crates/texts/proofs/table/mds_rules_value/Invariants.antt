use Rattle.std.proofs.Common.{◌≡◌, map, take}
use Rattle.std.specs.List.{enumerate_from}
use Rattle.serde_json.specs.View.{view}
use Rattle.texts.specs.MdsAnswers.{mds_rule_value}
use Rattle.texts.proofs.table.mds_rules_value.Given as goal

abbrev pub invariant-loop-place : goal.invariant-loop-place
invariant-loop-place l = map view l.items.items ≡ map mds_rule_value (enumerate_from 1 (take l.place l.rules))
