use Rattle.std.proofs.Common.{◌≡◌, map, drop}
use Rattle.serde_json.specs.View.{members_view}
use Rattle.texts.specs.Values.{with_all}
use Rattle.texts.proofs.Tables.{member_of}
use Rattle.texts.proofs.table.put_all.Given as goal

abbrev pub invariant-loop-member : goal.invariant-loop-member
invariant-loop-member l = with_all (map member_of (drop l.member-index l.table)) (members_view l.members.entries) ≡ with_all (map member_of l.table) (members_view l.initial.members.entries)
