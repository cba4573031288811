-- What an object in the place of a line tells.
use Rattle.std.specs.Prelude.{◌≡◌, Option, Some, None, IfSome}
use Rattle.hex.specs.Hex.{IsBytes}
use Rattle.serde_json.specs.Data.{Data}
use Rattle.texts.specs.Explaining.{path_text}
use Rattle.texts.specs.Lines.{HasNumber}
use Rattle.cluster_audit.specs.Objects.{alias_value, alike_value, conflict_group_value, conflict_value, counts_value, found_value, group_value}
use Rattle.cluster_audit.specs.Objects.{pathless_value, unknown_value, unlinked_value, unlisted_value, unnamed_value, unreadable_value}
use Rattle.cluster_audit.specs.Reported.{Line, TellTheSame, conflict, conflict_group, group, held, nothing, otherwise, otherwise_group, pathless, renamed, summary, unknown}
use Rattle.cluster_audit.specs.Reported.{unlinked, unlisted, unnamed, unread}

-- the value of the object, which stands in the place of each line but those on releases and the one that says that nothing is found
abbrev pub value_of : Line → Option Data
value_of (held number path client session issued pending found unjudged) = Some (found_value number path client session issued pending found unjudged)
value_of (group client found count) = Some (group_value count (alike_value client found))
value_of (conflict number path one other c) = Some (conflict_value number path one other c)
value_of (conflict_group one other c count) = Some (group_value count (conflict_group_value one other c))
value_of (renamed session client alias) = Some (alias_value session client alias)
value_of (unlinked number path) = Some (unlinked_value number path)
value_of (unnamed number) = Some (unnamed_value number)
value_of (unlisted client) = Some (unlisted_value client)
value_of (unread client what) = Some (unreadable_value client what)
value_of (unknown what number path client session) = Some (unknown_value what number path client session)
value_of (pathless number client session issued) = Some (pathless_value number client session issued)
value_of (otherwise path client session writes releases o) = None
value_of (otherwise_group client writes releases o) = None
value_of nothing = None
value_of (summary n) = Some (counts_value n)

-- its texts are bytes, and the access that is missing has 32 bits where it has a number; it is no line on releases
abbrev pub HasBytes : Line → Type 0
HasBytes (held number path client session issued pending f unjudged) = IsBytes (path_text path) × IsBytes client × IfSome f.missing HasNumber
HasBytes (group client f count) = IsBytes client
HasBytes (conflict number path one other c) = IfSome path (λ names. IsBytes (path_text names)) × IfSome one IsBytes × IfSome other IsBytes
HasBytes (conflict_group one other c count) = IfSome one IsBytes × IfSome other IsBytes
HasBytes (renamed session client alias) = IsBytes client × IsBytes alias
HasBytes (unlinked number path) = IsBytes (path_text path)
HasBytes (unlisted client) = IsBytes client
HasBytes (unread client what) = IsBytes client
HasBytes (unknown what number path client session) = IsBytes (path_text path) × IsBytes client
HasBytes (pathless number client session issued) = IsBytes client × IsBytes issued
HasBytes (otherwise path client session writes releases o) = ⊥
HasBytes (otherwise_group client writes releases o) = ⊥
HasBytes line = Unit {0}

-- what no line tells: the number of an inode that has a path, and which access is missing
abbrev pub TellMore : Line → Line → Type 0
TellMore (held k p c m i x f u) (held l q d n j y g v) = (k ≡ l) × (f.missing ≡ g.missing)
TellMore (conflict m p a b c) (conflict n q x y d) = m ≡ n
TellMore (unknown a k p c m) (unknown b l q d n) = k ≡ l
TellMore a b = Unit {0}

abbrev pub OneObject : Type 0
OneObject = (a b : Line) → HasBytes a → HasBytes b → value_of a ≡ value_of b → TellTheSame a b × TellMore a b
