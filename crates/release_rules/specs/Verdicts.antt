-- What an MDS says to a question, by all grants of a client.
use Rattle.std.specs.Prelude.{ℕ, ◌+◌, Bool, true, false, not, ◌&&◌, ◌||◌, ◌==◌, Option, Some, None, is_none, List, length, position, filter_map, if◌then◌else◌}
use Rattle.std.specs.List.{list_any}
use Rattle.capgrant.specs.Failing.{is_some_and}
use Rattle.release_grants.specs.declared.grant.Grant.{Grant}
use Rattle.release_grants.specs.declared.switches.Switches.{Switches}
use Rattle.release_rules.specs.declared.rule.Rule.{Rule}
use Rattle.release_rules.specs.declared.verdict.Verdict.{Verdict}
use Rattle.release_rules.specs.declared.verdict.Verdict.TheVariants.{Allowed, CannotMount, Denied, DependsOnAddress}
use Rattle.release_rules.specs.Failing.{first_failing, has_user, is_for_other_fs}
use Rattle.release_grants.specs.Networks.{in_network, is_unknown}
use Rattle.release_grants.specs.Paths.{without_first_slashes}
use Rattle.release_rules.specs.Question.{Question}

-- ---- who may mount

-- the path, if there is one, is the whole tree
abbrev pub is_whole_tree : Option (List ℕ) → Bool
is_whole_tree path = not (is_some_and (λ text. not (length (without_first_slashes text) == 0)) path)

-- `*` or `all` for all users and the whole tree
abbrev pub is_for_everything : Switches → Grant → Bool
is_for_everything switches g = g.flags.all && (not (has_user switches g) && is_whole_tree g.path)

-- by the grant a client may mount the file system, whatever the network of the grant. One for everything lets it mount any.
unfoldable pub lets_mount : Switches → List ℕ → Grant → Bool
lets_mount switches fs g = is_for_everything switches g || not (is_for_other_fs fs g)

-- some grant lets the client mount: else the MDS opens no session for it
abbrev pub may_mount : Switches → List ℕ → List Grant → Bool
may_mount switches fs grants = list_any (lets_mount switches fs) grants

-- ---- what it may do then

-- it is not known whether the client is in the network of the grant
abbrev pub is_open : Question → Grant → Bool
is_open q g = is_unknown (in_network g.network q.address)

-- no rule fails, and the network of the grant is no question
abbrev pub allows : Switches → Question → Grant → Bool
allows switches q g = is_none (first_failing switches q g) && not (is_open q g)

-- no rule fails, so that the grant allows, if the client is in its network
abbrev pub may_allow : Switches → Question → Grant → Bool
may_allow switches q g = is_none (first_failing switches q g)

-- the rules that the grants fail by first, in the order of the grants
abbrev pub first_failures : Switches → Question → List Grant → List Rule
first_failures switches q grants = filter_map (first_failing switches q) grants

-- by the place of the first grant that allows, from 0, and of the first that does in its network
abbrev pub verdict_at : Option ℕ → Option ℕ → List Rule → Verdict
verdict_at (Some place) maybe failures = Allowed (place + 1)
verdict_at None (Some place) failures = DependsOnAddress (place + 1)
verdict_at None None failures = Denied failures

-- the number of the first grant that allows, from 1; else of the first that does if the client is in its network; else the rule that each
-- grant fails by first
abbrev pub verdict_of : Switches → Question → List Grant → Verdict
verdict_of switches q grants =
    if may_mount switches q.fs grants
    then verdict_at (position (allows switches q) grants) (position (may_allow switches q) grants) (first_failures switches q grants)
    else CannotMount

-- some grant allows it, wherever the client is
abbrev pub is_allowed : Verdict → Bool
is_allowed (Allowed number) = true
is_allowed verdict = false
