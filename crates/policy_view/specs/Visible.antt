-- What readers see of an inode and of a client, and when one view shows what another one is.
use Rattle.std.specs.Prelude.{◌≡◌, ℕ, List, Option}
use Rattle.std.specs.Option.{option_map}
use Rattle.std.specs.FinMap as map
use Rattle.capbits.specs.declared.caller.Caller.{Caller}
use Rattle.capspec.specs.declared.grant.Grant.{Grant}
use Rattle.capgrant.specs.declared.access.Attr.{Attr}
use Rattle.inotree.specs.declared.node.Kind.{Kind}
use Rattle.inotree.specs.declared.node.Node.{Node}
use Rattle.inotree.specs.declared.node.Site.{Site}
use Rattle.inotree.specs.Tree.{Nodes}
use Rattle.sessiontab.specs.declared.session.Session.{Session}
use Rattle.sessiontab.specs.Connected.{SessionMap}
use Rattle.policy_view.specs.declared.view.View.{View}

-- what is seen of an inode: what it is, where it stands, and its owner, group and mode
pub record Visible : Type 0 where
  pub kind : Kind
  pub site : Site
  pub attr : Attr

abbrev pub visible_of : Node → Visible
visible_of node = record { kind = node.kind; site = node.site; attr = node.attr }

-- of an inode of a tree, where it has it
abbrev pub seen : Nodes → ℕ → Option Visible
seen tree ino = option_map visible_of (map.get tree.nodes ino)

-- what is seen of a client that is connected: the user for whom it asks, and its grants
pub record ConnectedClient : Type 0 where
  pub caller : Caller
  pub grants : List Grant

abbrev pub connected_client_of : Session → ConnectedClient
connected_client_of session = record { caller = session.caller; grants = session.grants }

-- of a client, where it is connected
abbrev pub connected_client : SessionMap → ℕ → Option ConnectedClient
connected_client sessions client = option_map connected_client_of (map.get sessions client)

-- both trees have the same inodes, of which the same is seen, and gave the same number last
pub record IsLike (copied real : Nodes) : Type 0 where
  pub last : copied.last ≡ real.last
  pub each : (ino : ℕ) → seen copied ino ≡ seen real ino

-- the same clients are connected in both, of which the same is seen
pub record AreSameClients (copied real : SessionMap) : Type 0 where
  pub each : (client : ℕ) → connected_client copied client ≡ connected_client real client

-- who sees the one sees the other
pub record Shows (copied real : View) : Type 0 where
  pub tree : IsLike copied.tree real.tree
  pub sessions : AreSameClients copied.sessions real.sessions
