-- Views that show the same: after a change of both, and where nothing is seen of a change.
use Rattle.std.proofs.Common.{◌≡◌, ℕ, Option, Some, None, refl, sym, ap, ◌∙◌}
use Rattle.std.specs.Cmp.{nat_cmp_total}
use Rattle.std.specs.FinMap as map
use Rattle.std.specs.Option.{option_map}
use Rattle.capbits.proofs.Maps.{change-is, insert-here}
use Rattle.capgrant.specs.declared.access.Attr.{Attr}
use Rattle.inotree.specs.declared.node.Node.{Node}
use Rattle.inotree.specs.declared.node.Site.{Site}
use Rattle.inotree.specs.declared.node.Site.TheVariants.{Stray, Under}
use Rattle.inotree.specs.Alike.{attr_of}
use Rattle.inotree.specs.Inodes.{InodeMap, with_attr, with_site}
use Rattle.inotree.specs.Tree.{Nodes, path_of, presence, presence_at}
use Rattle.inotree.specs.Calls.{changed, new_node}
use Rattle.inotree.proofs.Elsewhere.{path_of-stays}
use Rattle.sessiontab.specs.declared.session.Session.{Session}
use Rattle.sessiontab.specs.declared.session.Status.TheVariants.{Open}
use Rattle.sessiontab.specs.Connected.{SessionMap, change_session}
use Rattle.policy_view.specs.declared.change.ViewChange.{ViewChange}
use Rattle.policy_view.specs.declared.change.ViewChange.TheVariants as change
use Rattle.policy_view.specs.declared.view.View.{View}
use Rattle.policy_view.specs.Changes.{connected_clients_by, kind_by, tree_by, view_by}
use Rattle.policy_view.specs.Visible.{AreSameClients, IsLike, Shows, Visible, connected_client_of, visible_of}
use Rattle.policy_view.proofs.Alike.{alike-change, alike-insert, alike-remove, alike-same, alike-unseen}

-- ---- one view and another

pub shows-refl : (view : View) → Shows view view
shows-refl view = record {
  tree = record { last = refl; each = λ ino. refl };
  sessions = record { each = λ client. refl };
}

pub shows-trans : (a b c : View) → Shows a b → Shows b c → Shows a c
shows-trans a b c first second = record {
  tree = record { last = first.tree.last ∙ second.tree.last; each = λ ino. first.tree.each ino ∙ second.tree.each ino };
  sessions = record { each = λ client. first.sessions.each client ∙ second.sessions.each client };
}

-- ---- a change of both

like-changed : (f : Node → Node) (g : Visible → Visible) → ((n : Node) → visible_of (f n) ≡ g (visible_of n)) → (a b : Nodes) (k : ℕ) → IsLike a b → IsLike (changed f a k) (changed f b k)
like-changed f g law a b k like = record {
  last = like.last;
  each = alike-change nat_cmp_total map.nat_cmp-IsAntisymmetric visible_of f g law a.nodes b.nodes k like.each;
}

pub like_by : (a b : Nodes) (c : ViewChange) → IsLike a b → IsLike (tree_by a c) (tree_by b c)
like_by a b (change.Born ino dir name attr is_dir) like = record {
  last = refl;
  each = alike-insert nat_cmp_total map.nat_cmp-IsAntisymmetric visible_of a.nodes b.nodes ino.0 (new_node (kind_by is_dir) dir.0 name attr) like.each;
}
like_by a b (change.Moved ino dir name) like =
    let site : Site = Under (record { 0 = dir.0 }) name in
    like-changed (with_site site) (λ s. record s { site = site }) (λ n. refl) a b ino.0 like
like_by a b (change.Removed ino) like = like-changed (with_site Stray) (λ s. record s { site = Stray }) (λ n. refl) a b ino.0 like
like_by a b (change.Forgotten ino) like = record {
  last = like.last;
  each = alike-remove nat_cmp_total map.nat_cmp-IsAntisymmetric visible_of a.nodes b.nodes ino.0 like.each;
}
like_by a b (change.Settled ino attr) like = like-changed (with_attr attr) (λ s. record s { attr = attr }) (λ n. refl) a b ino.0 like
like_by a b (change.Opened client caller grants) like = like
like_by a b (change.Ended client) like = like
like_by a b (change.Regranted client grants) like = like

pub clients-by : (a b : SessionMap) (c : ViewChange) → AreSameClients a b → AreSameClients (connected_clients_by a c) (connected_clients_by b c)
clients-by a b (change.Born ino dir name attr is_dir) same = same
clients-by a b (change.Moved ino dir name) same = same
clients-by a b (change.Removed ino) same = same
clients-by a b (change.Forgotten ino) same = same
clients-by a b (change.Settled ino attr) same = same
clients-by a b (change.Opened client caller grants) same = record {
  each = alike-insert nat_cmp_total map.nat_cmp-IsAntisymmetric connected_client_of a b client.0 (record { status = Open; caller = caller; grants = grants }) same.each;
}
clients-by a b (change.Ended client) same = record {
  each = alike-remove nat_cmp_total map.nat_cmp-IsAntisymmetric connected_client_of a b client.0 same.each;
}
clients-by a b (change.Regranted client grants) same = record {
  each = alike-change nat_cmp_total map.nat_cmp-IsAntisymmetric connected_client_of (λ session. record session { grants = grants }) (λ connected_client. record connected_client { grants = grants }) (λ session. refl) a b client.0 same.each;
}

pub shows_by : (copied real : View) (c : ViewChange) → Shows copied real → Shows (view_by copied c) (view_by real c)
shows_by copied real c shows = record {
  tree = like_by copied.tree real.tree c shows.tree;
  sessions = clients-by copied.sessions real.sessions c shows.sessions;
}

-- ---- a change of which nothing is seen

pub like-unseen : (tree : Nodes) (f : Node → Node) (ino : ℕ) → ((node : Node) → visible_of (f node) ≡ visible_of node) → IsLike tree (changed f tree ino)
like-unseen tree f ino law = record {
  last = refl;
  each = alike-unseen nat_cmp_total map.nat_cmp-IsAntisymmetric visible_of f law tree.nodes ino;
}

pub clients-unseen : (sessions : SessionMap) (f : Session → Session) (client : ℕ) → ((session : Session) → connected_client_of (f session) ≡ connected_client_of session) → AreSameClients sessions (change_session f sessions client)
clients-unseen sessions f client law = record {
  each = alike-unseen nat_cmp_total map.nat_cmp-IsAntisymmetric connected_client_of f law sessions client;
}

-- an inode is settled in what a change has made of it
pub like-settled : (tree : Nodes) (f : Node → Node) (ino : ℕ) (attr : Attr) → ((node : Node) → (f node).kind ≡ node.kind) → ((node : Node) → (f node).site ≡ node.site)
    → attr_of (changed f tree ino).nodes ino ≡ Some attr → IsLike (changed (with_attr attr) tree ino) (changed f tree ino)
like-settled tree f ino attr kind site now = record {
  last = refl;
  each = alike-same nat_cmp_total map.nat_cmp-IsAntisymmetric visible_of (with_attr attr) f tree.nodes ino (λ node here.
      let there : map.get (changed f tree ino).nodes ino ≡ Some (f node) =
      ap (λ (m : InodeMap). map.get m ino) (change-is nat_cmp_total map.nat_cmp-IsAntisymmetric tree.nodes ino f node here) ∙ insert-here nat_cmp_total map.nat_cmp-IsAntisymmetric tree.nodes ino (f node) in
      let same : Some (f node).attr ≡ Some attr = sym (ap (option_map (λ (n : Node). n.attr)) there) ∙ now in
      let is : attr ≡ (f node).attr = cc in
      λ i. record { kind = sym (kind node) i; site = sym (site node) i; attr = is i });
}

-- ---- one half of a view is alike, and the other the same

pub shows-tree : (copied real : Nodes) (sessions : SessionMap) → IsLike copied real → Shows (record { tree = copied; sessions = sessions }) (record { tree = real; sessions = sessions })
shows-tree copied real sessions like = record { tree = like; sessions = record { each = λ client. refl } }

pub shows-sessions : (tree : Nodes) (copied real : SessionMap) → AreSameClients copied real → Shows (record { tree = tree; sessions = copied }) (record { tree = tree; sessions = real })
shows-sessions tree copied real same = record { tree = record { last = refl; each = λ ino. refl }; sessions = same }

-- ---- what is read of an inode

field_seen : {A : Type 0} (of_visible : Visible → A) (o : Option Node) → option_map (λ (n : Node). of_visible (visible_of n)) o ≡ option_map of_visible (option_map visible_of o)
field_seen of_visible None = refl
field_seen of_visible (Some n) = refl

-- what is seen of an inode has its field
like-field : {A : Type 0} (of_visible : Visible → A) (a b : Nodes) → IsLike a b → (i : ℕ) → option_map (λ (n : Node). of_visible (visible_of n)) (map.get a.nodes i) ≡ option_map (λ (n : Node). of_visible (visible_of n)) (map.get b.nodes i)
like-field of_visible a b like i = field_seen of_visible (map.get a.nodes i) ∙ ap (option_map of_visible) (like.each i) ∙ sym (field_seen of_visible (map.get b.nodes i))

pub like-path : (a b : Nodes) (i : ℕ) → IsLike a b → path_of a.nodes i ≡ path_of b.nodes i
like-path a b i like = path_of-stays b.nodes a.nodes (λ j. Unit {0}) (λ j kept. like-field (λ s. s.site) a b like j) (λ j d name kept under. tt) i tt

pub like-presence : (a b : Nodes) (i : ℕ) → IsLike a b → presence a.nodes i ≡ presence b.nodes i
like-presence a b i like = ap presence_at (like-field (λ s. s.site) a b like i)

pub like-attr : (a b : Nodes) (i : ℕ) → IsLike a b → attr_of a.nodes i ≡ attr_of b.nodes i
like-attr a b i like = like-field (λ s. s.attr) a b like i
