-- What was noted leads on, change by change.
use Rattle.std.proofs.Common.{◌≡◌, ℕ, ◌+◌, Bool, true, false, List, [], ◌∷◌, ◌++◌, ◌⊎◌, inl, inr, Option, Some, None, refl, sym, ap, subst, ◌∙◌, arith}
use Rattle.std.specs.Cmp.{nat_cmp_total}
use Rattle.std.specs.Option.{option_map}
use Rattle.std.specs.FinMap as map
use Rattle.std.specs.FinSet as set
use Rattle.capbits.specs.declared.ids.Ino.{Ino}
use Rattle.capgrant.specs.declared.access.Attr.{Attr}
use Rattle.capbits.proofs.Maps.{change-is, change-none, insert-here}
use Rattle.inotree.specs.Calls.{changed, moved, new_node, unlinked, with_new}
use Rattle.inotree.specs.Inodes.{InodeMap, with_attr}
use Rattle.inotree.specs.Tree.{Nodes}
use Rattle.inotree.specs.declared.node.Kind.{Kind}
use Rattle.inotree.specs.declared.node.Node.{Node}
use Rattle.inotree.specs.declared.node.Site.{Site}
use Rattle.inotree.specs.declared.node.Site.TheVariants.{Under}
use Rattle.sessiontab.specs.Connected.{SessionMap}
use Rattle.policy_view.proofs.Likeness.{like-settled, like-unseen, shows-tree}
use Rattle.policy_view.proofs.Telling.{changes-alike, changes-more, changes-none}
use Rattle.policy_view.specs.Changes.{AreChanges, kind_by, tree_by, view_by}
use Rattle.policy_view.specs.Visible.{IsLike, Shows, visible_of}
use Rattle.policy_view.specs.declared.change.ViewChange.{ViewChange}
use Rattle.policy_view.specs.declared.view.View.{View}
use Rattle.lockmachine.specs.declared.request.Change.{Change}
use Rattle.lockmachine.specs.declared.request.Operation.TheVariants.{Rmdir, Unlink}
use Rattle.lockmachine.specs.declared.request.Request.{Request}
use Rattle.capstep.specs.declared.outcome.Outcome.{Outcome}
use Rattle.capstep.specs.declared.outcome.Outcome.TheVariants.{Done}
use Rattle.capstep.specs.Changing.{tree_after, tree_changed, tree_with}
use Rattle.capstep.specs.NotedChanges.{LeadOn, sets_attr, view}

-- nothing was noted, and the tree stays
pub leads-none : (items : List ViewChange) (tree : Nodes) → LeadOn items items tree tree
leads-none items tree = record { on = λ first sessions told. told }

pub leads-same : (items : List ViewChange) (before after : Nodes) → after ≡ before → LeadOn items items before after
leads-same items before after same = subst (LeadOn items items before) (sym same) (leads-none items before)

pub leads-then : (a b c : List ViewChange) (first mid last : Nodes) → LeadOn a b first mid → LeadOn b c mid last → LeadOn a c first last
leads-then a b c first mid last one two = record { on = λ view sessions told. two.on view sessions (one.on view sessions told) }

-- what was noted leads to all that looks the same
pub leads-alike : (a b : List ViewChange) (first mid last : Nodes) → LeadOn a b first mid → IsLike mid last → LeadOn a b first last
leads-alike a b first mid last leads like = grind (arith, changes-alike, shows-tree)

-- ---- one change more

module _ (items : List ViewChange) (before : Nodes) where
  leads-more : (c : ViewChange) → ((sessions : SessionMap) → view_by (view before sessions) c ≡ view (tree_by before c) sessions) → LeadOn items (items ++ c ∷ []) before (tree_by before c)
  leads-more c shows = record { on = λ first sessions told. subst (AreChanges (items ++ c ∷ []) first) (shows sessions) (changes-more items first (view before sessions) c told) }

  pub leads-forgotten : (ino : Ino) → LeadOn items (items ++ ViewChange.Forgotten ino ∷ []) before (tree_by before (ViewChange.Forgotten ino))
  leads-forgotten ino = leads-more (ViewChange.Forgotten ino) (λ sessions. refl)

-- ---- an inode, as it is read off the tree after the change

module _ (items : List ViewChange) (before after : Nodes) (ino : Ino) where
  -- where there is none, the change of it changes nothing
  pub leads-not_there : (f : Node → Node) → after ≡ changed f before ino.0 → map.get after.nodes ino.0 ≡ None → LeadOn items items before after
  leads-not_there f is none = leads-same items before after (is ∙ ap (λ (m : InodeMap). record { nodes = m; last = before.last }) (change-none nat_cmp_total map.nat_cmp-IsAntisymmetric before.nodes ino.0 f (was (map.get before.nodes ino.0) refl)))
    where
      there : (node : Node) → map.get before.nodes ino.0 ≡ Some node → map.get after.nodes ino.0 ≡ Some (f node)
      there node e =
          ap (λ (t : Nodes). map.get t.nodes ino.0) is
          ∙ ap (λ (m : InodeMap). map.get m ino.0) (change-is nat_cmp_total map.nat_cmp-IsAntisymmetric before.nodes ino.0 f node e)
          ∙ insert-here nat_cmp_total map.nat_cmp-IsAntisymmetric before.nodes ino.0 (f node)

      was : (o : Option Node) → map.get before.nodes ino.0 ≡ o → map.get before.nodes ino.0 ≡ None
      was None e = e
      was (Some node) e = absurd (let here : Some (f node) ≡ None = sym (there node e) ∙ none in cc)

  -- of one that is there after the change, what it was before
  changed_from : (f : Node → Node) → after ≡ changed f before ino.0 → (node : Node) → map.get after.nodes ino.0 ≡ Some node → (old : Node) × (node ≡ f old)
  changed_from f is node here = was (map.get before.nodes ino.0) refl
    where
      was : (o : Option Node) → map.get before.nodes ino.0 ≡ o → (old : Node) × (node ≡ f old)
      was None e =
          let same : changed f before ino.0 ≡ before = ap (λ (m : InodeMap). record { nodes = m; last = before.last }) (change-none nat_cmp_total map.nat_cmp-IsAntisymmetric before.nodes ino.0 f e) in
          let none : Some node ≡ None = sym here ∙ ap (λ (t : Nodes). map.get t.nodes ino.0) (is ∙ same) ∙ e in
          absurd (cc)
      was (Some old) e =
          let there : Some node ≡ Some (f old) =
          sym here ∙ ap (λ (t : Nodes). map.get t.nodes ino.0) is
          ∙ ap (λ (m : InodeMap). map.get m ino.0) (change-is nat_cmp_total map.nat_cmp-IsAntisymmetric before.nodes ino.0 f old e)
          ∙ insert-here nat_cmp_total map.nat_cmp-IsAntisymmetric before.nodes ino.0 (f old) in (old, cc)

  -- its owner, group or mode was set
  pub leads-attr : (f : Node → Node) → ((node : Node) → (f node).kind ≡ node.kind) → ((node : Node) → (f node).site ≡ node.site) → after ≡ changed f before ino.0
      → (node : Node) → map.get after.nodes ino.0 ≡ Some node → LeadOn items (items ++ ViewChange.Settled ino node.attr ∷ []) before after
  leads-attr f kinds sites is node here =
      let told : List ViewChange = items ++ ViewChange.Settled ino node.attr ∷ [] in
      subst (LeadOn items told before) (sym is)
      (leads-alike items told before (changed (with_attr node.attr) before ino.0) (changed f before ino.0) (leads-more items before (ViewChange.Settled ino node.attr) (λ sessions. refl))
      (like-settled before f ino.0 node.attr kinds sites (ap (option_map (λ (n : Node). n.attr)) (ap (λ (t : Nodes). map.get t.nodes ino.0) (sym is) ∙ here))))

  -- what no reader sees was changed
  pub leads-unseen : (f : Node → Node) → ((node : Node) → visible_of (f node) ≡ visible_of node) → after ≡ changed f before ino.0 → LeadOn items items before after
  leads-unseen f law is =
      subst (LeadOn items items before) (sym is) (leads-alike items items before before (changed f before ino.0) (leads-none items before) (like-unseen before f ino.0 law))

  -- it was moved
  pub stands : (dir : ℕ) (name : List ℕ) → after ≡ moved before ino.0 dir name → (node : Node) → map.get after.nodes ino.0 ≡ Some node → node.site ≡ Under (record { 0 = dir }) name
  stands dir name is node here = let from = changed_from (λ n. record n { site = Under (record { 0 = dir }) name }) is node here in ap (λ (n : Node). n.site) from.1

  pub leads-site : (dir : ℕ) (name : List ℕ) → after ≡ moved before ino.0 dir name → (node : Node) → map.get after.nodes ino.0 ≡ Some node → (d : Ino) (n : List ℕ) → node.site ≡ Under d n
      → LeadOn items (items ++ ViewChange.Moved ino d n ∷ []) before after
  leads-site dir name is node here d n site =
      let told : List ViewChange = items ++ ViewChange.Moved ino d n ∷ [] in
      subst (LeadOn items told before) (ap (λ (s : Site). changed (λ m. record m { site = s }) before ino.0) (sym site ∙ stands dir name is node here) ∙ sym is) (leads-more items before (ViewChange.Moved ino d n) (λ sessions. refl))

  -- it was made
  module _ (kind : Kind) (dir : ℕ) (name : List ℕ) (attr : Attr) (is : after ≡ with_new before kind dir name attr) (next : ino.0 ≡ before.last + 1) where
    pub born_there : map.get after.nodes ino.0 ≡ Some (new_node kind dir name attr)
    born_there =
        ap (λ (t : Nodes). map.get t.nodes ino.0) is ∙ ap (map.get (map.insert before.nodes (before.last + 1) (new_node kind dir name attr))) next
        ∙ insert-here nat_cmp_total map.nat_cmp-IsAntisymmetric before.nodes (before.last + 1) (new_node kind dir name attr)

    pub leads-birth : (node : Node) → map.get after.nodes ino.0 ≡ Some node → (d : Ino) (n : List ℕ) → node.site ≡ Under d n → (is_dir : Bool) → kind_by is_dir ≡ node.kind
        → LeadOn items (items ++ ViewChange.Born ino d n node.attr is_dir ∷ []) before after
    leads-birth node here d n site is_dir kinds =
        let told : List ViewChange = items ++ ViewChange.Born ino d n node.attr is_dir ∷ [] in
        let same : Some node ≡ Some (new_node kind dir name attr) = sym here ∙ born_there in
        let born : node ≡ new_node kind dir name attr = cc in
        let of_kind : kind_by is_dir ≡ kind = kinds ∙ ap (λ (m : Node). m.kind) born in
        let at : Under d n ≡ Under (record { 0 = dir }) name = sym site ∙ ap (λ (m : Node). m.site) born in
        let by : node.attr ≡ attr = ap (λ (m : Node). m.attr) born in
        let made : new_node (kind_by is_dir) d.0 n node.attr ≡ new_node kind dir name attr =
        λ i. record { kind = of_kind i; site = at i; attr = by i; size = 0; time = 0; attributes = map.empty; snapshots = set.empty } in
        let tree : tree_by before (ViewChange.Born ino d n node.attr is_dir) ≡ with_new before kind dir name attr =
        λ i. record { nodes = map.insert before.nodes (next i) (made i); last = next i } in
        subst (LeadOn items told before) (tree ∙ sym is) (leads-more items before (ViewChange.Born ino d n node.attr is_dir) (λ sessions. refl))

-- ---- what a client changed, or asked for

module _ (items : List ViewChange) (before after : Nodes) (ino : Ino) where
  -- its owner, group or mode, as they are now
  pub leads-set : (c : Change) → sets_attr c ≡ true → after ≡ tree_changed before ino.0 c → (more : List ViewChange)
      → ((f : Node → Node) → ((node : Node) → (f node).kind ≡ node.kind) → ((node : Node) → (f node).site ≡ node.site) → after ≡ changed f before ino.0 → LeadOn items more before after)
      → LeadOn items more before after
  leads-set c seen is more lead = grind arith

  -- anything else
  pub leads-not_set : (c : Change) → sets_attr c ≡ false → after ≡ tree_changed before ino.0 c → LeadOn items items before after
  leads-not_set c seen is = grind (arith, leads-unseen)

-- an inode that was unlinked, or removed, is a stray
pub leads-unlinked : (items : List ViewChange) (before after : Nodes) (q : Request) (o : Outcome) → o ≡ Done → (q.operation ≡ Unlink) ⊎ (q.operation ≡ Rmdir) → after ≡ tree_after before q o
    → LeadOn items (items ++ ViewChange.Removed q.ino ∷ []) before after
leads-unlinked items before after q o done asked is =
    subst (LeadOn items (items ++ ViewChange.Removed q.ino ∷ []) before) (sym (is ∙ ap (tree_after before q) done ∙ by asked)) (leads-more items before (ViewChange.Removed q.ino) (λ sessions. refl))
  where
    by : (q.operation ≡ Unlink) ⊎ (q.operation ≡ Rmdir) → tree_with before q.ino.0 q.operation ≡ unlinked before q.ino.0
    by (inl e) = ap (tree_with before q.ino.0) e
    by (inr e) = ap (tree_with before q.ino.0) e

-- ---- what a step noted in all

-- nothing, as nothing changed
pub changes-still : (items : List ViewChange) (seen : View) → items ≡ [] → AreChanges items seen seen
changes-still items seen none = subst (λ (told : List ViewChange). AreChanges told seen seen) (sym none) (changes-none seen)

-- nothing, as readers see nothing of what changed
pub changes-unseen : (items : List ViewChange) (old new : View) → items ≡ [] → Shows old new → AreChanges items old new
changes-unseen items old new none shows = changes-alike items old old new (changes-still items old none) shows

-- what leads on from nothing, while the sessions stay
pub changes-all : (none items : List ViewChange) (before after : Nodes) (sessions : SessionMap) → none ≡ [] → LeadOn none items before after → AreChanges items (view before sessions) (view after sessions)
changes-all none items before after sessions is leads = leads.on (view before sessions) sessions (changes-still none (view before sessions) is)

-- one change
pub changes-one : (none items : List ViewChange) (seen : View) (c : ViewChange) → none ≡ [] → items ≡ none ++ c ∷ [] → AreChanges items seen (view_by seen c)
changes-one none items seen c is more = subst (λ (told : List ViewChange). AreChanges told seen (view_by seen c)) (sym more) (changes-more none seen seen c (changes-still none seen is))
