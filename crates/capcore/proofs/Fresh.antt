-- A tree that has its root alone has no stray.
use Rattle.std.proofs.Common.{◌≡◌, Bool, true, false, cond, Some, sym, ap, subst, ◌∙◌}
use Rattle.std.specs.Cmp.{nat_cmp_total}
use Rattle.std.specs.Option.{option_map}
use Rattle.std.specs.Ordering.{eq_by_cmp, nat_cmp}
use Rattle.std.specs.FinMap as map
use Rattle.std.specs.FinSet as set
use Rattle.inotree.specs.Calls.{first_tree}
use Rattle.inotree.specs.Inodes.{InodeMap}
use Rattle.inotree.specs.Tree.{presence_at}
use Rattle.inotree.specs.declared.node.Presence.TheVariants.{Gone}
use Rattle.inotree.specs.declared.node.Site.TheVariants.{Root}
use Rattle.capcore.proofs.Common.{Attr, Directory, HasNoStray, Node, Nodes}

no_stray : (attr : Attr) → HasNoStray (first_tree attr)
no_stray attr q gone = by_test (eq_by_cmp nat_cmp q 1) (ap (λ o. presence_at (option_map (λ n. n.site) o)) (sym (map.get-insert nat_cmp_total none 1 root q)) ∙ gone)
  where
    none : InodeMap
    none = map.empty

    root : Node
    root = record { kind = Directory; site = Root; attr = attr; size = 0; time = 0; attributes = map.empty; snapshots = set.empty }

    by_test : (b : Bool) → presence_at (option_map (λ n. n.site) (cond b (Some root) (map.get none q))) ≡ Gone → ⊥
    by_test true is = cc
    by_test false is = let e = ap (λ o. presence_at (option_map (λ n. n.site) o)) (sym (map.get-empty _ q)) ∙ is in cc

pub has_no_stray : (attr : Attr) (tree : Nodes) → tree ≡ first_tree attr → HasNoStray tree
has_no_stray attr tree is = subst HasNoStray (sym is) (no_stray attr)
