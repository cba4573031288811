-- The path of an inode leads back to it.
use Rattle.std.proofs.Common.{◌≡◌, ℕ, true, false, List, [], ◌∷◌, reverse, Option, Some, None, refl, sym, ap, ◌∙◌}
use mathlib.Core.List.{reverse_aux}
use Rattle.std.specs.Cmp.{nat_cmp_total}
use Rattle.std.specs.FinMap as map
use Rattle.std.specs.List.{list_any}
use Rattle.std.specs.Option.{option_map}
use Rattle.inotree.specs.declared.node.Node.{Node}
use Rattle.inotree.specs.declared.node.Presence.{Presence}
use Rattle.inotree.specs.declared.node.Presence.TheVariants.{Gone, Here, NoIno}
use Rattle.inotree.specs.Tree.{Climbs, IsTree, IsUnder, Nodes, child, follow, is_at, names_up, path_at, path_of, presence}
use Rattle.capbits.proofs.Found.{any_found, found}
use Rattle.inotree.proofs.Growing.{climb-names}
use Rattle.inotree.proofs.Named.{at_under, first_none, first_some, node_of, under_at}

module _ (t : Nodes) (tree : IsTree t) where
  pub child-is : (i d : ℕ) (a : List ℕ) → IsUnder t.nodes i d a → child t.nodes d a ≡ Some i
  child-is i d a u = go (child t.nodes d a) refl where
    go : (o : Option ℕ) → child t.nodes d a ≡ o → o ≡ Some i
    go (Some j) c =
        let f = first_some t.nodes (λ n. is_at d a n.site) (map.entries t.nodes) j (found nat_cmp_total map.nat_cmp-IsAntisymmetric t.nodes) c in
        let v : IsUnder t.nodes j d a = ap (option_map (λ (n : Node). n.site)) f.1 ∙ ap Some (at_under d a f.0.site f.2) in
        ap Some (tree.siblings j i d a v u)
    go None c =
        let n = node_of t.nodes i _ u in
        let none : list_any (λ (e : ℕ × Node). is_at d a e.1.site) (map.entries t.nodes) ≡ false = first_none (λ n. is_at d a n.site) (map.entries t.nodes) c in
        let some : list_any (λ (e : ℕ × Node). is_at d a e.1.site) (map.entries t.nodes) ≡ true = any_found nat_cmp_total map.nat_cmp-IsAntisymmetric (λ e. is_at d a e.1.site) t.nodes i n.0 n.1 (ap (is_at d a) n.2 ∙ under_at d a) in
        cc

  follow-climb : (up acc : List (List ℕ)) (i top : ℕ) → Climbs t.nodes i up top → follow t.nodes (Some top) (reverse_aux up acc) ≡ follow t.nodes (Some i) acc
  follow-climb [] acc i top c = ap (λ k. follow t.nodes (Some k) acc) (sym c)
  follow-climb (a ∷ up) acc i top c = follow-climb up (a ∷ acc) c.0 top c.2 ∙ ap (λ o. follow t.nodes o acc) (child-is i c.0 a c.1)

  at_here : (i : ℕ) (p : Presence) (up names : List (List ℕ)) → path_at p up ≡ Some names → (p ≡ Here) × (reverse up ≡ names)
  at_here i NoIno up names e = cc
  at_here i Gone up names e = cc
  at_here i Here up names e = (refl, cc)

  pub path_leads : (i : ℕ) (names : List (List ℕ)) → path_of t.nodes i ≡ Some names → follow t.nodes (Some 1) names ≡ Some i
  unfolding path_of
  path_leads i names e =
      let h = at_here i (presence t.nodes i) (names_up 32 t.nodes i) names e in
      let r = tree.to_root i h.0 in
      let up : names_up 32 t.nodes i ≡ r.0 = climb-names t.nodes r.0 i 32 tree.root r.1 r.2 in
      ap (follow t.nodes (Some 1)) (sym h.1 ∙ ap reverse up) ∙ follow-climb r.0 [] i 1 r.2
