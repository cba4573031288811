-- A move leaves what is not below the inode that moves, and what every tree keeps.
use Rattle.std.proofs.Common.{◌≡◌, ℕ, zero, suc, ◌-◌, true, false, ◌⊎◌, inl, inr, List, [], ◌∷◌, Option, Some, None, refl, sym, subst, ap, ◌∙◌, arith}
use Rattle.std.specs.Cmp.{nat_cmp_total}
use Rattle.std.specs.FinMap as map
use Rattle.std.specs.Option.{option_map, option_map_or}
use Rattle.capbits.specs.Maps.{change_at}
use Rattle.capbits.specs.Refusal.{first_failing}
use Rattle.inotree.specs.declared.node.Node.{Node}
use Rattle.inotree.specs.declared.node.Site.{Site}
use Rattle.inotree.specs.declared.node.Site.TheVariants.{Root, Stray, Under}
use Rattle.inotree.specs.Inodes.{InodeMap, with_site}
use Rattle.inotree.specs.Tree.{IsTree, IsUnder, Nodes, is_within, lies_below, names_up, path_at, path_of, presence, presence_at, site_of, upward}
use Rattle.inotree.specs.Calls.{changed, moved}
use Rattle.inotree.specs.Alike.{IsAlike}
use Rattle.inotree.specs.Tests.{rename_tests}
use Rattle.inotree.proofs.Changes.{moves}
use Rattle.inotree.proofs.Growing.{off_here, off_next}
use Rattle.inotree.proofs.Leading.{child-is}
use Rattle.inotree.proofs.OneInode.{get-changed, presence-other}
use Rattle.inotree.proofs.Passing.{passed-rename, slot_site}
use Rattle.inotree.proofs.Shape.{same_ino}
use Rattle.inotree.proofs.Within.{below-split}
use Rattle.capbits.proofs.Maps.{insert-here, insert-other}

-- The site of one inode changes, and no other.
module _ (m n : InodeMap) (k : ℕ) (other : (i : ℕ) → (i ≡ k → ⊥) → site_of n i ≡ site_of m i) where
  step : (c i : ℕ) → ((d : ℕ) (a : List ℕ) → IsUnder m i d a → names_up c n d ≡ names_up c m d) → (s : Option Site) → site_of m i ≡ s
      → upward s [] (λ dir name. name ∷ names_up c n dir) ≡ upward s [] (λ dir name. name ∷ names_up c m dir)
  step c i rest None is = refl
  step c i rest (Some Root) is = refl
  step c i rest (Some Stray) is = refl
  step c i rest (Some (Under dir name)) is = ap (λ names. name ∷ names) (rest dir.0 name is)

  -- the walk up from what is not below the inode does not meet it
  names_up-off : (c i : ℕ) → lies_below c m i k ≡ false → names_up c n i ≡ names_up c m i
  unfolding names_up
  names_up-off zero i out = refl
  names_up-off (suc c) i out =
      let less : suc c - 1 ≡ c = omega arith in
      ap (λ s. upward s [] (λ dir name. name ∷ names_up c n dir)) (other i (off_here (suc c) m i k out))
      ∙ step c i (λ d a under. names_up-off c d (subst (λ j. lies_below j m d k ≡ false) less (off_next (suc c) m i k d a (omega arith) out under))) (site_of m i) refl

  path-off : (i : ℕ) → is_within m i k ≡ false → path_of n i ≡ path_of m i
  unfolding path_of is_within
  path-off i out = ap (λ s. path_at (presence_at s) (names_up 32 n i)) (other i (off_here 32 m i k out)) ∙ ap (path_at (presence m i)) (names_up-off 32 i out)

pub moved-alike : (tree : Nodes) (ino dir : ℕ) (name : List ℕ) (other : ℕ) → is_within tree.nodes other ino ≡ false → IsAlike tree (moved tree ino dir name) other
unfolding is_within
moved-alike tree ino dir name other out = record {
  path = path-off tree.nodes (moved tree ino dir name).nodes ino (λ i off. ap (option_map (λ (n : Node). n.site)) (get-changed (with_site (Under (record { 0 = dir }) name)) tree.nodes ino i off)) other out;
  attr = ap (option_map (λ (n : Node). n.attr)) (get-changed (with_site (Under (record { 0 = dir }) name)) tree.nodes ino other (off_here 32 tree.nodes other ino out));
}

pub moved-presences : (tree : Nodes) (ino dir : ℕ) (name : List ℕ) (other : ℕ) → (other ≡ ino → ⊥) → presence (moved tree ino dir name).nodes other ≡ presence tree.nodes other
moved-presences tree ino dir name other off = presence-other tree (with_site (Under (record { 0 = dir }) name)) ino other off

pub moved-tree : (tree : Nodes) (ino dir : ℕ) (name : List ℕ) → IsTree tree → first_failing (rename_tests tree ino dir name) ≡ None → IsTree (moved tree ino dir name)
moved-tree tree ino dir name sound passing =
    let passed = passed-rename tree ino dir name passing in
    let under : IsUnder tree.nodes ino passed.0.0.dir passed.0.0.name = slot_site (site_of tree.nodes ino) passed.0.0 passed.0.1 in
    let free : (j : ℕ) → IsUnder tree.nodes j dir name → ⊥ = λ j u. let found = child-is tree sound j dir name u in let none = passed.1.free in cc in
    (moves tree.nodes tree.last ino dir passed.0.0.dir name passed.0.0.name sound under passed.1.kind passed.1.here passed.1.good free passed.2 passed.3).0

-- what lies below another behind a move did so before, or lay at or below the inode that moved
pub moved-within : (tree : Nodes) (ino dir : ℕ) (name : List ℕ) (other above : ℕ) → is_within (moved tree ino dir name).nodes other above ≡ true
    → (is_within tree.nodes other above ≡ true) ⊎ (is_within tree.nodes other ino ≡ true)
unfolding is_within
moved-within tree ino dir name other above below = elim (below-split tree.nodes (moved tree ino dir name).nodes (λ i. i ≡ ino) was 32 other above below) [
  | inl lay ↦ inl lay
  | inr found ↦ inr (subst (λ i. lies_below 32 tree.nodes other i ≡ true) found.1 found.2)
]
  where
    was : (i d : ℕ) (a : List ℕ) → IsUnder (moved tree ino dir name).nodes i d a → IsUnder tree.nodes i d a ⊎ (i ≡ ino)
    was i d a under = elim (same_ino i ino) [
      | inl same ↦ inr same
      | inr off ↦ inl (sym (ap (option_map (λ (n : Node). n.site)) (get-changed (with_site (Under (record { 0 = dir }) name)) tree.nodes ino i off)) ∙ under)
    ]

-- behind a change by which an inode stays where it stands or becomes a stray, nothing comes below another
module _ (f : Node → Node) (stays : (x : Node) → ((f x).site ≡ x.site) ⊎ ((f x).site ≡ Stray)) where
  stood : (m : InodeMap) (k i d : ℕ) (a : List ℕ) → IsUnder (change_at f m k) i d a → IsUnder m i d a
  stood m k i d a = by_old (map.get m k) refl
    where
      by_old : (o : Option Node) → map.get m k ≡ o → IsUnder (option_map_or (λ x. map.insert m k (f x)) o m) i d a → IsUnder m i d a
      by_old None is under = under
      by_old (Some x) is under = elim (same_ino i k) [
        | inr off ↦ sym (ap (option_map (λ (n : Node). n.site)) (insert-other nat_cmp_total map.nat_cmp-IsAntisymmetric m k (f x) i off)) ∙ under
        | inl here ↦
            let now : Some (f x).site ≡ Some (Under (record { 0 = d }) a) =
            sym (ap (option_map (λ (n : Node). n.site)) (insert-here nat_cmp_total map.nat_cmp-IsAntisymmetric m k (f x))) ∙ subst (λ j. IsUnder (map.insert m k (f x)) j d a) here under in
            elim (stays x) [
              | inl same ↦ subst (λ j. IsUnder m j d a) (sym here) (ap (option_map (λ (n : Node). n.site)) is ∙ sym (ap Some same) ∙ now)
              | inr stray ↦ absurd (cc)
            ]
      ]

  pub changed-within : (tree : Nodes) (ino other above : ℕ) → is_within (changed f tree ino).nodes other above ≡ true → is_within tree.nodes other above ≡ true
  unfolding is_within
  changed-within tree ino other above below = elim (below-split tree.nodes (changed f tree ino).nodes (λ _. ⊥) (λ i d a under. inl (stood tree.nodes ino i d a under)) 32 other above below) [
    | inl lay ↦ lay
    | inr found ↦ absurd found.1
  ]
