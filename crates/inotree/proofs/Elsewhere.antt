-- A change of the tree leaves the paths of inodes that it does not affect, and whose they are.
use Rattle.std.proofs.Common.{◌≡◌, ℕ, zero, suc, ◌+◌, true, List, [], ◌∷◌, Option, Some, None, inl, inr, refl, sym, ap, subst, ◌∙◌, arith}
use Rattle.std.specs.Cmp.{nat_cmp_total}
use Rattle.std.specs.FinMap as map
use Rattle.std.specs.Option.{option_map, option_map_or}
use Rattle.capgrant.specs.declared.access.Attr.{Attr}
use Rattle.inotree.specs.declared.node.Kind.{Kind}
use Rattle.inotree.specs.declared.node.Node.{Node}
use Rattle.inotree.specs.declared.node.Presence.TheVariants.{Gone, Here, NoIno}
use Rattle.inotree.specs.declared.node.Site.{Site}
use Rattle.inotree.specs.declared.node.Site.TheVariants.{Root, Stray, Under}
use Rattle.capbits.specs.Maps.{change_at}
use Rattle.inotree.specs.Inodes.{InodeMap}
use Rattle.inotree.specs.Tree.{IsTree, IsUnder, Nodes, names_up, path_at, path_of, presence, presence_at, site_of, upward}
use Rattle.inotree.specs.Calls.{changed, forgotten, new_node, with_new}
use Rattle.inotree.specs.Alike.{IsAlike}
use Rattle.capbits.proofs.Maps.{insert-here, insert-other, remove-other}
use Rattle.inotree.proofs.Shape.{same_ino}

-- Some inodes stand where they stood, and so does all above them.
module _ (m n : InodeMap) (P : ℕ → Type 0) (same : (i : ℕ) → P i → site_of n i ≡ site_of m i) (above : (i d : ℕ) (a : List ℕ) → P i → IsUnder m i d a → P d) where
  step : (k i : ℕ) → ((d : ℕ) → P d → names_up k n d ≡ names_up k m d) → P i → (s : Option Site) → site_of m i ≡ s
      → upward s [] (λ dir name. name ∷ names_up k n dir) ≡ upward s [] (λ dir name. name ∷ names_up k m dir)
  step k i rest kept None is = refl
  step k i rest kept (Some Root) is = refl
  step k i rest kept (Some Stray) is = refl
  step k i rest kept (Some (Under dir name)) is = ap (λ names. name ∷ names) (rest dir.0 (above i dir.0 name kept is))

  names_up-stays : (k i : ℕ) → P i → names_up k n i ≡ names_up k m i
  unfolding names_up
  names_up-stays zero i kept = refl
  names_up-stays (suc k) i kept = ap (λ s. upward s [] (λ dir name. name ∷ names_up k n dir)) (same i kept) ∙ step k i (names_up-stays k) kept (site_of m i) refl

  pub path_of-stays : (i : ℕ) → P i → path_of n i ≡ path_of m i
  unfolding path_of
  path_of-stays i kept = ap (λ s. path_at (presence_at s) (names_up 32 n i)) (same i kept) ∙ ap (path_at (presence m i)) (names_up-stays 32 i kept)

-- ---- one inode changes, and stays where it stands

-- a field that does not change is that of before, at each inode
pub field-changed : {A : Type 0} (f : Node → Node) (field : Node → A) → ((x : Node) → field (f x) ≡ field x) → (m : InodeMap) (k i : ℕ)
    → option_map field (map.get (change_at f m k) i) ≡ option_map field (map.get m i)
field-changed {A} f field same m k i = by_old (map.get m k) refl
  where
    by_old : (o : Option Node) → map.get m k ≡ o → option_map field (map.get (option_map_or (λ x. map.insert m k (f x)) o m) i) ≡ option_map field (map.get m i)
    by_old None is = refl
    by_old (Some x) is = elim (same_ino i k) [
      | inl here ↦ subst (λ j. option_map field (map.get (map.insert m k (f x)) j) ≡ option_map field (map.get m j)) (sym here)
          (ap (option_map field) (insert-here nat_cmp_total map.nat_cmp-IsAntisymmetric m k (f x)) ∙ ap Some (same x) ∙ sym (ap (option_map field) is))
      | inr off ↦ ap (option_map field) (insert-other nat_cmp_total map.nat_cmp-IsAntisymmetric m k (f x) i off)
    ]

pub alike-changed : (tree : Nodes) (f : Node → Node) (k : ℕ) → ((x : Node) → (f x).site ≡ x.site) → ((x : Node) → (f x).attr ≡ x.attr) → (ino : ℕ) → IsAlike tree (changed f tree k) ino
alike-changed tree f k site attr ino = record {
  path = path_of-stays tree.nodes (change_at f tree.nodes k) (λ i. Unit {0}) (λ i kept. field-changed f (λ n. n.site) site tree.nodes k i) (λ i d a kept under. tt) ino tt;
  attr = field-changed f (λ n. n.attr) attr tree.nodes k ino;
}

-- ---- one inode comes or goes, in which none stands

pub alike-other : (old new : Nodes) (k : ℕ) → ((i : ℕ) → (i ≡ k → ⊥) → map.get new.nodes i ≡ map.get old.nodes i) → ((i : ℕ) (a : List ℕ) → IsUnder old.nodes i k a → ⊥)
    → (ino : ℕ) → (ino ≡ k → ⊥) → IsAlike old new ino
alike-other old new k other empty ino off = record {
  path = path_of-stays old.nodes new.nodes (λ i. i ≡ k → ⊥) (λ i off. ap (option_map (λ (n : Node). n.site)) (other i off))
      (λ i d a off under is. empty i a (subst (λ x. IsUnder old.nodes i x a) is under)) ino off;
  attr = ap (option_map (λ (n : Node). n.attr)) (other ino off);
}

pub alike-new : (tree : Nodes) (kind : Kind) (dir : ℕ) (name : List ℕ) (attr : Attr) (ino : ℕ) → IsTree tree → (ino ≡ tree.last + 1 → ⊥) → IsAlike tree (with_new tree kind dir name attr) ino
alike-new tree kind dir name attr ino sound off =
    alike-other tree (with_new tree kind dir name attr) (tree.last + 1)
    (insert-other nat_cmp_total map.nat_cmp-IsAntisymmetric tree.nodes (tree.last + 1) (new_node kind dir name attr))
    (λ i a under.
    let here : presence tree.nodes (tree.last + 1) ≡ Here = (sound.parents i (tree.last + 1) a under).1 in
    let none : presence tree.nodes (tree.last + 1) ≡ NoIno = ap (λ o. presence_at (option_map (λ (n : Node). n.site) o)) (sound.given (tree.last + 1) (omega arith)) in cc)
    ino off

pub alike-forgotten : (tree : Nodes) (k ino : ℕ) → IsTree tree → presence tree.nodes k ≡ Gone → (ino ≡ k → ⊥) → IsAlike tree (forgotten tree k) ino
alike-forgotten tree k ino sound gone off =
    alike-other tree (forgotten tree k) k (remove-other nat_cmp_total map.nat_cmp-IsAntisymmetric tree.nodes k)
    (λ i a under. let here : presence tree.nodes k ≡ Here = (sound.parents i k a under).1 in cc)
    ino off

-- an inode that is there does not have the next number
pub not_next : (tree : Nodes) (ino : ℕ) → IsTree tree → map.contains_key tree.nodes ino ≡ true → ino ≡ tree.last + 1 → ⊥
not_next tree ino sound there is = let none : map.get tree.nodes ino ≡ None = sound.given ino (omega (arith, is)) in cc
