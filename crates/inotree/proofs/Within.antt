-- What lies within an inode is what climbs to it, and the depth counts the names of the path.
use Rattle.std.proofs.Common.{◌≡◌, ℕ, zero, suc, ◌-◌, ◌≤◌, Bool, true, false, ◌||◌, ◌==◌, ◌↔◌, ◌⊎◌, inl, inr, List, [], ◌∷◌, length, reverse, Option, Some}
use Rattle.std.proofs.Common.{None, refl, sym, ap, subst, ◌∙◌, arith}
use Rattle.std.proofs.Math.Bool.{or-true}
use Rattle.std.proofs.lemmas.List.{length-reverse}
use Rattle.std.proofs.lemmas.Bool.{or_left, or_right}
use Rattle.inotree.specs.declared.node.Site.{Site}
use Rattle.inotree.specs.declared.node.Site.TheVariants.{Root, Stray, Under}
use Rattle.inotree.specs.declared.node.Presence.{Presence}
use Rattle.inotree.specs.declared.node.Presence.TheVariants.{Gone, Here, NoIno}
use Rattle.inotree.specs.Inodes.{InodeMap}
use Rattle.inotree.specs.Tree.{Climbs, IsTree, IsUnder, Nodes, depth, is_within, lies_below, names_up, path_at, path_of, presence, site_of, upward}
use Rattle.inotree.proofs.Shape.{one_dir, under_here}
use Rattle.inotree.proofs.Walks.{is_within-is, lies_below-none, lies_below-step, same_test, test_same}

-- a walk up that goes on stands somewhere
stands : (m : InodeMap) (i n above : ℕ) (s : Option Site) → site_of m i ≡ s → upward s false (λ dir name. lies_below n m dir above) ≡ true → (d : ℕ) × (a : List ℕ) × IsUnder m i d a × (lies_below n m d above ≡ true)
stands m i n above None is e = cc
stands m i n above (Some Root) is e = cc
stands m i n above (Some Stray) is e = cc
stands m i n above (Some (Under dir name)) is e = (dir.0, name, is, e)

here_or_up : (n : ℕ) (m : InodeMap) (i above : ℕ) → ((d : ℕ) → lies_below n m d above ≡ true → (up : List (List ℕ)) × Climbs m d up above)
    → (b : Bool) → (i == above) ≡ b → (b || upward (site_of m i) false (λ dir name. lies_below n m dir above)) ≡ true → (up : List (List ℕ)) × Climbs m i up above
here_or_up n m i above further true is s = ([], test_same i above is)
here_or_up n m i above further false is s =
    let at = stands m i n above (site_of m i) refl s in
    let more = further at.0 at.3 in
    (at.1 ∷ more.0, (at.0, at.2, more.1))

climb_of : (n : ℕ) (m : InodeMap) (i above : ℕ) → lies_below n m i above ≡ true → (up : List (List ℕ)) × Climbs m i up above
climb_of zero m i above e = ([], test_same i above (sym (lies_below-none m i above) ∙ e))
climb_of (suc n) m i above e =
    let less : suc n - 1 ≡ n = omega arith in
    let step = subst (λ k. ((i == above) || upward (site_of m i) false (λ dir name. lies_below k m dir above)) ≡ true) less (sym (lies_below-step (suc n) m i above (omega arith)) ∙ e) in
    here_or_up n m i above (λ d. climb_of n m d above) (i == above) refl step

below_of : (up : List (List ℕ)) (n : ℕ) (m : InodeMap) (i above : ℕ) → length up ≤ n → Climbs m i up above → lies_below n m i above ≡ true
below_of [] zero m i above fits c = lies_below-none m i above ∙ same_test i above c
below_of [] (suc n) m i above fits c = lies_below-step (suc n) m i above (omega arith) ∙ or_left (i == above) _ (same_test i above c)
below_of (a ∷ up) n m i above fits c =
    lies_below-step n m i above (omega arith) ∙ ap (λ s. (i == above) || upward s false (λ dir name. lies_below (n - 1) m dir above)) c.1
    ∙ ap (λ b. (i == above) || b) (below_of up (n - 1) m c.0 above (omega arith) c.2) ∙ or-true (i == above)

-- no climb goes beyond the root
no_longer : (m : InodeMap) (up full : List (List ℕ)) (i above : ℕ) → site_of m 1 ≡ Some Root → Climbs m i up above → Climbs m i full 1 → length up ≤ length full
no_longer m [] full i above root c t = omega arith
no_longer m (a ∷ up) [] i above root c t = let site : site_of m i ≡ Some Root = subst (λ k. site_of m k ≡ Some Root) (sym t) root in let u = c.1 in cc
no_longer m (a ∷ up) (b ∷ full) i above root c t =
    let same : c.0 ≡ t.0 = one_dir m i c.0 t.0 a b c.1 t.1 in
    let rest : length up ≤ length full = no_longer m up full c.0 above root c.2 (subst (λ d. Climbs m d full 1) (sym same) t.2) in
    omega (arith, rest)

-- nor is any longer than a path may be
pub climb_fits : (t : Nodes) → IsTree t → (up : List (List ℕ)) (i above : ℕ) → Climbs t.nodes i up above → length up ≤ 32
climb_fits t tree [] i above c = omega arith
climb_fits t tree (a ∷ up) i above c =
    let full = tree.to_root i (under_here t.nodes i c.0 a c.1) in
    let short : length (a ∷ up) ≤ length full.0 = no_longer t.nodes (a ∷ up) full.0 i above tree.root c full.2 in
    omega (arith, short, full.1)

pub within-climbs : (t : Nodes) (i above : ℕ) → IsTree t → (is_within t.nodes i above ≡ true) ↔ ((up : List (List ℕ)) × Climbs t.nodes i up above)
within-climbs t i above tree = (
  λ e. climb_of 32 t.nodes i above (sym (is_within-is t.nodes i above) ∙ e),
  λ c. is_within-is t.nodes i above ∙ below_of c.0 32 t.nodes i above (climb_fits t tree c.0 i above c.1) c.1,
)

names_of : (p : Presence) (up names : List (List ℕ)) → path_at p up ≡ Some names → reverse up ≡ names
names_of NoIno up names e = cc
names_of Gone up names e = cc
names_of Here up names e = cc

pub depth-path : (m : InodeMap) (i : ℕ) (names : List (List ℕ)) → path_of m i ≡ Some names → depth m i ≡ length names
unfolding depth path_of
depth-path m i names e = sym (length-reverse (names_up 32 m i)) ∙ ap length (names_of (presence m i) (names_up 32 m i) names e)

-- Each inode that stands somewhere stood there before, or is one of some that may have moved.
module _ (m n : InodeMap) (P : ℕ → Type 0) (was : (i d : ℕ) (a : List ℕ) → IsUnder n i d a → IsUnder m i d a ⊎ P i) where
  -- it lay below before, or at or below one of those
  abbrev Lay : ℕ → ℕ → ℕ → Type 0
  Lay c i top = (lies_below c m i top ≡ true) ⊎ ((j : ℕ) × P j × (lies_below c m i j ≡ true))

  below_here : (c i top : ℕ) → (i == top) ≡ true → lies_below (suc c) m i top ≡ true
  unfolding lies_below
  below_here c i top is = or_left (i == top) _ is

  below_next : (c i d top : ℕ) (a : List ℕ) → IsUnder m i d a → lies_below c m d top ≡ true → lies_below (suc c) m i top ≡ true
  unfolding lies_below
  below_next c i d top a under below = ap (λ s. (i == top) || upward s false (λ dir name. lies_below c m dir top)) under ∙ or_right (i == top) (lies_below c m d top) below

  lay_up : (c i top : ℕ) → ((d : ℕ) → lies_below c n d top ≡ true → Lay c d top)
      → (b : Bool) → (i == top) ≡ b → (b || upward (site_of n i) false (λ dir name. lies_below c n dir top)) ≡ true → Lay (suc c) i top
  lay_up c i top further true is below = inl (below_here c i top is)
  lay_up c i top further false is below =
      let up = stands n i c top (site_of n i) refl below in
      elim (was i up.0 up.1 up.2) [
        | inl under ↦ elim (further up.0 up.3) [
          | inl lay ↦ inl (below_next c i up.0 top up.1 under lay)
          | inr found ↦ inr (found.0, found.1, below_next c i up.0 found.0 up.1 under found.2)
        ]
        | inr moves ↦ inr (i, moves, below_here c i i (same_test i i refl))
      ]

  -- so it is of all that lies below another now
  pub below-split : (c i top : ℕ) → lies_below c n i top ≡ true → Lay c i top
  unfolding lies_below
  below-split zero i top below = inl below
  below-split (suc c) i top below = lay_up c i top (λ d. below-split c d top) (i == top) refl below
