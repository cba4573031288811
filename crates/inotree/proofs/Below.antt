-- What lies below an inode: a walk down is a climb back up, and a child is what stands under its name.
use Rattle.std.proofs.Common.{◌≡◌, ℕ, zero, suc, ◌+◌, ◌-◌, ◌<◌, ◌≤◌, true, false, ◌&&◌, ◌↔◌, List, [], ◌∷◌, ◌++◌, length, Some, inl, inr, refl, sym, ap, subst}
use Rattle.std.proofs.Common.{◌∙◌, length-append, arith}
use Rattle.std.specs.Cmp.{nat_cmp_total}
use Rattle.std.proofs.lemmas.Bool.{cases_lt}
use Rattle.std.specs.FinMap as map
use Rattle.std.specs.Option.{option_map}
use Rattle.inotree.specs.declared.node.Node.{Node}
use Rattle.inotree.specs.Inodes.{InodeMap}
use Rattle.inotree.specs.Tree.{Climbs, IsChildless, IsTree, IsUnder, Nodes, child, depth, descends, is_at, is_in}
use Rattle.capbits.proofs.Found.{and_true, any_found, any_some, both_true, found}
use Rattle.inotree.proofs.Leading.{child-is}
use Rattle.inotree.proofs.Named.{at_under, first_some, in_under, node_of}
use Rattle.inotree.proofs.Shape.{climb_on}
use Rattle.inotree.proofs.Walks.{same_test}

pub child-stands : (t : Nodes) (i d : ℕ) (a : List ℕ) → IsTree t → (child t.nodes d a ≡ Some i) ↔ IsUnder t.nodes i d a
child-stands t i d a tree = (
  λ c.
      let f = first_some t.nodes (λ n. is_at d a n.site) (map.entries t.nodes) i (found nat_cmp_total map.nat_cmp-IsAntisymmetric t.nodes) c in
      ap (option_map (λ (n : Node). n.site)) f.1 ∙ ap Some (at_under d a f.0.site f.2),
  λ u. child-is t tree i d a u,
)

module _ (m : InodeMap) where
  -- a walk down ends at an inode that climbs back by as many names
  climb_back : (n i : ℕ) → descends n m i ≡ true → (below : ℕ) × (up : List (List ℕ)) × Climbs m below up i × (length up ≡ n)
  unfolding descends
  climb_back zero i e = (i, [], refl, refl)
  climb_back (suc n) i e =
      let at = any_some (λ (e : ℕ × Node). is_in i e.1.site && descends n m e.0) (map.entries m) (found nat_cmp_total map.nat_cmp-IsAntisymmetric m) e in
      let parts = both_true _ _ at.2 in
      let s = in_under i at.0.1.site parts.0 in
      let u : IsUnder m at.0.0 i s.0 = ap (option_map (λ (n : Node). n.site)) at.1 ∙ ap Some s.1 in
      let rest = climb_back n at.0.0 parts.1 in
      let same : length rest.1 ≡ n = rest.3 in
      let long : length (rest.1 ++ s.0 ∷ []) ≡ suc n = omega (arith, length-append rest.1 (s.0 ∷ [])) in
      (rest.0, rest.1 ++ s.0 ∷ [], climb_on m rest.0 rest.1 at.0.0 (s.0 ∷ []) i rest.2 (i, u, refl), long)

  -- nothing is reached below an inode in which none stands
  no_step : (k below : ℕ) (up : List (List ℕ)) → IsChildless m k → Climbs m below up k → length up ≡ 1 → ⊥
  no_step k below [] childless climb one = absurd (omega (arith, one))
  no_step k below (a ∷ []) childless climb one = childless below a (subst (λ d. IsUnder m below d a) climb.2 climb.1)
  no_step k below (a ∷ b ∷ up) childless climb one = absurd (omega (arith, one))

  pub childless-descends : (k : ℕ) → IsChildless m k → descends 1 m k ≡ false
  childless-descends k childless = elim (descends 1 m k) as (λ b. descends 1 m k ≡ b → b ≡ false) [
    | true ↦ λ e. let r = climb_back 1 k e in absurd (no_step k r.0 r.1 childless r.2 r.3)
    | false ↦ λ e. refl
  ] refl

  one_more : (n i d : ℕ) (a : List ℕ) → IsUnder m i d a → descends n m i ≡ true → descends (suc n) m d ≡ true
  unfolding descends
  one_more n i d a u r =
      let node = node_of m i _ u in
      any_found nat_cmp_total map.nat_cmp-IsAntisymmetric (λ e. is_in d e.1.site && descends n m e.0) m i node.0 node.1 (and_true _ _ (ap (is_in d) node.2 ∙ same_test d d refl) r)

  none_more : (n i : ℕ) → n ≡ 0 → descends n m i ≡ true
  unfolding descends
  none_more n i e = subst (λ k. descends k m i ≡ true) (sym e) refl

  -- what lies below the foot of a climb lies below its top
  root_climb : (up : List (List ℕ)) (n i top : ℕ) → Climbs m i up top → descends n m i ≡ true → descends (n + length up) m top ≡ true
  root_climb [] n i top c r =
      let same : n ≡ n + 0 = omega arith in
      subst (λ k. descends k m top ≡ true) same (subst (λ j. descends n m j ≡ true) c r)
  root_climb (a ∷ up) n i top c r =
      let same : suc n + length up ≡ n + length (a ∷ up) = omega arith in
      subst (λ k. descends k m top ≡ true) same (root_climb up (suc n) c.0 top c.2 (one_more n i c.0 a c.1 r))

  -- a climb has each shorter walk down
  walk_down : (up : List (List ℕ)) (n i top : ℕ) → n ≤ length up → Climbs m i up top → descends n m top ≡ true
  walk_down [] n i top fits c = none_more n top (omega arith)
  walk_down (a ∷ up) n i top fits c = elim (cases_lt (length up) n) [
    | inl whole ↦ let same : 0 + length (a ∷ up) ≡ n = omega arith in
        subst (λ k. descends k m top ≡ true) same (root_climb (a ∷ up) 0 i top c (none_more 0 i refl))
    | inr less ↦ walk_down up n c.0 top less c.2
  ]

pub deep-climbs : (m : InodeMap) (i d : ℕ) → (descends (32 - depth m d) m i ≡ true) ↔ ((below : ℕ) × (up : List (List ℕ)) × Climbs m below up i × (32 < depth m d + 1 + length up))
deep-climbs m i d = (
  λ e.
      let r = climb_back m (32 - depth m d) i e in
      let long : length r.1 ≡ 32 - depth m d = r.3 in
      (r.0, r.1, r.2, omega arith),
  λ c.
      let far : 32 < depth m d + 1 + length c.1 = c.3 in
      walk_down m c.1 (32 - depth m d) c.0 i (omega arith) c.2,
)
