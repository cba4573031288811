-- Each directory stays higher than what stands in it, and so no way down is longer than its height.
use Rattle.std.proofs.Common.{◌≡◌, ℕ, ◌+◌, zero, suc, ◌<◌, ◌≤◌, true, ◌&&◌, ◌==◌, List, [], ◌∷◌, length, Option, Some, None, inl, inr, refl, sym, ap, subst}
use Rattle.std.proofs.Common.{◌∙◌, arith}
use Rattle.std.specs.Prelude.{if◌then◌else◌, unwrap_or}
use Rattle.std.specs.Cmp.{nat_cmp_total}
use Rattle.std.specs.FinMap as map
use Rattle.capbits.specs.Maps.{change_at}
use Rattle.inotree.specs.declared.index.Slot.{Slot}
use Rattle.inotree.specs.declared.node.Site.{Site}
use Rattle.inotree.specs.declared.node.Site.TheVariants.{Root, Stray, Under}
use Rattle.inotree.specs.Inodes.{InodeMap}
use Rattle.inotree.specs.Index.{NameIndex, index_descends}
use Rattle.inotree.specs.Heights.{AreBounds, HeightMap, HeightsRise, HeightsRiseBut, IsHigher, SameBut, bound, height}
use Rattle.inotree.specs.Tree.{Climbs, IsChildless, IsIndexed, IsTree, IsUnder, Nodes, dir_at, is_directory, is_directory_kind, kind_of, parent, site_of}
use Rattle.capbits.proofs.Found.{any-filter, any_some, both_true, found}
use Rattle.capbits.proofs.Maps.{change-is, change-none, insert-here, insert-other, remove-other}
use Rattle.inotree.proofs.Shape.{one_dir, same_ino}
use Rattle.inotree.proofs.Slots.{slot_same, slot_total}
use Rattle.inotree.proofs.Walks.{test_same}

-- ---- what is kept of one directory

set_here : (heights : HeightMap) (dir v : ℕ) → bound heights dir < 32 → bound (change_at (λ _. v) heights dir) dir ≡ v
set_here heights dir v low = go (map.get heights dir) refl where
  go : (o : Option ℕ) → map.get heights dir ≡ o → bound (change_at (λ _. v) heights dir) dir ≡ v
  go None none = let is : bound heights dir ≡ 32 = ap (λ o. unwrap_or o 32) none in absurd (omega (arith, is, low))
  go (Some x) here = ap (λ h. bound h dir) (change-is nat_cmp_total map.nat_cmp-IsAntisymmetric heights dir (λ _. v) x here) ∙ ap (λ o. unwrap_or o 32) (insert-here nat_cmp_total map.nat_cmp-IsAntisymmetric heights dir v)

set_other : (heights : HeightMap) (dir v : ℕ) → SameBut dir heights (change_at (λ _. v) heights dir)
set_other heights dir v other off = go (map.get heights dir) refl where
  go : (o : Option ℕ) → map.get heights dir ≡ o → bound (change_at (λ _. v) heights dir) other ≡ bound heights other
  go None none = ap (λ h. bound h other) (change-none nat_cmp_total map.nat_cmp-IsAntisymmetric heights dir (λ _. v) none)
  go (Some x) here = ap (λ h. bound h other) (change-is nat_cmp_total map.nat_cmp-IsAntisymmetric heights dir (λ _. v) x here) ∙ ap (λ o. unwrap_or o 32) (insert-other nat_cmp_total map.nat_cmp-IsAntisymmetric heights dir v other off)

pub removed_same : (heights gone : HeightMap) (dir : ℕ) → gone ≡ map.remove heights dir → SameBut dir heights gone
removed_same heights gone dir is other off = ap (λ h. bound h other) is ∙ ap (λ o. unwrap_or o 32) (remove-other nat_cmp_total map.nat_cmp-IsAntisymmetric heights dir other off)

pub inserted_same : (heights more : HeightMap) (dir v : ℕ) → more ≡ map.insert heights dir v → SameBut dir heights more
inserted_same heights more dir v is other off = ap (λ h. bound h other) is ∙ ap (λ o. unwrap_or o 32) (insert-other nat_cmp_total map.nat_cmp-IsAntisymmetric heights dir v other off)

-- ---- numbers

-- of equal heights
still_higher : (i d i' d' : ℕ) → i' ≡ i → d' ≡ d → (d < 32 → i < d) → d' < 32 → i' < d'
still_higher i d i' d' p q higher low = let less : i < d = higher (omega (arith, q, low)) in omega (arith, p, q, less)

-- below a directory that was raised above one in it
raised_higher : (i i' d' child v : ℕ) → i' ≡ i → d' ≡ v → i ≤ child → (v < 32 → child < v) → d' < 32 → i' < d'
raised_higher i i' d' child v p q le above low = let less : child < v = above (omega (arith, q, low)) in omega (arith, p, q, le, less)

no_higher : (i d child : ℕ) → (d < 32 → i < d) → d < 32 → d ≤ child → i ≤ child
no_higher i d child higher low le = let less : i < d = higher low in omega (arith, less, le)

one_deeper : (n i d : ℕ) → i < d → n ≤ i → suc n ≤ d
one_deeper n i d less deep = omega (arith, less, deep)

lower_too : (i d : ℕ) → i < d → d < 32 → i < 32
lower_too i d less low = omega (arith, less, low)

-- ---- ways down

module _ (m : InodeMap) (index : NameIndex) (heights : HeightMap) (x : IsIndexed m index) (rise : HeightsRise m heights) where
  pub are-bounds : AreBounds m heights index
  unfolding index_descends
  are-bounds zero i e low = omega arith
  are-bounds (suc n) i e low =
      let at = any_some (λ (e : Slot × ℕ). (e.0.dir == i) && index_descends n index e.1) (map.entries index) (found slot_total slot_same index) (sym (any-filter (λ (e : Slot × ℕ). index_descends n index e.1) (λ e. e.0.dir == i) (map.entries index)) ∙ e) in
      let parts = both_true _ _ at.2 in
      let dir : at.0.0.dir ≡ i = test_same at.0.0.dir i parts.0 in
      let u : IsUnder m at.0.1 i at.0.0.name = subst (λ d. IsUnder m at.0.1 d at.0.0.name) dir (x.real at.0.1 at.0.0.dir at.0.0.name at.1) in
      let less : height m heights at.0.1 < height m heights i = rise.higher at.0.1 i at.0.0.name u low in
      one_deeper n (height m heights at.0.1) (height m heights i) less (are-bounds n at.0.1 parts.1 (lower_too (height m heights at.0.1) (height m heights i) less low))

-- ---- the way up

pub parent_under : (m : InodeMap) (i d : ℕ) → parent m i ≡ Some d → (a : List ℕ) × IsUnder m i d a
parent_under m i d is = go (site_of m i) refl is where
  go : (s : Option Site) → site_of m i ≡ s → dir_at s ≡ Some d → (a : List ℕ) × IsUnder m i d a
  go None at e = cc
  go (Some Root) at e = cc
  go (Some Stray) at e = cc
  go (Some (Under dir name)) at e = let same : dir.0 ≡ d = cc in (name, at ∙ (λ i. Some (Under (record { 0 = same i }) name)))

same_parent : (m : InodeMap) (i d e : ℕ) (a : List ℕ) → parent m i ≡ Some d → IsUnder m i e a → e ≡ d
same_parent m i d e a is u = let mine = parent_under m i d is in one_dir m i e d a mine.0 u mine.1

-- from an inode the root is reached, when so many steps were made
abbrev pub ClimbsBehind : InodeMap → ℕ → ℕ → Type 0
ClimbsBehind m n i = (up : List (List ℕ)) × (length up + n ≤ 32) × Climbs m i up 1

module _ (t : Nodes) (tree : IsTree t) where
  root_alone : (i d : ℕ) → parent t.nodes i ≡ Some d → i ≡ 1 → ⊥
  root_alone i d is root = let none : parent t.nodes i ≡ None = ap (parent t.nodes) root ∙ ap dir_at tree.root in cc

  pub climb_next : (n i d : ℕ) → parent t.nodes i ≡ Some d → ClimbsBehind t.nodes n i → ClimbsBehind t.nodes (n + 1) d
  climb_next n i d is behind = go behind.0 behind.1 behind.2 where
    go : (up : List (List ℕ)) → length up + n ≤ 32 → Climbs t.nodes i up 1 → ClimbsBehind t.nodes (n + 1) d
    go [] fits c = absurd (root_alone i d is c)
    go (a ∷ up) fits c = (up, omega (arith, fits), subst (λ e. Climbs t.nodes e up 1) (same_parent t.nodes i d c.0 a is c.1) c.2)

  pub climb_last : (n i d : ℕ) → 32 ≤ n → parent t.nodes i ≡ Some d → ClimbsBehind t.nodes n i → ⊥
  climb_last n i d le is behind = go behind.0 behind.1 behind.2 where
    go : (up : List (List ℕ)) → length up + n ≤ 32 → Climbs t.nodes i up 1 → ⊥
    go [] fits c = root_alone i d is c
    go (a ∷ up) fits c = absurd (omega (arith, fits, le))

-- ---- raising

-- all is well where the one inode is so too
pub all-rise : (m : InodeMap) (heights : HeightMap) (k : ℕ) → HeightsRiseBut m heights k → ((d : ℕ) → parent m k ≡ Some d → IsHigher m heights d k) → HeightsRise m heights
all-rise m heights k but own = record {
  higher = λ i d a u. elim (but i d a u) [
    | inl same ↦ subst (λ y. IsHigher m heights d y) (sym same) (own d (subst (λ y. parent m y ≡ Some d) same (ap dir_at u)))
    | inr higher ↦ higher
  ];
}

pub height_dir : (m : InodeMap) (heights : HeightMap) (d : ℕ) → is_directory m d ≡ true → height m heights d ≡ bound heights d
height_dir m heights d is = ap (λ b. if b then bound heights d else 0) is

-- a directory is raised above one in it
pub raise-step : (m : InodeMap) (heights : HeightMap) (k dir v : ℕ) → parent m k ≡ Some dir → is_directory m dir ≡ true → height m heights dir < 32 → height m heights dir ≤ height m heights k → (v < 32 → height m heights k < v)
    → HeightsRiseBut m heights k → HeightsRiseBut m (change_at (λ _. v) heights dir) dir
raise-step m heights k dir v is kind low le above but i d a u =
    let next : HeightMap = change_at (λ _. v) heights dir in
    let same : (j : ℕ) → (j ≡ dir → ⊥) → height m next j ≡ height m heights j = λ j off. ap (λ n. if is_directory m j then n else 0) (set_other heights dir v j off) in
    let now : height m next dir ≡ v = height_dir m next dir kind ∙ set_here heights dir v (subst (λ n. n < 32) (height_dir m heights dir kind) low) in
    elim (same_ino i dir) [
      | inl here ↦ inl here
      | inr off ↦ inr (elim (same_ino d dir) [
        | inl in_it ↦
            let fits : height m heights i ≤ height m heights k = elim (but i dir a (subst (λ y. IsUnder m i y a) in_it u)) [
              | inl child ↦ subst (λ y. height m heights i ≤ height m heights y) child (omega arith)
              | inr higher ↦ no_higher (height m heights i) (height m heights dir) (height m heights k) higher low le
            ] in
            subst (λ y. IsHigher m next y i) (sym in_it) (raised_higher (height m heights i) (height m next i) (height m next dir) (height m heights k) v (same i off) now fits above)
        | inr elsewhere ↦ elim (but i d a u) [
          | inl child ↦ absurd (elsewhere (same_parent m k dir d a is (subst (λ y. IsUnder m y d a) child u)))
          | inr higher ↦ still_higher (height m heights i) (height m heights d) (height m next i) (height m next d) (same i off) (same d elsewhere) higher
        ]
      ])
    ]

-- ---- changes of the tree

-- of what stays a directory, or stays none
same_height : (m n : InodeMap) (heights : HeightMap) (i : ℕ) → kind_of n i ≡ kind_of m i → height n heights i ≡ height m heights i
same_height m n heights i kind = ap (λ k. if is_directory_kind k then bound heights i else 0) kind

-- no site and no kind changes
pub rise-same : (m n : InodeMap) (heights : HeightMap) → ((i : ℕ) → site_of n i ≡ site_of m i) → ((i : ℕ) → kind_of n i ≡ kind_of m i) → HeightsRise m heights → HeightsRise n heights
rise-same m n heights sites kinds rise = record {
  higher = λ i d a u.
      still_higher (height m heights i) (height m heights d) (height n heights i) (height n heights d) (same_height m n heights i (kinds i)) (same_height m n heights d (kinds d)) (rise.higher i d a (sym (sites i) ∙ u));
}

-- the site of one inode changes
pub rise-moved : (m n : InodeMap) (heights : HeightMap) (k : ℕ) → ((i : ℕ) → (i ≡ k → ⊥) → site_of n i ≡ site_of m i) → ((i : ℕ) → kind_of n i ≡ kind_of m i) → HeightsRise m heights → HeightsRiseBut n heights k
rise-moved m n heights k other kinds rise i d a u = elim (same_ino i k) [
  | inl same ↦ inl same
  | inr off ↦
      inr (still_higher (height m heights i) (height m heights d) (height n heights i) (height n heights d) (same_height m n heights i (kinds i)) (same_height m n heights d (kinds d)) (rise.higher i d a (sym (other i off) ∙ u)))
]

-- one inode, in which none stands, changes, and what is kept of it
pub rise-sited : (m n : InodeMap) (old new : HeightMap) (k : ℕ) → ((i : ℕ) → (i ≡ k → ⊥) → site_of n i ≡ site_of m i) → ((i : ℕ) → (i ≡ k → ⊥) → kind_of n i ≡ kind_of m i) → SameBut k old new
    → IsChildless m k → HeightsRise m old → HeightsRiseBut n new k
rise-sited m n old new k other kinds same childless rise i d a u = elim (same_ino i k) [
  | inl here ↦ inl here
  | inr off ↦
      let was : IsUnder m i d a = sym (other i off) ∙ u in
      let up : d ≡ k → ⊥ = λ is. childless i a (subst (λ y. IsUnder m i y a) is was) in
      let now : (j : ℕ) → (j ≡ k → ⊥) → height n new j ≡ height m old j = λ j far. same_height m n new j (kinds j far) ∙ ap (λ v. if is_directory m j then v else 0) (same j far) in
      inr (still_higher (height m old i) (height m old d) (height n new i) (height n new d) (now i off) (now d up) (rise.higher i d a was))
]
