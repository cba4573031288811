-- Each change that a call makes keeps what every tree keeps, and the index in step with it.
use Rattle.std.proofs.Common.{◌≡◌, ℕ, ◌+◌, ◌-◌, ◌<◌, ◌≤◌, true, false, List, [], ◌∷◌, ◌++◌, length, Option, Some, None, inl, inr, refl, sym, ap, subst, ◌∙◌}
use Rattle.std.proofs.Common.{arith, length-append}
use Rattle.std.specs.Cmp.{nat_cmp_total}
use Rattle.std.proofs.lemmas.Bool.{cases_lt}
use Rattle.std.specs.FinMap as map
use Rattle.std.specs.FinSet as set
use Rattle.std.specs.Option.{option_map}
use Rattle.std.specs.Ordering.{nat_cmp}
use Rattle.capgrant.specs.declared.access.Attr.{Attr}
use Rattle.inotree.specs.declared.node.Kind.{Kind}
use Rattle.inotree.specs.declared.node.Kind.TheVariants.{Directory}
use Rattle.inotree.specs.declared.node.Node.{Node}
use Rattle.inotree.specs.declared.node.Site.{Site}
use Rattle.inotree.specs.declared.node.Site.TheVariants.{Root, Stray, Under}
use Rattle.inotree.specs.declared.node.Presence.TheVariants.{Gone, Here, NoIno}
use Rattle.inotree.specs.Names.{is_bad_name}
use Rattle.capbits.specs.Maps.{change_at}
use Rattle.inotree.specs.declared.node.Setting.{Setting}
use Rattle.inotree.specs.declared.node.Setting.TheVariants.{Gid, Mode, Size, Time, Uid}
use Rattle.inotree.specs.Inodes.{InodeMap, with_setting, with_site}
use Rattle.inotree.specs.Index.{NameIndex, slot_cmp}
use Rattle.inotree.specs.Heights.{AreConsistent, HeightMap, HeightsRise, HeightsRiseBut, SameBut}
use Rattle.inotree.specs.Tree.{AllHaveGoodNames, Climbs, HasGoodNames, IsChildless, IsIndexed, IsTree, IsUnder, depth, descends, dir_at, is_directory}
use Rattle.inotree.specs.Tree.{is_directory_kind, is_within, kind_of, lies_below, parent, presence, presence_at, site_of}
use Rattle.inotree.specs.Calls.{first_tree, new_node}
use Rattle.capbits.proofs.Maps.{change-is, change-none, insert-here, insert-other, remove-here, remove-other}
use Rattle.inotree.proofs.Inner.{good_none, moved_good, put_inner, some_same}
use Rattle.inotree.proofs.Named.{node_of}
use Rattle.inotree.proofs.Shape.{climb_keep, climb_on, climb_split, index-forgotten, index-unlinked, same_ino, slot, tree-buried}
use Rattle.inotree.proofs.Growing.{depth-climb, descend_up, index-added, index-moved, index-same, off_here, off_next, tree-same, tree-sited}
use Rattle.inotree.proofs.Rising.{all-rise, rise-moved, rise-same, rise-sited}
use Rattle.inotree.proofs.Walks.{is_within-is}

-- One inode is there and changes.
module _ (m : InodeMap) (last k : ℕ) (x : Node) (f : Node → Node) (here : map.get m k ≡ Some x) where
  changed_at : map.get (change_at f m k) k ≡ Some (f x)
  changed_at = ap (λ n. map.get n k) (change-is nat_cmp_total map.nat_cmp-IsAntisymmetric m k f x here) ∙ insert-here nat_cmp_total map.nat_cmp-IsAntisymmetric m k (f x)

  changed_off : (i : ℕ) → (i ≡ k → ⊥) → map.get (change_at f m k) i ≡ map.get m i
  changed_off i off = ap (λ n. map.get n i) (change-is nat_cmp_total map.nat_cmp-IsAntisymmetric m k f x here) ∙ insert-other nat_cmp_total map.nat_cmp-IsAntisymmetric m k (f x) i off

  changed_kinds : (f x).kind ≡ x.kind → (i : ℕ) → kind_of (change_at f m k) i ≡ kind_of m i
  changed_kinds same i = elim (same_ino i k) [
    | inl is ↦ subst (λ y. kind_of (change_at f m k) y ≡ kind_of m y) (sym is) (ap (option_map (λ (n : Node). n.kind)) changed_at ∙ ap Some same ∙ ap (option_map (λ (n : Node). n.kind)) (sym here))
    | inr off ↦ ap (option_map (λ (n : Node). n.kind)) (changed_off i off)
  ]

  changed_fresh : ((i : ℕ) → last < i → map.get m i ≡ None) → (i : ℕ) → last < i → map.get (change_at f m k) i ≡ None
  changed_fresh given i above = changed_off i (λ same. let none = given i above in let some : map.get m i ≡ Some x = subst (λ y. map.get m y ≡ Some x) (sym same) here in cc) ∙ given i above

  changed_inner : AllHaveGoodNames m → (HasGoodNames x → HasGoodNames (f x)) → AllHaveGoodNames (change_at f m k)
  changed_inner inner good i y got = elim (same_ino i k) [
    | inl is ↦
        let now : map.get (change_at f m k) k ≡ Some y = subst (λ j. map.get (change_at f m k) j ≡ Some y) is got in
        let same : f x ≡ y = some_same (sym changed_at ∙ now) in
        subst HasGoodNames same (good (inner k x here))
    | inr off ↦ inner i y (sym (changed_off i off) ∙ got)
  ]

  module _ (t : IsTree (record { nodes = m; last = last })) (kind : (f x).kind ≡ x.kind) (site : (f x).site ≡ x.site) where
    changed_sites : (i : ℕ) → site_of (change_at f m k) i ≡ site_of m i
    changed_sites i = elim (same_ino i k) [
      | inl is ↦ subst (λ y. site_of (change_at f m k) y ≡ site_of m y) (sym is) (ap (option_map (λ (n : Node). n.site)) changed_at ∙ ap Some site ∙ ap (option_map (λ (n : Node). n.site)) (sym here))
      | inr off ↦ ap (option_map (λ (n : Node). n.site)) (changed_off i off)
    ]

    -- a field that is no site and no kind
    pub tree-changed : (HasGoodNames x → HasGoodNames (f x)) → IsTree (record { nodes = change_at f m k; last = last })
    tree-changed good = tree-same m (change_at f m k) last t changed_sites (changed_kinds kind) (changed_fresh t.given) (changed_inner t.inner_names good)

    pub index-changed : (index : NameIndex) → IsIndexed m index → IsIndexed (change_at f m k) index
    index-changed = index-same m (change_at f m k) last t changed_sites (changed_kinds kind) (changed_fresh t.given)

    pub rise-changed : (heights : HeightMap) → HeightsRise m heights → HeightsRise (change_at f m k) heights
    rise-changed heights = rise-same m (change_at f m k) heights changed_sites (changed_kinds kind)

-- An inode that is not the root, with nothing below it, becomes a stray.
module _ (m : InodeMap) (last k : ℕ) (x : Node) (here : map.get m k ≡ Some x) (t : IsTree (record { nodes = m; last = last })) (was_no_root : site_of m k ≡ Some Root → ⊥) (childless : IsChildless m k) where
  stray_off : (i : ℕ) → (i ≡ k → ⊥) → site_of (change_at (with_site Stray) m k) i ≡ site_of m i
  stray_off i off = ap (option_map (λ (n : Node). n.site)) (changed_off m last k x (with_site Stray) here i off)

  stray_now : site_of (change_at (with_site Stray) m k) k ≡ Some Stray
  stray_now = ap (option_map (λ (n : Node). n.site)) (changed_at m last k x (with_site Stray) here)

  stray_kinds : (i : ℕ) → (i ≡ k → ⊥) → kind_of (change_at (with_site Stray) m k) i ≡ kind_of m i
  stray_kinds i off = changed_kinds m last k x (with_site Stray) here refl i

  stray_fresh : (i : ℕ) → last < i → map.get (change_at (with_site Stray) m k) i ≡ None
  stray_fresh = changed_fresh m last k x (with_site Stray) here t.given

  stray_no_site : (e : ℕ) (b : List ℕ) → IsUnder (change_at (with_site Stray) m k) k e b → ⊥
  stray_no_site e b v = let now = stray_now in cc

  stray_no_root : site_of (change_at (with_site Stray) m k) k ≡ Some Root → ⊥
  stray_no_root v = let now = stray_now in cc

  stray_not_here : presence (change_at (with_site Stray) m k) k ≡ Here → ⊥
  stray_not_here v = let gone : presence (change_at (with_site Stray) m k) k ≡ Gone = ap presence_at stray_now in cc

  pub tree-unlinked : IsTree (record { nodes = change_at (with_site Stray) m k; last = last })
  tree-unlinked =
      tree-buried m (change_at (with_site Stray) m k) last k t stray_off stray_kinds stray_fresh stray_no_site stray_no_root stray_not_here was_no_root childless
      (changed_inner m last k x (with_site Stray) here t.inner_names (moved_good Stray x))

  -- its name leaves the index
  pub index-stray : (index : NameIndex) → IsIndexed m index → (d : ℕ) (a : List ℕ) → IsUnder m k d a → IsIndexed (change_at (with_site Stray) m k) (map.remove index (slot d a))
  index-stray = index-unlinked m (change_at (with_site Stray) m k) last k t stray_off stray_kinds stray_fresh stray_no_site stray_no_root stray_not_here was_no_root childless

  -- it is no lower than anything
  pub rise-stray : (heights : HeightMap) → HeightsRise m heights → HeightsRise (change_at (with_site Stray) m k) heights
  rise-stray heights rise =
      let nowhere : parent (change_at (with_site Stray) m k) k ≡ None = ap dir_at stray_now in
      all-rise (change_at (with_site Stray) m k) heights k (rise-moved m (change_at (with_site Stray) m k) heights k stray_off (changed_kinds m last k x (with_site Stray) here refl) rise) (λ d at. cc)

pub consistent-unlinked : (heights : HeightMap) (m : InodeMap) (last k d : ℕ) (a : List ℕ) (index : NameIndex) → IsTree (record { nodes = m; last = last }) → AreConsistent m index heights → IsUnder m k d a → IsChildless m k
    → IsTree (record { nodes = change_at (with_site Stray) m k; last = last }) × AreConsistent (change_at (with_site Stray) m k) (map.remove index (slot d a)) heights
consistent-unlinked heights m last k d a index t consistent u childless =
    let node = node_of m k _ u in
    let was_no_root : site_of m k ≡ Some Root → ⊥ = λ v. cc in (
      tree-unlinked m last k node.0 node.1 t was_no_root childless,
      (index-stray m last k node.0 node.1 t was_no_root childless index consistent.0 d a u, rise-stray m last k node.0 node.1 t was_no_root childless heights consistent.1),
    )

-- a stray is forgotten
pub consistent-forgotten : (m : InodeMap) (last k : ℕ) (index : NameIndex) (old new : HeightMap) → IsTree (record { nodes = m; last = last }) → AreConsistent m index old → SameBut k old new → site_of m k ≡ Some Stray
    → IsTree (record { nodes = map.remove m k; last = last }) × AreConsistent (map.remove m k) index new
consistent-forgotten m last k index old new t consistent same was =
    let n : InodeMap = map.remove m k in
    let off_get : (i : ℕ) → (i ≡ k → ⊥) → map.get n i ≡ map.get m i = remove-other nat_cmp_total map.nat_cmp-IsAntisymmetric m k in
    let other : (i : ℕ) → (i ≡ k → ⊥) → site_of n i ≡ site_of m i = λ i off. ap (option_map (λ (n : Node). n.site)) (off_get i off) in
    let kinds : (i : ℕ) → (i ≡ k → ⊥) → kind_of n i ≡ kind_of m i = λ i off. ap (option_map (λ (n : Node). n.kind)) (off_get i off) in
    let none : map.get n k ≡ None = remove-here nat_cmp_total map.nat_cmp-IsAntisymmetric m k in
    let now : site_of n k ≡ None = ap (option_map (λ (n : Node). n.site)) none in
    let fresh : (i : ℕ) → last < i → map.get n i ≡ None = λ i above. elim (same_ino i k) [
      | inl is ↦ ap (map.get n) is ∙ none
      | inr off ↦ off_get i off ∙ t.given i above
    ] in
    let no_site : (e : ℕ) (b : List ℕ) → IsUnder n k e b → ⊥ = λ e b v. cc in
    let no_root : site_of n k ≡ Some Root → ⊥ = λ v. cc in
    let absent : presence n k ≡ NoIno = ap presence_at now in
    let not_here : presence n k ≡ Here → ⊥ = λ v. cc in
    let was_no_root : site_of m k ≡ Some Root → ⊥ = λ v. cc in
    let was_gone : presence m k ≡ Gone = ap presence_at was in
    let childless : (i : ℕ) (b : List ℕ) → IsUnder m i k b → ⊥ = λ i b v. let up = (t.parents i k b v).1 in cc in
    let nowhere : (e : ℕ) (b : List ℕ) → IsUnder m k e b → ⊥ = λ e b v. cc in
    let inner : AllHaveGoodNames n = λ i y got. elim (same_ino i k) [
      | inl is ↦ let absent : map.get n i ≡ None = ap (map.get n) is ∙ none in cc
      | inr off ↦ t.inner_names i y (sym (off_get i off) ∙ got)
    ] in (
      tree-buried m n last k t other kinds fresh no_site no_root not_here was_no_root childless inner,
      (
        index-forgotten m n last k t other kinds fresh no_site no_root not_here was_no_root childless index consistent.0 nowhere,
        all-rise n new k (rise-sited m n old new k other kinds same childless consistent.1) (λ d at. let none : parent n k ≡ None = ap dir_at now in cc),
      ),
    )

-- what there is of a tree once an inode has come to its site, and before the directories above are raised
abbrev pub IsRaisable : InodeMap → ℕ → NameIndex → HeightMap → ℕ → Type 0
IsRaisable m last index heights k = IsTree (record { nodes = m; last = last }) × IsIndexed m index × (presence m k ≡ Here) × HeightsRiseBut m heights k

pub raisable_at : (m n : InodeMap) (last k : ℕ) (x y : NameIndex) (heights : HeightMap) → n ≡ m → y ≡ x → IsRaisable m last x heights k → IsRaisable n last y heights k
raisable_at m n last k x y heights p q now = subst (λ z. IsRaisable n last z heights k) (sym q) (subst (λ (z : InodeMap). IsRaisable z last x heights k) (sym p) now)

-- a new inode
pub consistent-added : (m : InodeMap) (last d : ℕ) (a : List ℕ) (kind : Kind) (attr : Attr) (index : NameIndex) (old new : HeightMap) → IsTree (record { nodes = m; last = last }) → AreConsistent m index old
    → is_directory m d ≡ true → presence m d ≡ Here → is_bad_name a ≡ false → map.get index (slot d a) ≡ None → depth m d < 32 → SameBut (last + 1) old new
    → IsRaisable (map.insert m (last + 1) (new_node kind d a attr)) (last + 1) (map.insert index (slot d a) (last + 1)) new (last + 1)
consistent-added m last d a kind attr index old new t consistent dir_kind dir_here good free low same_but =
    let ix : IsIndexed m index = consistent.0 in
    let k : ℕ = last + 1 in
    let n : InodeMap = map.insert m k (new_node kind d a attr) in
    let none : map.get m k ≡ None = t.given k (omega arith) in
    let absent : presence m k ≡ NoIno = ap (λ o. presence_at (option_map (λ (n : Node). n.site) o)) none in
    let nothing : site_of m k ≡ None = ap (option_map (λ (n : Node). n.site)) none in
    let off_get : (i : ℕ) → (i ≡ k → ⊥) → map.get n i ≡ map.get m i = insert-other nat_cmp_total map.nat_cmp-IsAntisymmetric m k (new_node kind d a attr) in
    let other : (i : ℕ) → (i ≡ k → ⊥) → site_of n i ≡ site_of m i = λ i off. ap (option_map (λ (n : Node). n.site)) (off_get i off) in
    let kinds : (i : ℕ) → (i ≡ k → ⊥) → kind_of n i ≡ kind_of m i = λ i off. ap (option_map (λ (n : Node). n.kind)) (off_get i off) in
    let now : IsUnder n k d a = ap (option_map (λ (n : Node). n.site)) (insert-here nat_cmp_total map.nat_cmp-IsAntisymmetric m k (new_node kind d a attr)) in
    let fresh : (i : ℕ) → k < i → map.get n i ≡ None = λ i above. off_get i (λ same. absurd (omega arith)) ∙ t.given i (omega arith) in
    let was_no_root : site_of m k ≡ Some Root → ⊥ = λ v. cc in
    let dir_off : d ≡ k → ⊥ = λ same. let here : presence m k ≡ Here = subst (λ y. presence m y ≡ Here) same dir_here in cc in
    let avoid : (y : ℕ) (b : List ℕ) → IsUnder m y k b → ⊥ = λ y b v. let here = (t.parents y k b v).1 in cc in
    let dir_still : (i e : ℕ) (b : List ℕ) → IsUnder m i e b → (is_directory n e ≡ true) × (presence n e ≡ Here) = λ i e b v.
    let off : e ≡ k → ⊥ = λ same. avoid i b (subst (λ y. IsUnder m i y b) same v) in
    let was = t.parents i e b v in
    (ap is_directory_kind (kinds e off) ∙ was.0, ap presence_at (other e off) ∙ was.1) in
    let to_root : (i : ℕ) → presence n i ≡ Here → (up : List (List ℕ)) × (length up ≤ 32) × Climbs n i up 1 = λ i h. elim (same_ino i k) [
      | inl same ↦
          let r = t.to_root d dir_here in
          let long : depth m d ≡ length r.0 = depth-climb m r.0 d t.root r.1 r.2 in
          (a ∷ r.0, omega arith, (d, subst (λ y. IsUnder n y d a) (sym same) now, climb_keep m n k other avoid d r.0 1 dir_off r.2))
      | inr off ↦ let r = t.to_root i (sym (ap presence_at (other i off)) ∙ h) in (r.0, r.1, climb_keep m n k other avoid i r.0 1 off r.2)
    ] in
    let nowhere : (e : ℕ) (b : List ℕ) → IsUnder m k e b → ⊥ = λ e b v. cc in
    let free_under : (j : ℕ) → IsUnder m j d a → ⊥ = λ j u. let got = ix.taken j d a u in cc in
    let inner : AllHaveGoodNames n = put_inner m k (new_node kind d a attr) t.inner_names (good_none _ refl refl) in (
      tree-sited m n last k k d a t other kinds fresh now was_no_root dir_kind dir_here dir_off good free_under dir_still to_root inner,
      index-added m n last k k d a t other kinds fresh now was_no_root dir_kind dir_here dir_off good free_under index ix free nowhere,
      ap presence_at now,
      rise-sited m n old new k other kinds same_but avoid consistent.1,
    )

-- a climb that meets no inode that moves
climb_off : (m n : InodeMap) (k : ℕ) → ((i : ℕ) → (i ≡ k → ⊥) → site_of n i ≡ site_of m i) → (up : List (List ℕ)) (i c top : ℕ) → length up ≤ c → lies_below c m i k ≡ false → Climbs m i up top → Climbs n i up top
climb_off m n k other [] i c top fits out climb = climb
climb_off m n k other (a ∷ up) i c top fits out climb =
    (climb.0, other i (off_here c m i k out) ∙ climb.1, climb_off m n k other up climb.0 (c - 1) top (omega arith) (off_next c m i k climb.0 a (omega arith) out climb.1) climb.2)

-- an inode moves, with whatever index there is
pub moves : (m : InodeMap) (last k d e : ℕ) (a b : List ℕ) → IsTree (record { nodes = m; last = last })
    → IsUnder m k e b → is_directory m d ≡ true → presence m d ≡ Here → is_bad_name a ≡ false → ((j : ℕ) → IsUnder m j d a → ⊥) → is_within m d k ≡ false → descends (32 - depth m d) m k ≡ false
    → IsTree (record { nodes = change_at (with_site (Under (record { 0 = d }) a)) m k; last = last })
    × ((index : NameIndex) → IsIndexed m index → map.get index (slot d a) ≡ None → IsIndexed (change_at (with_site (Under (record { 0 = d }) a)) m k) (map.remove (map.insert index (slot d a) k) (slot e b)))
moves m last k d e a b t was dir_kind dir_here good free apart shallow =
    let site : Site = Under (record { 0 = d }) a in
    let node = node_of m k _ was in
    let n : InodeMap = change_at (with_site site) m k in
    let other : (i : ℕ) → (i ≡ k → ⊥) → site_of n i ≡ site_of m i = λ i off. ap (option_map (λ (n : Node). n.site)) (changed_off m last k node.0 (with_site site) node.1 i off) in
    let now : IsUnder n k d a = ap (option_map (λ (n : Node). n.site)) (changed_at m last k node.0 (with_site site) node.1) in
    let all_kinds : (i : ℕ) → kind_of n i ≡ kind_of m i = changed_kinds m last k node.0 (with_site site) node.1 refl in
    let kinds : (i : ℕ) → (i ≡ k → ⊥) → kind_of n i ≡ kind_of m i = λ i off. all_kinds i in
    let fresh = changed_fresh m last k node.0 (with_site site) node.1 t.given in
    let was_no_root : site_of m k ≡ Some Root → ⊥ = λ v. cc in
    let out : lies_below 32 m d k ≡ false = sym (is_within-is m d k) ∙ apart in
    let dir_off : d ≡ k → ⊥ = off_here 32 m d k out in
    let here_now : presence n k ≡ Here = ap presence_at now in
    let dir_still : (i f : ℕ) (c : List ℕ) → IsUnder m i f c → (is_directory n f ≡ true) × (presence n f ≡ Here) = λ i f c v.
    let before = t.parents i f c v in (
      ap is_directory_kind (all_kinds f) ∙ before.0,
      elim (same_ino f k) [
        | inl same ↦ subst (λ y. presence n y ≡ Here) (sym same) here_now
        | inr off ↦ ap presence_at (other f off) ∙ before.1
      ],
    ) in
    let was_here : (i : ℕ) → presence n i ≡ Here → presence m i ≡ Here = λ i h. elim (same_ino i k) [
      | inl same ↦ subst (λ y. presence m y ≡ Here) (sym same) (ap presence_at was)
      | inr off ↦ sym (ap presence_at (other i off)) ∙ h
    ] in
    let top = t.to_root d dir_here in
    let long : depth m d ≡ length top.0 = depth-climb m top.0 d t.root top.1 top.2 in
    let above : Climbs n d top.0 1 = climb_off m n k other top.0 d 32 1 top.1 out top.2 in
    let to_root : (i : ℕ) → presence n i ≡ Here → (up : List (List ℕ)) × (length up ≤ 32) × Climbs n i up 1 = λ i h.
    let r = t.to_root i (was_here i h) in
    elim (climb_split m n k other i r.0 1 r.2) [
      | inl still ↦ (r.0, r.1, still)
      | inr found ↦
          let short : length found.0 < 32 - depth m d = short_of m i found.0 k (32 - depth m d) shallow found.1 in
          (found.0 ++ a ∷ top.0, omega (arith, length-append found.0 (a ∷ top.0)), climb_on n i found.0 k (a ∷ top.0) 1 found.2 (d, now, above))
    ] in (
      tree-sited m n last last k d a t other kinds fresh now was_no_root dir_kind dir_here dir_off good free dir_still to_root (changed_inner m last k node.0 (with_site site) node.1 t.inner_names (moved_good site node.0)),
      λ index ix no_name. index-moved m n last last k d a t other kinds fresh now was_no_root dir_kind dir_here dir_off good free index ix no_name e b was,
    ) where
      short_of : (m : InodeMap) (i : ℕ) (below : List (List ℕ)) (k c : ℕ) → descends c m k ≡ false → Climbs m i below k → length below < c
      short_of m i below k c shallow climb = elim (cases_lt (length below) c) [
        | inl less ↦ less
        | inr le ↦ let deep : descends c m k ≡ true = descend_up c m i below k le climb in cc
      ]

-- an inode moves
pub consistent-moved : (m : InodeMap) (last k d e : ℕ) (a b : List ℕ) (index : NameIndex) (heights : HeightMap) → IsTree (record { nodes = m; last = last }) → AreConsistent m index heights
    → IsUnder m k e b → is_directory m d ≡ true → presence m d ≡ Here → is_bad_name a ≡ false → map.get index (slot d a) ≡ None → is_within m d k ≡ false → descends (32 - depth m d) m k ≡ false
    → IsRaisable (change_at (with_site (Under (record { 0 = d }) a)) m k) last (map.remove (map.insert index (slot d a) k) (slot e b)) heights k
consistent-moved m last k d e a b index heights t both was dir_kind dir_here good free apart shallow =
    let site : Site = Under (record { 0 = d }) a in
    let free_under : (j : ℕ) → IsUnder m j d a → ⊥ = λ j u. let got = both.0.taken j d a u in cc in
    let consistent = moves m last k d e a b t was dir_kind dir_here good free_under apart shallow in
    let node = node_of m k _ was in
    let other : (i : ℕ) → (i ≡ k → ⊥) → site_of (change_at (with_site site) m k) i ≡ site_of m i = λ i off. ap (option_map (λ (n : Node). n.site)) (changed_off m last k node.0 (with_site site) node.1 i off) in (
      consistent.0,
      consistent.1 index both.0 free,
      ap (λ o. presence_at (option_map (λ (n : Node). n.site) o)) (changed_at m last k node.0 (with_site site) node.1),
      rise-moved m (change_at (with_site site) m k) heights k other (changed_kinds m last k node.0 (with_site site) node.1 refl) both.1,
    )

-- the same, for equal maps
pub consistent_at : (heights : HeightMap) (m n : InodeMap) (last : ℕ) (x y : NameIndex) → n ≡ m → y ≡ x → IsTree (record { nodes = m; last = last }) × AreConsistent m x heights → IsTree (record { nodes = n; last = last }) × AreConsistent n y heights
consistent_at heights m n last x y p q consistent =
    subst (λ z. IsTree (record { nodes = n; last = last }) × AreConsistent n z heights) (sym q) (subst (λ (k : InodeMap). IsTree (record { nodes = k; last = last }) × AreConsistent k x heights) (sym p) consistent)

-- a change of fields, of an inode that may be there
pub consistent-any : (heights : HeightMap) (m : InodeMap) (last k : ℕ) (f : Node → Node) (index : NameIndex) → IsTree (record { nodes = m; last = last }) → AreConsistent m index heights → ((y : Node) → (f y).kind ≡ y.kind) → ((y : Node) → (f y).site ≡ y.site)
    → ((y : Node) → HasGoodNames y → HasGoodNames (f y)) → IsTree (record { nodes = change_at f m k; last = last }) × AreConsistent (change_at f m k) index heights
consistent-any heights m last k f index t consistent kind site good = go (map.get m k) refl where
  go : (o : Option Node) → map.get m k ≡ o → IsTree (record { nodes = change_at f m k; last = last }) × AreConsistent (change_at f m k) index heights
  go None none = consistent_at heights m (change_at f m k) last index index (change-none nat_cmp_total map.nat_cmp-IsAntisymmetric m k f none) refl (t, consistent)
  go (Some x) here = (
    tree-changed m last k x f here t (kind x) (site x) (good x),
    (index-changed m last k x f here t (kind x) (site x) index consistent.0, rise-changed m last k x f here t (kind x) (site x) heights consistent.1),
  )

pub setting_kind : (s : Setting) (y : Node) → (with_setting s y).kind ≡ y.kind
setting_kind (Mode mode) y = refl
setting_kind (Uid uid) y = refl
setting_kind (Gid gid) y = refl
setting_kind (Size size) y = refl
setting_kind (Time time) y = refl

pub setting_site : (s : Setting) (y : Node) → (with_setting s y).site ≡ y.site
setting_site (Mode mode) y = refl
setting_site (Uid uid) y = refl
setting_site (Gid gid) y = refl
setting_site (Size size) y = refl
setting_site (Time time) y = refl

-- a root alone
pub consistent-first : (attr : Attr) (heights : HeightMap) → IsTree (first_tree attr) × AreConsistent (first_tree attr).nodes map.empty heights
consistent-first attr heights =
    let root : Node = record { kind = Directory; site = Root; attr = attr; size = 0; time = 0; attributes = map.empty; snapshots = set.empty } in
    let n : InodeMap = map.insert map.empty 1 root in
    let here : map.get n 1 ≡ Some root = insert-here nat_cmp_total map.nat_cmp-IsAntisymmetric map.empty 1 root in
    let none : (i : ℕ) → (i ≡ 1 → ⊥) → map.get n i ≡ None = λ i off. insert-other nat_cmp_total map.nat_cmp-IsAntisymmetric map.empty 1 root i off ∙ map.get-empty nat_cmp i in
    let site : site_of n 1 ≡ Some Root = ap (option_map (λ (n : Node). n.site)) here in
    let nowhere : (i d : ℕ) (a : List ℕ) → IsUnder n i d a → ⊥ = λ i d a u. elim (same_ino i 1) [
      | inl same ↦ let v : IsUnder n 1 d a = subst (λ y. IsUnder n y d a) same u in cc
      | inr off ↦ let v : site_of n i ≡ None = ap (option_map (λ (n : Node). n.site)) (none i off) in cc
    ] in (
      record {
        root = site;
        root_kind = ap (λ o. is_directory_kind (option_map (λ (n : Node). n.kind) o)) here;
        one_root = λ i e. elim (same_ino i 1) [
          | inl same ↦ same
          | inr off ↦ let v : site_of n i ≡ None = ap (option_map (λ (n : Node). n.site)) (none i off) in cc
        ];
        parents = λ i d a u. absurd (nowhere i d a u);
        siblings = λ i j d a u v. absurd (nowhere i d a u);
        names = λ i d a u. absurd (nowhere i d a u);
        inner_names = put_inner map.empty 1 root (λ i y got. let absent = map.get-empty {X = Node} nat_cmp i in cc) (good_none root refl refl);
        to_root = λ i h. elim (same_ino i 1) [
          | inl same ↦ ([], omega arith, same)
          | inr off ↦ let v : presence n i ≡ NoIno = ap (λ o. presence_at (option_map (λ (n : Node). n.site) o)) (none i off) in cc
        ];
        given = λ i above. none i (λ same. absurd (omega arith));
      },
      (
        record {
          taken = λ i d a u. absurd (nowhere i d a u);
          real = λ i d a g. let v = map.get-empty {X = ℕ} slot_cmp (slot d a) in cc;
        },
        record { higher = λ i d a u. absurd (nowhere i d a u) },
      ),
    )
