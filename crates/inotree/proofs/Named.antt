-- The index against the tree: a child is what the index has, and a walk down the one is a walk down the other.
use Rattle.std.proofs.Common.{◌≡◌, ℕ, zero, suc, ◌<◌, ◌^◌, Bool, true, false, cond, ◌||◌, ◌&&◌, ◌==◌, List, [], ◌∷◌, Option, Some, None, inl, inr, refl, sym}
use Rattle.std.proofs.Common.{ap, subst, ◌∙◌, arith}
use Rattle.std.specs.Cmp.{nat_cmp_total}
use Rattle.std.proofs.lemmas.Bool.{cases_lt}
use Rattle.std.specs.FinMap as map
use Rattle.std.specs.List.{AllByRecursion, filter, list_any}
use Rattle.std.specs.Option.{option_map}
use Rattle.inotree.specs.declared.index.Slot.{Slot}
use Rattle.inotree.specs.declared.node.Node.{Node}
use Rattle.inotree.specs.declared.node.Site.{Site}
use Rattle.inotree.specs.declared.node.Site.TheVariants.{Root, Stray, Under}
use Rattle.inotree.specs.declared.node.Presence.TheVariants.{Here, NoIno}
use Rattle.inotree.specs.Inodes.{InodeMap}
use Rattle.inotree.specs.Index.{AreInodes, NameIndex, index_descends}
use Rattle.inotree.specs.Tree.{IsIndexed, IsTree, IsUnder, StandInDirectories, child, descends, first_where, is_at, is_directory, is_in, presence, presence_at}
use Rattle.inotree.specs.Tree.{site_of}
use Rattle.capbits.proofs.Found.{all_map, and_true, any-filter, any_found, any_some, both_true, found, same_bool}
use Rattle.capbits.proofs.Maps.{tied, tied_here}
use Rattle.inotree.proofs.Order.{name_same, name_total}
use Rattle.inotree.proofs.Slots.{slot_same, slot_total}
use Rattle.inotree.proofs.Walks.{same_test, test_same}

none_pass : {A : Type 0} (p : A → Bool) (xs : List A) → AllByRecursion (λ x. p x ≡ false) xs → filter p xs ≡ []
none_pass p [] h = refl
none_pass p (x ∷ xs) h = ap (λ b. cond b (x ∷ filter p xs) (filter p xs)) h.0 ∙ none_pass p xs h.1

pub at_under : (d : ℕ) (a : List ℕ) (s : Site) → is_at d a s ≡ true → s ≡ Under (record { 0 = d }) a
at_under d a Root e = cc
at_under d a Stray e = cc
at_under d a (Under e b) is =
    let both = both_true _ _ is in
    let dirs : e.0 ≡ d = test_same e.0 d both.0 in
    let names : b ≡ a = tied name_total name_same b a both.1 in
    λ i. Under (record { 0 = dirs i }) (names i)

pub under_at : (d : ℕ) (a : List ℕ) → is_at d a (Under (record { 0 = d }) a) ≡ true
under_at d a = and_true _ _ (same_test d d refl) (tied_here name_total name_same a)

pub in_under : (i : ℕ) (s : Site) → is_in i s ≡ true → (a : List ℕ) × (s ≡ Under (record { 0 = i }) a)
in_under i Root e = cc
in_under i Stray e = cc
in_under i (Under e b) is = let dirs : e.0 ≡ i = test_same e.0 i is in (b, λ j. Under (record { 0 = dirs j }) b)

-- what stands somewhere is there
pub node_of : (m : InodeMap) (i : ℕ) (s : Site) → site_of m i ≡ Some s → (x : Node) × (map.get m i ≡ Some x) × (x.site ≡ s)
node_of m i s e = go (map.get m i) refl e where
  go : (o : Option Node) → map.get m i ≡ o → option_map (λ (n : Node). n.site) o ≡ Some s → (x : Node) × (map.get m i ≡ Some x) × (x.site ≡ s)
  go None g e = cc
  go (Some x) g e = (x, g, cc)

pub first_some : (m : InodeMap) (test : Node → Bool) (es : List (ℕ × Node)) (i : ℕ) → AllByRecursion (λ (e : ℕ × Node). map.get m e.0 ≡ Some e.1) es → first_where test es ≡ Some i → (x : Node) × (map.get m i ≡ Some x) × (test x ≡ true)
first_some m test [] i h e = cc
first_some m test (f ∷ fs) i h e = elim (test f.1) as (λ b. test f.1 ≡ b → cond b (Some f.0) (first_where test fs) ≡ Some i → (x : Node) × (map.get m i ≡ Some x) × (test x ≡ true)) [
  | true ↦ λ t is. let here : f.0 ≡ i = cc in (f.1, subst (λ k. map.get m k ≡ Some f.1) here h.0, t)
  | false ↦ λ _ is. first_some m test fs i h.1 is
] refl e

pub first_none : (test : Node → Bool) (es : List (ℕ × Node)) → first_where test es ≡ None → list_any (λ (e : ℕ × Node). test e.1) es ≡ false
first_none test [] e = refl
first_none test (f ∷ fs) e = elim (test f.1) as (λ b. cond b (Some f.0) (first_where test fs) ≡ None → (b || list_any (λ (e : ℕ × Node). test e.1) fs) ≡ false) [
  | true ↦ λ is. cc
  | false ↦ λ is. first_none test fs is
] e

module _ (m : InodeMap) (index : NameIndex) (x : IsIndexed m index) where
  pub child-index : (d : ℕ) (a : List ℕ) → child m d a ≡ map.get index (record { dir = d; name = a })
  child-index d a = go (child m d a) refl (map.get index (record { dir = d; name = a })) refl where
    go : (o : Option ℕ) → child m d a ≡ o → (p : Option ℕ) → map.get index (record { dir = d; name = a }) ≡ p → o ≡ p
    go (Some j) c p g =
        let f = first_some m (λ n. is_at d a n.site) (map.entries m) j (found nat_cmp_total map.nat_cmp-IsAntisymmetric m) c in
        let u : IsUnder m j d a = ap (option_map (λ (n : Node). n.site)) f.1 ∙ ap Some (at_under d a f.0.site f.2) in
        sym (x.taken j d a u) ∙ g
    go None c None g = refl
    go None c (Some i) g =
        let n = node_of m i _ (x.real i d a g) in
        let none : list_any (λ (e : ℕ × Node). is_at d a e.1.site) (map.entries m) ≡ false = first_none (λ n. is_at d a n.site) (map.entries m) c in
        let some : list_any (λ (e : ℕ × Node). is_at d a e.1.site) (map.entries m) ≡ true = any_found nat_cmp_total map.nat_cmp-IsAntisymmetric (λ e. is_at d a e.1.site) m i n.0 n.1 (ap (is_at d a) n.2 ∙ under_at d a) in
        cc

  pub descends-index : (n i : ℕ) → descends n m i ≡ index_descends n index i
  unfolding descends index_descends
  descends-index zero i = refl
  descends-index (suc n) i =
      let below : ℕ × Node → Bool = λ e. is_in i e.1.site && descends n m e.0 in
      let named : Slot × ℕ → Bool = λ e. (e.0.dir == i) && index_descends n index e.1 in
      same_bool _ _
      (λ h.
      let e = any_some below (map.entries m) (found nat_cmp_total map.nat_cmp-IsAntisymmetric m) h in
      let parts = both_true _ _ e.2 in
      let s = in_under i e.0.1.site parts.0 in
      let u : IsUnder m e.0.0 i s.0 = ap (option_map (λ (n : Node). n.site)) e.1 ∙ ap Some s.1 in
      any-filter (λ e. index_descends n index e.1) (λ e. e.0.dir == i) (map.entries index)
      ∙ any_found slot_total slot_same named index (record { dir = i; name = s.0 }) e.0.0 (x.taken e.0.0 i s.0 u) (and_true _ _ (same_test i i refl) (sym (descends-index n e.0.0) ∙ parts.1)))
      (λ h.
      let e = any_some named (map.entries index) (found slot_total slot_same index) (sym (any-filter (λ e. index_descends n index e.1) (λ e. e.0.dir == i) (map.entries index)) ∙ h) in
      let parts = both_true _ _ e.2 in
      let node = node_of m e.0.1 _ (x.real e.0.1 e.0.0.dir e.0.0.name e.1) in
      any_found nat_cmp_total map.nat_cmp-IsAntisymmetric below m e.0.1 node.0 node.1 (and_true _ _ (ap (is_in i) node.2 ∙ parts.0) (descends-index n e.0.1 ∙ parts.1)))

  -- the directories of the index are inodes of the tree
  pub index_inodes : (last : ℕ) → IsTree (record { nodes = m; last = last }) → last < 2 ^ 64 → AreInodes index
  index_inodes last t fits = all_map (map.entries index) (λ e h.
      let u : IsUnder m e.1 e.0.dir e.0.name = x.real e.1 e.0.dir e.0.name h in
      within e.0.dir (t.parents e.1 e.0.dir e.0.name u).1) (found slot_total slot_same index) where
        within : (d : ℕ) → presence m d ≡ Here → d < 2 ^ 64
        within d here = elim (cases_lt last d) [
          | inl above ↦ let none : presence m d ≡ NoIno = ap (λ o. presence_at (option_map (λ (n : Node). n.site) o)) (t.given d above) in cc
          | inr le ↦ omega arith
        ]

  -- a name stands in a directory alone
  pub index_directories : (last : ℕ) → IsTree (record { nodes = m; last = last }) → StandInDirectories m index
  index_directories last t dir file = none_pass (λ e. e.0.dir == dir) (map.entries index) (all_map (map.entries index) elsewhere (found slot_total slot_same index)) where
    elsewhere : (e : Slot × ℕ) → map.get index e.0 ≡ Some e.1 → (e.0.dir == dir) ≡ false
    elsewhere e h = elim (e.0.dir == dir) as (λ b. (e.0.dir == dir) ≡ b → b ≡ false) [
      | true ↦ λ is.
          let inside : is_directory m e.0.dir ≡ true = (t.parents e.1 e.0.dir e.0.name (x.real e.1 e.0.dir e.0.name h)).0 in
          let same : e.0.dir ≡ dir = test_same e.0.dir dir is in
          sym (subst (λ d. is_directory m d ≡ true) same inside) ∙ file
      | false ↦ λ is. refl
    ] refl
