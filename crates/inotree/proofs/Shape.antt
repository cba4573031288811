-- Each change of the tree keeps what every tree keeps.
use Rattle.std.proofs.Common.{◌≡◌, ℕ, ◌<◌, List, [], ◌∷◌, ◌++◌, Some, None, ◌⊎◌, inl, inr, sym, ap, subst, ◌∙◌}
use Rattle.std.specs.Cmp.{nat_cmp_total}
use Rattle.std.specs.FinMap as map
use Rattle.capbits.specs.declared.ids.Ino.{Ino}
use Rattle.inotree.specs.declared.index.Slot.{Slot}
use Rattle.inotree.specs.declared.node.Site.TheVariants.{Root}
use Rattle.inotree.specs.declared.node.Presence.TheVariants.{Here}
use Rattle.inotree.specs.Inodes.{InodeMap}
use Rattle.inotree.specs.Index.{NameIndex}
use Rattle.inotree.specs.Tree.{AllHaveGoodNames, Climbs, IsIndexed, IsTree, IsUnder, is_directory_kind, kind_of, presence, presence_at, site_of}
use Rattle.capbits.proofs.Maps.{remove-here, remove-other, same_or_other}
use Rattle.inotree.proofs.Slots.{slot_same, slot_total}

pub same_ino : (i k : ℕ) → (i ≡ k) ⊎ (i ≡ k → ⊥)
same_ino = same_or_other nat_cmp_total map.nat_cmp-IsAntisymmetric

abbrev pub slot : ℕ → List ℕ → Slot
slot d name = record { dir = d; name = name }

module _ (m : InodeMap) (i d e : ℕ) (a b : List ℕ) (one : IsUnder m i d a) (two : IsUnder m i e b) where
  pub one_dir : d ≡ e
  one_dir = let r : ◌≡◌ {A = Ino} (record { 0 = d }) (record { 0 = e }) = cc in ap (λ (x : Ino). x.0) r

  pub one_name : a ≡ b
  one_name = cc

-- what stands somewhere has a path
pub under_here : (m : InodeMap) (i d : ℕ) (a : List ℕ) → IsUnder m i d a → presence m i ≡ Here
under_here m i d a u = ap presence_at u

-- The site of one inode changes, and no other.
module _ (m n : InodeMap) (k : ℕ) (other : (i : ℕ) → (i ≡ k → ⊥) → site_of n i ≡ site_of m i) where
  -- a climb that doesn't meet the inode
  pub climb_keep : ((x : ℕ) (a : List ℕ) → IsUnder m x k a → ⊥) → (i : ℕ) (up : List (List ℕ)) (top : ℕ) → (i ≡ k → ⊥) → Climbs m i up top → Climbs n i up top
  climb_keep avoid i [] top off e = e
  climb_keep avoid i (a ∷ up) top off c = (c.0, other i off ∙ c.1, climb_keep avoid c.0 up top (λ same. avoid i a (subst (λ x. IsUnder m i x a) same c.1)) c.2)

  -- a climb either comes to the inode, or goes on as before
  pub climb_split : (i : ℕ) (up : List (List ℕ)) (top : ℕ) → Climbs m i up top → Climbs n i up top ⊎ ((below : List (List ℕ)) × Climbs m i below k × Climbs n i below k)
  climb_split i [] top c = inl c
  climb_split i (a ∷ up) top c = elim (same_ino i k) [
    | inl same ↦ inr ([], same, same)
    | inr off ↦ elim (climb_split c.0 up top c.2) [
      | inl rest ↦ inl (c.0, other i off ∙ c.1, rest)
      | inr found ↦ inr (a ∷ found.0, (c.0, c.1, found.1), (c.0, other i off ∙ c.1, found.2))
    ]
  ]

pub climb_on : (m : InodeMap) (i : ℕ) (up : List (List ℕ)) (k : ℕ) (more : List (List ℕ)) (top : ℕ) → Climbs m i up k → Climbs m k more top → Climbs m i (up ++ more) top
climb_on m i [] k more top a b = subst (λ x. Climbs m x more top) (sym a) b
climb_on m i (x ∷ up) k more top a b = (a.0, a.1, climb_on m a.0 up k more top a.2 b)

-- An inode that stood somewhere, with nothing below it, stands nowhere: as a stray, or not at all.
module _ (m n : InodeMap) (last k : ℕ) (t : IsTree (record { nodes = m; last = last }))
    (other : (i : ℕ) → (i ≡ k → ⊥) → site_of n i ≡ site_of m i)
    (kinds : (i : ℕ) → (i ≡ k → ⊥) → kind_of n i ≡ kind_of m i)
    (fresh : (i : ℕ) → last < i → map.get n i ≡ None)
    (no_site : (d : ℕ) (a : List ℕ) → IsUnder n k d a → ⊥)
    (no_root : site_of n k ≡ Some Root → ⊥)
    (not_here : presence n k ≡ Here → ⊥)
    (was_no_root : site_of m k ≡ Some Root → ⊥)
    (childless : (i : ℕ) (a : List ℕ) → IsUnder m i k a → ⊥) where
  stays : (i d : ℕ) (a : List ℕ) → IsUnder n i d a → (i ≡ k → ⊥) × IsUnder m i d a
  stays i d a u = elim (same_ino i k) [
    | inl same ↦ absurd (no_site d a (subst (λ y. IsUnder n y d a) same u))
    | inr off ↦ (off, sym (other i off) ∙ u)
  ]

  one_off : (1 ≡ k) → ⊥
  one_off e = was_no_root (subst (λ y. site_of m y ≡ Some Root) e t.root)

  pub tree-buried : AllHaveGoodNames n → IsTree (record { nodes = n; last = last })
  tree-buried inner = record {
    root = other 1 one_off ∙ t.root;
    root_kind = ap is_directory_kind (kinds 1 one_off) ∙ t.root_kind;
    one_root = λ i e. elim (same_ino i k) [
      | inl same ↦ absurd (no_root (subst (λ y. site_of n y ≡ Some Root) same e))
      | inr off ↦ t.one_root i (sym (other i off) ∙ e)
    ];
    parents = λ i d a u.
        let was = (stays i d a u).1 in
        let off : d ≡ k → ⊥ = λ same. childless i a (subst (λ y. IsUnder m i y a) same was) in
        (ap is_directory_kind (kinds d off) ∙ (t.parents i d a was).0, ap presence_at (other d off) ∙ (t.parents i d a was).1);
    siblings = λ i j d a u v. t.siblings i j d a (stays i d a u).1 (stays j d a v).1;
    names = λ i d a u. t.names i d a (stays i d a u).1;
    inner_names = inner;
    to_root = λ i h. elim (same_ino i k) [
      | inl same ↦ absurd (not_here (subst (λ y. presence n y ≡ Here) same h))
      | inr off ↦ let r = t.to_root i (sym (ap presence_at (other i off)) ∙ h) in (r.0, r.1, climb_keep m n k other childless i r.0 1 off r.2)
    ];
    given = fresh;
  }

  module _ (index : NameIndex) (x : IsIndexed m index) where
    -- the inode stood nowhere before: the names stay
    pub index-forgotten : ((d : ℕ) (a : List ℕ) → IsUnder m k d a → ⊥) → IsIndexed n index
    index-forgotten nowhere = record {
      taken = λ i d a u. x.taken i d a (stays i d a u).1;
      real = λ i d a g. let u = x.real i d a g in other i (λ same. nowhere d a (subst (λ y. IsUnder m y d a) same u)) ∙ u;
    }

    -- the inode's name is taken out
    pub index-unlinked : (d : ℕ) (a : List ℕ) → IsUnder m k d a → IsIndexed n (map.remove index (slot d a))
    index-unlinked d a was = record {
      taken = λ i e b u.
          let off = (stays i e b u).0 in
          let before = (stays i e b u).1 in
          remove-other slot_total slot_same index (slot d a) (slot e b) (λ same.
          let mine = x.taken k d a was in
          let his : map.get index (slot d a) ≡ Some i = subst (λ s. map.get index s ≡ Some i) same (x.taken i e b before) in
          let both : i ≡ k = cc in off both) ∙ x.taken i e b before;
      real = λ i e b g. elim (same_or_other slot_total slot_same (slot e b) (slot d a)) [
        | inl same ↦ let gone = remove-here slot_total slot_same index (slot d a) in
            let got : map.get (map.remove index (slot d a)) (slot d a) ≡ Some i = subst (λ s. map.get (map.remove index (slot d a)) s ≡ Some i) same g in cc
        | inr off ↦
            let u = x.real i e b (sym (remove-other slot_total slot_same index (slot d a) (slot e b) off) ∙ g) in
            other i (λ same. let mine : IsUnder m k e b = subst (λ y. IsUnder m y e b) same u in
            let dirs : e ≡ d = one_dir m k e d b a mine was in
            let names : b ≡ a = one_name m k e d b a mine was in
            off (λ i. record { dir = dirs i; name = names i })) ∙ u
      ];
    }
