-- A new inode, an inode that moves, and a change that moves none keep what every tree keeps.
use Rattle.std.proofs.Common.{◌≡◌, ℕ, zero, suc, ◌-◌, ◌<◌, ◌≤◌, Bool, true, false, ◌||◌, ◌&&◌, ◌==◌, List, [], ◌∷◌, length, Some, None, inl, inr, refl, sym}
use Rattle.std.proofs.Common.{ap, subst, ◌∙◌, arith}
use Rattle.std.specs.Cmp.{nat_cmp_total}
use Rattle.std.specs.FinMap as map
use Rattle.inotree.specs.declared.index.Slot.{Slot}
use Rattle.inotree.specs.declared.node.Node.{Node}
use Rattle.inotree.specs.declared.node.Site.TheVariants.{Root, Under}
use Rattle.inotree.specs.declared.node.Presence.TheVariants.{Here}
use Rattle.inotree.specs.Names.{is_bad_name}
use Rattle.inotree.specs.Inodes.{InodeMap}
use Rattle.inotree.specs.Index.{NameIndex}
use Rattle.inotree.specs.Tree.{AllHaveGoodNames, Climbs, IsIndexed, IsTree, IsUnder, depth, descends, is_directory, is_directory_kind, is_in, kind_of}
use Rattle.inotree.specs.Tree.{lies_below, names_up, presence, presence_at, site_of, upward}
use Rattle.capbits.proofs.Found.{and_true, any_found}
use Rattle.capbits.proofs.Maps.{insert-here, insert-other, remove-here, remove-other, same_or_other}
use Rattle.inotree.proofs.Named.{node_of}
use Rattle.inotree.proofs.Shape.{one_dir, one_name, same_ino, slot}
use Rattle.inotree.proofs.Slots.{slot_same, slot_total}
use Rattle.inotree.proofs.Walks.{lies_below-none, lies_below-step, names_up-none, names_up-step, same_test}

-- the names on the way up are those of the path
pub climb-names : (m : InodeMap) (up : List (List ℕ)) (i n : ℕ) → site_of m 1 ≡ Some Root → length up ≤ n → Climbs m i up 1 → names_up n m i ≡ up
climb-names m [] i n root fits c = at_root n where
  site : site_of m i ≡ Some Root
  site = subst (λ k. site_of m k ≡ Some Root) (sym c) root

  at_root : (k : ℕ) → names_up k m i ≡ []
  at_root zero = names_up-none m i
  at_root (suc k) = names_up-step (suc k) m i (omega arith) ∙ ap (λ s. upward s [] (λ dir name. name ∷ names_up (suc k - 1) m dir)) site
climb-names m (a ∷ up) i n root fits c =
    names_up-step n m i (omega arith) ∙ ap (λ s. upward s [] (λ dir name. name ∷ names_up (n - 1) m dir)) c.1
    ∙ ap (λ r. a ∷ r) (climb-names m up c.0 (n - 1) root (omega arith) c.2)

pub depth-climb : (m : InodeMap) (up : List (List ℕ)) (i : ℕ) → site_of m 1 ≡ Some Root → length up ≤ 32 → Climbs m i up 1 → depth m i ≡ length up
unfolding depth
depth-climb m up i root fits c = ap length (climb-names m up i 32 root fits c)

pub off_here : (n : ℕ) (m : InodeMap) (i k : ℕ) → lies_below n m i k ≡ false → i ≡ k → ⊥
off_here zero m i k out same = let t : (i == k) ≡ true = same_test i k same in let f : (i == k) ≡ false = sym (lies_below-none m i k) ∙ out in cc
off_here (suc n) m i k out same =
    let t = same_test i k same in
    let f = sym (lies_below-step (suc n) m i k (omega arith)) ∙ out in
    let g = ap (λ b. b || upward (site_of m i) false (λ dir name. lies_below (suc n - 1) m dir k)) t in cc

pub off_next : (n : ℕ) (m : InodeMap) (i k d : ℕ) (a : List ℕ) → 0 < n → lies_below n m i k ≡ false → IsUnder m i d a → lies_below (n - 1) m d k ≡ false
off_next n m i k d a some out u =
    or_false (i == k) _ (ap (λ s. (i == k) || upward s false (λ dir name. lies_below (n - 1) m dir k)) (sym u) ∙ sym (lies_below-step n m i k some) ∙ out) where
      or_false : (a b : Bool) → (a || b) ≡ false → b ≡ false
      or_false true b e = cc
      or_false false b e = e

-- the last step of a climb
pub last_step : (m : InodeMap) (j : ℕ) (a : List ℕ) (up : List (List ℕ)) (k : ℕ) → Climbs m j (a ∷ up) k → (x : ℕ) × (b : List ℕ) × (front : List (List ℕ)) × IsUnder m x k b × Climbs m j front x × (length front ≡ length up)
last_step m j a [] k c = (j, a, [], subst (λ d. IsUnder m j d a) c.2 c.1, refl, refl)
last_step m j a (b ∷ up) k c =
    let r = last_step m c.0 b up k c.2 in
    (r.0, r.1, a ∷ r.2, r.3, (c.0, c.1, r.4), ap suc r.5)

-- what climbs so far, reaches so far down
pub descend_up : (c : ℕ) (m : InodeMap) (j : ℕ) (below : List (List ℕ)) (k : ℕ) → c ≤ length below → Climbs m j below k → descends c m k ≡ true
unfolding descends
descend_up zero m j below k le climb = refl
descend_up (suc c) m j [] k le climb = absurd (omega arith)
descend_up (suc c) m j (a ∷ below) k le climb =
    let r = last_step m j a below k climb in
    let deeper : descends c m r.0 ≡ true = descend_up c m j r.2 r.0 (omega (arith, r.5)) r.4 in
    let node = node_of m r.0 _ r.3 in
    any_found nat_cmp_total map.nat_cmp-IsAntisymmetric (λ (e : ℕ × Node). is_in k e.1.site && descends c m e.0) m r.0 node.0 node.1
    (and_true _ _ (ap (is_in k) node.2 ∙ same_test k k refl) deeper)

-- An inode gets this name in this directory, where the name is free.
module _ (m n : InodeMap) (last next k d : ℕ) (a : List ℕ) (t : IsTree (record { nodes = m; last = last }))
    (other : (i : ℕ) → (i ≡ k → ⊥) → site_of n i ≡ site_of m i)
    (kinds : (i : ℕ) → (i ≡ k → ⊥) → kind_of n i ≡ kind_of m i)
    (fresh : (i : ℕ) → next < i → map.get n i ≡ None)
    (now : IsUnder n k d a)
    (was_no_root : site_of m k ≡ Some Root → ⊥)
    (dir_kind : is_directory m d ≡ true) (dir_here : presence m d ≡ Here) (dir_off : d ≡ k → ⊥)
    (good : is_bad_name a ≡ false) (free : (j : ℕ) → IsUnder m j d a → ⊥) where
  one_off : (1 ≡ k) → ⊥
  one_off e = was_no_root (subst (λ y. site_of m y ≡ Some Root) e t.root)

  stays : (i e : ℕ) (b : List ℕ) → IsUnder n i e b → (i ≡ k → ⊥) → IsUnder m i e b
  stays i e b u off = sym (other i off) ∙ u

  grown_siblings : (i j e : ℕ) (b : List ℕ) → IsUnder n i e b → IsUnder n j e b → i ≡ j
  grown_siblings i j e b u v = elim (same_ino i k) [
    | inl is ↦ elim (same_ino j k) [
      | inl js ↦ is ∙ sym js
      | inr joff ↦ absurd (taken j e b (subst (λ y. IsUnder n y e b) is u) (stays j e b v joff))
    ]
    | inr ioff ↦ elim (same_ino j k) [
      | inl js ↦ absurd (taken i e b (subst (λ y. IsUnder n y e b) js v) (stays i e b u ioff))
      | inr joff ↦ t.siblings i j e b (stays i e b u ioff) (stays j e b v joff)
    ]
  ] where
    taken : (j e : ℕ) (b : List ℕ) → IsUnder n k e b → IsUnder m j e b → ⊥
    taken j e b mine his =
        let dirs : e ≡ d = one_dir n k e d b a mine now in
        let names : b ≡ a = one_name n k e d b a mine now in
        free j (subst (λ y. IsUnder m j y a) dirs (subst (λ y. IsUnder m j e y) names his))

  module _ (dir_still : (i e : ℕ) (b : List ℕ) → IsUnder m i e b → (is_directory n e ≡ true) × (presence n e ≡ Here))
      (to_root : (i : ℕ) → presence n i ≡ Here → (up : List (List ℕ)) × (length up ≤ 32) × Climbs n i up 1)
      (inner : AllHaveGoodNames n) where
    pub tree-sited : IsTree (record { nodes = n; last = next })
    tree-sited = record {
      root = other 1 one_off ∙ t.root;
      root_kind = ap is_directory_kind (kinds 1 one_off) ∙ t.root_kind;
      one_root = λ i e. elim (same_ino i k) [
        | inl same ↦ let r : site_of n k ≡ Some Root = subst (λ y. site_of n y ≡ Some Root) same e in cc
        | inr off ↦ t.one_root i (sym (other i off) ∙ e)
      ];
      parents = λ i e b u. elim (same_ino i k) [
        | inl same ↦
            let dirs : e ≡ d = one_dir n k e d b a (subst (λ y. IsUnder n y e b) same u) now in
            subst (λ y. (is_directory n y ≡ true) × (presence n y ≡ Here)) (sym dirs) (ap is_directory_kind (kinds d dir_off) ∙ dir_kind, ap presence_at (other d dir_off) ∙ dir_here)
        | inr off ↦ dir_still i e b (stays i e b u off)
      ];
      siblings = grown_siblings;
      names = λ i e b u. elim (same_ino i k) [
        | inl same ↦
            let names : b ≡ a = one_name n k e d b a (subst (λ y. IsUnder n y e b) same u) now in
            ap is_bad_name names ∙ good
        | inr off ↦ t.names i e b (stays i e b u off)
      ];
      inner_names = inner;
      to_root = to_root;
      given = fresh;
    }

  module _ (index : NameIndex) (x : IsIndexed m index) (no_name : map.get index (slot d a) ≡ None) where
    slots_same : (e f : ℕ) (b c : List ℕ) → e ≡ f → b ≡ c → slot e b ≡ slot f c
    slots_same e f b c p q = λ i. record { dir = p i; name = q i }

    mine : (i e : ℕ) (b : List ℕ) → IsUnder n i e b → i ≡ k → slot e b ≡ slot d a
    mine i e b u same =
        let v = subst (λ y. IsUnder n y e b) same u in
        slots_same e d b a (one_dir n k e d b a v now) (one_name n k e d b a v now)

    not_free : (i e : ℕ) (b : List ℕ) → IsUnder m i e b → slot e b ≡ slot d a → ⊥
    not_free i e b u same =
        let got : map.get index (slot d a) ≡ Some i = ap (map.get index) (sym same) ∙ x.taken i e b u in cc

    new_real : (i e : ℕ) (b : List ℕ) → slot e b ≡ slot d a → map.get (map.insert index (slot d a) k) (slot e b) ≡ Some i → IsUnder n i e b
    new_real i e b same g =
        let here = insert-here slot_total slot_same index (slot d a) k in
        let got : map.get (map.insert index (slot d a) k) (slot d a) ≡ Some i = ap (map.get (map.insert index (slot d a) k)) (sym same) ∙ g in
        let is : k ≡ i = cc in
        let dirs : d ≡ e = ap (λ (s : Slot). s.dir) (sym same) in
        let names : a ≡ b = ap (λ (s : Slot). s.name) (sym same) in
        subst (λ y. IsUnder n y e b) is (now ∙ (λ j. Some (Under (record { 0 = dirs j }) (names j))))

    -- the inode had no name before
    pub index-added : ((e : ℕ) (b : List ℕ) → IsUnder m k e b → ⊥) → IsIndexed n (map.insert index (slot d a) k)
    index-added nowhere = record {
      taken = λ i e b u. elim (same_ino i k) [
        | inl same ↦ ap (map.get (map.insert index (slot d a) k)) (mine i e b u same) ∙ insert-here slot_total slot_same index (slot d a) k ∙ ap Some (sym same)
        | inr off ↦ insert-other slot_total slot_same index (slot d a) k (slot e b) (not_free i e b (stays i e b u off)) ∙ x.taken i e b (stays i e b u off)
      ];
      real = λ i e b g. elim (same_or_other slot_total slot_same (slot e b) (slot d a)) [
        | inl same ↦ new_real i e b same g
        | inr off ↦
            let u = x.real i e b (sym (insert-other slot_total slot_same index (slot d a) k (slot e b) off) ∙ g) in
            other i (λ same. nowhere e b (subst (λ y. IsUnder m y e b) same u)) ∙ u
      ];
    }

    -- the inode had another name before, which is taken out
    pub index-moved : (e : ℕ) (b : List ℕ) → IsUnder m k e b → IsIndexed n (map.remove (map.insert index (slot d a) k) (slot e b))
    index-moved d0 a0 old =
        let more = map.insert index (slot d a) k in
        record {
          taken = λ i e b u. elim (same_ino i k) [
            | inl same ↦
                remove-other slot_total slot_same more (slot d0 a0) (slot e b) (λ is. not_free k d0 a0 old (sym is ∙ mine i e b u same))
                ∙ ap (map.get more) (mine i e b u same) ∙ insert-here slot_total slot_same index (slot d a) k ∙ ap Some (sym same)
            | inr off ↦
                let was = stays i e b u off in
                remove-other slot_total slot_same more (slot d0 a0) (slot e b) (λ is.
                let mine : map.get index (slot d0 a0) ≡ Some k = x.taken k d0 a0 old in
                let his : map.get index (slot d0 a0) ≡ Some i = ap (map.get index) (sym is) ∙ x.taken i e b was in
                let both : i ≡ k = cc in off both)
                ∙ insert-other slot_total slot_same index (slot d a) k (slot e b) (not_free i e b was) ∙ x.taken i e b was
          ];
          real = λ i e b g. elim (same_or_other slot_total slot_same (slot e b) (slot d0 a0)) [
            | inl same ↦
                let gone = remove-here slot_total slot_same more (slot d0 a0) in
                let got : map.get (map.remove more (slot d0 a0)) (slot d0 a0) ≡ Some i = ap (map.get (map.remove more (slot d0 a0))) (sym same) ∙ g in cc
            | inr off ↦
                let g2 : map.get more (slot e b) ≡ Some i = sym (remove-other slot_total slot_same more (slot d0 a0) (slot e b) off) ∙ g in
                elim (same_or_other slot_total slot_same (slot e b) (slot d a)) [
                  | inl same ↦ new_real i e b same g2
                  | inr still ↦
                      let u = x.real i e b (sym (insert-other slot_total slot_same index (slot d a) k (slot e b) still) ∙ g2) in
                      other i (λ same.
                      let v : IsUnder m k e b = subst (λ y. IsUnder m y e b) same u in
                      off (slots_same e d0 b a0 (one_dir m k e d0 b a0 v old) (one_name m k e d0 b a0 v old))) ∙ u
                ]
          ];
        }

-- No site and no kind changes.
module _ (m n : InodeMap) (last : ℕ) (t : IsTree (record { nodes = m; last = last }))
    (sites : (i : ℕ) → site_of n i ≡ site_of m i)
    (kinds : (i : ℕ) → kind_of n i ≡ kind_of m i)
    (fresh : (i : ℕ) → last < i → map.get n i ≡ None) where
  still_climbs : (i : ℕ) (up : List (List ℕ)) (top : ℕ) → Climbs m i up top → Climbs n i up top
  still_climbs i [] top c = c
  still_climbs i (a ∷ up) top c = (c.0, sites i ∙ c.1, still_climbs c.0 up top c.2)

  pub tree-same : AllHaveGoodNames n → IsTree (record { nodes = n; last = last })
  tree-same inner = record {
    root = sites 1 ∙ t.root;
    root_kind = ap is_directory_kind (kinds 1) ∙ t.root_kind;
    one_root = λ i e. t.one_root i (sym (sites i) ∙ e);
    parents = λ i d a u.
        let was = t.parents i d a (sym (sites i) ∙ u) in
        (ap is_directory_kind (kinds d) ∙ was.0, ap presence_at (sites d) ∙ was.1);
    siblings = λ i j d a u v. t.siblings i j d a (sym (sites i) ∙ u) (sym (sites j) ∙ v);
    names = λ i d a u. t.names i d a (sym (sites i) ∙ u);
    inner_names = inner;
    to_root = λ i h. let r = t.to_root i (sym (ap presence_at (sites i)) ∙ h) in (r.0, r.1, still_climbs i r.0 1 r.2);
    given = fresh;
  }

  pub index-same : (index : NameIndex) → IsIndexed m index → IsIndexed n index
  index-same index x = record {
    taken = λ i d a u. x.taken i d a (sym (sites i) ∙ u);
    real = λ i d a g. sites i ∙ x.real i d a g;
  }
