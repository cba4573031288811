-- Strays that are forgotten: one after another they go as if all at once, and no other inode is read through them.
use Rattle.std.proofs.Common.{◌≡◌, ◌≢◌, ℕ, Bool, true, false, cond, not, ◌||◌, ◌==◌, Option, None, List, [], ◌∷◌, refl, sym, ap, ◌∙◌, Contains, eq-eqb, arith}
use Rattle.std.proofs.lemmas.Bool.{ne_eqb, or_right, true_from_ne_false}
use Rattle.std.proofs.lemmas.List.Folds.{list_any_at}
use Rattle.std.specs.Cmp.{nat_cmp_total, unsigned_tied}
use Rattle.std.specs.List.{fold, list_any}
use Rattle.std.specs.Option.{option_map}
use Rattle.std.specs.Ordering.{nat_cmp}
use Rattle.std.specs.FinMap as map
use Rattle.std.specs.FinSet as set
use Rattle.capbits.proofs.Maps.{remove-here, remove-other, same_or_other}
use Rattle.inotree.proofs.Elsewhere.{path_of-stays}
use Rattle.inotree.specs.Tree.{IsUnder}
use Rattle.inotree.specs.declared.node.Presence.TheVariants.{Here}
use Rattle.capcore.proofs.CommonPieces.{EntryRow, Gone, InoSet, IsAlike, IsListOf, IsTree, Node, Nodes, Scene, is_in_use, is_of_inode, presence}
use Rattle.capcore.proofs.SoundEnd.{all_retained}
use Rattle.capcore.proofs.ManyInodes.{same_number}
use Rattle.capcore.specs.Affected.{forget_among, forget_at, stays}

-- ---- a map of which some keys are retained

module _ {V : Type 0} (m : map.FinMap nat_cmp V) (p : ℕ → Bool) (q : ℕ) where
  pub retained : map.get (map.retain_keys m p) q ≡ cond (p q) (map.get m q) None
  retained = map.get-retain_keys m p q (λ x e. ap p (sym (map.nat_cmp-IsAntisymmetric q x e)))

  pub retained-here : p q ≡ true → map.get (map.retain_keys m p) q ≡ map.get m q
  retained-here is = retained ∙ ap (λ b. cond b (map.get m q) None) is

  pub retained-gone : p q ≡ false → map.get (map.retain_keys m p) q ≡ None
  retained-gone is = retained ∙ ap (λ b. cond b (map.get m q) None) is

-- ---- which inodes stay

-- an inode that somebody has an entry on is in use
pub in_use-held : (s : Scene) (row : EntryRow) → Contains s.table.rows row → is_in_use s row.holder.ino.0 ≡ true
in_use-held s row is = grind (arith, list_any_at)

pub stays-in_use : (at : ℕ → Bool) (s : Scene) (q : ℕ) → is_in_use s q ≡ true → stays at s q ≡ true
stays-in_use at s q is = or_right (not (at q)) (is_in_use s q) is

-- what goes is one of these, and a stray that nobody has an entry on
pub goes : (at : ℕ → Bool) (s : Scene) (q : ℕ) → stays at s q ≡ false
    → (at q ≡ true) × (presence s.tree.nodes q ≡ Gone) × (list_any (is_of_inode (record { 0 = q })) s.table.rows ≡ false)
goes at s q out = grind arith

-- ---- what is read of the others

-- no inode stands in a stray, so that each other has its path still
pub alike-retained : (tree : Nodes) (p : ℕ → Bool) → IsTree tree → ((q : ℕ) → p q ≡ false → presence tree.nodes q ≡ Gone) → (ino : ℕ) → p ino ≡ true
    → IsAlike tree (record tree { nodes = map.retain_keys tree.nodes p }) ino
alike-retained tree p sound strays ino here = record {
  path = path_of-stays tree.nodes (map.retain_keys tree.nodes p) (λ i. p i ≡ true) (λ i is. ap (option_map (λ (n : Node). n.site)) (retained-here tree.nodes p i is)) above ino here;
  attr = ap (option_map (λ (n : Node). n.attr)) (retained-here tree.nodes p ino here);
}
  where
    above : (i d : ℕ) (a : List ℕ) → p i ≡ true → IsUnder tree.nodes i d a → p d ≡ true
    above i d a is under = true_from_ne_false (p d) (λ e.
        let here : presence tree.nodes d ≡ Here = (sound.parents i d a under).1 in
        let gone : presence tree.nodes d ≡ Gone = strays d e in cc)

-- ---- one after another

-- what is left of the one and then of the others
twice_left : {V : Type 0} (p q used later : Bool) (o : Option V) → ((not p || used) ≡ true → later ≡ used)
    → cond (not q || later) (cond (not p || used) o None) None ≡ cond (not (p || q) || used) o None
twice_left p q used later o same = grind arith

module _ (p q : ℕ → Bool) (s : Scene) where
  abbrev one : Scene
  one = forget_among p s

  twice_retained : {V : Type 0} (m : map.FinMap nat_cmp V) → map.retain_keys (map.retain_keys m (stays p s)) (stays q one) ≡ map.retain_keys m (stays (λ n. p n || q n) s)
  twice_retained m = map.same_map nat_cmp_total map.nat_cmp-IsAntisymmetric _ _ (λ n.
      retained (map.retain_keys m (stays p s)) (stays q one) n
      ∙ ap (λ o. cond (stays q one n) o None) (retained m (stays p s) n)
      ∙ twice_left (p n) (q n) (is_in_use s n) (is_in_use one n) (map.get m n) (λ is. grind (arith, retained-here))
      ∙ sym (retained m (stays (λ n. p n || q n) s) n))

  -- strays of some inodes and then of others go, as if of all at once
  pub forget-twice : forget_among q (forget_among p s) ≡ forget_among (λ n. p n || q n) s
  forget-twice = grind (arith, twice_retained)

forget_none : (s : Scene) → forget_among (λ n. false) s ≡ s
forget_none s = grind (arith, all_retained)

-- where all keys but one are retained, that one goes or none
retained_or_removed : {V : Type 0} (m : map.FinMap nat_cmp V) (p : ℕ → Bool) (k : ℕ) → ((q : ℕ) → q ≢ k → p q ≡ true)
    → map.retain_keys m p ≡ cond (p k) m (map.remove m k)
retained_or_removed m p k all = map.same_map nat_cmp_total map.nat_cmp-IsAntisymmetric _ _ (λ q.
    let here = same_or_other nat_cmp_total map.nat_cmp-IsAntisymmetric q k in
    grind (arith, here, retained, remove-here nat_cmp_total map.nat_cmp-IsAntisymmetric m k, remove-other nat_cmp_total map.nat_cmp-IsAntisymmetric m k q))

module _ (k : ℕ) (s : Scene) where
  others_stay : (q : ℕ) → q ≢ k → stays (λ n. n == k) s q ≡ true
  others_stay q off = ap (λ b. not b || is_in_use s q) (ne_eqb q k off)

  one_left : {V : Type 0} (m : map.FinMap nat_cmp V) → map.retain_keys m (stays (λ n. n == k) s) ≡ cond (is_in_use s k) m (map.remove m k)
  one_left m = retained_or_removed m (stays (λ n. n == k) s) k others_stay ∙ ap (λ b. cond (not b || is_in_use s k) m (map.remove m k)) (eq-eqb k k refl)

  -- of one inode alone
  forget-one : forget_among (λ n. n == k) s ≡ forget_at k s
  forget-one = grind (arith, one_left)

-- ---- the inodes of a map

abbrev pub forget_on : Scene → ℕ → Scene
forget_on s k = forget_at k s

fold_forget : (ks : List ℕ) (s : Scene) → fold forget_on s ks ≡ forget_among (λ n. list_any (same_number n) ks) s
fold_forget [] s = sym (forget_none s)
fold_forget (k ∷ ks) s =
    fold_forget ks (forget_at k s)
    ∙ ap (forget_among (λ n. list_any (same_number n) ks)) (sym (forget-one k s))
    ∙ forget-twice (λ n. n == k) (λ n. list_any (same_number n) ks) s
    ∙ (λ i. forget_among (λ n. sym (unsigned_tied n k) i || list_any (same_number n) ks) s)

pub forget-all_of : (inos : InoSet) (numbers : List ℕ) (s : Scene) → IsListOf inos numbers → fold forget_on s numbers ≡ forget_among (set.contains inos) s
forget-all_of inos numbers s lists = fold_forget numbers s ∙ (λ i. forget_among (λ n. sym (lists.among n) i) s)
