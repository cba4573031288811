-- What a walk up the tree says step by step.
use Rattle.std.proofs.Common.{◌≡◌, ℕ, ◌-◌, ◌<◌, suc, zero, Bool, true, false, ◌||◌, ◌==◌, List, [], ◌∷◌, Option, Some, None, refl, sym, ap, arith}
use Rattle.std.proofs.lemmas.Bool.Decides.{nat_tests}
use Rattle.capbits.specs.declared.ids.Ino.{Ino}
use Rattle.inotree.specs.Inodes.{InodeMap}
use Rattle.inotree.specs.declared.node.Site.{Site}
use Rattle.inotree.specs.declared.node.Site.TheVariants.{Root, Stray, Under}
use Rattle.inotree.specs.Tree.{dir_at, is_within, lies_below, names_up, site_of, upward}

pub names_up-none : (nodes : InodeMap) (ino : ℕ) → names_up 0 nodes ino ≡ []
unfolding names_up
names_up-none nodes ino = refl

pub names_up-step : (n : ℕ) (nodes : InodeMap) (ino : ℕ) → 0 < n → names_up n nodes ino ≡ upward (site_of nodes ino) [] (λ dir name. name ∷ names_up (n - 1) nodes dir)
unfolding names_up
names_up-step zero nodes ino h = absurd (omega arith)
names_up-step (suc n) nodes ino h = let e : suc n - 1 ≡ n = omega arith in ap (λ k. upward (site_of nodes ino) [] (λ dir name. name ∷ names_up k nodes dir)) (sym e)

pub lies_below-none : (nodes : InodeMap) (ino above : ℕ) → lies_below 0 nodes ino above ≡ (ino == above)
unfolding lies_below
lies_below-none nodes ino above = refl

pub lies_below-step : (n : ℕ) (nodes : InodeMap) (ino above : ℕ) → 0 < n → lies_below n nodes ino above ≡ ((ino == above) || upward (site_of nodes ino) false (λ dir name. lies_below (n - 1) nodes dir above))
unfolding lies_below
lies_below-step zero nodes ino above h = absurd (omega arith)
lies_below-step (suc n) nodes ino above h = let e : suc n - 1 ≡ n = omega arith in ap (λ k. (ino == above) || upward (site_of nodes ino) false (λ dir name. lies_below k nodes dir above)) (sym e)

pub is_within-is : (nodes : InodeMap) (ino above : ℕ) → is_within nodes ino above ≡ lies_below 32 nodes ino above
unfolding is_within
is_within-is nodes ino above = refl

pub no_dir : {A : Type 0} (s : Option Site) (a : A) (f : ℕ → List ℕ → A) → dir_at s ≡ None → upward s a f ≡ a
no_dir None a f e = refl
no_dir (Some Root) a f e = refl
no_dir (Some Stray) a f e = refl
no_dir (Some (Under dir name)) a f e = cc

-- a step to a directory, of a function that doesn't look at the name
pub to_dir : {A : Type 0} (s : Option Site) (a : A) (f : ℕ → A) (dir : ℕ) → dir_at s ≡ Some dir → upward s a (λ dir name. f dir) ≡ f dir
to_dir None a f d e = cc
to_dir (Some Root) a f d e = cc
to_dir (Some Stray) a f d e = cc
to_dir (Some (Under dir name)) a f d e = let same : dir.0 ≡ d = cc in ap f same

pub or_same : (a b : Bool) → a ≡ false → (a || b) ≡ b
or_same a b e = ap (λ x. x || b) e

pub same_test : (a b : ℕ) → a ≡ b → (a == b) ≡ true
same_test a b e = grind (arith, nat_tests)

pub other_test : (a b : ℕ) → (a ≡ b → ⊥) → (a == b) ≡ false
other_test a b e = grind (arith, nat_tests)

pub not_under : (s : Site) → ((dir : Ino) (name : List ℕ) → s ≡ Under dir name → ⊥) → dir_at (Some s) ≡ None
not_under Root h = refl
not_under Stray h = refl
not_under (Under dir name) h = absurd (h dir name refl)

pub test_same : (a b : ℕ) → (a == b) ≡ true → a ≡ b
test_same a b e = grind (arith, nat_tests)
