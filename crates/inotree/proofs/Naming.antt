-- The names of a path are names: each has a byte and no slash.
use Rattle.std.proofs.Common.{◌≡◌, ℕ, zero, suc, Bool, true, false, ◌||◌, not, List, [], ◌∷◌, length, reverse, Option, Some, None, refl, ap, arith, All}
use Rattle.std.proofs.Common.{IsTrue}
use mathlib.Core.List.{reverse_aux}
use Rattle.std.specs.Prelude.{nat_lt}
use Rattle.std.proofs.lemmas.Bool.{lt-ltb}
use Rattle.std.proofs.lemmas.List.Elements.{All-cons, All-head, All-nil, All-tail}
use Rattle.capspec.specs.Paths.{is_name}
use Rattle.inotree.specs.declared.node.Site.{Site}
use Rattle.inotree.specs.declared.node.Site.TheVariants.{Root, Stray, Under}
use Rattle.inotree.specs.Names.{has_byte, is_bad_name, is_dots}
use Rattle.inotree.specs.Tree.{IsTree, Nodes, names_up, site_of, upward}
use Rattle.capbits.proofs.Found.{and_true}

abbrev pub IsName : List ℕ → Type 0
IsName name = IsTrue (is_name name)

third_false : (a b c d : Bool) → (a || b || c || d) ≡ false → c ≡ false
third_false true b c d e = cc
third_false false true c d e = cc
third_false false false true d e = cc
third_false false false false d e = refl

-- a name that can be given has a byte and no slash
given_is_name : (name : List ℕ) → is_bad_name name ≡ false → IsName name
given_is_name [] e = cc
given_is_name (a ∷ rest) e = and_true _ _ (lt-ltb 0 (length (a ∷ rest)) (omega arith)) (ap not (third_false (is_dots (a ∷ rest)) (nat_lt 255 (length (a ∷ rest))) (has_byte 47 (a ∷ rest)) (has_byte 0 (a ∷ rest)) e))

all_turned : (names done : List (List ℕ)) → All IsName names → All IsName done → All IsName (reverse_aux names done)
all_turned [] done all so_far = so_far
all_turned (name ∷ names) done all so_far = all_turned names (name ∷ done) (All-tail IsName name names all) (All-cons IsName name done (All-head IsName name names all) so_far)

pub turned_names : (names : List (List ℕ)) → All IsName names → All IsName (reverse names)
turned_names names all = all_turned names [] all (All-nil IsName)

-- the names above an inode, by where it stands
upward_names : (t : Nodes) (tree : IsTree t) (i : ℕ) (above : ℕ → List (List ℕ)) → ((dir : ℕ) → All IsName (above dir)) → (s : Option Site) → site_of t.nodes i ≡ s → All IsName (upward s [] (λ dir name. name ∷ above dir))
upward_names t tree i above all None is = All-nil IsName
upward_names t tree i above all (Some Root) is = All-nil IsName
upward_names t tree i above all (Some Stray) is = All-nil IsName
upward_names t tree i above all (Some (Under dir name)) is = All-cons IsName name (above dir.0) (given_is_name name (tree.names i dir.0 name is)) (all dir.0)

pub names_of_walk : (t : Nodes) (tree : IsTree t) (n i : ℕ) → All IsName (names_up n t.nodes i)
unfolding names_up
names_of_walk t tree zero i = All-nil IsName
names_of_walk t tree (suc n) i = upward_names t tree i (names_up n t.nodes) (names_of_walk t tree n) (site_of t.nodes i) refl
