-- Names that lead to an inode, and directories in one another.
use Rattle.std.specs.Prelude.{◌≡◌, ℕ, ◌+◌, zero, suc, cond, Option, Some, None, List, [], ◌∷◌, ◌++◌, codes, refl}
use Rattle.std.proofs.Common.{ap, arith, ◌∙◌}
use Rattle.std.specs.FinMap as map
use Rattle.std.specs.Ordering.{eq_by_cmp, nat_cmp}
use Rattle.inotree.specs.Calls.{new_node}
use Rattle.inotree.specs.Tree.{child, follow}
use Rattle.inotree.specs.declared.node.Kind.TheVariants.{Directory}
use Rattle.inotree.specs.declared.node.Node.{Node}
use Rattle.tests_core.specs.Trees.{beside_a_stray, nested, root_alone, two_strays}
use Rattle.tests_core.specs.Verdicts.{owned}
use Rattle.tests_core.proofs.ByNumber.{entries-more, get-found, get-more, none}

-- ---- two names that lead from the root

directory_is : child beside_a_stray.nodes 1 (codes "d") ≡ Some 2
directory_is = simp (get-found, entries-more, none) refl

file_is : child beside_a_stray.nodes 2 (codes "f") ≡ Some 3
file_is = simp (get-found, entries-more, none) refl

pub leads : follow beside_a_stray.nodes (Some 1) (codes "d" ∷ codes "f" ∷ []) ≡ Some 3
leads = ap (λ found. follow beside_a_stray.nodes found (codes "f" ∷ [])) directory_is ∙ ap (λ found. follow beside_a_stray.nodes found []) file_is

directory_stays : child two_strays.nodes 1 (codes "d") ≡ Some 2
directory_stays = simp (get-found, entries-more, none) refl

file_is_gone : child two_strays.nodes 2 (codes "f") ≡ None
file_is_gone = simp (get-found, entries-more, none) refl

pub leads_nowhere : follow two_strays.nodes (Some 1) (codes "d" ∷ codes "f" ∷ []) ≡ None
leads_nowhere = ap (λ found. follow two_strays.nodes found (codes "f" ∷ [])) directory_stays ∙ ap (λ found. follow two_strays.nodes found []) file_is_gone

-- ---- directories in one another

-- the inode that is the next one of this one, and stands in it
abbrev pub inner : ℕ → Node
inner dir = new_node Directory dir (codes "d") (owned 1 1 0o755)

-- what there is by these numbers, where so many stand in one another
unfoldable pub nested_at : ℕ → ℕ → Option Node
nested_at zero q = map.get root_alone.nodes q
nested_at (suc n) q = cond (eq_by_cmp nat_cmp q (suc (suc n))) (Some (inner (suc n))) (nested_at n q)

pub last-nested : (n : ℕ) → (nested n).last ≡ suc n
unfolding nested
last-nested zero = refl
last-nested (suc n) = let before = last-nested n in omega arith

pub get-nested : (n q : ℕ) → map.get (nested n).nodes q ≡ nested_at n q
unfolding nested nested_at
get-nested zero q = refl
get-nested (suc n) q =
    let next : (nested n).last + 1 ≡ suc (suc n) = omega (arith, last-nested n) in
    ap (λ k. map.get (map.insert (nested n).nodes k (inner (suc n))) q) next
    ∙ get-more (nested n).nodes (suc (suc n)) (inner (suc n)) q
    ∙ ap (cond (eq_by_cmp nat_cmp q (suc (suc n))) (Some (inner (suc n)))) (get-nested n q)

-- the rows of so many, each behind the one that it stands in
unfoldable pub rows_behind : ℕ → ℕ → List (ℕ × Node)
rows_behind zero dir = []
rows_behind (suc n) dir = (suc dir, inner dir) ∷ rows_behind n (suc dir)

unfoldable pub rows : List (ℕ × Node)
rows = map.entries root_alone.nodes ++ rows_behind 32 1

pub entries-nested : map.entries (nested 32).nodes ≡ rows
unfolding nested rows rows_behind
entries-nested = simp (entries-more, none) refl
