-- What the maps of the scenes answer.
use Rattle.std.specs.Prelude.{◌≡◌, ℕ, cond, Some, None, [], ◌∷◌}
use Rattle.std.specs.Cmp.{nat_cmp_total}
use Rattle.std.specs.FinMap.{entries-insert, get-insert}
use Rattle.std.specs.Ordering.{eq_by_cmp, nat_cmp}
use Rattle.std.specs.FinMap as map
use Rattle.std.proofs.Common.{ap, ◌∙◌}
use Rattle.tests_core.proofs.ByNumber.{entries-more, get-more, get-none, none}
use Rattle.tests_core.specs.Scenes.{three_at, two_at}

pub two-first : {X : Type 0} (a b : X) → map.get (two_at a b) 1 ≡ Some a
two-first a b = get-insert nat_cmp_total _ 2 b 1 ∙ get-insert nat_cmp_total _ 1 a 1

pub two-second : {X : Type 0} (a b : X) → map.get (two_at a b) 2 ≡ Some b
two-second a b = get-insert nat_cmp_total _ 2 b 2

pub three-first : {X : Type 0} (a b c : X) → map.get (three_at a b c) 1 ≡ Some a
three-first a b c = get-insert nat_cmp_total _ 3 c 1 ∙ two-first a b

pub three-second : {X : Type 0} (a b c : X) → map.get (three_at a b c) 2 ≡ Some b
three-second a b c = get-insert nat_cmp_total _ 3 c 2 ∙ two-second a b

pub three-third : {X : Type 0} (a b c : X) → map.get (three_at a b c) 3 ≡ Some c
three-third a b c = get-insert nat_cmp_total _ 3 c 3

-- where the third was changed
pub moved-first : {X : Type 0} (a b c d : X) → map.get (map.insert (three_at a b c) 3 d) 1 ≡ Some a
moved-first a b c d = get-insert nat_cmp_total _ 3 d 1 ∙ three-first a b c

pub moved-third : {X : Type 0} (a b c d : X) → map.get (map.insert (three_at a b c) 3 d) 3 ≡ Some d
moved-third a b c d = get-insert nat_cmp_total _ 3 d 3

pub two-entries : {X : Type 0} (a b : X) → map.entries (two_at a b) ≡ (1, a) ∷ (2, b) ∷ []
two-entries {X} a b =
    entries-insert nat_cmp_total _ 2 b ∙ ap (map.put nat_cmp 2 b) (entries-insert nat_cmp_total _ 1 a ∙ ap (map.put nat_cmp 1 a) (none X))

pub three-entries : {X : Type 0} (a b c : X) → map.entries (three_at a b c) ≡ (1, a) ∷ (2, b) ∷ (3, c) ∷ []
three-entries {X} a b c = entries-insert nat_cmp_total _ 3 c ∙ ap (map.put nat_cmp 3 c) (two-entries a b)

-- ---- the maps of the two files

pub three-get : {X : Type 0} (a b c : X) (q : ℕ) → map.get (three_at a b c) q ≡ cond (eq_by_cmp nat_cmp q 3) (Some c) (cond (eq_by_cmp nat_cmp q 2) (Some b) (cond (eq_by_cmp nat_cmp q 1) (Some a) None))
three-get a b c q =
    get-more _ 3 c q ∙ ap (cond (eq_by_cmp nat_cmp q 3) (Some c)) (get-more _ 2 b q ∙ ap (cond (eq_by_cmp nat_cmp q 2) (Some b)) (get-more _ 1 a q ∙ ap (cond (eq_by_cmp nat_cmp q 1) (Some a)) (get-none q)))

pub four-get : {X : Type 0} (a b c d : X) (q : ℕ) → map.get (map.insert (three_at a b c) 4 d) q ≡ cond (eq_by_cmp nat_cmp q 4) (Some d) (cond (eq_by_cmp nat_cmp q 3) (Some c) (cond (eq_by_cmp nat_cmp q 2) (Some b) (cond (eq_by_cmp nat_cmp q 1) (Some a) None)))
four-get a b c d q = get-more _ 4 d q ∙ ap (cond (eq_by_cmp nat_cmp q 4) (Some d)) (three-get a b c q)

pub files-get : {X : Type 0} (a b : X) (q : ℕ) → map.get {K = ℕ} {X = X} {R = nat_cmp} (map.insert (map.insert map.empty 2 a) 3 b) q ≡ cond (eq_by_cmp nat_cmp q 3) (Some b) (cond (eq_by_cmp nat_cmp q 2) (Some a) None)
files-get a b q = get-more _ 3 b q ∙ ap (cond (eq_by_cmp nat_cmp q 3) (Some b)) (get-more _ 2 a q ∙ ap (cond (eq_by_cmp nat_cmp q 2) (Some a)) (get-none q))

pub files-entries : {X : Type 0} (a b : X) → map.entries {K = ℕ} {X = X} {R = nat_cmp} (map.insert (map.insert map.empty 2 a) 3 b) ≡ (2, a) ∷ (3, b) ∷ []
files-entries {X} a b = entries-more _ 3 b ∙ ap (map.put nat_cmp 3 b) (entries-more _ 2 a ∙ ap (map.put nat_cmp 2 a) (none X))
